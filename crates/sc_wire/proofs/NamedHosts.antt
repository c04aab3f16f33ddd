-- The first host with a session that a URI names, host by host.
use Rattle.std.proofs.Common.{◌≡◌, ℕ, ◌+◌, ◌<◌, ◌≤◌, Bool, true, false, None, Some, List, ◌∷◌, length, drop, get_or, refl, if◌then◌else◌}
use Rattle.std.proofs.lemmas.List.{drop_more}
use Rattle.std.proofs.Math.ListN.{drop_of_length-le}
use Rattle.sc_value.specs.declared.parts.Uri.{Uri}
use Rattle.sc_state.specs.Hosts.{Host}
use Rattle.sc_state.specs.declared.session.Session.{Session}
use Rattle.sc_hosts.specs.Nets.{has_named, named_from}

step : (epoch : ℕ) (uri : Uri) (number : ℕ) (host : Host Session) (hosts : List (Host Session)) (b : Bool) → has_named epoch uri number host ≡ b
    → named_from epoch uri number (host ∷ hosts) ≡ (if b then Some number else named_from epoch uri (number + 1) hosts)
unfolding named_from
step epoch uri number host hosts b e = rw e refl

at : (epoch : ℕ) (uri : Uri) (number : ℕ) (hosts : List (Host Session)) (i : ℕ) (d : Host Session) (b : Bool) → i < length hosts → has_named epoch uri number (get_or hosts i d) ≡ b
    → named_from epoch uri number (drop i hosts) ≡ (if b then Some number else named_from epoch uri (number + 1) (drop (i + 1) hosts))
at epoch uri number hosts i d b below e = rw (drop_more hosts i d below) (step epoch uri number (get_or hosts i d) (drop (i + 1) hosts) b e)

pub named_here : (epoch : ℕ) (uri : Uri) (number : ℕ) (hosts : List (Host Session)) (i : ℕ) (d : Host Session) → i < length hosts → has_named epoch uri number (get_or hosts i d) ≡ true
    → named_from epoch uri number (drop i hosts) ≡ Some number
named_here epoch uri number hosts i d below e = at epoch uri number hosts i d true below e

pub named_later : (epoch : ℕ) (uri : Uri) (number : ℕ) (hosts : List (Host Session)) (i : ℕ) (d : Host Session) → i < length hosts → has_named epoch uri number (get_or hosts i d) ≡ false
    → named_from epoch uri number (drop i hosts) ≡ named_from epoch uri (number + 1) (drop (i + 1) hosts)
named_later epoch uri number hosts i d below e = at epoch uri number hosts i d false below e

pub named_nowhere : (epoch : ℕ) (uri : Uri) (number : ℕ) (hosts : List (Host Session)) (i : ℕ) → length hosts ≤ i → named_from epoch uri number (drop i hosts) ≡ None
unfolding named_from
named_nowhere epoch uri number hosts i past = rw (drop_of_length-le hosts past) refl
