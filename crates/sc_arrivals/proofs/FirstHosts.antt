-- The first host of which a test holds, host by host.
use Rattle.std.proofs.Common.{◌≡◌, ℕ, ◌+◌, ◌<◌, ◌≤◌, Bool, true, false, None, Some, List, ◌∷◌, length, drop, get_or, refl, if◌then◌else◌}
use Rattle.std.proofs.lemmas.List.{drop_more}
use Rattle.std.proofs.Math.ListN.{drop_of_length-le}
use Rattle.sc_value.specs.declared.ids.Place.{Place}
use Rattle.sc_value.specs.declared.message.Request.{Request}
use Rattle.sc_value.specs.declared.message.Response.{Response}
use Rattle.sc_state.specs.Hosts.{Host}
use Rattle.sc_state.specs.declared.session.Session.{Session}
use Rattle.sc_tokens.specs.Bytes.{Bytes}
use Rattle.sc_hosts.specs.Arrivals.{first_host}
use Rattle.sc_arrivals.specs.HostTests.{claims, awaits}

step : (test : Host Session → Bool) (number : ℕ) (host : Host Session) (hosts : List (Host Session)) (b : Bool) → test host ≡ b
    → first_host test number (host ∷ hosts) ≡ (if b then Some number else first_host test (number + 1) hosts)
unfolding first_host
step test number host hosts b e = rw e refl

at : (test : Host Session → Bool) (number : ℕ) (hosts : List (Host Session)) (i : ℕ) (d : Host Session) (b : Bool) → i < length hosts → test (get_or hosts i d) ≡ b
    → first_host test number (drop i hosts) ≡ (if b then Some number else first_host test (number + 1) (drop (i + 1) hosts))
at test number hosts i d b below e = rw (drop_more hosts i d below) (step test number (get_or hosts i d) (drop (i + 1) hosts) b e)

pub claimed_here : (from : Place) (request : Request) (number : ℕ) (hosts : List (Host Session)) (i : ℕ) (d : Host Session) → i < length hosts → claims from request (get_or hosts i d) ≡ true
    → first_host (claims from request) number (drop i hosts) ≡ Some number
claimed_here from request number hosts i d below e = at (claims from request) number hosts i d true below e

pub claimed_later : (from : Place) (request : Request) (number : ℕ) (hosts : List (Host Session)) (i : ℕ) (d : Host Session) → i < length hosts → claims from request (get_or hosts i d) ≡ false
    → first_host (claims from request) number (drop i hosts) ≡ first_host (claims from request) (number + 1) (drop (i + 1) hosts)
claimed_later from request number hosts i d below e = at (claims from request) number hosts i d false below e

pub awaited_here : (salt : Bytes) (epoch : ℕ) (from : Place) (response : Response) (number : ℕ) (hosts : List (Host Session)) (i : ℕ) (d : Host Session) → i < length hosts → awaits salt epoch from response (get_or hosts i d) ≡ true
    → first_host (awaits salt epoch from response) number (drop i hosts) ≡ Some number
awaited_here salt epoch from response number hosts i d below e = at (awaits salt epoch from response) number hosts i d true below e

pub awaited_later : (salt : Bytes) (epoch : ℕ) (from : Place) (response : Response) (number : ℕ) (hosts : List (Host Session)) (i : ℕ) (d : Host Session) → i < length hosts → awaits salt epoch from response (get_or hosts i d) ≡ false
    → first_host (awaits salt epoch from response) number (drop i hosts) ≡ first_host (awaits salt epoch from response) (number + 1) (drop (i + 1) hosts)
awaited_later salt epoch from response number hosts i d below e = at (awaits salt epoch from response) number hosts i d false below e

pub found_nowhere : (test : Host Session → Bool) (number : ℕ) (hosts : List (Host Session)) (i : ℕ) → length hosts ≤ i → first_host test number (drop i hosts) ≡ None
unfolding first_host
found_nowhere test number hosts i past = rw (drop_of_length-le hosts past) refl
