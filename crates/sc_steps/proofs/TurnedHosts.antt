-- What a turn leaves of its live session.
use Rattle.std.proofs.Common.{◌≡◌, ◌∙◌, ℕ, Some, None, Result, Ok, Err, refl, ap}
use Rattle.std.specs.Prelude.{OnOk}
use Rattle.std.specs.List.{find}
use Rattle.sc_value.specs.Lists.{change_first}
use Rattle.sc_book.proofs.Uses.{set_found, unset_absent}
use Rattle.sc_state.specs.declared.host.Live.{Live}
use Rattle.sc_state.specs.declared.session.Session.{Session}
use Rattle.sc_state.specs.Hosts.{Host}
use Rattle.sc_hosts.specs.Inboxes.{is_live}
use Rattle.sc_steps.specs.TurnParts.{live_after, host_after}

-- what a change leaves is this too
pub then_same : {A E X : Type 0} (r : Result A E) (a b c : X) → b ≡ c → OnOk r (a ≡ b) → OnOk r (a ≡ c)
then_same (Ok x) a b c e h = h ∙ e
then_same (Err x) a b c e h = h

pub after_none : (serial now : ℕ) (session : Session) (host : Host Session) → None ≡ find (is_live serial) host.sessions → host ≡ host_after serial now session host
unfolding host_after
after_none serial now session host none = ap (λ l. record host { sessions = l }) (unset_absent (λ live. live.serial) serial (live_after now session) host.sessions none)

pub after_found : (serial now : ℕ) (session : Session) (host : Host Session) (x own : Live Session) → Some x ≡ find (is_live serial) host.sessions → own ≡ live_after now session x
    → record host { sessions = change_first (is_live own.serial) (λ _. own) host.sessions } ≡ host_after serial now session host
unfolding host_after live_after
after_found serial now session host x own found made =
    ap (λ l. record host { sessions = l }) (set_found (λ live. live.serial) serial (live_after now session) x own host.sessions (change_first (is_live own.serial) (λ _. own) host.sessions) refl found made refl)
