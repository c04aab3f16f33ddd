-- An entry that has had its event.
use Rattle.std.proofs.Common.{◌≡◌, ◌∙◌, Some, None, Result, Ok, Err, refl, ap}
use Rattle.std.specs.Prelude.{OnOk}
use Rattle.std.specs.List.{find}
use Rattle.sc_value.specs.Lists.{change_first}
use Rattle.sc_book.proofs.Uses.{set_found, unset_absent}
use Rattle.sc_model.specs.Timers.{DueEntry}
use Rattle.sc_state.specs.declared.host.Live.{Live}
use Rattle.sc_state.specs.declared.session.Session.{Session}
use Rattle.sc_state.specs.Hosts.{Host}
use Rattle.sc_hosts.specs.Inboxes.{is_live}
use Rattle.sc_hosts.specs.Ticks.{mark_fired}
use Rattle.sc_ticks.specs.Items.{with_fired}

-- what a change leaves is this too
pub then_same : {A E X : Type 0} (r : Result A E) (a b c : X) → b ≡ c → OnOk r (a ≡ b) → OnOk r (a ≡ c)
then_same (Ok x) a b c e h = h ∙ e
then_same (Err x) a b c e h = h

pub marked_none : (key : DueEntry) (host : Host Session) → None ≡ find (is_live key.app.serial) host.sessions → host ≡ mark_fired key host
unfolding mark_fired with_fired
marked_none key host none = ap (λ l. record host { sessions = l }) (unset_absent (λ live. live.serial) key.app.serial (with_fired key.due key.timer) host.sessions none)

pub marked_found : (key : DueEntry) (host : Host Session) (x own : Live Session) → Some x ≡ find (is_live key.app.serial) host.sessions → own ≡ with_fired key.due key.timer x
    → record host { sessions = change_first (is_live own.serial) (λ _. own) host.sessions } ≡ mark_fired key host
unfolding mark_fired with_fired
marked_found key host x own found made =
    ap (λ l. record host { sessions = l }) (set_found (λ live. live.serial) key.app.serial (with_fired key.due key.timer) x own host.sessions (change_first (is_live own.serial) (λ _. own) host.sessions) refl found made refl)
