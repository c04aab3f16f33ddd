-- What a session timer that was begun leaves (RFC 4028 sections 7.2 and 10).
use Rattle.std.specs.Prelude.{◌≡◌, ℕ, ◌+◌, List, ◌++◌, [], ◌∷◌, Bool, false, Some}
use Rattle.sc_value.specs.declared.ids.SessId.{SessId}
use Rattle.sc_terms.specs.declared.views.Period.TheVariants.{Once}
use Rattle.sc_terms.specs.declared.views.TimerView.{TimerView}
use Rattle.sc_terms.specs.declared.views.View.{View}
use Rattle.sc_state.specs.declared.working.Play.{Play}
use Rattle.sc_hosts.specs.Effects.{after_listed, answer_of}
use Rattle.sc_hosts.specs.Scripting.{Done, Make, Script, attribute, is_refused}
use Rattle.sc_hosts.specs.SessionTimers.{deadline, timed_name, timed_text}

-- no call of the script is refused
unfoldable pub IsAccepted : Play → Script → Type 0
IsAccepted play Done = Unit {0}
IsAccepted play (Make call next) =
    (is_refused (answer_of play call) ≡ false)
    × IsAccepted (after_listed play call) (next (answer_of play call))

-- a timer that fires once is due at the deadline, and the attribute of the SipSession names it
pub record IsBegun (now : ℕ) (sess : SessId) (n : ℕ) (me : Bool) (view : View) : Type 0 where
  pub timer : TimerView
  pub earlier : List TimerView
  pub last : view.timers ≡ earlier ++ timer ∷ []
  pub due : timer.due ≡ now + deadline n me
  pub once : timer.period ≡ Once
  pub named : attribute (timed_name sess) view ≡ Some (timed_text n me timer.id.0)
