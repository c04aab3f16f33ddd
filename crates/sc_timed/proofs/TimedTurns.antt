-- Each turn of an application that keeps session timers plays one act, or leaves the attributes.
use Rattle.std.proofs.Common.{◌≡◌, ◌⊎◌, inl, inr, Bool, true, false, Option, None, Some, refl}
use Rattle.std.specs.Prelude.{cond}
use Rattle.sc_tokens.specs.Names.{same_bytes}
use Rattle.sc_terms.specs.declared.events.Event.{Event}
use Rattle.sc_terms.specs.declared.events.Event.TheVariants as events
use Rattle.sc_terms.specs.declared.views.View.{View}
use Rattle.sc_model.specs.Dialogs.{update}
use Rattle.sc_model.specs.SessionStates.{bye, invite}
use Rattle.sc_hosts.specs.Effects.{first_play as begun}
use Rattle.sc_hosts.specs.Scripting.{Script}
use Rattle.sc_hosts.specs.SessionTimers.{is_granting, timed_script}
use Rattle.sc_hosts.specs.Words.{ok}
use Rattle.sc_promised.specs.Reliable.{play_after}
use Rattle.sc_remembered.proofs.EarlyTurns.{done-leaves, ok-leaves, replied-leaves}
use Rattle.sc_timed.specs.TimedActs.{Comes, Grants, HangsUp, IsOneAct, Refreshes, TimedAct, act_of, calls_of, timer_of}

-- by a test: one act, or none
abbrev Plays : View → Option TimedAct → Script → Type 0
Plays view found script = ((play_after (begun view) script).view.attributes ≡ view.attributes) ⊎ ((act : TimedAct) × (found ≡ Some act) × (script ≡ calls_of view act))

if-plays : (view : View) (b : Bool) (act : TimedAct) (other : Option TimedAct) (y z : Script) → y ≡ calls_of view act → Plays view other z → Plays view (cond b (Some act) other) (cond b y z)
if-plays view true act other y z is more = inr (act, refl, is)
if-plays view false act other y z is more = more

pub timed-acts : (view : View) (event : Event) → IsOneAct view event (timed_script view event)
unfolding timed_script IsOneAct act_of calls_of timer_of
timed-acts view (events.Initial req sess region subscriber popped request) = if-plays view (same_bytes request.method invite) (Grants req sess request) None _ _ refl (inl (replied-leaves view req 200 ok))
timed-acts view (events.Request req sess request) =
    if-plays view (is_granting request) (Grants req sess request) _ _ _ refl (if-plays view (same_bytes request.method bye) (HangsUp req sess) None _ _ refl (inl (ok-leaves view req request)))
timed-acts view (events.Response req sess response) = if-plays view (same_bytes response.head.cseq.method update) (Refreshes sess response.code) None _ _ refl (inl (done-leaves view))
timed-acts view (events.Branch req sess response) = inl (done-leaves view)
timed-acts view (events.Cancelled req sess) = inl (done-leaves view)
timed-acts view (events.Timer id info) = inr (Comes id, refl, refl)
timed-acts view events.Expired = inl (done-leaves view)
timed-acts view events.Ready = inl (done-leaves view)
