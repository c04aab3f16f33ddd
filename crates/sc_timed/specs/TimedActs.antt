-- What an application that keeps session timers does at an event, as acts, each of one SipSession
-- (RFC 4028).
use Rattle.std.specs.Prelude.{◌≡◌, ◌⊎◌, ℕ, List, [], ◌∷◌, Option, None, Some, if◌then◌else◌, option_and_then, option_map, slice_get}
use Rattle.std.specs.List.{filter_map}
use Rattle.sc_tokens.specs.Names.{same_bytes}
use Rattle.sc_value.specs.declared.ids.ReqId.{ReqId}
use Rattle.sc_value.specs.declared.ids.SessId.{SessId}
use Rattle.sc_value.specs.declared.ids.TimerId.{TimerId}
use Rattle.sc_value.specs.declared.message.Request.{Request}
use Rattle.sc_tokens.specs.Bytes.{Bytes}
use Rattle.sc_terms.specs.declared.events.Event.{Event}
use Rattle.sc_terms.specs.declared.events.Event.TheVariants as events
use Rattle.sc_terms.specs.declared.views.View.{View}
use Rattle.sc_state.specs.declared.working.Play.{Play}
use Rattle.sc_model.specs.Dialogs.{update}
use Rattle.sc_model.specs.SessionStates.{bye, invite}
use Rattle.sc_hosts.specs.Effects.{first_play}
use Rattle.sc_hosts.specs.Scripting.{Done, Script, attribute, reply, then_make, where_some}
use Rattle.sc_hosts.specs.SessionTimers.{Named, grant, is_granting, named_timed, refresh_by, script_after_refresh, stop_then, timed_name, timed_of}
use Rattle.sc_hosts.specs.Words.{ok}
use Rattle.sc_promised.specs.Reliable.{play_after}

-- ## Acts

-- an INVITE or UPDATE is answered, with the session timer that it gets; a BYE is answered, and the
-- session timer ends; a refresh was answered; a servlet timer has come
pub data TimedAct : Type 0 where
  Grants : ReqId → SessId → Request → TimedAct
  HangsUp : ReqId → SessId → TimedAct
  Refreshes : SessId → ℕ → TimedAct
  Comes : TimerId → TimedAct

-- the session timer that runs as this servlet timer
unfoldable pub timer_of : View → TimerId → Option Named
timer_of view id = slice_get (filter_map (named_timed id) view.attributes) 0

-- the calls of an act
unfoldable pub calls_of : View → TimedAct → Script
calls_of view (Grants req sess request) = grant view req sess request
calls_of view (HangsUp req sess) = then_make (reply req 200 ok) (stop_then sess view Done)
calls_of view (Refreshes sess code) =
    where_some (option_and_then timed_of (attribute (timed_name sess) view))
    (script_after_refresh view sess code)
calls_of view (Comes id) = where_some (timer_of view id) refresh_by

-- the SipSession that the act is of; a servlet timer that is none of a session timer is of no
-- SipSession
unfoldable pub side_of : View → TimedAct → Option SessId
side_of view (Grants req sess request) = Some sess
side_of view (HangsUp req sess) = Some sess
side_of view (Refreshes sess code) = Some sess
side_of view (Comes id) = option_map (λ (named : Named). named.sess) (timer_of view id)

-- the act that an event makes of such an application
unfoldable pub act_of : View → Event → Option TimedAct
act_of view (events.Initial req sess region subscriber popped request) =
    if same_bytes request.method invite then Some (Grants req sess request) else None
act_of view (events.Request req sess request) =
    if is_granting request then Some (Grants req sess request)
    else (if same_bytes request.method bye then Some (HangsUp req sess) else None)
act_of view (events.Response req sess response) =
    if same_bytes response.head.cseq.method update then Some (Refreshes sess response.code)
    else None
act_of view (events.Timer id info) = Some (Comes id)
act_of view event = None

-- the script is that of the act that the event makes, or it leaves the attributes of a turn on this
-- view
unfoldable pub IsOneAct : View → Event → Script → Type 0
IsOneAct view event script =
    ((play_after (first_play view) script).view.attributes ≡ view.attributes)
    ⊎ ((act : TimedAct) × (act_of view event ≡ Some act) × (script ≡ calls_of view act))

-- ## Chains of acts

-- what is remembered of the session timer of the SipSession of this number: the text of its
-- attribute, none where none stands
abbrev pub timer_at : View → ℕ → Option Bytes
timer_at view n = attribute (timed_name (record { 0 = n })) view

-- an act, with what the turn was where it began
pub record TimedHappened : Type 0 where
  pub play : Play
  pub act : TimedAct

-- what the turn was after the act
abbrev pub after : TimedHappened → Play
after happened = play_after happened.play (calls_of happened.play.view happened.act)

-- acts of the SipSession of this number, of which each begins with what the one before left:
-- nothing else writes
unfoldable pub IsChain : ℕ → Option Bytes → List TimedHappened → Type 0
IsChain n text [] = Unit {0}
IsChain n text (h ∷ acts) =
    (side_of h.play.view h.act ≡ Some (record { 0 = n })) × (timer_at h.play.view n ≡ text)
    × IsChain n (timer_at (after h).view n) acts
