-- What a turn may bring, by the charters of the servlet and of the listener (JSR 289 section 9).
use Rattle.std.specs.Prelude.{◌≡◌, ◌≢◌, List, [], Bool, true, false, Option, None, Some}
use Rattle.sc_terms.specs.declared.views.View.{View}
use Rattle.sc_terms.specs.declared.events.Event.{Event}
use Rattle.sc_terms.specs.declared.events.Event.TheVariants as events
use Rattle.sc_terms.specs.declared.charters.Charter.{Charter}
use Rattle.sc_terms.specs.declared.charters.Charter.TheVariants as charters
use Rattle.sc_terms.specs.declared.charters.ListenerCharter.{ListenerCharter}
use Rattle.sc_terms.specs.declared.charters.ListenerCharter.TheVariants as listeners
use Rattle.sc_terms.specs.declared.calls.CallRecord.{CallRecord}
use Rattle.sc_terms.specs.declared.calls.End.{End}
use Rattle.sc_terms.specs.declared.calls.End.TheVariants as ends
use Rattle.sc_hosts.specs.Scripting.{IsAnswered, Script, calls_of_script}
use Rattle.sc_hosts.specs.Charters.{answer_script, forward_script, block_script, fork_script, b2b_script, reverse_script, dial_script, ringer_script, extend_script}
use Rattle.sc_hosts.specs.Offers.{early_script}
use Rattle.sc_hosts.specs.SessionTimers.{timed_script}
use Rattle.sc_hosts.specs.Subscriptions.{notify_script}

-- the script of a servlet of this charter; none where it makes any calls
unfoldable pub servlet_script : Charter → View → Event → Option Script
servlet_script charters.Answer view event = Some (answer_script event)
servlet_script charters.Block view event = Some (block_script view event)
servlet_script charters.Forward view event = Some (forward_script false view event)
servlet_script charters.Fork view event = Some (fork_script view event)
servlet_script charters.Recorder view event = Some (forward_script true view event)
servlet_script charters.B2b view event = Some (b2b_script view event)
servlet_script charters.Dial view event = Some (dial_script view event)
servlet_script charters.Reverse view event = Some (reverse_script view event)
servlet_script charters.Ringer view event = Some (ringer_script view event)
servlet_script charters.Early view event = Some (early_script view event)
servlet_script charters.Timed view event = Some (timed_script view event)
servlet_script charters.Notify view event = Some (notify_script view event)
servlet_script charters.Free view event = None

-- the script of a listener of this charter
unfoldable pub listener_script : ListenerCharter → View → Event → Option Script
listener_script listeners.ExtendOnce view event = Some (extend_script view event)
listener_script listeners.Free view event = None

-- the calls are those of the script, and the turn ends well; without a script any will do
unfoldable pub Plays : View → Option Script → List CallRecord → End → Type 0
Plays view None made end = Unit {0}
Plays view (Some script) made end = (made ≡ calls_of_script view script) × (end ≡ ends.Fine)

-- the listener is told of the application session's own events, the servlet of all others
unfoldable pub is_listened : Event → Bool
is_listened events.Expired = true
is_listened events.Ready = true
is_listened event = false

-- nobody was called
unfoldable pub IsSilent : List CallRecord → End → Type 0
IsSilent made end = (made ≡ []) × (end ≡ ends.Fine)

-- what a servlet, or the listener where there is one, may do at an event
unfoldable pub Called : Charter → Option ListenerCharter → View → Event → Bool → List CallRecord
    → End → Type 0
Called charter listener view event false made end =
    IsAnswered view made × Plays view (servlet_script charter view event) made end
Called charter None view event true made end = IsSilent made end
Called charter (Some listener) view event true made end =
    IsAnswered view made × Plays view (listener_script listener view event) made end

-- what a turn may bring that showed this view and event. A turn that wants memory is never taken
unfoldable pub Allowed : Charter → Option ListenerCharter → View → Option Event → List CallRecord
    → End → Type 0
Allowed charter listener view None made end = IsSilent made end
Allowed charter listener view (Some event) made end =
    (end ≢ ends.Starved) × Called charter listener view event (is_listened event) made end
