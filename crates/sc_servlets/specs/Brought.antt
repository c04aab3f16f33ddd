-- What is brought of a turn, by whom was called at its event. Which of them is called is JSR 289
-- sections 6.1.2 and 9; the lease is this project's own.
use Rattle.std.specs.Prelude.{List, Option, None, Some, if◌then◌else◌}
use Rattle.sc_terms.specs.declared.views.View.{View}
use Rattle.sc_terms.specs.declared.events.Event.{Event}
use Rattle.sc_terms.specs.declared.charters.Charter.{Charter}
use Rattle.sc_terms.specs.declared.charters.ListenerCharter.{ListenerCharter}
use Rattle.sc_terms.specs.declared.calls.CallRecord.{CallRecord}
use Rattle.sc_terms.specs.declared.calls.End.{End}
use Rattle.sc_terms.specs.declared.calls.End.TheVariants as ends
use Rattle.sc_hosts.specs.Scripting.{IsAnswered}
use Rattle.sc_hosts.specs.Bringing.{IsSilent, Plays, is_listened, listener_script, servlet_script}

-- what a servlet of this charter promises of its turn on this view
unfoldable pub Promises : Charter → View → Event → List CallRecord → End → Type 0
Promises charter view event calls end = Plays view (servlet_script charter view event) calls end

-- what a listener of this charter promises
unfoldable pub ListenerPromises : ListenerCharter → View → Event → List CallRecord → End → Type 0
ListenerPromises charter view event calls end =
    Plays view (listener_script charter view event) calls end

-- a turn that wanted memory owes nothing
unfoldable pub Meets : End → Type 0 → Type 0
Meets ends.Fine P = P
Meets ends.Fault P = P
Meets ends.Starved P = Unit {0}

-- each call has its right answer, and the servlet kept its charter
abbrev pub ServletAllowed : Charter → View → Event → List CallRecord → End → Type 0
ServletAllowed charter view event calls end =
    IsAnswered view calls × Promises charter view event calls end

-- each call has its right answer, and the listener kept its charter
abbrev pub ListenerAllowed : ListenerCharter → View → Event → List CallRecord → End → Type 0
ListenerAllowed charter view event calls end =
    IsAnswered view calls × ListenerPromises charter view event calls end

-- by whom was called: a servlet, a listener, or nobody, who makes no call
unfoldable pub CalledAllowed : View → Option Event → Option Charter → Option ListenerCharter
    → List CallRecord → End → Type 0
CalledAllowed view (Some event) (Some charter) None calls end =
    ServletAllowed charter view event calls end
CalledAllowed view (Some event) None (Some charter) calls end =
    ListenerAllowed charter view event calls end
CalledAllowed view (Some event) (Some charter) (Some listener) calls end = ⊥
CalledAllowed view (Some event) None None calls end = IsSilent calls end
CalledAllowed view None None None calls end = IsSilent calls end
CalledAllowed view None (Some charter) listener calls end = ⊥
CalledAllowed view None None (Some charter) calls end = ⊥

-- what is brought of a turn that showed this view and event
unfoldable pub IsBrought : View → Option Event → Option Charter → Option ListenerCharter
    → List CallRecord → End → Type 0
IsBrought view event charter listener calls end =
    Meets end (CalledAllowed view event charter listener calls end)

-- the servlet's charter where it is called at the event: at all but those of the application
-- session itself (JSR 289 section 6.1.2)
unfoldable pub called_servlet : Option Event → Charter → Option Charter
called_servlet None charter = None
called_servlet (Some event) charter = if is_listened event then None else Some charter

-- the listener's charter where it is called at the event
unfoldable pub called_listener : Option Event → Option ListenerCharter → Option ListenerCharter
called_listener None charter = None
called_listener (Some event) charter = if is_listened event then charter else None
