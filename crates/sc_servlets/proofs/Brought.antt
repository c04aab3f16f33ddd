-- What is brought of a turn meets the charter of whom was called.
use Rattle.std.proofs.Common.{◌≡◌, List, [], Bool, true, false, Option, Some, None, refl, if◌then◌else◌}
use Rattle.sc_terms.specs.declared.views.View.{View}
use Rattle.sc_terms.specs.declared.events.Event.{Event}
use Rattle.sc_terms.specs.declared.charters.Charter.{Charter}
use Rattle.sc_terms.specs.declared.charters.ListenerCharter.{ListenerCharter}
use Rattle.sc_terms.specs.declared.calls.CallRecord.{CallRecord}
use Rattle.sc_terms.specs.declared.calls.End.{End}
use Rattle.sc_terms.specs.declared.calls.End.TheVariants as ends
use Rattle.sc_hosts.specs.Scripting.{IsAnswered}
use Rattle.sc_hosts.specs.Bringing.{IsSilent, is_listened, Called, Allowed}
use Rattle.sc_servlets.specs.Brought.{Meets, Promises, ListenerPromises, ServletAllowed, ListenerAllowed, CalledAllowed, IsBrought, called_servlet, called_listener}
use Rattle.sc_turn.specs.Working.{end_of}

-- a turn that lists right answers and keeps its promise, with the end that the turn has
allowed_at : (Answered : Type 0) (Promised : End → Type 0) (starved : Bool) (end : End) → Answered → Meets end (Promised end) → Meets (end_of starved end) (Answered × Promised (end_of starved end))
unfolding Meets end_of
allowed_at Answered Promised true end answered kept = tt
allowed_at Answered Promised false ends.Fine answered kept = (answered, kept)
allowed_at Answered Promised false ends.Fault answered kept = (answered, kept)
allowed_at Answered Promised false ends.Starved answered kept = tt

-- of a servlet's turn: the turn was begun with this view, and keeps what it showed
pub servlet_allowed : (charter : Charter) (view begun left : View) (event : Event) (made calls : List CallRecord) (starved : Bool) (end last : End) → begun ≡ view → left ≡ begun → calls ≡ made → IsAnswered left made → Meets end (Promises charter begun event made end) → last ≡ end_of starved end → Meets last (ServletAllowed charter view event calls last)
servlet_allowed charter view begun left event made calls starved end last begun_is left_is calls_are answered kept is =
    rw (is, calls_are, ← begun_is) (allowed_at (IsAnswered begun made) (λ e. Promises charter begun event made e) starved end (rw left_is at answered) kept)

-- of a listener's turn
pub listener_allowed : (charter : ListenerCharter) (view begun left : View) (event : Event) (made calls : List CallRecord) (starved : Bool) (end last : End) → begun ≡ view → left ≡ begun → calls ≡ made → IsAnswered left made → Meets end (ListenerPromises charter begun event made end) → last ≡ end_of starved end → Meets last (ListenerAllowed charter view event calls last)
listener_allowed charter view begun left event made calls starved end last begun_is left_is calls_are answered kept is =
    rw (is, calls_are, ← begun_is) (allowed_at (IsAnswered begun made) (λ e. ListenerPromises charter begun event made e) starved end (rw left_is at answered) kept)

-- where nobody is called: without an event, and at one
pub nobody_brought : (view : View) (event : Option Event) (servlet : Option Charter) (listener : Option ListenerCharter) (calls : List CallRecord) (end : End) → event ≡ None → servlet ≡ None → listener ≡ None → calls ≡ [] → end ≡ ends.Fine → IsBrought view event servlet listener calls end
unfolding IsBrought CalledAllowed Meets IsSilent
nobody_brought view event servlet listener calls end event_is servlet_is listener_is calls_are end_is = rw (event_is, servlet_is, listener_is, calls_are, end_is) (refl, refl)

pub nobody_heard : (view : View) (event : Event) (listener : Option ListenerCharter) (calls : List CallRecord) (end : End) → listener ≡ None → calls ≡ [] → end ≡ ends.Fine → IsBrought view (Some event) None listener calls end
unfolding IsBrought CalledAllowed Meets IsSilent
nobody_heard view event listener calls end listener_is calls_are end_is = rw (listener_is, calls_are, end_is) (refl, refl)

-- ## What is taken

-- the end is not want of memory
met : (end : End) (P : Type 0) → Meets end P → (end ≡ ends.Starved → ⊥) → P
unfolding Meets
met ends.Fine P kept fed = kept
met ends.Fault P kept fed = kept
met ends.Starved P kept fed = absurd (fed refl)

called_by : (charter : Charter) (listener : Option ListenerCharter) (view : View) (event : Event) (b : Bool) (made : List CallRecord) (end : End)
    → CalledAllowed view (Some event) (if b then None else Some charter) (if b then listener else None) made end → Called charter listener view event b made end
unfolding CalledAllowed Called Promises ListenerPromises
called_by charter listener view event false made end allowed = allowed
called_by charter None view event true made end allowed = allowed
called_by charter (Some listener) view event true made end allowed = allowed

-- what those bring whom the event calls is allowed
pub brought_allowed : (charter : Charter) (listener : Option ListenerCharter) (view : View) (event : Option Event) (made : List CallRecord) (end : End)
    → IsBrought view event (called_servlet event charter) (called_listener event listener) made end → (end ≡ ends.Starved → ⊥) → Allowed charter listener view event made end
unfolding IsBrought Allowed called_servlet called_listener CalledAllowed
brought_allowed charter listener view None made end brought fed = met end _ brought fed
brought_allowed charter listener view (Some event) made end brought fed = (fed, called_by charter listener view event (is_listened event) made end (met end _ brought fed))

-- by the servlet, or by the listener, that has this charter
pub by_servlet : (view : View) (event : Event) (charter stated : Charter) (made : List CallRecord) (end : End) → charter ≡ stated → Meets end (ServletAllowed stated view event made end) → IsBrought view (Some event) (Some charter) None made end
unfolding IsBrought CalledAllowed
by_servlet view event charter stated made end is allowed = rw is allowed

pub by_listener : (view : View) (event : Event) (charter stated : ListenerCharter) (made : List CallRecord) (end : End) → charter ≡ stated → Meets end (ListenerAllowed stated view event made end) → IsBrought view (Some event) None (Some charter) made end
unfolding IsBrought CalledAllowed
by_listener view event charter stated made end is allowed = rw is allowed
