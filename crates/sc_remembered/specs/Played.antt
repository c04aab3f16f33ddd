-- Turns whose calls are those of a script, over the whole life of a session (JSR 289 section 6).
use Rattle.std.specs.Prelude.{◌≡◌, ◌⊎◌, List, [], ◌∷◌, Option, None, Some}
use Rattle.sc_terms.specs.declared.calls.CallRecord.{CallRecord}
use Rattle.sc_terms.specs.declared.events.Event.{Event}
use Rattle.sc_terms.specs.declared.settings.Config.{Config}
use Rattle.sc_terms.specs.declared.views.View.{View}
use Rattle.sc_state.specs.declared.session.Session.{Session}
use Rattle.sc_hosts.specs.Histories.{History, session_after}
use Rattle.sc_hosts.specs.Preparing.{prepared_session}
use Rattle.sc_hosts.specs.Scripting.{Script, calls_of_script}
use Rattle.sc_hosts.specs.Sessions.{Turn}
use Rattle.sc_remembered.specs.Acts.{shown_in}

-- the event that a turn shows, none where nobody is called
abbrev pub event_in : Config → Session → Turn → Option Event
event_in config session turn =
    (prepared_session config turn.ringing session turn.waiting turn.now).event

-- the calls are those of the script of the event that is shown, or none where nobody was called
unfoldable pub PlaysScript : (View → Event → Script) → View → Option Event → List CallRecord
    → Type 0
PlaysScript script view None made = made ≡ []
PlaysScript script view (Some event) made =
    (made ≡ calls_of_script view (script view event)) ⊎ (made ≡ [])

-- it is so in each turn of a history
unfoldable pub ArePlayed : (View → Event → Script) → Config → History → List Turn → Type 0
ArePlayed script config history [] = Unit {0}
ArePlayed script config history (turn ∷ earlier) =
    PlaysScript script (shown_in config (session_after config history earlier) turn)
    (event_in config (session_after config history earlier) turn) turn.calls
    × ArePlayed script config history earlier
