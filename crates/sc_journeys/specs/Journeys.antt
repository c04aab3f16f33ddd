-- How the journey of a later request through the sessions of its way ends (RFC 3261 sections 12.2.2
-- and 16.12).
use Rattle.std.specs.Prelude.{◌≡◌, ◌⊎◌, ◌+◌, List, [], ◌∷◌, true, false, None, Some, drop}
use Rattle.std.specs.List.{find}
use Rattle.sc_value.specs.declared.ids.AppId.{AppId}
use Rattle.sc_parts.specs.declared.setup.Setup.{Setup}
use Rattle.sc_state.specs.declared.host.Live.{Live}
use Rattle.sc_state.specs.declared.net.Net.{Net}
use Rattle.sc_state.specs.declared.session.Session.{Session}
use Rattle.sc_hosts.specs.Inboxes.{is_full}
use Rattle.sc_hosts.specs.Steps.{live_at}
use Rattle.sc_paths.specs.LaterRequests.{Occurrence, SetOut, has_vias, is_passed_on, is_turn_of, set_out, visits}
use Rattle.sc_paths.specs.Moments.{Got, Moment, got_in}
use Rattle.sc_paths.specs.Pieces.{Direction, Piece, ahead}
use Rattle.sc_onward.specs.Onward.{TurnsTo}
use Rattle.sc_halted.specs.Halted.{IsHalted}

-- it stops in the session where it waits, or in one behind it: its turn doesn't come; or in its
-- turn there is one of the named stops, with its answer, before the session to which it is to go;
-- or it is passed on there, and stops further on
unfoldable pub Halts : Setup → Got → List Moment → Type 0
Halts setup got [] = Unit {0}
Halts setup got (moment ∷ later) =
    ((is_turn_of got moment.step ≡ false) × Halts setup got later)
    ⊎ (((to : AppId) × (turn : TurnsTo setup moment got to) × IsHalted setup moment got to turn)
    ⊎ ((next : Got) × (is_turn_of got moment.step ≡ true)
    × (find (is_passed_on got) (got_in moment) ≡ Some next) × Halts setup next later))

-- the session doesn't live, or as many events wait for it as may
unfoldable pub TakesNone : AppId → Net Session → Type 0
TakesNone app net =
    (live_at app net ≡ None)
    ⊎ ((live : Live Session) × (live_at app net ≡ Some live) × (is_full live ≡ true))

-- it visits all that are ahead of it; or the first of them takes none, before the step by which it
-- set out or after it; or it came to the first, and stops in one of them
pub data Ends (setup : Setup) (run : List Moment) (direction : Direction) (piece : Piece)
    (occurrence : Occurrence) : Type 0 where
  Whole : visits setup run occurrence ≡ ahead run direction piece
      → Ends setup run direction piece occurrence
  Kept_out : (out : SetOut) (app : AppId) (more : List AppId)
      → set_out setup run occurrence ≡ Some out → ahead run direction piece ≡ app ∷ more
      → TakesNone app out.moment.before ⊎ TakesNone app out.moment.after
      → Ends setup run direction piece occurrence
  Halted : (out : SetOut) (got : Got) → set_out setup run occurrence ≡ Some out
      → find (has_vias 0 out.request.head.via) (got_in out.moment) ≡ Some got
      → Halts setup got (drop (occurrence.step + 1) run)
      → Ends setup run direction piece occurrence
