-- What an edge over sockets keeps of its connections, and what becomes of that (RFC 3261 section
-- 18).
use Rattle.std.specs.Prelude.{ℕ, Bool, true, false, not, ◌&&◌, ◌||◌, nat_lt, nat_le, max, ◌+◌, Option, Some, None, List, [], ◌∷◌, ◌++◌, filter, if◌then◌else◌}
use Rattle.std.specs.List.{find}
use Rattle.sc_value.specs.declared.ids.Place.{Place}
use Rattle.sc_value.specs.declared.ids.Place.TheVariants.{Back, To}
use Rattle.sc_value.specs.Lists.{change_first}
use Rattle.sc_value.specs.Places.{same_place}
use Rattle.sc_edge.specs.Edges.{EdgeState, is_back}
use Rattle.sc_edge.specs.Faults.{one_more}
use Rattle.sc_sockets.specs.declared.line.Change.{Change}
use Rattle.sc_sockets.specs.declared.line.Change.TheVariants.{Halted, Part, Pardoned, Reopened}
use Rattle.sc_sockets.specs.declared.line.Line.{Line}
use Rattle.sc_sockets.specs.declared.line.Standing.{Standing}
use Rattle.sc_sockets.specs.declared.line.Standing.TheVariants.{Unborn, Gone, Closed, Open}

-- ## One connection

-- a connection as it is made
abbrev pub fresh : Place → Line
fresh place = record { place = place; is_read = true; is_cut = false; is_barred = false }

-- after a change: it ended or was closed, it failed, it was connected anew, it took so many bytes
-- of a piece of this length
abbrev pub after : Change → Line → Line
after Halted line = record line { is_read = false; is_barred = line.is_barred || line.is_cut }
after Pardoned line = record line { is_read = false; is_barred = false }
after Reopened line = record line { is_read = true; is_barred = false }
after (Part count len) line =
    record line { is_cut = if nat_lt 0 count then nat_lt count len else line.is_cut }

-- an address, or a number that was given to a connection
abbrev pub is_given : ℕ → Place → Bool
is_given last (Back number) = nat_le number last
is_given last (To ip port) = true

-- what a put meets at a connection
abbrev pub standing_in : Place → Line → Standing
standing_in place line =
    if line.is_barred then Gone else (if line.is_read || is_back place then Open else Closed)

-- what a put meets at a given place
abbrev pub standing_of : Place → Option Line → Standing
standing_of (Back number) None = Gone
standing_of (To ip port) None = Closed
standing_of place (Some line) = standing_in place line

-- nothing comes from the place
abbrev pub is_silent_at : Option Line → Bool
is_silent_at None = true
is_silent_at (Some line) = not line.is_read

-- the next put to the place fails
abbrev pub is_barred_at : Place → Option Line → Bool
is_barred_at place None = is_back place
is_barred_at place (Some line) = line.is_barred

-- the last put to the place that took bytes took only a part of its piece
abbrev pub is_cut_at : Option Line → Bool
is_cut_at None = false
is_cut_at (Some line) = line.is_cut

-- what comes from the place is read
abbrev pub is_read_at : Option Line → Bool
is_read_at None = false
is_read_at (Some line) = line.is_read

-- ## All of them

-- the connection is of this place
abbrev pub is_of : Place → Line → Bool
is_of place line = same_place line.place place

-- the connection is of another place
unfoldable pub is_other : Place → Line → Bool
is_other place line = not (same_place line.place place)

-- the connection of a place changed, or forgotten where nothing of it is to be known
unfoldable pub lines_with : Bool → Change → Place → List Line → List Line
lines_with true change place lines = change_first (is_of place) (after change) lines
lines_with false change place lines = filter (is_other place) lines

-- what an edge over sockets knows: its connections by place, and its counts
pub record Known : Type 0 where
  pub lines : List Line
  -- the number that was given last
  pub last : ℕ
  pub polls : ℕ
  pub faults : ℕ
  -- the failures of all places together
  pub failures : ℕ

-- before anything happened
abbrev pub known_at_first : Known
known_at_first = record { lines = []; last = 0; polls = 0; faults = 0; failures = 0 }

-- what is known of a place, if anything is
abbrev pub line_at : Known → Place → Option Line
line_at known place = find (is_of place) known.lines

-- what it tells and counts
abbrev pub edge_state : Known → EdgeState
edge_state known = record {
  polls = known.polls;
  faults = known.faults;
  faults_at = λ place. known.failures;
  polled = None;
  is_closed = false;
  took = λ place. None;
  closes = None;
  is_silent = λ place. is_given known.last place && is_silent_at (line_at known place);
  is_barred = λ place. is_given known.last place && is_barred_at place (line_at known place);
  is_cut = λ place. is_cut_at (line_at known place);
}

-- what a put meets at a place
abbrev pub standing : Known → Place → Standing
standing known place =
    if is_given known.last place then standing_of place (line_at known place) else Unborn

-- the place is read
abbrev pub is_heard : Known → Place → Bool
is_heard known place = is_given known.last place && is_read_at (line_at known place)

-- ## What becomes of it

-- the greatest number of a peer's connection that is known, this place's too
abbrev pub last_after : ℕ → Place → ℕ
last_after last (Back number) = max last number
last_after last (To ip port) = last

-- a peer opened one more connection
abbrev pub after_accept : Known → Known
after_accept known =
    record known {
      lines = known.lines ++ fresh (Back (known.last + 1)) ∷ [];
      last = known.last + 1;
    }

-- something of the connection is still to be known after it ended
abbrev pub is_kept_ended : Place → Option Line → Bool
is_kept_ended place line = is_back place || is_cut_at line

-- the same after it failed
abbrev pub is_kept_failed : Place → Option Line → Bool
is_kept_failed place line = not (is_back place) && is_cut_at line

-- the same after it was closed
abbrev pub is_kept_shut : Place → Option Line → Bool
is_kept_shut place line = not (is_back place) && (is_cut_at line || is_barred_at place line)

-- the place ended
unfoldable pub place_after_end : Place → Known → Known
place_after_end place known =
    record known {
      lines = lines_with (is_kept_ended place (line_at known place)) Halted place known.lines;
    }

-- the place failed, and that was counted
unfoldable pub place_after_failure : Place → Known → Known
place_after_failure place known =
    record known {
      lines = lines_with (is_kept_failed place (line_at known place)) Pardoned place known.lines;
      failures = one_more known.failures;
    }

-- the place was closed
unfoldable pub place_after_close : Place → Known → Known
place_after_close place known =
    record known {
      lines = lines_with (is_kept_shut place (line_at known place)) Halted place known.lines;
      last = last_after known.last place;
    }

-- the lines after an address was connected
abbrev pub opened_lines : Place → Option Line → List Line → List Line
opened_lines place None lines = lines ++ fresh place ∷ []
opened_lines place (Some line) lines = lines_with true Reopened place lines

-- the place is connected, or connected anew
unfoldable pub after_opening : Place → Known → Known
after_opening place known =
    record known { lines = opened_lines place (line_at known place) known.lines }

-- a place took so many bytes of a piece of this length
unfoldable pub after_service : Place → ℕ → ℕ → Known → Known
after_service place count len known =
    if is_back place then known
    else (record known { lines = lines_with true (Part count len) place known.lines })
