use Rattle.std.specs.Prelude.{◌≡◌, ◌⊎◌, true, false, length}
use Rattle.sc_tokens.specs.Bytes.{Bytes}
use Rattle.sc_edge.specs.Edges.{EdgeState}
use Rattle.sc_courses.specs.Courses.{Beginning}
use Rattle.sc_rounds.specs.GivingUp.{GaveUp, HearsFrom}
use Rattle.sc_rounds.specs.Serving.{ServesOn}
use Rattle.sc_streams.specs.Streaming.{bytes_of}
use Rattle.sc_rounds.proofs.hearing.hear_all.Given as goal

abbrev pub invariant-loop : goal.invariant-loop
invariant-loop g l = record {
  serves : (from : Beginning) (edge : EdgeState) (text : Bytes) → ServesOn from edge (g.N.Notice.noted l.fn.notice) l.fn.core l.fn.streams l.at text → ServesOn from edge (g.N.Notice.noted l.notice) l.core l.streams l.at text;
  gave : (from : Beginning) (edge : EdgeState) (text : Bytes) → ServesOn from edge (g.N.Notice.noted l.fn.notice) l.fn.core l.fn.streams l.at text → l.broken ≡ true → (l.fn.broken ≡ true) ⊎ GaveUp from.edge.polled edge.polled l.at;
  gives : l.fn.broken ≡ false → (l.broken ≡ false) × HearsFrom l.at (bytes_of l.fn.streams) (bytes_of l.streams);
}

abbrev pub decreases-loop : goal.decreases-loop
decreases-loop g l = length (bytes_of l.streams l.at)
