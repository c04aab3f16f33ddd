use Rattle.std.proofs.Common.{◌≡◌, ℕ, ◌≤◌, List, ◌++◌, length}
use Rattle.sc_edge.specs.Taking.{Takes}
use Rattle.sc_edge.proofs.putting.put_all.Given as goal

-- what was put, the rest after it, and the sink that took the first
abbrev pub invariant-loop-rest : goal.invariant-loop-rest
invariant-loop-rest g l = record {
  later : g.K.Sink.faults l.fn.out ≤ g.K.Sink.faults l.out;
  put : (done : List ℕ) × (l.bytes ≡ done ++ l.rest) × Takes (g.K.Sink.took l.fn.out) (g.K.Sink.took l.out) done;
}

abbrev pub decreases-loop-rest : goal.decreases-loop-rest
decreases-loop-rest g l = length l.rest
