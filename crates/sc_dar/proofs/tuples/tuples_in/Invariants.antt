use Rattle.std.proofs.Common.{length}
use Rattle.sc_dar.proofs.TupleSteps.{Stands}
use Rattle.sc_dar.proofs.tuples.tuples_in.Given as goal

abbrev pub invariant-loop-six : goal.invariant-loop-six
invariant-loop-six l = Stands l.apps l.text l.tuples l.rest

abbrev pub decreases-loop-six : goal.decreases-loop-six
decreases-loop-six l = length l.rest
