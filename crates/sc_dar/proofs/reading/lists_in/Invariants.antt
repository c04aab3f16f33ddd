use Rattle.std.proofs.Common.{◌≤◌, ◌+◌, length}
use Rattle.sc_dar.proofs.LineSteps.{Stands}
use Rattle.sc_dar.proofs.reading.lists_in.Given as goal

abbrev pub invariant-loop-rest : goal.invariant-loop-rest
invariant-loop-rest l = Stands l.apps l.text l.number l.lists l.rest × (l.number + length l.rest ≤ 1 + length l.text)

abbrev pub decreases-loop-rest : goal.decreases-loop-rest
decreases-loop-rest l = length l.rest
