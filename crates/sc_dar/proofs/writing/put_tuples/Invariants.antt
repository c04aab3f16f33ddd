use Rattle.std.proofs.Common.{◌≡◌, ◌++◌, drop}
use Rattle.sc_dar.specs.WrittenTables.{tuples_text}
use Rattle.sc_dar.proofs.writing.put_tuples.Given as goal

abbrev pub invariant-loop-order : goal.invariant-loop-order
invariant-loop-order l = l.out ++ tuples_text l.apps l.order (drop l.order l.tuples) ≡ l.fn.out ++ tuples_text l.apps 0 l.tuples
