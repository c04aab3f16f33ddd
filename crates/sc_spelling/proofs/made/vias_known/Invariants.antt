use Rattle.std.proofs.Common.{take}
use Rattle.sc_value.specs.ViaValues.{IsVia}
use Rattle.sc_spelling.specs.Kept.{AllKeep}
use Rattle.sc_spelling.proofs.made.vias_known.Given as goal

abbrev pub invariant-loop-i : goal.invariant-loop-i
invariant-loop-i l = AllKeep IsVia (take l.i l.vias)
