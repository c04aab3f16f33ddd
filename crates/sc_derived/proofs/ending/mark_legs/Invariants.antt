use Rattle.std.proofs.Common.{◌≡◌, take}
use Rattle.sc_derived.specs.Marks.{legs_by_marks as marked}
use Rattle.sc_derived.proofs.ending.mark_legs.Given as goal

abbrev pub invariant-loop-i : goal.invariant-loop-i
invariant-loop-i l = l.legs ≡ marked (take l.i l.marks) l.fn.legs
