use Rattle.std.proofs.Common.{◌≡◌, ◌++◌, take}
use Rattle.sc_queue.specs.Joined.{joined}
use Rattle.sc_queue.proofs.copies.add_parts.Given as goal

abbrev pub invariant-loop-part : goal.invariant-loop-part
invariant-loop-part g l = l.list ≡ l.fn.list ++ joined (take l.part-index l.parts)
