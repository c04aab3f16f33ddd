use Rattle.std.proofs.Common.{◌≡◌, ◌++◌, drop, slice_get}
use Rattle.sc_queue.specs.Joined.{joined}
use Rattle.sc_queue.proofs.long_lists.item_at.Given as goal

abbrev pub invariant-loop-part : goal.invariant-loop-part
invariant-loop-part g l = slice_get (joined l.parts ++ l.newest) l.fn.at ≡ slice_get (joined (drop l.part-index l.parts) ++ l.newest) l.left
