use Rattle.std.proofs.Common.{◌≡◌, ◌++◌, map, take}
use Rattle.sc_acting.specs.Acts.{cancel_order}
use Rattle.sc_acting.proofs.closing.add_cancels.Given as goal

abbrev pub invariant-loop-branch : goal.invariant-loop-branch
invariant-loop-branch l = l.orders ≡ l.fn.orders ++ map cancel_order (take l.branch-index l.branches)
