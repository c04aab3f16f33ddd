use Rattle.std.proofs.Common.{◌≡◌, ◌++◌, map, take}
use Rattle.sc_work.specs.Goodbyes.{cancel_now}
use Rattle.sc_work.proofs.ending.all_cancelled.Given as goal

abbrev pub invariant-loop-branch : goal.invariant-loop-branch
invariant-loop-branch l = l.orders ≡ l.fn.orders ++ map cancel_now (take l.branch-index l.branches)
