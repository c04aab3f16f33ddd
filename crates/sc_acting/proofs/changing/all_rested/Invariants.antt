use Rattle.std.proofs.Common.{◌≡◌, ◌++◌, take, drop, map}
use Rattle.sc_hosts.specs.Acting.{rested_branch}
use Rattle.sc_acting.proofs.changing.all_rested.Given as goal

abbrev pub invariant-loop-branch : goal.invariant-loop-branch
invariant-loop-branch l = l.branch-items ≡ map rested_branch (take l.branch-index l.fn.branches) ++ drop l.branch-index l.fn.branches
