use Rattle.std.proofs.Common.{◌≡◌, ◌++◌, take, drop, map}
use Rattle.sc_hosts.specs.Branches.{cancelled_branch}
use Rattle.sc_branches.proofs.changing.cancel_all.Given as goal

abbrev pub invariant-loop-branch : goal.invariant-loop-branch
invariant-loop-branch l = l.branch-items ≡ map cancelled_branch (take l.branch-index l.fn.branches) ++ drop l.branch-index l.fn.branches
