use Rattle.std.proofs.Common.{◌≡◌, ◌++◌, take}
use Rattle.std.specs.List.{flat_map}
use Rattle.sc_hosts.specs.Sessions.{branch_entry}
use Rattle.sc_ticks.proofs.entries.put_branches.Given as goal

abbrev pub invariant-loop-branch : goal.invariant-loop-branch
invariant-loop-branch l = l.out ≡ l.fn.out ++ flat_map branch_entry (take l.branch-index l.branches)
