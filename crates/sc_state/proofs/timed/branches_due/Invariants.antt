use Rattle.std.proofs.Common.{◌≡◌, take}
use Rattle.std.specs.List.{flat_map}
use Rattle.sc_state.specs.Entries.{branch_entry, least_due}
use Rattle.sc_state.proofs.timed.branches_due.Given as goal

abbrev pub invariant-loop-branch : goal.invariant-loop-branch
invariant-loop-branch l = l.least ≡ least_due l.fired (flat_map (branch_entry) (take l.branch-index l.branches))
