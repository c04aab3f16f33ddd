use Rattle.sc_state.specs.Entries.{branch_entry}
use Rattle.sc_state.proofs.LeastDue.{due_next}
use Rattle.sc_state.proofs.timed.branches_due.Goals as goal

pub loop-branch-preserved : goal.loop-branch-preserved
loop-branch-preserved c =
    due_next c.args.fired.now branch_entry c.args.branches.now c.loop-branch.branch-index _ _ _ _ c.loop-branch-test.true c.loop-branch.invariant
    c.branch_due.ensures c.lower-least.ensures
