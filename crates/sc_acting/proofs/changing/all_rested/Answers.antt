use Rattle.sc_hosts.specs.Acting.{rested_branch}
use Rattle.sc_branches.proofs.Mapping.{mapped_next}
use Rattle.sc_acting.proofs.changing.all_rested.Goals as goal

pub loop-branch-preserved : goal.loop-branch-preserved
loop-branch-preserved c =
    mapped_next rested_branch c.args.branches.now c.loop-branch.branch-items c.loop-branch.branch-index _ _ c.loop-branch-test.true c.loop-branch.invariant c.rested_branch.ensures
