use Rattle.sc_streams.proofs.Pendings.{kept_through, same_kept}
use Rattle.sc_follow.proofs.Hearings.{hearing_start, hearing_step, less_left, hearing_end, heard_on}
use Rattle.sc_follow.proofs.hearing.hear_all.Goals as goal

pub loop-init : goal.loop-init
loop-init c = record { hearing = hearing_start _ _ _ c.requires.untaken c.requires.free; kept = same_kept _ _ }

pub hear-requires-clause-untaken : goal.hear-requires-clause-untaken
hear-requires-clause-untaken c = c.loop.invariant.hearing.came.untaken

pub hear-requires-clause-free : goal.hear-requires-clause-free
hear-requires-clause-free c = c.loop.invariant.hearing.free

pub loop-preserved : goal.loop-preserved
loop-preserved c = record {
  hearing = hearing_step _ _ _ _ _ _ _ c.loop.invariant.hearing (rw c.if-branch.true at c.in_ok-hear.ensures.heard);
  kept = kept_through _ _ _ _ _ _ c.loop.invariant.kept c.hear.ensures.kept;
}

pub loop-smaller : goal.loop-smaller
loop-smaller c = less_left _ _ _ _ _ (rw c.if-branch.true at c.in_ok-hear.ensures.heard)

pub returns-clause-kept : goal.returns-clause-kept
returns-clause-kept c = kept_through _ _ _ _ _ _ c.loop.invariant.kept c.hear.ensures.kept

pub returns-clause-ok : goal.returns-clause-ok
returns-clause-ok c = hearing_end _ _ _ _ _ _ _ c.loop.invariant.hearing (rw c.if-branch.false at c.in_ok-hear.ensures.heard)

pub returns-in_err-hear-clause-kept : goal.returns-in_err-hear-clause-kept
returns-in_err-hear-clause-kept c = kept_through _ _ _ _ _ _ c.loop.invariant.kept c.hear.ensures.kept

pub returns-in_err-hear-clause-err : goal.returns-in_err-hear-clause-err
returns-in_err-hear-clause-err c = heard_on _ _ _ _ _ _ _ _ c.from_residual.ensures.1 c.loop.invariant.hearing c.in_err-hear.ensures.err
