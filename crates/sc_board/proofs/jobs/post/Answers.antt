use Rattle.sc_board.proofs.JobSteps.{posts, was_posted}
use Rattle.sc_board.proofs.jobs.post.Goals as goal

pub push_as-requires-clause-rule : goal.push_as-requires-clause-rule
push_as-requires-clause-rule g c = (posts _ _ _ _ c.requires.pass.1 c.requires.job.0 c.requires.job.1, was_posted _ _ c.requires.pass.1)
