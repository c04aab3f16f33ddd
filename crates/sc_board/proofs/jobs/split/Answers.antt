use Rattle.sc_board.proofs.JobSteps.{splits}
use Rattle.sc_board.proofs.jobs.split.Goals as goal

pub another-requires-clause-rule : goal.another-requires-clause-rule
another-requires-clause-rule c = splits _ _ c.requires.pass.1
