use Rattle.sc_board.proofs.JobSteps.{lets_go}
use Rattle.sc_board.proofs.jobs.let_go_of.Goals as goal

pub another-spent-requires-clause-rule : goal.another-spent-requires-clause-rule
another-spent-requires-clause-rule g c = lets_go _ _ _ c.requires.pass.1
