use Rattle.sc_board.proofs.JobSteps.{is_whole, takes}
use Rattle.sc_board.proofs.jobs.take.Goals as goal

pub pop_as-requires-clause-rule : goal.pop_as-requires-clause-rule
pop_as-requires-clause-rule g c = (takes _ _ c.requires.pass.1, is_whole _ _)
