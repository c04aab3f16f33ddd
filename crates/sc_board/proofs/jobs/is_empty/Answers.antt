use Rattle.sc_board.proofs.JobSteps.{is_whole}
use Rattle.sc_board.proofs.jobs.is_empty.Goals as goal

pub is_empty_as-requires-clause-rule : goal.is_empty_as-requires-clause-rule
is_empty_as-requires-clause-rule c = is_whole _ _
