use Rattle.sc_board.proofs.ResultSteps.{is_whole}
use Rattle.sc_board.proofs.results.is_empty.Goals as goal

pub is_empty_as-requires-clause-rule : goal.is_empty_as-requires-clause-rule
is_empty_as-requires-clause-rule c = is_whole _ _
