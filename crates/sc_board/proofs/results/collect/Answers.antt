use Rattle.sc_board.proofs.ResultSteps.{collects, is_whole}
use Rattle.sc_board.proofs.results.collect.Goals as goal

pub pop_as-requires-clause-rule : goal.pop_as-requires-clause-rule
pop_as-requires-clause-rule g c = (collects _ _ c.requires.pass.1, is_whole _ _)
