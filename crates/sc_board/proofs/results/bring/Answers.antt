use Rattle.sc_board.proofs.ResultSteps.{brings, is_whole}
use Rattle.sc_board.proofs.results.bring.Goals as goal

pub push_as-requires-clause-rule : goal.push_as-requires-clause-rule
push_as-requires-clause-rule g c = (brings _ _ _ _ c.requires.pass.1, is_whole _ _)
