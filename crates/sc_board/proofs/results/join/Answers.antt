use Rattle.sc_board.proofs.ResultSteps.{merges}
use Rattle.sc_board.proofs.results.join.Goals as goal

pub absorb-requires-clause-rule : goal.absorb-requires-clause-rule
absorb-requires-clause-rule c = merges _ _ _ _ c.requires.pass.1 c.requires.ended.1
