use Rattle.std.proofs.Common.{rules}
use Rattle.sc_board.proofs.Works.{ok_worked_more}
use Rattle.sc_board.proofs.crewing.beside_crew.Goals as goal

pub returns-clause-passes : goal.returns-clause-passes
returns-clause-passes g c = ok_worked_more _ _ _ _ c.beside_by.result.0 (λ done post. search rules) c.beside_by.ensures.passes
