use Rattle.std.proofs.Common.{rules}
use Rattle.sc_board.proofs.Works.{ok_worked_more}
use Rattle.sc_board.proofs.crewing.crew.Goals as goal

pub returns : goal.returns
returns g c = ok_worked_more _ _ _ _ c.crew_by.result (λ done post. search rules) c.crew_by.ensures
