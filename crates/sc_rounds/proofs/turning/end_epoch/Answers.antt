use Rattle.sc_rounds.proofs.Movings.{same_moves}
use Rattle.sc_rounds.proofs.turning.end_epoch.Goals as goal

pub returns-clause-moves : goal.returns-clause-moves
returns-clause-moves g c = same_moves _ _ _ _ c.end_epoch.ensures.same
