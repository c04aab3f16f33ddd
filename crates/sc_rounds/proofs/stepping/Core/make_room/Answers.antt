use Rattle.sc_rounds.proofs.Overs.{over_same}
use Rattle.sc_rounds.proofs.Steppings.{same_then}
use Rattle.sc_rounds.proofs.stepping.Core.make_room.Goals as goal

pub returns-clause-same : goal.returns-clause-same
returns-clause-same g c = same_then _ _ _ _ _ _ c.end_epoch.ensures.same c.hand_on.ensures.same

pub returns-clause-over : goal.returns-clause-over
returns-clause-over g c = over_same _ _ _ _ c.end_epoch.ensures.over c.hand_on.ensures.running
