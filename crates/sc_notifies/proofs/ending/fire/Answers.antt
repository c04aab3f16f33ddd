use Rattle.sc_notifies.proofs.NotifyCalls.{fire_carried}
use Rattle.sc_notifies.proofs.ending.fire.Goals as goal

pub returns-in-Ok-clause-carried : goal.returns-in-Ok-clause-carried
returns-in-Ok-clause-carried c = fire_carried _ _ _ _ _ _ c.view.ensures c.in-Ok.ensures c.fire_by.ensures.carried
