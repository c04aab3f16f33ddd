use Rattle.std.proofs.Common.{refl}
use Rattle.sc_rounds.proofs.Steppings.{handed_same, handing_running}
use Rattle.sc_rounds.proofs.stepping.Core.hand_all.Goals as goal

pub returns-clause-same : goal.returns-clause-same
returns-clause-same g c = handed_same _ _ _ _ _ c.hand_on-journal.ensures.handed refl refl refl (rw c.len.ensures at c.saturating_add-self.ensures) c.hand_on-journal.ensures.journal c.part.ensures

pub returns-clause-running : goal.returns-clause-running
returns-clause-running g c = handing_running c.args.self.now.switch c.hand_on-journal.new.self c.hand_on-journal.ensures.handed
