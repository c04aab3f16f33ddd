use Rattle.std.proofs.Common.{ap, sym, subst}
use Rattle.sc_parts.specs.declared.setup.Setup.{Setup}
use Rattle.sc_model.specs.Settings.{IsSetup}
use Rattle.sc_replay.proofs.Replayings.{made_new, made_setup}
use Rattle.sc_replay.proofs.Tryings.{tried_for, tried_not}
use Rattle.sc_replay.proofs.trying.trial_over.Goals as goal

pub trial_on-requires-clause-new : goal.trial_on-requires-clause-new
trial_on-requires-clause-new g c = made_new _ _ c.in-Ok.ensures

pub trial_on-requires-clause-right : goal.trial_on-requires-clause-right
trial_on-requires-clause-right g c = subst IsSetup (sym (made_setup _ _ c.in-Ok.ensures)) c.requires.right

pub trial_on-requires-clause-kinds : goal.trial_on-requires-clause-kinds
trial_on-requires-clause-kinds g c = ap (λ (s : Setup). s.kinds) (made_setup _ _ c.in-Ok.ensures)

pub returns-in-Ok-clause-tried : goal.returns-in-Ok-clause-tried
returns-in-Ok-clause-tried g c = tried_for _ _ _ _ _ _ c.trial_on.result (made_setup _ _ c.in-Ok.ensures) c.trial_on.ensures.tried

pub returns-in-Err-clause-tried : goal.returns-in-Err-clause-tried
returns-in-Err-clause-tried g c = tried_not _ _ _ _ c.not_started.result c.requires.most c.not_started.ensures.status c.not_started.ensures.some c.not_started.ensures.journal
