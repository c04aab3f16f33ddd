use Rattle.std.proofs.Common.{ap, sym, subst}
use Rattle.sc_parts.specs.declared.setup.Setup.{Setup}
use Rattle.sc_model.specs.Settings.{IsSetup}
use Rattle.sc_replay.proofs.Replayings.{made_new, made_setup, ran_not, ran_for, the_journal}
use Rattle.sc_replay.proofs.replaying.replay_over.Goals as goal

pub replay_on-requires-clause-new : goal.replay_on-requires-clause-new
replay_on-requires-clause-new g c = made_new _ _ c.in-Ok.ensures

pub replay_on-requires-clause-right : goal.replay_on-requires-clause-right
replay_on-requires-clause-right g c = subst IsSetup (sym (made_setup _ _ c.in-Ok.ensures)) c.requires

pub replay_on-requires-clause-kinds : goal.replay_on-requires-clause-kinds
replay_on-requires-clause-kinds g c = ap (λ (s : Setup). s.kinds) (made_setup _ _ c.in-Ok.ensures)

pub returns-in-Ok-clause-ran : goal.returns-in-Ok-clause-ran
returns-in-Ok-clause-ran g c = ran_for _ _ _ _ _ _ _ c.replay_on.result (made_setup _ _ c.in-Ok.ensures) c.replay_on.ensures.ran

pub returns-in-Err-clause-ran : goal.returns-in-Err-clause-ran
returns-in-Err-clause-ran g c =
    let found = the_journal _ c.not_started.result.journal c.not_started.ensures.some c.not_started.ensures.journal in
    ran_not _ _ _ _ _ c.not_started.result c.not_started.ensures.status found.0 found.1 found.2
