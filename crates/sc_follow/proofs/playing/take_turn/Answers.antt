use Rattle.std.proofs.Common.{ap, ◌∙◌, subst, sym}
use Rattle.sc_parts.specs.declared.setup.Setup.{Setup}
use Rattle.sc_model.specs.Settings.{IsSetup}
use Rattle.sc_follow.proofs.Playings.{lent_setup, lent_lease, none_lent, run_stopped, same_old, same_lent, took}
use Rattle.sc_follow.proofs.playing.take_turn.Goals as goal

pub bring-requires-clause-right : goal.bring-requires-clause-right
bring-requires-clause-right g c =
    subst IsSetup (sym (lent_setup _ _ c.in-Ok-Some.lease (rw c.in-Ok-Some.field-0-is at c.in-Ok-Some.ensures.lends))) c.requires.right

pub bring-requires-clause-kinds : goal.bring-requires-clause-kinds
bring-requires-clause-kinds g c =
    ap (λ (setup : Setup). setup.kinds) (lent_setup _ _ c.in-Ok-Some.lease (rw c.in-Ok-Some.field-0-is at c.in-Ok-Some.ensures.lends)) ∙ c.requires.kinds

pub bring-requires-clause-lent : goal.bring-requires-clause-lent
bring-requires-clause-lent g c = lent_lease _ _ c.in-Ok-Some.lease (rw c.in-Ok-Some.field-0-is at c.in-Ok-Some.ensures.lends)

pub returns-in-Ok-clause-took : goal.returns-in-Ok-clause-took
returns-in-Ok-clause-took g c = took _ _ _ c.in-Ok-Some.lease (rw c.in-Ok-Some.field-0-is at c.in-Ok-Some.ensures.lends) c.in-Ok.ensures.ok c.in-Ok.ensures.room

pub returns-in-Err-bring-clause-same : goal.returns-in-Err-bring-clause-same
returns-in-Err-bring-clause-same g c = same_lent _ _ _ c.in-Ok-Some.lease (rw c.in-Ok-Some.field-0-is at c.in-Ok-Some.ensures.lends) c.in-Err-bring.ensures.err

pub returns-in-Err-bring-clause-stopped : goal.returns-in-Err-bring-clause-stopped
returns-in-Err-bring-clause-stopped g c = run_stopped _ _ c.in-Ok-Some.lease _ (rw c.in-Ok-Some.field-0-is at c.in-Ok-Some.ensures.lends) c.in-Err-bring.ensures.stopped

pub returns-in-Err-clause-same : goal.returns-in-Err-clause-same
returns-in-Err-clause-same g c = same_old _ _ c.in-Err.ensures.err

pub returns-in-Ok-None-clause-took : goal.returns-in-Ok-None-clause-took
returns-in-Ok-None-clause-took g c = none_lent _ _ (rw c.in-Ok-None.field-0-is at c.in-Ok-None.ensures.lends)
