use Rattle.std.proofs.Common.{ap, ◌∙◌, subst, sym}
use Rattle.sc_parts.specs.declared.setup.Setup.{Setup}
use Rattle.sc_model.specs.Settings.{IsSetup}
use Rattle.sc_follow.proofs.Playings.{lent_of_setup, lent_of_lease, played_of, none_played, cut_of, starved_of}
use Rattle.sc_follow.proofs.playing.play_of.Goals as goal

pub bring-requires-clause-right : goal.bring-requires-clause-right
bring-requires-clause-right g c =
    subst IsSetup (sym (lent_of_setup _ _ _ c.in-Ok-Some.lease (rw c.in-Ok-Some.field-0-is at c.in-Ok-Some.ensures.lends))) c.requires.right

pub bring-requires-clause-kinds : goal.bring-requires-clause-kinds
bring-requires-clause-kinds g c =
    ap (λ (setup : Setup). setup.kinds) (lent_of_setup _ _ _ c.in-Ok-Some.lease (rw c.in-Ok-Some.field-0-is at c.in-Ok-Some.ensures.lends)) ∙ c.requires.kinds

pub bring-requires-clause-lent : goal.bring-requires-clause-lent
bring-requires-clause-lent g c = lent_of_lease _ _ _ c.in-Ok-Some.lease (rw c.in-Ok-Some.field-0-is at c.in-Ok-Some.ensures.lends)

pub returns-in-Ok-clause-ok : goal.returns-in-Ok-clause-ok
returns-in-Ok-clause-ok g c = played_of _ _ _ _ c.in-Ok-Some.lease (rw c.in-Ok-Some.field-0-is at c.in-Ok-Some.ensures.lends) c.in-Ok.ensures.ok

pub returns-in-Err-bring-clause-err : goal.returns-in-Err-bring-clause-err
returns-in-Err-bring-clause-err g c = cut_of _ _ _ _ c.in-Ok-Some.lease _ (rw c.in-Ok-Some.field-0-is at c.in-Ok-Some.ensures.lends) c.in-Err-bring.ensures.err c.in-Err-bring.ensures.stopped c.requires.untaken

pub returns-in-Err-clause-err : goal.returns-in-Err-clause-err
returns-in-Err-clause-err g c = starved_of _ _ _ c.in-Err.ensures.err c.requires.untaken

pub returns-in-Ok-None-clause-ok : goal.returns-in-Ok-None-clause-ok
returns-in-Ok-None-clause-ok g c = none_played _ _ _ (rw c.in-Ok-None.field-0-is at c.in-Ok-None.ensures.lends) c.requires.untaken c.requires.free
