use Rattle.sc_rounds.proofs.Refusals.{memory_due}
use Rattle.sc_rounds.proofs.Listenings.{on_start}
use Rattle.sc_rounds.proofs.OftenGivings.{bytes_give}
use Rattle.sc_rounds.proofs.Servings.{comes_ended}
use Rattle.sc_rounds.proofs.polling.take_bytes.Goals as goal

pub returns-in-Ok-clause-ok : goal.returns-in-Ok-clause-ok
returns-in-Ok-clause-ok g c from old new s comes =
    c.hear_bytes.ensures.ok from new c.args.text.now (on_start from old new (g.N.Notice.noted c.args.notice.now) _ _ _ _ _ comes c.in-Ok.ensures s)

pub returns-in-Ok-clause-err : goal.returns-in-Ok-clause-err
returns-in-Ok-clause-err g c from old new s comes =
    c.hear_bytes.ensures.err from new c.args.text.now (on_start from old new (g.N.Notice.noted c.args.notice.now) _ _ _ _ _ comes c.in-Ok.ensures s)

pub returns-in-Err-clause-err : goal.returns-in-Err-clause-err
returns-in-Err-clause-err g c from old new s comes = comes_ended from old new (g.N.Notice.noted c.args.notice.now) _ _ _ s comes

pub returns-in-Err-clause-due : goal.returns-in-Err-clause-due
returns-in-Err-clause-due g c = memory_due _

pub returns-in-Ok-clause-gave : goal.returns-in-Ok-clause-gave
returns-in-Ok-clause-gave g c from old new s comes =
    c.hear_bytes.ensures.gave from new c.args.text.now (on_start from old new (g.N.Notice.noted c.args.notice.now) _ _ _ _ _ comes c.in-Ok.ensures s)

pub returns-in-Err-clause-gave : goal.returns-in-Err-clause-gave
returns-in-Err-clause-gave g c from old new s comes place e = cc

pub returns-in-Ok-clause-gives : goal.returns-in-Ok-clause-gives
returns-in-Ok-clause-gives g c = bytes_give _ _ _ _ _ c.args.text.now c.in-Ok.ensures c.hear_bytes.ensures.gives
