use Rattle.sc_outs.proofs.Owings.{owed_seen, skipped_seen}
use Rattle.sc_outs.proofs.outs.Outs.owe_message.Goals as goal

pub returns-then-has-clause-ok : goal.returns-then-has-clause-ok
returns-then-has-clause-ok c = skipped_seen _ _ _ _ _ c.self.view_is c.has.ensures c.if-has.true

pub returns-clause-ok : goal.returns-clause-ok
returns-clause-ok c = owed_seen _ _ _ _ _ _ _ _ c.self.view_is c.has.ensures c.if-has.false c.in_ok-text.ensures c.owe_text.ensures.ok
