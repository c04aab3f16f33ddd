use Rattle.std.proofs.Common.{subst}
use Rattle.sc_value.specs.ContactRules.{IsContact}
use Rattle.sc_spelling.proofs.MadeLaws.{all_next, all_done}
use Rattle.sc_spelling.proofs.made.contacts_known.Goals as goal

pub loop-i-preserved : goal.loop-i-preserved
loop-i-preserved c = all_next IsContact c.args.contacts.now c.loop-i.i c.index-contacts-i.result c.loop-i-test.true c.loop-i.invariant (subst (λ x. IsContact x) c.index-contacts-i.is c.known.ensures)

pub returns : goal.returns
returns c = all_done IsContact c.args.contacts.now c.loop-i.i c.loop-i-test.false c.loop-i.invariant
