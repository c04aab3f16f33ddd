use Rattle.std.proofs.Common.{subst}
use Rattle.sc_value.specs.AddressValues.{IsAddress}
use Rattle.sc_spelling.proofs.MadeLaws.{all_next, all_done}
use Rattle.sc_spelling.proofs.made.addresses_known.Goals as goal

pub loop-i-preserved : goal.loop-i-preserved
loop-i-preserved c = all_next IsAddress c.args.addresses.now c.loop-i.i c.index-addresses-i.result c.loop-i-test.true c.loop-i.invariant (subst (λ x. IsAddress x) c.index-addresses-i.is c.known.ensures)

pub returns : goal.returns
returns c = all_done IsAddress c.args.addresses.now c.loop-i.i c.loop-i-test.false c.loop-i.invariant
