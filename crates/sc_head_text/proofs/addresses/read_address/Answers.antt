use Rattle.std.proofs.Common.{false}
use Rattle.sc_syntax.specs.Addresses.{address_of}
use Rattle.sc_syntax.specs.SpelledAddresses.{IsAddressSpelled}
use Rattle.sc_syntax.proofs.AddressLaws.{one_address_is_spelled}
use Rattle.sc_syntax.proofs.SpelledAddressLaws.{address_is_read}
use Rattle.sc_value.specs.AddressValues.{IsAddress}
use Rattle.sc_head_text.proofs.KeptValues.{holds_of_given, address_kept}
use Rattle.sc_head_text.proofs.ValueSteps.{given_is_spelled}
use Rattle.sc_head_text.proofs.addresses.read_address.Goals as goal

pub returns-clause-spelled : goal.returns-clause-spelled
returns-clause-spelled c = given_is_spelled c.read.result (address_of c.args.b.now) (λ x. IsAddressSpelled c.args.b.now x) c.read.ensures (λ x h. one_address_is_spelled c.args.b.now x h) (λ x h. address_is_read false c.args.b.now x h)

pub returns-clause-kept : goal.returns-clause-kept
returns-clause-kept c = holds_of_given c.read.result (λ x. IsAddressSpelled c.args.b.now x) (λ x. IsAddress x) (returns-clause-spelled c) (λ x h. address_kept false c.args.b.now x c.requires h)
