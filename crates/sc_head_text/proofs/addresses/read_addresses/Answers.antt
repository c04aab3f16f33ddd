use Rattle.sc_syntax.specs.Addresses.{addresses_of}
use Rattle.sc_syntax.specs.SpelledAddresses.{AreAddressesSpelled}
use Rattle.sc_syntax.proofs.AddressLaws.{addresses_are_spelled}
use Rattle.sc_head_text.specs.Parts.{parts_behind}
use Rattle.sc_syntax.proofs.SpelledAddressLaws.{addresses_are_read}
use Rattle.std.specs.List.{All}
use Rattle.std.proofs.Common.{true}
use Rattle.sc_syntax.specs.SpelledAddresses.{IsAddressIn}
use Rattle.sc_value.specs.AddressValues.{IsAddress}
use Rattle.sc_syntax.specs.declared.scan.Scan.TheVariants.{Front}
use Rattle.sc_head_text.proofs.LineParts.{behind_lines}
use Rattle.sc_head_text.proofs.KeptValues.{holds_of_given, listed_all, address_kept}
use Rattle.sc_head_text.proofs.ValueSteps.{given_is_spelled}
use Rattle.sc_head_text.proofs.addresses.read_addresses.Goals as goal

pub returns-clause-spelled : goal.returns-clause-spelled
unfolding addresses_of parts_behind
returns-clause-spelled c = given_is_spelled c.read_parts.result (addresses_of c.args.b.now) (λ x. AreAddressesSpelled c.args.b.now x) c.read_parts.ensures (λ x h. addresses_are_spelled c.args.b.now x h) (λ x h. addresses_are_read c.args.b.now x h)

pub returns-clause-kept : goal.returns-clause-kept
returns-clause-kept c = holds_of_given c.read_parts.result (λ x. AreAddressesSpelled c.args.b.now x) (λ x. All IsAddress x) (returns-clause-spelled c) (λ x h. listed_all 44 (IsAddressIn true) IsAddress (address_kept true) x c.args.b.now c.requires h)

pub read_parts-requires : goal.read_parts-requires
read_parts-requires c = behind_lines c.args.b.now Front 44 c.requires
