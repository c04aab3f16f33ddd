use Rattle.sc_syntax.specs.Addresses.{contacts_of}
use Rattle.sc_syntax.specs.SpelledAddresses.{AreContactsSpelled}
use Rattle.sc_syntax.proofs.AddressLaws.{contacts_are_spelled}
use Rattle.sc_head_text.specs.Parts.{parts_behind}
use Rattle.sc_syntax.proofs.SpelledAddressLaws.{contacts_are_read}
use Rattle.std.specs.List.{All}
use Rattle.sc_syntax.specs.SpelledAddresses.{IsContactSpelled}
use Rattle.sc_value.specs.ContactRules.{IsContact}
use Rattle.sc_syntax.specs.declared.scan.Scan.TheVariants.{Front}
use Rattle.sc_head_text.proofs.LineParts.{behind_lines}
use Rattle.sc_head_text.proofs.KeptValues.{holds_of_given, listed_all, contact_kept}
use Rattle.sc_head_text.proofs.ValueSteps.{given_is_spelled}
use Rattle.sc_head_text.proofs.addresses.read_contacts.Goals as goal

pub returns-clause-spelled : goal.returns-clause-spelled
unfolding contacts_of parts_behind
returns-clause-spelled c = given_is_spelled c.read_parts.result (contacts_of c.args.b.now) (λ x. AreContactsSpelled c.args.b.now x) c.read_parts.ensures (λ x h. contacts_are_spelled c.args.b.now x h) (λ x h. contacts_are_read c.args.b.now x h)

pub returns-clause-kept : goal.returns-clause-kept
returns-clause-kept c = holds_of_given c.read_parts.result (λ x. AreContactsSpelled c.args.b.now x) (λ x. All IsContact x) (returns-clause-spelled c) (λ x h. listed_all 44 IsContactSpelled IsContact contact_kept x c.args.b.now c.requires h)

pub read_parts-requires : goal.read_parts-requires
read_parts-requires c = behind_lines c.args.b.now Front 44 c.requires
