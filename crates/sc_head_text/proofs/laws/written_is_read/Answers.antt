use Rattle.std.proofs.Common.{◌^◌, arith, true, false, [], ◌∷◌}
use Rattle.sc_grammar.specs.Written.{address_text, contact_text, cseq_text, via_text}
use Rattle.sc_syntax.specs.Sequences.{hops_of}
use Rattle.sc_syntax.proofs.DecimalLaws.{decimal_is_read}
use Rattle.sc_syntax.specs.SpelledVias.{IsViaSpelled}
use Rattle.sc_syntax.specs.SpelledAddresses.{IsAddressIn, IsContactSpelled}
use Rattle.sc_syntax.proofs.SpelledViaLaws.{vias_are_read}
use Rattle.sc_syntax.proofs.SpelledAddressLaws.{address_is_read, addresses_are_read, contacts_are_read}
use Rattle.sc_syntax.proofs.SequenceLaws.{cseq_is_read}
use Rattle.sc_head_text.proofs.WrittenValues.{via_spelled, address_spelled, contact_spelled, cseq_spelled, one_listed}
use Rattle.sc_head_text.proofs.laws.written_is_read.Goals as goal

pub returns-clause-vias : goal.returns-clause-vias
returns-clause-vias c = λ via kept. vias_are_read (via_text via) (via ∷ []) (one_listed 44 IsViaSpelled (via_text via) via (via_spelled via kept))

pub returns-clause-address : goal.returns-clause-address
returns-clause-address c = λ address kept. address_is_read false (address_text address) address (address_spelled false address kept)

pub returns-clause-addresses : goal.returns-clause-addresses
returns-clause-addresses c = λ address kept. addresses_are_read (address_text address) (address ∷ []) (one_listed 44 (IsAddressIn true) (address_text address) address (address_spelled true address kept))

pub returns-clause-contacts : goal.returns-clause-contacts
returns-clause-contacts c = λ contact kept. contacts_are_read (contact_text contact) (contact ∷ []) (one_listed 44 IsContactSpelled (contact_text contact) contact (contact_spelled contact kept))

pub returns-clause-cseq : goal.returns-clause-cseq
returns-clause-cseq c = λ cseq kept. cseq_is_read (cseq_text cseq) cseq (cseq_spelled cseq kept)

pub returns-clause-hops : goal.returns-clause-hops
unfolding hops_of
returns-clause-hops c = λ hops below. decimal_is_read hops 256 (omega arith) below

pub returns-clause-len : goal.returns-clause-len
returns-clause-len c = λ len below. decimal_is_read len (2 ^ 64) (omega arith) below
