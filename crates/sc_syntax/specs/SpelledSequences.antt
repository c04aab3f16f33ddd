-- Which texts spell a CSeq: its written form, with leading zeros, more blanks between its parts,
-- and blanks round it (RFC 3261 sections 20.16 and 25.1).
use Rattle.std.specs.Prelude.{◌≡◌, true, false, Some, ◌++◌, ◌==◌, ◌^◌, length}
use Rattle.sc_tokens.specs.Tokens.{is_token}
use Rattle.sc_value.specs.declared.parts.CSeq.{CSeq}
use Rattle.sc_tokens.specs.Bytes.{Bytes}
use Rattle.sc_tokens.specs.Numbers.{number_below}
use Rattle.sc_syntax.specs.SpelledParts.{IsBlanks, Padded}

-- digits of the number, which is below 2^31, one blank or more, and the method
abbrev pub IsSequenceSpelled : Bytes → CSeq → Type 0
IsSequenceSpelled text cseq =
    (is_token cseq.method ≡ true) × (digits gap : Bytes)
    × (number_below (2 ^ 31) digits ≡ Some cseq.number) × IsBlanks gap
    × ((length gap == 0) ≡ false)
    × (text ≡ digits ++ (gap ++ cseq.method))

-- the same, with blanks round it or none
abbrev pub IsCSeqSpelled : Bytes → CSeq → Type 0
IsCSeqSpelled text cseq = (inner : Bytes) × IsSequenceSpelled inner cseq × Padded inner text
