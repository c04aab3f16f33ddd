-- CSeq: what is read is spelled, and what is spelled is read.
use Rattle.std.proofs.Common.{◌≡◌, ℕ, true, false, cond, Some, None, [], ◌++◌, ◌==◌, ◌^◌, inl, inr, length, refl, sym, ap, subst, ◌∙◌, append_assoc, arith}
use Rattle.std.specs.Prelude.{is_some}
use Rattle.std.specs.List.{list_all}
use Rattle.std.specs.Option.{option_map}
use Rattle.std.specs.Char.{is_ascii_digit}
use Rattle.std.proofs.lemmas.Bool.{false≢true}
use Rattle.std.proofs.lemmas.Bool.Decides.{nat_tests}
use Rattle.sc_tokens.specs.Tokens.{is_token, is_token_byte}
use Rattle.sc_value.specs.declared.parts.CSeq.{CSeq}
use Rattle.sc_tokens.specs.Bytes.{Bytes}
use Rattle.sc_tokens.specs.Numbers.{number_below}
use Rattle.sc_tokens.specs.Blanks.{without_blanks as trimmed, first_word, behind_word}
use Rattle.sc_syntax.specs.Sequences.{cseq_in, cseq_of}
use Rattle.sc_syntax.specs.SpelledParts.{IsBlanks}
use Rattle.sc_syntax.specs.SpelledSequences.{IsSequenceSpelled, IsCSeqSpelled}
use Rattle.sc_syntax.proofs.BlankLaws.{blanks_append, trimmed_is_padded, padded_is_trimmed}
use Rattle.sc_syntax.proofs.ListedLaws.{if_some, map_some}
use Rattle.sc_syntax.proofs.ViaLaws.{word_gap, word_text}
use Rattle.sc_syntax.proofs.ClassLaws.{all_weaker, begins_joined, ends_joined, class_begins, class_ends, solid_is_trimmed}
use Rattle.sc_syntax.proofs.ParameterLaws.{token_is, token_solid}
use Rattle.sc_syntax.proofs.HostLaws.{number_digits, digits_are}
use Rattle.sc_syntax.proofs.SpelledViaLaws.{first_is, behind_is}

-- ## What is read is spelled

no_token : is_token [] ≡ false
unfolding is_token
no_token = refl

-- a text that spells a CSeq, before blanks
abbrev IsBefore : Bytes → CSeq → Type 0
IsBefore text cseq = (inner back : Bytes) × IsSequenceSpelled inner cseq × IsBlanks back × (text ≡ inner ++ back)

rejoin : (word gap method back : Bytes) → word ++ (gap ++ (method ++ back)) ≡ (word ++ (gap ++ method)) ++ back
rejoin word gap method back = ap (λ l. word ++ l) (sym (append_assoc gap method back)) ∙ sym (append_assoc word (gap ++ method) back)

sequence_is : (text : Bytes) (cseq : CSeq) → cseq_in text ≡ Some cseq → IsBefore text cseq
unfolding cseq_in
sequence_is text cseq h =
    let word = first_word text in
    let method = behind_word text in
    let tests = if_some (is_token method) _ cseq h in
    let number = map_some _ (number_below (2 ^ 31) word) cseq tests.1 in
    elim (word_gap text) as (λ _. IsBefore text cseq) [
      | inl none ↦ absurd (false≢true (sym (ap is_token none ∙ no_token) ∙ tests.0))
      | inr is ↦ subst (λ (c : CSeq). IsBefore text c) number.2
          (word ++ (is.0 ++ method), is.1, (tests.0, word, is.0, number.1, is.2, is.3, refl), is.4, word_text text ∙ ap (λ l. word ++ l) is.5 ∙ rejoin word is.0 method is.1)
    ]

pub cseq_is_spelled : (text : Bytes) (cseq : CSeq) → cseq_of text ≡ Some cseq → IsCSeqSpelled text cseq
unfolding cseq_of
cseq_is_spelled text cseq h =
    let is = sequence_is (trimmed text) cseq h in
    let pad = trimmed_is_padded text in
    let whole = pad.4 ∙ ap (λ l. pad.0 ++ (l ++ pad.1)) is.4 ∙ ap (λ l. pad.0 ++ l) (append_assoc is.0 is.1 pad.1) in
    (is.0, is.2, (pad.0, is.1 ++ pad.1, pad.2, blanks_append is.1 pad.1 is.3 pad.3, whole))

-- ## What is spelled is read

digit_token : (b : ℕ) → is_ascii_digit b ≡ true → is_token_byte b ≡ true
unfolding is_token_byte
digit_token b h = grind (arith, nat_tests, h)

cseq_read : (text : Bytes) (cseq : CSeq) → is_token cseq.method ≡ true → (digits gap : Bytes) → number_below (2 ^ 31) digits ≡ Some cseq.number → list_all is_token_byte digits ≡ true → IsBlanks gap → (length gap == 0) ≡ false
    → text ≡ digits ++ (gap ++ cseq.method) → cseq_in text ≡ Some cseq
unfolding cseq_in
cseq_read text cseq m digits gap n all g some is =
    let token = token_is cseq.method m in
    let solid = solid_is_trimmed cseq.method (class_begins is_token_byte token_solid cseq.method token.0 token.1) (class_ends is_token_byte token_solid cseq.method token.0 token.1) in
    let first = ap first_word is ∙ first_is digits gap cseq.method all g some in
    let behind = ap behind_word is ∙ behind_is digits gap cseq.method all g some solid in
    ap (λ l. cond (is_token l) (option_map (λ number. record { number = number; method = l }) (number_below (2 ^ 31) (first_word text))) None) behind
    ∙ ap (λ l. cond (is_token cseq.method) (option_map (λ number. record { number = number; method = cseq.method }) (number_below (2 ^ 31) l)) None) first
    ∙ ap (λ o. cond (is_token cseq.method) (option_map (λ number. record { number = number; method = cseq.method }) o) None) n
    ∙ ap (λ t. cond t (Some cseq) None) m

pub cseq_is_read : (text : Bytes) (cseq : CSeq) → IsCSeqSpelled text cseq → cseq_of text ≡ Some cseq
unfolding cseq_of
cseq_is_read text cseq (inner, (m, digits, gap, n, g, some, is), pad) =
    let token = token_is cseq.method m in
    let bytes = digits_are digits (number_digits (2 ^ 31) digits (ap is_some n)) in
    let all = all_weaker is_ascii_digit is_token_byte digit_token digits bytes.1 in
    let begin = begins_joined digits (gap ++ cseq.method) (class_begins is_token_byte token_solid digits bytes.0 all) in
    let end = ends_joined digits (gap ++ cseq.method) (ends_joined gap cseq.method (class_ends is_token_byte token_solid cseq.method token.0 token.1)) in
    let solid = ap trimmed is ∙ solid_is_trimmed (digits ++ (gap ++ cseq.method)) begin end ∙ sym is in
    ap cseq_in (padded_is_trimmed inner text pad solid) ∙ cseq_read inner cseq m digits gap n all g some is
