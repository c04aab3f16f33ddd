-- The value of a header, as a test: one line without a blank at an end.
use Rattle.std.proofs.Common.{◌≡◌, ℕ, suc, Bool, true, false, not, [], ◌∷◌, ◌++◌, ◌&&◌, ◌+◌, ◌-◌, ◌≤◌, length, refl, sym, ap, ◌∙◌, length-append, arith}
use Rattle.std.specs.Prelude.{slice_get}
use Rattle.std.specs.Option.{option_map_or}
use Rattle.sc_tokens.specs.Tokens.{is_blank, begins_blank, ends_blank, is_one_line, is_value}
use Rattle.sc_tokens.specs.Bytes.{Bytes}
use Rattle.sc_tokens.specs.Blanks.{without_blanks as trimmed, trimmed_back}
use Rattle.sc_syntax.proofs.BlankLaws.{both, and_true, front_more, trimmed_is_padded, trimmed_padded}
use Rattle.sc_syntax.proofs.ClassLaws.{not_true, solid_is_trimmed}
use Rattle.sc_syntax.proofs.DisplayLaws.{trimmed_again}
use Rattle.sc_syntax.proofs.ViaLaws.{trimmed_none}

pub length_trimmed : (text : Bytes) → length (trimmed text) ≤ length text
length_trimmed text = let pad = trimmed_is_padded text in let len = ap length pad.4 in omega (arith, len, length-append pad.0 (trimmed text ++ pad.1), length-append (trimmed text) pad.1)

trimmed_more : (b : ℕ) (bs : Bytes) → is_blank b ≡ true → trimmed (b ∷ bs) ≡ trimmed bs
unfolding trimmed
trimmed_more b bs h = ap trimmed_back (front_more b bs h)

-- a trimmed text begins with no blank
pub first_solid : (b : ℕ) (bs : Bytes) → trimmed (b ∷ bs) ≡ b ∷ bs → is_blank b ≡ false
first_solid b bs h = elim (is_blank b) as (λ (t : Bool). is_blank b ≡ t → t ≡ false) [
  | false ↦ λ e. refl
  | true ↦ λ e. absurd (let len : length (trimmed bs) ≡ suc (length bs) = ap length (sym (trimmed_more b bs e) ∙ h) in let less = length_trimmed bs in omega (arith, len, less))
] refl

ends_more : (b c : ℕ) (cs : Bytes) → ends_blank (b ∷ c ∷ cs) ≡ ends_blank (c ∷ cs)
unfolding ends_blank
ends_more b c cs =
    let two : ◌≡◌ {A = ℕ} (suc (suc (length cs)) - 1) (suc (length cs)) = omega arith in
    let one : ◌≡◌ {A = ℕ} (suc (length cs) - 1) (length cs) = omega arith in
    ap (λ k. option_map_or is_blank (slice_get (b ∷ c ∷ cs) k) false) two ∙ sym (ap (λ k. option_map_or is_blank (slice_get (c ∷ cs) k) false) one)

-- the last byte of a text
last_is : (bs : Bytes) (b : ℕ) → (front : Bytes) × (c : ℕ) × (b ∷ bs ≡ front ++ c ∷ []) × (ends_blank (b ∷ bs) ≡ is_blank c)
unfolding ends_blank
last_is [] b = ([], b, refl, refl)
last_is (c ∷ cs) b = let rest = last_is cs c in (b ∷ rest.0, rest.1, ap (λ l. b ∷ l) rest.2, ends_more b c cs ∙ rest.3)

solid_trimmed : (text : Bytes) → begins_blank text ≡ false → ends_blank text ≡ false → trimmed text ≡ text
unfolding begins_blank
solid_trimmed [] begin end = trimmed_none
solid_trimmed (b ∷ bs) begin end = let last = last_is bs b in solid_is_trimmed (b ∷ bs) (b, bs, begin, refl) (last.0, last.1, sym last.3 ∙ end, last.2)

pub value_is_line : (text : Bytes) → is_value text ≡ true → is_one_line text ≡ true
unfolding is_value
value_is_line text h = (both (is_one_line text) (not (begins_blank text)) (both (is_one_line text && not (begins_blank text)) (not (ends_blank text)) h).0).0

pub value_is_trimmed : (text : Bytes) → is_value text ≡ true → trimmed text ≡ text
unfolding is_value
value_is_trimmed text h =
    let outer = both (is_one_line text && not (begins_blank text)) (not (ends_blank text)) h in
    let inner = both (is_one_line text) (not (begins_blank text)) outer.0 in
    solid_trimmed text (not_true (begins_blank text) inner.1) (not_true (ends_blank text) outer.1)

trimmed_begins : (text : Bytes) → trimmed text ≡ text → begins_blank text ≡ false
unfolding begins_blank
trimmed_begins [] h = refl
trimmed_begins (b ∷ bs) h = first_solid b bs h

trimmed_ends : (text : Bytes) → trimmed text ≡ text → ends_blank text ≡ false
unfolding ends_blank
trimmed_ends [] h = refl
trimmed_ends (b ∷ bs) h =
    let last = last_is bs b in
    let front = last.0 in
    elim (is_blank last.1) as (λ (t : Bool). is_blank last.1 ≡ t → ends_blank (b ∷ bs) ≡ false) [
      | false ↦ λ e. last.3 ∙ e
      | true ↦ λ e. absurd (
          let same : trimmed front ≡ b ∷ bs = sym (ap trimmed last.2 ∙ trimmed_padded [] front (last.1 ∷ []) refl (and_true (is_blank last.1) true e refl)) ∙ h in
          let long : length (b ∷ bs) ≡ length front + 1 = ap length last.2 ∙ length-append front (last.1 ∷ []) in
          let short : length (trimmed front) ≡ length (b ∷ bs) = ap length same in
          let less = length_trimmed front in
          omega (arith, long, short, less)
          )
    ] refl

pub trimmed_is_value : (text : Bytes) → is_one_line text ≡ true → trimmed text ≡ text → is_value text ≡ true
unfolding is_value
trimmed_is_value text one h =
    and_true (is_one_line text && not (begins_blank text)) (not (ends_blank text)) (and_true (is_one_line text) (not (begins_blank text)) one (ap not (trimmed_begins text h))) (ap not (trimmed_ends text h))

-- a text of which the blanks at the ends were taken
pub ends_taken : (inner text : Bytes) → inner ≡ trimmed text → trimmed inner ≡ inner
ends_taken inner text is = ap trimmed is ∙ trimmed_again text ∙ sym is
