-- Dropping blanks, byte by byte.
use Rattle.std.proofs.Common.{◌≡◌, ℕ, true, false, [], ◌∷◌, ◌+◌, ◌<◌, ◌≤◌, length, take, drop, ◌-◌, arith, refl, sym, ◌∙◌, get_or}
use Rattle.std.proofs.lemmas.List.{at_drop_all, at_drop_more, take_all, length-drop}
use Rattle.sc_tokens.specs.Tokens.{is_blank}
use Rattle.sc_tokens.specs.Bytes.{Bytes}
use Rattle.sc_dar.specs.Lines.{drop_blanks}

first_blank : (b : ℕ) (bs : Bytes) → is_blank b ≡ true → drop_blanks (b ∷ bs) ≡ drop_blanks bs
unfolding drop_blanks
first_blank b bs h = rw h refl

first_other : (b : ℕ) (bs : Bytes) → is_blank b ≡ false → drop_blanks (b ∷ bs) ≡ b ∷ bs
unfolding drop_blanks
first_other b bs h = rw h refl

none : drop_blanks [] ≡ []
unfolding drop_blanks
none = refl

pub blank_dropped : (text : Bytes) (i : ℕ) → i < length text → is_blank (get_or text i 0) ≡ true → drop_blanks (drop (i + 1) text) ≡ drop_blanks (drop i text)
blank_dropped text i here h = sym (at_drop_more drop_blanks text i 0 here ∙ first_blank (get_or text i 0) (drop (i + 1) text) h)

pub other_kept : (text : Bytes) (i : ℕ) → i < length text → is_blank (get_or text i 0) ≡ false → drop_blanks (drop i text) ≡ drop_blanks text → take (length text - i) (drop i text) ≡ drop_blanks text
other_kept text i here h so_far =
    take_all (length text - i) (drop i text) (omega (arith, length-drop i text))
    ∙ at_drop_more (λ l. l) text i 0 here ∙ sym (at_drop_more drop_blanks text i 0 here ∙ first_other (get_or text i 0) (drop (i + 1) text) h) ∙ so_far

pub all_dropped : (text : Bytes) (i : ℕ) → length text ≤ i → [] ≡ drop_blanks (drop i text)
all_dropped text i past = sym (at_drop_all drop_blanks text i past ∙ none)
