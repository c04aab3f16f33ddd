-- Reading a number digit by digit.
use Rattle.std.proofs.Common.{◌≡◌, ℕ, Bool, true, false, cond, Some, None, [], ◌∷◌, ◌&&◌, ◌+◌, ◌≤◌, ◌<◌, ◌^◌, ◌==◌, length, drop, get_or, refl, sym, ap, ◌∙◌, arith}
use Rattle.std.specs.Prelude.{nat_lt, is_some, unwrap_or}
use Rattle.std.specs.List.{list_all, fold}
use Rattle.std.specs.Char.{is_ascii_digit}
use Rattle.std.proofs.lemmas.List.{at_drop_all, at_drop_more}
use Rattle.std.proofs.lemmas.Bool.{false≢true}
use Rattle.std.proofs.lemmas.Bool.Decides.{nat_tests}
use Rattle.sc_tokens.specs.Bytes.{Bytes}
use Rattle.sc_tokens.specs.Numbers.{with_digit, is_digits, number_in, number_below, number_of}
use Rattle.sc_ascii.specs.Digits.{digit_after, digits_after}

grows_once : (n b : ℕ) → n ≤ with_digit n b
unfolding with_digit
grows_once n b = omega arith

-- a number grows with its digits
grows : (n : ℕ) (text : Bytes) → n ≤ fold with_digit n text
grows n [] = omega arith
grows n (b ∷ bs) = let once = grows_once n b in let more = grows (with_digit n b) bs in omega arith

taken : (d s : Bool) (w m : ℕ) → cond (d && s) (Some w) None ≡ Some m → (d ≡ true) × (w ≡ m)
taken true true w m e = (refl, ap (λ o. unwrap_or o w) e)
taken true false w m e = absurd (false≢true (ap is_some e))
taken false s w m e = absurd (false≢true (ap is_some e))

refused : (d s : Bool) (w : ℕ) → cond (d && s) (Some w) None ≡ None → (d ≡ true → s ≡ false)
refused true true w e = absurd (false≢true (ap is_some (sym e)))
refused true false w e = λ _. refl
refused false s w e = λ bad. absurd (false≢true bad)

small : (n : ℕ) → n < 2 ^ 64 → nat_lt n (2 ^ 64) ≡ true
small n h = grind (arith, nat_tests, h)

large : (n m : ℕ) → nat_lt n (2 ^ 64) ≡ false → n ≤ m → nat_lt m (2 ^ 64) ≡ false
large n m h below = grind (arith, nat_tests, h, below)

pub end_taken : (n : ℕ) → n < 2 ^ 64 → digits_after n [] ≡ Some n
unfolding digits_after
end_taken n h = ap (λ s. cond s (Some n) None) (small n h)

on : (d e a : Bool) (w : ℕ) → d ≡ true → cond ((d && e) && a) (Some w) None ≡ cond (e && a) (Some w) None
on true e a w h = refl
on false e a w h = absurd (false≢true h)

off : (d e a : Bool) (w : ℕ) → (d ≡ true → a ≡ false) → cond ((d && e) && a) (Some w) None ≡ None
off true true a w h = ap (λ s. cond s (Some w) None) (h refl)
off true false a w h = refl
off false e a w h = refl

pub step_taken : (n b m : ℕ) (bs : Bytes) → digit_after n b ≡ Some m → digits_after n (b ∷ bs) ≡ digits_after m bs
unfolding digit_after digits_after
step_taken n b m bs h =
    let is = taken (is_ascii_digit b) (nat_lt (with_digit n b) (2 ^ 64)) (with_digit n b) m h in
    on (is_ascii_digit b) (list_all is_ascii_digit bs) (nat_lt (fold with_digit (with_digit n b) bs) (2 ^ 64)) (fold with_digit (with_digit n b) bs) is.0
    ∙ ap (λ k. cond (list_all is_ascii_digit bs && nat_lt (fold with_digit k bs) (2 ^ 64)) (Some (fold with_digit k bs)) None) is.1

pub step_refused : (n b : ℕ) (bs : Bytes) → digit_after n b ≡ None → digits_after n (b ∷ bs) ≡ None
unfolding digit_after digits_after
step_refused n b bs h =
    let is = refused (is_ascii_digit b) (nat_lt (with_digit n b) (2 ^ 64)) (with_digit n b) h in
    off (is_ascii_digit b) (list_all is_ascii_digit bs) (nat_lt (fold with_digit (with_digit n b) bs) (2 ^ 64)) (fold with_digit (with_digit n b) bs)
    (λ digit. large (with_digit n b) (fold with_digit (with_digit n b) bs) (is digit) (grows (with_digit n b) bs))

-- ## The loop over the digits

pub loop_taken : (text : Bytes) (i n m : ℕ) → i < length text → digit_after n (get_or text i 0) ≡ Some m → digits_after m (drop (i + 1) text) ≡ digits_after n (drop i text)
loop_taken text i n m here h = sym (at_drop_more (digits_after n) text i 0 here ∙ step_taken n (get_or text i 0) m (drop (i + 1) text) h)

pub loop_refused : (text : Bytes) (i n : ℕ) → i < length text → digit_after n (get_or text i 0) ≡ None → digits_after n (drop i text) ≡ None
loop_refused text i n here h = at_drop_more (digits_after n) text i 0 here ∙ step_refused n (get_or text i 0) (drop (i + 1) text) h

pub loop_end : (text : Bytes) (i n : ℕ) → length text ≤ i → n < 2 ^ 64 → digits_after n (drop i text) ≡ Some n
loop_end text i n past h = at_drop_all (digits_after n) text i past ∙ end_taken n h

-- ## Whole numbers

pub number_of_none : (text : Bytes) → length text ≡ 0 → number_of text ≡ None
unfolding number_below is_digits
number_of_none text h = rw h refl

not_empty : (n : ℕ) → ¬ (n ≡ 0) → (n == 0) ≡ false
not_empty n h = grind (arith, nat_tests, h)

pub number_of_digits : (text : Bytes) → ¬ (length text ≡ 0) → number_of text ≡ digits_after 0 text
unfolding number_below is_digits number_in digits_after
number_of_digits text h = rw (not_empty (length text) h) refl
