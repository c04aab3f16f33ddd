-- Laws of numbers: a number below a limit is a number of 64 bits that is below it.
use Rattle.std.proofs.Common.{◌≡◌, ℕ, Bool, true, false, cond, Some, None, ◌&&◌, ◌<◌, ◌≤◌, ◌^◌, refl, sym, ap, ◌∙◌, arith}
use Rattle.std.specs.Prelude.{nat_lt, is_some, unwrap_or}
use Rattle.std.proofs.lemmas.Bool.{false≢true}
use Rattle.std.proofs.lemmas.Bool.Decides.{nat_tests}
use Rattle.sc_tokens.specs.Bytes.{Bytes}
use Rattle.sc_tokens.specs.Numbers.{is_digits, number_in, number_below, number_of}

taken : (d s : Bool) (w m : ℕ) → cond (d && s) (Some w) None ≡ Some m → (d ≡ true) × (w ≡ m)
taken true true w m e = (refl, ap (λ o. unwrap_or o w) e)
taken true false w m e = absurd (false≢true (ap is_some e))
taken false s w m e = absurd (false≢true (ap is_some e))

is_below : (n limit : ℕ) → n < limit → nat_lt n limit ≡ true
is_below n limit h = grind (arith, nat_tests, h)

not_below : (n limit : ℕ) → ¬ (n < limit) → nat_lt n limit ≡ false
not_below n limit h = grind (arith, nat_tests, h)

narrow : (n limit : ℕ) → limit ≤ 2 ^ 64 → nat_lt n (2 ^ 64) ≡ false → nat_lt n limit ≡ false
narrow n limit less h = grind (arith, nat_tests, less, h)

none_of : (d s t : Bool) (w : ℕ) → (s ≡ false → t ≡ false) → cond (d && s) (Some w) None ≡ None → cond (d && t) (Some w) None ≡ None
none_of true true t w h e = absurd (false≢true (ap is_some (sym e)))
none_of true false t w h e = ap (λ s. cond s (Some w) None) (h refl)
none_of false s t w h e = refl

pub below_none : (limit : ℕ) (text : Bytes) → limit ≤ 2 ^ 64 → number_of text ≡ None → number_below limit text ≡ None
unfolding number_below
below_none limit text less h = none_of (is_digits text) (nat_lt (number_in text) (2 ^ 64)) (nat_lt (number_in text) limit) (number_in text) (narrow (number_in text) limit less) h

below_test : (limit : ℕ) (text : Bytes) (n : ℕ) → number_of text ≡ Some n → number_below limit text ≡ cond (nat_lt n limit) (Some n) None
unfolding number_below
below_test limit text n h =
    let is = taken (is_digits text) (nat_lt (number_in text) (2 ^ 64)) (number_in text) n h in
    ap (λ d. cond (d && nat_lt (number_in text) limit) (Some (number_in text)) None) is.0 ∙ ap (λ k. cond (nat_lt k limit) (Some k) None) is.1

pub below_small : (limit : ℕ) (text : Bytes) (n : ℕ) → number_of text ≡ Some n → n < limit → number_below limit text ≡ Some n
below_small limit text n h small = below_test limit text n h ∙ ap (λ b. cond b (Some n) None) (is_below n limit small)

pub below_large : (limit : ℕ) (text : Bytes) (n : ℕ) → number_of text ≡ Some n → ¬ (n < limit) → number_below limit text ≡ None
below_large limit text n h large = below_test limit text n h ∙ ap (λ b. cond b (Some n) None) (not_below n limit large)
