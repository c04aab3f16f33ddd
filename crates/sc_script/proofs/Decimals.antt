-- A decimal of a script is a number of 64 bits that is small enough and has no leading zero.
use Rattle.std.proofs.Common.{◌≡◌, ℕ, Bool, true, false, cond, Some, None, ◌&&◌, ◌<◌, ◌^◌, refl, sym, ap, arith}
use Rattle.std.specs.Prelude.{nat_lt, nat_le, is_some, unwrap_or}
use Rattle.std.proofs.lemmas.Bool.{false≢true}
use Rattle.std.proofs.lemmas.Bool.Decides.{nat_tests}
use Rattle.sc_tokens.specs.Bytes.{Bytes}
use Rattle.sc_tokens.specs.Numbers.{is_digits, number_in, number_below, number_of}
use Rattle.sc_script.specs.ScriptTexts.{decimal_upto, is_plain}

taken : (d s : Bool) (w m : ℕ) → cond (d && s) (Some w) None ≡ Some m → (d ≡ true) × (w ≡ m)
taken true true w m e = (refl, ap (λ o. unwrap_or o w) e)
taken true false w m e = absurd (false≢true (ap is_some e))
taken false s w m e = absurd (false≢true (ap is_some e))

-- what doesn't fit 64 bits isn't small enough
large : (n most : ℕ) → most < 2 ^ 64 → nat_lt n (2 ^ 64) ≡ false → nat_le n most ≡ false
large n most few e = grind (arith, nat_tests, few, e)

none_of : (d s t p : Bool) (w : ℕ) → (s ≡ false → t ≡ false) → cond (d && s) (Some w) None ≡ None → cond (d && (t && p)) (Some w) None ≡ None
none_of true true t p w h e = absurd (false≢true (ap is_some (sym e)))
none_of true false t p w h e = ap (λ s. cond (s && p) (Some w) None) (h refl)
none_of false s t p w h e = refl

pub upto_none : (most : ℕ) (text : Bytes) → most < 2 ^ 64 → number_of text ≡ None → decimal_upto most text ≡ None
unfolding number_below decimal_upto
upto_none most text few e = none_of (is_digits text) (nat_lt (number_in text) (2 ^ 64)) (nat_le (number_in text) most) (is_plain text) (number_in text) (large (number_in text) most few) e

pub upto_some : (most : ℕ) (text : Bytes) (n : ℕ) → number_of text ≡ Some n → decimal_upto most text ≡ cond (nat_le n most && is_plain text) (Some n) None
unfolding number_below decimal_upto
upto_some most text n e =
    let is = taken (is_digits text) (nat_lt (number_in text) (2 ^ 64)) (number_in text) n e in
    rw (is.0, is.1) refl
