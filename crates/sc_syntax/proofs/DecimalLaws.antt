-- What is written in decimal is read again.
use Rattle.std.proofs.Common.{◌≡◌, ℕ, true, false, cond, not, Some, None, [], ◌∷◌, ◌++◌, ◌&&◌, ◌+◌, ◌*◌, ◌-◌, ◌/◌, ◌%◌, ◌<◌, ◌≤◌, ◌^◌, ◌==◌, length, decimal, ap, ◌∙◌, arith}
use Rattle.std.specs.Prelude.{nat_lt}
use Rattle.std.specs.List.{list_all}
use Rattle.std.specs.Char.{is_ascii_digit}
use Rattle.std.proofs.lemmas.Fmt.{decimal_by_steps}
use Rattle.std.proofs.lemmas.List.Folds.{list_all-append}
use Rattle.std.proofs.lemmas.List.Sums.{fold-append}
use Rattle.std.proofs.lemmas.List.{length-append}
use Rattle.std.proofs.lemmas.Bool.Decides.{nat_tests}
use Rattle.sc_tokens.specs.Bytes.{Bytes}
use Rattle.sc_tokens.specs.Numbers.{is_digits, with_digit, number_in, number_below}

-- the digits write the number
record Writes (n : ℕ) (digits : Bytes) : Type 0 where
  long : 0 < length digits
  all : list_all is_ascii_digit digits ≡ true
  value : number_in digits ≡ n

digit : (k : ℕ) → k < 10 → is_ascii_digit (48 + k) ≡ true
digit k h = grind (arith, nat_tests, h)

one_digit : (k : ℕ) → k < 10 → list_all is_ascii_digit ((48 + k) ∷ []) ≡ true
one_digit k h = ap (λ b. b && true) (digit k h)

first_value : (k : ℕ) → number_in ((48 + k) ∷ []) ≡ k
unfolding number_in with_digit
first_value k = omega arith

next_value : (n : ℕ) (ds : Bytes) → number_in ds ≡ n / 10 → number_in (ds ++ (48 + n % 10) ∷ []) ≡ n
unfolding number_in with_digit
next_value n ds h =
    let whole : ◌≡◌ {A = ℕ} (n / 10 * 10 + (48 + n % 10 - 48)) n = omega arith in
    fold-append with_digit 0 ds ((48 + n % 10) ∷ []) ∙ ap (λ k. k * 10 + (48 + n % 10 - 48)) h ∙ whole

writes_one : (n : ℕ) → n < 10 → Writes n ((48 + n) ∷ [])
writes_one n h = record { long = omega arith; all = one_digit n h; value = first_value n }

below_ten : (n : ℕ) → n % 10 < 10
below_ten n = omega arith

writes_more : (n : ℕ) (ds : Bytes) → 10 ≤ n → Writes (n / 10) ds → Writes n (ds ++ ((48 + n % 10) ∷ []))
writes_more n ds big w = record {
  long = omega (arith, length-append ds ((48 + n % 10) ∷ []), w.long);
  all = list_all-append is_ascii_digit ds ((48 + n % 10) ∷ []) ∙ ap (λ b. b && list_all is_ascii_digit ((48 + n % 10) ∷ [])) w.all ∙ one_digit (n % 10) (below_ten n);
  value = next_value n ds w.value;
}

writes_decimal : (n : ℕ) → n < 2 ^ 64 → Writes n (decimal n)
writes_decimal n h = decimal_by_steps Writes writes_one writes_more n h

not_empty : (n : ℕ) → 0 < n → (n == 0) ≡ false
not_empty n h = grind (arith, nat_tests, h)

is_below : (n limit : ℕ) → n < limit → nat_lt n limit ≡ true
is_below n limit h = grind (arith, nat_tests, h)

read_again : (n limit : ℕ) (ds : Bytes) → Writes n ds → n < limit → number_below limit ds ≡ Some n
unfolding number_below is_digits
read_again n limit ds w small =
    ap (λ e. cond ((not e && list_all is_ascii_digit ds) && nat_lt (number_in ds) limit) (Some (number_in ds)) None) (not_empty (length ds) w.long)
    ∙ ap (λ a. cond (a && nat_lt (number_in ds) limit) (Some (number_in ds)) None) w.all
    ∙ ap (λ k. cond (nat_lt k limit) (Some k) None) w.value
    ∙ ap (λ b. cond b (Some n) None) (is_below n limit small)

-- a number below the limit, of at most 64 bits, is read from its decimal
pub decimal_is_read : (n limit : ℕ) → limit ≤ 2 ^ 64 → n < limit → number_below limit (decimal n) ≡ Some n
decimal_is_read n limit less small = read_again n limit (decimal n) (writes_decimal n (omega (arith, less, small))) small
