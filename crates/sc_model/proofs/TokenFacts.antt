-- Texts of token bytes: they are tokens, and values of headers. Decimals are such, and so are the names that are
-- made of them.
use Rattle.std.proofs.Common.{◌≡◌, ℕ, zero, suc, Bool, true, false, cond, not, List, [], ◌∷◌, ◌++◌, ◌&&◌, ◌==◌, ◌+◌, ◌-◌, ◌/◌, ◌%◌, ◌<◌, length, decimal, refl, sym, ap, ◌∙◌, arith}
use Rattle.std.specs.List.{list_all, slice_get}
use Rattle.std.specs.Option.{option_map_or}
use Rattle.std.proofs.lemmas.Bool.{false≢true}
use Rattle.std.proofs.lemmas.Bool.Decides.{nat_tests}
use Rattle.std.specs.Prelude.{nat_lt}
use Rattle.std.specs.Fmt.{digit_glyph, digits, digits_onto}
use Rattle.std.proofs.lemmas.List.Folds.{list_all-append}
use Rattle.sc_tokens.specs.Tokens.{is_token, is_token_byte, is_value, is_one_line, is_line_break, is_blank, begins_blank, ends_blank}
use Rattle.sc_tokens.specs.HeaderTokens.{is_param_text}
use Rattle.sc_value.specs.ParamRules.{AreHeaderParams}
use Rattle.sc_model.specs.Generated.{answer_tag, mark, branch_of, cookie, call_of, caller, name_and_value as valued}
use Rattle.sc_model.proofs.ParamFacts.{token_is_value, token_is_line}

-- ## Classes of bytes

both : (a b : Bool) → (a && b) ≡ true → (a ≡ true) × (b ≡ true)
both true b h = (refl, h)
both false b h = absurd (false≢true h)

pub and_true : (a b : Bool) → a ≡ true → b ≡ true → (a && b) ≡ true
and_true a b h g = ap (λ t. t && b) h ∙ g

same_number : (x y : ℕ) → (x == y) ≡ true → x ≡ y
same_number x y h = grind (arith, nat_tests, h)

-- a byte of the class isn't one outside it
pub differs : (p : ℕ → Bool) (b sign : ℕ) → p sign ≡ false → p b ≡ true → (b == sign) ≡ false
differs p b sign h g = elim (b == sign) as (λ (t : Bool). (b == sign) ≡ t → t ≡ false) [
  | true ↦ λ e. sym (sym h ∙ ap p (sym (same_number b sign e)) ∙ g)
  | false ↦ λ e. refl
] refl

pub all_weaker : (p q : ℕ → Bool) → ((b : ℕ) → p b ≡ true → q b ≡ true) → (text : List ℕ) → list_all p text ≡ true → list_all q text ≡ true
all_weaker p q weaker [] h = refl
all_weaker p q weaker (b ∷ bs) h = let is = both (p b) (list_all p bs) h in and_true (q b) (list_all q bs) (weaker b is.0) (all_weaker p q weaker bs is.1)

-- at no place of the text stands a byte that is outside the class
pub none_at : (p q : ℕ → Bool) → ((b : ℕ) → p b ≡ true → q b ≡ false) → (text : List ℕ) (place : ℕ) → list_all p text ≡ true → option_map_or q (slice_get text place) false ≡ false
none_at p q outside [] place h = refl
none_at p q outside (b ∷ bs) zero h = outside b (both (p b) (list_all p bs) h).0
none_at p q outside (b ∷ bs) (suc place) h = none_at p q outside bs place (both (p b) (list_all p bs) h).1

-- the digits of a number are of a class that has the ten digits
module _ (p : ℕ → Bool) (digit : (k : ℕ) → k < 10 → p (48 + k) ≡ true) where
  last : (n : ℕ) → p (digit_glyph false (n % 10)) ≡ true
  last n = ap (λ t. p (cond t (48 + n % 10) (87 + n % 10))) below ∙ digit (n % 10) (omega arith)
    where
      below : nat_lt (n % 10) 10 ≡ true
      below = grind (arith, nat_tests)

  onto : (k n : ℕ) (digits : List ℕ) → list_all p digits ≡ true → list_all p (digits_onto k 10 false n digits) ≡ true
  onto zero n digits h = h
  onto (suc k) n digits h =
      let more = and_true (p (digit_glyph false (n % 10))) (list_all p digits) (last n) h in
      elim (n / 10 == 0) as (λ (t : Bool). list_all p (cond t (digit_glyph false (n % 10) ∷ digits) (digits_onto k 10 false (n / 10) (digit_glyph false (n % 10) ∷ digits))) ≡ true) [
        | true ↦ more
        | false ↦ onto k (n / 10) (digit_glyph false (n % 10) ∷ digits) more
      ]

  pub decimal_of_class : (n : ℕ) → list_all p (decimal n) ≡ true
  unfolding digits
  decimal_of_class n = onto 64 n [] refl

-- ## Tokens

token_digit : (k : ℕ) → k < 10 → is_token_byte (48 + k) ≡ true
unfolding is_token_byte
token_digit k h = grind (arith, nat_tests, h)

pub decimal_token : (n : ℕ) → list_all is_token_byte (decimal n) ≡ true
decimal_token = decimal_of_class is_token_byte token_digit

pub tokens_joined : (front back : List ℕ) → list_all is_token_byte front ≡ true → list_all is_token_byte back ≡ true → list_all is_token_byte (front ++ back) ≡ true
tokens_joined front back h g = list_all-append is_token_byte front back ∙ and_true (list_all is_token_byte front) (list_all is_token_byte back) h g

not_zero : (n : ℕ) → not (suc n == 0) ≡ true
not_zero n = grind (arith, nat_tests)

-- a token with more bytes of tokens behind it
pub token_front : (front back : List ℕ) → is_token front ≡ true → list_all is_token_byte back ≡ true → is_token (front ++ back) ≡ true
unfolding is_token
token_front [] back h g = absurd (false≢true h)
token_front (b ∷ bs) back h g =
    and_true (not (suc (length (bs ++ back)) == 0)) (list_all is_token_byte (b ∷ bs ++ back)) (not_zero (length (bs ++ back))) (tokens_joined (b ∷ bs) back (both (not (suc (length bs) == 0)) (list_all is_token_byte (b ∷ bs)) h).1 g)

-- ## Values of headers

not_break : (b : ℕ) → is_token_byte b ≡ true → not (is_line_break b) ≡ true
unfolding is_line_break is_token_byte
not_break b h = rw (differs is_token_byte b 13 refl h, differs is_token_byte b 10 refl h, differs is_token_byte b 0 refl h) refl

not_blank : (b : ℕ) → is_token_byte b ≡ true → is_blank b ≡ false
unfolding is_blank is_token_byte
not_blank b h = rw (differs is_token_byte b 32 refl h, differs is_token_byte b 9 refl h) refl

not_false : (t : Bool) → t ≡ false → not t ≡ true
not_false t h = ap not h

pub token_is_header_value : (text : List ℕ) → is_token text ≡ true → is_value text ≡ true
unfolding is_token is_value is_one_line begins_blank ends_blank
token_is_header_value text h =
    let all = (both (not (length text == 0)) (list_all is_token_byte text) h).1 in
    let line = all_weaker is_token_byte (λ b. not (is_line_break b)) not_break text all in
    let front = not_false (begins_blank text) (none_at is_token_byte is_blank not_blank text 0 all) in
    let back = not_false (ends_blank text) (none_at is_token_byte is_blank not_blank text (length text - 1) all) in
    and_true (is_one_line text && not (begins_blank text)) (not (ends_blank text)) (and_true (is_one_line text) (not (begins_blank text)) line front) back

-- ## The names of the script that is made

pub call_token : (i : ℕ) → is_token (call_of i) ≡ true
unfolding call_of caller is_token is_token_byte
call_token i = token_front caller (decimal i) refl (decimal_token i)

pub call_value : (i : ℕ) → is_value (call_of i) ≡ true
call_value i = token_is_header_value (call_of i) (call_token i)

answer_tag_token : (i : ℕ) → is_token (answer_tag i) ≡ true
unfolding answer_tag mark is_token is_token_byte
answer_tag_token i = token_front (mark ++ decimal i) (45 ∷ 49 ∷ []) (token_front mark (decimal i) refl (decimal_token i)) refl

pub answer_token : (i : ℕ) → is_param_text (answer_tag i) ≡ true
answer_token i = token_is_value (answer_tag i) (answer_tag_token i)

pub answer_line : (i : ℕ) → is_one_line (answer_tag i) ≡ true
answer_line i = token_is_line (answer_tag i) (answer_tag_token i)

branch_of_token : (i : ℕ) (letter : List ℕ) → list_all is_token_byte letter ≡ true → is_token (branch_of i letter) ≡ true
unfolding branch_of cookie is_token is_token_byte
branch_of_token i letter h = token_front (cookie ++ decimal i) letter (token_front cookie (decimal i) refl (decimal_token i)) h

pub branch_token : (i : ℕ) (letter : List ℕ) → list_all is_token_byte letter ≡ true → is_param_text (branch_of i letter) ≡ true
branch_token i letter h = token_is_value (branch_of i letter) (branch_of_token i letter h)

pub branch_line : (i : ℕ) (letter : List ℕ) → list_all is_token_byte letter ≡ true → is_one_line (branch_of i letter) ≡ true
branch_line i letter h = token_is_line (branch_of i letter) (branch_of_token i letter h)

-- a parameter whose name is a token and whose value is a parameter's
pub valued_kept : (name value : List ℕ) → is_token name ≡ true → is_param_text value ≡ true → is_one_line value ≡ true → AreHeaderParams (valued name value ∷ [])
unfolding valued AreHeaderParams
valued_kept name value h g l = (((h, g), l), tt)
