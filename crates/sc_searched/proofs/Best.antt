-- Of some final responses the best is one, and is final.
use Rattle.std.proofs.Common.{◌≡◌, ◌<◌, ℕ, zero, suc, ◌+◌, Bool, true, false, Option, None, Some, List, [], ◌∷◌, refl, sym, ap, subst, ◌∙◌, arith}
use Rattle.std.specs.Prelude.{◌==◌, ◌&&◌, ◌||◌, cond, get_or, length, nat_le, nat_lt, not, position, slice_get}
use Rattle.std.specs.List.{list_all, list_any, position_or_len}
use Rattle.std.specs.Option.{option_or}
use Rattle.std.proofs.lemmas.Bool.Decides.{nat_tests}
use Rattle.std.proofs.lemmas.List.Quantifiers.{position-Some}
use Rattle.std.proofs.lemmas.Option.{slice_get-get_or}
use Rattle.sc_value.specs.declared.message.Response.{Response}
use Rattle.sc_value.specs.declared.parts.Field.{Field}
use Rattle.sc_model.specs.BestResponses.{best_of, best_response, class_of, response_onward as forwarded, forwarded_code, forwarded_with, challenges_beside as gathered, is_global, is_lowest}
use Rattle.sc_model.specs.SessionStates.{is_final}
use Rattle.sc_lasting.specs.Lasting.{All}

-- each of these is final
abbrev pub AreFinal : List Response → Type 0
AreFinal responses = All (λ (response : Response). is_final response.code ≡ true) responses

-- ## The first that passes a test

one-more : (a b : ℕ) → a < b → 1 + a < suc b
one-more a b less = omega (arith, less)

none-yet : (n : ℕ) → 0 < suc n
none-yet n = omega arith

below : (test : Response → Bool) (xs : List Response) → list_any test xs ≡ true → position_or_len test xs < length xs
below test [] is = cc
below test (x ∷ xs) is = by (test x) is (λ later. one-more (position_or_len test xs) (length xs) (below test xs later)) (none-yet (length xs))
  where
    by : (b : Bool) → (b || list_any test xs) ≡ true → (list_any test xs ≡ true → 1 + position_or_len test xs < suc (length xs)) → 0 < suc (length xs)
        → cond (not b) (1 + position_or_len test xs) 0 < suc (length xs)
    by true is more none = none
    by false is more none = more is

less-is : (a b : ℕ) → a < b → nat_lt a b ≡ true
less-is a b less = grind (arith, nat_tests, less)

passes-at : (test : Response → Bool) (xs : List Response) → list_any test xs ≡ true → position test xs ≡ Some (position_or_len test xs)
passes-at test xs is = rw (less-is (position_or_len test xs) (length xs) (below test xs is)) refl

-- ## The lowest class

same-le : (n : ℕ) → nat_le n n ≡ true
same-le n = grind (arith, nat_tests)

then-le : (a b c : ℕ) → nat_le a b ≡ true → nat_le b c ≡ true → nat_le a c ≡ true
then-le a b c p q = grind (arith, nat_tests, p, q)

other-le : (a b : ℕ) → nat_le a b ≡ false → nat_le b a ≡ true
other-le a b p = grind (arith, nat_tests, p)

both : (a b : Bool) → a ≡ true → b ≡ true → (a && b) ≡ true
both a b p q = rw (p, q) refl

first-of : (a b : Bool) → (a && b) ≡ true → a ≡ true
first-of true b is = refl
first-of false b is = cc

second-of : (a b : Bool) → (a && b) ≡ true → b ≡ true
second-of true b is = is
second-of false b is = cc

or-second : (a b : Bool) → b ≡ true → (a || b) ≡ true
or-second true b is = refl
or-second false b is = is

all-lower : (a b : ℕ) (xs : List Response) → nat_le a b ≡ true → list_all (λ other. nat_le b (class_of other)) xs ≡ true → list_all (λ other. nat_le a (class_of other)) xs ≡ true
all-lower a b [] le all = refl
all-lower a b (x ∷ xs) le all =
    both (nat_le a (class_of x)) (list_all (λ other. nat_le a (class_of other)) xs)
    (then-le a b (class_of x) le (first-of (nat_le b (class_of x)) (list_all (λ other. nat_le b (class_of other)) xs) all))
    (all-lower a b xs le (second-of (nat_le b (class_of x)) (list_all (λ other. nat_le b (class_of other)) xs) all))

-- one of the list has no other below its class
record HasLowest (xs : List Response) : Type 0 where
  lowest : Response
  is : list_all (λ other. nat_le (class_of lowest) (class_of other)) xs ≡ true
  among : (test : Response → Bool) → test lowest ≡ true → list_any test xs ≡ true

lowest-of : (x : Response) (xs : List Response) → HasLowest (x ∷ xs)
lowest-of x [] = record {
  lowest = x;
  is = both (nat_le (class_of x) (class_of x)) true (same-le (class_of x)) refl;
  among = λ test is. rw is refl;
}
lowest-of x (y ∷ ys) = by (lowest-of y ys) (nat_le (class_of x) (class_of (lowest-of y ys).lowest)) refl
  where
    by : (low : HasLowest (y ∷ ys)) (b : Bool) → nat_le (class_of x) (class_of low.lowest) ≡ b → HasLowest (x ∷ y ∷ ys)
    by low true le = record {
      lowest = x;
      is = both (nat_le (class_of x) (class_of x)) _ (same-le (class_of x)) (all-lower (class_of x) (class_of low.lowest) (y ∷ ys) le low.is);
      among = λ test is. rw is refl;
    }
    by low false le = record {
      lowest = low.lowest;
      is = both (nat_le (class_of low.lowest) (class_of x)) _ (other-le (class_of x) (class_of low.lowest) le) low.is;
      among = λ test is. or-second (test x) (list_any test (y ∷ ys)) (low.among test is);
    }

some-lowest : (x : Response) (xs : List Response) → list_any (is_lowest (x ∷ xs)) (x ∷ xs) ≡ true
unfolding is_lowest
some-lowest x xs =
    let low = lowest-of x xs in low.among (λ response. list_all (λ other. nat_le (class_of response) (class_of other)) (x ∷ xs)) low.is

-- ## What is forwarded

some-is : (x response : Response) → ◌≡◌ {A = Option Response} (Some x) (Some response) → x ≡ response
some-is x response is = cc

final-at : (xs : List Response) (i : ℕ) (response : Response) → slice_get xs i ≡ Some response → AreFinal xs → is_final response.code ≡ true
unfolding All
final-at [] i response at all = cc
final-at (x ∷ xs) zero response at all = subst (λ (r : Response). is_final r.code ≡ true) (some-is x response at) all.0
final-at (x ∷ xs) (suc i) response at all = final-at xs i response at all.1

forwarded-final : (code : ℕ) → is_final code ≡ true → is_final (forwarded_code code) ≡ true
unfolding forwarded_code
forwarded-final code final = by (code == 503)
  where
    by : (b : Bool) → is_final (cond b 500 code) ≡ true
    by true = refl
    by false = final

with-code : (fields : List Field) (response : Response) → (forwarded_with fields response).code ≡ forwarded_code response.code
unfolding forwarded_with
with-code fields response = refl

-- the best of them, as it is forwarded
pub record HasBest (xs : List Response) : Type 0 where
  pub response : Response
  pub is : best_response xs ≡ Some response
  pub final : is_final response.code ≡ true

at-place : (xs : List Response) (i : ℕ) (response : Response) → best_of xs ≡ Some i → slice_get xs i ≡ Some response → AreFinal xs → HasBest xs
unfolding best_response forwarded
at-place xs i response best at all = record {
  response = forwarded_with (gathered xs i) response;
  is = rw (best, at) refl;
  final = subst (λ (code : ℕ). is_final code ≡ true) (sym (with-code (gathered xs i) response)) (forwarded-final response.code (final-at xs i response at all));
}

lowest-place : (x : Response) (xs : List Response) → AreFinal (x ∷ xs) → position is_global (x ∷ xs) ≡ None → HasBest (x ∷ xs)
unfolding best_of
lowest-place x xs all none =
    let lowest : ℕ = position_or_len (is_lowest (x ∷ xs)) (x ∷ xs) in
    at-place (x ∷ xs) lowest (get_or (x ∷ xs) lowest x)
    (ap (λ (f : Option ℕ). option_or f (position (is_lowest (x ∷ xs)) (x ∷ xs))) none ∙ passes-at (is_lowest (x ∷ xs)) (x ∷ xs) (some-lowest x xs))
    (slice_get-get_or (x ∷ xs) lowest x (below (is_lowest (x ∷ xs)) (x ∷ xs) (some-lowest x xs))) all

global-place : (x : Response) (xs : List Response) (i : ℕ) → AreFinal (x ∷ xs) → position is_global (x ∷ xs) ≡ Some i → HasBest (x ∷ xs)
unfolding best_of
global-place x xs i all is =
    at-place (x ∷ xs) i (get_or (x ∷ xs) i x) (ap (λ (f : Option ℕ). option_or f (position (is_lowest (x ∷ xs)) (x ∷ xs))) is)
    (slice_get-get_or (x ∷ xs) i x (position-Some is_global (x ∷ xs) i x is).0) all

pub best-is : (x : Response) (xs : List Response) → AreFinal (x ∷ xs) → HasBest (x ∷ xs)
best-is x xs all = by (position is_global (x ∷ xs)) refl
  where
    by : (found : Option ℕ) → position is_global (x ∷ xs) ≡ found → HasBest (x ∷ xs)
    by (Some i) is = global-place x xs i all is
    by None is = lowest-place x xs all is
