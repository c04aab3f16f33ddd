-- Laws of cuts: a text is what stands before the first sign, the sign, and what stands after it.
use Rattle.std.proofs.Common.{◌≡◌, ℕ, suc, Bool, true, false, cond, not, Some, None, List, [], ◌∷◌, ◌+◌, ◌==◌, length, drop, refl, sym, ap, ◌∙◌, arith}
use Rattle.std.specs.Prelude.{nat_lt, is_some, unwrap_or}
use Rattle.std.specs.List.{position_or_len}
use Rattle.std.specs.Option.{option_map}
use Rattle.std.proofs.lemmas.Bool.{false≢true}
use Rattle.std.proofs.lemmas.Bool.Decides.{nat_tests}
use Rattle.sc_tokens.specs.Bytes.{Bytes}
use Rattle.sc_tokens.specs.Cuts.{before, after, onto_first, pieces}

-- the first place of the sign, or the length
abbrev pub place_in : ℕ → Bytes → ℕ
place_in sign text = position_or_len (λ b. b == sign) text

one_more : (n : ℕ) → 1 + n ≡ suc n
one_more n = omega arith

pub some_same : {V : Type 0} (a b : V) → Some a ≡ Some b → a ≡ b
some_same a b e = ap (λ o. unwrap_or o a) e

pub none_some : {V : Type 0} (a : V) → ¬ (None ≡ Some a)
none_some a e = false≢true (ap is_some e)

pub before_here : (sign b : ℕ) (bs : Bytes) → (b == sign) ≡ true → before sign (b ∷ bs) ≡ []
unfolding before
before_here sign b bs h = rw h refl

pub before_on : (sign b : ℕ) (bs : Bytes) → (b == sign) ≡ false → before sign (b ∷ bs) ≡ b ∷ before sign bs
unfolding before
before_on sign b bs h = rw (h, one_more (place_in sign bs)) refl

positive : (n : ℕ) → nat_lt 0 (suc n) ≡ true
positive n = grind (arith, nat_tests)

pub after_here : (sign b : ℕ) (bs : Bytes) → (b == sign) ≡ true → after sign (b ∷ bs) ≡ Some bs
unfolding after
after_here sign b bs h =
    ap (λ c. option_map (λ place. drop (place + 1) (b ∷ bs)) (cond (nat_lt (cond (not c) (1 + place_in sign bs) 0) (suc (length bs))) (Some (cond (not c) (1 + place_in sign bs) 0)) None)) h
    ∙ ap (λ c. option_map (λ place. drop (place + 1) (b ∷ bs)) (cond c (Some 0) None)) (positive (length bs))

same_test : (k n : ℕ) → nat_lt (suc k) (suc n) ≡ nat_lt k n
same_test k n = grind (arith, nat_tests)

drop_on : (b k : ℕ) (bs : Bytes) → drop (suc k + 1) (b ∷ bs) ≡ drop (k + 1) bs
drop_on b k bs = let one : ◌≡◌ {A = ℕ} (suc k + 1) (suc (k + 1)) = omega arith in rw one refl

by_test : (t : Bool) (b k : ℕ) (bs : Bytes) → option_map (λ place. drop (place + 1) (b ∷ bs)) (cond t (Some (suc k)) None) ≡ option_map (λ place. drop (place + 1) bs) (cond t (Some k) None)
by_test true b k bs = ap Some (drop_on b k bs)
by_test false b k bs = refl

pub after_on : (sign b : ℕ) (bs : Bytes) → (b == sign) ≡ false → after sign (b ∷ bs) ≡ after sign bs
unfolding after
after_on sign b bs h =
    ap (λ c. option_map (λ place. drop (place + 1) (b ∷ bs)) (cond (nat_lt (cond (not c) (1 + place_in sign bs) 0) (suc (length bs))) (Some (cond (not c) (1 + place_in sign bs) 0)) None)) h
    ∙ ap (λ n. option_map (λ place. drop (place + 1) (b ∷ bs)) (cond (nat_lt n (suc (length bs))) (Some n) None)) (one_more (place_in sign bs))
    ∙ ap (λ c. option_map (λ place. drop (place + 1) (b ∷ bs)) (cond c (Some (suc (place_in sign bs))) None)) (same_test (place_in sign bs) (length bs))
    ∙ by_test (nat_lt (place_in sign bs) (length bs)) b (place_in sign bs) bs

-- ## Pieces

nothing : (sign : ℕ) → None ≡ after sign []
unfolding after
nothing sign = refl

empty : (sign : ℕ) → [] ≡ before sign []
unfolding before
empty sign = refl

onto : (b : ℕ) (f : Bytes) (fs : List Bytes) → onto_first b (f ∷ fs) ≡ (b ∷ f) ∷ fs
unfolding onto_first
onto b f fs = refl

-- where the sign stands, the first piece ends there
pub pieces_more : (sign : ℕ) (text rest : Bytes) → after sign text ≡ Some rest → pieces sign text ≡ before sign text ∷ pieces sign rest
unfolding pieces
pieces_more sign [] rest h = absurd (none_some rest (nothing sign ∙ h))
pieces_more sign (b ∷ bs) rest h = elim (b == sign) as (λ (t : Bool). (b == sign) ≡ t → cond t ([] ∷ pieces sign bs) (onto_first b (pieces sign bs)) ≡ before sign (b ∷ bs) ∷ pieces sign rest) [
  | true ↦ λ e. ap (λ r. [] ∷ pieces sign r) (some_same bs rest (sym (after_here sign b bs e) ∙ h)) ∙ ap (λ f. f ∷ pieces sign rest) (sym (before_here sign b bs e))
  | false ↦ λ e. ap (onto_first b) (pieces_more sign bs rest (sym (after_on sign b bs e) ∙ h)) ∙ onto b (before sign bs) (pieces sign rest) ∙ ap (λ f. f ∷ pieces sign rest) (sym (before_on sign b bs e))
] refl

-- where none stands, the text is the one piece
pub pieces_last : (sign : ℕ) (text : Bytes) → after sign text ≡ None → pieces sign text ≡ before sign text ∷ []
unfolding pieces
pieces_last sign [] h = ap (λ f. f ∷ []) (empty sign)
pieces_last sign (b ∷ bs) h = elim (b == sign) as (λ (t : Bool). (b == sign) ≡ t → cond t ([] ∷ pieces sign bs) (onto_first b (pieces sign bs)) ≡ before sign (b ∷ bs) ∷ []) [
  | true ↦ λ e. absurd (none_some bs (sym h ∙ after_here sign b bs e))
  | false ↦ λ e. ap (onto_first b) (pieces_last sign bs (sym (after_on sign b bs e) ∙ h)) ∙ onto b (before sign bs) [] ∙ ap (λ f. f ∷ []) (sym (before_on sign b bs e))
] refl
