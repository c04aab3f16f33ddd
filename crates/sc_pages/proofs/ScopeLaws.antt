-- A page that has no item of a scope.
use Rattle.std.proofs.Common.{◌≡◌, ◌≤◌, ◌==◌, ◌&&◌, ℕ, Bool, true, false, not, cond, List, [], ◌∷◌, ◌+◌, length, Some, None, position, nat_lt, refl, ap, sym, ◌∙◌, arith}
use Rattle.std.specs.List.{AllByRecursion, filter, list_any, position_or_len}
use Rattle.sc_pages.specs.declared.outline.Outline.{Outline}
use Rattle.sc_pages.specs.declared.scope.Scope.{Scope}
use Rattle.sc_pages.specs.declared.scope.Scope.TheVariants as scopes
use Rattle.sc_pages.specs.Outlines.{outline_of}
use Rattle.sc_pages.specs.Scopes.{is_in, may_have}
use Rattle.sc_pages.proofs.Basics.{any_none, below, each_more, false_true, filter_all, higher_test, lower_test, not_false}
use Rattle.sc_pages.proofs.OutlineLaws.{all_rest, all_within}

-- two tests that answer alike find the same place
alike_length : {X : Type 0} (p q : X → Bool) → ((x : X) → p x ≡ q x) → (xs : List X) → position_or_len p xs ≡ position_or_len q xs
alike_length p q same [] = refl
alike_length p q same (x ∷ xs) =
    ap (λ b. cond (not b) (1 + position_or_len p xs) 0) (same x) ∙ ap (λ n. cond (not (q x)) (1 + n) 0) (alike_length p q same xs)

alike : {X : Type 0} (p q : X → Bool) → ((x : X) → p x ≡ q x) → (xs : List X) → position p xs ≡ position q xs
alike p q same xs = ap (λ n. cond (nat_lt n (length xs)) (Some n) None) (alike_length p q same xs)

module _ {A : Type 0} (number : A → ℕ) (rests : A → Bool) where
  outside : (n : ℕ) (outline : Outline) (m : ℕ) → (not (nat_lt n outline.least) && not (nat_lt outline.most n)) ≡ false → outline.least ≤ m → m ≤ outline.most → (m == n) ≡ false
  outside n outline m e low high = by (nat_lt n outline.least) refl
    where
      by : (b : Bool) → nat_lt n outline.least ≡ b → (m == n) ≡ false
      by true lt = higher_test m n (omega (arith, low, below n outline.least lt))
      by false ge =
          let past : (not false && not (nat_lt outline.most n)) ≡ false = sym (ap (λ b. not b && not (nat_lt outline.most n)) ge) ∙ e in
          lower_test m n (omega (arith, high, below outline.most n (not_false (nat_lt outline.most n) past)))

  pub none_in : (scope : Scope) (items : List A) → may_have scope (outline_of number rests items) ≡ false → AllByRecursion (λ x. is_in number rests scope x ≡ false) items
  unfolding may_have
  none_in scopes.All items e = absurd (false_true (sym e))
  none_in scopes.Busy items e = each_more (λ x. rests x ≡ true) (λ x. not (rests x) ≡ false) (λ x is. ap not is) items (all_rest number rests items (not_false (outline_of number rests items).rests e))
  none_in (scopes.Number n) items e =
      each_more (λ x. ((outline_of number rests items).least ≤ number x) × (number x ≤ (outline_of number rests items).most)) (λ x. (number x == n) ≡ false)
      (λ x within. outside n (outline_of number rests items) (number x) e within.0 within.1) items (all_within number rests items)

  misses : (a b : Bool) → (a ≡ true → b ≡ true) → b ≡ false → a ≡ false
  misses true b more out = absurd (false_true (sym out ∙ more refl))
  misses false b more out = refl

  stays : (a b : Bool) → (a ≡ false → b ≡ true) → b ≡ false → a ≡ true
  stays true b more out = refl
  stays false b more out = absurd (false_true (sym out ∙ more refl))

  pub none_there : (passes : A → Bool) (scope : Scope) (items : List A) → ((x : A) → passes x ≡ true → is_in number rests scope x ≡ true) → may_have scope (outline_of number rests items) ≡ false → list_any passes items ≡ false
  none_there passes scope items all out =
      any_none passes items (each_more (λ x. is_in number rests scope x ≡ false) (λ x. passes x ≡ false) (λ x. misses (passes x) (is_in number rests scope x) (all x)) items (none_in scope items out))

  pub none_goes : (passes : A → Bool) (scope : Scope) (items : List A) → ((x : A) → passes x ≡ false → is_in number rests scope x ≡ true) → may_have scope (outline_of number rests items) ≡ false → filter passes items ≡ items
  none_goes passes scope items all out =
      filter_all passes items (each_more (λ x. is_in number rests scope x ≡ false) (λ x. passes x ≡ true) (λ x. stays (passes x) (is_in number rests scope x) (all x)) items (none_in scope items out))

  -- the first page that has one, by their outlines
  seen_is : (passes : A → Bool) (scope : Scope) → ((x : A) → passes x ≡ true → is_in number rests scope x ≡ true) → (page : List A) → (may_have scope (outline_of number rests page) && list_any passes page) ≡ list_any passes page
  seen_is passes scope all page = by (may_have scope (outline_of number rests page)) refl
    where
      by : (b : Bool) → may_have scope (outline_of number rests page) ≡ b → (b && list_any passes page) ≡ list_any passes page
      by true e = refl
      by false e = sym (none_there passes scope page all e)

  pub same_place : (passes : A → Bool) (scope : Scope) → ((x : A) → passes x ≡ true → is_in number rests scope x ≡ true) → (pages : List (List A))
      → position (λ page. may_have scope (outline_of number rests page) && list_any passes page) pages ≡ position (list_any passes) pages
  same_place passes scope all pages = alike (λ page. may_have scope (outline_of number rests page) && list_any passes page) (list_any passes) (seen_is passes scope all) pages
