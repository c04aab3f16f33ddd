-- Runs of numbers at which items rest.
use Rattle.std.proofs.Common.{◌≡◌, ◌+◌, ◌<◌, ◌≤◌, ◌==◌, ◌&&◌, ◌||◌, ℕ, Bool, true, false, not, cond, List, [], ◌∷◌, ◌++◌, Some, None, zero, suc, length, get_or, take, drop, T, is_some, unwrap_or, nat_lt, slice_get, refl, ap, sym, subst, ◌∙◌, arith}
use Rattle.std.specs.List.{AllByRecursion, filter, find}
use Rattle.std.specs.Option.{option_map_or}
use Rattle.sc_queue.specs.Joined.{joined}
use Rattle.sc_pages.specs.declared.outline.Outline.{Outline}
use Rattle.sc_pages.specs.declared.runs.Run.{Run}
use Rattle.sc_pages.specs.Outlines.{outline_of}
use Rattle.sc_pages.specs.Runs.{AllHold, AllRest, AreBelow, Holds, are_within, is_within, past_of, rests_at, run_of}
use Rattle.sc_pages.proofs.PagesLaws.{split, taken}
use Rattle.sc_pages.proofs.Basics.{at_least, at_least_test, below, below_test, each_more, false_true, filter_all, find_none, left, lower_test, not_true, right}
use Rattle.sc_pages.proofs.OutlineLaws.{all_there, all_within}

some_is : {A : Type 0} (x y : A) → Some x ≡ Some y → x ≡ y
some_is x y e = ap (λ o. unwrap_or o x) e

none_some : {A : Type 0} (y : A) → None ≡ Some y → ⊥
none_some y e = subst (λ o. T (is_some o)) (sym e) tt

-- ## Pages within a run

within_test : (run : Run) (n : ℕ) → run.from ≤ n → n < run.to → is_within n run ≡ true
within_test run n low high =
    ap (λ b. not b && nat_lt n run.to) (at_least_test n run.from low) ∙ below_test n run.to high

pub within_one : (runs : List Run) (at : ℕ) (run : Run) (n : ℕ) → slice_get runs at ≡ Some run → run.from ≤ n → n < run.to → are_within runs n ≡ true
within_one [] at run n is low high = absurd (none_some run is)
within_one (r ∷ runs) zero run n is low high =
    ap (λ b. b || are_within runs n) (ap (is_within n) (some_is r run is) ∙ within_test run n low high)
within_one (r ∷ runs) (suc at) run n is low high = by (is_within n r) (within_one runs at run n is low high)
  where
    by : (b : Bool) → are_within runs n ≡ true → (b || are_within runs n) ≡ true
    by true later = refl
    by false later = later

-- at a number of one of the runs stands an item that rests
pub rests_within : {A : Type 0} (number : A → ℕ) (rests : A → Bool) (items : List A) (runs : List Run) (n : ℕ) → AllRest number rests items runs → are_within runs n ≡ true → rests_at number rests n items ≡ true
rests_within number rests items [] n all within = absurd (false_true within)
rests_within number rests items (run ∷ runs) n all within = by (rests_within number rests items runs n all.1) (is_within n run) refl
  where
    by : (are_within runs n ≡ true → rests_at number rests n items ≡ true) → (b : Bool) → is_within n run ≡ b → rests_at number rests n items ≡ true
    by more true here = all.0.each n (at_least n run.from (not_true (nat_lt n run.from) (left (not (nat_lt n run.from)) (nat_lt n run.to) here))) (below n run.to (right (not (nat_lt n run.from)) (nat_lt n run.to) here))
    by more false later = more (sym (ap (λ b. b || are_within runs n) later) ∙ within)

pub none_goes : {A : Type 0} (number : A → ℕ) (rests : A → Bool) (p : A → Bool) (runs : List Run) (items : List A) → ((x : A) → are_within runs (number x) ≡ true → p x ≡ true)
    → ((n : ℕ) → (outline_of number rests items).least ≤ n → n ≤ (outline_of number rests items).most → are_within runs n ≡ true) → filter p items ≡ items
none_goes number rests p runs items all covered =
    filter_all p items (each_more (λ x. ((outline_of number rests items).least ≤ number x) × (number x ≤ (outline_of number rests items).most)) (λ x. p x ≡ true) (λ x within. all x (covered (number x) within.0 within.1)) items (all_within number rests items))

-- ## Runs of all pages

found_before : {A : Type 0} (number : A → ℕ) (rests : A → Bool) (n : ℕ) (xs ys : List A) → rests_at number rests n xs ≡ true → rests_at number rests n (xs ++ ys) ≡ true
found_before number rests n [] ys e = absurd (false_true e)
found_before number rests n (x ∷ xs) ys e = by (found_before number rests n xs ys) (number x == n) e
  where
    by : (rests_at number rests n xs ≡ true → rests_at number rests n (xs ++ ys) ≡ true) → (b : Bool) → option_map_or rests (cond b (Some x) (find (λ y. number y == n) xs)) false ≡ true → option_map_or rests (cond b (Some x) (find (λ y. number y == n) (xs ++ ys))) false ≡ true
    by later true e = e
    by later false e = later e

pub all_rest : {A : Type 0} (number : A → ℕ) (rests : A → Bool) (front newest : List A) (runs : List Run) → AllRest number rests front runs → AllRest number rests (front ++ newest) runs
all_rest number rests front newest runs all =
    each_more (Holds (λ n. rests_at number rests n front)) (Holds (λ n. rests_at number rests n (front ++ newest))) (λ run rest. record { each = λ n low high. found_before number rests n front newest (rest.each n low high) }) runs all

-- ## One run more

pub none_hold : (test : ℕ → Bool) → Holds test (record { from = 0; to = 0 })
none_hold test = record { each = λ n low high. absurd (omega (arith, high)) }

pub joint_hold : (test : ℕ → Bool) (run next : Run) → run.to ≡ next.from → Holds test run → Holds test next → Holds test (record { from = run.from; to = next.to })
joint_hold test run next meet before behind = record { each = λ n low high. by n low high (nat_lt n run.to) refl }
  where
    by : (n : ℕ) → run.from ≤ n → n < next.to → (b : Bool) → nat_lt n run.to ≡ b → test n ≡ true
    by n low high true e = before.each n low (below n run.to e)
    by n low high false e = behind.each n (omega (arith, meet, at_least n run.to e)) high

pub more_hold : (test : ℕ → Bool) (runs : List Run) (run : Run) → AllHold test runs → Holds test run → AllHold test (runs ++ run ∷ [])
more_hold test [] run all one = (one, tt)
more_hold test (r ∷ runs) run all one = (all.0, more_hold test runs run all.1 one)

-- ## A page more

all_behind : {A : Type 0} (P : A → Type 0) (xs ys : List A) → AllByRecursion P xs → AllByRecursion P ys → AllByRecursion P (xs ++ ys)
all_behind P [] ys all more = more
all_behind P (x ∷ xs) ys all more = (all.0, all_behind P xs ys all.1 more)

module _ {A : Type 0} (number : A → ℕ) (rests : A → Bool) where
  past_below : (past : ℕ) (outline : Outline) → (past ≤ past_of past outline) × (outline.most < past_of past outline)
  unfolding past_of
  past_below past outline = by (nat_lt past (outline.most + 1)) refl
    where
      by : (b : Bool) → nat_lt past (outline.most + 1) ≡ b → (past ≤ cond b (outline.most + 1) past) × (outline.most < cond b (outline.most + 1) past)
      by true e = (omega (arith, below past (outline.most + 1) e), omega arith)
      by false e = (omega arith, omega (arith, at_least past (outline.most + 1) e))

  pub below_more : (pages : List (List A)) (page : List A) (i past : ℕ) → i < length pages → page ≡ get_or pages i page → AreBelow number past (joined (take i pages)) → AreBelow number (past_of past (outline_of number rests page)) (joined (take (i + 1) pages))
  below_more pages page i past lt is all =
      let more = past_below past (outline_of number rests page) in
      subst (AreBelow number (past_of past (outline_of number rests page))) (sym (taken pages page i lt is))
      (all_behind (λ x. number x < past_of past (outline_of number rests page)) (joined (take i pages)) page
      (each_more (λ x. number x < past) (λ x. number x < past_of past (outline_of number rests page)) (λ x low. omega (arith, low, more.0)) (joined (take i pages)) all)
      (each_more (λ x. ((outline_of number rests page).least ≤ number x) × (number x ≤ (outline_of number rests page).most)) (λ x. number x < past_of past (outline_of number rests page)) (λ x within. omega (arith, within.1, more.1)) page (all_within number rests page)))

  rests_behind : (n past : ℕ) (xs ys : List A) → past ≤ n → AreBelow number past xs → rests_at number rests n ys ≡ true → rests_at number rests n (xs ++ ys) ≡ true
  rests_behind n past xs ys le all there =
      ap (λ o. option_map_or rests o false) (find_none (λ x. number x == n) xs (each_more (λ x. number x < past) (λ x. (number x == n) ≡ false) (λ x low. lower_test (number x) n (omega (arith, low, le))) xs all) ys) ∙ there

  pub page_holds : (pages : List (List A)) (page : List A) (i past : ℕ) → i < length pages → page ≡ get_or pages i page → AreBelow number past (joined (take i pages)) → Holds (λ n. rests_at number rests n (joined pages)) (run_of past (outline_of number rests page))
  unfolding run_of
  page_holds pages page i past lt is all = by ((outline_of number rests page).rests && (outline_of number rests page).dense && not (nat_lt (outline_of number rests page).least past)) refl
    where
      by : (b : Bool) → ((outline_of number rests page).rests && (outline_of number rests page).dense && not (nat_lt (outline_of number rests page).least past)) ≡ b
          → Holds (λ n. rests_at number rests n (joined pages)) (cond b (record { from = (outline_of number rests page).least; to = (outline_of number rests page).most + 1 }) (record { from = 0; to = 0 }))
      by false e = none_hold (λ n. rests_at number rests n (joined pages))
      by true e =
          let three = all_three (outline_of number rests page).rests (outline_of number rests page).dense (nat_lt (outline_of number rests page).least past) e in
          record {
            each = λ n low high.
                subst (λ l. rests_at number rests n l ≡ true) (sym (split pages page i lt is))
                (rests_behind n past (joined (take i pages)) (page ++ joined (drop (i + 1) pages)) (omega (arith, low, at_least (outline_of number rests page).least past three.2)) all
                (found_before number rests n page (joined (drop (i + 1) pages)) (all_there number rests page three.1 three.0 n low (omega (arith, high)))));
          }
        where
          all_three : (a b c : Bool) → (a && b && not c) ≡ true → (a ≡ true) × (b ≡ true) × (c ≡ false)
          all_three false b c e = absurd (false_true e)
          all_three true false c e = absurd (false_true e)
          all_three true true true e = absurd (false_true e)
          all_three true true false e = (refl, refl, refl)
