-- Lists in pages: a page more, what is found, changed and kept.
use Rattle.std.proofs.Common.{◌≡◌, ◌+◌, ◌<◌, ◌||◌, ℕ, zero, suc, Bool, true, false, not, cond, List, [], ◌∷◌, ◌++◌, Some, None, length, get_or, ◌≤◌, refl, ap, sym, subst, ◌∙◌, arith, map, position, take, drop, take-append-drop, append-nil}
use Rattle.std.proofs.Math.ListN.{set}
use Rattle.std.specs.List.{filter, find, flat_map, fold, list_any, position_or_len, sum_by}
use Rattle.std.proofs.lemmas.Grind.{flat_map-append, fold-append}
use Rattle.std.proofs.lemmas.List.{take_more}
use Rattle.std.proofs.lemmas.List.Sums.{sum_by-append, sum_by-cons}
use Rattle.std.proofs.lemmas.Bool.Decides.{nat_tests}
use Rattle.sc_value.specs.Lists.{change_first}
use Rattle.sc_queue.specs.Joined.{joined}
use Rattle.sc_queue.proofs.Parts.{joined_more as item_behind, part_behind}
use Rattle.std.proofs.lemmas.List.Folds.{list_any-append}
use Rattle.sc_pages.proofs.Basics.{assoc, false_true, filter_append, find_none, map_append, none_any}

pub joined_more : {A : Type 0} (front newest : List A) (x : A) → front ++ (newest ++ x ∷ []) ≡ (front ++ newest) ++ x ∷ []
joined_more front newest x = item_behind front newest x

pub page_more : {A : Type 0} (old new : List (List A)) (page : List A) → new ≡ old ++ page ∷ [] → joined new ++ [] ≡ joined old ++ page
page_more old new page is = append-nil (joined new) ∙ ap joined is ∙ part_behind old page

-- ## The pages up to a place, and one more

pub taken : {A : Type 0} (pages : List (List A)) (page : List A) (i : ℕ) → i < length pages → page ≡ get_or pages i page → joined (take (i + 1) pages) ≡ joined (take i pages) ++ page
taken pages page i lt is =
    ap joined (take_more pages i page lt) ∙ part_behind (take i pages) (get_or pages i page) ∙ ap (λ l. joined (take i pages) ++ l) (sym is)

pub split : {A : Type 0} (pages : List (List A)) (page : List A) (i : ℕ) → i < length pages → page ≡ get_or pages i page → joined pages ≡ joined (take i pages) ++ (page ++ joined (drop (i + 1) pages))
split pages page i lt is =
    ap joined (sym (take-append-drop (i + 1) pages)) ∙ flat_map-append (λ p. p) (take (i + 1) pages) (drop (i + 1) pages)
    ∙ ap (λ l. l ++ joined (drop (i + 1) pages)) (taken pages page i lt is) ∙ sym (assoc (joined (take i pages)) page (joined (drop (i + 1) pages)))

-- ## The first page with an item that passes

-- the pages before it have none
record At {A : Type 0} (p : A → Bool) (pages : List (List A)) (at : ℕ) : Type 0 where
  in_range : at < length pages
  placed : position_or_len (list_any p) pages ≡ at

at_place : {A : Type 0} (p : A → Bool) (pages : List (List A)) (at : ℕ) → position (list_any p) pages ≡ Some at → At p pages at
at_place p pages at is = record { in_range = grind (arith, nat_tests); placed = grind (arith, nat_tests) }

pub nowhere : {A : Type 0} (p : A → Bool) (pages : List (List A)) → position (list_any p) pages ≡ None → length pages ≤ position_or_len (list_any p) pages
nowhere p pages is = grind (arith, nat_tests)

-- a list of pages, at the first that has one
first_cons : {A : Type 0} (p : A → Bool) (page : List A) (pages : List (List A)) (b : Bool) → list_any p page ≡ b → position_or_len (list_any p) (page ∷ pages) ≡ cond (not b) (1 + position_or_len (list_any p) pages) 0
first_cons p page pages b is = ap (λ c. cond (not c) (1 + position_or_len (list_any p) pages) 0) is

find_front : {A : Type 0} (p : A → Bool) (xs ys : List A) → list_any p xs ≡ true → find p (xs ++ ys) ≡ find p xs
find_front p [] ys e = absurd (false_true e)
find_front p (x ∷ xs) ys e = by (p x) (find_front p xs ys) e
  where
    by : (b : Bool) → (list_any p xs ≡ true → find p (xs ++ ys) ≡ find p xs) → (b || list_any p xs) ≡ true → cond b (Some x) (find p (xs ++ ys)) ≡ cond b (Some x) (find p xs)
    by true later e = refl
    by false later e = later e

change_front : {A : Type 0} (p : A → Bool) (f : A → A) (xs ys : List A) → list_any p xs ≡ true → change_first p f (xs ++ ys) ≡ change_first p f xs ++ ys
unfolding change_first
change_front p f [] ys e = absurd (false_true e)
change_front p f (x ∷ xs) ys e = by (p x) (change_front p f xs ys) e
  where
    by : (b : Bool) → (list_any p xs ≡ true → change_first p f (xs ++ ys) ≡ change_first p f xs ++ ys) → (b || list_any p xs) ≡ true → cond b (f x ∷ (xs ++ ys)) (x ∷ change_first p f (xs ++ ys)) ≡ cond b (f x ∷ xs) (x ∷ change_first p f xs) ++ ys
    by true later e = refl
    by false later e = ap (λ l. x ∷ l) (later e)

change_none : {A : Type 0} (p : A → Bool) (f : A → A) (xs ys : List A) → list_any p xs ≡ false → change_first p f (xs ++ ys) ≡ xs ++ change_first p f ys
unfolding change_first
change_none p f [] ys e = refl
change_none p f (x ∷ xs) ys e = by (p x) (change_none p f xs ys) e
  where
    by : (b : Bool) → (list_any p xs ≡ false → change_first p f (xs ++ ys) ≡ xs ++ change_first p f ys) → (b || list_any p xs) ≡ false → cond b (f x ∷ (xs ++ ys)) (x ∷ change_first p f (xs ++ ys)) ≡ x ∷ (xs ++ change_first p f ys)
    by true later e = absurd (false_true (sym e))
    by false later e = ap (λ l. x ∷ l) (later e)

module _ {A : Type 0} (p : A → Bool) where
  one_more : (n m : ℕ) → 1 + n ≡ suc m → n ≡ m
  one_more n m e = omega (arith, e)

  -- by cases on whether the first page has one
  find_at_place : (pages : List (List A)) (newest page : List A) (at : ℕ) → at < length pages → position_or_len (list_any p) pages ≡ at → page ≡ get_or pages at page → find p (joined pages ++ newest) ≡ find p page
  find_at_place [] newest page at lt placed is = absurd (omega (arith, lt))
  find_at_place (first ∷ pages) newest page at lt placed is = by (find_at_place pages newest page) (list_any p first) refl at lt (sym (first_cons p first pages (list_any p first) refl) ∙ placed) is
    where
      by : ((i : ℕ) → i < length pages → position_or_len (list_any p) pages ≡ i → page ≡ get_or pages i page → find p (joined pages ++ newest) ≡ find p page) → (b : Bool) → list_any p first ≡ b → (i : ℕ) → i < length (first ∷ pages) → cond (not b) (1 + position_or_len (list_any p) pages) 0 ≡ i → page ≡ get_or (first ∷ pages) i page → find p (joined (first ∷ pages) ++ newest) ≡ find p page
      by later true has zero lt placed is =
          ap (find p) (sym (assoc first (joined pages) newest)) ∙ find_front p first (joined pages ++ newest) has ∙ ap (find p) (sym is)
      by later true has (suc i) lt placed is = absurd (omega (arith, placed))
      by later false has zero lt placed is = absurd (omega (arith, placed))
      by later false has (suc i) lt placed is =
          ap (find p) (sym (assoc first (joined pages) newest)) ∙ find_none p first (none_any p first has) (joined pages ++ newest)
          ∙ later i (omega (arith, lt)) (one_more _ i placed) is

  pub found_in_page : (pages : List (List A)) (newest page : List A) (at : ℕ) → position (list_any p) pages ≡ Some at → page ≡ get_or pages at page → find p page ≡ find p (joined pages ++ newest)
  found_in_page pages newest page at placed is = let here = at_place p pages at placed in sym (find_at_place pages newest page at here.in_range here.placed is)

  pub none_in_pages : (pages : List (List A)) → length pages ≤ position_or_len (list_any p) pages → list_any p (joined pages) ≡ false
  none_in_pages [] past = refl
  none_in_pages (first ∷ pages) past = by (none_in_pages pages) (list_any p first) refl (subst (λ n. length (first ∷ pages) ≤ n) (first_cons p first pages (list_any p first) refl) past)
    where
      by : (length pages ≤ position_or_len (list_any p) pages → list_any p (joined pages) ≡ false) → (b : Bool) → list_any p first ≡ b → length (first ∷ pages) ≤ cond (not b) (1 + position_or_len (list_any p) pages) 0 → list_any p (first ++ joined pages) ≡ false
      by later true has past = absurd (omega (arith, past))
      by later false has past = list_any-append p first (joined pages) ∙ ap (λ b. b || list_any p (joined pages)) has ∙ later (omega (arith, past))

  pub found_behind : (pages : List (List A)) (newest : List A) → position (list_any p) pages ≡ None → find p newest ≡ find p (joined pages ++ newest)
  found_behind pages newest placed = sym (find_none p (joined pages) (none_any p (joined pages) (none_in_pages pages (nowhere p pages placed))) newest)

  any_at_place : (pages : List (List A)) (newest : List A) (at : ℕ) → at < length pages → position_or_len (list_any p) pages ≡ at → list_any p (joined pages ++ newest) ≡ true
  any_at_place [] newest at lt placed = absurd (omega (arith, lt))
  any_at_place (first ∷ pages) newest at lt placed = by (any_at_place pages newest) (list_any p first) refl at lt (sym (first_cons p first pages (list_any p first) refl) ∙ placed)
    where
      by : ((i : ℕ) → i < length pages → position_or_len (list_any p) pages ≡ i → list_any p (joined pages ++ newest) ≡ true) → (b : Bool) → list_any p first ≡ b → (i : ℕ) → i < length (first ∷ pages) → cond (not b) (1 + position_or_len (list_any p) pages) 0 ≡ i → list_any p (joined (first ∷ pages) ++ newest) ≡ true
      by later true has i lt placed =
          ap (list_any p) (sym (assoc first (joined pages) newest)) ∙ list_any-append p first (joined pages ++ newest) ∙ ap (λ b. b || list_any p (joined pages ++ newest)) has
      by later false has zero lt placed = absurd (omega (arith, placed))
      by later false has (suc i) lt placed =
          ap (list_any p) (sym (assoc first (joined pages) newest)) ∙ list_any-append p first (joined pages ++ newest) ∙ ap (λ b. b || list_any p (joined pages ++ newest)) has
          ∙ later i (omega (arith, lt)) (one_more _ i placed)

  pub any_in_page : (pages : List (List A)) (newest : List A) (at : ℕ) → position (list_any p) pages ≡ Some at → true ≡ list_any p (joined pages ++ newest)
  any_in_page pages newest at placed = let here = at_place p pages at placed in sym (any_at_place pages newest at here.in_range here.placed)

  pub any_behind : (pages : List (List A)) (newest : List A) → position (list_any p) pages ≡ None → list_any p newest ≡ list_any p (joined pages ++ newest)
  any_behind pages newest placed = sym (list_any-append p (joined pages) newest ∙ ap (λ b. b || list_any p newest) (none_in_pages pages (nowhere p pages placed)))

  change_at_place : (f : A → A) (pages : List (List A)) (newest page : List A) (at : ℕ) → at < length pages → position_or_len (list_any p) pages ≡ at → page ≡ get_or pages at page
      → change_first p f (joined pages ++ newest) ≡ joined (set pages at (change_first p f page)) ++ newest
  change_at_place f [] newest page at lt placed is = absurd (omega (arith, lt))
  change_at_place f (first ∷ pages) newest page at lt placed is = by (change_at_place f pages newest page) (list_any p first) refl at lt (sym (first_cons p first pages (list_any p first) refl) ∙ placed) is
    where
      by : ((i : ℕ) → i < length pages → position_or_len (list_any p) pages ≡ i → page ≡ get_or pages i page → change_first p f (joined pages ++ newest) ≡ joined (set pages i (change_first p f page)) ++ newest) → (b : Bool) → list_any p first ≡ b → (i : ℕ) → i < length (first ∷ pages) → cond (not b) (1 + position_or_len (list_any p) pages) 0 ≡ i → page ≡ get_or (first ∷ pages) i page
          → change_first p f (joined (first ∷ pages) ++ newest) ≡ joined (set (first ∷ pages) i (change_first p f page)) ++ newest
      by later true has zero lt placed is =
          ap (change_first p f) (sym (assoc first (joined pages) newest)) ∙ change_front p f first (joined pages ++ newest) has
          ∙ ap (λ l. change_first p f l ++ (joined pages ++ newest)) (sym is) ∙ assoc (change_first p f page) (joined pages) newest
      by later true has (suc i) lt placed is = absurd (omega (arith, placed))
      by later false has zero lt placed is = absurd (omega (arith, placed))
      by later false has (suc i) lt placed is =
          ap (change_first p f) (sym (assoc first (joined pages) newest)) ∙ change_none p f first (joined pages ++ newest) has
          ∙ ap (λ l. first ++ l) (later i (omega (arith, lt)) (one_more _ i placed) is)
          ∙ assoc first (joined (set pages i (change_first p f page))) newest

  pub changed_in_page : (f : A → A) (old new : List (List A)) (newest page changed : List A) (at : ℕ) → position (list_any p) old ≡ Some at → page ≡ get_or old at page → changed ≡ change_first p f page → new ≡ set old at changed
      → joined new ++ newest ≡ change_first p f (joined old ++ newest)
  changed_in_page f old new newest page changed at placed is change now =
      let here = at_place p old at placed in
      ap (λ l. joined l ++ newest) (now ∙ ap (set old at) change) ∙ sym (change_at_place f old newest page at here.in_range here.placed is)

  pub changed_behind : (f : A → A) (pages : List (List A)) (old new : List A) → position (list_any p) pages ≡ None → new ≡ change_first p f old → joined pages ++ new ≡ change_first p f (joined pages ++ old)
  changed_behind f pages old new placed change = ap (λ l. joined pages ++ l) change ∙ sym (change_none p f (joined pages) old (none_in_pages pages (nowhere p pages placed)))

-- ## All items

pub joined_map : {A : Type 0} (f : A → A) (pages : List (List A)) → joined (map (map f) pages) ≡ map f (joined pages)
joined_map f [] = refl
joined_map f (page ∷ pages) = ap (λ l. map f page ++ l) (joined_map f pages) ∙ sym (map_append f page (joined pages))

pub all_changed : {A : Type 0} (f : A → A) (old new old_newest newest : List A) → new ≡ map f old → newest ≡ map f old_newest → new ++ newest ≡ map f (old ++ old_newest)
all_changed f old new old_newest newest pages_are newest_is =
    ap (λ l. l ++ newest) pages_are ∙ ap (λ l. map f old ++ l) newest_is ∙ sym (map_append f old old_newest)

pub all_passing : {A : Type 0} (p : A → Bool) (old new old_newest newest : List A) → new ≡ filter p old → newest ≡ filter p old_newest → new ++ newest ≡ filter p (old ++ old_newest)
all_passing p old new old_newest newest pages_are newest_is =
    ap (λ l. l ++ newest) pages_are ∙ ap (λ l. filter p old ++ l) newest_is ∙ sym (filter_append p old old_newest)

-- ## Walks over pages

flat_joined : {A B : Type 0} (f : A → List B) (pages : List (List A)) → flat_map f (joined pages) ≡ flat_map (λ page. flat_map f page) pages
flat_joined f [] = refl
flat_joined f (page ∷ pages) = flat_map-append f page (joined pages) ∙ ap (λ l. flat_map f page ++ l) (flat_joined f pages)

pub flat_all : {A B : Type 0} (f : A → List B) (all : List A) (pages : List (List A)) (newest : List A) → all ≡ joined pages ++ newest → flat_map f all ≡ flat_map (λ page. flat_map f page) pages ++ flat_map f newest
flat_all f all pages newest is = ap (flat_map f) is ∙ flat_map-append f (joined pages) newest ∙ ap (λ l. l ++ flat_map f newest) (flat_joined f pages)

pub flat_parts : {A B : Type 0} (f : A → List B) (all : List A) (pages : List (List A)) (newest : List A) (old mid new : List B) → all ≡ joined pages ++ newest → mid ≡ old ++ flat_map (λ page. flat_map f page) pages → new ≡ mid ++ flat_map f newest → new ≡ old ++ flat_map f all
flat_parts f all pages newest old mid new is before now =
    now ∙ ap (λ l. l ++ flat_map f newest) before ∙ sym (assoc old (flat_map (λ page. flat_map f page) pages) (flat_map f newest)) ∙ ap (λ l. old ++ l) (sym (flat_all f all pages newest is))

filter_joined : {A : Type 0} (p : A → Bool) (pages : List (List A)) → filter p (joined pages) ≡ flat_map (λ page. filter p page) pages
filter_joined p [] = refl
filter_joined p (page ∷ pages) = filter_append p page (joined pages) ∙ ap (λ l. filter p page ++ l) (filter_joined p pages)

pub filter_parts : {A : Type 0} (p : A → Bool) (all : List A) (pages : List (List A)) (newest : List A) (mid new : List A) → all ≡ joined pages ++ newest → mid ≡ [] ++ flat_map (λ page. filter p page) pages → new ≡ mid ++ filter p newest → new ≡ filter p all
filter_parts p all pages newest mid new is before now =
    now ∙ ap (λ l. l ++ filter p newest) (before ∙ sym (filter_joined p pages)) ∙ sym (filter_append p (joined pages) newest) ∙ ap (filter p) (sym is)

fold_joined : {A B : Type 0} (f : B → A → B) (b : B) (pages : List (List A)) → fold f b (joined pages) ≡ fold (λ b page. fold f b page) b pages
fold_joined f b [] = refl
fold_joined f b (page ∷ pages) = fold-append f b page (joined pages) ∙ fold_joined f (fold f b page) pages

pub fold_parts : {A B : Type 0} (f : B → A → B) (all : List A) (pages : List (List A)) (newest : List A) (b mid new : B) → all ≡ joined pages ++ newest → mid ≡ fold (λ b page. fold f b page) b pages → new ≡ fold f mid newest → new ≡ fold f b all
fold_parts f all pages newest b mid new is before now =
    now ∙ ap (λ m. fold f m newest) (before ∙ sym (fold_joined f b pages)) ∙ sym (fold-append f b (joined pages) newest) ∙ ap (fold f b) (sym is)

sum_joined : {A : Type 0} (f : A → ℕ) (pages : List (List A)) → sum_by f (joined pages) ≡ sum_by (λ page. sum_by f page) pages
sum_joined f [] = refl
sum_joined f (page ∷ pages) =
    sum_by-append f page (joined pages) ∙ ap (λ n. sum_by f page + n) (sum_joined f pages) ∙ sym (sum_by-cons (λ page. sum_by f page) page pages)

pub sum_all : {A : Type 0} (f : A → ℕ) (all : List A) (pages : List (List A)) (newest : List A) → all ≡ joined pages ++ newest → sum_by f all ≡ sum_by (λ page. sum_by f page) pages + sum_by f newest
sum_all f all pages newest is = ap (sum_by f) is ∙ sum_by-append f (joined pages) newest ∙ ap (λ n. n + sum_by f newest) (sum_joined f pages)
