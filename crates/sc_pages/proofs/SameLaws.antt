-- Lists with the same items.
use Rattle.std.proofs.Common.{◌≡◌, ◌+◌, ◌-◌, ◌<◌, ◌≤◌, ℕ, zero, suc, List, [], ◌∷◌, ◌++◌, length, take, drop, get_or, drop-cons, drop_of_length-le, add-one, append-nil, take-append-drop, refl, ap, sym, subst, ◌∙◌, arith}
use Rattle.std.proofs.lemmas.List.{get_or_default, take_more}
use Rattle.sc_queue.specs.Joined.{joined}
use Rattle.sc_pages.proofs.Basics.{assoc}
use Rattle.sc_pages.proofs.PagesLaws.{split, taken}

pub same_parts : {A : Type 0} (pages others : List (List A)) (newest other_newest : List A) → pages ≡ others → newest ≡ other_newest → joined pages ++ newest ≡ joined others ++ other_newest
same_parts pages others newest other_newest pages_are newest_is = ap (λ l. joined l ++ newest) pages_are ∙ ap (λ l. joined others ++ l) newest_is

-- ## The items from a spot on

-- past all items of a list
pub drop_past : {A : Type 0} (xs ys : List A) (w : ℕ) → length xs ≤ w → drop w (xs ++ ys) ≡ drop (w - length xs) ys
drop_past [] ys w le = let same : w ≡ w - 0 = omega arith in ap (λ n. drop n ys) same
drop_past (x ∷ xs) ys zero le = absurd (omega (arith, le))
drop_past (x ∷ xs) ys (suc w) le =
    let same : w - length xs ≡ suc w - length (x ∷ xs) = omega arith in drop_past xs ys w (omega (arith, le)) ∙ ap (λ n. drop n ys) same

-- the next item of a list, and what follows it
pub drop_next : {A : Type 0} (xs ys : List A) (w : ℕ) (d : A) → w < length xs → drop w (xs ++ ys) ≡ get_or xs w d ∷ drop (w + 1) (xs ++ ys)
drop_next [] ys w d lt = absurd (omega (arith, lt))
drop_next (x ∷ xs) ys zero d lt = refl
drop_next (x ∷ xs) ys (suc w) d lt = drop_next xs ys w d (omega (arith, lt)) ∙ ap (λ n. get_or xs w d ∷ drop n (x ∷ (xs ++ ys))) (suc_one w)
  where
    suc_one : (n : ℕ) → suc (n + 1) ≡ suc n + 1
    suc_one n = omega arith

pages_from : {A : Type 0} (pages : List (List A)) (newest : List A) (p : ℕ) (d : List A) → p < length pages → joined (drop p pages) ++ newest ≡ get_or pages p d ++ (joined (drop (p + 1) pages) ++ newest)
pages_from pages newest p d lt =
    ap (λ l. joined l ++ newest) (drop-cons pages p d lt) ∙ sym (assoc (get_or pages p d) (joined (drop (suc p) pages)) newest)
    ∙ ap (λ n. get_or pages p d ++ (joined (drop n pages) ++ newest)) (sym (add-one p))

pub page_behind : {A : Type 0} (pages : List (List A)) (newest page : List A) (p w : ℕ) → p < length pages → page ≡ get_or pages p page → length page ≤ w
    → drop (w - length page) (joined (drop (p + 1) pages) ++ newest) ≡ drop w (joined (drop p pages) ++ newest)
page_behind pages newest page p w lt is le =
    sym (ap (drop w) (pages_from pages newest p page lt ∙ ap (λ l. l ++ (joined (drop (p + 1) pages) ++ newest)) (sym is)) ∙ drop_past page (joined (drop (p + 1) pages) ++ newest) w le)

pub page_next : {A : Type 0} (pages : List (List A)) (newest page : List A) (p w : ℕ) (d : A) → p < length pages → page ≡ get_or pages p page → w < length page
    → drop w (joined (drop p pages) ++ newest) ≡ get_or page w d ∷ drop (w + 1) (joined (drop p pages) ++ newest)
page_next pages newest page p w d lt is below =
    let parts = pages_from pages newest p page lt ∙ ap (λ l. l ++ (joined (drop (p + 1) pages) ++ newest)) (sym is) in
    ap (drop w) parts ∙ drop_next page (joined (drop (p + 1) pages) ++ newest) w d below ∙ ap (λ l. get_or page w d ∷ drop (w + 1) l) (sym parts)

past_pages : {A : Type 0} (pages : List (List A)) (newest : List A) (p : ℕ) → length pages ≤ p → joined (drop p pages) ++ newest ≡ newest
past_pages pages newest p le = ap (λ l. joined l ++ newest) (drop_of_length-le pages le)

pub newest_next : {A : Type 0} (pages : List (List A)) (newest : List A) (p w : ℕ) (d : A) → length pages ≤ p → w < length newest
    → drop w (joined (drop p pages) ++ newest) ≡ get_or newest w d ∷ drop (w + 1) (joined (drop p pages) ++ newest)
newest_next pages newest p w d le below =
    ap (drop w) (past_pages pages newest p le ∙ sym (append-nil newest)) ∙ drop_next newest [] w d below
    ∙ ap (λ l. get_or newest w d ∷ drop (w + 1) l) (append-nil newest ∙ sym (past_pages pages newest p le))

pub newest_end : {A : Type 0} (pages : List (List A)) (newest : List A) (p w : ℕ) → length pages ≤ p → length newest ≤ w → drop w (joined (drop p pages) ++ newest) ≡ []
newest_end pages newest p w le past = ap (drop w) (past_pages pages newest p le) ∙ drop_of_length-le newest past

-- ## Items that are alike

same_head : {A : Type 0} (x y : A) (xs ys : List A) → x ∷ xs ≡ y ∷ ys → x ≡ y
same_head x y xs ys e = ap (λ l. get_or l 0 x) e

same_tail : {A : Type 0} (x y : A) (xs ys : List A) → x ∷ xs ≡ y ∷ ys → xs ≡ ys
same_tail x y xs ys e = ap (drop 1) e

cancel : {A : Type 0} (xs ys zs : List A) → xs ++ ys ≡ xs ++ zs → ys ≡ zs
cancel [] ys zs e = e
cancel (x ∷ xs) ys zs e = cancel xs ys zs (same_tail x x (xs ++ ys) (xs ++ zs) e)

-- another item comes next
pub other_next : {A : Type 0} (x y : A) (old ys : List A) → old ≡ x ∷ ys → (x ≡ y → ⊥) → (xs : List A) → old ≡ y ∷ xs → ⊥
other_next x y old ys is other xs same = other (same_head x y ys xs (sym is ∙ same))

front : {A : Type 0} (items : List A) (item : A) (i : ℕ) (after : List A) → i < length items → item ≡ get_or items i item → take (i + 1) items ++ after ≡ take i items ++ (item ∷ after)
front items item i after lt is =
    ap (λ l. l ++ after) (take_more items i item lt) ∙ sym (assoc (take i items) (get_or items i item ∷ []) after) ∙ ap (λ x. take i items ++ (x ∷ after)) (sym is)

pub one_same : {A : Type 0} (items : List A) (item : A) (i : ℕ) (start old new : List A) → i < length items → item ≡ get_or items i item → start ≡ take i items ++ old → old ≡ item ∷ new → start ≡ take (i + 1) items ++ new
one_same items item i start old new lt is so_far next = so_far ∙ ap (λ l. take i items ++ l) next ∙ sym (front items item i new lt is)

parted : {A : Type 0} (items : List A) (item : A) (i : ℕ) (xs : List A) → i < length items → item ≡ get_or items i item → items ++ xs ≡ take i items ++ (item ∷ (drop (i + 1) items ++ xs))
parted items item i xs lt is =
    ap (λ l. l ++ xs) (sym (take-append-drop (i + 1) items)) ∙ sym (assoc (take (i + 1) items) (drop (i + 1) items) xs) ∙ front items item i (drop (i + 1) items ++ xs) lt is

pub one_other : {A : Type 0} (items : List A) (item : A) (i : ℕ) (start old : List A) → i < length items → item ≡ get_or items i item → start ≡ take i items ++ old → ((xs : List A) → old ≡ item ∷ xs → ⊥) → (xs : List A) → start ≡ items ++ xs → ⊥
one_other items item i start old lt is so_far other xs same =
    other (drop (i + 1) items ++ xs) (cancel (take i items) old (item ∷ (drop (i + 1) items ++ xs)) (sym so_far ∙ same ∙ parted items item i xs lt is))

pub page_same : {A : Type 0} (pages : List (List A)) (page : List A) (i : ℕ) (start old new : List A) → i < length pages → page ≡ get_or pages i page → start ≡ joined (take i pages) ++ old → old ≡ page ++ new → start ≡ joined (take (i + 1) pages) ++ new
page_same pages page i start old new lt is so_far next =
    so_far ∙ ap (λ l. joined (take i pages) ++ l) next ∙ assoc (joined (take i pages)) page new ∙ ap (λ l. l ++ new) (sym (taken pages page i lt is))

pub page_other : {A : Type 0} (pages : List (List A)) (page : List A) (i : ℕ) (start old : List A) → i < length pages → page ≡ get_or pages i page → start ≡ joined (take i pages) ++ old → ((xs : List A) → old ≡ page ++ xs → ⊥) → (xs : List A) → start ≡ joined pages ++ xs → ⊥
page_other pages page i start old lt is so_far other xs same =
    other (joined (drop (i + 1) pages) ++ xs)
    (cancel (joined (take i pages)) old (page ++ (joined (drop (i + 1) pages) ++ xs))
    (sym so_far ∙ same ∙ ap (λ l. l ++ xs) (split pages page i lt is) ∙ sym (assoc (joined (take i pages)) (page ++ joined (drop (i + 1) pages)) xs)
    ∙ ap (λ l. joined (take i pages) ++ l) (sym (assoc page (joined (drop (i + 1) pages)) xs))))

-- ## Whole lists

pub pages_differ : {A : Type 0} (all front back : List A) → ((xs : List A) → all ≡ front ++ xs → ⊥) → all ≡ front ++ back → ⊥
pages_differ all front back other same = other back same

pub newest_differs : {A : Type 0} (all front back rest : List A) → all ≡ front ++ rest → ((xs : List A) → rest ≡ back ++ xs → ⊥) → all ≡ front ++ back → ⊥
newest_differs all front back rest is other same = other [] (cancel front rest back (sym is ∙ same) ∙ sym (append-nil back))

pub end_same : {A : Type 0} (all front back rest end : List A) → all ≡ front ++ rest → rest ≡ back ++ end → end ≡ [] → all ≡ front ++ back
end_same all front back rest end is next none = is ∙ ap (λ l. front ++ l) (next ∙ ap (λ l. back ++ l) none ∙ append-nil back)

pub same_end : {A : Type 0} (all front back rest end : List A) → all ≡ front ++ rest → rest ≡ back ++ end → all ≡ front ++ back → end ≡ []
same_end all front back rest end is next same =
    cancel back end [] (sym next ∙ cancel front rest back (sym is ∙ same) ∙ sym (append-nil back))

-- a page that isn't behind has an item
none_more : {A : Type 0} (x : A) (xs : List A) → [] ≡ x ∷ xs → ⊥
none_more x xs e = omega (arith, ap length e)

pub not_end : {A : Type 0} (pages : List (List A)) (newest : List A) (p w : ℕ) (end : List A) → p < length pages → w < length (get_or pages p []) → drop w (joined (drop p pages) ++ newest) ≡ end → end ≡ [] → ⊥
not_end {A} pages newest p w end lt within is none = by (get_or pages p []) refl
  where
    by : (page : List A) → get_or pages p [] ≡ page → ⊥
    by [] e = absurd (omega (arith, within, ap length e))
    by (d ∷ ds) e =
        none_more _ _ (sym none ∙ sym is ∙ page_next pages newest (d ∷ ds) p w d lt (sym e ∙ get_or_default pages p [] (d ∷ ds) lt) (subst (λ l. w < length l) e within))
