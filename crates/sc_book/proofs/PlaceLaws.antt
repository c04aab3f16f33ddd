-- Laws of items by their places, and of changes that lie over them.
use Rattle.std.proofs.Common.{◌≡◌, Bool, true, false, not, cond, T, Option, Some, None, List, [], ◌∷◌, refl, ap, sym, subst, ◌∙◌, ℕ, length, arith}
use Rattle.std.specs.declared.cmp.Ordering.{Ordering}
use Rattle.std.specs.declared.cmp.Ordering.TheVariants.{Less, Equal, Greater}
use Rattle.std.specs.Option.{unwrap_or}
use Rattle.std.specs.List.{AllByRecursion}
use Rattle.std.specs.List.Sorted.{IsStrictlySortedBy}
use Rattle.std.specs.Ordering.{nat_cmp, is_eq, is_lt, eq_by_cmp, match_ordering}
use Rattle.std.specs.Map.{keys_of, lookup, remove_entry}
use Rattle.std.specs.BTreeMap.{insert_entry, is_at}
use Rattle.std.specs.FinMap.Entries.{by_order, put, find, where_key, below_all, is_sorted, is_sorted-put, find-put, is_sorted-where_key, find-where_key, same_entries}
use Rattle.std.proofs.lemmas.Cmp.{nat_cmp_total, eq_by_cmp_equiv}
use Rattle.std.proofs.lemmas.Map.Keys.{sorted_head, sorted_tail}
use Rattle.std.proofs.lemmas.Map.Lookups.{exact_unsigned}
use Rattle.sc_book.proofs.Basics.{whole, first, second, joined, tied, less, less_tested}
use Rattle.sc_book.specs.Places.{Placed, at_place, with_item, without_item, with_item_at as laid, all_laid}

-- a map's insertion is that of the words here
pub inserted_entry : {K X : Type 0} (R : K → K → Ordering) (k : K) (v : X) (es : List (K × X)) → insert_entry R es k v ≡ put R k v es
inserted_entry R k v [] = refl
inserted_entry R k v (e ∷ es) = elim (R k e.0) as (λ o. match_ordering o ((k, v) ∷ e ∷ es) ((e.0, v) ∷ es) (e ∷ insert_entry R es k v) ≡ by_order o ((k, v) ∷ e ∷ es) ((e.0, v) ∷ es) (e ∷ put R k v es))
    [ Less ↦ refl | Equal ↦ refl | Greater ↦ ap (λ l. e ∷ l) (inserted_entry R k v es) ]

below_of : {X : Type 0} (k : ℕ) (es : Placed X) → AllByRecursion (λ y. nat_cmp k y ≡ Less) (keys_of es) → T (below_all nat_cmp k es)
below_of k [] h = tt
below_of k (e ∷ es) h = joined (is_lt (nat_cmp k e.0)) (below_all nat_cmp k es) (less (nat_cmp k e.0) h.0) (below_of k es h.1)

-- the order of a map's keys, in the words here
pub sorted_of : {X : Type 0} (es : Placed X) → IsStrictlySortedBy nat_cmp (keys_of es) → T (is_sorted nat_cmp es)
sorted_of [] h = tt
sorted_of (e ∷ es) h = joined (below_all nat_cmp e.0 es) (is_sorted nat_cmp es) (below_of e.0 es (sorted_head nat_cmp e.0 (keys_of es) h)) (sorted_of es (sorted_tail nat_cmp e.0 (keys_of es) h))

-- the same as an equation
pub in_order : {X : Type 0} (es : Placed X) → IsStrictlySortedBy nat_cmp (keys_of es) → is_sorted nat_cmp es ≡ true
in_order es h = whole (is_sorted nat_cmp es) (sorted_of es h)

-- a map's look-up is that of the words here
pub looked_up : {K X : Type 0} (R : K → K → Ordering) (q : K) (es : List (K × X)) → lookup (is_at (R q)) es ≡ find R q es
looked_up R q [] = refl
looked_up R q (e ∷ es) = ap (cond (is_eq (R q e.0)) (Some e.1)) (looked_up R q es)

pub seen_at : {X : Type 0} (q : ℕ) (es : Placed X) → lookup (is_at (nat_cmp q)) es ≡ at_place q es
seen_at q es = looked_up nat_cmp q es

-- nothing is found at a place below all
pub missed : {X : Type 0} (q p : ℕ) (es : Placed X) → nat_cmp q p ≡ Equal → T (below_all nat_cmp p es) → find nat_cmp q es ≡ None
missed q p [] e h = refl
missed q p (x ∷ xs) e h =
    ap (λ o. cond (is_eq o) (Some x.1) (find nat_cmp q xs)) (nat_cmp_total.congr q p x.0 e ∙ less_tested (nat_cmp p x.0) (first (is_lt (nat_cmp p x.0)) (below_all nat_cmp p xs) h))
    ∙ missed q p xs e (second (is_lt (nat_cmp p x.0)) (below_all nat_cmp p xs) h)

-- all above a place stay when it is left out
pub stays : {X : Type 0} (q p : ℕ) (es : Placed X) → nat_cmp q p ≡ Equal → T (below_all nat_cmp p es) → where_key nat_cmp (λ x. not (eq_by_cmp nat_cmp q x)) es ≡ es
stays q p [] e h = refl
stays q p (x ∷ xs) e h =
    ap (λ o. cond (not (is_eq o)) (x ∷ where_key nat_cmp (λ y. not (eq_by_cmp nat_cmp q y)) xs) (where_key nat_cmp (λ y. not (eq_by_cmp nat_cmp q y)) xs)) (nat_cmp_total.congr q p x.0 e ∙ less_tested (nat_cmp p x.0) (first (is_lt (nat_cmp p x.0)) (below_all nat_cmp p xs) h))
    ∙ ap (λ l. x ∷ l) (stays q p xs e (second (is_lt (nat_cmp p x.0)) (below_all nat_cmp p xs) h))

-- a map's removal is that of the words here
pub removed_entry : {X : Type 0} (p : ℕ) (es : Placed X) → T (is_sorted nat_cmp es) → remove_entry (is_at (nat_cmp p)) es ≡ without_item es p
removed_entry p [] h = refl
removed_entry {X} p (e ∷ es) h =
    elim (is_eq (nat_cmp p e.0)) as (λ b. is_eq (nat_cmp p e.0) ≡ b → cond b es (e ∷ remove_entry (is_at (nat_cmp p)) es) ≡ cond (not b) (e ∷ without_item es p) (without_item es p)) [
      | true ↦ λ t. sym (stays p e.0 es (tied (nat_cmp p e.0) t) (first (below_all nat_cmp e.0 es) (is_sorted nat_cmp es) h))
      | false ↦ λ t. ap (λ l. e ∷ l) (removed_entry p es (second (below_all nat_cmp e.0 es) (is_sorted nat_cmp es) h))
    ] refl

-- what is found where one place is left out
pub found_without : {X : Type 0} (q p : ℕ) (es : Placed X) → at_place q (without_item es p) ≡ cond (not (is_eq (nat_cmp p q))) (at_place q es) None
found_without q p es = find-where_key nat_cmp (λ x. not (eq_by_cmp nat_cmp p x)) q (λ x t. ap (λ y. not (eq_by_cmp nat_cmp p y)) (sym (exact_unsigned q x t))) es

left_out : {X : Type 0} (a b : Bool) → a ≡ b → (x : Option X) → cond (not a) x None ≡ cond b None x
left_out true b e x = subst (λ b. None ≡ cond b None x) e refl
left_out false b e x = subst (λ b. x ≡ cond b None x) e refl

pub found_laid : {X : Type 0} (q p : ℕ) (o : Option X) (es : Placed X) → find nat_cmp q (laid es p o) ≡ cond (eq_by_cmp nat_cmp q p) o (find nat_cmp q es)
unfolding laid
found_laid q p None es =
    found_without q p es ∙ left_out (eq_by_cmp nat_cmp p q) (eq_by_cmp nat_cmp q p) ((eq_by_cmp_equiv nat_cmp_total).symm p q) (find nat_cmp q es)
found_laid q p (Some x) es = find-put nat_cmp nat_cmp_total q p x es

pub sorted_laid : {X : Type 0} (p : ℕ) (o : Option X) (es : Placed X) → T (is_sorted nat_cmp es) → T (is_sorted nat_cmp (laid es p o))
unfolding laid
sorted_laid p None es h = is_sorted-where_key nat_cmp (λ x. not (eq_by_cmp nat_cmp p x)) es h
sorted_laid p (Some x) es h = is_sorted-put nat_cmp nat_cmp_total p x es h

-- what lies over the items stays in order
pub sorted_all : {X : Type 0} (es : Placed X) (cs : List (ℕ × Option X)) → T (is_sorted nat_cmp es) → T (is_sorted nat_cmp (all_laid es cs))
unfolding all_laid
sorted_all es [] h = h
sorted_all es (c ∷ cs) h = sorted_all (laid es c.0 c.1) cs (sorted_laid c.0 c.1 es h)

-- the first of the changes, in a look-up
over_first : {X : Type 0} (b : Bool) (o : Option X) (later : Option (Option X)) (x : Option X) → (b ≡ true → later ≡ None) → unwrap_or later (cond b o x) ≡ unwrap_or (cond b (Some o) later) x
over_first true o later x none = ap (λ l. unwrap_or l o) (none refl)
over_first false o later x none = refl

-- what is found is the change at the place, where there is one
pub found_all : {X : Type 0} (q : ℕ) (es : Placed X) (cs : List (ℕ × Option X)) → T (is_sorted nat_cmp cs) → at_place q (all_laid es cs) ≡ unwrap_or (find nat_cmp q cs) (at_place q es)
unfolding all_laid
found_all q es [] h = refl
found_all q es (c ∷ cs) h =
    found_all q (laid es c.0 c.1) cs (second (below_all nat_cmp c.0 cs) (is_sorted nat_cmp cs) h)
    ∙ ap (unwrap_or (find nat_cmp q cs)) (found_laid q c.0 c.1 es)
    ∙ over_first (eq_by_cmp nat_cmp q c.0) c.1 (find nat_cmp q cs) (at_place q es) (λ t. missed q c.0 cs (tied (nat_cmp q c.0) t) (first (below_all nat_cmp c.0 cs) (is_sorted nat_cmp cs) h))

over_last : {X : Type 0} (b : Bool) (o : Option X) (later : Option (Option X)) (x : Option X) → unwrap_or (cond b (Some o) later) x ≡ cond b o (unwrap_or later x)
over_last true o later x = refl
over_last false o later x = refl

-- one change more is that change of all
pub laid_over : {X : Type 0} (es : Placed X) (cs : List (ℕ × Option X)) (p : ℕ) (o : Option X) → T (is_sorted nat_cmp es) → T (is_sorted nat_cmp cs) → all_laid es (put nat_cmp p o cs) ≡ laid (all_laid es cs) p o
laid_over es cs p o up over =
    same_entries nat_cmp nat_cmp_total exact_unsigned (all_laid es (put nat_cmp p o cs)) (laid (all_laid es cs) p o)
    (sorted_all es (put nat_cmp p o cs) up) (sorted_laid p o (all_laid es cs) (sorted_all es cs up))
    (λ q. found_all q es (put nat_cmp p o cs) (is_sorted-put nat_cmp nat_cmp_total p o cs over)
    ∙ ap (λ f. unwrap_or f (at_place q es)) (find-put nat_cmp nat_cmp_total q p o cs)
    ∙ over_last (eq_by_cmp nat_cmp q p) o (find nat_cmp q cs) (at_place q es)
    ∙ ap (cond (eq_by_cmp nat_cmp q p) o) (sym (found_all q es cs over))
    ∙ sym (found_laid q p o (all_laid es cs)))

-- the same from the tests
pub put_over : {X : Type 0} (es : Placed X) (cs : List (ℕ × Option X)) (p : ℕ) (x : X) → is_sorted nat_cmp es ≡ true → IsStrictlySortedBy nat_cmp (keys_of cs) → all_laid es (insert_entry nat_cmp cs p (Some x)) ≡ with_item (all_laid es cs) p x
unfolding laid
put_over es cs p x up over = ap (all_laid es) (inserted_entry nat_cmp p (Some x) cs) ∙ laid_over es cs p (Some x) (subst T (sym up) tt) (sorted_of cs over)

pub taken_over : {X : Type 0} (es : Placed X) (cs : List (ℕ × Option X)) (p : ℕ) → is_sorted nat_cmp es ≡ true → IsStrictlySortedBy nat_cmp (keys_of cs) → all_laid es (insert_entry nat_cmp cs p None) ≡ without_item (all_laid es cs) p
unfolding laid
taken_over es cs p up over = ap (all_laid es) (inserted_entry nat_cmp p None cs) ∙ laid_over es cs p None (subst T (sym up) tt) (sorted_of cs over)

-- what is found, by what the changes have at the place
pub found_over : {X : Type 0} (q : ℕ) (es : Placed X) (cs : List (ℕ × Option X)) (seen : Option (Option X)) → seen ≡ lookup (is_at (nat_cmp q)) cs → IsStrictlySortedBy nat_cmp (keys_of cs) → unwrap_or seen (at_place q es) ≡ at_place q (all_laid es cs)
found_over q es cs seen is over = ap (λ s. unwrap_or s (at_place q es)) (is ∙ looked_up nat_cmp q cs) ∙ sym (found_all q es cs (sorted_of cs over))

-- the first change may lie in the items
pub settled_put : {X : Type 0} (es : Placed X) (cs : List (ℕ × Option X)) (p : ℕ) (x : X) → all_laid (with_item es p x) cs ≡ all_laid es ((p, Some x) ∷ cs)
unfolding all_laid laid
settled_put es cs p x = refl

pub settled_taken : {X : Type 0} (es : Placed X) (cs : List (ℕ × Option X)) (p : ℕ) → all_laid (without_item es p) cs ≡ all_laid es ((p, None) ∷ cs)
unfolding all_laid laid
settled_taken es cs p = refl

pub none_laid : {X : Type 0} (es : Placed X) → all_laid es [] ≡ es
unfolding all_laid
none_laid es = refl

-- a book's items are in order
pub order_over : {X : Type 0} (es : Placed X) (cs : List (ℕ × Option X)) → is_sorted nat_cmp es ≡ true → is_sorted nat_cmp (all_laid es cs) ≡ true
order_over es cs up = whole (is_sorted nat_cmp (all_laid es cs)) (sorted_all es cs (subst T (sym up) tt))

-- with no changes a book is its base
pub settled_same : {X : Type 0} (es base : Placed X) (cs : List (ℕ × Option X)) (count : ℕ) → count ≡ length cs → count ≡ 0 → base ≡ es → base ≡ all_laid es cs
unfolding all_laid
settled_same es base [] count is none same = same
settled_same es base (c ∷ cs) count is none same = absurd (omega (arith, is, none))

-- none is at a place below the first
pub missed_below : {X : Type 0} (q p : ℕ) (es : Placed X) → nat_cmp q p ≡ Less → T (below_all nat_cmp p es) → find nat_cmp q es ≡ None
missed_below q p [] e h = refl
missed_below q p (x ∷ xs) e h =
    ap (λ o. cond (is_eq o) (Some x.1) (find nat_cmp q xs)) (nat_cmp_total.trans q p x.0 e (less_tested (nat_cmp p x.0) (first (is_lt (nat_cmp p x.0)) (below_all nat_cmp p xs) h)))
    ∙ missed_below q p xs e (second (is_lt (nat_cmp p x.0)) (below_all nat_cmp p xs) h)

pub later : {X : Type 0} (e : ℕ × X) (es : Placed X) → T (is_sorted nat_cmp (e ∷ es)) → T (is_sorted nat_cmp es)
later e es h = second (below_all nat_cmp e.0 es) (is_sorted nat_cmp es) h

pub headed : {X : Type 0} (e : ℕ × X) (es : Placed X) → T (is_sorted nat_cmp (e ∷ es)) → T (below_all nat_cmp e.0 es)
headed e es h = first (below_all nat_cmp e.0 es) (is_sorted nat_cmp es) h

pub none_first : {X : Type 0} (k : ℕ) (e : ℕ × X) (es : Placed X) → nat_cmp k e.0 ≡ Less → T (is_sorted nat_cmp (e ∷ es)) → find nat_cmp k (e ∷ es) ≡ None
none_first k e es less h = ap (λ r. cond (is_eq r) (Some e.1) (find nat_cmp k es)) less ∙ missed_below k e.0 es less (headed e es h)
