-- Items whose places are their own keys, or just below a next one, seen as a list.
use Rattle.std.proofs.Common.{◌≡◌, ◌==◌, ◌+◌, ◌<◌, ◌≤◌, ℕ, true, false, not, cond, T, Some, None, [], ◌∷◌, ◌++◌, refl, ap, sym, subst, ◌∙◌, arith}
use Rattle.std.proofs.lemmas.Bool.Decides.{nat_tests}
use Rattle.std.specs.declared.cmp.Ordering.TheVariants.{Less, Equal, Greater}
use Rattle.std.specs.List.{find as first_of}
use Rattle.std.specs.Ordering.{nat_cmp, is_eq, eq_by_cmp}
use Rattle.std.specs.Map.{values_of}
use Rattle.std.specs.FinMap.Entries.{by_order, put, find, is_sorted}
use Rattle.std.proofs.lemmas.Map.Lookups.{exact_unsigned}
use Rattle.sc_value.specs.Lists.{change_first, remove_first}
use Rattle.sc_book.specs.Places.{Placed, at_place, with_item, without_item}
use Rattle.sc_book.specs.Words.{has_key}
use Rattle.sc_book.specs.Keys.{AreKeyed, AreBelow, AreRows, AreFewer}
use Rattle.sc_book.proofs.Basics.{none_some, turned, tied, flip_test}
use Rattle.sc_book.proofs.PlaceLaws.{none_first, stays, later, headed}

-- the item of a number is the one at its place
pub found_keyed : {X : Type 0} (key : X → ℕ) (k : ℕ) (es : Placed X) → AreKeyed key es → first_of (has_key key k) (values_of es) ≡ at_place k es
unfolding AreKeyed
found_keyed key k [] h = refl
found_keyed key k (e ∷ es) h =
    ap (λ (n : ℕ). cond (n == k) (Some e.1) (first_of (has_key key k) (values_of es))) h.0
    ∙ ap (λ b. cond b (Some e.1) (first_of (has_key key k) (values_of es))) (flip_test e.0 k)
    ∙ ap (cond (is_eq (nat_cmp k e.0)) (Some e.1)) (found_keyed key k es h.1)

pub keyed_put : {X : Type 0} (key : X → ℕ) (k : ℕ) (x : X) (es : Placed X) → key x ≡ k → AreKeyed key es → AreKeyed key (put nat_cmp k x es)
unfolding AreKeyed
keyed_put key k x [] is h = (is, tt)
keyed_put key k x (e ∷ es) is h =
    elim (nat_cmp k e.0) as (λ o. nat_cmp k e.0 ≡ o → AreKeyed key (by_order o ((k, x) ∷ e ∷ es) ((e.0, x) ∷ es) (e ∷ put nat_cmp k x es))) [
      | Less ↦ λ _. (is, h)
      | Equal ↦ λ same. (is ∙ exact_unsigned k e.0 same, h.1)
      | Greater ↦ λ _. (h.0, keyed_put key k x es is h.1)
    ] refl

pub keyed_without : {X : Type 0} (key : X → ℕ) (k : ℕ) (es : Placed X) → AreKeyed key es → AreKeyed key (without_item es k)
unfolding AreKeyed
keyed_without key k [] h = tt
keyed_without key k (e ∷ es) h =
    elim (not (eq_by_cmp nat_cmp k e.0)) as (λ b. AreKeyed key (cond b (e ∷ without_item es k) (without_item es k))) [
      | true ↦ (h.0, keyed_without key k es h.1)
      | false ↦ keyed_without key k es h.1
    ]

pub below_put : {X : Type 0} (next k : ℕ) (x : X) (es : Placed X) → k < next → AreBelow next es → AreBelow next (put nat_cmp k x es)
unfolding AreBelow
below_put next k x [] is h = (is, tt)
below_put next k x (e ∷ es) is h =
    elim (nat_cmp k e.0) as (λ o. AreBelow next (by_order o ((k, x) ∷ e ∷ es) ((e.0, x) ∷ es) (e ∷ put nat_cmp k x es))) [
      | Less ↦ (is, h)
      | Equal ↦ h
      | Greater ↦ (h.0, below_put next k x es is h.1)
    ]

pub below_without : {X : Type 0} (next k : ℕ) (es : Placed X) → AreBelow next es → AreBelow next (without_item es k)
unfolding AreBelow
below_without next k [] h = tt
below_without next k (e ∷ es) h =
    elim (not (eq_by_cmp nat_cmp k e.0)) as (λ b. AreBelow next (cond b (e ∷ without_item es k) (without_item es k))) [
      | true ↦ (h.0, below_without next k es h.1)
      | false ↦ below_without next k es h.1
    ]

pub below_more : {X : Type 0} (next more : ℕ) (es : Placed X) → next ≤ more → AreBelow next es → AreBelow more es
unfolding AreBelow
below_more next more [] up h = tt
below_more next more (e ∷ es) up h = (omega (arith, up, h.0), below_more next more es up h.1)

-- the order that a place has to one below it
above : (next k n : ℕ) → n < next → next ≤ k → nat_cmp k n ≡ Greater
above next k n low up = grind (arith, nat_tests, low, up)

-- an item with a number above all goes to the end
pub pushed_keyed : {X : Type 0} (next k : ℕ) (x : X) (es : Placed X) → next ≤ k → AreBelow next es → values_of (with_item es k x) ≡ values_of es ++ x ∷ []
unfolding AreBelow
pushed_keyed next k x [] up h = refl
pushed_keyed next k x (e ∷ es) up h =
    ap (λ o. values_of (by_order o ((k, x) ∷ e ∷ es) ((e.0, x) ∷ es) (e ∷ put nat_cmp k x es))) (above next k e.0 h.0 up)
    ∙ ap (λ l. e.1 ∷ l) (pushed_keyed next k x es up h.1)

-- the item of a number changed, where there is one
changed : {X : Type 0} (key : X → ℕ) (k : ℕ) (x old : X) (es : Placed X) → T (is_sorted nat_cmp es) → AreKeyed key es → find nat_cmp k es ≡ Some old → values_of (put nat_cmp k x es) ≡ change_first (has_key key k) (λ _. x) (values_of es)
unfolding change_first AreKeyed
changed key k x old [] up h there = absurd (none_some old there)
changed key k x old (e ∷ es) up h there =
    elim (nat_cmp k e.0) as (λ o. nat_cmp k e.0 ≡ o → cond (is_eq o) (Some e.1) (find nat_cmp k es) ≡ Some old
    → values_of (by_order o ((k, x) ∷ e ∷ es) ((e.0, x) ∷ es) (e ∷ put nat_cmp k x es)) ≡ cond (is_eq o) (x ∷ values_of es) (e.1 ∷ change_first (has_key key k) (λ _. x) (values_of es))) [
      | Less ↦ λ less is. absurd (none_some old (sym (none_first k e es less up) ∙ there))
      | Equal ↦ λ same is. refl
      | Greater ↦ λ more is. ap (λ l. e.1 ∷ l) (changed key k x old es (later e es up) h.1 is)
    ] refl there
    ∙ ap (λ b. cond b (x ∷ values_of es) (e.1 ∷ change_first (has_key key k) (λ _. x) (values_of es))) (sym (flip_test e.0 k))
    ∙ ap (λ (n : ℕ). cond (n == k) (x ∷ values_of es) (e.1 ∷ change_first (has_key key k) (λ _. x) (values_of es))) (sym h.0)

-- the item of a number left out
removed : {X : Type 0} (key : X → ℕ) (k : ℕ) (es : Placed X) → T (is_sorted nat_cmp es) → AreKeyed key es → values_of (without_item es k) ≡ remove_first (has_key key k) (values_of es)
unfolding remove_first AreKeyed
removed key k [] up h = refl
removed key k (e ∷ es) up h =
    elim (is_eq (nat_cmp k e.0)) as (λ b. is_eq (nat_cmp k e.0) ≡ b → values_of (cond (not b) (e ∷ without_item es k) (without_item es k)) ≡ cond b (values_of es) (e.1 ∷ remove_first (has_key key k) (values_of es))) [
      | true ↦ λ same. ap values_of (stays k e.0 es (tied (nat_cmp k e.0) same) (headed e es up))
      | false ↦ λ _. ap (λ l. e.1 ∷ l) (removed key k es (later e es up) h.1)
    ] refl
    ∙ ap (λ b. cond b (values_of es) (e.1 ∷ remove_first (has_key key k) (values_of es))) (sym (flip_test e.0 k))
    ∙ ap (λ (n : ℕ). cond (n == k) (values_of es) (e.1 ∷ remove_first (has_key key k) (values_of es))) (sym h.0)

pub below_found : {X : Type 0} (next k : ℕ) (x : X) (es : Placed X) → AreBelow next es → find nat_cmp k es ≡ Some x → k < next
unfolding AreBelow
below_found next k x [] h there = absurd (none_some x there)
below_found next k x (e ∷ es) h there =
    elim (is_eq (nat_cmp k e.0)) as (λ b. is_eq (nat_cmp k e.0) ≡ b → cond b (Some e.1) (find nat_cmp k es) ≡ Some x → k < next) [
      | true ↦ λ same _. subst (λ n. n < next) (sym (exact_unsigned k e.0 (tied (nat_cmp k e.0) same))) h.0
      | false ↦ λ _ is. below_found next k x es h.1 is
    ] refl there

-- ## What the calls owe

pub no_rows : {X : Type 0} (key : X → ℕ) (es : Placed X) (next : ℕ) → es ≡ [] → AreRows key es next
unfolding AreKeyed AreBelow
no_rows key es next none = subst (λ l. AreRows key l next) (sym none) (record { keyed = tt; below = tt })

pub none_below : {X : Type 0} (es : Placed X) (next : ℕ) → es ≡ [] → AreBelow next es
unfolding AreBelow
none_below es next none = subst (AreBelow next) (sym none) tt

-- an item goes to the end
pub pushed : {X : Type 0} (next k : ℕ) (x : X) (es fs : Placed X) → AreBelow next es → next ≤ k → fs ≡ with_item es k x → values_of fs ≡ values_of es ++ x ∷ []
pushed next k x es fs below up is = ap values_of is ∙ pushed_keyed next k x es up below

pub below_pushed : {X : Type 0} (next k after : ℕ) (x : X) (es fs : Placed X) → AreBelow next es → next ≤ k → after ≡ k + 1 → fs ≡ with_item es k x → AreBelow after fs
below_pushed next k after x es fs below up past is = subst (AreBelow after) (sym is) (below_put after k x es (omega (arith, past)) (below_more next after es (omega (arith, up, past)) below))

pub rows_pushed : {X : Type 0} (key : X → ℕ) (next k after : ℕ) (x : X) (es fs : Placed X) → AreRows key es next → next ≤ k → after ≡ k + 1 → key x ≡ k → fs ≡ with_item es k x → AreRows key fs after
rows_pushed key next k after x es fs rows up past own is = record {
  keyed = subst (AreKeyed key) (sym is) (keyed_put key k x es own rows.keyed);
  below = below_pushed next k after x es fs rows.below up past is;
}

-- an item goes to the place of another
pub below_set : {X : Type 0} (next k : ℕ) (x old : X) (es fs : Placed X) → AreBelow next es → Some old ≡ at_place k es → fs ≡ with_item es k x → AreBelow next fs
below_set next k x old es fs below there is = subst (AreBelow next) (sym is) (below_put next k x es (below_found next k old es below (sym there)) below)

pub rows_set : {X : Type 0} (key : X → ℕ) (next k : ℕ) (x old : X) (es fs : Placed X) → AreRows key es next → Some old ≡ at_place k es → key x ≡ k → fs ≡ with_item es k x → AreRows key fs next
rows_set key next k x old es fs rows there own is = record {
  keyed = subst (AreKeyed key) (sym is) (keyed_put key k x es own rows.keyed);
  below = below_set next k x old es fs rows.below there is;
}

pub set_keyed : {X : Type 0} (key : X → ℕ) (k : ℕ) (x old : X) (es fs : Placed X) → AreKeyed key es → is_sorted nat_cmp es ≡ true → Some old ≡ at_place k es → fs ≡ with_item es k x → values_of fs ≡ change_first (has_key key k) (λ _. x) (values_of es)
set_keyed key k x old es fs keyed up there is = ap values_of is ∙ changed key k x old es (turned (is_sorted nat_cmp es) up) keyed (sym there)

kept : {X : Type 0} (key : X → ℕ) (k : ℕ) (x : X) (es : Placed X) → AreKeyed key es → find nat_cmp k es ≡ None → values_of es ≡ change_first (has_key key k) (λ _. x) (values_of es)
unfolding change_first AreKeyed
kept key k x [] h none = refl
kept {X} key k x (e ∷ es) h none =
    elim (is_eq (nat_cmp k e.0)) as (λ b. cond b (Some e.1) (find nat_cmp k es) ≡ None → values_of (e ∷ es) ≡ cond b (x ∷ values_of es) (e.1 ∷ change_first (has_key key k) (λ _. x) (values_of es))) [
      | true ↦ λ is. absurd (none_some e.1 (sym is))
      | false ↦ λ is. ap (λ l. e.1 ∷ l) (kept key k x es h.1 is)
    ] none
    ∙ ap (λ b. cond b (x ∷ values_of es) (e.1 ∷ change_first (has_key key k) (λ _. x) (values_of es))) (sym (flip_test e.0 k))
    ∙ ap (λ (n : ℕ). cond (n == k) (x ∷ values_of es) (e.1 ∷ change_first (has_key key k) (λ _. x) (values_of es))) (sym h.0)

pub kept_keyed : {X : Type 0} (key : X → ℕ) (k : ℕ) (x : X) (es : Placed X) → AreKeyed key es → None ≡ at_place k es → values_of es ≡ change_first (has_key key k) (λ _. x) (values_of es)
kept_keyed key k x es keyed none = kept key k x es keyed (sym none)

-- the item of a key goes
pub left_keyed : {X : Type 0} (key : X → ℕ) (k : ℕ) (es fs : Placed X) → AreKeyed key es → is_sorted nat_cmp es ≡ true → fs ≡ without_item es k → values_of fs ≡ remove_first (has_key key k) (values_of es)
left_keyed key k es fs keyed up is = ap values_of is ∙ removed key k es (turned (is_sorted nat_cmp es) up) keyed

-- ## Fewer items

pub fewer_own : {X : Type 0} (es fs : Placed X) → fs ≡ es → AreFewer es fs
fewer_own es fs same = record { keyed = λ key h. subst (AreKeyed key) (sym same) h; below = λ next h. subst (AreBelow next) (sym same) h }

pub fewer_without : {X : Type 0} (k : ℕ) (es fs : Placed X) → fs ≡ without_item es k → AreFewer es fs
fewer_without k es fs is = record { keyed = λ key h. subst (AreKeyed key) (sym is) (keyed_without key k es h); below = λ next h. subst (AreBelow next) (sym is) (below_without next k es h) }

pub fewer_on : {X : Type 0} (es fs gs : Placed X) → AreFewer es fs → AreFewer fs gs → AreFewer es gs
fewer_on es fs gs one two = record { keyed = λ key h. two.keyed key (one.keyed key h); below = λ next h. two.below next (one.below next h) }

pub rows_fewer : {X : Type 0} (key : X → ℕ) (next : ℕ) (es fs : Placed X) → AreRows key es next → AreFewer es fs → AreRows key fs next
rows_fewer key next es fs rows fewer = record { keyed = fewer.keyed key rows.keyed; below = fewer.below next rows.below }

pub below_fewer : {X : Type 0} (next : ℕ) (es fs : Placed X) → AreBelow next es → AreFewer es fs → AreBelow next fs
below_fewer next es fs below fewer = fewer.below next below
