-- Items that are gathered from places that have them. This project's own.
use Rattle.std.specs.Prelude.{◌≡◌, ℕ, Bool, true, false, not, List, [], ◌∷◌, Option, IfSome, IfNone, map, if◌then◌else◌}
use Rattle.std.specs.declared.option.Option.TheVariants.{None, Some}
use Rattle.std.specs.declared.ops.Bound.TheVariants.{Excluded, Included, Unbounded}
use Rattle.std.specs.List.{fold, list_any}
use Rattle.std.specs.declared.cmp.Ordering.TheVariants.{Less}
use Rattle.std.specs.Ordering.{nat_cmp}
use Rattle.std.specs.BTreeMap.{is_at}
use Rattle.std.specs.BTreeSet.{BTreeSet, insert_key, keys_between}
use Rattle.std.specs.FinMap.Entries.{is_sorted}
use Rattle.sc_book.specs.declared.wanted.Wanted.{Wanted}
use Rattle.sc_book.specs.declared.wanted.Wanted.TheVariants as wanted
use Rattle.sc_book.specs.Places.{Placed, at_place, passes_at, without_item}
use Rattle.sc_book.specs.Pairs.{pair_cmp}
use Rattle.sc_book.specs.Words.{belongs, is_before}

-- ## Places

-- whether a place is among these
abbrev pub has_place : List ℕ → ℕ → Bool
has_place ks p = list_any (is_at (nat_cmp p)) ks

-- the places of the one are among those of the other
pub record MorePlaces (ks ls : List ℕ) : Type 0 where
  pub more : (p : ℕ) → has_place ks p ≡ true → has_place ls p ≡ true

-- the items are in order, and each that passes stands at one of these places
pub record Covers {T : Type 0} (test : T → Bool) (es : Placed T) (ks : List ℕ) : Type 0 where
  pub ordered : is_sorted nat_cmp es ≡ true
  pub covers : (p : ℕ) (x : T) → at_place p es ≡ Some x → test x ≡ true → has_place ks p ≡ true

-- with these places, in order
abbrev pub with_all : List ℕ → List ℕ → List ℕ
with_all ks ps = fold (insert_key nat_cmp) ks ps

-- with the places of these pairs, in order
abbrev pub with_place : List ℕ → ℕ × ℕ → List ℕ
with_place ks pair = insert_key nat_cmp ks pair.1

-- with the places of all these pairs, in order
abbrev pub with_places : List ℕ → List (ℕ × ℕ) → List ℕ
with_places ks pairs = fold with_place ks pairs

-- the pairs whose number is below this one
abbrev pub pairs_below : ℕ → BTreeSet (ℕ × ℕ) → List (ℕ × ℕ)
pairs_below past pairs = keys_between pair_cmp Unbounded (Excluded (past, 0)) pairs

-- the pairs of numbers from this one and before that
abbrev pub pairs_from : ℕ → ℕ → BTreeSet (ℕ × ℕ) → List (ℕ × ℕ)
pairs_from low past pairs = keys_between pair_cmp (Included (low, 0)) (Excluded (past, 0)) pairs

-- all pairs of numbers from this one
abbrev pub pairs_up : ℕ → BTreeSet (ℕ × ℕ) → List (ℕ × ℕ)
pairs_up low pairs = keys_between pair_cmp (Included (low, 0)) Unbounded pairs

-- the places of pairs, in the order of the pairs
abbrev pub places_in : List (ℕ × ℕ) → List ℕ
places_in pairs = map (λ pair. pair.1) pairs

-- ## Which items

-- which items are asked for: all, those of a group, or those that are due before a moment
abbrev pub is_wanted : {T : Type 0} → (T → Option ℕ) → (T → ℕ × ℕ) → Wanted → T → Bool
is_wanted due group_of wanted.All = λ _. true
is_wanted due group_of (wanted.Of group) = belongs group_of group
is_wanted due group_of (wanted.Before past) = λ x. is_before past (due x)

-- the item, where it passes
abbrev pub if_passing : {T : Type 0} → (T → Bool) → Option T → Option T
if_passing test None = None
if_passing test (Some x) = if test x then Some x else None

-- before the others, where there is one
abbrev pub with_one : {T : Type 0} → ℕ → Option T → Placed T → Placed T
with_one p None es = es
with_one p (Some x) es = (p, x) ∷ es

-- the items that pass at these places
unfoldable pub items_at : {T : Type 0} → (T → Bool) → Placed T → List ℕ → Placed T
items_at test es [] = []
items_at test es (p ∷ ps) = with_one p (if_passing test (at_place p es)) (items_at test es ps)

-- the item of an Option, or none
abbrev pub one_of : {T : Type 0} → Option T → List T
one_of None = []
one_of (Some x) = x ∷ []

-- ## The first

-- the place is that of the first item that passes
pub record IsFirst {T : Type 0} (test : T → Bool) (es : Placed T) (place : Option ℕ) : Type 0 where
  pub sorted : is_sorted nat_cmp es ≡ true
  pub passes : IfSome place (λ k. passes_at test es k ≡ true)
  pub before : IfSome place (λ k. (p : ℕ) → nat_cmp p k ≡ Less → passes_at test es p ≡ false)
  pub none : IfNone place ((p : ℕ) → passes_at test es p ≡ false)

-- ## What is left

-- without the item at this place, where it doesn't pass
unfoldable pub left_once : {T : Type 0} → (T → Bool) → Placed T → ℕ → Placed T
left_once test es p = if passes_at (λ x. not (test x)) es p then without_item es p else es

-- the same at all these places
abbrev pub left_at : {T : Type 0} → (T → Bool) → Placed T → List ℕ → Placed T
left_at test es ps = fold (left_once test) es ps
