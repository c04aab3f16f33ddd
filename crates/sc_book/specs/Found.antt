-- What items are found by: the numbers of each, and the indexes that have them. This project's own.
use Rattle.std.specs.Prelude.{◌≡◌, ℕ, Bool, true, Option}
use Rattle.std.specs.declared.option.Option.TheVariants.{None, Some}
use Rattle.std.specs.Ordering.{nat_cmp}
use Rattle.std.specs.FinMap.Entries.{is_sorted}
use Rattle.sc_book.specs.declared.numbers.Numbers.{Numbers}
use Rattle.sc_book.specs.declared.indexes.Indexes.{Indexes}
use Rattle.sc_book.specs.Places.{Placed, at_place}
use Rattle.sc_book.specs.Words.{in_groups}
use Rattle.sc_book.specs.Pairs.{Pairs, has_pair, is_number, is_group, Grown, HasOwn, KeptBut}

-- the numbers of an item
abbrev pub numbers_of : {T : Type 0} → (T → Option ℕ) → (T → Option ℕ) → (T → ℕ × ℕ) → T → Numbers
numbers_of due first group_of x = record { due = due x; first = first x; groups = group_of x }

-- ## One item

-- the due moment of an item, where there is an item and it has one
abbrev pub due_of : Option Numbers → Option ℕ
due_of None = None
due_of (Some numbers) = numbers.due

-- the number by which an item is ordered, where there is one
abbrev pub first_of : Option Numbers → Option ℕ
first_of None = None
first_of (Some numbers) = numbers.first

-- the two numbers under which an item is found
abbrev pub groups_of : Option Numbers → Option (ℕ × ℕ)
groups_of None = None
groups_of (Some numbers) = Some numbers.groups

-- the indexes have these numbers at this place
pub record HasNumbers (numbers : Option Numbers) (place : ℕ) (i : Indexes) : Type 0 where
  pub dues : HasOwn (is_number (due_of numbers)) place i.dues
  pub firsts : HasOwn (is_number (first_of numbers)) place i.firsts
  pub groups : HasOwn (is_group (groups_of numbers)) place i.groups

-- what the one has the other has too
pub record AllGrown (i j : Indexes) : Type 0 where
  pub dues : Grown i.dues j.dues
  pub firsts : Grown i.firsts j.firsts
  pub groups : Grown i.groups j.groups

-- what the one has the other has too, but for numbers of this place that aren't these
pub record AllKeptBut (numbers : Option Numbers) (place : ℕ) (i j : Indexes) : Type 0 where
  pub dues : KeptBut (is_number (due_of numbers)) place i.dues j.dues
  pub firsts : KeptBut (is_number (first_of numbers)) place i.firsts j.firsts
  pub groups : KeptBut (is_group (groups_of numbers)) place i.groups j.groups

-- ## All items

-- the pair of each number of each item is there (there may be more)
pub record HasAll {T : Type 0} (own : T → ℕ → Bool) (es : Placed T) (ks : Pairs) : Type 0 where
  pub all : (v p : ℕ) (x : T) → at_place p es ≡ Some x → own x v ≡ true → has_pair ks v p ≡ true

-- the items are in order, and the indexes have them all
pub record AreFound {T : Type 0} (due first : T → Option ℕ) (group_of : T → ℕ × ℕ) (es : Placed T)
    (i : Indexes) : Type 0 where
  pub ordered : is_sorted nat_cmp es ≡ true
  pub dues : HasAll (λ x. is_number (due x)) es i.dues
  pub firsts : HasAll (λ x. is_number (first x)) es i.firsts
  pub groups : HasAll (λ x. in_groups (group_of x)) es i.groups
