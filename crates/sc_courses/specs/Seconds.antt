-- How long a server that is recorded keeps steps before it hands them on: each part of its journal
-- was taken within a second. This project's own.
use Rattle.std.specs.Prelude.{◌≡◌, ◌⊎◌, ◌+◌, ◌<◌, ℕ, List, [], ◌∷◌, ◌++◌, Option, None, Some, length}
use Rattle.std.specs.List.{filter_map, fold}
use Rattle.sc_journal.specs.Kept.{Kept}
use Rattle.sc_terms.specs.declared.steps.Step.{Step}
use Rattle.sc_terms.specs.declared.steps.Step.TheVariants as steps
use Rattle.sc_edge.specs.declared.notice.Noted.{Noted}
use Rattle.sc_edge.specs.declared.notice.Noted.TheVariants as noted
use Rattle.sc_moments.specs.Moments.{moment_of}

-- the moment after these steps, taken from a moment on
unfoldable pub moment_after : ℕ → List Step → ℕ
moment_after moment taken = fold moment_of moment taken

-- the last of these steps was taken less than 1,000 ms after the first
unfoldable pub IsOfASecond : ℕ → List Step → Type 0
IsOfASecond moment [] = Unit {0}
IsOfASecond moment (first ∷ later) =
    moment_after moment (first ∷ later) < moment_of moment first + 1000

-- so it is of each of these parts, taken one after the other
unfoldable pub AreOfASecond : ℕ → List (List Step) → Type 0
AreOfASecond moment [] = Unit {0}
AreOfASecond moment (part ∷ later) =
    IsOfASecond moment part × AreOfASecond (moment_after moment part) later

-- the steps that an item hands on: a part of an epoch, or the rest of one that ended
unfoldable pub part_in : Noted (Kept Step) → Option (List Step)
part_in (noted.Step count) = None
part_in (noted.Part journal) = Some journal.items
part_in (noted.Epoch number began journal) = Some journal.items
part_in (noted.List listing) = None

-- the parts among these items, in order
unfoldable pub parts_in : List (Noted (Kept Step)) → List (List Step)
parts_in items = filter_map part_in items

-- each part among these items is of a second, and so are the steps that are kept behind them
unfoldable pub HandsInTime : List Step → List (Noted (Kept Step)) → Type 0
HandsInTime kept items = AreOfASecond 0 (parts_in items ++ kept ∷ [])

-- ## On the way

-- the moment behind these parts
abbrev pub moment_behind : List (Noted (Kept Step)) → ℕ
moment_behind items = fold moment_after 0 (parts_in items)

-- the first of these steps, if there is one, was taken then
unfoldable pub IsSince : ℕ → ℕ → List Step → Type 0
IsSince since moment [] = Unit {0}
IsSince since moment (first ∷ later) = since ≡ moment_of moment first

-- the step may be taken behind those that are kept since then
abbrev pub IsInTime : ℕ → List Step → Step → Type 0
IsInTime since kept (steps.In place message) = Unit {0}
IsInTime since kept (steps.Bad place bad) = Unit {0}
IsInTime since kept (steps.Lost place) = Unit {0}
IsInTime since kept (steps.Tick now) = (kept ≡ []) ⊎ (now < since + 1000)
IsInTime since kept (steps.Turn end app event moment calls) = Unit {0}
IsInTime since kept (steps.Withdraw app) = Unit {0}

-- the parts that were handed on and what is kept are of a second each, and what is kept was begun
-- then
pub record Keeps (since moment : ℕ) (kept : List Step)
    (items : List (Noted (Kept Step))) : Type 0 where
  pub parts_are : AreOfASecond 0 (parts_in items)
  pub kept_is : IsOfASecond (moment_behind items) kept
  pub moment_is : moment ≡ moment_after (moment_behind items) kept
  pub since_is : IsSince since (moment_behind items) kept

-- the same, where a step was taken which is the only one or not the first
pub record KeepsNext (since moment : ℕ) (kept : List Step)
    (items : List (Noted (Kept Step))) : Type 0 where
  pub parts_are : AreOfASecond 0 (parts_in items)
  pub kept_is : IsOfASecond (moment_behind items) kept
  pub moment_is : moment ≡ moment_after (moment_behind items) kept
  pub since_is : (length kept ≡ 1) ⊎ IsSince since (moment_behind items) kept
