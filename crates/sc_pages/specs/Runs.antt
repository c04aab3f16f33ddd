-- Runs of numbers at each of which stands an item that rests. This project's own.
use Rattle.std.specs.Prelude.{◌≡◌, ◌≤◌, ◌<◌, ◌+◌, ◌==◌, ℕ, Bool, true, false, not, ◌&&◌, nat_lt, List, if◌then◌else◌}
use Rattle.std.specs.List.{AllByRecursion, find, list_any}
use Rattle.std.specs.Option.{option_map_or}
use Rattle.sc_pages.specs.declared.outline.Outline.{Outline}
use Rattle.sc_pages.specs.declared.runs.Run.{Run}

-- whether the first item of this number rests
abbrev pub rests_at : {T : Type 0} → (T → ℕ) → (T → Bool) → ℕ → List T → Bool
rests_at number rests n items = option_map_or rests (find (λ x. number x == n) items) false

-- the test passes at each number of the run
pub record Holds (test : ℕ → Bool) (run : Run) : Type 0 where
  pub each : (n : ℕ) → run.from ≤ n → n < run.to → test n ≡ true

-- so of each of the runs
abbrev pub AllHold : (ℕ → Bool) → List Run → Type 0
AllHold test runs = AllByRecursion (Holds test) runs

-- at each number of the runs stands an item that rests
abbrev pub AllRest : {T : Type 0} → (T → ℕ) → (T → Bool) → List T → List Run → Type 0
AllRest number rests items runs = AllHold (λ n. rests_at number rests n items) runs

-- all numbers are below this one
abbrev pub AreBelow : {T : Type 0} → (T → ℕ) → ℕ → List T → Type 0
AreBelow number past items = AllByRecursion (λ x. number x < past) items

-- whether a number is of the run
abbrev pub is_within : ℕ → Run → Bool
is_within n run = not (nat_lt n run.from) && nat_lt n run.to

-- whether a number is of one of the runs
abbrev pub are_within : List Run → ℕ → Bool
are_within runs n = list_any (is_within n) runs

-- the run of a page, where all numbers before it are below `past`; else an empty one
unfoldable pub run_of : ℕ → Outline → Run
run_of past outline =
    if outline.rests && outline.dense && not (nat_lt outline.least past)
    then record { from = outline.least; to = outline.most + 1 }
    else record { from = 0; to = 0 }

-- all numbers of the page are below it too
unfoldable pub past_of : ℕ → Outline → ℕ
past_of past outline = if nat_lt past (outline.most + 1) then outline.most + 1 else past
