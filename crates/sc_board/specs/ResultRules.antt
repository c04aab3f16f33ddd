-- The rule of the queue of results, and the steps of its passes. This project's own.
use Rattle.std.specs.Prelude.{◌≡◌, ◌<◌, ◌+◌, ◌-◌, ◌||◌, ℕ, Bool, true, false, cond, List, [], ◌∷◌, ◌++◌, length, nat_eq, if◌then◌else◌}
use Rattle.std.specs.List.{sum_by, AllByRecursion}
use mathlib.Core.Option.{some}
use lib.ListN.{get_elem?}
use Rattle.sc_servlets.specs.declared.done.Done.{Done}
use Rattle.sc_board.specs.declared.results.ResultView.{ResultView}

-- the pass that collects weighs one, each other nothing
abbrev pub collects_weight : Bool → ℕ
collects_weight first = cond first 1 0

-- the list isn't empty
abbrev pub has_some : List Done → Bool
has_some [] = false
has_some (done ∷ later) = true

-- the view of the pass that collects, as the board is made: it has all 1,024 parts
abbrev pub first_result_view : ResultView
first_result_view =
    record { first = true; parts = 1024; brought = []; collected = []; mixed = false }

-- the view of a pass as it is split off: it has one part
abbrev pub new_result_view : ResultView
new_result_view = record { first = false; parts = 1; brought = []; collected = []; mixed = false }

-- the view of a pass that was joined to another one: it has no part
abbrev pub spent_result_view : ResultView
spent_result_view = record { first = false; parts = 0; brought = []; collected = []; mixed = false }

-- a pass after one was split off from it, which takes one of its parts
abbrev pub result_view_left : ResultView → ResultView
result_view_left v = record v { parts = v.parts - 1 }

-- a pass after another one was joined to it; it is mixed where that one had brought something
abbrev pub joined_result_view : ResultView → ResultView → ResultView
joined_result_view v w = record {
  first = v.first || w.first;
  parts = v.parts + w.parts;
  brought = v.brought ++ w.brought;
  collected = v.collected ++ w.collected;
  mixed = v.mixed || (w.mixed || has_some w.brought);
}

-- a pass after it brought this result
abbrev pub after_bring : ResultView → Done → ResultView
after_bring v done = record v { brought = v.brought ++ done ∷ [] }

-- a pass after it collected this result
abbrev pub after_collect : ResultView → Done → ResultView
after_collect v done = record v { collected = v.collected ++ done ∷ [] }

-- what a pass with all parts knows: what it brought, however results are weighed, is what it
-- collected and what the queue holds
abbrev pub IsResultWhole : ResultView → List Done → Type 0
IsResultWhole v items =
    v.parts ≡ 1024 → (h : Done → ℕ) → sum_by h v.brought ≡ sum_by h v.collected + sum_by h items

-- those of the results that the pass of this number brought
abbrev pub brought_by : ℕ → List ℕ → List Done → List Done
brought_by port [] results = []
brought_by port (who ∷ later) [] = []
brought_by port (who ∷ later) (done ∷ results) =
    if nat_eq who port then done ∷ brought_by port later results else brought_by port later results

-- Results stand in the order in which each pass brought them: `who` is the number of the pass that
-- brought each, of those that were collected and of those in the queue.
pub record AreInOrder (items : List Done) (views : List ResultView) : Type 0 where
  pub collected : List Done
  pub who : List ℕ
  pub as_many : length who ≡ length (collected ++ items)
  pub below : AllByRecursion (λ (port : ℕ). port < length views) who
  pub first_has : (port : ℕ) (v : ResultView) → get_elem? views port ≡ some v → v.first ≡ true
      → v.collected ≡ collected
  pub in_order : (port : ℕ) (v : ResultView) → get_elem? views port ≡ some v → 0 < v.parts
      → v.mixed ≡ false → brought_by port who (collected ++ items) ≡ v.brought

-- what holds of each pass: one that doesn't collect has collected nothing
pub record IsResultView (v : ResultView) : Type 0 where
  pub plain : v.first ≡ false → v.collected ≡ []
  pub spent : v.parts ≡ 0 → v ≡ spent_result_view

-- Each result that was brought is in the queue or was collected, once: however results are weighed,
-- all that was brought weighs what the queue holds and what was collected. One pass alone collects.
pub record ResultsKept (items : List Done) (views : List ResultView) : Type 0 where
  pub parts : sum_by (λ (v : ResultView). v.parts) views ≡ 1024
  pub one : sum_by (λ (v : ResultView). collects_weight v.first) views ≡ 1
  pub balanced : (h : Done → ℕ)
      → sum_by (λ (v : ResultView). sum_by h v.brought) views
      ≡ sum_by (λ (v : ResultView). sum_by h v.collected) views + sum_by h items
  pub views_are : (port : ℕ) (v : ResultView) → get_elem? views port ≡ some v → IsResultView v
  pub order : AreInOrder items views
