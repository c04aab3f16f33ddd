-- How often an edge is polled. This project's own.
use Rattle.std.specs.Prelude.{◌≡◌, ◌≤◌, ◌+◌, ◌*◌, ℕ, zero, suc}
use Rattle.sc_edge.specs.Edges.{EdgeState}
use Rattle.sc_edge.specs.Faults.{one_more}

-- the count after so many more
unfoldable pub counted_on : ℕ → ℕ → ℕ
counted_on count zero = count
counted_on count (suc more) = one_more (counted_on count more)

-- by the end of so many rounds an edge was polled at most once more than there were rounds, as a
-- poll may end the run before its round asks anything; and there were at most 16 rounds for each
-- poll and 15 besides
pub record PollsOften (first now : EdgeState) (rounds : ℕ) : Type 0 where
  pub polls : ℕ
  pub counted : now.polls ≡ counted_on first.polls polls
  pub most : polls ≤ rounds + 1
  pub least : rounds ≤ 16 * polls + 15
