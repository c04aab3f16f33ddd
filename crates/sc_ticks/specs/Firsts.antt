-- What is due, by its key: of the items of one key the first stands. This project's own.
use Rattle.std.specs.Prelude.{ℕ, List, [], ◌∷◌, if◌then◌else◌}
use Rattle.std.specs.BTreeMap.{insert_entry}
use Rattle.sc_model.specs.Timers.{DueEntry, due_order, is_due}
use Rattle.sc_hosts.specs.Ticks.{Dated}

-- one item before those that are kept
unfoldable pub kept_first : ℕ → Dated → List (DueEntry × Dated) → List (DueEntry × Dated)
kept_first now d kept = if is_due now d.entry then insert_entry due_order kept d.entry d else kept

-- all of them, from the last on
unfoldable pub kept_firsts : ℕ → List (DueEntry × Dated) → List Dated → List (DueEntry × Dated)
kept_firsts now kept [] = kept
kept_firsts now kept (d ∷ ds) = kept_first now d (kept_firsts now kept ds)
