use Rattle.std.proofs.Common.{◌≡◌, ◌++◌, take}
use Rattle.std.specs.List.{flat_map}
use Rattle.sc_ticks.specs.Items.{entry_dated}
use Rattle.sc_ticks.proofs.due.put_entries.Given as goal

abbrev pub invariant-loop-entry : goal.invariant-loop-entry
invariant-loop-entry l = l.out ≡ l.fn.out ++ flat_map (entry_dated l.app l.fired) (take l.entry-index l.entries)
