use Rattle.std.proofs.Common.{◌≡◌, ◌++◌, take}
use Rattle.sc_switch.proofs.copying.add_entries.Given as goal

abbrev pub invariant-loop-entry : goal.invariant-loop-entry
invariant-loop-entry l = l.copies ≡ l.fn.copies ++ take l.entry-index l.entries
