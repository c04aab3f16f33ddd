use Rattle.std.proofs.Common.{◌≡◌}
use Rattle.sc_book.specs.Places.{all_laid}
use Rattle.sc_book.proofs.copying.add_changes.Given as goal

-- what is left of the changes goes over what there is
abbrev pub invariant-loop-place : goal.invariant-loop-place
invariant-loop-place g l = all_laid l.copy l.place-iterator ≡ all_laid l.fn.copy l.changes.entries
