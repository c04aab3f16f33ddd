use Rattle.std.proofs.Common.{◌≡◌}
use Rattle.sc_book.specs.Places.{all_laid}
use Rattle.sc_book.specs.Groups.{KeepsBook}
use Rattle.sc_book.proofs.settling.settle_all.Given as goal

-- what the two stand for stays, and what is left of the changes needs no other groups
abbrev pub invariant-loop : goal.invariant-loop
invariant-loop g l = (all_laid l.base l.changes.entries ≡ all_laid l.fn.base l.fn.changes.entries) × KeepsBook g.T.Item.groups l.fn.base l.fn.changes.entries l.base l.changes.entries
