use Rattle.std.proofs.Common.{◌≡◌, ◌++◌, map, take}
use Rattle.sc_work.proofs.ending.branch_numbers.Given as goal

abbrev pub invariant-loop-branch : goal.invariant-loop-branch
invariant-loop-branch l = l.numbers.items ≡ l.fn.numbers.items ++ map (λ branch. branch.number) (take l.branch-index l.branches)
