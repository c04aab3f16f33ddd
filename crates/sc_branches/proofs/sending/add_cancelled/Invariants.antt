use Rattle.std.proofs.Common.{◌≡◌, ◌++◌, take, map}
use Rattle.std.specs.Prelude.{filter}
use Rattle.sc_branches.specs.Changes.{is_cancelled, number_of}
use Rattle.sc_branches.proofs.sending.add_cancelled.Given as goal

abbrev pub invariant-loop-branch : goal.invariant-loop-branch
invariant-loop-branch l = l.numbers.items ≡ l.fn.numbers.items ++ map number_of (filter is_cancelled (take l.branch-index l.branches))
