use Rattle.std.proofs.Common.{◌≡◌, ◌++◌, take}
use Rattle.std.specs.Prelude.{filter}
use Rattle.sc_model.specs.BestResponses.{is_challenge}
use Rattle.sc_best.proofs.forwarding.add_some.Given as goal

abbrev pub invariant-loop-at : goal.invariant-loop-at
invariant-loop-at l = l.fields ≡ l.fn.fields ++ filter is_challenge (take l.at l.others)
