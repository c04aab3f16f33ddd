use Rattle.std.proofs.Common.{◌≡◌, ◌++◌, take}
use Rattle.std.specs.List.{flat_map}
use Rattle.sc_model.specs.BestResponses.{challenges_of}
use Rattle.sc_best.proofs.forwarding.add_challenges.Given as goal

abbrev pub invariant-loop-response : goal.invariant-loop-response
invariant-loop-response l = l.fields ≡ l.fn.fields ++ flat_map challenges_of (take l.response-index l.responses)
