use Rattle.std.proofs.Common.{◌≡◌, not, filter, take}
use Rattle.sc_model.specs.Responses.{is_tag}
use Rattle.sc_messages.proofs.sides.without_tag.Given as goal

abbrev pub invariant-loop-param : goal.invariant-loop-param
invariant-loop-param l = l.others ≡ filter (λ param. not (is_tag param)) (take l.param-index l.params)
