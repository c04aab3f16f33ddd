use Rattle.std.proofs.Common.{ap, ◌∙◌}
use Rattle.sc_hosts.specs.Effects.{first_play as begun}
use Rattle.sc_turn.proofs.Listing.{begins}
use Rattle.sc_turn.proofs.turn.Turn.begin.Goals as goal

pub invariant_of-result : goal.invariant_of-result
invariant_of-result c = rw c.new.ensures (begins _ _ _ (c.begun.ensures ∙ ap begun (c.in-Ok.ensures ∙ c.get.ensures)))
