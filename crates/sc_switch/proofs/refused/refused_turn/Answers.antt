use Rattle.sc_switch.proofs.Standings.{never_step}
use Rattle.sc_switch.proofs.refused.refused_turn.Goals as goal

pub unreachable-requires : goal.unreachable-requires
unreachable-requires c = never_step _ _ _ c.requires.1 c.in-Step.is
