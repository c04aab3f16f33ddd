use Rattle.std.specs.Prelude.{◌-◌, length}
use Rattle.sc_follow.proofs.Playings.{IsPlaying}
use Rattle.sc_follow.proofs.playing.play.Given as goal

abbrev pub invariant-loop : goal.invariant-loop
invariant-loop g l = IsPlaying l.fn.switch l.switch

abbrev pub decreases-loop : goal.decreases-loop
decreases-loop g l = l.switch.setup.config.journal_steps - length l.switch.journal
