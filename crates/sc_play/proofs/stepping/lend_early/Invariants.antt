use Rattle.sc_play.specs.Played.{Lent}
use Rattle.sc_play.proofs.stepping.lend_early.Given as goal

abbrev pub invariant-loop : goal.invariant-loop
invariant-loop l = Lent l.fn.player.switch l.player.switch
