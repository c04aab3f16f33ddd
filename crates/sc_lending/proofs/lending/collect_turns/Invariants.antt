use Rattle.sc_rounds.specs.Moving.{Moves}
use Rattle.sc_lending.proofs.lending.collect_turns.Given as goal

abbrev pub invariant-loop : goal.invariant-loop
invariant-loop g l = Moves l.fn.core l.core (g.N.Notice.noted l.fn.notice) (g.N.Notice.noted l.notice)
