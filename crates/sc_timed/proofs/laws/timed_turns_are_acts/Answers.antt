use Rattle.sc_timed.proofs.TimedTurns.{timed-acts}
use Rattle.sc_timed.proofs.laws.timed_turns_are_acts.Goals as goal

pub returns : goal.returns
returns c = timed-acts
