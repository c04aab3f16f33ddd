use Rattle.sc_timed.proofs.TimedChains.{played-acts}
use Rattle.sc_timed.proofs.laws.timed_lives_make_acts.Goals as goal

pub returns : goal.returns
returns c = played-acts
