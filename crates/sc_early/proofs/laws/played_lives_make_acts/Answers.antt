use Rattle.sc_early.proofs.Clear.{played-make-acts}
use Rattle.sc_early.proofs.laws.played_lives_make_acts.Goals as goal

pub returns : goal.returns
returns c = played-make-acts
