use Rattle.sc_remembered.proofs.Lives.{early-made}
use Rattle.sc_remembered.proofs.laws.early_lives_make_acts.Goals as goal

pub returns : goal.returns
returns c = λ config history n small early. early-made history.turns config history n small early
