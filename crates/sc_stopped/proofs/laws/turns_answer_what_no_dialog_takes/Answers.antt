use Rattle.sc_stopped.proofs.SilentTurns.{turn-refuses}
use Rattle.sc_stopped.proofs.laws.turns_answer_what_no_dialog_takes.Goals as goal

pub returns : goal.returns
returns c = turn-refuses
