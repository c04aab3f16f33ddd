use Rattle.sc_desk.proofs.Steps.{takes, up_to}
use Rattle.sc_desk.proofs.desk_queue.take.Goals as goal

pub pop_as-requires-clause-rule : goal.pop_as-requires-clause-rule
pop_as-requires-clause-rule g c = (takes _ _ c.requires.pass.1, up_to _ _ c.requires.pass.1)
