use Rattle.sc_desk.proofs.Steps.{splits}
use Rattle.sc_desk.proofs.desk_queue.split.Goals as goal

pub another-requires-clause-rule : goal.another-requires-clause-rule
another-requires-clause-rule c = splits _ _ c.requires.pass.1
