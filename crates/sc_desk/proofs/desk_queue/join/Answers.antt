use Rattle.sc_desk.proofs.Steps.{merges}
use Rattle.sc_desk.proofs.desk_queue.join.Goals as goal

pub absorb-requires-clause-rule : goal.absorb-requires-clause-rule
absorb-requires-clause-rule c = merges _ _ _ _ c.requires.pass.1 c.requires.ended.1
