use Rattle.sc_desk.proofs.Steps.{posts, waits}
use Rattle.sc_desk.proofs.desk_queue.post.Goals as goal

pub push_as-requires-clause-rule : goal.push_as-requires-clause-rule
push_as-requires-clause-rule g c = (posts _ _ _ _ c.requires.pass.1 c.requires.by, waits _ _ c.requires.pass.1)
