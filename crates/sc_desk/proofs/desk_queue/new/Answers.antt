use Rattle.sc_desk.proofs.Steps.{begins}
use Rattle.sc_desk.proofs.desk_queue.new.Goals as goal

pub ruled-requires-clause-rule : goal.ruled-requires-clause-rule
ruled-requires-clause-rule c = begins
