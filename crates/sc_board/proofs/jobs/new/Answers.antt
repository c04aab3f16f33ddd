use Rattle.sc_board.proofs.JobSteps.{begins}
use Rattle.sc_board.proofs.jobs.new.Goals as goal

pub ruled-requires-clause-rule : goal.ruled-requires-clause-rule
ruled-requires-clause-rule c = begins
