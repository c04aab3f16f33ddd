use Rattle.sc_board.proofs.ResultSteps.{begins}
use Rattle.sc_board.proofs.results.new.Goals as goal

pub ruled-requires-clause-rule : goal.ruled-requires-clause-rule
ruled-requires-clause-rule c = begins
