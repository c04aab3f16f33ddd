use Rattle.sc_watch.proofs.Histories.{begins_keeping}
use Rattle.sc_watch.proofs.watch.begun.Goals as goal

pub new-requires-clause-rule : goal.new-requires-clause-rule
new-requires-clause-rule c = begins_keeping _
