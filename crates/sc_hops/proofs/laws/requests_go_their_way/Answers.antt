use Rattle.sc_hops.proofs.OwnBranch.{turn-sends}
use Rattle.sc_hops.proofs.laws.requests_go_their_way.Goals as goal

pub returns : goal.returns
returns c = turn-sends
