use Rattle.sc_serve.proofs.AllClosings.{none_left}
use Rattle.sc_serve.proofs.server.Server.has_closed_all.Goals as goal

pub returns : goal.returns
returns c is = none_left _ _ c.is_empty.ensures is
