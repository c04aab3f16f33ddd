use Rattle.sc_serve.proofs.Leavings.{never_started}
use Rattle.sc_serve.proofs.beginning.begin_over.Goals as goal

pub returns-in-Err-clause-unserved : goal.returns-in-Err-clause-unserved
returns-in-Err-clause-unserved g c edge told = never_started _ told edge c.not_started.result c.not_started.ensures.status c.not_started.ensures.epoch c.not_started.ensures.began c.not_started.ensures.journal
