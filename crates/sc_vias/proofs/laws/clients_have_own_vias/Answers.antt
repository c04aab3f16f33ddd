use Rattle.sc_vias.proofs.RunVias.{history-vias, own-vias}
use Rattle.sc_vias.proofs.laws.clients_have_own_vias.Goals as goal

pub returns-clause-session : goal.returns-clause-session
returns-clause-session c = own-vias

pub returns-clause-history : goal.returns-clause-history
returns-clause-history c = history-vias
