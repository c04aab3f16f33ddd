use Rattle.sc_head_text.proofs.ReadValues.{host_held}
use Rattle.sc_head_text.proofs.vias.read_hop.Goals as goal

pub build-requires-clause-host : goal.build-requires-clause-host
build-requires-clause-host c = host_held _ _ _ c.in-Ok.ensures
