use Rattle.std.proofs.Common.{◌∙◌, ap, slice_get}
use Rattle.sc_wire.proofs.HostsAt.{copied-at}
use Rattle.sc_wire.proofs.wire.host_at.Goals as goal

pub returns : goal.returns
returns c = copied-at _ _ _ _ c.get.ensures.lookup.3 c.get.ensures.lookup.1 ∙ ap (λ hosts. slice_get hosts c.args.number) c.as_slice.ensures
