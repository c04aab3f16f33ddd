use Rattle.sc_streams.proofs.Pendings.{new_kept}
use Rattle.sc_streams.proofs.streams.add_stream.Goals as goal

pub returns : goal.returns
returns c = rw c.in_ok-push.ensures.ok (new_kept _ _ c.requires)
