use Rattle.sc_streams.proofs.Pendings.{fed_ok}
use Rattle.sc_streams.proofs.streams.feed_at.Goals as goal

pub returns : goal.returns
returns c = fed_ok _ _ _ _ _ _ _ c.requires c.feed.ensures.kept
