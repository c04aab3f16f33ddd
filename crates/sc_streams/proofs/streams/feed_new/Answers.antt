use Rattle.sc_streams.proofs.Pendings.{new_ok}
use Rattle.sc_streams.proofs.streams.feed_new.Goals as goal

pub returns-in-Ok : goal.returns-in-Ok
returns-in-Ok c = new_ok _ _ _ _ _ _ _ c.requires c.new-stream.ensures.empty c.in-Ok.ensures.kept c.add_stream.ensures
