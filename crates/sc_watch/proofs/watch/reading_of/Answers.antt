use Rattle.sc_watch.proofs.Histories.{admits}
use Rattle.sc_watch.proofs.watch.reading_of.Goals as goal

pub reader-requires : goal.reader-requires
reader-requires c = admits
