use Rattle.sc_watch.proofs.Histories.{reads}
use Rattle.sc_watch.proofs.reading.read_once.Goals as goal

pub enter_as-requires : goal.enter_as-requires
enter_as-requires g c x = reads _ _ x
