use Rattle.sc_follow.proofs.Playings.{lent_of_if}
use Rattle.sc_follow.proofs.playing.lend_of.Goals as goal

pub returns-clause-lends : goal.returns-clause-lends
returns-clause-lends c = lent_of_if _ _ _ _ c.requires.right c.requires.untaken c.requires.free c.show_laws.ensures.within c.lease_of.ensures.leased
