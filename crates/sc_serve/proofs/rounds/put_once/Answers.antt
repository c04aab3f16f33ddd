use Rattle.std.proofs.Common.{refl}
use Rattle.sc_serve.proofs.Roundings.{close_then, closed_unheard}
use Rattle.sc_serve.proofs.rounds.put_once.Goals as goal

pub returns-in-Ok-clause-ok : goal.returns-in-Ok-clause-ok
returns-in-Ok-clause-ok g c = close_then _ _ _ _ _ _ _ _ c.in-Ok.ensures.ok c.close_broken.ensures.rests refl refl c.close_broken.ensures.closes c.close_broken.ensures.closes_all

pub returns-in-Ok-clause-unheard : goal.returns-in-Ok-clause-unheard
returns-in-Ok-clause-unheard g c = closed_unheard _ _ _ _ _ _ c.put_all.ensures.unheard c.close_broken.ensures.rests refl
