use Rattle.std.proofs.Common.{refl}
use Rattle.sc_sockets.proofs.PutLaws.{put_opened, put_unopened}
use Rattle.sc_sockets.proofs.putting.put_first.Goals as goal

pub returns-then-not-open-clause-by : goal.returns-then-not-open-clause-by
returns-then-not-open-clause-by g c = put_unopened _ _ _ _ _ (c.conclude.ensures.failed refl) (rw (c.open.ensures.shut c.if-not-open.true) at c.conclude.ensures.after)

pub returns-clause-by : goal.returns-clause-by
returns-clause-by g c = put_opened _ _ _ _ _ _ (c.open.ensures.open c.if-not-open.false) c.conclude-2.ensures.after
