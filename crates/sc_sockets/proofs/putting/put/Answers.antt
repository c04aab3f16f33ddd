use Rattle.std.proofs.Common.{◌∙◌, sym, refl}
use Rattle.sc_sockets.proofs.PutLaws.{put_gone, put_open, put_unborn}
use Rattle.sc_sockets.proofs.putting.put.Goals as goal

pub returns-in-Unborn-clause-by : goal.returns-in-Unborn-clause-by
returns-in-Unborn-clause-by g c = put_unborn _ c.args.book.now c.args.to _ (sym c.standing.ensures ∙ c.in-Unborn.is)

pub returns-in-Gone-clause-by : goal.returns-in-Gone-clause-by
returns-in-Gone-clause-by g c = put_gone _ _ _ _ _ _ (sym c.standing.ensures ∙ c.in-Gone.is) (c.conclude.ensures.failed refl) c.conclude.ensures.after

pub returns-in-Open-clause-by : goal.returns-in-Open-clause-by
returns-in-Open-clause-by g c = put_open _ _ _ _ _ _ (sym c.standing.ensures ∙ c.in-Open.is) c.conclude-in-Open.ensures.after
