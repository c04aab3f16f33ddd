use Rattle.std.proofs.Common.{◌∙◌, sym}
use Rattle.sc_sockets.proofs.PutLaws.{put_fails, put_unborn}
use Rattle.sc_sockets.proofs.putting.put_nowhere.Goals as goal

pub returns-in-Unborn-clause-by : goal.returns-in-Unborn-clause-by
returns-in-Unborn-clause-by c = put_unborn _ c.args.book.now c.args.to _ (sym c.standing.ensures ∙ c.in-Unborn.is)

pub returns-in_default : goal.returns-in_default
returns-in_default c = record {
  by = put_fails _ c.args.book.now c.fail.new.self c.args.to c.args.len (λ e. c.in_default.not-Unborn (c.standing.ensures ∙ e)) c.fail.ensures.after;
  part = tt;
  later = c.fail.ensures.later;
  rose = λ _. c.fail.ensures.rose;
}
