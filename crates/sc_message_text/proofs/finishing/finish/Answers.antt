use Rattle.std.proofs.Common.{◌∙◌, sym}
use Rattle.sc_message_text.proofs.FinishSteps.{finished_read}
use Rattle.sc_message_text.proofs.finishing.finish.Goals as goal

pub returns-in-Some : goal.returns-in-Some
returns-in-Some c = finished_read c.finish_with.result c.args.start c.args.left c.args.body c.in-Some.peers (sym c.is_empty.ensures ∙ c.if-is_empty.false) c.in-Some.ensures c.finish_with.ensures
