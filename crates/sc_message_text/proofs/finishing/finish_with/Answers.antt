use Rattle.sc_message_text.proofs.FinishSteps.{finished_made}
use Rattle.sc_message_text.proofs.finishing.finish_with.Goals as goal

pub returns-in-None : goal.returns-in-None
returns-in-None c =
    finished_made c.made.result c.args.start c.args.lists c.args.hops c.args.length c.as_bytes.result.now c.args.body c.args.peers c.as_bytes.ensures c.in-None.ensures c.made.ensures
