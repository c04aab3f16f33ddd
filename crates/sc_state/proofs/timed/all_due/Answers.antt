use Rattle.sc_state.proofs.RestingLaws.{due_of_parts}
use Rattle.sc_state.proofs.timed.all_due.Goals as goal

pub returns : goal.returns
returns c =
    due_of_parts c.args.fired.now c.args.proxies.now c.parts.result.0.now c.parts.result.1.now _ _ _
    c.lower.ensures c.pages_due.ensures c.proxies_due.ensures c.parts.ensures
