use Rattle.std.proofs.Common.{ap, ◌∙◌}
use Rattle.std.specs.List.{flat_map}
use Rattle.sc_state.specs.Entries.{branch_entry, least_due}
use Rattle.sc_state.proofs.LeastDue.{due_more}
use Rattle.sc_state.proofs.timed.proxies_due.Goals as goal

pub loop-proxy-preserved : goal.loop-proxy-preserved
loop-proxy-preserved c =
    due_more c.args.fired.now (λ proxy. flat_map branch_entry proxy.branches) c.args.proxies.now c.loop-proxy.proxy-index _ _ _ _ c.loop-proxy-test.true c.proxy-item.is c.loop-proxy.invariant
    (c.branches_due.ensures ∙ ap (λ l. least_due c.args.fired.now (flat_map branch_entry l)) c.as_slice.ensures) c.lower-least.ensures
