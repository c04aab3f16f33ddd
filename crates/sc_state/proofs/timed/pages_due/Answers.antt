use Rattle.std.specs.List.{flat_map}
use Rattle.sc_state.specs.Entries.{branch_entry}
use Rattle.sc_state.proofs.LeastDue.{due_more}
use Rattle.sc_state.proofs.timed.pages_due.Goals as goal

pub loop-page-preserved : goal.loop-page-preserved
loop-page-preserved c =
    due_more c.args.fired.now (λ page. flat_map (λ proxy. flat_map branch_entry proxy.branches) page) c.args.pages.now c.loop-page.page-index _ _ _ _ c.loop-page-test.true c.page-item.is c.loop-page.invariant
    c.page_due.ensures c.lower-least.ensures
