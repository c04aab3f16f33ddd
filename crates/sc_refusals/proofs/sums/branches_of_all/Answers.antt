use Rattle.sc_terms.specs.declared.views.RequestView.{RequestView}
use Rattle.sc_refusals.proofs.BranchSums.{of_parts}
use Rattle.sc_refusals.proofs.sums.branches_of_all.Goals as goal

pub returns : goal.returns
returns c =
    of_parts (λ (request : RequestView). request.branches) c.args.requests.now c.parts.result.0.now c.parts.result.1.now _ _ _ _
    c.parts.ensures c.branches_of_pages.ensures c.branches_of.ensures c.saturating_add.ensures
