use Rattle.std.proofs.Common.{subst, sym}
use Rattle.sc_terms.specs.declared.views.RequestView.{RequestView}
use Rattle.sc_terms.specs.Resting.{is_resting}
use Rattle.sc_pages.specs.Runs.{AllRest}
use Rattle.sc_finish.proofs.Needed.{resting_needed}
use Rattle.sc_finish.proofs.sweeping.keep_needed.Goals as goal

pub keep_outside-requires : goal.keep_outside-requires
keep_outside-requires c = λ x within.
    resting_needed c.args.view.now c.args.legs.now c.as_slice.result.now x
    (subst (AllRest (λ (r : RequestView). r.id.0) is_resting c.args.view.now.requests) (sym c.as_slice.ensures) c.in_ok-resting.ensures) within
