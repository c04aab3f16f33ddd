use Rattle.std.proofs.Common.{◌∙◌}
use Rattle.sc_rounds.proofs.Refusals.{memory_due}
use Rattle.sc_rounds.proofs.Steppings.{settled, settled_runs}
use Rattle.sc_rounds.proofs.stepping.Core.settle.Goals as goal

pub returns-in-Ok-clause-ok : goal.returns-in-Ok-clause-ok
returns-in-Ok-clause-ok g c =
    settled c.args.self.now _ _ _ c.steps.result c.step.ensures c.steps.ensures c.drain.ensures.same c.in-Ok.ensures.all c.drain.ensures.handed (c.drain.ensures.unlisted ∙ c.saturating_add-self.ensures) c.drain.ensures.turning (λ one. c.drain.ensures.since ∙ c.since-self.ensures.first one) (λ more. c.drain.ensures.since ∙ c.since-self.ensures.later more) c.in-Ok.ensures.keeps

pub returns-in-Ok-clause-err : goal.returns-in-Ok-clause-err
returns-in-Ok-clause-err g c = settled_runs c.args.self.now _ _ _ c.steps.result c.step.ensures c.steps.ensures c.drain.ensures.same

pub returns-in-Err-clause-err : goal.returns-in-Err-clause-err
returns-in-Err-clause-err g c = settled_runs c.args.self.now _ _ _ c.steps.result c.step.ensures c.steps.ensures c.drain.ensures.same

pub returns-in-Err-clause-due : goal.returns-in-Err-clause-due
returns-in-Err-clause-due g c = memory_due _
