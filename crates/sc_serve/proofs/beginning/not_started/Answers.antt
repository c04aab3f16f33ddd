use Rattle.std.proofs.Common.{ap}
use Rattle.sc_journal.specs.Kept.{Kept}
use Rattle.sc_terms.specs.declared.steps.Step.{Step}
use Rattle.sc_serve.specs.Running.{HasItems}
use Rattle.sc_serve.proofs.beginning.not_started.Goals as goal

pub returns-clause-journal : goal.returns-clause-journal
unfolding HasItems
returns-clause-journal c = ap (λ (j : Kept Step). j.items) c.new.ensures
