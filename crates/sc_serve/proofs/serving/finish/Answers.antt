use Rattle.sc_serve.specs.Running.{HasItems}
use Rattle.sc_serve.proofs.serving.finish.Goals as goal

pub returns-clause-journal : goal.returns-clause-journal
unfolding HasItems
returns-clause-journal c = c.into_journal.ensures
