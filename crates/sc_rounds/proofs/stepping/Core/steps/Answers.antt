use Rattle.sc_rounds.proofs.stepping.Core.steps.Goals as goal

pub returns : goal.returns
returns c = rw c.journal.ensures.journal at (rw c.len.ensures at c.saturating_add.ensures)
