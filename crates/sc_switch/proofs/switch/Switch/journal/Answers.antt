use Rattle.sc_switch.proofs.switch.Switch.journal.Goals as goal

pub returns-clause-within : goal.returns-clause-within
returns-clause-within c = rw (← c.self.view_is, ← c.self.invariant.steps_is) c.self.invariant.within
