use Rattle.sc_ticks.proofs.passing.telling.Goals as goal

pub returns : goal.returns
returns c = rw (← c.in_ok-response.ensures) c.without_via.ensures
