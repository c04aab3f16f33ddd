use Rattle.sc_keyed.proofs.Branches.{branches-rise, sends-on-branches}
use Rattle.sc_keyed.proofs.laws.branches_are_new.Goals as goal

pub returns-clause-vias : goal.returns-clause-vias
returns-clause-vias c = sends-on-branches

pub returns-clause-branches : goal.returns-clause-branches
returns-clause-branches c = branches-rise
