use Rattle.std.proofs.Common.{arith}
use Rattle.sc_switch.proofs.Ledger.{step_counts, given_counts, brought_counts, turned_counts, handed_counts}
use Rattle.sc_switch.proofs.laws.leases_are_counted.Goals as goal

pub returns-clause-new : goal.returns-clause-new
returns-clause-new c = λ setup. omega arith

pub returns-clause-step : goal.returns-clause-step
returns-clause-step c = step_counts

pub returns-clause-given : goal.returns-clause-given
returns-clause-given c = given_counts

pub returns-clause-brought : goal.returns-clause-brought
returns-clause-brought c = brought_counts

pub returns-clause-turned : goal.returns-clause-turned
returns-clause-turned c = turned_counts

pub returns-clause-handed : goal.returns-clause-handed
returns-clause-handed c = handed_counts
