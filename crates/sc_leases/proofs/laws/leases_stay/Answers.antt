use Rattle.sc_leases.proofs.LeaseStays.{lease-stays}
use Rattle.sc_leases.proofs.Epochs.{run-stays}
use Rattle.sc_leases.proofs.laws.leases_stay.Goals as goal

pub returns-clause-session_step : goal.returns-clause-session_step
returns-clause-session_step c = lease-stays

pub returns-clause-history_step : goal.returns-clause-history_step
returns-clause-history_step c = lease-stays

pub returns-clause-session_journal : goal.returns-clause-session_journal
returns-clause-session_journal c = run-stays

pub returns-clause-history_journal : goal.returns-clause-history_journal
returns-clause-history_journal c = run-stays
