use Rattle.sc_leases.proofs.Epochs.{run-joined, all-joined, lawful-together, lawful-apart}
use Rattle.sc_leases.proofs.laws.journals_are_joined.Goals as goal

pub returns-clause-session_run : goal.returns-clause-session_run
returns-clause-session_run c = run-joined

pub returns-clause-history_run : goal.returns-clause-history_run
returns-clause-history_run c = run-joined

pub returns-clause-session_sent : goal.returns-clause-session_sent
returns-clause-session_sent c = all-joined

pub returns-clause-history_sent : goal.returns-clause-history_sent
returns-clause-history_sent c = all-joined

pub returns-clause-session_lawful : goal.returns-clause-session_lawful
returns-clause-session_lawful c = lawful-together

pub returns-clause-history_lawful : goal.returns-clause-history_lawful
returns-clause-history_lawful c = lawful-together

pub returns-clause-session_parted : goal.returns-clause-session_parted
returns-clause-session_parted c = lawful-apart

pub returns-clause-history_parted : goal.returns-clause-history_parted
returns-clause-history_parted c = lawful-apart
