use Rattle.sc_timed.proofs.Granted.{granted-in-time, refreshed-in-time}
use Rattle.sc_timed.proofs.laws.granted_timers_are_in_time.Goals as goal

pub returns-clause-granted : goal.returns-clause-granted
returns-clause-granted c = granted-in-time

pub returns-clause-refreshed : goal.returns-clause-refreshed
returns-clause-refreshed c = refreshed-in-time
