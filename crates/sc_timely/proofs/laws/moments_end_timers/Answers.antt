use Rattle.sc_timely.proofs.Transactions.{client-done, server-done}
use Rattle.sc_timely.proofs.laws.moments_end_timers.Goals as goal

pub returns-clause-client : goal.returns-clause-client
returns-clause-client c = client-done

pub returns-clause-server : goal.returns-clause-server
returns-clause-server c = server-done
