use Rattle.sc_timed.proofs.TimedLive.{live-acts, session-acts}
use Rattle.sc_timed.proofs.laws.live_timed_sessions_make_acts.Goals as goal

pub returns-clause-history : goal.returns-clause-history
returns-clause-history c = live-acts

pub returns-clause-session : goal.returns-clause-session
returns-clause-session c = session-acts
