use Rattle.sc_answered.proofs.Live.{live-history, live-session}
use Rattle.sc_answered.proofs.laws.live_states_are_of_what_happened.Goals as goal

pub returns-clause-history : goal.returns-clause-history
returns-clause-history c = live-history

pub returns-clause-session : goal.returns-clause-session
returns-clause-session c = live-session
