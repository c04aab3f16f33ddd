use Rattle.sc_timely.proofs.Silence.{ticks-send-nothing}
use Rattle.sc_timely.proofs.laws.ticks_send_nothing.Goals as goal

pub returns-clause-session : goal.returns-clause-session
returns-clause-session c = ticks-send-nothing

pub returns-clause-history : goal.returns-clause-history
returns-clause-history c = ticks-send-nothing
