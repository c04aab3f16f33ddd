use Rattle.sc_leases.proofs.KeptLeases.{kept-after, kept-stay, kept-without, kept-given, next-alone}
use Rattle.sc_leases.proofs.laws.kept_leases_stay.Goals as goal

pub returns-clause-session_after : goal.returns-clause-session_after
returns-clause-session_after c = kept-after

pub returns-clause-history_after : goal.returns-clause-history_after
returns-clause-history_after c = kept-after

pub returns-clause-session_step : goal.returns-clause-session_step
returns-clause-session_step c = kept-stay

pub returns-clause-history_step : goal.returns-clause-history_step
returns-clause-history_step c = kept-stay

pub returns-clause-session_other : goal.returns-clause-session_other
returns-clause-session_other c = kept-without

pub returns-clause-history_other : goal.returns-clause-history_other
returns-clause-history_other c = kept-without

pub returns-clause-session_given : goal.returns-clause-session_given
returns-clause-session_given c = kept-given

pub returns-clause-history_given : goal.returns-clause-history_given
returns-clause-history_given c = kept-given

pub returns-clause-session_next : goal.returns-clause-session_next
returns-clause-session_next c = next-alone

pub returns-clause-history_next : goal.returns-clause-history_next
returns-clause-history_next c = next-alone
