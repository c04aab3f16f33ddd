use Rattle.sc_leases.proofs.KeptLeases.{kept-shows, kept-none}
use Rattle.sc_leases.proofs.laws.leases_are_of_live_sessions.Goals as goal

pub returns-clause-session_shows : goal.returns-clause-session_shows
returns-clause-session_shows c = kept-shows

pub returns-clause-history_shows : goal.returns-clause-history_shows
returns-clause-history_shows c = kept-shows

pub returns-clause-session_none : goal.returns-clause-session_none
returns-clause-session_none c = kept-none

pub returns-clause-history_none : goal.returns-clause-history_none
returns-clause-history_none c = kept-none
