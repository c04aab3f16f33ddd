use Rattle.sc_begun.proofs.FirstTurns.{history-turns, session-turns}
use Rattle.sc_begun.proofs.laws.initial_requests_have_no_tag.Goals as goal

pub returns-clause-session : goal.returns-clause-session
returns-clause-session c = session-turns

pub returns-clause-history : goal.returns-clause-history
returns-clause-history c = history-turns
