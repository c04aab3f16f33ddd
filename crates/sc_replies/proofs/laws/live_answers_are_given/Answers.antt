use Rattle.sc_replies.proofs.SentTurns.{live-history, live-session}
use Rattle.sc_replies.proofs.laws.live_answers_are_given.Goals as goal

pub returns-clause-history : goal.returns-clause-history
returns-clause-history c = live-history

pub returns-clause-session : goal.returns-clause-session
returns-clause-session c = live-session
