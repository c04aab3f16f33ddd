use Rattle.sc_replies.proofs.AnswerLast.{histories-end}
use Rattle.sc_replies.proofs.AnswerTurns.{histories-answer, session-answers}
use Rattle.sc_replies.proofs.laws.answers_have_the_fields_of_their_requests.Goals as goal

pub returns-clause-life : goal.returns-clause-life
returns-clause-life c = histories-answer

pub returns-clause-ended : goal.returns-clause-ended
returns-clause-ended c = histories-end

pub returns-clause-history : goal.returns-clause-history
returns-clause-history c = λ setup epoch began journal app live lawful is. histories-answer setup.config live.session

pub returns-clause-session : goal.returns-clause-session
returns-clause-session c = session-answers
