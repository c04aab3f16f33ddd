use Rattle.sc_replies.proofs.SentTurns.{histories-give, turn-parts}
use Rattle.sc_replies.proofs.laws.answers_are_given.Goals as goal

pub returns-clause-parts : goal.returns-clause-parts
returns-clause-parts c = turn-parts

pub returns-clause-given : goal.returns-clause-given
returns-clause-given c = histories-give
