use Rattle.sc_searched.proofs.Ends.{ended-answers, ended-ends, ended-stays, heard-answers, heard-ends, rung-stays, stopped-answers, stopped-ends}
use Rattle.sc_searched.proofs.laws.searches_end_with_a_response.Goals as goal

pub returns-clause-heard : goal.returns-clause-heard
returns-clause-heard c = heard-ends

pub returns-clause-answered : goal.returns-clause-answered
returns-clause-answered c = heard-answers

pub returns-clause-timed_out : goal.returns-clause-timed_out
returns-clause-timed_out c = ended-ends

pub returns-clause-timed_out_answered : goal.returns-clause-timed_out_answered
returns-clause-timed_out_answered c = ended-answers

pub returns-clause-ended : goal.returns-clause-ended
returns-clause-ended c = ended-stays

pub returns-clause-provisional : goal.returns-clause-provisional
returns-clause-provisional c = rung-stays

pub returns-clause-stopped : goal.returns-clause-stopped
returns-clause-stopped c = stopped-ends

pub returns-clause-stopped_answered : goal.returns-clause-stopped_answered
returns-clause-stopped_answered c = stopped-answers
