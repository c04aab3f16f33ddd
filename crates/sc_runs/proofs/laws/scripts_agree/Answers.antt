use Rattle.sc_runs.proofs.FollowMaps.{output-histories, follows-histories, follows_back-histories, upto-histories, upto_back-histories}
use Rattle.sc_runs.proofs.laws.scripts_agree.Goals as goal

pub returns-clause-output : goal.returns-clause-output
returns-clause-output c = output-histories

pub returns-clause-follows : goal.returns-clause-follows
returns-clause-follows c = follows-histories

pub returns-clause-follows_back : goal.returns-clause-follows_back
returns-clause-follows_back c = follows_back-histories

pub returns-clause-upto : goal.returns-clause-upto
returns-clause-upto c = upto-histories

pub returns-clause-upto_back : goal.returns-clause-upto_back
returns-clause-upto_back c = upto_back-histories
