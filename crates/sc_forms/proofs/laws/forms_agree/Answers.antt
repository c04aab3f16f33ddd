use Rattle.sc_forms.proofs.HistoryLaws.{all_sent-histories, chained-histories, lawful-histories, lawful_back-histories}
use Rattle.sc_forms.proofs.laws.forms_agree.Goals as goal

pub returns-clause-sent : goal.returns-clause-sent
returns-clause-sent c = all_sent-histories

pub returns-clause-net : goal.returns-clause-net
returns-clause-net c = chained-histories

pub returns-clause-lawful : goal.returns-clause-lawful
returns-clause-lawful c = lawful-histories

pub returns-clause-lawful_back : goal.returns-clause-lawful_back
returns-clause-lawful_back c = lawful_back-histories
