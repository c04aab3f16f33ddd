use Rattle.sc_forms.proofs.HistoryLaws.{all_sent_by-histories, are_lawful-histories, are_lawful_back-histories}
use Rattle.sc_forms.proofs.laws.epochs_agree.Goals as goal

pub returns-clause-sent : goal.returns-clause-sent
returns-clause-sent c = all_sent_by-histories

pub returns-clause-lawful : goal.returns-clause-lawful
returns-clause-lawful c = are_lawful-histories

pub returns-clause-lawful_back : goal.returns-clause-lawful_back
returns-clause-lawful_back c = are_lawful_back-histories
