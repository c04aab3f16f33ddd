use Rattle.sc_joins.proofs.DialogSteps.{retargeted-next, retargeted-follows}
use Rattle.sc_joins.proofs.laws.dialogs_are_of_their_messages.Goals as goal

pub returns-clause-moved : goal.returns-clause-moved
returns-clause-moved c = retargeted-next

pub returns-clause-follows : goal.returns-clause-follows
returns-clause-follows c = retargeted-follows
