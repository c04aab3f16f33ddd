use Rattle.sc_spelling.proofs.WholeLaws.{message_is_read, one_message}
use Rattle.sc_spelling.proofs.ReadWhole.{message_spelled_back}
use Rattle.sc_spelling.proofs.laws.spelled_exactly.Goals as goal

pub returns-clause-spelled : goal.returns-clause-spelled
returns-clause-spelled c = message_is_read

pub returns-clause-read : goal.returns-clause-read
returns-clause-read c = message_spelled_back

pub returns-clause-once : goal.returns-clause-once
returns-clause-once c = one_message
