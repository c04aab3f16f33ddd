use Rattle.sc_spelling.proofs.WrittenLaws.{message_is_spelled, written_is_read}
use Rattle.sc_spelling.proofs.laws.written_is_spelled.Goals as goal

pub returns-clause-spelled : goal.returns-clause-spelled
returns-clause-spelled c = message_is_spelled

pub returns-clause-read : goal.returns-clause-read
returns-clause-read c = written_is_read
