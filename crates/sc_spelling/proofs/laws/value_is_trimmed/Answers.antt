use Rattle.sc_syntax.proofs.ValueLaws.{value_is_line, value_is_trimmed, trimmed_is_value}
use Rattle.sc_spelling.proofs.laws.value_is_trimmed.Goals as goal

pub returns-clause-trimmed : goal.returns-clause-trimmed
returns-clause-trimmed c = λ text h. (value_is_line text h, value_is_trimmed text h)

pub returns-clause-tested : goal.returns-clause-tested
returns-clause-tested c = λ text h. trimmed_is_value text h.0 h.1
