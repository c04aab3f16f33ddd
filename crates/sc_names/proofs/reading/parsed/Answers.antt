use Rattle.std.proofs.Common.{◌∙◌}
use Rattle.sc_names.proofs.ReadingLaws.{utf8_of_decimal, parsed_is, not_parsed}
use Rattle.sc_names.proofs.reading.parsed.Goals as goal

pub returns-in-Err : goal.returns-in-Err
returns-in-Err c = λ n small is. absurd (c.in-Err.ensures.cases.0 (utf8_of_decimal n c.args.bytes.now small is))

pub returns-in-Ok-parse : goal.returns-in-Ok-parse
returns-in-Ok-parse c = λ n small is. parsed_is n c.in-Ok-parse.number c.in-Ok.text.now c.parse.result small (c.in-Ok.ensures.cases.0 ∙ is) c.parse.ensures.value.0 c.in-Ok-parse.is

pub returns-in-Err-parse : goal.returns-in-Err-parse
returns-in-Err-parse c = λ n small is. absurd (not_parsed n c.in-Ok.text.now c.parse.result c.in-Err-parse.field-0 small (c.in-Ok.ensures.cases.0 ∙ is) c.parse.ensures.value.0 c.in-Err-parse.is)
