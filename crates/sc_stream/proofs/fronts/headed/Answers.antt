use Rattle.sc_stream.proofs.Telling.{body_read, nothing_read}
use Rattle.sc_stream.proofs.fronts.headed.Goals as goal

pub returns-in-Ok-Body : goal.returns-in-Ok-Body
returns-in-Ok-Body c =
    body_read c.sized.result c.in-Ok-Body.field-0 c.args.text.now c.args.head.now c.in-Ok-Body.len c.in-Ok-Body.parts c.in-Ok-Body.field-0-is c.in-Ok-Body.ensures c.sized.ensures

pub returns-in-Ok-Nothing : goal.returns-in-Ok-Nothing
returns-in-Ok-Nothing c = nothing_read c.in-Ok-Nothing.field-0 c.args.text.now c.args.head.now c.in-Ok-Nothing.front c.in-Ok-Nothing.field-0-is c.in-Ok-Nothing.ensures
