use Rattle.sc_stream.proofs.Knowing.{nothing_front}
use Rattle.sc_stream.proofs.first.judge.Goals as goal

pub returns-in-Ok-Nothing-clause-front : goal.returns-in-Ok-Nothing-clause-front
returns-in-Ok-Nothing-clause-front c = nothing_front c.in-Ok-Nothing.field-0 c.args.text.now c.in-Ok-Nothing.front c.args.end c.in-Ok-Nothing.field-0-is c.in-Ok-Nothing.ensures c.requires.ended
