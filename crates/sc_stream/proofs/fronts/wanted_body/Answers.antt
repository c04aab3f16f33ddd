use Rattle.sc_stream.proofs.Telling.{body_told}
use Rattle.sc_stream.proofs.fronts.wanted_body.Goals as goal

pub returns-in-Some : goal.returns-in-Some
returns-in-Some c = body_told c.args.head.now c.args.parts c.in-Some.len c.requires.read c.requires.none c.in-Some.ensures.0 c.in-Some.ensures.1
