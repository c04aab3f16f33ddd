use Rattle.sc_script.specs.Reading.{Says, more_pieces}
use Rattle.sc_script.proofs.Cutting.{line_long}
use Rattle.sc_script.proofs.rows.line_of_more.Goals as goal

pub returns-in-Some-clause-says : goal.returns-in-Some-clause-says
unfolding Says more_pieces
returns-in-Some-clause-says c = rw (c.cut.ensures.pieces, c.in-Some.is) (line_long c.args.since c.args.after.now c.args.a.now c.args.b.now _ c.in-Some.field-0.now)

pub returns-in-None-clause-says : goal.returns-in-None-clause-says
unfolding more_pieces
returns-in-None-clause-says c = rw (c.cut.ensures.pieces, c.in-None.is) (c.line_of_three.ensures.says c.args.since)
