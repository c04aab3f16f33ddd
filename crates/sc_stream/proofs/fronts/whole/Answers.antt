use Rattle.std.proofs.Common.{sym, ◌∙◌}
use Rattle.sc_stream.proofs.Telling.{whole_made}
use Rattle.sc_stream.proofs.fronts.whole.Goals as goal

pub returns-in-Ok : goal.returns-in-Ok
returns-in-Ok c = whole_made c.args.head.now c.args.body c.args.len c.args.parts c.in-Ok.message c.requires.read (sym c.in-Ok.is ∙ c.in_ok-message.ensures)
