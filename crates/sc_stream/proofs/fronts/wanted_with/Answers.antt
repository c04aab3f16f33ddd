use Rattle.std.proofs.Common.{sym}
use Rattle.sc_stream.proofs.Telling.{lacking_told, told_ok}
use Rattle.sc_stream.proofs.fronts.wanted_with.Goals as goal

pub returns-in-Some : goal.returns-in-Some
returns-in-Some c = told_ok c.wanted_never.result (λ told is. lacking_told told c.args.head.now c.args.parts c.in-Some.kind c.requires.read (sym c.in-Some.ensures) is) c.wanted_never.ensures
