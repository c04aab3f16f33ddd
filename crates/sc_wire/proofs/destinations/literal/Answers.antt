use Rattle.std.proofs.Common.{ap, sym, ◌∙◌}
use Rattle.std.specs.Prelude.{Some}
use Rattle.sc_wire.proofs.Literals.{literal_some, literal_none}
use Rattle.sc_wire.proofs.destinations.literal.Goals as goal

pub returns-in-Ok : goal.returns-in-Ok
returns-in-Ok c = ap Some c.octets.ensures ∙ sym (literal_some _ _ c.in-Ok.ensures)

pub returns-in-Err : goal.returns-in-Err
returns-in-Err c = sym (literal_none _ c.in-Err.ensures)
