use Rattle.std.proofs.Common.{subst}
use Rattle.sc_value.specs.ViaValues.{IsVia}
use Rattle.sc_spelling.proofs.MadeLaws.{all_next, all_done}
use Rattle.sc_spelling.proofs.made.vias_known.Goals as goal

pub loop-i-preserved : goal.loop-i-preserved
loop-i-preserved c = all_next IsVia c.args.vias.now c.loop-i.i c.index-vias-i.result c.loop-i-test.true c.loop-i.invariant (subst (λ x. IsVia x) c.index-vias-i.is c.known.ensures)

pub returns : goal.returns
returns c = all_done IsVia c.args.vias.now c.loop-i.i c.loop-i-test.false c.loop-i.invariant
