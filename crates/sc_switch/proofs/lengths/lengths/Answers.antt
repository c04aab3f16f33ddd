use Rattle.std.proofs.Common.{arith}
use Rattle.std.proofs.lemmas.List.Concat.{length-flat_map}
use Rattle.std.proofs.lemmas.Grind.{common_steps}
use Rattle.sc_switch.proofs.lengths.lengths.Goals as goal

pub returns : goal.returns
returns g c = grind (arith, common_steps, length-flat_map g.F.Form.form c.args.items.now)
