use Rattle.std.proofs.Common.{◌<◌, ◌+◌, ◌-◌, length, take, drop, arith}
use Rattle.std.proofs.lemmas.List.{take_rest}
use Rattle.sc_head_text.proofs.PartSteps.{split_more}
use Rattle.sc_head_text.proofs.parts.split_part.Goals as goal

pub returns-else-len-text-clause-exact : goal.returns-else-len-text-clause-exact
returns-else-len-text-clause-exact c =
    let fewer : c.part_len-len.result < length c.args.text.now = omega arith in
    λ restart. split_more c.args.text.now (take (length c.args.text.now - (c.part_len-len.result + 1)) (drop (c.part_len-len.result + 1) c.args.text.now)) restart c.args.at c.args.sign c.part_len-len.result c.part_len-len.ensures.exact fewer
    (take_rest c.args.text.now (c.part_len-len.result + 1))
