use Rattle.std.proofs.Common.{None, sym, arith}
use Rattle.memchr.specs.Find.{IsFirstByte, is_byte}
use Rattle.sc_head_text.proofs.PartSteps.{HasNo, part_whole}
use Rattle.sc_head_text.proofs.parts.part_len.Goals as goal

pub returns-in-None-clause-exact : goal.returns-in-None-clause-exact
returns-in-None-clause-exact c =
    let found : IsFirstByte (is_byte c.args.sign) c.args.text.now None = rw c.in-None.is at c.memchr.ensures in
    let none : HasNo c.args.sign c.args.text.now = λ j lt. found j (omega arith) lt in
    sym (part_whole c.args.text.now c.args.sign c.args.at none)
