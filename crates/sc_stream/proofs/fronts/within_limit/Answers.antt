use Rattle.std.proofs.Common.{sym, arith}
use Rattle.std.proofs.lemmas.List.{take_all, length-take}
use Rattle.sc_stream.proofs.fronts.within_limit.Goals as goal

pub returns-then-text-lt65535-clause-exact : goal.returns-then-text-lt65535-clause-exact
returns-then-text-lt65535-clause-exact c = let few = c.if-text-lt65535.true in sym (take_all 65535 c.args.text.now (omega (arith, few)))

pub returns-else-text-lt65535-clause-whole : goal.returns-else-text-lt65535-clause-whole
returns-else-text-lt65535-clause-whole c = let len = length-take 65535 c.args.text.now in omega (arith, len)

pub returns-else-text-lt65535-clause-within : goal.returns-else-text-lt65535-clause-within
returns-else-text-lt65535-clause-within c = let len = length-take 65535 c.args.text.now in omega (arith, len)
