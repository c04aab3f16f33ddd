use Rattle.std.proofs.Common.{arith}
use Rattle.std.proofs.lemmas.Bool.Decides.{nat_tests}
use Rattle.sc_rounds.proofs.stepping.Core.is_listed.Goals as goal

pub returns : goal.returns
returns c is = grind (arith, nat_tests, is)
