use Rattle.sc_promised.proofs.Waiting.{prack-code, waits-alone, first-is}
use Rattle.sc_promised.proofs.laws.offers_wait.Goals as goal

pub returns-clause-first : goal.returns-clause-first
returns-clause-first c = first-is

pub returns-clause-named : goal.returns-clause-named
returns-clause-named c = prack-code

pub returns-clause-alone : goal.returns-clause-alone
returns-clause-alone c = waits-alone
