use Rattle.sc_promised.proofs.Traces.{offers-counted}
use Rattle.sc_promised.proofs.laws.offers_are_counted.Goals as goal

pub returns : goal.returns
returns c = offers-counted
