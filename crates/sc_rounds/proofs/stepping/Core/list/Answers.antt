use Rattle.sc_rounds.proofs.Steppings.{listed_same, same_core}
use Rattle.sc_rounds.proofs.stepping.Core.list.Goals as goal

pub returns-in_err-listing : goal.returns-in_err-listing
returns-in_err-listing g c = same_core _ _

pub returns-then-is_unstepped : goal.returns-then-is_unstepped
returns-then-is_unstepped g c = same_core _ _

pub returns : goal.returns
returns g c = listed_same c.args.self.now _ _ _ c.in_ok-listing.ensures (c.is_unstepped.ensures c.if-is_unstepped.false) c.list.ensures
