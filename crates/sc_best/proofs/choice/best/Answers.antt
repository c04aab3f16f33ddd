use Rattle.sc_model.proofs.BestFacts.{is_none-best_of, IfSome-best_of}
use Rattle.sc_best.proofs.choice.best.Goals as goal

pub returns-clause-none : goal.returns-clause-none
returns-clause-none c = rw (c.best_place.ensures, c.as_slice.ensures) (is_none-best_of _)

pub returns-clause-below : goal.returns-clause-below
returns-clause-below c = rw (c.best_place.ensures, c.as_slice.ensures) (IfSome-best_of _)
