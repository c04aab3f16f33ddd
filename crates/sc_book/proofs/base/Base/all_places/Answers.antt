use Rattle.sc_book.proofs.Basics.{on_ok}
use Rattle.sc_book.proofs.PlaceSets.{all_covered}
use Rattle.sc_book.proofs.base.Base.all_places.Goals as goal

pub returns-clause-there : goal.returns-clause-there
returns-clause-there g c = rw (← c.self.view_is) (on_ok c.add_keys.result (all_covered c.self.inside.items.entries c.args.places.now.keys c.add_keys.new.keys.keys c.self.invariant.ordered) c.add_keys.ensures)
