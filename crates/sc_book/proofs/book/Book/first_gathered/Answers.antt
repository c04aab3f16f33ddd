use Rattle.sc_book.specs.Words.{belongs}
use Rattle.sc_book.proofs.FindLaws.{first_among}
use Rattle.sc_book.proofs.book.Book.first_gathered.Goals as goal

pub returns : goal.returns
returns g c = first_among (g.P.Probe.passes c.args.probe.now) (belongs g.T.Item.groups c.args.group) c.args.self.now c.in_ok-places.places.keys c.first_of.result c.requires c.in_ok-places.ensures c.first_of.ensures.in_order c.first_of.ensures.first
