use Rattle.std.proofs.Common.{subst}
use Rattle.sc_book.specs.Words.{belongs}
use Rattle.sc_book.specs.Gathering.{Covers}
use Rattle.sc_book.proofs.Basics.{on_ok}
use Rattle.sc_book.proofs.KeepLaws.{left_in}
use Rattle.sc_book.proofs.rows.Rows.keep_in.Goals as goal

pub returns : goal.returns
returns g c =
    let there = subst (λ es. Covers (belongs g.T.Item.groups c.args.group) es c.in_ok-places.places.keys) c.book.ensures c.in_ok-places.ensures in
    rw (← c.self.view_is) (on_ok c.keep_at.result (left_in (g.P.Probe.passes c.args.probe.now) (belongs g.T.Item.groups c.args.group) c.self.inside.items c.keep_at.new.items c.in_ok-places.places.keys c.requires there) c.keep_at.ensures.left)
