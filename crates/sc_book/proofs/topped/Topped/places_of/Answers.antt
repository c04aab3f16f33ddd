use Rattle.std.proofs.Common.{◌≡◌, true, sym, subst}
use Rattle.sc_book.specs.Gathering.{Covers, has_place}
use Rattle.sc_book.specs.Words.{belongs}
use Rattle.sc_book.specs.Tops.{topped}
use Rattle.sc_book.proofs.TopLaws.{top_covers}
use Rattle.sc_book.proofs.topped.Topped.places_of.Goals as goal

pub returns-in_ok-add_place-clause-there : goal.returns-in_ok-add_place-clause-there
returns-in_ok-add_place-clause-there g c =
    let own = subst (λ t. has_place c.add_place.new.places.keys t.place ≡ true) c.deref.ensures c.in_ok-add_place.ensures.there in
    rw (← c.self.view_is) (subst (λ o. Covers (belongs g.T.Item.groups c.args.group) (topped c.self.inside.base o) c.add_place.new.places.keys) (sym c.in-Some.is)
    (top_covers (belongs g.T.Item.groups c.args.group) c.self.inside.base c.in-Some.top.value.place c.in-Some.top.value.change c.places_of.new.places.keys c.add_place.new.places.keys c.in_ok-places_of.ensures.there c.in_ok-add_place.ensures.more own))
