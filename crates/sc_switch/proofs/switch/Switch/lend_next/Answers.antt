use Rattle.sc_switch.specs.Offering.{Offers}
use Rattle.sc_switch.proofs.Names.{offer_free, offer_number, offer_some}
use Rattle.sc_switch.proofs.Sames.{given, given_next}
use Rattle.sc_switch.proofs.switch.Switch.lend_next.Goals as goal

pub lend-requires : goal.lend-requires
unfolding Offers
lend-requires c =
    let offer = rw c.in-Some.is at c.in_ok-lease.ensures.offers in
    rw c.offered.ensures.same (record { few = c.requires.few; number = offer.number_is; shows = offer.shows; free = offer_free c.args.self.now _ _ c.in-Some.lease (rw (← c.next.view_is) at c.requires.free) offer })

pub returns-clause-given : goal.returns-clause-given
unfolding Offers
returns-clause-given c = given c.args.self.now c.lend.new.self c.next.inside.app c.in-Some.lease c.lend.result (rw c.in-Some.is at c.in_ok-lease.ensures.offers) (rw c.offered.ensures.same at c.lend.ensures.ok)

pub returns-clause-next : goal.returns-clause-next
unfolding Offers
returns-clause-next c =
    rw (← c.next.view_is) (given_next c.args.self.now c.lend.new.self _ c.in-Some.lease c.lend.result (rw c.in-Some.is at c.in_ok-lease.ensures.offers)
    (offer_number c.args.self.now _ _ c.in-Some.lease (rw (← c.next.view_is) at c.requires.free) (rw c.in-Some.is at c.in_ok-lease.ensures.offers)) (rw c.offered.ensures.same at c.lend.ensures.ok))

pub unreachable-requires : goal.unreachable-requires
unreachable-requires c = offer_some c.args.self.now _ _ (rw (← c.next.view_is) at c.requires.free) (rw c.in-None.is at c.in_ok-lease.ensures.offers)
