use Rattle.sc_switch.specs.Standing.{net_of}
use Rattle.sc_switch.proofs.Firsts.{past_on, hosts_on}
use Rattle.sc_switch.proofs.Sames.{offered_on}
use Rattle.sc_switch.proofs.switch.Switch.offered.Goals as goal

pub invariant_of-self : goal.invariant_of-self
invariant_of-self c = rw c.offer.ensures.same c.self.invariant

pub returns-clause-offers : goal.returns-clause-offers
returns-clause-offers c = rw (← c.self.view_is) (offered_on _ _ _ c.args.app _ c.offer.result c.self.invariant.net_is.net_is c.offer.ensures.offers)

pub offer-requires-clause-past : goal.offer-requires-clause-past
unfolding net_of
offer-requires-clause-past c = past_on _ _ _ _ _ c.args.app c.self.invariant.net_is.net_is c.self.invariant.lawful

pub offer-requires-clause-hosts : goal.offer-requires-clause-hosts
unfolding net_of
offer-requires-clause-hosts c = hosts_on _ _ _ _ _ c.self.invariant.net_is.net_is
