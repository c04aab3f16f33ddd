use Rattle.sc_switch.proofs.Listings.{one_more, none_more}
use Rattle.sc_switch.proofs.listing.list_hosts.Goals as goal

pub loop-host-preserved : goal.loop-host-preserved
loop-host-preserved c =
    one_more c.loop-host.live c.add_lives.new.all _ c.loop-host.number c.in_ok-number.number c.args.hosts.now c.loop-host.host-index _ c.host-item.result c.loop-host-test.true c.host-item.is c.in_ok-number.ensures
    (rw (← c.in_ok-lives.ensures, ← c.as_slice-in-loop-host.ensures) c.in_ok-add_lives.ensures) c.loop-host.invariant

pub returns : goal.returns
returns c = none_more c.loop-host.live _ c.loop-host.number c.args.hosts.now c.loop-host.host-index c.loop-host-test.false c.loop-host.invariant
