-- Deliveries, one by one.
use Rattle.std.proofs.Common.{◌≡◌, ◌<◌, true, false, sym}
use Rattle.sc_parts.specs.declared.setup.Setup.{Setup}
use Rattle.sc_state.specs.declared.net.Net.{Net}
use Rattle.sc_state.specs.declared.session.Session.{Session}
use Rattle.sc_hosts.specs.Histories.{as_session}
use Rattle.sc_hosts.specs.Nets.{is_busy, deliver_first, weight}
use Rattle.sc_hosts.specs.Runs.{after_delivery as delivered}
use Rattle.sc_hosts.proofs.Deliveries.{deliveries-fall, one-delivery, none-delivered}
use Rattle.sc_hosts.proofs.SettleLaws.{Falls}

pub delivered_next : (setup : Setup) (net : Net Session) → is_busy net ≡ true → delivered as_session setup (deliver_first as_session setup net) ≡ delivered as_session setup net
delivered_next setup net busy = sym (one-delivery as_session setup net busy)

pub delivered_idle : (setup : Setup) (net : Net Session) → is_busy net ≡ false → delivered as_session setup net ≡ net
delivered_idle setup net idle = none-delivered as_session setup net idle

pub weight_falls : (setup : Setup) (net : Net Session) → is_busy net ≡ true → weight (deliver_first as_session setup net) < weight net
unfolding Falls
weight_falls setup net busy = deliveries-fall as_session setup net busy
