use Rattle.std.proofs.Common.{rules}
use Rattle.sc_hosts.specs.Histories.{as_session}
use Rattle.sc_hosts.specs.Nets.{host_at}
use Rattle.sc_hosts.specs.Runs.{prepared_turn as shown}
use Rattle.sc_hosts.specs.Steps.{ringing_at}
use Rattle.sc_switch.proofs.Beginnings.{prepared_anyhow}
use Rattle.sc_switch.proofs.leasing.shown.Goals as goal

pub returns : goal.returns
unfolding shown as_session
returns c =
    prepared_anyhow c.args.setup.now.config c.in_ok-ringing.ringing (ringing_at c.args.first.now.app (host_at c.args.first.now.app.host c.args.net.now)) c.as_slice.result.now c.args.first.now.live.now.session c.in_ok-session.session c.args.first.now.waiting.now c.args.now
    c.prepared.result c.in_ok-ringing.ensures (search (rules, c.as_slice.ensures, c.ringing.view_is)) (search (rules, c.in_ok-session.ensures, c.get.ensures)) c.prepared.ensures
