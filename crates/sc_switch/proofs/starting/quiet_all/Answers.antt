use Rattle.sc_hosts.specs.Runs.{quiet_host}
use Rattle.sc_branches.proofs.Mapping.{mapped_next}
use Rattle.sc_switch.proofs.starting.quiet_all.Goals as goal

pub loop-host-preserved : goal.loop-host-preserved
loop-host-preserved c =
    mapped_next (λ host. quiet_host) c.args.hosts.now c.loop-host.host-items c.loop-host.host-index quiet_host _ c.loop-host-test.true c.loop-host.invariant c.quiet.ensures
