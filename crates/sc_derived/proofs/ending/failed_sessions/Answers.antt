use Rattle.std.proofs.Common.{arith}
use Rattle.sc_hosts.specs.DerivedSessions.{failed_session}
use Rattle.sc_pages.proofs.Steps.{map_step}
use Rattle.sc_derived.proofs.ending.failed_sessions.Goals as goal

pub loop-i-preserved : goal.loop-i-preserved
loop-i-preserved c =
    map_step (failed_session c.args.known.now c.args.req c.args.original) c.args.sessions.now c.loop-i.sessions c.loop-i.i c.index-sessions-i.result _ (omega arith) c.loop-i.invariant c.failed_session.ensures
