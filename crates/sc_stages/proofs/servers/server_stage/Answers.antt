use Rattle.std.proofs.Common.{arith}
use Rattle.sc_stages.proofs.ServerStanding.{server_taken}
use Rattle.sc_stages.proofs.servers.server_stage.Goals as goal

pub loop-at-preserved : goal.loop-at-preserved
loop-at-preserved c = record {
  within = omega arith;
  stands = server_taken _ _ _ _ _ _ c.loop-at-test.true c.loop-at.invariant.within c.server_next-stage.ensures c.loop-at.invariant.stands;
}
