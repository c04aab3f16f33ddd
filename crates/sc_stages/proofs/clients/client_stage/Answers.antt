use Rattle.std.proofs.Common.{arith}
use Rattle.sc_stages.proofs.ClientStanding.{client_taken}
use Rattle.sc_stages.proofs.clients.client_stage.Goals as goal

pub loop-at-preserved : goal.loop-at-preserved
loop-at-preserved c = record {
  within = omega arith;
  stands = client_taken _ _ _ _ _ _ _ c.loop-at-test.true c.loop-at.invariant.within c.client_next-stage.ensures c.loop-at.invariant.stands;
}
