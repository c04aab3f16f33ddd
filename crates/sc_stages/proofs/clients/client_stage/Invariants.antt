use Rattle.std.proofs.Common.{◌≤◌, length, drop}
use Rattle.sc_stages.specs.Stages.{ClientStands}
use Rattle.sc_stages.proofs.clients.client_stage.Given as goal

abbrev pub invariant-loop-at : goal.invariant-loop-at
invariant-loop-at l = record {
  within : l.at ≤ length l.passed;
  stands : ClientStands l.stage l.invite l.sent (drop l.at l.passed);
}

abbrev pub decreases-loop-at : goal.decreases-loop-at
decreases-loop-at l = l.at
