use Rattle.std.proofs.Common.{◌≡◌, ◌≤◌, List, ◌++◌, length}
use Rattle.sc_edge.specs.Taking.{Takes}
use Rattle.sc_model.specs.Records.{records}
use Rattle.sc_value.specs.declared.message.Sent.{Sent}
use Rattle.sc_replay.proofs.writing.put_sent.Given as goal

-- the records of what was taken are in the sink
abbrev pub invariant-loop-alloc : goal.invariant-loop-alloc
invariant-loop-alloc g l = record {
  later : g.K.Sink.faults l.fn.out ≤ g.K.Sink.faults l.out;
  same : l.switch ≡ record l.fn.switch { left = l.switch.left };
  put : (first : List Sent) × (l.fn.switch.left ≡ first ++ l.switch.left) × Takes (g.K.Sink.took l.fn.out) (g.K.Sink.took l.out) (records first);
}

abbrev pub decreases-loop-alloc : goal.decreases-loop-alloc
decreases-loop-alloc g l = length l.switch.left
