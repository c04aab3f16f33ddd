use Rattle.std.proofs.Common.{◌≤◌, take}
use Rattle.sc_edge.specs.Taking.{Takes}
use Rattle.sc_recording.specs.StepTexts.{steps_text}
use Rattle.sc_recorder.proofs.writing.put_steps.Given as goal

-- the text of the steps before is in the sink
abbrev pub invariant-loop-at : goal.invariant-loop-at
invariant-loop-at g l = record {
  later : g.K.Sink.faults l.fn.out ≤ g.K.Sink.faults l.out;
  put : Takes (g.K.Sink.took l.fn.out) (g.K.Sink.took l.out) (steps_text (take l.at l.journal.items));
}
