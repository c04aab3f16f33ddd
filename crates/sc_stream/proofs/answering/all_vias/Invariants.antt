use Rattle.std.proofs.Common.{◌≡◌, drop}
use Rattle.sc_stream.specs.Answers.{all_vias}
use Rattle.sc_stream.proofs.ReadSteps.{before_vias}
use Rattle.sc_stream.proofs.answering.all_vias.Given as goal

abbrev pub invariant-loop-i : goal.invariant-loop-i
invariant-loop-i l = before_vias l.vias (all_vias (drop l.i l.fields)) ≡ all_vias l.fields
