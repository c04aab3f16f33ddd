use Rattle.sc_syntax.specs.Sequences.{cseq_of}
use Rattle.sc_syntax.specs.SpelledSequences.{IsCSeqSpelled}
use Rattle.sc_syntax.proofs.SequenceLaws.{cseq_is_spelled, cseq_is_read}
use Rattle.sc_value.specs.SequenceValues.{IsCSeq}
use Rattle.sc_head_text.proofs.KeptValues.{holds_of_given, cseq_kept}
use Rattle.sc_head_text.proofs.ValueSteps.{given_is_spelled}
use Rattle.sc_head_text.proofs.sequences.read_cseq.Goals as goal

pub returns-clause-spelled : goal.returns-clause-spelled
unfolding cseq_of
returns-clause-spelled c = given_is_spelled c.read_trimmed.result (cseq_of c.args.b.now) (λ x. IsCSeqSpelled c.args.b.now x) (rw (← c.trim.ensures) c.read_trimmed.ensures) (λ x h. cseq_is_spelled c.args.b.now x h) (λ x h. cseq_is_read c.args.b.now x h)

pub returns-clause-kept : goal.returns-clause-kept
returns-clause-kept c = holds_of_given c.read_trimmed.result (λ x. IsCSeqSpelled c.args.b.now x) (λ x. IsCSeq x) (returns-clause-spelled c) (λ x h. cseq_kept c.args.b.now x h)
