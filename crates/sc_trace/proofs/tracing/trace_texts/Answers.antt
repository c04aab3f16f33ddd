use Rattle.std.proofs.Common.{sym, ◌∙◌}
use Rattle.std.proofs.lemmas.List.{length-map}
use Rattle.sc_replay.proofs.Endings.{is_setup}
use Rattle.sc_trace.proofs.tracing.trace_texts.Goals as goal

pub trace_over-requires : goal.trace_over-requires
trace_over-requires g c = is_setup _ _ _ _ _ _ (c.args.apps.now.paired ∙ sym (length-map _ _)) (rw c.names.ensures at c.in-Ok.ensures.config) c.in-Ok.ensures.table
