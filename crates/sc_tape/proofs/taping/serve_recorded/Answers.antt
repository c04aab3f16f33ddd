use Rattle.sc_tape.proofs.TapeLaws.{taped_of}
use Rattle.sc_tape.proofs.taping.serve_recorded.Goals as goal

pub returns-clause-taped : goal.returns-clause-taped
returns-clause-taped g c = taped_of _ _ _ _ _ _ _ (rw c.new-recorder.ensures.told at c.serve-ran.ensures.serves) c.status_after.ensures c.keep_rest.ensures (rw (c.cause-cause.ensures.cause, c.into_parts-notice.ensures.out) c.cause-cause.ensures.recorded)
