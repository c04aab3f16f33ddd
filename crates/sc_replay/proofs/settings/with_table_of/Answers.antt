use Rattle.std.proofs.Common.{Some, refl}
use Rattle.sc_replay.proofs.settings.with_table_of.Goals as goal

pub returns-in-Ok-clause-table : goal.returns-in-Ok-clause-table
returns-in-Ok-clause-table c = rw c.as_slice.ensures.same at (c.in-Ok.ensures.found (Some c.args.text.now) refl)

pub returns-in-Err-clause-unread : goal.returns-in-Err-clause-unread
returns-in-Err-clause-unread c = rw c.as_slice.ensures.same at (c.in-Err.ensures.unread (Some c.args.text.now) refl)
