use Rattle.std.proofs.Common.{sym, ◌∙◌}
use Rattle.sc_streams.proofs.Pendings.{nothing_heard, same_kept}
use Rattle.sc_streams.proofs.streams.next_in.Goals as goal

pub returns-in-None-clause-hears : goal.returns-in-None-clause-hears
returns-in-None-clause-hears c = nothing_heard _ _ (sym c.place_of.ensures ∙ c.in-None.is)

pub returns-in-None-clause-kept : goal.returns-in-None-clause-kept
returns-in-None-clause-kept c = same_kept _ _
