use Rattle.sc_streams.proofs.Pendings.{next_hears, next_kept, next_less}
use Rattle.sc_streams.proofs.streams.next_at.Goals as goal

pub returns-clause-hears : goal.returns-clause-hears
returns-clause-hears c = next_hears _ _ _ _ _ _ c.requires c.next.ensures.hears

pub returns-clause-kept : goal.returns-clause-kept
returns-clause-kept c = next_kept _ _ _ _ _ c.requires

pub returns-clause-less : goal.returns-clause-less
returns-clause-less c message is = next_less c.fronts_stay.ensures.whole _ _ _ _ _ _ message c.requires c.next.ensures.hears is
