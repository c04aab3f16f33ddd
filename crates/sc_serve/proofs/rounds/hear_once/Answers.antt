use Rattle.std.proofs.Common.{inl, inr, refl, ◌∙◌}
use Rattle.sc_serve.proofs.Roundings.{goes_kept, goes_then, halts_then}
use Rattle.sc_serve.proofs.rounds.hear_once.Goals as goal

pub returns-then-not-takes_more-clause-ok : goal.returns-then-not-takes_more-clause-ok
returns-then-not-takes_more-clause-ok g c = goes_kept _ _ _ _ c.takes_more.ensures.core c.takes_more.ensures.streams c.takes_more.ensures.broken

pub returns-in-Ok-clause-ok : goal.returns-in-Ok-clause-ok
returns-in-Ok-clause-ok g c = goes_then _ _ _ _ _ _ _ _ _ (goes_kept _ _ _ _ c.takes_more.ensures.core c.takes_more.ensures.streams c.takes_more.ensures.broken) c.in-Ok.ensures.ok

pub returns-in-Err-clause-err : goal.returns-in-Err-clause-err
returns-in-Err-clause-err g c = halts_then _ _ _ _ _ _ _ _ _ (goes_kept _ _ _ _ c.takes_more.ensures.core c.takes_more.ensures.streams c.takes_more.ensures.broken) c.in-Err.ensures.err

pub returns-then-not-takes_more-clause-hears : goal.returns-then-not-takes_more-clause-hears
returns-then-not-takes_more-clause-hears g c = inr (c.takes_more.ensures.none c.if-not-takes_more.true, c.takes_more.ensures.few c.if-not-takes_more.true, refl)

pub returns-in-Ok-clause-hears : goal.returns-in-Ok-clause-hears
returns-in-Ok-clause-hears g c = inl (c.poll_once.ensures.unpolled ∙ c.takes_more.ensures.more c.if-not-takes_more.false, c.poll_once.ensures.polled)
