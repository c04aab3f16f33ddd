use Rattle.std.proofs.Common.{inl}
use Rattle.sc_rounds.proofs.GivingUps.{broke_then}
use Rattle.sc_rounds.proofs.Listenings.{goes_on, on_any, stops}
use Rattle.sc_rounds.proofs.OftenGivings.{from_here, from_then, out_then}
use Rattle.sc_rounds.proofs.hearing.hear_all.Goals as goal

pub loop-init : goal.loop-init
loop-init g c = record { serves = λ from edge text s. s; gave = λ from edge text s is. inl is; gives = λ none. (none, from_here _ _) }

pub loop-preserved : goal.loop-preserved
loop-preserved g c = record {
  serves = λ from edge text s. goes_on from edge (g.N.Notice.noted c.hear_one.new.notice) _ _ _ text _ (c.in_ok-hear_one.ensures.on from edge text (c.loop.invariant.serves from edge text s)) c.if-branch.true;
  gave = λ from edge text s is. broke_then (c.loop.invariant.gave from edge text s) (c.hear_one.ensures.gave from edge text (c.loop.invariant.serves from edge text s) is);
  gives = λ none. from_then _ _ _ _ _ _ (c.in_ok-hear_one.ensures.gives (c.loop.invariant.gives none).0) c.if-branch.true (c.loop.invariant.gives none).1;
}

pub returns-in_err-hear_one-clause-err : goal.returns-in_err-hear_one-clause-err
returns-in_err-hear_one-clause-err g c from edge text s = on_any _ (c.in_err-hear_one.ensures.err from edge text (c.loop.invariant.serves from edge text s))

pub returns-in_err-hear_one-clause-gave : goal.returns-in_err-hear_one-clause-gave
returns-in_err-hear_one-clause-gave g c from edge text s is = broke_then (c.loop.invariant.gave from edge text s) (c.hear_one.ensures.gave from edge text (c.loop.invariant.serves from edge text s) is)

pub returns-clause-ok : goal.returns-clause-ok
returns-clause-ok g c from edge text s =
    stops from edge (g.N.Notice.noted c.hear_one.new.notice) _ _ _ text _ (c.in_ok-hear_one.ensures.on from edge text (c.loop.invariant.serves from edge text s)) c.if-branch.false

pub returns-clause-gave : goal.returns-clause-gave
returns-clause-gave g c from edge text s is = broke_then (c.loop.invariant.gave from edge text s) (c.hear_one.ensures.gave from edge text (c.loop.invariant.serves from edge text s) is)

pub returns-clause-gives : goal.returns-clause-gives
returns-clause-gives g c none = out_then _ _ _ _ _ _ (c.in_ok-hear_one.ensures.gives (c.loop.invariant.gives none).0) c.if-branch.false (c.loop.invariant.gives none).1
