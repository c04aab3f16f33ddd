use Rattle.std.proofs.Common.{◌<◌, length, sym, ◌∙◌}
use Rattle.sc_best.proofs.Gathering.{challenge_added, challenge_passed}
use Rattle.sc_best.proofs.forwarding.add_some.Goals.{then-is_challenge+in_ok-push_copy, else-is_challenge}
use Rattle.sc_best.proofs.forwarding.add_some.Goals as goal

pub loop-at-preserved : goal.loop-at-preserved
loop-at-preserved c =
    let below : c.loop-at.at < length c.args.others.now = rw (← c.len-at-end.ensures) c.loop-at-test.true in
    let is = rw c.as_slice.ensures at c.index-as_slice-at.is in
    elim c.if-is_challenge.branch [
      | then-is_challenge+in_ok-push_copy w ↦ rw w.fields-is (challenge_added _ _ c.loop-at.fields _ _ _ below is (sym c.is_challenge.ensures ∙ w.if-is_challenge.true) c.loop-at.invariant (w.in_ok-push_copy.ensures.ok c.index-as_slice-at.result))
      | else-is_challenge w ↦ rw w.fields-is (challenge_passed _ _ _ _ _ below is (sym c.is_challenge.ensures ∙ w.if-is_challenge.false) c.loop-at.invariant)
    ]
