use Rattle.std.proofs.Common.{◌≡◌, length, sym, ap, ◌∙◌, ◌++◌, arith}
use Rattle.std.proofs.lemmas.List.{append-nil}
use Rattle.std.specs.Vec.Iter.{into_iter_items}
use Rattle.sc_switch.proofs.Sendings.{more-left, more-taken, all-taken}
use Rattle.sc_switch.proofs.stepping.send_all.Goals as goal

pub loop-message-init : goal.loop-message-init
loop-message-init c =
    let same = c.into_iter-message-iterator.ensures.into_iter_gives.0 ∙ c.sent.view_is in
    (tt, tt, sym (append-nil _), sym same, rw same c.requires)

pub loop-message-preserved : goal.loop-message-preserved
loop-message-preserved c =
    let i = c.loop-message.invariant in
    let next = c.in-Some.ensures.steps.0 in
    let long = ap length next in (
      tt,
      tt,
      c.push_back_reserved.ensures.items ∙ more-left _ _ _ _ i.2,
      more-taken _ _ _ _ _ i.3 next,
      omega (arith, long, i.4, c.push_back_reserved.ensures.len, c.push_back_reserved.ensures.capacity),
    )

pub returns : goal.returns
returns c =
    let i = c.loop-message.invariant in
    let none : length (into_iter_items c.loop-message.message-iterator) ≡ 0 = omega (arith, c.loop-message.message-iterator.rest.ok, c.in-None.ensures.steps.0) in
    i.2 ∙ ap (λ xs. c.args.left.now.items ++ xs) (all-taken _ _ _ i.3 none)
