use Rattle.std.proofs.Common.{[], ◌∷◌, ◌++◌, refl, arith}
use Rattle.sc_replay.proofs.Writings.{left_alone, on_either, none_left, put_none, one_more, put_more, put_whole, put_part}
use Rattle.sc_replay.proofs.writing.put_sent.Goals as goal

pub loop-alloc-init : goal.loop-alloc-init
loop-alloc-init g c = record { later = omega arith; same = refl; put = ([], refl, put_none _) }

pub loop-alloc-preserved : goal.loop-alloc-preserved
loop-alloc-preserved g c =
    let i = c.loop-alloc.invariant in
    record {
      later = omega (arith, i.later, c.in_ok-put.ensures.later);
      same = left_alone c.args.switch.now c.loop-alloc.switch c.take_sent.new.self i.same c.in-Some.ensures.same;
      put = (
        i.put.0 ++ c.in-Some.sent ∷ [],
        one_more _ i.put.0 _ _ c.in-Some.sent i.put.1 c.in-Some.ensures.some,
        put_more _ _ _ i.put.0 c.in-Some.sent i.put.2 c.in_ok-put.ensures.ok,
      );
    }

pub returns-in_err-put-clause-part : goal.returns-in_err-put-clause-part
returns-in_err-put-clause-part g c =
    let i = c.loop-alloc.invariant in
    on_either _ (put_part _ _ _ _ i.put.0 _ _ c.in-Some.sent i.put.1 c.in-Some.ensures.some i.put.2 c.in_err-put.ensures.part)

pub returns-clause-ok : goal.returns-clause-ok
returns-clause-ok g c =
    let i = c.loop-alloc.invariant in
    let none = none_left _ _ c.untaken.ensures c.loop-alloc-test.false in
    (none, put_whole _ _ _ i.put.0 _ i.put.1 none i.put.2)
