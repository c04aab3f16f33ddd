use Rattle.std.proofs.Common.{◌<◌, ◌≤◌, length, ◌∙◌, sym, arith}
use Rattle.std.proofs.Math.ListN.{drop}
use Rattle.std.proofs.lemmas.Bool.Decides.{nat_tests}
use Rattle.sc_edge.specs.EdgeComing.{left_of}
use Rattle.sc_edge.proofs.ComingTold.{skipped, stopped, stopped_end}
use Rattle.sc_edge.proofs.mem_coming.first_live.Goals as goal

pub returns-then-not-is_skipped : goal.returns-then-not-is_skipped
returns-then-not-is_skipped c =
    let below : c.loop-next.next < length c.args.items.now = grind (arith, nat_tests, c.loop-next-test.true) in
    stopped _ c.args.items.now (left_of c.args.from (drop c.args.next c.args.items.now)) c.loop-next.next c.loop-next.from c.index-items-next.result below c.index-items-next.is (sym c.is_skipped.ensures ∙ c.if-not-is_skipped.true) c.loop-next.invariant

pub loop-next-preserved : goal.loop-next-preserved
loop-next-preserved c =
    let below : c.loop-next.next < length c.args.items.now = grind (arith, nat_tests, c.loop-next-test.true) in
    skipped _ c.args.items.now (left_of c.args.from (drop c.args.next c.args.items.now)) c.loop-next.next c.loop-next.from c.index-items-next.result below c.index-items-next.is (sym c.is_skipped.ensures ∙ c.if-not-is_skipped.false) c.loop-next.invariant

pub returns : goal.returns
returns c =
    let past : length c.args.items.now ≤ c.loop-next.next = grind (arith, nat_tests, c.loop-next-test.false) in
    stopped_end _ c.args.items.now (left_of c.args.from (drop c.args.next c.args.items.now)) c.loop-next.next c.loop-next.from past c.loop-next.invariant
