use Rattle.std.proofs.Common.{arith, refl}
use Rattle.std.proofs.lemmas.List.{length-drop}
use Rattle.sc_script.specs.Reading.{Gives, Adds}
use Rattle.sc_script.proofs.ScriptLines.{at_start, one_more, all_said, one_wrong, no_last, rest_some}
use Rattle.sc_script.proofs.scripts.add_lines.Goals as goal

pub loop-at-init : goal.loop-at-init
loop-at-init c = (at_start c.args.bytes.now c.args.lines.now c.requires.empty, omega arith)

pub returns-in-Err : goal.returns-in-Err
returns-in-Err c =
    one_wrong c.args.bytes.now c.loop-at.lines c.loop-at.lines c.loop-at.at c.loop-at.since c.in-Err.cause c.loop-at.invariant.0 (rw c.rest_of.ensures at c.in-Err.ensures.gives) (rest_some c.args.bytes.now c.loop-at.at c.loop-at-test.true)

pub returns-in-Err-put_line : goal.returns-in-Err-put_line
unfolding Adds
returns-in-Err-put_line c = tt

pub returns-then-last : goal.returns-then-last
unfolding Adds Gives
returns-then-last c =
    all_said c.args.bytes.now c.loop-at.lines c.put_line.new.lines c.loop-at.at c.loop-at.since c.in-Ok.row.0 c.in-Ok.row.1 c.is_end-last.result c.loop-at.invariant.0 (rw c.rest_of.ensures at c.in-Ok.ensures.gives) c.is_end-last.ensures c.if-last.true
    (rest_some c.args.bytes.now c.loop-at.at c.loop-at-test.true) c.in-Ok-put_line.ensures

pub loop-at-preserved : goal.loop-at-preserved
unfolding Gives
loop-at-preserved c =
    let within = rw c.rest_of.ensures at c.in-Ok.ensures.within in
    let long = length-drop c.loop-at.at c.args.bytes.now in (
      one_more c.args.bytes.now c.loop-at.lines c.put_line.new.lines c.loop-at.at _ c.loop-at.since c.moment_after-since.result c.in-Ok.row.0 c.in-Ok.row.1 c.is_end-last.result c.loop-at.invariant.0 (rw c.rest_of.ensures at c.in-Ok.ensures.gives) c.is_end-last.ensures
          c.if-last.false c.in-Ok.ensures.some within c.moment_after-since.ensures c.in-Ok-put_line.ensures refl,
      omega (arith, within, long, c.loop-at.invariant.1, c.loop-at-test.true),
    )

pub returns : goal.returns
unfolding Adds
returns c = no_last c.args.bytes.now c.loop-at.lines c.loop-at.at c.loop-at.since c.loop-at.invariant.0 c.loop-at.invariant.1 (omega (arith, c.loop-at-test.false))
