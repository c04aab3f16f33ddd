use Rattle.std.proofs.Common.{◌+◌, ◌<◌, ◌≤◌, length, drop, Some, None, sym, ◌∙◌, arith, length-drop}
use Rattle.memchr.specs.Find.{IsFirstByte, is_byte}
use Rattle.sc_message_text.proofs.EndSteps.{HasNoneIn, left_is, end_here, end_later, end_onto, end_nowhere}
use Rattle.sc_message_text.proofs.ends.end_of.Goals as goal

pub returns-then-is_end-clause-exact : goal.returns-then-is_end-clause-exact
returns-then-is_end-clause-exact c =
    let text = c.args.text.now in
    let from = c.loop-found.place in
    let k = c.in-Some.found in
    let found : IsFirstByte (is_byte 13) (drop from text) (Some k) = rw (left_is from text) at c.in-Some.ensures in
    let none : HasNoneIn (drop from text) k = λ j lt. found.0.before j (omega arith) lt in
    let here : from + k < length text = omega (arith, found.0.high, length-drop from text) in
    let within : k ≤ length (drop from text) = omega (arith, found.0.high) in
    sym (end_here c.args.ending text (from + k) here (sym c.is_end.ensures.exact ∙ c.if-is_end.true))
    ∙ end_onto c.args.ending text from k within none ∙ c.loop-found.invariant.1

pub loop-found-preserved : goal.loop-found-preserved
loop-found-preserved c =
    let text = c.args.text.now in
    let from = c.loop-found.place in
    let k = c.in-Some.found in
    let found : IsFirstByte (is_byte 13) (drop from text) (Some k) = rw (left_is from text) at c.in-Some.ensures in
    let none : HasNoneIn (drop from text) k = λ j lt. found.0.before j (omega arith) lt in
    let here : from + k < length text = omega (arith, found.0.high, length-drop from text) in
    let within : k ≤ length (drop from text) = omega (arith, found.0.high) in (
      omega (arith, here),
      end_later c.args.ending text (from + k) here (sym c.is_end.ensures.exact ∙ c.if-is_end.false)
          ∙ end_onto c.args.ending text from k within none ∙ c.loop-found.invariant.1,
    )

pub returns-clause-exact : goal.returns-clause-exact
returns-clause-exact c =
    let text = c.args.text.now in
    let from = c.loop-found.place in
    let found : IsFirstByte (is_byte 13) (drop from text) None = rw (c.in_default.is, left_is from text) at c.memchr.ensures in
    let none : HasNoneIn (drop from text) (length (drop from text)) = λ j lt. found j (omega arith) lt in
    sym (end_nowhere c.args.ending text from none) ∙ c.loop-found.invariant.1
