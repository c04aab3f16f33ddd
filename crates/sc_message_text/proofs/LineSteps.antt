-- Header lines that the first CR behind them ends.
use Rattle.std.proofs.Common.{◌≡◌, ℕ, true, Some, None, ◌≤◌, ◌<◌, length, take, sym, ap, ◌∙◌, arith}
use Rattle.std.proofs.lemmas.List.{get_or-take, length-take-le}
use Rattle.memchr.specs.Find.{IsFirstByte, is_byte}
use Rattle.sc_tokens.specs.Bytes.{Bytes}
use Rattle.sc_syntax.specs.declared.ending.Ending.TheVariants.{Any, Unfolded}
use Rattle.sc_syntax.specs.Lines.{is_end, end_of}
use Rattle.sc_message_text.proofs.EndSteps.{HasNoneIn, left, map_none, end_here, end_nowhere, end_past}

pub ends_there : (text : Bytes) (k : ℕ) → IsFirstByte (is_byte 13) text (Some k) → is_end Unfolded (left k text) ≡ true → end_of Unfolded text ≡ Some k
ends_there text k found is =
    let none : HasNoneIn text k = λ j lt. found.0.before j (omega arith) lt in
    let here : k < length text = omega (arith, found.0.high) in
    let within : k ≤ length text = omega (arith, found.0.high) in
    end_past Unfolded text k within none ∙ end_here Unfolded text k here is

pub none_before : (text : Bytes) (k : ℕ) → IsFirstByte (is_byte 13) text (Some k) → end_of Any (take k text) ≡ None
none_before text k found =
    let within : k ≤ length text = omega (arith, found.0.high) in
    let len = length-take-le k text within in
    let none : HasNoneIn (take k text) (length (take k text)) = λ j lt is.
    let before : j < k = omega (arith, lt, len) in
    found.0.before j (omega arith) before (ap (λ b. is_byte 13 b) (sym (get_or-take k text j 0 before)) ∙ is) in
    sym (map_none (end_of Any (take k text))) ∙ end_nowhere Any (take k text) 0 none
