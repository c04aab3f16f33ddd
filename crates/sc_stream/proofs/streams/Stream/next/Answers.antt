use Rattle.std.proofs.Common.{◌∙◌, ap, drop, subst, sym}
use Rattle.sc_stream.specs.Ends.{IsEnd, bytes_of}
use Rattle.sc_stream.specs.Hearing.{Hears}
use Rattle.sc_stream.proofs.HearSteps.{hears_kept, hears_stands}
use Rattle.sc_stream.proofs.EndSteps.{ended_heard, ends_with, shown}
use Rattle.sc_stream.proofs.streams.Stream.next.Goals as goal

pub invariant_of-self-in-Err : goal.invariant_of-self-in-Err
invariant_of-self-in-Err c = (
  c.new.ensures.items,
  c.new.ensures.capacity,
  subst (IsEnd c.in-Err.ended) (sym c.of-self-inside.ensures) (ends_with c.hear-heard.result.0 c.in-Err.ended c.behind-text.result.now _ c.in-Err.ensures.ends c.hear-heard.ensures.hears),
)

pub returns-in-Ok-clause-stands : goal.returns-in-Ok-clause-stands
returns-in-Ok-clause-stands c = λ fed given stands.
    let seen = shown c.self.inside.ended in
    hears_stands c.in-Ok.heard c.args.self.now _ fed given
    (hears_kept c.in-Ok.heard c.args.self.now (bytes_of c.self.inside.ended (drop c.let_go-self-inside.result c.let_go-self-inside.new.bytes.items) c.self.inside.gone.bytes) c.behind-text.result.now c.self.inside.kept.items c.let_go-self-inside.new.bytes.items
    c.self.inside.from c.hear-heard.result.2 c.let_go-self-inside.result (sym (seen (drop c.self.inside.from c.self.inside.kept.items) c.self.inside.gone.bytes c.in_default.is) ∙ c.self.view_is)
    (c.behind-text.ensures.exact ∙ ap (drop c.self.inside.from) c.as_slice.ensures.value) c.let_go-self-inside.ensures.exact
    (seen (drop c.let_go-self-inside.result c.let_go-self-inside.new.bytes.items) c.self.inside.gone.bytes c.in_default.is)
    (subst (λ a. Hears a c.behind-text.result.now (drop c.hear-heard.result.2 c.behind-text.result.now)) (sym c.in-Ok.ensures.goes.0) c.hear-heard.ensures.hears))
    stands

pub returns-in-Err-clause-hears : goal.returns-in-Err-clause-hears
returns-in-Err-clause-hears c =
    ended_heard c.again-heard.result c.in-Err.ended c.args.self.now c.of-self-inside.result.bytes c.behind-text.result.now
    (c.behind-text.ensures.exact ∙ ap (drop c.self.inside.from) c.as_slice.ensures.value ∙ sym (shown c.self.inside.ended (drop c.self.inside.from c.self.inside.kept.items) c.self.inside.gone.bytes c.in_default.is) ∙ c.self.view_is)
    c.of-self-inside.ensures (ends_with c.hear-heard.result.0 c.in-Err.ended c.behind-text.result.now _ c.in-Err.ensures.ends c.hear-heard.ensures.hears) c.again-heard.ensures

pub returns-in-Err-clause-stands : goal.returns-in-Err-clause-stands
returns-in-Err-clause-stands c = λ fed given stands. hears_stands c.again-heard.result c.args.self.now c.of-self-inside.result.bytes fed given (returns-in-Err-clause-hears c) stands
