use Rattle.std.proofs.Common.{◌++◌, ◌∙◌, drop, subst, sym}
use Rattle.sc_stream.specs.Frames.{Splits}
use Rattle.sc_stream.proofs.FrameLaws.{splits_fed}
use Rattle.sc_stream.proofs.EndSteps.{fed_seen, fed_stands, late_seen, late_stands}
use Rattle.sc_stream.proofs.streams.Stream.feed.Goals as goal

pub invariant_of-self : goal.invariant_of-self
invariant_of-self c =
    late_stands c.self.inside.ended c.self.inside.from c.self.inside.first c.self.inside.kept.items c.self.inside.gone.bytes c.with-self-inside.result.bytes c.args.piece.now _
    (sym c.is_some.ensures ∙ c.if-is_some.true) c.with-self-inside.ensures c.self.invariant

pub returns-then-is_some-clause-stands : goal.returns-then-is_some-clause-stands
returns-then-is_some-clause-stands c = λ fed given stands.
    subst (λ t. Splits given (fed ++ c.args.piece.now) t)
    (sym (late_seen c.self.inside.ended (drop c.self.inside.from c.self.inside.kept.items) c.self.inside.gone.bytes c.with-self-inside.result.bytes c.args.piece.now c.args.self.now
    (sym c.is_some.ensures ∙ c.if-is_some.true) c.with-self-inside.ensures c.self.view_is))
    (splits_fed given fed c.args.self.now c.args.piece.now stands)

pub invariant_of-self-2 : goal.invariant_of-self-2
invariant_of-self-2 c =
    fed_stands c.self.inside.ended c.self.inside.from c.self.inside.first c.self.inside.kept.items _ c.self.inside.gone.bytes c.args.piece.now _ _
    (sym c.is_some.ensures ∙ c.if-is_some.false) c.in_ok-extend_from_slice.ensures.items c.self.invariant

pub returns-clause-stands : goal.returns-clause-stands
returns-clause-stands c = λ fed given stands.
    subst (λ t. Splits given (fed ++ c.args.piece.now) t)
    (sym (fed_seen c.self.inside.ended c.self.inside.from c.self.inside.first c.self.inside.kept.items _ c.self.inside.gone.bytes c.args.piece.now c.args.self.now _
    (sym c.is_some.ensures ∙ c.if-is_some.false) c.in_ok-extend_from_slice.ensures.items c.self.invariant c.self.view_is))
    (splits_fed given fed c.args.self.now c.args.piece.now stands)
