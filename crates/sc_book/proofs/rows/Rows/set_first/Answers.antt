use Rattle.std.proofs.Common.{◌≡◌, ap, sym, ◌∙◌, subst}
use Rattle.sc_book.specs.Gathering.{IsFirst}
use Rattle.sc_book.proofs.Basics.{either_way, on_ok}
use Rattle.sc_book.proofs.RowLaws.{fewer_own, rows_fewer}
use Rattle.sc_book.proofs.FindLaws.{set_at, set_none, rows_set_at}
use Rattle.sc_book.proofs.rows.Rows.set_first.Goals as goal

pub invariant_of-self : goal.invariant_of-self
invariant_of-self g c =
    let first = subst (λ es. IsFirst (g.P.Probe.passes c.args.probe.now) es c.in_ok-place.field-0) c.book.ensures c.in_ok-place.ensures in
    let own : g.T.Keyed.key c.args.item ≡ c.in-Some.place = sym (c.key.ensures ∙ ap g.T.Keyed.key c.get.ensures) ∙ c.if-key-place.false in
    either_way c.put.result c.put.ensures.ok c.put.ensures.err
    (rows_set_at (g.P.Probe.passes c.args.probe.now) g.T.Keyed.key c.self.inside.next c.self.inside.items c.put.new.self c.in_ok-place.field-0 c.in-Some.place c.args.item c.self.invariant first c.in-Some.is own)
    (λ same. rows_fewer g.T.Keyed.key c.self.inside.next c.self.inside.items c.put.new.self c.self.invariant (fewer_own c.self.inside.items c.put.new.self same))

pub returns-clause-ok : goal.returns-clause-ok
returns-clause-ok g c =
    let first = subst (λ es. IsFirst (g.P.Probe.passes c.args.probe.now) es c.in_ok-place.field-0) c.book.ensures c.in_ok-place.ensures in
    rw (← c.self.view_is) (on_ok c.put.result (set_at (g.P.Probe.passes c.args.probe.now) c.self.inside.items c.put.new.self c.in_ok-place.field-0 c.in-Some.place c.args.item first c.in-Some.is) c.put.ensures.ok)

pub returns-in-None-clause-ok : goal.returns-in-None-clause-ok
returns-in-None-clause-ok g c =
    let first = subst (λ es. IsFirst (g.P.Probe.passes c.args.probe.now) es c.in_ok-place.field-0) c.book.ensures c.in_ok-place.ensures in
    rw (← c.self.view_is) (set_none (g.P.Probe.passes c.args.probe.now) c.self.inside.items c.in_ok-place.field-0 c.args.item first c.in-None.is)
