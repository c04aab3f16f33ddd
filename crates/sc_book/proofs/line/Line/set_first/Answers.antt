use Rattle.std.proofs.Common.{subst}
use Rattle.sc_book.specs.Gathering.{IsFirst}
use Rattle.sc_book.proofs.Basics.{either_way, on_ok}
use Rattle.sc_book.proofs.RowLaws.{fewer_own, below_fewer}
use Rattle.sc_book.proofs.FindLaws.{set_at, set_none, below_set_at}
use Rattle.sc_book.proofs.line.Line.set_first.Goals as goal

pub invariant_of-self : goal.invariant_of-self
invariant_of-self g c =
    let first = subst (λ es. IsFirst (g.P.Probe.passes c.args.probe.now) es c.in_ok-place.field-0) c.book.ensures c.in_ok-place.ensures in
    either_way c.put.result c.put.ensures.ok c.put.ensures.err
    (below_set_at (g.P.Probe.passes c.args.probe.now) c.self.inside.next c.self.inside.items c.put.new.self c.in_ok-place.field-0 c.in-Some.place c.args.item c.self.invariant first c.in-Some.is)
    (λ same. below_fewer c.self.inside.next c.self.inside.items c.put.new.self c.self.invariant (fewer_own c.self.inside.items c.put.new.self same))

pub returns-in-Some-clause-ok : goal.returns-in-Some-clause-ok
returns-in-Some-clause-ok g c =
    let first = subst (λ es. IsFirst (g.P.Probe.passes c.args.probe.now) es c.in_ok-place.field-0) c.book.ensures c.in_ok-place.ensures in
    rw (← c.self.view_is) (on_ok c.put.result (set_at (g.P.Probe.passes c.args.probe.now) c.self.inside.items c.put.new.self c.in_ok-place.field-0 c.in-Some.place c.args.item first c.in-Some.is) c.put.ensures.ok)

pub returns-in-None-clause-ok : goal.returns-in-None-clause-ok
returns-in-None-clause-ok g c =
    let first = subst (λ es. IsFirst (g.P.Probe.passes c.args.probe.now) es c.in_ok-place.field-0) c.book.ensures c.in_ok-place.ensures in
    rw (← c.self.view_is) (set_none (g.P.Probe.passes c.args.probe.now) c.self.inside.items c.in_ok-place.field-0 c.args.item first c.in-None.is)
