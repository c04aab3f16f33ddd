use Rattle.std.proofs.Common.{◌≡◌, ap, sym, ◌∙◌, None, Some, true}
use Rattle.std.specs.Option.{option_copied}
use Rattle.std.specs.Ordering.{nat_cmp}
use Rattle.std.specs.FinMap.Entries.{is_sorted}
use Rattle.sc_book.specs.Places.{at_place}
use Rattle.sc_book.proofs.Basics.{either_way, on_ok}
use Rattle.sc_book.proofs.RowLaws.{fewer_own, rows_fewer, rows_set, set_keyed, kept_keyed}
use Rattle.sc_book.proofs.rows.Rows.set.Goals as goal

pub invariant_of-self : goal.invariant_of-self
invariant_of-self g c =
    let own : c.key-key.result ≡ g.T.Keyed.key c.args.item = c.key-key.ensures ∙ ap g.T.Keyed.key c.get.ensures in
    let there : Some c.in-Some.field-0.now ≡ at_place c.key-key.result c.self.inside.items = sym (ap option_copied c.in-Some.is) ∙ c.get-2.ensures.item ∙ ap (at_place c.key-key.result) c.book.ensures in
    either_way c.put.result c.put.ensures.ok c.put.ensures.err
    (rows_set g.T.Keyed.key c.self.inside.next c.key-key.result c.args.item c.in-Some.field-0.now c.self.inside.items c.put.new.self c.self.invariant there (sym own))
    (λ same. rows_fewer g.T.Keyed.key c.self.inside.next c.self.inside.items c.put.new.self c.self.invariant (fewer_own c.self.inside.items c.put.new.self same))

pub returns-in-Some-clause-ok : goal.returns-in-Some-clause-ok
returns-in-Some-clause-ok g c =
    let own : c.key-key.result ≡ g.T.Keyed.key c.args.item = c.key-key.ensures ∙ ap g.T.Keyed.key c.get.ensures in
    let there : Some c.in-Some.field-0.now ≡ at_place c.key-key.result c.self.inside.items = sym (ap option_copied c.in-Some.is) ∙ c.get-2.ensures.item ∙ ap (at_place c.key-key.result) c.book.ensures in
    let sorted : is_sorted nat_cmp c.self.inside.items ≡ true = ap (is_sorted nat_cmp) (sym c.book.ensures) ∙ c.get-2.ensures.sorted in
    rw (← c.self.view_is, ← own) (on_ok c.put.result (set_keyed g.T.Keyed.key c.key-key.result c.args.item c.in-Some.field-0.now c.self.inside.items c.put.new.self c.self.invariant.keyed sorted there) c.put.ensures.ok)

pub returns-in-None-clause-ok : goal.returns-in-None-clause-ok
returns-in-None-clause-ok g c =
    let own : c.key-key.result ≡ g.T.Keyed.key c.args.item = c.key-key.ensures ∙ ap g.T.Keyed.key c.get.ensures in
    let none : None ≡ at_place c.key-key.result c.self.inside.items = sym (ap option_copied c.in-None.is) ∙ c.get-2.ensures.item ∙ ap (at_place c.key-key.result) c.book.ensures in
    rw (← c.self.view_is, ← own) (kept_keyed g.T.Keyed.key c.key-key.result c.args.item c.self.inside.items c.self.invariant.keyed none)
