use Rattle.std.proofs.Common.{◌≡◌, ◌≤◌, ◌+◌, ap, sym, ◌∙◌, refl, rules}
use Rattle.sc_book.proofs.RowLaws.{rows_pushed}
use Rattle.sc_book.proofs.rows.Rows.push.Goals as goal

pub invariant_of-self-2 : goal.invariant_of-self-2
invariant_of-self-2 g c =
    let own : c.key-key.result ≡ g.T.Keyed.key c.args.item = c.key-key.ensures ∙ ap g.T.Keyed.key c.get.ensures in
    let up : c.self.inside.next ≤ c.key-key.result = search (rules) in
    rows_pushed g.T.Keyed.key c.self.inside.next c.key-key.result (c.key-key.result + 1) c.args.item c.self.inside.items c.put.new.self c.self.invariant up refl (sym own) c.in_ok-put.ensures.ok
