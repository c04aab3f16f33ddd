use Rattle.std.proofs.Common.{ap, sym, ◌∙◌}
use Rattle.std.specs.Option.{option_copied}
use Rattle.sc_txn.proofs.Pasts.{client_next, client_stays}
use Rattle.sc_txn.proofs.client_past.take_at.Goals as goal

pub returns-in-Some : goal.returns-in-Some
returns-in-Some c invite sent stands =
    client_next c.args.txn.now c.take.new.self invite sent c.args.items.now c.args.at c.in-Some.item.now stands (sym c.get.ensures ∙ ap option_copied c.in-Some.is) c.take.ensures.stands

pub returns-in-None : goal.returns-in-None
returns-in-None c invite sent stands =
    client_stays c.args.txn.now invite sent c.args.items.now c.args.at stands (sym c.get.ensures ∙ ap option_copied c.in-None.is)
