use Rattle.std.proofs.Common.{◌∙◌}
use Rattle.std.specs.Ordering.{nat_cmp}
use Rattle.std.specs.FinMap.Entries.{is_sorted}
use Rattle.sc_book.proofs.Basics.{turned}
use Rattle.sc_book.proofs.PlaceLaws.{removed_entry}
use Rattle.sc_book.proofs.FoundLaws.{take_found}
use Rattle.sc_book.proofs.base.take_in.Goals as goal

pub returns-clause-found : goal.returns-clause-found
returns-clause-found g c =
    take_found g.T.Item.due g.T.Item.first g.T.Item.groups c.args.items.now.entries c.remove.new.self.entries c.args.indexes.now c.end_numbers.new.indexes c.args.place
    c.requires (c.remove.ensures.entries ∙ removed_entry c.args.place c.args.items.now.entries (turned (is_sorted nat_cmp c.args.items.now.entries) c.requires.ordered)) c.remove.ensures.ordered c.end_numbers.ensures
