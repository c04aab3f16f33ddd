use Rattle.sc_book.proofs.FoundLaws.{had_numbers, put_found, back_found}
use Rattle.sc_book.proofs.base.put_in.Goals as goal

pub put_beside-requires : goal.put_beside-requires
put_beside-requires g c = had_numbers g.T.Item.due g.T.Item.first g.T.Item.groups c.args.items.now.entries c.args.indexes.now c.args.place c.numbers_at-old.result c.requires c.numbers_at-old.ensures

pub returns-in-Ok-clause-found : goal.returns-in-Ok-clause-found
returns-in-Ok-clause-found g c =
    put_found g.T.Item.due g.T.Item.first g.T.Item.groups c.args.items.now.entries c.put_beside.new.items.entries c.args.indexes.now c.put_beside.new.indexes c.end_numbers.new.indexes c.args.place c.args.entry c.numbers-new.result
    c.requires c.put_beside.ensures.grown c.in-Ok.ensures.there c.numbers-new.ensures c.in-Ok.ensures.ok c.in-Ok.ensures.ordered c.end_numbers.ensures

pub returns-in-Err-clause-found : goal.returns-in-Err-clause-found
returns-in-Err-clause-found g c =
    back_found g.T.Item.due g.T.Item.first g.T.Item.groups c.args.items.now.entries c.put_beside.new.items.entries c.args.indexes.now c.put_beside.new.indexes c.end_numbers-in-Err.new.indexes c.args.place c.numbers_at-old.result
    c.requires c.put_beside.ensures.grown c.numbers_at-old.ensures c.in-Err.ensures.err c.end_numbers-in-Err.ensures
