use Rattle.std.proofs.Common.{◌++◌}
use Rattle.std.specs.Map.{values_of}
use Rattle.sc_book.specs.Gathering.{items_at as gathered, is_wanted}
use Rattle.sc_book.proofs.GatherLaws.{gathered_next, gathered_end}
use Rattle.sc_book.proofs.gathering.add_all.Goals as goal

pub loop-place-preserved : goal.loop-place-preserved
loop-place-preserved g c =
    gathered_next (is_wanted g.T.Item.due g.T.Item.groups c.args.wanted) c.args.book.now c.loop-place.own c.add_wanted.new.own (c.args.own.now ++ values_of (gathered (is_wanted g.T.Item.due g.T.Item.groups c.args.wanted) c.args.book.now c.args.places.now.keys))
    c.in-Some.place.now _ c.next.new.self c.loop-place.place-iterator c.in_ok-add_wanted.ensures c.get.ensures.item c.in-Some.ensures.steps c.loop-place.invariant

pub returns-clause-gathered : goal.returns-clause-gathered
returns-clause-gathered g c =
    gathered_end (is_wanted g.T.Item.due g.T.Item.groups c.args.wanted) c.args.book.now c.loop-place.own (c.args.own.now ++ values_of (gathered (is_wanted g.T.Item.due g.T.Item.groups c.args.wanted) c.args.book.now c.args.places.now.keys))
    c.loop-place.place-iterator c.in-None.ensures.steps.0 c.loop-place.invariant
