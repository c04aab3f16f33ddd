use Rattle.std.proofs.Math.Facts.{Fits-of_lt}
use Rattle.sc_replay.proofs.TableLengths.{tuples_fit}
use Rattle.sc_replay.proofs.checking.tuple_count.Goals as goal

pub overflow_add-count : goal.overflow_add-count
overflow_add-count c = Fits-of_lt (tuples_fit c.args.lists.now c.loop-list.list-index c.loop-list.count c.len.result c.list-item.result c.loop-list-test.true c.loop-list.invariant c.list-item.is c.len.ensures c.requires.lists c.requires.tuples)
