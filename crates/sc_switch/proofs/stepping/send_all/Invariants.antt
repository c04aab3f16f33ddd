use Rattle.std.proofs.Common.{◌≡◌, ◌+◌, ◌≤◌, ◌++◌, length}
use Rattle.std.specs.VecDeque.{deque_len, deque_capacity}
use Rattle.std.specs.Vec.Iter.{into_iter_items}
use Rattle.sc_switch.proofs.stepping.send_all.Given as goal

abbrev pub invariant-loop-message : goal.invariant-loop-message
invariant-loop-message l =
    (goal.iterator-loop-message).can_next l.message-iterator
    × (goal.iterator-loop-message).is_finite l.message-iterator
    × (l.left.items ≡ l.fn.left.items ++ l.yielded)
    × (l.fn.sent ≡ l.yielded ++ into_iter_items l.message-iterator)
    × (deque_len l.left + length (into_iter_items l.message-iterator) ≤ deque_capacity l.left)
