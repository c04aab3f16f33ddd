use Rattle.std.proofs.Common.{◌≡◌, ◌+◌, ◌≤◌, ◌++◌, take}
use Rattle.std.specs.Prelude.{vec_len, vec_capacity}
use Rattle.sc_edge.specs.EdgeTaken.{bytes_of_place as tagged}
use Rattle.sc_edge.proofs.mem_taken.keep.Given as goal

-- the first bytes stand at the end, and there is room for the others
abbrev pub invariant-loop-byte : goal.invariant-loop-byte
invariant-loop-byte l =
    (l.kept.items ≡ l.fn.kept.items ++ tagged l.fn.place (take l.byte-index l.bytes))
    × (vec_len l.kept ≡ vec_len l.fn.kept + l.byte-index)
    × (vec_capacity l.fn.kept ≤ vec_capacity l.kept)
