use Rattle.std.proofs.Common.{◌≡◌, ◌++◌, take}
use Rattle.sc_edge.specs.EdgeTaken.{kept_of}
use Rattle.sc_edge.proofs.mem_taken.add_bytes.Given as goal

abbrev pub invariant-loop-kept : goal.invariant-loop-kept
invariant-loop-kept l = l.bytes ≡ l.fn.bytes ++ kept_of l.fn.place (take l.kept-index l.kept)
