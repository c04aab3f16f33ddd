use Rattle.std.proofs.Common.{◌≡◌, ◌++◌, take}
use Rattle.sc_messages.proofs.vias.add_copies.Given as goal

abbrev pub invariant-loop-via : goal.invariant-loop-via
invariant-loop-via l = l.all ≡ l.fn.all ++ take l.via-index l.vias
