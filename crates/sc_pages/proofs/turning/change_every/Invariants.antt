use Rattle.std.proofs.Common.{◌≡◌, ◌++◌, map, take, drop}
use Rattle.sc_pages.proofs.turning.change_every.Given as goal

abbrev pub invariant-loop-i : goal.invariant-loop-i
invariant-loop-i g l = l.items ≡ map (g.C.Change.changed l.change) (take l.i l.fn.items) ++ drop l.i l.fn.items
