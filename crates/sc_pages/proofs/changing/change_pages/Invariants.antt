use Rattle.std.proofs.Common.{◌≡◌, ◌++◌, map, take, drop}
use Rattle.sc_pages.proofs.changing.change_pages.Given as goal

abbrev pub invariant-loop-i : goal.invariant-loop-i
invariant-loop-i g l = l.pages ≡ map (map (g.C.Change.changed l.change)) (take l.i l.fn.pages) ++ drop l.i l.fn.pages
