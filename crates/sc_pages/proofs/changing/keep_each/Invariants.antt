use Rattle.std.proofs.Common.{◌≡◌, ◌++◌, map, take, drop}
use Rattle.std.specs.List.{filter}
use Rattle.sc_pages.proofs.changing.keep_each.Given as goal

abbrev pub invariant-loop-i : goal.invariant-loop-i
invariant-loop-i g l = l.pages ≡ map (filter (g.P.Probe.passes l.probe)) (take l.i l.fn.pages) ++ drop l.i l.fn.pages
