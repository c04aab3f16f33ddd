use Rattle.std.specs.Prelude.{◌≡◌, List, length}
use Rattle.sc_edge.specs.Edges.{EdgeState}
use Rattle.sc_outs.specs.Deeds.{Deed}
use Rattle.sc_outs.specs.Puts.{Puts}
use Rattle.sc_rounds.proofs.stepping.Core.drain.Given as goal

abbrev pub invariant-loop-sent : goal.invariant-loop-sent
invariant-loop-sent l =
    (l.self.switch ≡ record l.fn.self.switch { left = l.self.switch.left })
    × ((first now : EdgeState) (deeds : List Deed) → Puts first now deeds l.fn.self.outs l.fn.self.switch.left → Puts first now deeds l.self.outs l.self.switch.left)
    × (l.self.handed ≡ l.fn.self.handed)
    × (l.self.unlisted ≡ l.fn.self.unlisted)
    × (l.self.turning ≡ l.fn.self.turning)
    × (l.self.kept_since ≡ l.fn.self.kept_since)

abbrev pub decreases-loop-sent : goal.decreases-loop-sent
decreases-loop-sent l = length l.self.switch.left
