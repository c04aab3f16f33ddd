use Rattle.std.proofs.Common.{take}
use Rattle.sc_queue.specs.Joined.{joined}
use Rattle.sc_pages.specs.Runs.{AllRest, AreBelow, Holds, rests_at}
use Rattle.sc_pages.proofs.runs.add_runs.Given as goal

-- items rest at the runs so far, and all numbers of the pages behind are below `past`
abbrev pub invariant-loop-page : goal.invariant-loop-page
invariant-loop-page g l = AllRest g.T.Paged.number g.T.Paged.rests (joined l.pages) l.runs × Holds (λ n. rests_at g.T.Paged.number g.T.Paged.rests n (joined l.pages)) l.run × AreBelow g.T.Paged.number l.past (joined (take l.page-index l.pages))
