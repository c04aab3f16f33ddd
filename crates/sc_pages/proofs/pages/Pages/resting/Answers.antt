use Rattle.std.proofs.Common.{subst}
use Rattle.sc_queue.specs.Joined.{joined}
use Rattle.sc_pages.specs.Runs.{AllRest}
use Rattle.sc_pages.proofs.RunLaws.{all_rest}
use Rattle.sc_pages.proofs.pages.Pages.resting.Goals as goal

pub returns : goal.returns
returns g c = rw (← c.self.view_is) (all_rest g.T.Paged.number g.T.Paged.rests (joined c.self.inside.pages) c.self.inside.newest _ (subst (λ l. AllRest g.T.Paged.number g.T.Paged.rests (joined l) c.add_runs.new.runs) c.as_slice.ensures c.in_ok-add_runs.ensures))
