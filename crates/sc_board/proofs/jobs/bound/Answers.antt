use Rattle.std.proofs.Common.{sym, subst}
use Rattle.crossbeam_queue.specs.Fifo.{Forks}
use Rattle.sc_board.specs.declared.jobs.JobView.{JobView}
use Rattle.sc_board.specs.JobRules.{JobsKept, first_job_view, spent_job_view}
use Rattle.sc_board.proofs.JobSteps.{bounds}
use Rattle.sc_board.proofs.jobs.bound.Goals as goal

pub another-spent-requires-clause-rule : goal.another-spent-requires-clause-rule
another-spent-requires-clause-rule g c =
    subst (λ (v : JobView). Forks JobsKept c.args.pass.now.id v (first_job_view g.N.Number.number) spent_job_view) (sym c.requires.pass.1) (bounds _ _)
