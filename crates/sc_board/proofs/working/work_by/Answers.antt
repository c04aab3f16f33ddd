use Rattle.sc_board.proofs.Works.{begins_work, turn_made, work_ends}
use Rattle.sc_board.proofs.working.work_by.Goals as goal

pub loop-init : goal.loop-init
loop-init g c = begins_work _ _ _ c.requires.pass.0

pub loop-preserved : goal.loop-preserved
loop-preserved g c =
    turn_made _ (λ lease done. goal.F-post g c.args.make.now lease done) _ c.loop.pass c.next_job.new.pass _ c.in-Turn.lease c.loop.invariant c.in-Turn.ensures.taken c.in-Turn.ensures.results c.turn.ensures.pass c.turn.ensures.jobs c.turn.ensures.results

pub returns-in-Stop : goal.returns-in-Stop
returns-in-Stop g c = work_ends _ _ _ c.loop.pass _ c.loop.invariant c.in-Stop.ensures.taken c.in-Stop.ensures.results c.in-Stop.ensures.pass
