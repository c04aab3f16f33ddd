use Rattle.sc_servlets.specs.declared.done.Done.{Done}
use Rattle.sc_board.specs.Boards.{HasWorked}
use Rattle.sc_board.proofs.working.work_by.Given as goal

abbrev pub invariant-loop : goal.invariant-loop
invariant-loop g l = HasWorked l.board (λ (done : Done). goal.F-post g l.make done.lease done) 0 l.fn.pass l.pass
