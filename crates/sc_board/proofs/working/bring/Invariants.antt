use Rattle.std.specs.Prelude.{◌≡◌}
use Rattle.sc_board.specs.Boards.{IsOf, jobs_of, results_of}
use Rattle.sc_board.proofs.working.bring.Given as goal

abbrev pub invariant-loop : goal.invariant-loop
invariant-loop g l = record { is_of : IsOf l.board l.pass; done_is : l.done ≡ l.fn.done; jobs_are : jobs_of l.pass ≡ jobs_of l.fn.pass; results_are : results_of l.pass ≡ results_of l.fn.pass }
