use Rattle.std.specs.Prelude.{◌≡◌, ◌≤◌, ◌+◌, vec_len, vec_capacity}
use Rattle.std.specs.List.{All}
use Rattle.sc_board.specs.Boards.{IsNewPass, IsOf, jobs_of, results_of}
use Rattle.sc_board.proofs.board.Board.passes.Given as goal

abbrev pub invariant-loop : goal.invariant-loop
invariant-loop l = record {
  is_of : IsOf l.self l.pass;
  jobs_are : jobs_of l.pass ≡ record (jobs_of l.fn.pass) { parts = (jobs_of l.pass).parts };
  results_are : results_of l.pass ≡ record (results_of l.fn.pass) { parts = (jobs_of l.pass).parts };
  parts_are : (jobs_of l.pass).parts + vec_len l.made ≡ (jobs_of l.fn.pass).parts;
  count_is : vec_len l.made ≡ l.counter;
  room : l.count ≤ vec_capacity l.made;
  made : All (IsNewPass l.self (jobs_of l.fn.pass).kinds) l.made.items;
}
