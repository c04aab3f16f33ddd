-- The pass with which the rounds sit at a board. This project's own.
use Rattle.std.specs.Prelude.{◌≡◌, ℕ, true}
use Rattle.sc_board.specs.declared.board.Board.{Board}
use Rattle.sc_board.specs.declared.pass.BoardPass.{BoardPass}
use Rattle.sc_board.specs.Boards.{IsOf, jobs_of}

-- it is the first pass of the board, for leases of so many kinds, and posted this number last
pub record IsSeated (board : Board) (pass : BoardPass) (kinds newest : ℕ) : Type 0 where
  pub is_of : IsOf board pass
  pub first : (jobs_of pass).first ≡ true
  pub kinds_are : (jobs_of pass).kinds ≡ kinds
  pub last_is : (jobs_of pass).last ≡ newest
