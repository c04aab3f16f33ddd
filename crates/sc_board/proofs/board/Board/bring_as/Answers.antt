use Rattle.sc_board.proofs.HandSteps.{alike_brought, tied_brought}
use Rattle.sc_board.proofs.board.Board.bring_as.Goals as goal

pub invariant_of-pass : goal.invariant_of-pass
invariant_of-pass g c = record {
  alike = alike_brought _ _ _ _ c.args.done c.let_go.ensures.hand c.in-Ok.ensures.brought c.args.pass.now.alike;
  tied = tied_brought _ _ _ _ c.args.done c.let_go.ensures.hand c.in-Ok.ensures.brought c.requires.hand c.args.pass.now.tied;
}
