use Rattle.sc_board.proofs.working.turn.Goals as goal

pub returns-clause-results : goal.returns-clause-results
returns-clause-results g c = (c.make-done.result, c.requires.same _ c.make-done.ensures, c.make-done.ensures, c.bring.ensures.results)
