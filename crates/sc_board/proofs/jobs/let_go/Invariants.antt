use Rattle.sc_board.proofs.jobs.let_go.Given as goal

abbrev pub ghosts-let_go_of : goal.ghosts-let_go_of
ghosts-let_go_of a = record { number = a.number }
