use Rattle.sc_board.proofs.jobs.new.Given as goal

-- the bound is the number of kinds that was asked for
abbrev pub ghosts-bound : goal.ghosts-bound
ghosts-bound a = record { number = a.kinds }
