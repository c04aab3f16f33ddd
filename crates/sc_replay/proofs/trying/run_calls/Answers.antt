use Rattle.sc_replay.proofs.Tryings.{left_none}
use Rattle.sc_replay.proofs.trying.run_calls.Goals as goal

pub try_lines-requires-clause-lines : goal.try_lines-requires-clause-lines
try_lines-requires-clause-lines g c = rw c.as_slice.ensures c.in-Ok.ensures

pub returns-in-Err-clause-leaves : goal.returns-in-Err-clause-leaves
returns-in-Err-clause-leaves g c = left_none _ _ _ _ _ c.requires.most c.requires.new.journal_is
