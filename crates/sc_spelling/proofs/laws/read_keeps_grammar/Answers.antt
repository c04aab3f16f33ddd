use Rattle.sc_spelling.proofs.KeptLaws.{read_keeps, read_branched, read_again}
use Rattle.sc_spelling.proofs.laws.read_keeps_grammar.Goals as goal

pub returns-clause-grammar : goal.returns-clause-grammar
returns-clause-grammar c = read_keeps

pub returns-clause-branch : goal.returns-clause-branch
returns-clause-branch c = read_branched

pub returns-clause-again : goal.returns-clause-again
returns-clause-again c = read_again
