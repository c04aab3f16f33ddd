use Rattle.sc_lasting.proofs.LinkChanges.{links-last}
use Rattle.sc_lasting.proofs.LinksMade.{links-made}
use Rattle.sc_lasting.proofs.laws.links_are_of_calls.Goals as goal

pub returns-clause-made : goal.returns-clause-made
returns-clause-made c = links-made

pub returns-clause-kept : goal.returns-clause-kept
returns-clause-kept c = links-last
