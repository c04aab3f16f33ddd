use Rattle.sc_begun.proofs.FirstTurns.{began-first}
use Rattle.sc_begun.proofs.laws.sessions_begin_without_tag.Goals as goal

pub returns : goal.returns
returns c = began-first
