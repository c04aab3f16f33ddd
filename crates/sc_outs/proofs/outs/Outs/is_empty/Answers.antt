use Rattle.sc_outs.proofs.EntryLaws.{empty_where}
use Rattle.sc_outs.proofs.Owings.{left_seen}
use Rattle.sc_outs.proofs.outs.Outs.is_empty.Goals as goal

pub returns-clause-none : goal.returns-clause-none
returns-clause-none c empty place = left_seen _ _ _ place _ c.self.view_is (empty_where _ place _ c.is_empty.ensures empty)
