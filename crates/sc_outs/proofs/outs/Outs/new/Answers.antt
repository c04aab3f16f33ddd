use Rattle.sc_outs.proofs.EntryLaws.{distinct_none}
use Rattle.sc_outs.proofs.outs.Outs.new.Goals as goal

pub invariant_of-result : goal.invariant_of-result
invariant_of-result c = distinct_none _ c.new.ensures
