use Rattle.sc_outs.proofs.EntryLaws.{pushed_distinct, pushed_kept}
use Rattle.sc_outs.proofs.entries.owe_first.Goals as goal

pub returns-clause-distinct : goal.returns-clause-distinct
returns-clause-distinct c = pushed_distinct _ _ _ _ _ c.requires.distinct c.requires.none c.in_ok-push.ensures.ok c.new-held.ensures

pub returns-clause-ok : goal.returns-clause-ok
returns-clause-ok c = pushed_kept _ _ _ _ _ c.requires.none c.in_ok-push.ensures.ok c.new-held.ensures
