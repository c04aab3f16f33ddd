use Rattle.std.specs.Prelude.{string_bytes}
use Rattle.sc_serve.proofs.Endings.{err_asked, ok_asked, words_wrong}
use Rattle.sc_serve.proofs.beginning.begin.Goals as goal

pub returns-in-Some-clause-asked : goal.returns-in-Some-clause-asked
returns-in-Some-clause-asked g c = ok_asked c.begin_named.result _ (string_bytes c.in-Some.config.now) (string_bytes c.in-Some.dar.now) _ _ _ c.in-Some.ensures c.begin_named.ensures.set

pub returns-in-Some-clause-unserved : goal.returns-in-Some-clause-unserved
returns-in-Some-clause-unserved g c = err_asked c.begin_named.result _ (string_bytes c.in-Some.config.now) (string_bytes c.in-Some.dar.now) _ _ _ _ c.in-Some.ensures c.begin_named.ensures.unserved

pub returns-in-None-clause-unserved : goal.returns-in-None-clause-unserved
returns-in-None-clause-unserved g c edge told clock = words_wrong _ _ _ _ _ edge told clock c.without_journal.result c.in-None.ensures c.without_journal.ensures.status c.without_journal.ensures.journal
