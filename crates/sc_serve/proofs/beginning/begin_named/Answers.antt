use Rattle.std.proofs.Common.{refl, sym, ◌∙◌}
use Rattle.std.proofs.lemmas.List.{length-map}
use Rattle.sc_replay.proofs.Endings.{is_setup}
use Rattle.sc_serve.proofs.Endings.{err_set, ok_right, ok_set, serves_unset}
use Rattle.sc_serve.proofs.beginning.begin_named.Goals as goal

pub begin_over-requires : goal.begin_over-requires
begin_over-requires g c = is_setup _ _ _ _ _ _ (c.args.apps.now.paired ∙ sym (length-map _ _)) (rw c.names.ensures at c.in-Ok.ensures.config) c.in-Ok.ensures.table

pub returns-in-Ok-clause-right : goal.returns-in-Ok-clause-right
returns-in-Ok-clause-right g c = ok_right c.begin_over.result _ (is_setup _ _ _ _ _ _ (c.args.apps.now.paired ∙ sym (length-map _ _)) (rw c.names.ensures at c.in-Ok.ensures.config) c.in-Ok.ensures.table) c.begin_over.ensures.setup

pub returns-in-Ok-clause-set : goal.returns-in-Ok-clause-set
returns-in-Ok-clause-set g c = ok_set c.begin_over.result _ _ _ _ _ refl (rw c.names.ensures at c.in-Ok.ensures.config) c.in-Ok.ensures.table c.begin_over.ensures.setup

pub returns-in-Ok-clause-unserved : goal.returns-in-Ok-clause-unserved
returns-in-Ok-clause-unserved g c = err_set c.begin_over.result _ _ _ _ _ _ refl (rw c.names.ensures at c.in-Ok.ensures.config) c.in-Ok.ensures.table c.begin_over.ensures.unserved

pub returns-in-Err-clause-unserved : goal.returns-in-Err-clause-unserved
returns-in-Err-clause-unserved g c edge told clock = serves_unset _ _ _ _ _ edge told clock c.without_journal.result c.in-Err.status c.without_journal.ensures.status c.without_journal.ensures.journal (rw c.names.ensures at c.in-Err.ensures.unset)
