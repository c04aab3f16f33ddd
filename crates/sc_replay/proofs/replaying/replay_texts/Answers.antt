use Rattle.std.proofs.Common.{refl, sym, ◌∙◌}
use Rattle.std.proofs.lemmas.List.{length-map}
use Rattle.sc_edge.specs.Faults.{Rose_after}
use Rattle.sc_replay.proofs.Endings.{is_setup, ends_ran, ends_unset}
use Rattle.sc_replay.proofs.replaying.replay_texts.Goals as goal

pub replay_over-requires : goal.replay_over-requires
replay_over-requires g c = is_setup _ _ _ _ _ _ (c.args.apps.now.paired ∙ sym (length-map _ _)) (rw c.names.ensures at c.in-Ok.ensures.config) c.in-Ok.ensures.table

pub returns-in-Ok-clause-ends : goal.returns-in-Ok-clause-ends
returns-in-Ok-clause-ends g c =
    ends_ran _ _ _ _ _ _ _ _ _ c.replay_over.result (rw c.names.ensures at c.in-Ok.ensures.config) c.in-Ok.ensures.table (c.read_settings.ensures.same _) (Rose_after _ _ _ c.read_settings.ensures.later) c.replay_over.ensures.ran

pub returns-in-Err-clause-ends : goal.returns-in-Err-clause-ends
returns-in-Err-clause-ends g c = ends_unset _ _ _ _ _ _ _ _ c.in-Err.status _ c.ended.ensures.status c.ended.ensures.journal refl (rw c.names.ensures at c.in-Err.ensures.unset)
