use Rattle.std.proofs.Common.{sym, ◌∙◌}
use Rattle.std.proofs.lemmas.List.{length-map}
use Rattle.sc_replay.proofs.Endings.{is_setup}
use Rattle.sc_play.proofs.PlayLaws.{not_done, plays_back, recorded_as}
use Rattle.sc_play.proofs.playing.play_texts.Goals as goal

pub play_over-requires : goal.play_over-requires
play_over-requires g c = is_setup _ _ _ _ _ _ (c.args.apps.now.paired ∙ sym (length-map _ _)) (rw c.names.ensures at c.in-Ok.ensures.config) c.in-Ok.ensures.table

pub returns-in-Ok : goal.returns-in-Ok
returns-in-Ok g c = record {
  done = λ done.
      plays_back _ _ _ _ _ _ _ _ _ (rw c.names.ensures at c.in-Ok.ensures.config) c.in-Ok.ensures.table
      (recorded_as _ _ _ _ _ (c.read_settings.ensures.same _) (c.play_over.ensures.done done));
}

pub returns-in-Err : goal.returns-in-Err
returns-in-Err g c = record { done = λ done. absurd (not_done _ _ _ _ _ c.in-Err.ensures.unset done) }
