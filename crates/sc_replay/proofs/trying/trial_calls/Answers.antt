use Rattle.std.proofs.Common.{sym, ◌∙◌}
use Rattle.std.proofs.lemmas.List.{length-map}
use Rattle.sc_replay.proofs.Endings.{is_setup}
use Rattle.sc_replay.proofs.Tryings.{trials_ran, trials_unset}
use Rattle.sc_replay.proofs.trying.trial_calls.Goals as goal

pub trial_over-requires-clause-right : goal.trial_over-requires-clause-right
trial_over-requires-clause-right g c = is_setup _ _ _ _ _ _ (c.args.apps.now.paired ∙ sym (length-map _ _)) (rw c.names.ensures at c.in-Ok.ensures.config) c.in-Ok.ensures.table

pub returns-in-Ok-clause-trials : goal.returns-in-Ok-clause-trials
returns-in-Ok-clause-trials g c = trials_ran _ _ _ _ _ _ c.trial_over.result (rw c.names.ensures at c.in-Ok.ensures.config) c.in-Ok.ensures.table c.trial_over.ensures.tried

pub returns-in-Err-clause-trials : goal.returns-in-Err-clause-trials
returns-in-Err-clause-trials g c = trials_unset _ _ _ _ _ _ c.in-Err.status _ c.ended.ensures.status c.ended.ensures.journal (rw c.names.ensures at c.in-Err.ensures.unset)
