use Rattle.sc_replay.proofs.Tryings.{words_tried, words_wrong}
use Rattle.sc_replay.proofs.trying.trial.Goals as goal

pub returns-in-Some-clause-trials : goal.returns-in-Some-clause-trials
returns-in-Some-clause-trials g c = words_tried _ c.in-Some.count _ _ _ _ _ _ _ c.in-Some.ensures.exact c.trial_calls.ensures.trials

pub returns-in-None-clause-trials : goal.returns-in-None-clause-trials
returns-in-None-clause-trials g c = words_wrong _ _ _ _ _ _ _ c.in-None.ensures.exact c.ended.ensures.status c.ended.ensures.journal
