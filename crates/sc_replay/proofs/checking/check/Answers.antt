use Rattle.std.specs.Prelude.{string_bytes}
use Rattle.sc_replay.proofs.Checks.{words_checked, words_wrong}
use Rattle.sc_replay.proofs.checking.check.Goals as goal

pub returns-in-Some-clause-checks : goal.returns-in-Some-clause-checks
returns-in-Some-clause-checks g c =
    words_checked _ (string_bytes c.in-Some.config.now) (string_bytes c.in-Some.dar.now) _ _ _ _ _ _ c.check_named.result c.in-Some.ensures c.check_named.ensures.checks

pub returns-in-None-clause-checks : goal.returns-in-None-clause-checks
returns-in-None-clause-checks g c = words_wrong _ _ _ _ _ _ c.ended.result c.in-None.ensures c.ended.ensures.status c.ended.ensures.journal
