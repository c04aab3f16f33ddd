use Rattle.sc_replay.proofs.Checks.{settings_put, settings_refused}
use Rattle.sc_replay.proofs.checking.check_named.Goals as goal

pub returns-in-Ok-clause-checks : goal.returns-in-Ok-clause-checks
returns-in-Ok-clause-checks g c =
    settings_put _ _ _ _ _ _ _ c.accepted.result.status c.put_settings.result c.accepted.result.journal _ _ c.accepted.ensures.journal c.accepted.ensures.status (rw c.names.ensures at c.in-Ok.ensures.config) c.in-Ok.ensures.table
    c.put_settings.ensures

pub returns-in-Err-clause-checks : goal.returns-in-Err-clause-checks
returns-in-Err-clause-checks g c =
    settings_refused _ _ _ _ _ _ c.ended.result.status c.in-Err.status c.ended.result.journal c.ended.ensures.journal c.ended.ensures.status (rw c.names.ensures at c.in-Err.ensures.unset)
