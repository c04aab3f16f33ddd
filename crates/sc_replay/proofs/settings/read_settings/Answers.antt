use Rattle.sc_edge.specs.Faults.{Rose_after}
use Rattle.sc_replay.proofs.Settled.{config_kept, table_kept, table_unset, unset_config}
use Rattle.sc_replay.proofs.settings.read_settings.Goals as goal

pub returns-in-Ok-clause-config : goal.returns-in-Ok-clause-config
returns-in-Ok-clause-config g c = config_kept _ _ _ c.with_table.result c.in-Ok.ensures.found c.with_table.ensures.config

pub returns-in-Ok-clause-table : goal.returns-in-Ok-clause-table
returns-in-Ok-clause-table g c = table_kept _ _ c.in-Ok.config c.with_table.result (c.read_config.ensures.same _) c.with_table.ensures.config c.with_table.ensures.table

pub returns-in-Ok-clause-unset : goal.returns-in-Ok-clause-unset
returns-in-Ok-clause-unset g c =
    table_unset _ _ _ _ _ _ c.in-Ok.config c.with_table.result c.in-Ok.ensures.found (c.read_config.ensures.same _) (Rose_after _ _ _ c.read_config.ensures.later) c.with_table.ensures.unread

pub returns-in-Err-clause-unset : goal.returns-in-Err-clause-unset
returns-in-Err-clause-unset g c = unset_config _ _ _ _ c.in-Err.status c.in-Err.ensures.unread
