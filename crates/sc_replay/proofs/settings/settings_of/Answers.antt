use Rattle.std.proofs.Common.{Some, refl}
use Rattle.sc_replay.proofs.Settled.{config_kept, table_kept, table_unset, unset_config}
use Rattle.sc_replay.proofs.settings.settings_of.Goals as goal

pub returns-in-Ok-clause-config : goal.returns-in-Ok-clause-config
returns-in-Ok-clause-config c = config_kept _ _ _ c.with_table_of.result (c.in-Ok.ensures.found (Some c.args.config.now) refl) c.with_table_of.ensures.config

pub returns-in-Ok-clause-table : goal.returns-in-Ok-clause-table
returns-in-Ok-clause-table c = table_kept _ _ c.in-Ok.config c.with_table_of.result refl c.with_table_of.ensures.config c.with_table_of.ensures.table

pub returns-in-Ok-clause-unset : goal.returns-in-Ok-clause-unset
returns-in-Ok-clause-unset c = table_unset _ _ _ _ ⊥ _ c.in-Ok.config c.with_table_of.result (c.in-Ok.ensures.found (Some c.args.config.now) refl) refl (λ never. never) c.with_table_of.ensures.unread

pub returns-in-Err-clause-unset : goal.returns-in-Err-clause-unset
returns-in-Err-clause-unset c = unset_config _ _ _ _ c.in-Err.status (c.in-Err.ensures.unread (Some c.args.config.now) refl)
