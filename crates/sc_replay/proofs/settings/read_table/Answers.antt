use Rattle.sc_replay.proofs.Settled.{table_unread}
use Rattle.sc_replay.proofs.settings.read_table.Goals as goal

pub returns-in-Got-clause-unread : goal.returns-in-Got-clause-unread
returns-in-Got-clause-unread g c = table_unread _ _ _ c.table_of.result (c.table_of.ensures.unread _ c.in-Got.ensures.gives.1)
