use Rattle.sc_replay.proofs.Settled.{config_unread}
use Rattle.sc_replay.proofs.settings.read_config.Goals as goal

pub returns-in-Got-clause-unread : goal.returns-in-Got-clause-unread
returns-in-Got-clause-unread g c = config_unread _ _ _ c.config_of.result (c.config_of.ensures.unread _ c.in-Got.ensures.gives.1)
