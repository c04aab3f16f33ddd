use Rattle.sc_keyed.proofs.KeyedRuns.{history-keys, session-keys}
use Rattle.sc_keyed.proofs.laws.keys_are_own.Goals as goal

pub returns-clause-session : goal.returns-clause-session
returns-clause-session c = session-keys

pub returns-clause-history : goal.returns-clause-history
returns-clause-history c = history-keys
