-- The states of a transaction (RFC 3261 section 17, RFC 6026).
use Rattle.std.specs.Prelude.{Bool, true, false}
use Rattle.sc_parts.specs.declared.transactions.TxnState.{TxnState}
use Rattle.sc_parts.specs.declared.transactions.TxnState.TheVariants as states

-- Terminated: nothing is to be done any more
unfoldable pub is_over : TxnState → Bool
is_over states.Calling = false
is_over states.Trying = false
is_over states.Proceeding = false
is_over states.Completed = false
is_over states.Accepted = false
is_over states.Terminated = true

-- Proceeding: a provisional response has passed, and no final one
unfoldable pub is_proceeding : TxnState → Bool
is_proceeding states.Proceeding = true
is_proceeding state = false

-- Completed: an INVITE was answered otherwise than 2xx, and waits for its ACK
unfoldable pub is_completed : TxnState → Bool
is_completed states.Completed = true
is_completed state = false
