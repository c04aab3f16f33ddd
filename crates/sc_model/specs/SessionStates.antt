-- The state of a SipSession on the called side (JSR 289 section 6.2.1). That an answer to another
-- initial request than INVITE ends the session is this project's profile.
use Rattle.std.specs.Prelude.{ℕ, Bool, nat_lt, codes}
use Rattle.sc_terms.specs.declared.views.State.{State}
use Rattle.sc_terms.specs.declared.views.State.TheVariants.{Initial, Early, Confirmed, Terminated}
use Rattle.sc_tokens.specs.Bytes.{Bytes}

-- the method that sets up a session (RFC 3261 section 13)
unfoldable pub invite : Bytes
invite = codes "INVITE"

-- the method that ends a session (RFC 3261 section 15)
unfoldable pub bye : Bytes
bye = codes "BYE"

-- the method that acknowledges the final response to an INVITE (RFC 3261 sections 13 and 17)
unfoldable pub ack : Bytes
ack = codes "ACK"

-- the code is final (RFC 3261 section 7.2)
abbrev pub is_final : ℕ → Bool
is_final code = nat_lt 199 code

-- a final answer to a BYE
unfoldable pub ended_state : State → State
ended_state Initial = Initial
ended_state Early = Terminated
ended_state Confirmed = Terminated
ended_state Terminated = Terminated
