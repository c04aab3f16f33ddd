-- The answer to a request that waits as its application session ends (RFC 3261 section 12.2.2).
use Rattle.std.specs.Prelude.{ℕ}
use Rattle.sc_value.specs.declared.message.Request.{Request}
use Rattle.sc_state.specs.declared.orders.Order.{Order}
use Rattle.sc_state.specs.declared.orders.Order.TheVariants as orders
use Rattle.sc_tokens.specs.Bytes.{Bytes}
use Rattle.sc_hosts.specs.Messages.{own_response}
use Rattle.sc_hosts.specs.Words.{does_not_exist}

-- 481, as the session that it is for is gone
unfoldable pub gone_order : Bytes → ℕ → Request → Order
gone_order tag event request = orders.Respond event (own_response tag 481 does_not_exist request)
