-- The greatest numbers that came from a peer, one by one (RFC 3261 section 12.2.2).
use Rattle.std.specs.Prelude.{ℕ, Bool, Option, max}
use Rattle.sc_state.specs.declared.session.Got.{Got}
use Rattle.sc_tokens.specs.Bytes.{Bytes}
use Rattle.sc_hosts.specs.Legs.{same_tag}

-- the number came from this tag
unfoldable pub is_from : Option Bytes → Got → Bool
is_from tag got = same_tag got.tag tag

-- with this number, where it is greater
unfoldable pub with_number_at_least : ℕ → Got → Got
with_number_at_least number got = record got { number = max got.number number }
