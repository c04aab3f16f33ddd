-- When the search of a proxied request is over, and what it has then to forward (RFC 3261 sections
-- 16.5 and 16.7).
use Rattle.std.specs.Prelude.{ℕ, ◌==◌, Bool, false, not, ◌||◌, is_some, length}
use Rattle.std.specs.Option.{option_map_or}
use Rattle.sc_state.specs.declared.proxy.Passing.{Passing}
use Rattle.sc_state.specs.declared.proxy.Proxy.{Proxy}
use Rattle.sc_model.specs.Transactions.{is_success}
use Rattle.sc_hosts.specs.Branches.{branch_in, is_open}

-- the branch of this number is there, and has no final response
abbrev pub is_open_in : ℕ → Proxy → Bool
is_open_in number proxy = option_map_or is_open (branch_in proxy number) false

-- a final response was forwarded, or is there to be: one of the candidates, or a 2xx that waits
unfoldable pub has_answer : Proxy → Bool
has_answer proxy =
    is_some proxy.forwarded || not (length proxy.candidates == 0)
    || option_map_or (λ (passing : Passing). is_success passing.response.code) proxy.passing false
