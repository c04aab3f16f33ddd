-- Proxied requests that have nothing to do at the end of a turn (RFC 3261 section 16): among many
-- that are open most have nothing, and such a one leaves the turn as it is.
use Rattle.std.specs.Prelude.{◌==◌, List, Bool, true, not, ◌&&◌, is_none, nat_lt, if◌then◌else◌, length, filter}
use Rattle.std.specs.List.{fold, list_all}
use Rattle.sc_state.specs.declared.proxy.Branch.{Branch}
use Rattle.sc_state.specs.declared.proxy.Proxy.{Proxy}
use Rattle.sc_hosts.specs.Branches.{can_choose}
use Rattle.sc_acting.specs.declared.quiet.Climb.{Climb}

-- the branch isn't to be cancelled
unfoldable pub is_at_rest : Branch → Bool
is_at_rest branch = not branch.cancelled

-- no target waits, nothing is to be forwarded, and no branch ended in this turn or is to be
-- cancelled
unfoldable pub is_quiet : Proxy → Bool
is_quiet proxy =
    length proxy.targets == 0 && is_none proxy.passing && not proxy.heard_final
    && not (can_choose proxy) && list_all is_at_rest proxy.branches

-- it has something to do
abbrev pub is_busy : Proxy → Bool
is_busy proxy = not (is_quiet proxy)

-- one number more: whether all rise still, and the last of them
unfoldable pub climbs : Climb → Proxy → Climb
climbs climb proxy =
    record { rising = climb.rising && nat_lt climb.last proxy.req.0; last = proxy.req.0 }

-- the numbers of the proxied requests rise
unfoldable pub are_rising : List Proxy → Bool
are_rising proxies =
    let climb : Climb = fold climbs (record { rising = true; last = 0 }) proxies in climb.rising

-- those that have something to do; where their numbers don't rise, all of them
unfoldable pub acting : List Proxy → List Proxy
acting proxies = if are_rising proxies then filter is_busy proxies else proxies
