-- Proxied requests with which a walk finds nothing to do (RFC 3261 section 16).
use Rattle.std.specs.Prelude.{List, Bool, not, ◌&&◌, ◌==◌, is_none, length}
use Rattle.std.specs.List.{list_all}
use Rattle.sc_state.specs.declared.proxy.Branch.{Branch}
use Rattle.sc_state.specs.declared.proxy.Proxy.{Proxy}

-- no timer of the branch runs, and it isn't to be cancelled
abbrev pub has_no_timer : Branch → Bool
has_no_timer branch = is_none branch.due && not branch.cancelled

-- no target waits, no response is to be chosen or forwarded, and no branch has anything to do
unfoldable pub is_resting : Proxy → Bool
is_resting proxy =
    (length proxy.targets == 0) && (length proxy.candidates == 0) && is_none proxy.passing
    && not proxy.heard_final && list_all has_no_timer proxy.branches
