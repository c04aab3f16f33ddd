-- What a proxied request does, in parts by the values that they take (RFC 3261 section 16).
use Rattle.std.specs.Prelude.{ℕ, ◌+◌, [], ◌∷◌, ◌++◌, Some, drop}
use Rattle.sc_value.specs.declared.ids.Directive.TheVariants.{Continue}
use Rattle.sc_value.specs.declared.message.Request.{Request}
use Rattle.sc_value.specs.declared.parts.Uri.{Uri}
use Rattle.sc_terms.specs.declared.settings.Config.{Config}
use Rattle.sc_terms.specs.declared.views.View.{View}
use Rattle.sc_state.specs.declared.orders.Order.{Order}
use Rattle.sc_state.specs.declared.orders.Order.TheVariants as orders
use Rattle.sc_state.specs.declared.proxy.Branch.{Branch}
use Rattle.sc_state.specs.declared.proxy.Proxy.{Proxy}
use Rattle.sc_state.specs.declared.working.Working.{Working}
use Rattle.sc_hosts.specs.Branches.{records_route}
use Rattle.sc_hosts.specs.Working.{next_branch}
use Rattle.sc_hosts.specs.Messages.{on_branch, proxied_request}

-- a target has become a branch
unfoldable pub with_new_branch : Branch → Proxy → Proxy
with_new_branch branch proxy =
    record proxy { branches = proxy.branches ++ branch ∷ []; targets = drop 1 proxy.targets }

-- the request as it goes to this target
unfoldable pub sent_to : Config → View → Proxy → Uri → ℕ → Request
sent_to config view proxy uri branch =
    on_branch config view branch
    (proxied_request config view (records_route proxy) uri proxy.request)

-- the branch is to get a CANCEL
unfoldable pub cancel_order : ℕ → Order
cancel_order branch = orders.Cancel branch

-- the request goes where the router says, behind the place of the application
unfoldable pub begin_order : Config → Proxy → Working → Uri → Order
begin_order config proxy working uri =
    orders.Begin (next_branch working) Continue working.known.region
    (Some (working.known.order + 1))
    (sent_to config working.play.view proxy uri (next_branch working))
