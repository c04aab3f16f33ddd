-- By what a host knows its transactions: each has a key of its own (RFC 3261 sections 17.1.3 and
-- 17.2.3).
use Rattle.std.specs.Prelude.{◌≡◌, ◌≤◌, ◌<◌, ◌⊎◌, ℕ, List, [], ◌∷◌, Bool, false, Some}
use Rattle.std.specs.List.{flat_map, list_any}
use Rattle.sc_value.specs.declared.ids.AppId.{AppId}
use Rattle.sc_value.specs.declared.message.Request.{Request}
use Rattle.sc_terms.specs.declared.settings.Config.{Config}
use Rattle.sc_state.specs.Hosts.{Host}
use Rattle.sc_state.specs.Keeping.{is_same_client}
use Rattle.sc_state.specs.Standing.{is_server}
use Rattle.sc_state.specs.declared.host.Client.{Client}
use Rattle.sc_state.specs.declared.host.Server.{Server}
use Rattle.sc_state.specs.declared.net.Net.{Net}
use Rattle.sc_state.specs.declared.orders.Order.{Order}
use Rattle.sc_state.specs.declared.orders.Order.TheVariants as orders
use Rattle.sc_hosts.specs.Messages.{own_via}
use Rattle.sc_hosts.specs.Nets.{host_at}
use Rattle.sc_hosts.specs.Transacting.{top_via}

-- one is in a list
unfoldable pub IsIn : {A : Type 0} → A → List A → Type 0
IsIn x [] = ⊥
IsIn x (y ∷ ys) = (x ≡ y) ⊎ IsIn x ys

-- none of a list is the same, by this test, as one behind it
unfoldable pub AreApart : {A : Type 0} → (A → A → Bool) → List A → Type 0
AreApart same [] = Unit {0}
AreApart same (x ∷ xs) = (list_any (same x) xs ≡ false) × AreApart same xs

-- both are of one event
abbrev pub is_same_server : Server → Server → Bool
is_same_server server other = is_server server.event other

-- each transaction of the host of this number is of a session of that host; no two clients are of
-- one session, branch and kind, the request's own or its CANCEL's, and no two servers of one event
pub record HasOwnKeys {S : Type 0} (number : ℕ) (host : Host S) : Type 0 where
  pub clients_here : (client : Client) → IsIn client host.clients → client.app.host ≡ number
  pub servers_here : (server : Server) → IsIn server host.servers → server.app.host ≡ number
  pub clients_apart : AreApart is_same_client host.clients
  pub servers_apart : AreApart is_same_server host.servers

-- so it is of each host of a net
unfoldable pub HaveOwnKeys : {S : Type 0} → Net S → Type 0
HaveOwnKeys {S = S} net =
    (number : ℕ) (host : Host S) → host_at number net ≡ Some host → HasOwnKeys number host

-- the branch on which an order sends a request with a client transaction of its own
unfoldable pub new_branch : Order → List ℕ
new_branch (orders.Respond event response) = []
new_branch (orders.Begin branch directive region state request) = branch ∷ []
new_branch (orders.Send branch request) = branch ∷ []
new_branch (orders.Acknowledge request) = []
new_branch (orders.Cancel branch) = []
new_branch (orders.CancelNow branch) = []

-- the branches on which these orders send such requests
unfoldable pub new_branches : List Order → List ℕ
new_branches given = flat_map new_branch given

-- the request stands under the Via of this branch of a session (RFC 3261 sections 8.1.1.7 and 16.6)
unfoldable pub IsOn : Config → ℕ → AppId → ℕ → Request → Type 0
IsOn config epoch app branch request =
    top_via request.head.via ≡ Some (own_via config epoch app branch)

-- the requests that these orders of a session send, an ACK too, stand each under the Via of a
-- branch of it, and these branches rise from above one number up to another
unfoldable pub AreOn : Config → ℕ → AppId → ℕ → List Order → ℕ → Type 0
AreOn config epoch app low [] high = low ≤ high
AreOn config epoch app low (orders.Respond event response ∷ given) high =
    AreOn config epoch app low given high
AreOn config epoch app low (orders.Begin branch directive region state request ∷ given) high =
    (low < branch) × IsOn config epoch app branch request × AreOn config epoch app branch given high
AreOn config epoch app low (orders.Send branch request ∷ given) high =
    (low < branch) × IsOn config epoch app branch request × AreOn config epoch app branch given high
AreOn config epoch app low (orders.Acknowledge request ∷ given) high =
    (branch : ℕ) × (low < branch) × IsOn config epoch app branch request
    × AreOn config epoch app branch given high
AreOn config epoch app low (orders.Cancel branch ∷ given) high =
    AreOn config epoch app low given high
AreOn config epoch app low (orders.CancelNow branch ∷ given) high =
    AreOn config epoch app low given high
