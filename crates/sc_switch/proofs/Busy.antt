-- The transactions of a host that live.
use Rattle.std.proofs.Common.{◌≡◌, ◌+◌, ℕ, Bool, true, false, cond, not, List, [], ◌∷◌, filter, length, refl, ap, ◌∙◌, arith}
use Rattle.std.specs.Prelude.{min, sum_by, if◌then◌else◌}
use Rattle.std.proofs.lemmas.List.Sums.{sum_by-cons}
use Rattle.sc_state.specs.declared.host.Client.{Client}
use Rattle.sc_state.specs.declared.host.Server.{Server}
use Rattle.sc_state.specs.declared.session.Session.{Session}
use Rattle.sc_state.specs.Hosts.{Host}
use Rattle.sc_state.specs.Standing.{busy_client, busy_server}
use Rattle.sc_hosts.specs.Transacting.{state_of_client, state_of_server, is_over}
use Rattle.sc_switch.specs.Counting.{is_busy_client, is_busy_server, busy_at}

-- counted one by one
one_more : {X : Type 0} (busy : X → Bool) (weight : X → ℕ) (x : X) (xs : List X) (b : Bool) → busy x ≡ b → weight x ≡ (if b then 1 else 0) → sum_by weight xs ≡ length (filter busy xs)
    → sum_by weight (x ∷ xs) ≡ length (filter busy (x ∷ xs))
one_more busy weight x xs true e w later = sum_by-cons weight x xs ∙ rw (e, w, later) (omega arith)
one_more busy weight x xs false e w later = sum_by-cons weight x xs ∙ rw (e, w, later) (omega arith)

counted : {X : Type 0} (busy : X → Bool) (weight : X → ℕ) → ((x : X) (b : Bool) → busy x ≡ b → weight x ≡ (if b then 1 else 0)) → (xs : List X) → sum_by weight xs ≡ length (filter busy xs)
counted busy weight weighs [] = refl
counted busy weight weighs (x ∷ xs) = one_more busy weight x xs (busy x) refl (weighs x (busy x) refl) (counted busy weight weighs xs)

of_over : (over b : Bool) → not over ≡ b → ◌≡◌ {A = ℕ} (if over then 0 else 1) (if b then 1 else 0)
of_over true b e = ap (λ t. cond {A = ℕ} t 1 0) e
of_over false b e = ap (λ t. cond {A = ℕ} t 1 0) e

clients_counted : (clients : List Client) → sum_by busy_client clients ≡ length (filter is_busy_client clients)
unfolding is_busy_client
clients_counted clients = counted is_busy_client busy_client (λ client b e. of_over (is_over (state_of_client client)) b e) clients

servers_counted : (servers : List Server) → sum_by busy_server servers ≡ length (filter is_busy_server servers)
unfolding is_busy_server
servers_counted servers = counted is_busy_server busy_server (λ server b e. of_over (is_over (state_of_server server)) b e) servers

pub busy_here : (host : Host Session) (most : ℕ) → min (sum_by busy_client host.clients + sum_by busy_server host.servers) most ≡ min (busy_at host) most
unfolding busy_at
busy_here host most = ap (λ n. min n most) (rw (clients_counted host.clients, servers_counted host.servers) refl)
