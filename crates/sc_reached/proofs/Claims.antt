-- Where no host's transaction takes a request, the one to which it comes doesn't either.
use Rattle.std.proofs.Common.{◌≡◌, ℕ, ◌+◌, Bool, true, false, Option, None, Some, List, [], ◌∷◌, refl, zero, suc}
use Rattle.std.specs.Prelude.{cond, is_some, slice_get}
use Rattle.sc_value.specs.declared.message.Request.{Request}
use Rattle.sc_state.specs.Hosts.{Host}
use Rattle.sc_state.specs.declared.host.Peer.{Peer}
use Rattle.sc_state.specs.declared.host.Server.{Server}
use Rattle.sc_state.specs.declared.net.Net.{Net}
use Rattle.sc_hosts.specs.Arrivals.{first_host}
use Rattle.sc_hosts.specs.Nets.{host_at}
use Rattle.sc_hosts.specs.Taking.{server_for}

if-none : (b : Bool) (n : ℕ) (x : Option ℕ) → cond b (Some n) x ≡ None → (b ≡ false) × (x ≡ None)
if-none true n x is = cc
if-none false n x is = (refl, is)

first-none : {S : Type 0} (hosts : List (Host S)) (test : Host S → Bool) (number place : ℕ) (host : Host S)
    → first_host test number hosts ≡ None → slice_get hosts place ≡ Some host → test host ≡ false
unfolding first_host
first-none [] test number place host none at = cc
first-none (h ∷ hosts) test number zero host none at = let same : h ≡ host = cc in rw (← same) (if-none (test h) number (first_host test (number + 1) hosts) none).0
first-none (h ∷ hosts) test number (suc place) host none at = first-none hosts test (number + 1) place host (if-none (test h) number (first_host test (number + 1) hosts) none).1 at

pub not-claimed : (found : Option Server) → is_some found ≡ false → found ≡ None
not-claimed None is = refl
not-claimed (Some server) is = cc

pub host-unclaimed : {S : Type 0} (net : Net S) (from : Peer) (request : Request) (number : ℕ) (host : Host S)
    → first_host (λ host. is_some (server_for from request host)) 0 net.hosts ≡ None → host_at number net ≡ Some host
    → server_for from request host ≡ None
host-unclaimed net from request number host none at = not-claimed (server_for from request host) (first-none net.hosts (λ host. is_some (server_for from request host)) 0 number host none at)
