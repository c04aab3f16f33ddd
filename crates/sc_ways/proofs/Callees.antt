-- The session that answered the INVITE of a way had its server transaction, so its serial was given by its host.
use Rattle.std.proofs.Common.{◌≡◌, ◌≤◌, ◌<◌, ◌^◌, ℕ, Bool, true, false, Option, None, Some, List, [], ◌∷◌, refl, subst, arith}
use Rattle.std.specs.Prelude.{◌==◌, ◌&&◌, cond, length, not, slice_get}
use Rattle.std.specs.List.{cons_option, filter_map, find}
use Rattle.std.specs.Option.{option_map_or}
use Rattle.sc_value.specs.declared.ids.AppId.{AppId}
use Rattle.sc_value.specs.declared.message.Head.{Head}
use Rattle.sc_parts.specs.declared.setup.Setup.{Setup}
use Rattle.sc_state.specs.Hosts.{Host}
use Rattle.sc_state.specs.declared.host.Server.{Server}
use Rattle.sc_state.specs.declared.session.Session.{Session}
use Rattle.sc_model.specs.Names.{IsOf64}
use Rattle.sc_hosts.specs.Histories.{as_session}
use Rattle.sc_hosts.specs.Nets.{host_at}
use Rattle.sc_lasting.specs.Lasting.{All}
use Rattle.sc_lasting.proofs.Began.{test-found}
use Rattle.sc_lasting.proofs.Shared.{found-behind}
use Rattle.sc_paths.specs.Moments.{Moment, began_with, first_server, is_first_of}
use Rattle.sc_paths.specs.Pieces.{Piece, server_of_piece as received}
use Rattle.sc_keyed.proofs.Apart.{found-in}
use Rattle.sc_keyed.proofs.ClientKeys.{app-is}
use Rattle.sc_keyed.proofs.KeyedNets.{AllKeyed}
use Rattle.sc_keyed.proofs.KeyedTurns.{NoTurn}
use Rattle.sc_ways.proofs.Got.{small-place}
use Rattle.sc_ways.proofs.OneHop.{IsFine}

below : (a b : ℕ) → a ≤ b → b < 2 ^ 64 → a < 2 ^ 64
below a b p q = omega (arith, p, q)

under : (a b : ℕ) → a < b → b ≤ 2 ^ 64 → a < 2 ^ 64
under a b p q = omega (arith, p, q)

zero-small : 0 < 2 ^ 64
zero-small = omega arith

first-both : (a b : Bool) → (a && b) ≡ true → a ≡ true
first-both true b is = refl
first-both false b is = is

-- ## Its server transaction

server-small : (setup : Setup) (epoch : ℕ) (moment : Moment) (app : AppId) (server : Server) → epoch < 2 ^ 64 → IsFine setup epoch moment → AllKeyed as_session NoTurn 0 0 moment.after
    → first_server app moment.after ≡ Some server → IsOf64 epoch app 0
unfolding first_server
server-small setup epoch moment app server small fine keyed is =
    let found = found-behind (λ (host : Host Session). find (is_first_of app) host.servers) (host_at app.host moment.after) server is in
    let host : Host Session = found.0 in
    let same : server.app ≡ app = app-is server.app app (first-both _ _ (test-found (is_first_of app) host.servers server found.2)) in
    let serial : server.app.serial ≤ host.last = (keyed app.host host found.1).servers.given server (found-in (is_first_of app) host.servers server found.2) in (
      small,
      under app.host _ (small-place moment.after.hosts app.host host found.1) fine.few,
      below app.serial host.last (subst (λ (a : AppId). a.serial ≤ host.last) same serial) (fine.lasts_after app.host host found.1),
      zero-small,
    )

-- it was there in some moment of the run
pub first-by : {B : Type 0} (found : Option B) (rest : List B) (b : B) → slice_get (cons_option found rest) 0 ≡ Some b → (P : Type 0) → (found ≡ Some b → P) → (slice_get rest 0 ≡ Some b → P) → P
first-by None rest b is P one more = more is
first-by (Some x) rest b is P one more = one is

began-small : (setup : Setup) (epoch : ℕ) (run : List Moment) (app : AppId) (server : Server) → epoch < 2 ^ 64 → All (IsFine setup epoch) run → All (λ (moment : Moment). AllKeyed as_session NoTurn 0 0 moment.after) run
    → slice_get (filter_map (λ (moment : Moment). first_server app moment.after) run) 0 ≡ Some server → IsOf64 epoch app 0
unfolding All
began-small setup epoch [] app server small fine keyed is = cc
began-small setup epoch (moment ∷ run) app server small fine keyed is =
    first-by (first_server app moment.after) (filter_map (λ (moment : Moment). first_server app moment.after) run) server is (IsOf64 epoch app 0)
    (λ found. server-small setup epoch moment app server small fine.0 keyed.0 found) (λ later. began-small setup epoch run app server small fine.1 keyed.1 later)

-- ## It answered

received-some : (found : Option Server) (answers : Server → List Head) → not (length (option_map_or answers found []) == 0) ≡ true → (server : Server) × (found ≡ Some server)
received-some None answers some = cc
received-some (Some server) answers some = (server, refl)

not-none : (b : Bool) (found : Option Server) (server : Server) → cond b None found ≡ Some server → found ≡ Some server
not-none true found server is = cc
not-none false found server is = is

pub callee-small : (setup : Setup) (epoch : ℕ) (run : List Moment) (piece : Piece) (app : AppId) (answers : Server → List Head) → epoch < 2 ^ 64 → All (IsFine setup epoch) run
    → All (λ (moment : Moment). AllKeyed as_session NoTurn 0 0 moment.after) run → not (length (option_map_or answers (received run piece app) []) == 0) ≡ true → IsOf64 epoch app 0
unfolding received began_with
callee-small setup epoch run piece app answers small fine keyed some =
    let had = received-some (received run piece app) answers some in
    began-small setup epoch run app had.0 small fine keyed (not-none _ (began_with run app) had.0 had.1)
