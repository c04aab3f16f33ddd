-- What is due in transactions as a tick goes through its items.
use Rattle.std.proofs.Common.{◌≡◌, ◌⊎◌, inl, inr, ℕ, Bool, true, false, Option, None, Some, List, [], ◌∷◌, refl, sym, ap, subst, ◌∙◌, arith}
use Rattle.std.specs.Prelude.{◌==◌, ◌&&◌, ◌||◌, cond, option_map, slice_get}
use Rattle.std.specs.List.{list_any, fold}
use Rattle.std.proofs.lemmas.Bool.Decides.{nat_tests}
use Rattle.sc_value.specs.Lists.{change_first, change_nth}
use Rattle.sc_value.proofs.ListFacts.{slice_get-change_nth}
use Rattle.sc_value.specs.declared.ids.AppId.{AppId}
use Rattle.sc_terms.specs.declared.settings.Config.{Config}
use Rattle.sc_parts.specs.declared.transactions.ClientItem.{ClientItem}
use Rattle.sc_parts.specs.declared.transactions.ClientItem.TheVariants as client_items
use Rattle.sc_parts.specs.declared.transactions.ServerItem.TheVariants as server_items
use Rattle.sc_state.specs.Hosts.{Host}
use Rattle.sc_state.specs.Keeping.{is_same_client}
use Rattle.sc_state.specs.Standing.{is_client, is_server, is_cancel_client, is_same_app}
use Rattle.sc_state.specs.declared.host.Client.{Client}
use Rattle.sc_state.specs.declared.host.Live.{Live}
use Rattle.sc_state.specs.declared.host.Server.{Server}
use Rattle.sc_state.specs.declared.net.Net.{Net}
use Rattle.sc_state.specs.declared.queue.Queued.{Queued}
use Rattle.sc_tokens.specs.Bytes.{Bytes}
use Rattle.sc_model.specs.Timers.{DueEntry}
use Rattle.sc_model.specs.Transactions.{is_reached}
use Rattle.sc_hosts.specs.Inboxes.{without_answer as quiet, queue}
use Rattle.sc_hosts.specs.Nets.{host_at, with_host_after as placed, put_reply, queue_for, queued_at}
use Rattle.sc_hosts.specs.Ticks.{Dated, DueItem, Of_client, Of_server, Of_session, fires, mark_fired, passes, told_at}
use Rattle.sc_hosts.specs.Transacting.{client_passed, due_of_client, due_of_server, out_of_client, pass_client, pass_server, server_passed, without_ended}
use Rattle.sc_hosts.specs.Words.{request_timeout}
use Rattle.sc_once.proofs.Finding.{slice_get-other}
use Rattle.sc_keyed.specs.Keyed.{HasOwnKeys, IsIn, is_same_server}
use Rattle.sc_keyed.proofs.Apart.{apart-changed, apart-filter, in-changed, in-filter}
use Rattle.sc_keyed.proofs.ClientKeys.{app-is, both-same, equal, key-is, same-test, none-else}
use Rattle.sc_timely.proofs.Transactions.{client-done, server-done}

-- ## Keys

differ : (a b : ℕ) → (a == b) ≡ false → a ≡ b → ⊥
differ a b at same = grind (arith, nat_tests, at, same)

same-event : (event : ℕ) (server : Server) → is_server event server ≡ true → is_same_server server ≡ is_server event
same-event event server is = rw (equal server.event event is) refl

-- ## What waits for its item

-- the item is a client's of this key
unfoldable pub is_for_client : Client → DueItem → Bool
is_for_client client (Of_session app event) = false
is_for_client client (Of_client other) = is_same_client other client
is_for_client client (Of_server server) = false

unfoldable pub is_for_server : Server → DueItem → Bool
is_for_server server (Of_session app event) = false
is_for_server server (Of_client client) = false
is_for_server server (Of_server other) = is_same_app other.app server.app && is_same_server other server

-- the transactions of the host of this number have keys of their own, and each that is due has its item among these
pub record AwaitsItems {S : Type 0} (now : ℕ) (ds : List Dated) (number : ℕ) (host : Host S) : Type 0 where
  pub own : HasOwnKeys number host
  pub clients : (client : Client) → IsIn client host.clients → is_reached (due_of_client client) now ≡ true → list_any (λ (d : Dated). is_for_client client d.item) ds ≡ true
  pub servers : (server : Server) → IsIn server host.servers → is_reached (due_of_server server) now ≡ true → list_any (λ (d : Dated). is_for_server server d.item) ds ≡ true

skipped : (a b : Bool) → (a || b) ≡ true → a ≡ false → b ≡ true
skipped true b is none = cc
skipped false b is none = is

clash : (b : Bool) → b ≡ true → b ≡ false → ⊥
clash b p q = cc

neither : (a b : Bool) → b ≡ false → (a && b) ≡ false
neither true b none = none
neither false b none = refl

other-app : (other client : Client) (number : ℕ) → client.app.host ≡ number → (number ≡ other.app.host → ⊥)
    → is_same_client other client ≡ false
other-app other client number here apart =
    none-else (is_same_client other client) (λ is. apart (sym here ∙ ap (λ (a : AppId). a.host) (key-is other.app other.branch (is_cancel_client other) client is).app_is))

other-place : (other server : Server) (number : ℕ) → server.app.host ≡ number → (number ≡ other.app.host → ⊥)
    → (is_same_app other.app server.app && is_same_server other server) ≡ false
other-place other server number here apart =
    none-else (is_same_app other.app server.app && is_same_server other server)
    (λ is. apart (sym here ∙ ap (λ (a : AppId). a.host) (sym (app-is other.app server.app (both-same (is_same_app other.app server.app) _ is).0))))

module _ {S : Type 0} (now : ℕ) where
  -- ## A host

  -- what changes sessions alone
  pub sessions-await : (ds : List Dated) (number : ℕ) (host : Host S) (sessions : List (Live S)) → AwaitsItems now ds number host
      → AwaitsItems now ds number (record host { sessions = sessions })
  sessions-await ds number host sessions waits = record {
    own = record {
      clients_here = waits.own.clients_here;
      servers_here = waits.own.servers_here;
      clients_apart = waits.own.clients_apart;
      servers_apart = waits.own.servers_apart;
    };
    clients = waits.clients;
    servers = waits.servers;
  }

  -- a host of another number than the item's has nothing of it
  client-elsewhere : (ds : List Dated) (entry : DueEntry) (other : Client) (number : ℕ) (host : Host S) → (number ≡ other.app.host → ⊥)
      → AwaitsItems now (record { entry = entry; item = Of_client other } ∷ ds) number host → AwaitsItems now ds number host
  unfolding is_for_client is_for_server
  client-elsewhere ds entry other number host apart waits = record {
    own = waits.own;
    clients = λ client within due. skipped (is_same_client other client) _ (waits.clients client within due) (other-app other client number (waits.own.clients_here client within) apart);
    servers = λ server within due. waits.servers server within due;
  }

  server-elsewhere : (ds : List Dated) (entry : DueEntry) (other : Server) (number : ℕ) (host : Host S)
      → ((server : Server) → IsIn server host.servers → (is_same_app other.app server.app && is_same_server other server) ≡ false)
      → AwaitsItems now (record { entry = entry; item = Of_server other } ∷ ds) number host → AwaitsItems now ds number host
  unfolding is_for_client is_for_server
  server-elsewhere ds entry other number host apart waits = record {
    own = waits.own;
    clients = λ client within due. waits.clients client within due;
    servers = λ server within due. skipped (is_same_app other.app server.app && is_same_server other server) _ (waits.servers server within due) (apart server within);
  }

  -- an item of a session is none of theirs
  session-elsewhere : (ds : List Dated) (entry : DueEntry) (app : AppId) (event : Queued) (number : ℕ) (host : Host S)
      → AwaitsItems now (record { entry = entry; item = Of_session app event } ∷ ds) number host → AwaitsItems now ds number host
  unfolding is_for_client is_for_server
  session-elsewhere ds entry app event number host waits = record {
    own = waits.own;
    clients = λ client within due. waits.clients client within due;
    servers = λ server within due. waits.servers server within due;
  }

  -- ## A moment passes a transaction

  client-keys : (number : ℕ) (app : AppId) (branch : ℕ) (cancelling : Bool) (item : ClientItem) (host : Host S) → HasOwnKeys number host
      → HasOwnKeys number (pass_client app branch cancelling item host)
  unfolding pass_client without_ended client_passed is_client
  client-keys number app branch cancelling item host own = record {
    clients_here = λ client within. here client (in-changed is_same_client (is_client app branch cancelling) (client_passed item) host.clients client (same-test app branch cancelling) own.clients_apart
        (in-filter _ (change_first (is_client app branch cancelling) (client_passed item) host.clients) client within));
    servers_here = λ server within. own.servers_here server (in-filter _ host.servers server within);
    clients_apart = apart-filter is_same_client _ _ (apart-changed is_same_client (is_client app branch cancelling) (client_passed item) host.clients (λ x y. refl) (λ x. refl) own.clients_apart);
    servers_apart = apart-filter is_same_server _ host.servers own.servers_apart;
  }
    where
      here : (client : Client) → ((y : Client) × IsIn y host.clients × (client ≡ client_passed item y)) ⊎ (IsIn client host.clients × (is_client app branch cancelling client ≡ false))
          → client.app.host ≡ number
      here client (inl one) = ap (λ (c : Client). c.app.host) one.2 ∙ own.clients_here one.0 one.1
      here client (inr other) = own.clients_here client other.0

  pub client-passes : (ds : List Dated) (entry : DueEntry) (other : Client) (number : ℕ) (host : Host S)
      → AwaitsItems now (record { entry = entry; item = Of_client other } ∷ ds) number host
      → AwaitsItems now ds number (pass_client other.app other.branch (is_cancel_client other) (client_items.MomentCame now) host)
  unfolding pass_client without_ended is_for_client is_for_server
  client-passes ds entry other number host waits = record {
    own = client-keys number other.app other.branch (is_cancel_client other) (client_items.MomentCame now) host waits.own;
    clients = λ client within. at client (in-changed is_same_client (is_same_client other) (client_passed (client_items.MomentCame now)) host.clients client (same-test other.app other.branch (is_cancel_client other)) waits.own.clients_apart
        (in-filter _ (change_first (is_same_client other) (client_passed (client_items.MomentCame now)) host.clients) client within));
    servers = λ server within due. waits.servers server (in-filter _ host.servers server within) due;
  }
    where
      at : (client : Client)
          → ((y : Client) × IsIn y host.clients × (client ≡ client_passed (client_items.MomentCame now) y)) ⊎ (IsIn client host.clients × (is_same_client other client ≡ false))
          → is_reached (due_of_client client) now ≡ true → list_any (λ (d : Dated). is_for_client client d.item) ds ≡ true
      at client (inl one) due = absurd (clash (is_reached (due_of_client client) now) due (ap (λ (c : Client). is_reached (due_of_client c) now) one.2 ∙ client-done one.0 now))
      at client (inr another) due = skipped (is_same_client other client) _ (waits.clients client another.0 due) another.1

  server-keys : (number event : ℕ) (host : Host S) → HasOwnKeys number host
      → HasOwnKeys number (pass_server event (server_items.MomentCame now) host)
  unfolding pass_server without_ended server_passed
  server-keys number event host own = record {
    clients_here = λ client within. own.clients_here client (in-filter _ host.clients client within);
    servers_here = λ server within. here server (in-changed is_same_server (is_server event) (server_passed (server_items.MomentCame now)) host.servers server (same-event event) own.servers_apart
        (in-filter _ (change_first (is_server event) (server_passed (server_items.MomentCame now)) host.servers) server within));
    clients_apart = apart-filter is_same_client _ host.clients own.clients_apart;
    servers_apart = apart-filter is_same_server _ _ (apart-changed is_same_server (is_server event) (server_passed (server_items.MomentCame now)) host.servers (λ x y. refl) (λ x. refl) own.servers_apart);
  }
    where
      here : (server : Server)
          → ((y : Server) × IsIn y host.servers × (server ≡ server_passed (server_items.MomentCame now) y)) ⊎ (IsIn server host.servers × (is_server event server ≡ false))
          → server.app.host ≡ number
      here server (inl one) = ap (λ (s : Server). s.app.host) one.2 ∙ own.servers_here one.0 one.1
      here server (inr other) = own.servers_here server other.0

  server-passes : (ds : List Dated) (entry : DueEntry) (other : Server) (number : ℕ) (host : Host S)
      → AwaitsItems now (record { entry = entry; item = Of_server other } ∷ ds) number host
      → AwaitsItems now ds number (pass_server other.event (server_items.MomentCame now) host)
  unfolding pass_server without_ended is_for_client is_for_server
  server-passes ds entry other number host waits = record {
    own = server-keys number other.event host waits.own;
    clients = λ client within due. waits.clients client (in-filter _ host.clients client within) due;
    servers = λ server within. at server (in-changed is_same_server (is_same_server other) (server_passed (server_items.MomentCame now)) host.servers server (same-event other.event) waits.own.servers_apart
        (in-filter _ (change_first (is_same_server other) (server_passed (server_items.MomentCame now)) host.servers) server within));
  }
    where
      at : (server : Server)
          → ((y : Server) × IsIn y host.servers × (server ≡ server_passed (server_items.MomentCame now) y)) ⊎ (IsIn server host.servers × (is_same_server other server ≡ false))
          → is_reached (due_of_server server) now ≡ true → list_any (λ (d : Dated). is_for_server server d.item) ds ≡ true
      at server (inl one) due = absurd (clash (is_reached (due_of_server server) now) due (ap (λ (s : Server). is_reached (due_of_server s) now) one.2 ∙ server-done one.0 now))
      at server (inr another) due = skipped (is_same_app other.app server.app && is_same_server other server) _ (waits.servers server another.0 due) (neither _ _ another.1)

  -- ## All hosts

  abbrev pub AllAwait : List Dated → List (Host S) → Type 0
  AllAwait ds hosts = (number : ℕ) (host : Host S) → slice_get hosts number ≡ Some host → AwaitsItems now ds number host

  mapped : (found : Option (Host S)) (change : Host S → Host S) (after : Host S) → option_map change found ≡ Some after
      → (before : Host S) × (found ≡ Some before) × (change before ≡ after)
  mapped None change after is = cc
  mapped (Some before) change after is = (before, refl, cc)

  changed-at : (ds all : List Dated) (place : ℕ) (change : Host S → Host S) (hosts : List (Host S))
      → ((host : Host S) → AwaitsItems now all place host → AwaitsItems now ds place (change host))
      → ((number : ℕ) (host : Host S) → (number ≡ place → ⊥) → AwaitsItems now all number host → AwaitsItems now ds number host)
      → AllAwait all hosts → (number : ℕ) (after : Host S) → slice_get (change_nth place change hosts) number ≡ Some after
      → (b : Bool) → (number == place) ≡ b → AwaitsItems now ds number after
  changed-at ds all place change hosts here there waits number after is true at =
      let same = equal number place at in
      let one = mapped (slice_get hosts place) change after (sym (slice_get-change_nth place change hosts) ∙ subst (λ (n : ℕ). slice_get (change_nth place change hosts) n ≡ Some after) same is) in
      subst (λ (n : ℕ). AwaitsItems now ds n after) (sym same) (subst (AwaitsItems now ds place) one.2 (here one.0 (waits place one.0 one.1)))
  changed-at ds all place change hosts here there waits number after is false at =
      there number after (differ number place at)
      (waits number after (sym (slice_get-other hosts place number change (λ same. differ number place at (sym same))) ∙ is))

  all-changed : (ds all : List Dated) (place : ℕ) (change : Host S → Host S) (hosts : List (Host S))
      → ((host : Host S) → AwaitsItems now all place host → AwaitsItems now ds place (change host))
      → ((number : ℕ) (host : Host S) → (number ≡ place → ⊥) → AwaitsItems now all number host → AwaitsItems now ds number host)
      → AllAwait all hosts → AllAwait ds (change_nth place change hosts)
  all-changed ds all place change hosts here there waits =
      λ number after is. changed-at ds all place change hosts here there waits number after is (number == place) refl

  -- ## Events

  queue-by : (b : Bool) (ds : List Dated) (app : AppId) (sessions : List (Live S)) (more : ℕ) (host : Host S) (net : Net S)
      → AwaitsItems now ds app.host host → AllAwait ds net.hosts
      → AllAwait ds (placed app.host (cond b (quiet (record host { sessions = sessions }) more) (quiet host net.count)) net).hosts
  unfolding placed put_reply quiet
  queue-by true ds app sessions more host net here waits =
      all-changed ds ds app.host (λ _. record host { sessions = sessions }) net.hosts (λ other w. sessions-await ds app.host host sessions here) (λ number other apart w. w) waits
  queue-by false ds app sessions more host net here waits =
      all-changed ds ds app.host (λ _. host) net.hosts (λ other w. here) (λ number other apart w. w) waits

  queued-awaits : (ds : List Dated) (app : AppId) (event : Queued) (found : Option (Host S)) (net : Net S) → host_at app.host net ≡ found
      → AllAwait ds net.hosts → AllAwait ds (queued_at app event found net).hosts
  unfolding queued_at queue
  queued-awaits ds app event None net is waits = waits
  queued-awaits ds app event (Some host) net is waits = queue-by _ ds app _ _ host net (waits app.host host is) waits

  queue-awaits : (ds : List Dated) (app : AppId) (event : Queued) (net : Net S) → AllAwait ds net.hosts
      → AllAwait ds (queue_for app event net).hosts
  unfolding queue_for
  queue-awaits ds app event net waits = queued-awaits ds app event _ net refl waits

  told-awaits : (ds : List Dated) (config : Config) (client : Client) (reason : Bytes) (code : Option ℕ) (net : Net S)
      → AllAwait ds net.hosts → AllAwait ds (told_at config client reason code net).hosts
  unfolding told_at
  told-awaits ds config client reason None net waits = waits
  told-awaits ds config client reason (Some code) net waits = by (is_cancel_client client) _ (queue-awaits ds client.app _ net waits)
    where
      by : (b : Bool) (other : Net S) → AllAwait ds other.hosts → AllAwait ds (cond b net other).hosts
      by true other queued = waits
      by false other queued = queued

  -- ## The items, one after the other

  item-awaits : (config : Config) (ds : List Dated) (entry : DueEntry) (item : DueItem) (net : Net S)
      → AllAwait (record { entry = entry; item = item } ∷ ds) net.hosts → AllAwait ds (fires config now net entry item).hosts
  unfolding fires passes mark_fired
  item-awaits config ds entry (Of_session app event) net waits =
      queue-awaits ds app event _
      (all-changed ds (record { entry = entry; item = Of_session app event } ∷ ds) app.host (mark_fired entry) net.hosts
      (λ host w. sessions-await ds app.host host _ (session-elsewhere ds entry app event app.host host w)) (λ number host apart w. session-elsewhere ds entry app event number host w) waits)
  item-awaits config ds entry (Of_client client) net waits =
      told-awaits ds config client request_timeout (out_of_client client (client_items.MomentCame now)).tell _
      (all-changed ds (record { entry = entry; item = Of_client client } ∷ ds) client.app.host (pass_client client.app client.branch (is_cancel_client client) (client_items.MomentCame now)) net.hosts
      (λ host w. client-passes ds entry client client.app.host host w) (λ number host apart w. client-elsewhere ds entry client number host apart w) waits)
  item-awaits config ds entry (Of_server server) net waits =
      all-changed ds (record { entry = entry; item = Of_server server } ∷ ds) server.app.host (pass_server server.event (server_items.MomentCame now)) net.hosts
      (λ host w. server-passes ds entry server server.app.host host w) (λ number host apart w. server-elsewhere ds entry server number host (λ other within. other-place server other number (w.own.servers_here other within) apart) w) waits

  pub all-fired : (config : Config) (ds : List Dated) (net : Net S) → AllAwait ds net.hosts
      → AllAwait [] (fold (λ net d. fires config now net d.entry d.item) net ds).hosts
  all-fired config [] net waits = waits
  all-fired config (d ∷ ds) net waits = all-fired config ds (fires config now net d.entry d.item) (item-awaits config ds d.entry d.item net waits)
