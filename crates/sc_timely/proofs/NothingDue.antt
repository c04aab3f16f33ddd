-- After a tick nothing is due.
use Rattle.std.proofs.Common.{◌≡◌, ℕ, zero, suc, ◌+◌, ◌++◌, Bool, true, false, Option, None, Some, List, [], ◌∷◌, inl, inr, refl, sym, ap, subst, ◌∙◌, arith}
use Rattle.std.specs.Prelude.{◌==◌, ◌||◌, cond, map, filter, slice_get}
use Rattle.std.specs.List.{find, list_any, filter_map, flat_map}
use Rattle.std.proofs.lemmas.Bool.Decides.{nat_tests}
use Rattle.sc_value.specs.declared.ids.AppId.{AppId}
use Rattle.sc_terms.specs.declared.steps.Step.TheVariants as steps
use Rattle.sc_parts.specs.declared.setup.Setup.{Setup}
use Rattle.sc_parts.specs.declared.timers.TimerName.{TimerName}
use Rattle.sc_parts.specs.declared.timers.TimerName.TheVariants as timers
use Rattle.sc_parts.specs.TimerNames.{number_of, rank_of}
use Rattle.sc_state.specs.Hosts.{Host}
use Rattle.sc_state.specs.Standing.{is_cancel_client, is_same_app}
use Rattle.sc_state.specs.declared.host.Client.{Client}
use Rattle.sc_state.specs.declared.host.Live.{Live}
use Rattle.sc_state.specs.declared.host.Server.{Server}
use Rattle.sc_state.specs.declared.net.Net.{Net}
use Rattle.sc_model.specs.Timers.{DueEntry, in_order, is_due}
use Rattle.sc_model.specs.Transactions.{is_reached}
use Rattle.sc_hosts.specs.Nets.{host_at, is_busy}
use Rattle.sc_hosts.specs.Runs.{after_step}
use Rattle.sc_hosts.specs.Sessions.{Form}
use Rattle.sc_hosts.specs.Steps.{live_at, before_delivery as stepped}
use Rattle.sc_hosts.specs.Ticks.{Dated, DueItem, Of_client, Of_server, Of_session, all_dated, client_dated, client_timer, dated_entry as dated, due_items, host_dated, hosts_dated, live_dated, same_entry, server_dated, net_after_tick as ticked}
use Rattle.sc_hosts.specs.Transacting.{due_of_client, due_of_server}
use Rattle.sc_hosts.proofs.Deliveries.{none-delivered}
use Rattle.sc_keyed.specs.Keyed.{HasOwnKeys, HaveOwnKeys, IsIn}
use Rattle.sc_keyed.proofs.ClientKeys.{same-key}
use Rattle.sc_timely.proofs.DueItems.{All, IsOther, OfEntry, WellMade, all-both, all-found, any-in, any-left, any-map, any-right, client-other, from-none, hosts-have, hosts-made, kept-has, made-of, not-both, one-more, or-first, ordered-has, runs_as, same-is, same-itself, server-other, test-found, zero-more}
use Rattle.sc_timely.proofs.NoneComes.{ticked-none}
use Rattle.sc_timely.proofs.Pending.{AllAwait, all-fired, is_for_client, is_for_server}
use Rattle.sc_timely.proofs.Silence.{idle-of, ticked-silent}
use Rattle.sc_timely.proofs.Taken.{step-takes}

-- ## The item of a transaction's key

-- the timer of a client transaction of this branch, or of its CANCEL
abbrev timer_of : ℕ → Bool → TimerName
timer_of branch cancelling = cond cancelling (timers.Cancel branch) (timers.Client branch)

unlike : (a b : ℕ) → a ≡ b → (a == b) ≡ false → ⊥
unlike a b is differ = grind (arith, nat_tests, is, differ)

same-branch : (a b : ℕ) (p q : Bool) → timer_of a p ≡ timer_of b q → (a ≡ b) × (p ≡ q)
same-branch a b true true is = (ap number_of is, refl)
same-branch a b true false is = absurd (unlike 4 3 (ap rank_of is) refl)
same-branch a b false true is = absurd (unlike 3 4 (ap rank_of is) refl)
same-branch a b false false is = (ap number_of is, refl)

no-server : (branch event : ℕ) (p : Bool) → timer_of branch p ≡ timers.Server event → ⊥
no-server branch event true is = unlike 4 5 (ap rank_of is) refl
no-server branch event false is = unlike 3 5 (ap rank_of is) refl

one-event : (a b : ℕ) → timers.Server a ≡ timers.Server b → a ≡ b
one-event a b is = ap number_of is

app-itself : (a : AppId) → is_same_app a a ≡ true
app-itself a = grind (arith, nat_tests)

number-itself : (n : ℕ) → (n == n) ≡ true
number-itself n = grind (arith, nat_tests)

abbrev key_of_client : Client → ℕ → DueEntry
key_of_client client due = record { due = due; app = client.app; timer = client_timer client }

abbrev key_of_server : Server → ℕ → DueEntry
key_of_server server due = record { due = due; app = server.app; timer = timers.Server server.event }

for-client : (client : Client) (due : ℕ) (item : DueItem) (entry : DueEntry) → OfEntry item entry
    → entry ≡ key_of_client client due → is_for_client client item ≡ true
unfolding OfEntry is_for_client
for-client client due (Of_session app event) entry of same =
    absurd (not-both entry.timer of.1 (subst (λ (e : DueEntry). IsOther e.timer) (sym same) (client-other client.branch (is_cancel_client client))))
for-client client due (Of_client other) entry of same =
    let timer = same-branch other.branch client.branch (is_cancel_client other) (is_cancel_client client) (sym of.1 ∙ ap (λ (e : DueEntry). e.timer) same) in
    same-key other client (sym of.0 ∙ ap (λ (e : DueEntry). e.app) same) timer.0 timer.1
for-client client due (Of_server server) entry of same =
    absurd (no-server client.branch server.event (is_cancel_client client) (sym (ap (λ (e : DueEntry). e.timer) same) ∙ of.1))

for-server : (server : Server) (due : ℕ) (item : DueItem) (entry : DueEntry) → OfEntry item entry
    → entry ≡ key_of_server server due → is_for_server server item ≡ true
unfolding OfEntry is_for_server
for-server server due (Of_session app event) entry of same =
    absurd (not-both entry.timer of.1 (subst (λ (e : DueEntry). IsOther e.timer) (sym same) (server-other server.event)))
for-server server due (Of_client client) entry of same =
    absurd (no-server client.branch server.event (is_cancel_client client) (sym of.1 ∙ ap (λ (e : DueEntry). e.timer) same))
for-server server due (Of_server other) entry of same =
    rw (sym of.0 ∙ ap (λ (e : DueEntry). e.app) same, one-event other.event server.event (sym of.1 ∙ ap (λ (e : DueEntry). e.timer) same), app-itself server.app) (number-itself server.event)

-- each session that lives is the one of its name
unfoldable pub AreFound : {S : Type 0} → Net S → Type 0
AreFound {S = S} net = (number : ℕ) (host : Host S) → host_at number net ≡ Some host → (live : Live S) → IsIn live host.sessions
    → live_at (record { host = number; serial = live.serial }) net ≡ Some live

module _ {S : Type 0} (form : Form S) (now : ℕ) where
  -- ## What is due is among the items

  dated-runs : (app : AppId) (timer : TimerName) (item : DueItem) (at : ℕ) (due : Option ℕ) → due ≡ Some at
      → list_any (runs_as (record { due = at; app = app; timer = timer })) (dated app timer item due) ≡ true
  unfolding dated
  dated-runs app timer item at None is = cc
  dated-runs app timer item at (Some due) is = or-first _ false (same-itself (record { due = due; app = app; timer = timer }) (record { due = at; app = app; timer = timer }) (ap (λ (d : ℕ). record { due = d; app = app; timer = timer }) (inside due at is)))
    where
      inside : (due at : ℕ) → Some due ≡ Some at → due ≡ at
      inside due at is = cc

  listed : (key : DueEntry) (test : DueItem → Bool) (net : Net S) (number : ℕ) (host : Host S) → host_at number net ≡ Some host
      → ((item : DueItem) (entry : DueEntry) → OfEntry item entry → entry ≡ key → test item ≡ true)
      → is_due now key ≡ true → list_any (runs_as key) (host_dated form number host) ≡ true
      → list_any (λ (d : Dated). test d.item) (due_items form now net) ≡ true
  unfolding due_items all_dated
  listed key test net number host at passes due runs =
      let all : List Dated = hosts_dated form 0 net.hosts in
      let has : list_any (runs_as key) all ≡ true = hosts-have form key net.hosts 0 number host at (subst (λ (n : ℕ). list_any (runs_as key) (host_dated form n host) ≡ true) (from-none number) runs) in
      kept-has key (λ (d : Dated). test d.item) all _
      (λ d found. passes d.item d.entry (made-of d (all-found WellMade (runs_as key) all d found (hosts-made form net.hosts 0))) (same-is d.entry key (test-found (runs_as key) all d found))) has
      (ordered-has key _ (any-map key now all due has))

  client-runs : (number : ℕ) (host : Host S) (client : Client) (at : ℕ) → IsIn client host.clients → due_of_client client ≡ Some at
      → list_any (runs_as (key_of_client client at)) (host_dated form number host) ≡ true
  unfolding host_dated client_dated
  client-runs number host client at within is =
      any-left (runs_as (key_of_client client at)) (flat_map client_dated host.clients ++ flat_map server_dated host.servers) _
      (any-left (runs_as (key_of_client client at)) (flat_map client_dated host.clients) _
      (any-in (runs_as (key_of_client client at)) client_dated host.clients client within (dated-runs client.app _ (Of_client client) at (due_of_client client) is)))

  server-runs : (number : ℕ) (host : Host S) (server : Server) (at : ℕ) → IsIn server host.servers → due_of_server server ≡ Some at
      → list_any (runs_as (key_of_server server at)) (host_dated form number host) ≡ true
  unfolding host_dated server_dated
  server-runs number host server at within is =
      any-left (runs_as (key_of_server server at)) (flat_map client_dated host.clients ++ flat_map server_dated host.servers) _
      (any-right (runs_as (key_of_server server at)) (flat_map client_dated host.clients) (flat_map server_dated host.servers)
      (any-in (runs_as (key_of_server server at)) server_dated host.servers server within (dated-runs server.app _ (Of_server server) at (due_of_server server) is)))

  client-awaits : (net : Net S) (number : ℕ) (host : Host S) (client : Client) → host_at number net ≡ Some host
      → IsIn client host.clients → (due : Option ℕ) → due_of_client client ≡ due → is_reached due now ≡ true
      → list_any (λ (d : Dated). is_for_client client d.item) (due_items form now net) ≡ true
  unfolding is_reached
  client-awaits net number host client at within None is due = cc
  client-awaits net number host client at within (Some moment) is due =
      listed (key_of_client client moment) (is_for_client client) net number host at (for-client client moment) due (client-runs number host client moment within is)

  server-awaits : (net : Net S) (number : ℕ) (host : Host S) (server : Server) → host_at number net ≡ Some host
      → IsIn server host.servers → (due : Option ℕ) → due_of_server server ≡ due → is_reached due now ≡ true
      → list_any (λ (d : Dated). is_for_server server d.item) (due_items form now net) ≡ true
  unfolding is_reached
  server-awaits net number host server at within None is due = cc
  server-awaits net number host server at within (Some moment) is due =
      listed (key_of_server server moment) (is_for_server server) net number host at (for-server server moment) due (server-runs number host server moment within is)

  own-of : (net : Net S) → HaveOwnKeys net → (number : ℕ) (host : Host S) → host_at number net ≡ Some host → HasOwnKeys number host
  unfolding HaveOwnKeys
  own-of net keys = keys

  all-await : (net : Net S) → HaveOwnKeys net → AllAwait now (due_items form now net) net.hosts
  all-await net keys = λ number host at. record {
    own = own-of net keys number host at;
    clients = λ client within due. client-awaits net number host client at within (due_of_client client) refl due;
    servers = λ server within due. server-awaits net number host server at within (due_of_server server) refl due;
  }

  -- ## Afterwards

  none-more : (b : Bool) → (b ≡ true → false ≡ true) → b ≡ false
  none-more true never = sym (never refl)
  none-more false never = refl

  NotDue : Dated → Type 0
  NotDue d = is_due now d.entry ≡ false

  none-dated : (app : AppId) (timer : TimerName) (item : DueItem) (due : Option ℕ) → is_reached due now ≡ false
      → All NotDue (dated app timer item due)
  unfolding dated is_reached All NotDue
  none-dated app timer item None late = tt
  none-dated app timer item (Some due) late = (late, tt)

  flat-in : {A : Type 0} (f : A → List Dated) (xs : List A) → ((x : A) → IsIn x xs → All NotDue (f x))
      → All NotDue (flat_map f xs)
  unfolding All IsIn
  flat-in f [] each = tt
  flat-in f (x ∷ xs) each = all-both NotDue (f x) (flat_map f xs) (each x (inl refl)) (flat-in f xs (λ y within. each y (inr within)))

  any-late : (ds : List Dated) → list_any (λ (d : Dated). is_due now d.entry) ds ≡ false → All NotDue ds
  unfolding All NotDue
  any-late [] late = tt
  any-late (d ∷ ds) late = (first (is_due now d.entry) _ late, any-late ds (second (is_due now d.entry) _ late))
    where
      first : (a b : Bool) → (a || b) ≡ false → a ≡ false
      first true b none = none
      first false b none = refl

      second : (a b : Bool) → (a || b) ≡ false → b ≡ false
      second true b none = cc
      second false b none = none

  none-left : (ds : List Dated) → All NotDue ds → filter (is_due now) (map (λ d. d.entry) ds) ≡ []
  unfolding All NotDue
  none-left [] late = refl
  none-left (d ∷ ds) late = rw late.0 (none-left ds late.1)

  host-late : (number : ℕ) (host : Host S) → ((client : Client) → IsIn client host.clients → is_reached (due_of_client client) now ≡ false)
      → ((server : Server) → IsIn server host.servers → is_reached (due_of_server server) now ≡ false)
      → ((live : Live S) → IsIn live host.sessions → list_any (λ (d : Dated). is_due now d.entry) (live_dated form number live) ≡ false)
      → All NotDue (host_dated form number host)
  unfolding host_dated client_dated server_dated
  host-late number host clients servers lives =
      all-both NotDue (flat_map client_dated host.clients ++ flat_map server_dated host.servers) _
      (all-both NotDue (flat_map client_dated host.clients) _ (flat-in client_dated host.clients (λ client within. none-dated client.app _ (Of_client client) (due_of_client client) (clients client within)))
      (flat-in server_dated host.servers (λ server within. none-dated server.app _ (Of_server server) (due_of_server server) (servers server within))))
      (flat-in (live_dated form number) host.sessions (λ live within. any-late (live_dated form number live) (lives live within)))

  hosts-late : (hosts : List (Host S)) (number : ℕ)
      → ((i : ℕ) (host : Host S) → slice_get hosts i ≡ Some host → All NotDue (host_dated form (number + i) host))
      → All NotDue (hosts_dated form number hosts)
  unfolding hosts_dated All
  hosts-late [] number each = tt
  hosts-late (host ∷ hosts) number each =
      all-both NotDue (host_dated form number host) _ (subst (λ (n : ℕ). All NotDue (host_dated form n host)) (zero-more number) (each zero host refl))
      (hosts-late hosts (number + 1) (λ i other is. subst (λ (n : ℕ). All NotDue (host_dated form n other)) (one-more number i) (each (suc i) other is)))

  none-items : (net : Net S) → All NotDue (hosts_dated form 0 net.hosts) → due_items form now net ≡ []
  unfolding due_items all_dated in_order
  none-items net late =
      ap (λ (ks : List DueEntry). filter_map (λ entry. find (λ (d : Dated). same_entry d.entry entry) (hosts_dated form 0 net.hosts)) (in_order ks)) (none-left (hosts_dated form 0 net.hosts) late)

  -- ## The step of a tick

  after-is : (setup : Setup) (net : Net S) → is_busy net ≡ false
      → after_step form setup net (steps.Tick now) ≡ ticked form setup.config now (record net { sent = [] })
  unfolding after_step stepped
  after-is setup net idle =
      let after : Net S = ticked form setup.config now (record net { sent = [] }) in
      none-delivered form setup after (idle-of net after (ticked-silent form setup.config now (record net { sent = [] })).wire idle)

  live-late : (setup : Setup) (net : Net S) (number : ℕ) (live : Live S) → is_busy net ≡ false → (before : Option (Live S))
      → live_at (record { host = number; serial = live.serial }) net ≡ before
      → live_at (record { host = number; serial = live.serial }) (after_step form setup net (steps.Tick now)) ≡ Some live
      → list_any (λ (d : Dated). is_due now d.entry) (live_dated form number live) ≡ false
  live-late setup net number live idle (Some before) was is =
      let taken = step-takes form setup now net (record { host = number; serial = live.serial }) before was in
      subst (λ (l : Live S). list_any (λ (d : Dated). is_due now d.entry) (live_dated form number l) ≡ false) (same _ taken.later live taken.found_is is) taken.left
    where
      same : (found : Option (Live S)) (a b : Live S) → found ≡ Some a → found ≡ Some b → a ≡ b
      same found a b p q = cc
  live-late setup net number live idle None was is = never _ (gone ∙ none) is
    where
      gone : live_at (record { host = number; serial = live.serial }) (after_step form setup net (steps.Tick now))
          ≡ live_at (record { host = number; serial = live.serial }) (ticked form setup.config now (record net { sent = [] }))
      gone = ap (live_at (record { host = number; serial = live.serial })) (after-is setup net idle)

      none : live_at (record { host = number; serial = live.serial }) (ticked form setup.config now (record net { sent = [] })) ≡ None
      none = ticked-none form setup.config now (record net { sent = [] }) (record { host = number; serial = live.serial }) was

      never : (found : Option (Live S)) → found ≡ None → found ≡ Some live → list_any (λ (d : Dated). is_due now d.entry) (live_dated form number live) ≡ false
      never found p q = cc

  same-keys : (net : Net S) → HaveOwnKeys net → HaveOwnKeys (record net { sent = [] })
  unfolding HaveOwnKeys
  same-keys net keys = keys

  fired-all : (setup : Setup) (net : Net S) → HaveOwnKeys net → AllAwait now [] (ticked form setup.config now (record net { sent = [] })).hosts
  unfolding ticked
  fired-all setup net keys =
      let unsent : Net S = record net { sent = [] } in
      all-fired now setup.config (due_items form now unsent) (record unsent { moment = now }) (all-await unsent (same-keys net keys))

  -- nothing is due after a tick, where transactions have keys of their own
  pub nothing-due : (setup : Setup) (net : Net S) → is_busy net ≡ false → HaveOwnKeys net
      → AreFound (after_step form setup net (steps.Tick now)) → due_items form now (after_step form setup net (steps.Tick now)) ≡ []
  unfolding AreFound
  nothing-due setup net idle keys found =
      let after : Net S = after_step form setup net (steps.Tick now) in
      let fired : AllAwait now [] after.hosts = subst (λ (n : Net S). AllAwait now [] n.hosts) (sym (after-is setup net idle)) (fired-all setup net keys) in
      none-items after (hosts-late after.hosts 0 (λ i host is. subst (λ (n : ℕ). All NotDue (host_dated form n host)) (from-none i)
      (host-late i host (λ client within. none-more _ ((fired i host is).clients client within)) (λ server within. none-more _ ((fired i host is).servers server within))
      (λ live within. live-late setup net i live idle _ refl (found i host is live within)))))
