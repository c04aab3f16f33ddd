-- What is so of each event that time brings, an expiry, that of a timer or that of a branch, is so of
-- each event that is due.
use Rattle.std.proofs.Common.{◌≡◌, ℕ, ◌+◌, ◌++◌, Bool, true, false, Option, None, Some, List, [], ◌∷◌, refl, subst}
use Rattle.std.specs.Prelude.{cond}
use Rattle.std.specs.List.{find, filter_map, cons_option, flat_map}
use Rattle.sc_value.specs.declared.ids.AppId.{AppId}
use Rattle.sc_value.specs.declared.ids.TimerId.{TimerId}
use Rattle.sc_terms.specs.declared.views.TimerView.{TimerView}
use Rattle.sc_state.specs.Hosts.{Host}
use Rattle.sc_state.specs.declared.host.Client.{Client}
use Rattle.sc_state.specs.declared.host.Live.{Live}
use Rattle.sc_state.specs.declared.host.Server.{Server}
use Rattle.sc_state.specs.declared.net.Net.{Net}
use Rattle.sc_state.specs.declared.proxy.Branch.{Branch}
use Rattle.sc_state.specs.declared.proxy.Proxy.{Proxy}
use Rattle.sc_state.specs.declared.queue.Queued.{Queued}
use Rattle.sc_state.specs.declared.queue.Queued.TheVariants as queued
use Rattle.sc_state.specs.declared.session.Session.{Session}
use Rattle.sc_state.specs.Entries.{SessionEntry, expiry_entry, timer_entry, branch_entry, entries_of, is_fired}
use Rattle.sc_parts.specs.declared.timers.TimerName.{TimerName}
use Rattle.sc_model.specs.Timers.{DueEntry}
use Rattle.sc_hosts.specs.Sessions.{Form}
use Rattle.sc_hosts.specs.Ticks.{Dated, DueItem, Of_session, Of_client, Of_server, all_dated, client_dated, dated_entry as dated, due_items, host_dated, hosts_dated, live_dated, same_entry, server_dated}

unfoldable pub All : {A : Type 0} → (A → Type 0) → List A → Type 0
All P [] = Unit {0}
All P (x ∷ xs) = P x × All P xs

-- the event of an item that is due, where it is one of a session
unfoldable pub IsGoodItem : (Queued → Type 0) → DueItem → Type 0
IsGoodItem Good (Of_session app event) = Good event
IsGoodItem Good (Of_client client) = Unit {0}
IsGoodItem Good (Of_server server) = Unit {0}

-- that of each of these
unfoldable pub AreGood : (Queued → Type 0) → List Dated → Type 0
AreGood Good [] = Unit {0}
AreGood Good (d ∷ ds) = IsGoodItem Good d.item × AreGood Good ds

-- ## Lists

all-both : {A : Type 0} (P : A → Type 0) (xs ys : List A) → All P xs → All P ys → All P (xs ++ ys)
unfolding All
all-both P [] ys p q = q
all-both P (x ∷ xs) ys p q = (p.0, all-both P xs ys p.1 q)

all-flat : {A B : Type 0} (P : B → Type 0) (f : A → List B) (xs : List A) → ((x : A) → All P (f x))
    → All P (flat_map f xs)
unfolding All
all-flat P f [] each = tt
all-flat P f (x ∷ xs) each = all-both P (f x) (flat_map f xs) (each x) (all-flat P f xs each)

module _ (Good : Queued → Type 0) (expired : Good queued.Expired) (fires : (id : TimerId) → Good (queued.Timer id)) (ends : (number due : ℕ) → Good (queued.BranchTimer number due)) where
  abbrev IsGoodEntry : SessionEntry → Type 0
  IsGoodEntry entry = Good entry.event

  good-both : (xs ys : List Dated) → AreGood Good xs → AreGood Good ys → AreGood Good (xs ++ ys)
  unfolding AreGood
  good-both [] ys p q = q
  good-both (x ∷ xs) ys p q = (p.0, good-both xs ys p.1 q)

  good-flat : {A : Type 0} (Q : A → Type 0) (f : A → List Dated) (xs : List A) → ((x : A) → Q x → AreGood Good (f x)) → All Q xs
      → AreGood Good (flat_map f xs)
  unfolding AreGood All
  good-flat Q f [] each all = tt
  good-flat Q f (x ∷ xs) each all = good-both (f x) (flat_map f xs) (each x all.0) (good-flat Q f xs each all.1)

  good-any : {A : Type 0} (f : A → List Dated) (xs : List A) → ((x : A) → AreGood Good (f x)) → AreGood Good (flat_map f xs)
  unfolding AreGood
  good-any f [] each = tt
  good-any f (x ∷ xs) each = good-both (f x) (flat_map f xs) (each x) (good-any f xs each)

  good-found : (test : Dated → Bool) (ds : List Dated) (d : Dated) → find test ds ≡ Some d → AreGood Good ds → IsGoodItem Good d.item
  unfolding AreGood
  good-found test [] d is good = cc
  good-found test (e ∷ ds) d is good = by (test e) is (good-found test ds d)
    where
      same : (e : Dated) → Some e ≡ Some d → e ≡ d
      same e is = cc

      by : (b : Bool) → cond b (Some e) (find test ds) ≡ Some d → (find test ds ≡ Some d → AreGood Good ds → IsGoodItem Good d.item)
          → IsGoodItem Good d.item
      by true is later = subst (λ (d : Dated). IsGoodItem Good d.item) (same e is) good.0
      by false is later = later is good.1

  good-some : (test : DueEntry → Dated → Bool) (ds : List Dated) → AreGood Good ds → (entries : List DueEntry)
      → AreGood Good (filter_map (λ entry. find (test entry) ds) entries)
  unfolding AreGood
  good-some test ds good [] = tt
  good-some test ds good (entry ∷ entries) = by (find (test entry) ds) refl (good-some test ds good entries)
    where
      by : (found : Option Dated) → find (test entry) ds ≡ found
          → AreGood Good (filter_map (λ entry. find (test entry) ds) entries)
          → AreGood Good (cons_option found (filter_map (λ entry. find (test entry) ds) entries))
      by None is rest = rest
      by (Some d) is rest = (good-found (test entry) ds d is good, rest)

  -- ## Entries

  expiry-good : (due : Option ℕ) → All IsGoodEntry (expiry_entry due)
  unfolding All expiry_entry
  expiry-good None = tt
  expiry-good (Some due) = (expired, tt)

  timer-good : (timer : TimerView) → All IsGoodEntry (timer_entry timer ∷ [])
  unfolding All timer_entry
  timer-good timer = (fires timer.id, tt)

  branch-good : (branch : Branch) → All IsGoodEntry (branch_entry branch)
  unfolding branch_entry All
  branch-good branch = by branch.due
    where
      by : (due : Option ℕ) → All IsGoodEntry (branch_entry (record branch { due = due }))
      by None = tt
      by (Some due) = (ends branch.number due, tt)

  entries-good : (session : Session) → All IsGoodEntry (entries_of session)
  unfolding entries_of
  entries-good session =
      all-both IsGoodEntry (expiry_entry session.view.expires ++ flat_map (λ timer. timer_entry timer ∷ []) session.view.timers) _
      (all-both IsGoodEntry (expiry_entry session.view.expires) _ (expiry-good session.view.expires) (all-flat IsGoodEntry (λ timer. timer_entry timer ∷ []) session.view.timers timer-good))
      (all-flat IsGoodEntry (λ (proxy : Proxy). flat_map branch_entry proxy.branches) session.known.proxies (λ proxy. all-flat IsGoodEntry branch_entry proxy.branches branch-good))

  -- ## All that runs

  dated-good : (app : AppId) (timer : TimerName) (item : DueItem) (due : Option ℕ) → IsGoodItem Good item
      → AreGood Good (dated app timer item due)
  unfolding dated AreGood
  dated-good app timer item None good = tt
  dated-good app timer item (Some due) good = (good, tt)

  if-good : (b : Bool) (xs ys : List Dated) → AreGood Good xs → AreGood Good ys → AreGood Good (cond b xs ys)
  if-good true xs ys p q = p
  if-good false xs ys p q = q

  client-good : (client : Client) → AreGood Good (client_dated client)
  unfolding client_dated IsGoodItem
  client-good client = dated-good client.app _ (Of_client client) _ tt

  server-good : (server : Server) → AreGood Good (server_dated server)
  unfolding server_dated IsGoodItem
  server-good server = dated-good server.app _ (Of_server server) _ tt

  module _ {S : Type 0} (form : Form S) where
    live-good : (number : ℕ) (live : Live S) → AreGood Good (live_dated form number live)
    unfolding live_dated AreGood IsGoodItem
    live-good number live =
        good-flat IsGoodEntry _ (entries_of (form.read live.session)) (λ entry good. if-good (is_fired live.fired entry.due entry.timer) [] _ tt
        (dated-good (record { host = number; serial = live.serial }) entry.timer (Of_session (record { host = number; serial = live.serial }) entry.event) (Some entry.due) good)) (entries-good (form.read live.session))

    host-good : (number : ℕ) (host : Host S) → AreGood Good (host_dated form number host)
    unfolding host_dated
    host-good number host =
        good-both (flat_map client_dated host.clients ++ flat_map server_dated host.servers) _
        (good-both (flat_map client_dated host.clients) _ (good-any client_dated host.clients client-good) (good-any server_dated host.servers server-good))
        (good-any (live_dated form number) host.sessions (live-good number))

    hosts-good : (hosts : List (Host S)) (number : ℕ) → AreGood Good (hosts_dated form number hosts)
    unfolding hosts_dated AreGood
    hosts-good [] number = tt
    hosts-good (host ∷ hosts) number = good-both (host_dated form number host) _ (host-good number host) (hosts-good hosts (number + 1))

    pub due-good : (now : ℕ) (net : Net S) → AreGood Good (due_items form now net)
    unfolding due_items all_dated
    due-good now net = good-some (λ entry d. same_entry d.entry entry) (hosts_dated form 0 net.hosts) (hosts-good net.hosts 0) _
