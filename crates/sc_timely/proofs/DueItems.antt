-- What is due in a session is among what a tick fires.
use Rattle.std.proofs.Common.{◌≡◌, inl, inr, ℕ, zero, suc, ◌+◌, ◌++◌, Bool, true, false, Option, None, Some, List, [], ◌∷◌, refl, sym, ap, subst, ◌∙◌, arith}
use Rattle.std.specs.Prelude.{◌==◌, ◌&&◌, ◌||◌, cond, slice_get, map, filter, nat_le}
use Rattle.std.specs.List.{find, list_any, filter_map, flat_map, cons_option}
use Rattle.std.specs.BTreeSet.{insert_key}
use Rattle.std.specs.Ordering.{is_eq, match_ordering}
use Rattle.std.specs.declared.cmp.Ordering.{Ordering}
use Rattle.std.specs.declared.cmp.Ordering.TheVariants.{Less, Equal, Greater}
use Rattle.std.proofs.lemmas.Bool.Decides.{nat_tests}
use Rattle.std.proofs.lemmas.Cmp.{tied_itself}
use Rattle.std.proofs.lemmas.List.Folds.{list_any-append}
use Rattle.sc_value.specs.declared.ids.AppId.{AppId}
use Rattle.sc_terms.specs.declared.views.TimerView.{TimerView}
use Rattle.sc_parts.specs.declared.timers.TimerName.{TimerName}
use Rattle.sc_parts.specs.declared.timers.TimerName.TheVariants as timers
use Rattle.sc_state.specs.Entries.{SessionEntry, expiry_entry, timer_entry, branch_entry, entries_of, is_fired}
use Rattle.sc_state.specs.Hosts.{Host}
use Rattle.sc_state.specs.declared.host.Client.{Client}
use Rattle.sc_state.specs.declared.host.Live.{Live}
use Rattle.sc_state.specs.declared.host.Server.{Server}
use Rattle.sc_state.specs.declared.net.Net.{Net}
use Rattle.sc_state.specs.declared.proxy.Branch.{Branch}
use Rattle.sc_state.specs.declared.proxy.Proxy.{Proxy}
use Rattle.sc_state.specs.declared.session.Session.{Session}
use Rattle.sc_model.specs.Timers.{DueEntry, due_order, in_order, is_due}
use Rattle.sc_model.proofs.DueLaws.{exact, total}
use Rattle.sc_hosts.specs.Inboxes.{is_live}
use Rattle.sc_hosts.specs.Nets.{host_at}
use Rattle.sc_hosts.specs.Sessions.{Form}
use Rattle.sc_hosts.specs.Ticks.{DueItem, Of_session, Of_client, Of_server, Dated, dated_entry as dated, client_timer, client_dated, server_dated, live_dated, host_dated, hosts_dated, all_dated, same_entry, due_items}
use Rattle.sc_hosts.specs.Transacting.{is_cancel_client, is_same_app, due_of_client, due_of_server}
use Rattle.sc_keyed.specs.Keyed.{IsIn}

-- ## Keys

tied : (o : Ordering) → is_eq o ≡ true → o ≡ Equal
tied Equal is = refl
tied Less is = cc
tied Greater is = cc

pub same-is : (a b : DueEntry) → same_entry a b ≡ true → a ≡ b
unfolding same_entry
same-is a b e = exact a b (tied (due_order a b) e)

pub same-itself : (a b : DueEntry) → a ≡ b → same_entry a b ≡ true
unfolding same_entry
same-itself a b e = subst (λ (x : DueEntry). is_eq (due_order a x) ≡ true) e (ap is_eq (tied_itself total a))

pub app-is : (a b : AppId) → is_same_app a b ≡ true → a ≡ b
app-is a b e = grind (arith, nat_tests, e)

app-itself : (a : AppId) → is_same_app a a ≡ true
app-itself a = grind (arith, nat_tests)

abbrev pub key_of : AppId → SessionEntry → DueEntry
key_of app entry = record { due = entry.due; app = app; timer = entry.timer }

-- the item is an event of this session
unfoldable pub is_event_of : AppId → DueItem → Bool
is_event_of app (Of_session at event) = is_same_app at app
is_event_of app (Of_client client) = false
is_event_of app (Of_server server) = false

abbrev pub fires_key : AppId → DueEntry → Dated → Bool
fires_key app key d = is_event_of app d.item && same_entry d.entry key

-- ## Timers of entries

-- it is a timer of a session, and not of a transaction
abbrev pub is_of_session : TimerName → Bool
is_of_session timers.Expiry = true
is_of_session (timers.Servlet id) = true
is_of_session (timers.Branch number) = true
is_of_session (timers.Client branch) = false
is_of_session (timers.Cancel branch) = false
is_of_session (timers.Server event) = false

-- those of sessions, and those of transactions
pub IsEvent : TimerName → Type 0
IsEvent timer = is_of_session timer ≡ true

pub IsOther : TimerName → Type 0
IsOther timer = is_of_session timer ≡ false

never-both : (b : Bool) → b ≡ true → b ≡ false → ⊥
never-both b p q = cc

pub not-both : (timer : TimerName) → IsEvent timer → IsOther timer → ⊥
unfolding IsEvent IsOther
not-both timer event other = never-both (is_of_session timer) event other

unfoldable pub All : {A : Type 0} → (A → Type 0) → List A → Type 0
All P [] = Unit {0}
All P (x ∷ xs) = P x × All P xs

pub all-both : {A : Type 0} (P : A → Type 0) (xs ys : List A) → All P xs → All P ys → All P (xs ++ ys)
unfolding All
all-both P [] ys p q = q
all-both P (x ∷ xs) ys p q = (p.0, all-both P xs ys p.1 q)

all-flat : {A B : Type 0} (P : B → Type 0) (f : A → List B) (xs : List A) → ((x : A) → All P (f x))
    → All P (flat_map f xs)
unfolding All
all-flat P f [] each = tt
all-flat P f (x ∷ xs) each = all-both P (f x) (flat_map f xs) (each x) (all-flat P f xs each)

-- of those that have it already
all-flat-of : {A B : Type 0} (Q : A → Type 0) (P : B → Type 0) (f : A → List B) (xs : List A) → ((x : A) → Q x → All P (f x))
    → All Q xs → All P (flat_map f xs)
unfolding All
all-flat-of Q P f [] each all = tt
all-flat-of Q P f (x ∷ xs) each all = all-both P (f x) (flat_map f xs) (each x all.0) (all-flat-of Q P f xs each all.1)

pub all-found : {A : Type 0} (P : A → Type 0) (test : A → Bool) (xs : List A) (x : A) → find test xs ≡ Some x → All P xs
    → P x
unfolding All
all-found P test [] x is all = cc
all-found {A = A} P test (y ∷ xs) x is all = by (test y) is (all-found P test xs x)
  where
    same : (y : A) → Some y ≡ Some x → y ≡ x
    same y is = cc

    by : (b : Bool) → cond b (Some y) (find test xs) ≡ Some x → (find test xs ≡ Some x → All P xs → P x) → P x
    by true is later = subst P (same y is) all.0
    by false is later = later is all.1

pub test-found : {A : Type 0} (test : A → Bool) (xs : List A) (x : A) → find test xs ≡ Some x → test x ≡ true
test-found test [] x is = cc
test-found {A = A} test (y ∷ xs) x is = by (test y) refl is (test-found test xs x)
  where
    same : (y : A) → Some y ≡ Some x → y ≡ x
    same y is = cc

    by : (b : Bool) → test y ≡ b → cond b (Some y) (find test xs) ≡ Some x → (find test xs ≡ Some x → test x ≡ true)
        → test x ≡ true
    by true at is later = subst (λ z. test z ≡ true) (same y is) at
    by false at is later = later is

HasEvent : SessionEntry → Type 0
HasEvent entry = IsEvent entry.timer

has-event : (entry : SessionEntry) → HasEvent entry → IsEvent entry.timer
unfolding HasEvent
has-event entry is = is

expiry-has : (due : Option ℕ) → All HasEvent (expiry_entry due)
unfolding All HasEvent IsEvent expiry_entry
expiry-has None = tt
expiry-has (Some due) = (refl, tt)

timer-has : (timer : TimerView) → All HasEvent (timer_entry timer ∷ [])
unfolding All HasEvent IsEvent timer_entry
timer-has timer = (refl, tt)

branch-has : (branch : Branch) → All HasEvent (branch_entry branch)
unfolding branch_entry All HasEvent IsEvent
branch-has branch = by branch.due
  where
    by : (due : Option ℕ) → All HasEvent (branch_entry (record branch { due = due }))
    by None = tt
    by (Some due) = (refl, tt)

entries-have : (session : Session) → All HasEvent (entries_of session)
unfolding entries_of
entries-have session =
    all-both HasEvent (expiry_entry session.view.expires ++ flat_map (λ timer. timer_entry timer ∷ []) session.view.timers) _
    (all-both HasEvent (expiry_entry session.view.expires) _ (expiry-has session.view.expires) (all-flat HasEvent (λ timer. timer_entry timer ∷ []) session.view.timers timer-has))
    (all-flat HasEvent (λ (proxy : Proxy). flat_map branch_entry proxy.branches) session.known.proxies (λ proxy. all-flat HasEvent branch_entry proxy.branches branch-has))

-- ## Each item is of its entry

unfoldable pub OfEntry : DueItem → DueEntry → Type 0
OfEntry (Of_session at event) entry = (is_same_app at entry.app ≡ true) × IsEvent entry.timer
OfEntry (Of_client client) entry = (entry.app ≡ client.app) × (entry.timer ≡ client_timer client)
OfEntry (Of_server server) entry = (entry.app ≡ server.app) × (entry.timer ≡ timers.Server server.event)

pub WellMade : Dated → Type 0
WellMade d = OfEntry d.item d.entry

dated-made : (app : AppId) (timer : TimerName) (item : DueItem) (due : Option ℕ)
    → ((at : ℕ) → OfEntry item (record { due = at; app = app; timer = timer }))
    → All WellMade (dated app timer item due)
unfolding dated All WellMade
dated-made app timer item None of = tt
dated-made app timer item (Some due) of = (of due, tt)

pub client-other : (branch : ℕ) (b : Bool) → IsOther (cond b (timers.Cancel branch) (timers.Client branch))
unfolding IsOther
client-other branch true = refl
client-other branch false = refl

pub server-other : (event : ℕ) → IsOther (timers.Server event)
unfolding IsOther
server-other event = refl

client-made : (client : Client) → All WellMade (client_dated client)
unfolding client_dated OfEntry
client-made client = dated-made client.app _ (Of_client client) (due_of_client client) (λ at. (refl, refl))

server-made : (server : Server) → All WellMade (server_dated server)
unfolding server_dated OfEntry
server-made server = dated-made server.app _ (Of_server server) (due_of_server server) (λ at. (refl, refl))

if-all : (b : Bool) (ds es : List Dated) → All WellMade ds → All WellMade es → All WellMade (cond b ds es)
if-all true ds es p q = p
if-all false ds es p q = q

none-made : All WellMade []
unfolding All
none-made = tt

module _ {S : Type 0} (form : Form S) where
  live-made : (number : ℕ) (live : Live S) → All WellMade (live_dated form number live)
  unfolding live_dated OfEntry
  live-made number live =
      all-flat-of HasEvent WellMade _ (entries_of (form.read live.session)) (λ entry event. if-all (is_fired live.fired entry.due entry.timer) [] _ none-made (one entry event)) (entries-have (form.read live.session))
    where
      one : (entry : SessionEntry) → HasEvent entry
          → All WellMade (dated (record { host = number; serial = live.serial }) entry.timer (Of_session (record { host = number; serial = live.serial }) entry.event) (Some entry.due))
      one entry event = dated-made (record { host = number; serial = live.serial }) entry.timer _ (Some entry.due) (λ at. (app-itself (record { host = number; serial = live.serial }), has-event entry event))

  host-made : (number : ℕ) (host : Host S) → All WellMade (host_dated form number host)
  unfolding host_dated
  host-made number host =
      all-both WellMade (flat_map client_dated host.clients ++ flat_map server_dated host.servers) _
      (all-both WellMade (flat_map client_dated host.clients) _ (all-flat WellMade client_dated host.clients client-made) (all-flat WellMade server_dated host.servers server-made))
      (all-flat WellMade (live_dated form number) host.sessions (live-made number))

  pub hosts-made : (hosts : List (Host S)) (number : ℕ) → All WellMade (hosts_dated form number hosts)
  unfolding hosts_dated All
  hosts-made [] number = tt
  hosts-made (host ∷ hosts) number = all-both WellMade (host_dated form number host) _ (host-made number host) (hosts-made hosts (number + 1))

-- ## An entry that runs is among all that runs

pub or-second : (a b : Bool) → b ≡ true → (a || b) ≡ true
or-second true b is = refl
or-second false b is = is

pub or-first : (a b : Bool) → a ≡ true → (a || b) ≡ true
or-first a b is = rw is refl

pub any-left : {A : Type 0} (test : A → Bool) (xs ys : List A) → list_any test xs ≡ true → list_any test (xs ++ ys) ≡ true
any-left test xs ys is = list_any-append test xs ys ∙ or-first _ _ is

pub any-right : {A : Type 0} (test : A → Bool) (xs ys : List A) → list_any test ys ≡ true → list_any test (xs ++ ys) ≡ true
any-right test xs ys is = list_any-append test xs ys ∙ or-second (list_any test xs) _ is

-- of one that is found
any-flat : {A B : Type 0} (test : B → Bool) (f : A → List B) (which : A → Bool) (xs : List A) (x : A)
    → find which xs ≡ Some x → list_any test (f x) ≡ true → list_any test (flat_map f xs) ≡ true
any-flat test f which [] x is has = cc
any-flat {A = A} test f which (y ∷ xs) x is has = by (which y) is (λ more. any-flat test f which xs x more has)
  where
    same : (y : A) → Some y ≡ Some x → x ≡ y
    same y is = cc

    by : (b : Bool) → cond b (Some y) (find which xs) ≡ Some x
        → (find which xs ≡ Some x → list_any test (flat_map f xs) ≡ true) → list_any test (f y ++ flat_map f xs) ≡ true
    by true is later = any-left test (f y) (flat_map f xs) (subst (λ z. list_any test (f z) ≡ true) (same y is) has)
    by false is later = any-right test (f y) (flat_map f xs) (later is)

pub any-in : {A B : Type 0} (test : B → Bool) (f : A → List B) (xs : List A) (x : A) → IsIn x xs
    → list_any test (f x) ≡ true → list_any test (flat_map f xs) ≡ true
unfolding IsIn
any-in test f [] x is has = absurd is
any-in test f (y ∷ xs) x (inl same) has = any-left test (f y) (flat_map f xs) (subst (λ z. list_any test (f z) ≡ true) same has)
any-in test f (y ∷ xs) x (inr later) has = any-right test (f y) (flat_map f xs) (any-in test f xs x later has)

all-in : {A : Type 0} (P : A → Type 0) (xs : List A) (x : A) → IsIn x xs → All P xs → P x
unfolding IsIn All
all-in P [] x is all = absurd is
all-in P (y ∷ xs) x (inl same) all = subst P (sym same) all.0
all-in P (y ∷ xs) x (inr later) all = all-in P xs x later all.1

-- what runs under this key
abbrev pub runs_as : DueEntry → Dated → Bool
runs_as key d = same_entry d.entry key

pub zero-more : (n : ℕ) → n + zero ≡ n
zero-more n = omega arith

pub from-none : (n : ℕ) → n ≡ 0 + n
from-none n = omega arith

pub one-more : (n i : ℕ) → n + suc i ≡ (n + 1) + i
one-more n i = omega arith

module _ {S : Type 0} (form : Form S) where
  pub hosts-have : (key : DueEntry) (hosts : List (Host S)) (number i : ℕ) (host : Host S) → slice_get hosts i ≡ Some host
      → list_any (runs_as key) (host_dated form (number + i) host) ≡ true
      → list_any (runs_as key) (hosts_dated form number hosts) ≡ true
  unfolding hosts_dated
  hosts-have key [] number i host is has = cc
  hosts-have key (first ∷ hosts) number zero host is has =
      any-left (runs_as key) (host_dated form number first) _ (subst (λ (h : Host S). list_any (runs_as key) (host_dated form number h) ≡ true) (same first host is) (subst (λ (n : ℕ). list_any (runs_as key) (host_dated form n host) ≡ true) (zero-more number) has))
    where
      same : (first host : Host S) → Some first ≡ Some host → host ≡ first
      same first host is = cc
  hosts-have key (first ∷ hosts) number (suc i) host is has =
      any-right (runs_as key) (host_dated form number first) _ (hosts-have key hosts (number + 1) i host is (subst (λ (n : ℕ). list_any (runs_as key) (host_dated form n host) ≡ true) (one-more number i) has))

  host-has : (key : DueEntry) (number : ℕ) (host : Host S) (serial : ℕ) (live : Live S)
      → find (is_live serial) host.sessions ≡ Some live → list_any (runs_as key) (live_dated form number live) ≡ true
      → list_any (runs_as key) (host_dated form number host) ≡ true
  unfolding host_dated
  host-has key number host serial live is has =
      any-right (runs_as key) (flat_map client_dated host.clients ++ flat_map server_dated host.servers) _ (any-flat (runs_as key) (live_dated form number) (is_live serial) host.sessions live is has)

  live-has : (number : ℕ) (live : Live S) (entry : SessionEntry) → IsIn entry (entries_of (form.read live.session))
      → is_fired live.fired entry.due entry.timer ≡ false
      → list_any (runs_as (key_of (record { host = number; serial = live.serial }) entry)) (live_dated form number live) ≡ true
  unfolding live_dated dated
  live-has number live entry is unfired =
      any-in (runs_as (key_of (record { host = number; serial = live.serial }) entry)) _ (entries_of (form.read live.session)) entry is (rw unfired (or-first _ false (same-itself _ _ refl)))

-- ## And among what is due

pub any-map : (key : DueEntry) (now : ℕ) (ds : List Dated) → is_due now key ≡ true → list_any (runs_as key) ds ≡ true
    → list_any (λ e. same_entry e key) (filter (is_due now) (map (λ d. d.entry) ds)) ≡ true
any-map key now [] due has = cc
any-map key now (d ∷ ds) due has = by (same_entry d.entry key) refl has (any-map key now ds due)
  where
    put : (b : Bool) → list_any (λ e. same_entry e key) (filter (is_due now) (map (λ d. d.entry) ds)) ≡ true
        → list_any (λ e. same_entry e key) (cond b (d.entry ∷ filter (is_due now) (map (λ d. d.entry) ds)) (filter (is_due now) (map (λ d. d.entry) ds))) ≡ true
    put true is = or-second (same_entry d.entry key) _ is
    put false is = is

    first : (b : Bool) → b ≡ true → same_entry d.entry key ≡ true
        → list_any (λ e. same_entry e key) (cond b (d.entry ∷ filter (is_due now) (map (λ d. d.entry) ds)) (filter (is_due now) (map (λ d. d.entry) ds))) ≡ true
    first true is at = or-first _ _ at
    first false is at = cc

    by : (b : Bool) → same_entry d.entry key ≡ b → (b || list_any (runs_as key) ds) ≡ true
        → (list_any (runs_as key) ds ≡ true → list_any (λ e. same_entry e key) (filter (is_due now) (map (λ d. d.entry) ds)) ≡ true)
        → list_any (λ e. same_entry e key) (filter (is_due now) (map (λ d. d.entry) (d ∷ ds))) ≡ true
    by true at has later = first (is_due now d.entry) (ap (is_due now) (same-is d.entry key at) ∙ due) at
    by false at has later = put (is_due now d.entry) (later has)

swap : (a b c : Bool) → a ≡ b → (a || (b || c)) ≡ true → (b || c) ≡ true
swap true b c same is = or-first b c (sym same)
swap false b c same is = is

later : (b a c d : Bool) → (a || (b || c)) ≡ true → ((a || c) ≡ true → d ≡ true) → (b || d) ≡ true
later true a c d is next = refl
later false true c d is next = next refl
later false false c d is next = next is

insert-has : (key k : DueEntry) (ks : List DueEntry) → (same_entry k key || list_any (λ e. same_entry e key) ks) ≡ true
    → list_any (λ e. same_entry e key) (insert_key due_order ks k) ≡ true
insert-has key k [] has = has
insert-has key k (x ∷ ks) has = by (due_order k x) refl (insert-has key k ks)
  where
    by : (o : Ordering) → due_order k x ≡ o
        → ((same_entry k key || list_any (λ e. same_entry e key) ks) ≡ true → list_any (λ e. same_entry e key) (insert_key due_order ks k) ≡ true)
        → list_any (λ e. same_entry e key) (match_ordering o (k ∷ x ∷ ks) (x ∷ ks) (x ∷ insert_key due_order ks k)) ≡ true
    by Less is more = has
    by Equal is more = swap (same_entry k key) (same_entry x key) _ (ap (λ e. same_entry e key) (exact k x is)) has
    by Greater is more = later (same_entry x key) (same_entry k key) (list_any (λ e. same_entry e key) ks) _ has more

pub ordered-has : (key : DueEntry) (ks : List DueEntry) → list_any (λ e. same_entry e key) ks ≡ true
    → list_any (λ e. same_entry e key) (in_order ks) ≡ true
unfolding in_order
ordered-has key [] has = has
ordered-has key (k ∷ ks) has = insert-has key k (in_order ks) (more (same_entry k key) (list_any (λ e. same_entry e key) ks) _ has (ordered-has key ks))
  where
    more : (a b c : Bool) → (a || b) ≡ true → (b ≡ true → c ≡ true) → (a || c) ≡ true
    more true b c is next = refl
    more false b c is next = next is

-- ## The item of the key is the session's

found-some : {A : Type 0} (test : A → Bool) (xs : List A) → list_any test xs ≡ true → (x : A) × (find test xs ≡ Some x)
found-some test [] has = cc
found-some {A = A} test (y ∷ xs) has = by (test y) has (found-some test xs)
  where
    by : (b : Bool) → (b || list_any test xs) ≡ true → (list_any test xs ≡ true → (x : A) × (find test xs ≡ Some x))
        → (x : A) × (cond b (Some y) (find test xs) ≡ Some x)
    by true has later = (y, refl)
    by false has later = later has

item-is : (app : AppId) (entry : SessionEntry) (d : Dated) (item : DueItem) → IsEvent entry.timer
    → OfEntry item d.entry → d.entry ≡ key_of app entry → is_event_of app item ≡ true
unfolding OfEntry is_event_of
item-is app entry d (Of_session at event) is of same = subst (λ (e : DueEntry). is_same_app at e.app ≡ true) same of.0
item-is app entry d (Of_client client) is of same =
    absurd (not-both entry.timer is (subst IsOther (sym of.1 ∙ ap (λ (e : DueEntry). e.timer) same) (client-other client.branch (is_cancel_client client))))
item-is app entry d (Of_server server) is of same =
    absurd (not-both entry.timer is (subst IsOther (sym of.1 ∙ ap (λ (e : DueEntry). e.timer) same) (server-other server.event)))

and-both : (a b : Bool) → a ≡ true → b ≡ true → (a && b) ≡ true
and-both a b p q = rw (p, q) refl

pub made-of : (d : Dated) → WellMade d → OfEntry d.item d.entry
unfolding WellMade
made-of d of = of

found-fires : (app : AppId) (entry : SessionEntry) (ds : List Dated) (d : Dated) → IsEvent entry.timer
    → All WellMade ds → find (λ d. same_entry d.entry (key_of app entry)) ds ≡ Some d
    → fires_key app (key_of app entry) d ≡ true
found-fires app entry ds d event made is =
    let same = test-found (runs_as (key_of app entry)) ds d is in
    and-both (is_event_of app d.item) (same_entry d.entry (key_of app entry))
    (item-is app entry d d.item event (made-of d (all-found WellMade (runs_as (key_of app entry)) ds d is made)) (same-is d.entry (key_of app entry) same)) same

-- what is found under a key is among the items
pub kept-has : (key : DueEntry) (test : Dated → Bool) (all : List Dated) (ks : List DueEntry)
    → ((d : Dated) → find (runs_as key) all ≡ Some d → test d ≡ true) → list_any (runs_as key) all ≡ true
    → list_any (λ e. same_entry e key) ks ≡ true
    → list_any test (filter_map (λ e. find (λ d. same_entry d.entry e) all) ks) ≡ true
kept-has key test all [] passes has is = cc
kept-has key test all (k ∷ ks) passes has is = by (same_entry k key) refl is (kept-has key test all ks passes has)
  where
    put : (found : Option Dated) → list_any test (filter_map (λ e. find (λ d. same_entry d.entry e) all) ks) ≡ true
        → list_any test (cons_option found (filter_map (λ e. find (λ d. same_entry d.entry e) all) ks)) ≡ true
    put None is = is
    put (Some d) is = or-second (test d) _ is

    at-key : (k : DueEntry) → k ≡ key
        → list_any test (cons_option (find (λ d. same_entry d.entry k) all) (filter_map (λ e. find (λ d. same_entry d.entry e) all) ks)) ≡ true
    at-key k same = let found = found-some (runs_as key) all has in rw (same, found.1) (or-first _ _ (passes found.0 found.1))

    by : (b : Bool) → same_entry k key ≡ b → (b || list_any (λ e. same_entry e key) ks) ≡ true
        → (list_any (λ e. same_entry e key) ks ≡ true → list_any test (filter_map (λ e. find (λ d. same_entry d.entry e) all) ks) ≡ true)
        → list_any test (filter_map (λ e. find (λ d. same_entry d.entry e) all) (k ∷ ks)) ≡ true
    by true at is later = at-key k (same-is k key at)
    by false at is later = put (find (λ d. same_entry d.entry k) all) (later is)

module _ {S : Type 0} (form : Form S) where
  -- an entry of a live session that is due, and had no event, is one of the items
  pub due-fires : (net : Net S) (now : ℕ) (app : AppId) (host : Host S) (live : Live S) (entry : SessionEntry)
      → host_at app.host net ≡ Some host → find (is_live app.serial) host.sessions ≡ Some live
      → IsIn entry (entries_of (form.read live.session)) → nat_le entry.due now ≡ true
      → is_fired live.fired entry.due entry.timer ≡ false
      → list_any (fires_key app (key_of app entry)) (due_items form now net) ≡ true
  unfolding due_items all_dated
  due-fires net now app host live entry at is within due unfired =
      let named : record { host = app.host; serial = live.serial } ≡ app = ap (λ (n : ℕ). record { host = app.host; serial = n }) (serial-is live.serial app.serial (test-found (is_live app.serial) host.sessions live is)) in
      let runs : list_any (runs_as (key_of app entry)) (live_dated form app.host live) ≡ true =
      subst (λ (a : AppId). list_any (runs_as (key_of a entry)) (live_dated form app.host live) ≡ true) named (live-has form app.host live entry within unfired) in
      let has : list_any (runs_as (key_of app entry)) (hosts_dated form 0 net.hosts) ≡ true = hosts-have form (key_of app entry) net.hosts 0 app.host host at (subst (λ (n : ℕ). list_any (runs_as (key_of app entry)) (host_dated form n host) ≡ true) (from-none app.host) (host-has form (key_of app entry) app.host host app.serial live is runs)) in
      let event : IsEvent entry.timer = has-event entry (all-in HasEvent (entries_of (form.read live.session)) entry within (entries-have (form.read live.session))) in
      kept-has (key_of app entry) (fires_key app (key_of app entry)) (hosts_dated form 0 net.hosts) _ (λ d found. found-fires app entry (hosts_dated form 0 net.hosts) d event (hosts-made form net.hosts 0) found) has
      (ordered-has (key_of app entry) _ (any-map (key_of app entry) now (hosts_dated form 0 net.hosts) due has))
    where
      serial-is : (a b : ℕ) → (a == b) ≡ true → a ≡ b
      serial-is a b is = grind (arith, nat_tests, is)
