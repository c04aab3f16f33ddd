-- The first item of each key that is due, in the order of the keys.
use Rattle.std.proofs.Common.{◌≡◌, ◌≢◌, ◌+◌, ℕ, Bool, true, false, ◌&&◌, T, Option, None, List, [], ◌∷◌, ◌++◌, Some, map, refl, sym, ap, subst, ◌∙◌, arith}
use Rattle.std.proofs.lemmas.Bool.{false≢true}
use Rattle.std.proofs.lemmas.Bool.Decides.{nat_tests}
use Rattle.std.proofs.lemmas.Cmp.{tied_itself}
use Rattle.std.specs.Prelude.{filter, nat_le, ⊤, if◌then◌else◌}
use Rattle.std.specs.declared.cmp.Ordering.{Ordering}
use Rattle.std.specs.declared.cmp.Ordering.TheVariants.{Less, Equal, Greater}
use Rattle.std.specs.BTreeMap.{insert_entry}
use Rattle.std.specs.BTreeSet.{insert_key}
use Rattle.std.specs.FinMap.Entries.{below_all}
use Rattle.std.specs.List.{find, filter_map, flat_map}
use Rattle.std.specs.Map.{keys_of, values_of}
use Rattle.std.specs.Ordering.{is_eq, is_lt, is_gt, match_ordering}
use Rattle.sc_model.specs.Timers.{DueEntry, due_order, in_order, is_due}
use Rattle.sc_model.proofs.DueLaws.{total, exact, rises-in_order, rises_after}
use Rattle.sc_model.proofs.RisingKeys.{marked, rises}
use Rattle.sc_state.specs.declared.net.Net.{Net}
use Rattle.sc_state.specs.declared.session.Session.{Session}
use Rattle.sc_hosts.specs.Histories.{as_session}
use Rattle.sc_hosts.specs.Ticks.{DueItem, Of_session, Of_client, Of_server, Dated, dated_entry as dated, same_entry, is_fired, client_timer, client_dated, server_dated, live_dated, host_dated, hosts_dated, all_dated, due_items}
use Rattle.sc_hosts.specs.Transacting.{due_of_client, due_of_server}
use Rattle.sc_value.specs.declared.ids.AppId.{AppId}
use Rattle.sc_book.specs.Words.{is_before}
use Rattle.sc_parts.specs.declared.timers.TimerName.{TimerName}
use Rattle.sc_parts.specs.declared.timers.TimerName.TheVariants as timers
use Rattle.sc_state.specs.declared.host.Client.{Client}
use Rattle.sc_state.specs.declared.host.Fired.{Fired}
use Rattle.sc_state.specs.declared.host.Live.{Live}
use Rattle.sc_state.specs.declared.host.Server.{Server}
use Rattle.sc_state.specs.Entries.{SessionEntry, due_of_entry, entries_of, least_due, lower}
use Rattle.sc_state.specs.Hosts.{Host}
use Rattle.sc_ticks.specs.Due.{host_due, hosts_due}
use Rattle.sc_ticks.specs.Firsts.{kept_first, kept_firsts}

-- ## Keys that are the same, and keys that aren't

tied : (o : Ordering) → is_eq o ≡ true → o ≡ Equal
tied Equal h = refl
tied Less h = absurd (false≢true h)
tied Greater h = absurd (false≢true h)

same-is : (a b : DueEntry) → same_entry a b ≡ true → a ≡ b
unfolding same_entry
same-is a b e = exact a b (tied (due_order a b) e)

same-itself : (a b : DueEntry) → a ≡ b → same_entry a b ≡ true
unfolding same_entry
same-itself a b e = subst (λ (x : DueEntry). is_eq (due_order a x) ≡ true) e (ap is_eq (tied_itself total a))

apart-by : (a b : DueEntry) (s : Bool) → same_entry a b ≡ s → due_order a b ≢ Equal → same_entry a b ≡ false
apart-by a b true e h = absurd (h (subst (λ x. due_order a x ≡ Equal) (same-is a b e) (tied_itself total a)))
apart-by a b false e h = e

apart : (a b : DueEntry) → due_order a b ≢ Equal → same_entry a b ≡ false
apart a b h = apart-by a b (same_entry a b) refl h

less-unlike : Less ≢ Equal
less-unlike h = subst (λ (o : Ordering). T (is_lt o)) h tt

greater-unlike : Greater ≢ Equal
greater-unlike h = subst (λ (o : Ordering). T (is_gt o)) h tt

below-apart : (a b : DueEntry) → due_order a b ≡ Less → same_entry a b ≡ false
below-apart a b o = apart a b (λ e. less-unlike (sym o ∙ e))

above-apart : (a b : DueEntry) → due_order a b ≡ Greater → same_entry a b ≡ false
above-apart a b o = apart a b (λ e. greater-unlike (sym o ∙ e))

-- ## Keys above another

less-from : (o : Ordering) → T (is_lt o) → o ≡ Less
less-from Less h = refl
less-from Equal h = absurd h
less-from Greater h = absurd h

and-first : (a b : Bool) → T (a && b) → T a
and-first true b h = tt
and-first false b h = absurd h

and-second : (a b : Bool) → T (a && b) → T b
and-second true b h = h
and-second false b h = absurd h

-- it holds of each
abbrev Each : {A : Type 0} → (A → Type 0) → List A → Type 0
Each P [] = ⊤
Each P (x ∷ xs) = P x × Each P xs

-- the keys of the entries are above
abbrev Above : DueEntry → List (DueEntry × Dated) → Type 0
Above key es = Each (λ e. due_order key e.0 ≡ Less) es

above : (key : DueEntry) (es : List (DueEntry × Dated)) → T (below_all due_order key (marked (keys_of es))) → Above key es
above key [] h = tt
above key (e ∷ es) h = (less-from _ (and-first _ _ h), above key es (and-second _ _ h))

above-below : (a b : DueEntry) (es : List (DueEntry × Dated)) → due_order a b ≡ Less → Above b es → Above a es
above-below a b [] o h = tt
above-below a b (e ∷ es) o h = (total.trans a b e.0 o h.0, above-below a b es o h.1)

-- ## What is kept

-- the first item of its key, which is due
abbrev IsFirst : ℕ → List Dated → DueEntry × Dated → Type 0
IsFirst now ds e = (find (λ d. same_entry d.entry e.0) ds ≡ Some e.1) × (is_due now e.0 ≡ true)

found-later : (x : Dated) (ds : List Dated) (key : DueEntry) → same_entry x.entry key ≡ false → find (λ d. same_entry d.entry key) (x ∷ ds) ≡ find (λ d. same_entry d.entry key) ds
found-later x ds key e = rw e refl

found-first : (x : Dated) (ds : List Dated) (key : DueEntry) → x.entry ≡ key → find (λ d. same_entry d.entry key) (x ∷ ds) ≡ Some x
found-first x ds key e = rw (same-itself x.entry key e) refl

still-first : (now : ℕ) (x : Dated) (ds : List Dated) (e : DueEntry × Dated) → same_entry x.entry e.0 ≡ false → IsFirst now ds e → IsFirst now (x ∷ ds) e
still-first now x ds e a h = (found-later x ds e.0 a ∙ h.0, h.1)

all-still : (now : ℕ) (x : Dated) (ds : List Dated) (es : List (DueEntry × Dated)) → Above x.entry es → Each (IsFirst now ds) es → Each (IsFirst now (x ∷ ds)) es
all-still now x ds [] a h = tt
all-still now x ds (e ∷ es) a h = (still-first now x ds e (below-apart x.entry e.0 a.0) h.0, all-still now x ds es a.1 h.1)

insert-at : (now : ℕ) (x : Dated) (ds : List Dated) (e : DueEntry × Dated) (es : List (DueEntry × Dated)) (o : Ordering) → due_order x.entry e.0 ≡ o → is_due now x.entry ≡ true
    → Above e.0 es → Each (IsFirst now ds) (e ∷ es) → Each (IsFirst now (x ∷ ds)) (insert_entry due_order es x.entry x)
    → Each (IsFirst now (x ∷ ds)) (match_ordering o ((x.entry, x) ∷ e ∷ es) ((e.0, x) ∷ es) (e ∷ insert_entry due_order es x.entry x))
insert-at now x ds e es Less o due a h later =
    ((found-first x ds x.entry refl, due), all-still now x ds (e ∷ es) (o, above-below x.entry e.0 es o a) h)
insert-at now x ds e es Equal o due a h later =
    let same = exact x.entry e.0 o in
    ((found-first x ds e.0 same, h.0.1), all-still now x ds es (subst (λ k. Above k es) (sym same) a) h.1)
insert-at now x ds e es Greater o due a h later = (still-first now x ds e (above-apart x.entry e.0 o) h.0, later)

inserted : (now : ℕ) (x : Dated) (ds : List Dated) (es : List (DueEntry × Dated)) → is_due now x.entry ≡ true → rises due_order (keys_of es)
    → Each (IsFirst now ds) es → Each (IsFirst now (x ∷ ds)) (insert_entry due_order es x.entry x)
inserted now x ds [] due up h = ((found-first x ds x.entry refl, due), tt)
inserted now x ds (e ∷ es) due up h =
    let after = rises_after e.0 (keys_of es) up in
    insert-at now x ds e es (due_order x.entry e.0) refl due (above e.0 es after.0) h (inserted now x ds es due after.1 h.1)

-- an item that isn't due is the first of no key that is kept
late-apart : (now : ℕ) (a b : DueEntry) (s : Bool) → same_entry a b ≡ s → is_due now a ≡ false → is_due now b ≡ true → same_entry a b ≡ false
late-apart now a b true e late due = absurd (false≢true (sym late ∙ ap (is_due now) (same-is a b e) ∙ due))
late-apart now a b false e late due = e

late-still : (now : ℕ) (x : Dated) (ds : List Dated) (es : List (DueEntry × Dated)) → is_due now x.entry ≡ false → Each (IsFirst now ds) es → Each (IsFirst now (x ∷ ds)) es
late-still now x ds [] late h = tt
late-still now x ds (e ∷ es) late h =
    (still-first now x ds e (late-apart now x.entry e.0 (same_entry x.entry e.0) refl late h.0.1) h.0, late-still now x ds es late h.1)

-- ## The keys that are kept

keys-insert : (key : DueEntry) (x : Dated) (es : List (DueEntry × Dated)) → keys_of (insert_entry due_order es key x) ≡ insert_key due_order (keys_of es) key
keys-insert key x [] = refl
keys-insert key x (e ∷ es) = elim (due_order key e.0) as (λ o. keys_of (match_ordering o ((key, x) ∷ e ∷ es) ((e.0, x) ∷ es) (e ∷ insert_entry due_order es key x)) ≡ match_ordering o (key ∷ e.0 ∷ keys_of es) (e.0 ∷ keys_of es) (e.0 ∷ insert_key due_order (keys_of es) key))
    [ Less ↦ refl | Equal ↦ refl | Greater ↦ ap (λ l. e.0 ∷ l) (keys-insert key x es) ]

abbrev due-keys : ℕ → List Dated → List DueEntry
due-keys now ds = filter (is_due now) (map (λ d. d.entry) ds)

key-kept : (now : ℕ) (x : Dated) (ds : List Dated) (b : Bool) → is_due now x.entry ≡ b → keys_of (kept_firsts now [] ds) ≡ in_order (due-keys now ds)
    → keys_of (kept_firsts now [] (x ∷ ds)) ≡ in_order (due-keys now (x ∷ ds))
unfolding kept_first kept_firsts in_order
key-kept now x ds true e later = rw (e, keys-insert x.entry x (kept_firsts now [] ds), later) refl
key-kept now x ds false e later = rw (e, later) refl

keys-kept : (now : ℕ) (ds : List Dated) → keys_of (kept_firsts now [] ds) ≡ in_order (due-keys now ds)
unfolding kept_firsts in_order
keys-kept now [] = refl
keys-kept now (x ∷ ds) = key-kept now x ds (is_due now x.entry) refl (keys-kept now ds)

first-kept : (now : ℕ) (x : Dated) (ds : List Dated) (b : Bool) → is_due now x.entry ≡ b → Each (IsFirst now ds) (kept_firsts now [] ds) → Each (IsFirst now (x ∷ ds)) (kept_firsts now [] (x ∷ ds))
unfolding kept_first kept_firsts
first-kept now x ds true e later =
    rw e (inserted now x ds (kept_firsts now [] ds) e (subst (rises due_order) (sym (keys-kept now ds)) (rises-in_order (due-keys now ds))) later)
first-kept now x ds false e later = rw e (late-still now x ds (kept_firsts now [] ds) e later)

firsts-kept : (now : ℕ) (ds : List Dated) → Each (IsFirst now ds) (kept_firsts now [] ds)
unfolding kept_firsts
firsts-kept now [] = tt
firsts-kept now (x ∷ ds) = first-kept now x ds (is_due now x.entry) refl (firsts-kept now ds)

values-found : (now : ℕ) (ds : List Dated) (es : List (DueEntry × Dated)) → Each (IsFirst now ds) es → values_of es ≡ filter_map (λ entry. find (λ d. same_entry d.entry entry) ds) (keys_of es)
values-found now ds [] h = refl
values-found now ds (e ∷ es) h = rw (filter_map, h.0.0) (ap (λ l. e.1 ∷ l) (values-found now ds es h.1))

all_kept : (now : ℕ) (net : Net Session) → values_of (kept_firsts now [] (all_dated as_session net)) ≡ due_items as_session now net
unfolding due_items
all_kept now net =
    let all = all_dated as_session net in
    values-found now all (kept_firsts now [] all) (firsts-kept now all) ∙ ap (filter_map (λ entry. find (λ d. same_entry d.entry entry) all)) (keys-kept now all)

-- ## What isn't due plays no part

-- one list after the other
kept-joined : (now : ℕ) (kept : List (DueEntry × Dated)) (xs ys : List Dated) → kept_firsts now kept (xs ++ ys) ≡ kept_firsts now (kept_firsts now kept ys) xs
unfolding kept_firsts
kept-joined now kept [] ys = refl
kept-joined now kept (x ∷ xs) ys = ap (kept_first now x) (kept-joined now kept xs ys)

-- these do nothing
abbrev Idle : ℕ → List Dated → Type 0
Idle now ds = (kept : List (DueEntry × Dated)) → kept_firsts now kept ds ≡ kept

idle-one : (now : ℕ) (app : AppId) (timer : TimerName) (item : DueItem) (due : Option ℕ) → is_before (now + 1) due ≡ false → Idle now (dated app timer item due)
unfolding kept_firsts kept_first dated
idle-one now app timer item None e kept = refl
idle-one now app timer item (Some due) e kept = let late : nat_le due now ≡ false = grind (arith, nat_tests, e) in rw late refl

idle-both : (now : ℕ) (xs ys : List Dated) → Idle now xs → Idle now ys → Idle now (xs ++ ys)
idle-both now xs ys a b kept = kept-joined now kept xs ys ∙ ap (λ k. kept_firsts now k xs) (b kept) ∙ a kept

-- those that may be due do what all do
one-due : {X : Type 0} (now : ℕ) (all : X → List Dated) (may : X → Bool) (x : X) (xs : List X) (kept : List (DueEntry × Dated)) (b : Bool) → may x ≡ b → (may x ≡ false → Idle now (all x))
    → ((kept : List (DueEntry × Dated)) → kept_firsts now kept (flat_map all (filter may xs)) ≡ kept_firsts now kept (flat_map all xs))
    → kept_firsts now kept (flat_map all (filter may (x ∷ xs))) ≡ kept_firsts now kept (flat_map all (x ∷ xs))
one-due now all may x xs kept true e idle later =
    rw e (kept-joined now kept (all x) (flat_map all (filter may xs)) ∙ ap (λ k. kept_firsts now k (all x)) (later kept) ∙ sym (kept-joined now kept (all x) (flat_map all xs)))
one-due now all may x xs kept false e idle later =
    rw e (later kept ∙ sym (idle e (kept_firsts now kept (flat_map all xs))) ∙ sym (kept-joined now kept (all x) (flat_map all xs)))

some-due : {X : Type 0} (now : ℕ) (all : X → List Dated) (may : X → Bool) → ((x : X) → may x ≡ false → Idle now (all x)) → (xs : List X) (kept : List (DueEntry × Dated))
    → kept_firsts now kept (flat_map all (filter may xs)) ≡ kept_firsts now kept (flat_map all xs)
some-due now all may idle [] kept = refl
some-due now all may idle (x ∷ xs) kept = one-due now all may x xs kept (may x) refl (idle x) (some-due now all may idle xs)

client-idle : (now : ℕ) (client : Client) → is_before (now + 1) (due_of_client client) ≡ false → Idle now (client_dated client)
unfolding client_dated
client-idle now client e = idle-one now client.app (client_timer client) (Of_client client) (due_of_client client) e

server-idle : (now : ℕ) (server : Server) → is_before (now + 1) (due_of_server server) ≡ false → Idle now (server_dated server)
unfolding server_dated
server-idle now server e = idle-one now server.app (timers.Server server.event) (Of_server server) (due_of_server server) e

-- of two moments neither is before another where the lower one isn't
first-late : (past : ℕ) (a b : Option ℕ) → is_before past (lower a b) ≡ false → is_before past a ≡ false
first-late past None b h = refl
first-late past (Some x) None h = h
first-late past (Some x) (Some y) h = grind (arith, nat_tests, h)

second-late : (past : ℕ) (a b : Option ℕ) → is_before past (lower a b) ≡ false → is_before past b ≡ false
second-late past None b h = h
second-late past (Some x) None h = refl
second-late past (Some x) (Some y) h = grind (arith, nat_tests, h)

abbrev entry_of : AppId → List Fired → SessionEntry → List Dated
entry_of app fired entry = if is_fired fired entry.due entry.timer then [] else dated app entry.timer (Of_session app entry.event) (Some entry.due)

entry-idle : (now : ℕ) (app : AppId) (fired : List Fired) (entry : SessionEntry) (b : Bool) → is_fired fired entry.due entry.timer ≡ b → is_before (now + 1) (due_of_entry fired entry) ≡ false → Idle now (entry_of app fired entry)
unfolding kept_firsts
entry-idle now app fired entry true e late kept = rw e refl
entry-idle now app fired entry false e late kept =
    let own : is_before (now + 1) (Some entry.due) ≡ false = sym (ap (λ t. is_before (now + 1) (if t then None else Some entry.due)) e) ∙ late in
    ap (λ t. kept_firsts now kept (if t then [] else dated app entry.timer (Of_session app entry.event) (Some entry.due))) e ∙ idle-one now app entry.timer (Of_session app entry.event) (Some entry.due) own kept

entries-idle : (now : ℕ) (app : AppId) (fired : List Fired) (entries : List SessionEntry) → is_before (now + 1) (least_due fired entries) ≡ false → Idle now (flat_map (entry_of app fired) entries)
unfolding least_due kept_firsts
entries-idle now app fired [] late = λ kept. refl
entries-idle now app fired (entry ∷ entries) late =
    idle-both now (entry_of app fired entry) (flat_map (entry_of app fired) entries)
    (entry-idle now app fired entry (is_fired fired entry.due entry.timer) refl (first-late (now + 1) (due_of_entry fired entry) (least_due fired entries) late))
    (entries-idle now app fired entries (second-late (now + 1) (due_of_entry fired entry) (least_due fired entries) late))

live-idle : (now number : ℕ) (live : Live Session) → is_before (now + 1) (least_due live.fired (entries_of live.session)) ≡ false → Idle now (live_dated as_session number live)
unfolding live_dated as_session
live-idle now number live late = entries-idle now (record { host = number; serial = live.serial }) live.fired (entries_of live.session) late

host-due : (now number : ℕ) (host : Host Session) (kept : List (DueEntry × Dated)) → kept_firsts now kept (host_due (now + 1) number host) ≡ kept_firsts now kept (host_dated as_session number host)
unfolding host_due host_dated
host-due now number host kept =
    let clients = some-due now client_dated (λ client. is_before (now + 1) (due_of_client client)) (client-idle now) host.clients in
    let servers = some-due now server_dated (λ server. is_before (now + 1) (due_of_server server)) (server-idle now) host.servers in
    let lives = some-due now (live_dated as_session number) (λ live. is_before (now + 1) (least_due live.fired (entries_of live.session))) (live-idle now number) host.sessions in
    three-joined _ _ _ _ _ _ clients servers lives
  where
    three-joined : (a b c d e f : List Dated) → ((k : List (DueEntry × Dated)) → kept_firsts now k a ≡ kept_firsts now k b) → ((k : List (DueEntry × Dated)) → kept_firsts now k c ≡ kept_firsts now k d)
        → ((k : List (DueEntry × Dated)) → kept_firsts now k e ≡ kept_firsts now k f) → kept_firsts now kept (a ++ c ++ e) ≡ kept_firsts now kept (b ++ d ++ f)
    three-joined a b c d e f one two three =
        kept-joined now kept (a ++ c) e ∙ ap (λ k. kept_firsts now k (a ++ c)) (three kept) ∙ kept-joined now (kept_firsts now kept f) a c
        ∙ ap (λ k. kept_firsts now k a) (two (kept_firsts now kept f)) ∙ one (kept_firsts now (kept_firsts now kept f) d)
        ∙ sym (kept-joined now (kept_firsts now kept f) b d) ∙ sym (kept-joined now kept (b ++ d) f)

hosts-due : (now number : ℕ) (hosts : List (Host Session)) (kept : List (DueEntry × Dated)) → kept_firsts now kept (hosts_due (now + 1) number hosts) ≡ kept_firsts now kept (hosts_dated as_session number hosts)
unfolding hosts_due hosts_dated
hosts-due now number [] kept = refl
hosts-due now number (host ∷ hosts) kept =
    kept-joined now kept (host_due (now + 1) number host) (hosts_due (now + 1) (number + 1) hosts)
    ∙ ap (λ k. kept_firsts now k (host_due (now + 1) number host)) (hosts-due now (number + 1) hosts kept)
    ∙ host-due now number host (kept_firsts now kept (hosts_dated as_session (number + 1) hosts))
    ∙ sym (kept-joined now kept (host_dated as_session number host) (hosts_dated as_session (number + 1) hosts))

pub due_kept : (now past : ℕ) (net : Net Session) → past ≡ now + 1 → values_of (kept_firsts now [] (hosts_due past 0 net.hosts)) ≡ due_items as_session now net
unfolding all_dated
due_kept now past net is = ap (λ p. values_of (kept_firsts now [] (hosts_due p 0 net.hosts))) is ∙ ap values_of (hosts-due now 0 net.hosts []) ∙ all_kept now net

-- ## From the last on

pub kept_last : (now : ℕ) (kept : List (DueEntry × Dated)) (ds : List Dated) (x : Dated) → kept_firsts now kept (ds ++ x ∷ []) ≡ kept_firsts now (kept_first now x kept) ds
unfolding kept_firsts
kept_last now kept [] x = refl
kept_last now kept (d ∷ ds) x = ap (kept_first now d) (kept_last now kept ds x)

pub kept_none : (now : ℕ) (kept : List (DueEntry × Dated)) → kept_firsts now kept [] ≡ kept
unfolding kept_firsts
kept_none now kept = refl
