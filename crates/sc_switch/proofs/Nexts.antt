-- The event that is next among those without a lease, host by host and session by session.
use Rattle.std.proofs.Common.{◌≡◌, ◌==◌, ℕ, ◌+◌, ◌<◌, ◌≤◌, Bool, true, false, not, Option, None, Some, List, [], ◌∷◌, filter, length, drop, get_or, refl, sym, ap, ◌∙◌, arith, if◌then◌else◌}
use Rattle.std.proofs.lemmas.List.{drop_more}
use Rattle.std.proofs.lemmas.List.Elements.{filter-append}
use Rattle.std.proofs.lemmas.List.Sums.{fold-append}
use Rattle.std.proofs.Math.ListN.{drop_of_length-le}
use Rattle.std.proofs.lemmas.Bool.Decides.{nat_tests}
use Rattle.std.specs.Prelude.{nat_lt, slice_get}
use Rattle.std.specs.List.{filter_map, fold}
use Rattle.sc_book.specs.Words.{earliest, is_among, is_free, sooner}
use Rattle.sc_state.specs.declared.queue.Waiting.{Waiting}
use Rattle.sc_state.specs.Keeping.{first_number}
use Rattle.sc_state.specs.Hosts.{Host}
use Rattle.sc_state.specs.declared.host.Live.{Live}
use Rattle.sc_state.specs.declared.net.Net.{Net}
use Rattle.sc_state.specs.declared.session.Session.{Session}
use Rattle.sc_servlets.specs.declared.lease.Lease.{Lease}
use Rattle.sc_runs.specs.Next.{Next, next_of, next_from, next_events, earlier, lowest}
use Rattle.sc_leases.specs.Leases.{is_leased, next_free}
use Rattle.sc_switch.specs.Offering.{better, leased_at, with_next, with_live, with_host, with_hosts}

-- ## The loop over hosts

pub with_later : (kept : List Lease) (number : ℕ) (best : Option Next) (hosts : List (Host Session)) (i : ℕ) (d : Host Session) → i < length hosts
    → with_hosts kept number best (drop i hosts) ≡ with_hosts kept (number + 1) (with_host kept number best (get_or hosts i d)) (drop (i + 1) hosts)
unfolding with_hosts
with_later kept number best hosts i d below = rw (drop_more hosts i d below) refl

pub with_none : (kept : List Lease) (number : ℕ) (best : Option Next) (hosts : List (Host Session)) (i : ℕ) → length hosts ≤ i → with_hosts kept number best (drop i hosts) ≡ best
unfolding with_hosts
with_none kept number best hosts i past = rw (drop_of_length-le hosts past) refl

-- ## The lowest

abbrev free : List Lease → Next → Bool
free kept next = not (is_leased kept next.app)

best-some : (next : Next) (others : List Next) → fold better (Some next) others ≡ Some (fold earlier next others)
unfolding better
best-some next [] = refl
best-some next (other ∷ others) = best-some (earlier next other) others

best-lowest : (nexts : List Next) → fold better None nexts ≡ lowest nexts
unfolding lowest better
best-lowest [] = refl
best-lowest (next ∷ others) = best-some next others

-- one that is looked at, and then the others
one-more : (kept : List Lease) (best : Option Next) (next : Next) (others : List Next) (b : Bool) → is_leased kept next.app ≡ b
    → fold better best (filter (free kept) (next ∷ others)) ≡ fold better (if b then best else better best next) (filter (free kept) others)
one-more kept best next others true e = rw e refl
one-more kept best next others false e = rw e refl

taken-next : (kept : List Lease) (best : Option Next) (o : Option Next) (others : List Next) → (tail : List Next) → tail ≡ others
    → (live : Live Session) (lives : List (Live Session)) (number : ℕ) → next_of number live ≡ o → filter_map (next_of number) lives ≡ others
    → fold better best (filter (free kept) (filter_map (next_of number) (live ∷ lives))) ≡ fold better (with_next kept best o) (filter (free kept) others)
unfolding with_next
taken-next kept best None others tail same live lives number e rest = rw (e, rest) refl
taken-next kept best (Some next) others tail same live lives number e rest = rw (e, rest) (one-more kept best next others (is_leased kept next.app) refl)

by-sessions : (kept : List Lease) (number : ℕ) (best : Option Next) (lives : List (Live Session))
    → fold better best (filter (free kept) (filter_map (next_of number) lives)) ≡ fold (with_live kept number) best lives
unfolding with_live
by-sessions kept number best [] = refl
by-sessions kept number best (live ∷ lives) =
    taken-next kept best (next_of number live) (filter_map (next_of number) lives) _ refl live lives number refl refl
    ∙ by-sessions kept number (with_next kept best (next_of number live)) lives

by-hosts : (kept : List Lease) (number : ℕ) (best : Option Next) (hosts : List (Host Session))
    → fold better best (filter (free kept) (next_from number hosts)) ≡ with_hosts kept number best hosts
unfolding next_from with_hosts with_host
by-hosts kept number best [] = refl
by-hosts kept number best (host ∷ hosts) =
    ap (fold better best) (filter-append (free kept) (filter_map (next_of number) host.sessions) (next_from (number + 1) hosts))
    ∙ fold-append better best (filter (free kept) (filter_map (next_of number) host.sessions)) (filter (free kept) (next_from (number + 1) hosts))
    ∙ ap (λ b. fold better b (filter (free kept) (next_from (number + 1) hosts))) (by-sessions kept number best host.sessions)
    ∙ by-hosts kept (number + 1) (fold (with_live kept number) best host.sessions) hosts

pub next_of_hosts : (kept : List Lease) (net : Net Session) → next_free net kept ≡ with_hosts kept 0 None net.hosts
unfolding next_free next_events
next_of_hosts kept net = sym (best-lowest (filter (free kept) (next_from 0 net.hosts))) ∙ by-hosts kept 0 None net.hosts

-- ## One host, by its lowest number

-- the sessions of a host that are leased are those of its leases
among_one : (number serial : ℕ) (lease : Lease) (kept : List Lease) (b : Bool) → (lease.app.host == number) ≡ b → is_among (leased_at number kept) serial ≡ is_leased kept (record { host = number; serial = serial })
    → is_among (leased_at number (lease ∷ kept)) serial ≡ is_leased (lease ∷ kept) (record { host = number; serial = serial })
unfolding leased_at is_leased
among_one number serial lease kept true e later = rw (e, later) refl
among_one number serial lease kept false e later = rw (e, later) refl

among_leased : (number serial : ℕ) (kept : List Lease) → is_among (leased_at number kept) serial ≡ is_leased kept (record { host = number; serial = serial })
unfolding leased_at is_leased
among_leased number serial [] = refl
among_leased number serial (lease ∷ kept) = among_one number serial lease kept (lease.app.host == number) refl (among_leased number serial kept)

-- the event of a session of this host
abbrev event_of : ℕ → ℕ × ℕ → Next
event_of number pair = record { app = record { host = number; serial = pair.1 }; number = pair.0 }

-- with the next one, where there is one
abbrev joined : ℕ → Option Next → Option (ℕ × ℕ) → Option Next
joined number best None = best
joined number best (Some pair) = better best (event_of number pair)

through : (a b c : ℕ) → nat_lt b a ≡ true → nat_lt c b ≡ true → nat_lt c a ≡ true
through a b c h k = grind (arith, nat_tests, h, k)

past : (a b c : ℕ) → nat_lt b a ≡ false → nat_lt c b ≡ false → nat_lt c a ≡ false
past a b c h k = grind (arith, nat_tests, h, k)

-- the earliest of three is found from either side
three : (a b c : Next) (p q : Bool) → nat_lt b.number a.number ≡ p → nat_lt c.number b.number ≡ q → earlier (earlier a b) c ≡ earlier a (earlier b c)
unfolding earlier
three a b c true true h k = let far : nat_lt c.number a.number ≡ true = through a.number b.number c.number h k in rw (h, k, far) refl
three a b c true false h k = rw (h, k, h) refl
three a b c false true h k = rw (h, k) refl
three a b c false false h k = let far : nat_lt c.number a.number ≡ false = past a.number b.number c.number h k in rw (h, k, far, h) refl

kept_two : (number : ℕ) (best : Option Next) (pair other : ℕ × ℕ) (b : Bool) → nat_lt other.0 pair.0 ≡ b
    → better (better best (event_of number pair)) (event_of number other) ≡ joined number best (if b then Some other else Some pair)
unfolding better earlier
kept_two number None pair other true e = rw e refl
kept_two number None pair other false e = rw e refl
kept_two number (Some best) pair other true e = ap Some (three best (event_of number pair) (event_of number other) (nat_lt pair.0 best.number) true refl e ∙ rw e refl)
kept_two number (Some best) pair other false e = ap Some (three best (event_of number pair) (event_of number other) (nat_lt pair.0 best.number) false refl e ∙ rw e refl)

-- one that isn't leased before the others
kept_one : (number : ℕ) (best : Option Next) (pair : ℕ × ℕ) (others : Option (ℕ × ℕ)) → joined number (better best (event_of number pair)) others ≡ joined number best (sooner (Some pair) others)
kept_one number best pair None = refl
kept_one number best pair (Some other) = kept_two number best pair other (nat_lt other.0 pair.0) refl

-- the earliest event of the sessions that aren't leased
abbrev earliest_free : List ℕ → List (Live Session) → Option (ℕ × ℕ)
earliest_free leased lives = earliest (λ live. live.serial) first_number (filter (λ live. is_free leased live.serial) lives)

one_live : (kept : List Lease) (number : ℕ) (best : Option Next) (leased : List ℕ) (live : Live Session) (lives : List (Live Session)) (w : Option Waiting) (b : Bool)
    → is_free leased live.serial ≡ not b → slice_get live.inbox 0 ≡ w → is_leased kept (record { host = number; serial = live.serial }) ≡ b
    → joined number (with_live kept number best live) (earliest_free leased lives) ≡ joined number best (earliest_free leased (live ∷ lives))
unfolding with_live with_next next_of earliest
one_live kept number best leased live lives None true free first e = rw (free, first) refl
one_live kept number best leased live lives None false free first e = rw (free, first) refl
one_live kept number best leased live lives (Some waiting) true free first e = rw (free, first, e) refl
one_live kept number best leased live lives (Some waiting) false free first e = rw (free, first, e) (kept_one number best (waiting.number, live.serial) (earliest_free leased lives))

by_host : (kept : List Lease) (number : ℕ) (best : Option Next) (leased : List ℕ) (lives : List (Live Session)) → leased ≡ leased_at number kept
    → fold (with_live kept number) best lives ≡ joined number best (earliest_free leased lives)
unfolding earliest
by_host kept number best leased [] same = refl
by_host kept number best leased (live ∷ lives) same =
    by_host kept number (with_live kept number best live) leased lives same
    ∙ one_live kept number best leased live lives (slice_get live.inbox 0) (is_leased kept (record { host = number; serial = live.serial }))
    (ap not (ap (λ l. is_among l live.serial) same ∙ among_leased number live.serial kept)) refl refl

pub host_next : (kept : List Lease) (number : ℕ) (best : Option Next) (host : Host Session) (leased : List ℕ) (event serial : ℕ) (made : Next) → leased ≡ leased_at number kept
    → Some (event, serial) ≡ earliest_free leased host.sessions → better best (record { app = record { host = number; serial = serial }; number = event }) ≡ Some made → Some made ≡ with_host kept number best host
unfolding with_host
host_next kept number best host leased event serial made same found is = sym is ∙ ap (joined number best) found ∙ sym (by_host kept number best leased host.sessions same)

pub host_none : (kept : List Lease) (number : ℕ) (best : Option Next) (host : Host Session) (leased : List ℕ) → leased ≡ leased_at number kept
    → None ≡ earliest_free leased host.sessions → best ≡ with_host kept number best host
unfolding with_host
host_none kept number best host leased same none = ap (joined number best) none ∙ sym (by_host kept number best leased host.sessions same)
