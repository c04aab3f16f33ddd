-- The event that is next is the first one of the session that is found by its name.
use Rattle.std.proofs.Common.{◌≡◌, ◌+◌, ℕ, suc, Bool, true, false, Option, None, Some, List, [], ◌∷◌, ◌++◌, refl, sym, ap, subst, arith, ◌∙◌}
use Rattle.std.specs.Prelude.{IfSome, filter, not, nat_lt, option_map, slice_get, unwrap_or, cond}
use Rattle.std.specs.List.{All, fold, filter_map}
use Rattle.sc_terms.specs.declared.steps.Step.{Step}
use Rattle.sc_parts.specs.declared.setup.Setup.{Setup}
use Rattle.sc_servlets.specs.declared.lease.Lease.{Lease}
use Rattle.sc_state.specs.Hosts.{Host}
use Rattle.sc_state.specs.declared.host.Live.{Live}
use Rattle.sc_state.specs.declared.net.Net.{Net}
use Rattle.sc_state.specs.declared.queue.Waiting.{Waiting}
use Rattle.sc_state.specs.declared.session.Session.{Session}
use Rattle.sc_hosts.specs.Histories.{as_session}
use Rattle.sc_hosts.specs.Runs.{net_from as chained}
use Rattle.sc_hosts.specs.Steps.{live_at}
use Rattle.sc_lives.proofs.NumberedRuns.{chained-found}
use Rattle.sc_runs.specs.Following.{first_number}
use Rattle.sc_runs.specs.Next.{Next, next_of, next_from, next_events, earlier, lowest}
use Rattle.sc_switch.specs.Standing.{Known, net_of, whole}
use Rattle.sc_leases.proofs.KeptLeases.{next-alone}
use Rattle.sc_leases.specs.Leases.{is_leased, next_free}
use Rattle.sc_switch.specs.Offering.{IsOffer, Offers}

-- the event is the first one of the session of its name
abbrev Found : Net Session → Next → Type 0
Found net next = first_number (live_at next.app net) ≡ Some next.number

-- the session of this number of a host is the one that is found by it
abbrev IsFound : Net Session → ℕ → Live Session → Type 0
IsFound net number live = live_at (record { host = number; serial = live.serial }) net ≡ Some live

-- each element has it
unfoldable Each : {A : Type 0} → (A → Type 0) → List A → Type 0
Each P [] = Unit {0}
Each P (x ∷ xs) = P x × Each P xs

each-of : {A : Type 0} (P : A → Type 0) (xs : List A) → All P xs → Each P xs
unfolding Each
each-of P [] all = tt
each-of P (x ∷ xs) all = (all 0 x (omega arith), each-of P xs (λ k d below. all (suc k) d (omega (arith, below))))

each-append : {A : Type 0} (P : A → Type 0) (xs ys : List A) → Each P xs → Each P ys → Each P (xs ++ ys)
unfolding Each
each-append P [] ys a b = b
each-append P (x ∷ xs) ys a b = (a.0, each-append P xs ys a.1 b)

-- ## Of one session, and of all of a host

of-waiting : (net : Net Session) (number : ℕ) (live : Live Session) (o : Option Waiting) → slice_get live.inbox 0 ≡ o → IsFound net number live
    → IfSome (option_map (λ waiting. record { app = record { host = number; serial = live.serial }; number = waiting.number }) o) (Found net)
unfolding first_number
of-waiting net number live None e found = tt
of-waiting net number live (Some waiting) e found = rw (found, e) refl

of-live : (net : Net Session) (number : ℕ) (live : Live Session) → IsFound net number live → IfSome (next_of number live) (Found net)
unfolding next_of
of-live net number live found = of-waiting net number live (slice_get live.inbox 0) refl found

one-more : (net : Net Session) (number : ℕ) (live : Live Session) (lives : List (Live Session)) (o : Option Next) → next_of number live ≡ o → IfSome o (Found net)
    → Each (Found net) (filter_map (next_of number) lives) → Each (Found net) (filter_map (next_of number) (live ∷ lives))
unfolding Each
one-more net number live lives None e is each = rw e each
one-more net number live lives (Some next) e is each = rw e (is, each)

of-lives : (net : Net Session) (number : ℕ) (lives : List (Live Session)) → Each (IsFound net number) lives → Each (Found net) (filter_map (next_of number) lives)
unfolding Each
of-lives net number [] each = tt
of-lives net number (live ∷ lives) each =
    one-more net number live lives (next_of number live) refl (of-live net number live each.0) (of-lives net number lives each.1)

-- ## Of all hosts

-- the sessions of these hosts, which begin with the one of this number, are found
abbrev AreFound : Net Session → ℕ → List (Host Session) → Type 0
AreFound net number hosts = (k i : ℕ) (host : Host Session) → k ≡ number + i → slice_get hosts i ≡ Some host → Each (IsFound net k) host.sessions

of-hosts : (net : Net Session) (hosts : List (Host Session)) (number : ℕ) → AreFound net number hosts → Each (Found net) (next_from number hosts)
unfolding next_from Each
of-hosts net [] number each = tt
of-hosts net (host ∷ hosts) number each =
    each-append (Found net) (filter_map (next_of number) host.sessions) (next_from (number + 1) hosts)
    (of-lives net number host.sessions (each number 0 host (omega arith) refl))
    (of-hosts net hosts (number + 1) (λ k i other is e. each k (suc i) other (omega (arith, is)) e))

-- ## The lowest of those without a lease

kept-one : (net : Net Session) (test : Next → Bool) (next : Next) (others : List Next) (b : Bool) → test next ≡ b → Found net next → Each (Found net) (filter test others) → Each (Found net) (filter test (next ∷ others))
unfolding Each
kept-one net test next others true e is each = rw e (is, each)
kept-one net test next others false e is each = rw e each

filtered : (net : Net Session) (test : Next → Bool) (nexts : List Next) → Each (Found net) nexts → Each (Found net) (filter test nexts)
unfolding Each
filtered net test [] each = tt
filtered net test (next ∷ others) each = kept-one net test next others (test next) refl each.0 (filtered net test others each.1)

either : (net : Net Session) (a c : Next) (b : Bool) → Found net a → Found net c → Found net (cond b c a)
either net a c true p q = q
either net a c false p q = p

one-of : (net : Net Session) (next : Next) (others : List Next) → Found net next → Each (Found net) others → Found net (fold earlier next others)
unfolding earlier Each
one-of net next [] is each = is
one-of net next (other ∷ others) is each = one-of net (earlier next other) others (either net next other (nat_lt other.number next.number) is each.0) each.1

lowest-found : (net : Net Session) (nexts : List Next) → Each (Found net) nexts → IfSome (lowest nexts) (Found net)
unfolding lowest Each
lowest-found net [] each = tt
lowest-found net (next ∷ others) each = one-of net next others each.0 each.1

same-place : (k i : ℕ) → k ≡ 0 + i → i ≡ k
same-place k i is = omega (arith, is)

run-found : (setup : Setup) (epoch began : ℕ) (journal : List Step) (kept : List Lease) → IfSome (next_free (chained as_session setup epoch began journal) kept) (Found (chained as_session setup epoch began journal))
unfolding next_free next_events
run-found setup epoch began journal kept =
    let net : Net Session = chained as_session setup epoch began journal in
    lowest-found net _ (filtered net (λ next. not (is_leased kept next.app)) (next_from 0 net.hosts)
    (of-hosts net net.hosts 0 (λ k i host is e. each-of (IsFound net k) host.sessions (chained-found as_session setup epoch began journal k host (subst (λ n. slice_get net.hosts n ≡ Some host) (same-place k i is) e)))))

-- the next event without a lease is the first one of its session
pub next_found : (known : Known) (next : Next) → next_free (net_of known) known.kept ≡ Some next → first_number (live_at next.app (net_of known)) ≡ Some next.number
unfolding net_of
next_found known next is = rw is at (run-found known.setup known.epoch known.began (whole known) known.kept)

-- ## The lease of that session

some-number : (a b : ℕ) → Some a ≡ Some b → a ≡ b
some-number a b e = ap (λ o. unwrap_or o 0) e

-- its event is the one that is next
pub offer_number : (known : Known) (next : Next) (number : ℕ) (lease : Lease) → next_free (net_of known) known.kept ≡ Some next → IsOffer known.setup (net_of known) next.app number lease → lease.event_number ≡ next.number
offer_number known next number lease is offer = some-number lease.event_number next.number (sym offer.first_is ∙ next_found known next is)

-- and it has no lease
pub offer_free : (known : Known) (next : Next) (number : ℕ) (lease : Lease) → next_free (net_of known) known.kept ≡ Some next → IsOffer known.setup (net_of known) next.app number lease → is_leased known.kept lease.app ≡ false
offer_free known next number lease free offer = rw offer.app_is (next-alone (net_of known) known.kept next free)

no-number : (n : ℕ) → None ≡ Some n → ⊥
no-number n is = absurd (grind (arith, is))

-- it is offered
pub offer_some : (known : Known) (next : Next) (number : ℕ) → next_free (net_of known) known.kept ≡ Some next → Offers known.setup (net_of known) next.app number None → ⊥
unfolding Offers
offer_some known next number is none = no-number next.number (sym none ∙ next_found known next is)
