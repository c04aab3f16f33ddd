-- How many leases were given: one for each that is out, that a step ended, or that was answered `Other`.
use Rattle.std.proofs.Common.{◌≡◌, ◌≤◌, ℕ, ◌+◌, ◌++◌, true, Option, None, Some, List, [], ◌∷◌, refl, ap, arith, length, length-append}
use Rattle.std.specs.Prelude.{is_some}
use Rattle.std.specs.List.{find}
use Rattle.std.proofs.lemmas.List.{append-nil}
use Rattle.sc_terms.specs.declared.steps.Step.{Step}
use Rattle.sc_terms.specs.declared.steps.Step.TheVariants as steps
use Rattle.sc_servlets.specs.declared.lease.Lease.{Lease}
use Rattle.sc_servlets.specs.declared.done.Done.{Done}
use Rattle.sc_hosts.specs.Histories.{as_session}
use Rattle.sc_leases.proofs.KeptCounts.{one-fewer, app-fewer}
use Rattle.sc_leases.specs.Leases.{has_number, kept_after}
use Rattle.sc_switch.specs.declared.refused.Committed.{Committed}
use Rattle.sc_switch.specs.declared.refused.Committed.TheVariants as committed
use Rattle.sc_switch.specs.declared.refused.Epoch.{Epoch}
use Rattle.sc_switch.specs.Answers.{IsGiven, IsTurned, Received, handing, with_step}
use Rattle.sc_switch.specs.Ledger.{IsCounted, others_after}
use Rattle.sc_switch.specs.Standing.{Known, AreKept, is_live_lease, net_of, step_of, whole}

longer : (old : Known) (step : Step) → length (whole (with_step old step)) ≡ length (whole old) + 1
longer old step =
    let all = length-append old.handed (old.journal ++ step ∷ []) in
    let more = length-append old.journal (step ∷ []) in
    let before = length-append old.handed old.journal in
    omega (arith, all, more, before)

-- a step ends one lease at most
fewer : (old : Known) (step : Step) → AreKept old → length old.kept ≤ length (kept_after step old.kept) + 1
unfolding kept_after
fewer old (steps.In from message) are = omega arith
fewer old (steps.Bad from bad) are = omega arith
fewer old (steps.Lost place) are = omega arith
fewer old (steps.Tick now) are = omega arith
fewer old (steps.Turn end app event now calls) are = app-fewer as_session old.setup (net_of old) old.kept 0 old.leases app are
fewer old (steps.Withdraw app) are = app-fewer as_session old.setup (net_of old) old.kept 0 old.leases app are

pub step_counts : (earlier others : ℕ) (old : Known) (step : Step) → AreKept old → IsCounted earlier others old → IsCounted earlier others (with_step old step)
step_counts earlier others old step are is =
    let long = longer old step in
    let one = fewer old step are in
    omega (arith, long, one, is)

pub given_counts : (earlier others : ℕ) (old new : Known) (lease : Lease) → IsGiven old new lease → IsCounted earlier others old → IsCounted earlier others new
given_counts earlier others old new lease given is = let long = length-append old.kept (lease ∷ []) in rw (given.new_is) (omega (arith, long, is))

live-found : (kept : List Lease) (number : ℕ) (found : Option Lease) → find (has_number number) kept ≡ found → is_some found ≡ true → (lease : Lease) × (find (has_number number) kept ≡ Some lease)
live-found kept number None is some = cc
live-found kept number (Some lease) is some = (lease, is)

pub brought_counts : (earlier others : ℕ) (old new : Known) (done : Done) (answer : Committed) → Received old new done answer → AreKept old → IsCounted earlier others old → IsCounted earlier (others_after others answer) new
unfolding Received others_after is_live_lease
brought_counts earlier others old new done committed.Taken received are is = rw (received.1) (step_counts earlier others old (step_of done) are is)
brought_counts earlier others old new done (committed.Gone number) received are is = rw (received.2) is
brought_counts earlier others old new done (committed.Other number) received are is =
    let found = live-found old.kept number (find (has_number number) old.kept) refl received.1 in
    let one = one-fewer as_session old.setup (net_of old) old.kept 0 old.leases number found.0 are found.1 in
    rw (received.3) (omega (arith, one, is))

pub turned_counts : (earlier others : ℕ) (old new : Known) (ended : Epoch) → IsTurned old new ended → IsCounted earlier others old → IsCounted (earlier + length (whole old)) others new
turned_counts earlier others old new ended turned is =
    let none = ap length turned.none_out in
    rw (turned.new_is) (omega (arith, none, is))

pub handed_counts : (earlier others : ℕ) (old : Known) → IsCounted earlier others old → IsCounted earlier others (handing old)
handed_counts earlier others old is =
    let same = ap length (append-nil (whole old)) in
    omega (arith, same, is)
