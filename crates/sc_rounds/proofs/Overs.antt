-- Where an epoch has to end, and where it is ended.
use Rattle.std.proofs.Common.{◌≡◌, ◌≤◌, ◌<◌, ℕ, ◌+◌, true, List, [], sym, ap, subst, length, length-append, arith}
use Rattle.std.specs.Prelude.{min}
use Rattle.sc_hosts.specs.Histories.{as_session}
use Rattle.sc_hosts.specs.Runs.{Epoch, net_from as chained, is_idle, live_count}
use Rattle.sc_hosts.specs.Runs.{net_of as net_after}
use Rattle.sc_edge.specs.Edges.{EdgeState}
use Rattle.sc_switch.specs.Answers.{IsTurned, RefusesEpoch}
use Rattle.sc_switch.specs.Counting.{busy_at, busy_count, is_busy_client, is_busy_server}
use Rattle.sc_switch.specs.Standing.{Known, net_of, whole}
use Rattle.sc_switch.specs.declared.refused.Epoch.{Epoch as Ended}
use Rattle.sc_switch.specs.declared.refused.EpochRefused.{EpochRefused}
use Rattle.sc_switch.specs.declared.refused.EpochRefused.TheVariants as epochs
use Rattle.sc_outs.specs.Deeds.{Deed}
use Rattle.sc_parts.specs.declared.setup.Setup.{Setup}
use Rattle.sc_courses.specs.Courses.{Beginning, Told}
use Rattle.sc_courses.specs.Endings.{HasToEnd}
use Rattle.sc_courses.proofs.IdleLaws.{idle_lasts, idle_lives}
use Rattle.sc_rounds.specs.declared.stepping.Core.{Core}
use Rattle.sc_rounds.specs.Serving.{HasNoEnd, Stands, running}
use Rattle.sc_rounds.specs.Stepping.{IsLong}

-- ## What the switch answers

over-none : (known : Known) → is_idle (net_of known) ≡ true → busy_count (net_of known) ≡ 0
unfolding busy_count busy_at is_busy_client is_busy_server
over-none known idle = idle_lasts (net_of known) idle

no-more : (n count : ℕ) → n ≡ count → 0 < n → count ≡ 0 → ⊥
no-more n count is some none = omega (arith, is, some, none)

no-least : (n count : ℕ) → n ≡ min count 18446744073709551615 → 0 < n → count ≡ 0 → ⊥
no-least n count is some none = grind (arith, is, some, none)

-- it refuses no epoch that has to end
refused-none : (old : Known) (cause : EpochRefused) → old.left ≡ [] → RefusesEpoch old cause → is_idle (net_of old) ≡ true → old.epoch < 4294967295 → ⊥
unfolding RefusesEpoch
refused-none old (epochs.Live n) none refuses idle number = no-more n (live_count (net_of old)) refuses.0 refuses.1 (idle_lives (net_of old) idle)
refused-none old (epochs.Busy n) none refuses idle number = no-least n (busy_count (net_of old)) refuses.1 refuses.2 (over-none old idle)
refused-none old (epochs.Unsent n) none refuses idle number = no-more n (length old.left) refuses.2 refuses.3 (ap length none)
refused-none old epochs.Last none refuses idle number = let last : old.epoch ≡ 4294967295 = refuses.3 in omega (arith, last, number)

pub net-at : (known : Known) (setup : Setup) → known.setup ≡ setup → net_of known ≡ net_after as_session setup (running known)
unfolding net_of net_after
net-at known setup e = ap (λ (s : Setup). chained as_session s known.epoch known.began (whole known)) e

-- ## Where a server stands

is-idle : (from : Beginning) (edge : EdgeState) (told : Told) (core : Core) (deeds : List Deed) → Stands from edge told core deeds → HasToEnd from.setup (running core.switch) → is_idle (net_of core.switch) ≡ true
is-idle from edge told core deeds s ends = subst (λ net. is_idle net ≡ true) (sym (net-at core.switch from.setup s.runs.setup_is)) ends.idle

is-long : (from : Beginning) (edge : EdgeState) (told : Told) (core : Core) (deeds : List Deed) → Stands from edge told core deeds → HasToEnd from.setup (running core.switch) → IsLong core (length core.switch.handed)
is-long from edge told core deeds s ends = record {
  asked = subst (λ (n : ℕ). 0 < n) (sym s.as_set) ends.asked;
  steps = subst (λ (n : ℕ). n ≤ length core.switch.handed + length core.switch.journal) (sym s.as_set) (subst (λ (n : ℕ). from.setup.config.epoch_steps ≤ n) (length-append core.switch.handed core.switch.journal) ends.steps);
}

-- an epoch that is long and has an idle net, and isn't the last that there is, has to end
pub long_ends : (from : Beginning) (edge : EdgeState) (told : Told) (core : Core) (deeds : List Deed) → Stands from edge told core deeds → ((handed : ℕ) → core.handed ≡ min handed 18446744073709551615 → IsLong core handed)
    → is_idle (net_of core.switch) ≡ true → core.switch.epoch < 4294967295 → HasToEnd from.setup (running core.switch)
long_ends from edge told core deeds s long idle number =
    let is : IsLong core (length core.switch.handed) = long (length core.switch.handed) s.reports.count_is in
    record {
      asked = subst (λ (n : ℕ). 0 < n) s.as_set is.asked;
      steps = subst (λ (n : ℕ). from.setup.config.epoch_steps ≤ n) (sym (length-append core.switch.handed core.switch.journal)) (subst (λ (n : ℕ). n ≤ length core.switch.handed + length core.switch.journal) s.as_set is.steps);
      idle = subst (λ net. is_idle net ≡ true) (net-at core.switch from.setup s.runs.setup_is) idle;
      number = number;
    }

-- it isn't due
pub undue_over : (core : Core) (told : Told) → (live_count (net_of core.switch) ≡ 0 → (handed : ℕ) → core.handed ≡ min handed 18446744073709551615 → IsLong core handed → ⊥) → HasNoEnd core told core.switch
unfolding HasNoEnd
undue_over core told short from edge deeds s ends =
    short (idle_lives (net_of core.switch) (is-idle from edge told core deeds s ends)) (length core.switch.handed) s.reports.count_is (is-long from edge told core deeds s ends)

-- it was refused
pub refused_over : (core : Core) (told : Told) (new : Known) (cause : EpochRefused) → new ≡ core.switch → RefusesEpoch core.switch cause → HasNoEnd core told new
unfolding HasNoEnd
refused_over core told new cause same refuses from edge deeds s ends =
    let ends2 : HasToEnd from.setup (running core.switch) = subst (λ (known : Known). HasToEnd from.setup (running known)) same ends in
    refused-none core.switch cause s.left_is refuses (is-idle from edge told core deeds s ends2) ends2.number

no-steps : (least count : ℕ) → 0 < least → least ≤ count → count ≡ 0 → ⊥
no-steps least count some steps none = omega (arith, some, steps, none)

-- it ended, and the next one has no step
pub turned_over : (core : Core) (told : Told) (new : Known) (ended : Ended) → IsTurned core.switch new ended → HasNoEnd core told new
unfolding HasNoEnd
turned_over core told new ended turned from edge deeds s ends = no-steps from.setup.config.epoch_steps (length (whole new)) ends.asked ends.steps (ap (λ (known : Known). length (whole known)) turned.new_is)

-- the same epoch runs on
pub over_same : (old : Core) (told : Told) (mid new : Known) → HasNoEnd old told mid → running new ≡ running mid → HasNoEnd old told new
unfolding HasNoEnd
over_same old told mid new over same from edge deeds s ends = over from edge deeds s (subst (λ (epoch : Epoch). HasToEnd from.setup epoch) same ends)
