-- What the calls of a switch answer, and what they change. This project's own.
use Rattle.std.specs.Prelude.{◌≡◌, ℕ, ◌+◌, ◌≤◌, ◌<◌, ◌⊎◌, [], ◌∷◌, ◌++◌, Bool, true, false, Option, None, Some, is_some, length, min}
use Rattle.sc_value.specs.declared.ids.AppId.{AppId}
use Rattle.sc_terms.specs.declared.steps.Step.{Step}
use Rattle.sc_terms.specs.declared.steps.Step.TheVariants as steps
use Rattle.sc_servlets.specs.declared.lease.Lease.{Lease}
use Rattle.sc_servlets.specs.declared.done.Done.{Done}
use Rattle.sc_model.specs.JournalSizes.{HasNoRoom}
use Rattle.sc_hosts.specs.Histories.{as_session}
use Rattle.sc_edge.specs.declared.listing.Listing.{Listing}
use Rattle.sc_hosts.specs.EventLists.{listing_of}
use Rattle.sc_hosts.specs.Runs.{IsLawful, after_step, is_idle, live_count}
use Rattle.sc_hosts.specs.Steps.{live_at}
use Rattle.sc_runs.specs.Following.{first_number}
use Rattle.sc_switch.specs.declared.refused.Committed.{Committed}
use Rattle.sc_switch.specs.declared.refused.Committed.TheVariants as committed
use Rattle.sc_switch.specs.declared.refused.StepRefused.{StepRefused}
use Rattle.sc_switch.specs.declared.refused.StepRefused.TheVariants as refused
use Rattle.sc_switch.specs.declared.refused.Epoch.{Epoch}
use Rattle.sc_switch.specs.declared.refused.EpochRefused.{EpochRefused}
use Rattle.sc_switch.specs.declared.refused.EpochRefused.TheVariants as epochs
use Rattle.sc_switch.specs.Counting.{busy_count}
use Rattle.sc_switch.specs.Standing.{Known, whole, net_of, is_live_lease, Fits, step_of}
use Rattle.sc_leases.specs.Leases.{IsLeaseOf, next_free, is_leased, kept_after, without_number}

-- the number of the last lease that is given
abbrev pub LAST_LEASE : ℕ
LAST_LEASE = 9223372036854775807

-- the journal has no room for a step of so many bytes
abbrev pub IsFullFor : Known → ℕ → Type 0
IsFullFor known size =
    HasNoRoom known.setup.config.journal_steps known.setup.config.journal_bytes known.journal size

-- a step is refused as `JournalFull` where the journal has no room for it, and there alone; the
-- refusal has both limits
unfoldable pub RefusesRight : Known → ℕ → StepRefused → Type 0
RefusesRight old size (refused.JournalFull steps bytes) =
    (steps ≡ old.setup.config.journal_steps) × (bytes ≡ old.setup.config.journal_bytes)
    × IsFullFor old size
RefusesRight old size refused.NoMemory = Unit {0}

-- the step stands at the end of the journal, what it sends is left to be taken, and where it is a
-- turn or the withdrawal of a session the lease of that session ends
abbrev pub with_step : Known → Step → Known
with_step old step = record old {
  journal = old.journal ++ step ∷ [];
  left = old.left ++ (after_step as_session old.setup (net_of old) step).sent;
  kept = kept_after step old.kept;
}

-- the session lived, and its withdrawal is the step; or it didn't live
unfoldable pub Withdraws : Known → Known → AppId → Bool → Type 0
Withdraws old new app true =
    (is_some (live_at app (net_of old)) ≡ true) × (new ≡ with_step old (steps.Withdraw app))
Withdraws old new app false = (is_some (live_at app (net_of old)) ≡ false) × (new ≡ old)

-- a lease is given of this event, at the last moment
pub record IsGiven (old new : Known) (lease : Lease) : Type 0 where
  pub new_is : new ≡ record old { kept = old.kept ++ lease ∷ []; leases = old.leases + 1 }
  pub number_is : lease.number ≡ old.leases + 1
  pub lease_is : IsLeaseOf as_session old.setup (net_of old) lease
  pub now_is : lease.shown.now ≡ (net_of old).moment

-- a lease is given of the event with the lowest number among the first ones of the sessions without
-- a lease; none where there is none, or after the last number
unfoldable pub Leased : Known → Known → Option Lease → Type 0
Leased old new None =
    (new ≡ old) × ((next_free (net_of old) old.kept ≡ None) ⊎ (LAST_LEASE ≤ old.leases))
Leased old new (Some lease) =
    (next_free (net_of old) old.kept
    ≡ Some (record { app = lease.app; number = lease.event_number })) × IsGiven old new lease

-- a lease is given of the first event of this session; none where it doesn't live, no event waits
-- for it or it is leased, or after the last number
unfoldable pub LeasedOf : AppId → Known → Known → Option Lease → Type 0
LeasedOf app old new None =
    (new ≡ old)
    × ((first_number (live_at app (net_of old)) ≡ None)
    ⊎ ((is_leased old.kept app ≡ true) ⊎ (LAST_LEASE ≤ old.leases)))
LeasedOf app old new (Some lease) =
    (lease.app ≡ app) × (first_number (live_at app (net_of old)) ≡ Some lease.event_number)
    × (is_leased old.kept app ≡ false) × IsGiven old new lease

-- a brought turn is refused as `JournalFull` where it fits and the journal has no room for its step
unfoldable pub RefusesTurn : Known → Done → ℕ → StepRefused → Type 0
RefusesTurn old done size (refused.JournalFull steps bytes) =
    RefusesRight old size (refused.JournalFull steps bytes) × Fits old.setup old.kept done
RefusesTurn old done size refused.NoMemory = Unit {0}

-- what became of a brought turn
unfoldable pub Received : Known → Known → Done → Committed → Type 0
Received old new done committed.Taken =
    Fits old.setup old.kept done × (new ≡ with_step old (step_of done))
Received old new done (committed.Gone number) =
    (number ≡ done.lease.number) × (is_live_lease old.kept number ≡ false) × (new ≡ old)
Received old new done (committed.Other number) =
    (number ≡ done.lease.number) × (is_live_lease old.kept number ≡ true)
    × (Fits old.setup old.kept done → ⊥)
    × (new ≡ record old { kept = without_number number old.kept })

-- ## Epochs, listings, and a journal that is handed on

-- the number of the last epoch
abbrev pub LAST_EPOCH : ℕ
LAST_EPOCH = 4294967295

-- the epoch ended with an idle net, and no lease was out; the next one begins at its last moment,
-- and the numbers of leases go on
pub record IsTurned (old new : Known) (ended : Epoch) : Type 0 where
  pub number_is : ended.number ≡ old.epoch
  pub began_is : ended.began ≡ old.began
  pub journal_is : ended.journal.items ≡ old.journal
  pub lawful : IsLawful as_session old.setup old.epoch old.began (whole old)
  pub idle : is_idle (net_of old) ≡ true
  pub none_out : old.kept ≡ []
  pub new_is : new
      ≡ record {
        setup = old.setup;
        epoch = old.epoch + 1;
        began = (net_of old).moment;
        handed = [];
        journal = [];
        left = [];
        kept = [];
        leases = old.leases;
      }

-- the first that there is of these: sessions that live, transactions that live, messages that
-- weren't taken, the last epoch; each with its number
unfoldable pub RefusesEpoch : Known → EpochRefused → Type 0
RefusesEpoch old (epochs.Live n) = (n ≡ live_count (net_of old)) × (0 < n)
RefusesEpoch old (epochs.Busy n) =
    (live_count (net_of old) ≡ 0) × (n ≡ min (busy_count (net_of old)) 18446744073709551615)
    × (0 < n)
RefusesEpoch old (epochs.Unsent n) =
    (live_count (net_of old) ≡ 0) × (busy_count (net_of old) ≡ 0) × (n ≡ length old.left) × (0 < n)
RefusesEpoch old epochs.Last =
    (live_count (net_of old) ≡ 0) × (busy_count (net_of old) ≡ 0) × (old.left ≡ [])
    × (old.epoch ≡ LAST_EPOCH)

-- none of these is there
pub record IsReady (old : Known) : Type 0 where
  pub live_is : live_count (net_of old) ≡ 0
  pub busy_is : busy_count (net_of old) ≡ 0
  pub left_is : old.left ≡ []
  pub epoch_is : old.epoch ≡ LAST_EPOCH → ⊥

-- the listing of all steps of the epoch; their number is told up to the greatest that it has room
-- for
pub record IsListing (known : Known) (listing : Listing) : Type 0 where
  pub epoch_is : listing.epoch ≡ known.epoch
  pub steps_is : listing.steps
      ≡ min (listing_of as_session known.setup known.epoch known.began (whole known)).steps
      18446744073709551615
  pub live_is : listing.live
      ≡ (listing_of as_session known.setup known.epoch known.began (whole known)).live
  pub waiting_is : listing.waiting
      ≡ (listing_of as_session known.setup known.epoch known.began (whole known)).waiting

-- what was kept is handed on
abbrev pub handing : Known → Known
handing old = record old { handed = whole old; journal = [] }
