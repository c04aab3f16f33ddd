-- What a run leaves at each status.
use Rattle.std.specs.Prelude.{is_some, IfSome}
use Rattle.std.proofs.Common.{◌≡◌, Option, None, Some, List, [], refl, sym, ap, subst, inl, inr, true, arith}
use Rattle.sc_terms.specs.declared.steps.Line.{Line}
use Rattle.sc_terms.specs.declared.steps.Step.{Step}
use Rattle.sc_parts.specs.declared.setup.Setup.{Setup}
use Rattle.sc_tokens.specs.Bytes.{Bytes}
use Rattle.sc_edge.specs.Taking.{Takes}
use Rattle.sc_hosts.specs.Histories.{as_session}
use Rattle.sc_hosts.specs.Runs.{IsLawful, IsLawfulFrom}
use Rattle.sc_runs.specs.Following.{Follows}
use Rattle.sc_moments.proofs.FollowTicks.{follows-ticks}
use Rattle.sc_runs.specs.Outputs.{output}
use Rattle.sc_journal.specs.Kept.{Kept}
use Rattle.sc_switch.specs.declared.ran.Ran.{Ran}
use Rattle.sc_switch.specs.declared.ran.Status.{Status}
use Rattle.sc_switch.specs.Standing.{Known, whole}
use Rattle.sc_switch.specs.declared.ran.Status.TheVariants as statuses
use Rattle.sc_replay.specs.declared.running.RunRefused.TheVariants as runs
use Rattle.sc_replay.specs.Replaying.{TellsScript, ComesIn, Leaves, Replays, ReplaysPart, ReplaysFull, LeavesNothing}
use Rattle.sc_replay.specs.Running.{IsCutShort, IsRan}
use Rattle.sc_follow.specs.Leading.{IsNew}

pub left_done : (setup : Setup) (told : Option Bytes) (write : Type 0) (a b : Option Bytes) (said : List Line) (journal : List Step) → TellsScript told said → Follows as_session setup said journal → Takes a b (output as_session setup journal) → Leaves setup told write a b statuses.Done journal
unfolding Leaves Replays
left_done setup told write a b said journal tells follows takes = ((said, tells, follows, follows-ticks as_session setup tells.text said journal tells.script_is follows), takes)

pub left_full : (setup : Setup) (told : Option Bytes) (write : Type 0) (a b : Option Bytes) (said : List Line) (journal : List Step) → TellsScript told said → IsCutShort setup said write a b journal runs.JournalFull → Leaves setup told write a b statuses.JournalFull journal
unfolding Leaves ReplaysFull IsCutShort
left_full setup told write a b said journal tells (upto, due, put) = ((said, tells, upto, due), put)

pub left_part : (setup : Setup) (told : Option Bytes) (write : Type 0) (a b : Option Bytes) (said : List Line) (journal : List Step) → TellsScript told said → IsCutShort setup said write a b journal runs.NoMemory → Leaves setup told write a b statuses.NoMemory journal
unfolding Leaves ReplaysPart IsCutShort
left_part setup told write a b said journal tells (upto, put) = inl ((said, tells, upto), put)

pub left_cut : (setup : Setup) (told : Option Bytes) (write : Type 0) (a b : Option Bytes) (said : List Line) (journal : List Step) → TellsScript told said → IsCutShort setup said write a b journal runs.Write → Leaves setup told write a b statuses.Write journal
unfolding Leaves Replays IsCutShort
left_cut setup told write a b said journal tells (rose, follows, put) = ((said, tells, follows, follows-ticks as_session setup tells.text said journal tells.script_is follows), put)

pub comes_write : (setup : Setup) (told : Option Bytes) (read write : Type 0) (a b : Option Bytes) (said : List Line) (journal : List Step) → IsCutShort setup said write a b journal runs.Write → ComesIn setup told read write statuses.Write
unfolding IsCutShort ComesIn
comes_write setup told read write a b said journal (rose, follows, put) = rose

-- the journal of a run that has one
pub the_journal : (taken : List Step) (found : Option (Kept Step)) → is_some found ≡ true → IfSome found (λ journal. journal.items ≡ taken) → (journal : Kept Step) × (found ≡ Some journal) × (journal.items ≡ taken)
the_journal taken None none items = absurd (grind (arith, none))
the_journal taken (Some journal) some items = (journal, refl, items)

-- a run of a switch, with its journal
pub ran_on : (setup : Setup) (told : Option Bytes) (read write : Type 0) (a b : Option Bytes) (status : Status) (ran : Ran) (known : Known) → ran.status ≡ status → is_some ran.journal ≡ true → IfSome ran.journal (λ journal. journal.items ≡ known.journal) → known.setup ≡ setup → known.epoch ≡ 0 → known.began ≡ 0
    → known.handed ≡ [] → IsLawful as_session known.setup known.epoch known.began (whole known) → ComesIn setup told read write status → Leaves setup told write a b status known.journal → IsRan setup told read write a b ran
ran_on setup told read write a b status ran known status_is some items setup_is epoch began handed lawful comes leaves =
    let (journal, journal_is, items_is) = the_journal known.journal ran.journal some items in
    record {
      journal = journal;
      journal_is = journal_is;
      comes = rw status_is comes;
      lawful = rw (← setup_is, items_is) (rw (epoch, began, handed) at lawful);
      leaves = rw (status_is, items_is) leaves;
    }

-- ## A switch that was made

pub made_new : (setup : Setup) (known : Known) → known ≡ record { setup = setup; epoch = 0; began = 0; handed = []; journal = []; left = []; kept = []; leases = 0 } → IsNew known
made_new setup known made = subst (λ (k : Known). IsNew k) (sym made) (record { epoch_is = refl; began_is = refl; handed_is = refl; journal_is = refl; left_is = refl; kept_is = refl; leases_is = refl })

pub made_setup : (setup : Setup) (known : Known) → known ≡ record { setup = setup; epoch = 0; began = 0; handed = []; journal = []; left = []; kept = []; leases = 0 } → known.setup ≡ setup
made_setup setup known made = ap (λ (k : Known). k.setup) made

-- the switch could not be made
pub ran_not : (setup : Setup) (told : Option Bytes) (read write : Type 0) (a : Option Bytes) (ran : Ran) → ran.status ≡ statuses.NoMemory → (journal : Kept Step) → ran.journal ≡ Some journal → journal.items ≡ [] → IsRan setup told read write a a ran
unfolding ComesIn Leaves LeavesNothing IsLawful IsLawfulFrom
ran_not setup told read write a ran status_is journal journal_is items_is = record {
  journal = journal;
  journal_is = journal_is;
  comes = rw status_is tt;
  lawful = rw items_is tt;
  leaves = rw status_is (inr (items_is, refl));
}

pub ran_for : (made setup : Setup) (told : Option Bytes) (read write : Type 0) (a b : Option Bytes) (ran : Ran) → made ≡ setup → IsRan made told read write a b ran → IsRan setup told read write a b ran
ran_for made setup told read write a b ran same is = subst (λ (s : Setup). IsRan s told read write a b ran) same is
