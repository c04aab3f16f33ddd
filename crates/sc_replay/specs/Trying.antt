-- What `trial` promises. This project's own.
use Rattle.std.specs.Prelude.{◌≡◌, ℕ, Option, Some, None, List, [], ◌∷◌, ◌++◌, codes, decimal, length}
use Rattle.sc_terms.specs.declared.steps.Step.{Step}
use Rattle.sc_parts.specs.declared.setup.Setup.{Setup}
use Rattle.sc_tokens.specs.Bytes.{Bytes}
use Rattle.sc_model.specs.Generated.{generated_text}
use Rattle.sc_model.specs.Settings.{Charters}
use Rattle.sc_journal.specs.Kept.{Kept}
use Rattle.sc_edge.specs.Taking.{Takes, TakesPart}
use Rattle.sc_hosts.specs.Histories.{as_session}
use Rattle.sc_hosts.specs.Runs.{IsLawful, all_sent, live_count, net_from}
use Rattle.sc_switch.specs.declared.ran.Ran.{Ran}
use Rattle.sc_switch.specs.declared.ran.Status.{Status}
use Rattle.sc_switch.specs.declared.ran.Status.TheVariants as statuses
use Rattle.sc_replay.specs.Commands.{count_after_name}
use Rattle.sc_replay.specs.Replaying.{Told, TellsSetup, IsUnset, Replays, ReplaysPart, ReplaysFull}
use Rattle.sc_tokens.specs.Signs.{line_feed}

-- the N of `trial N`, none of other words
abbrev pub tried_count : List Bytes → Option ℕ
tried_count words = count_after_name (codes "trial") words

-- ## Its settings

-- a recorder, a back-to-back user agent, and a phone that answers after a second
unfoldable pub trial_config : Bytes
trial_config =
    codes "listen = \"127.0.0.1:5060\"\ndomain = \"home.test\"\nsalt = \"s1\"\n\n[[app]]\nname = \"recorder\"\nkind = \"recorder\"\n\n[[app]]\nname = \"b2b\"\nkind = \"b2b\"\n\n[[app]]\nname = \"ringer\"\nkind = \"ringer\"\nparams = [\"1000\"]\n"

-- an INVITE goes to each of them in turn
unfoldable pub trial_table : Bytes
trial_table =
    codes "INVITE: (\"recorder\", \"DAR:From\", \"NEUTRAL\", \"\", \"NO_ROUTE\", \"0\"), (\"b2b\", \"DAR:From\", \"NEUTRAL\", \"\", \"NO_ROUTE\", \"1\"), (\"ringer\", \"DAR:From\", \"NEUTRAL\", \"\", \"NO_ROUTE\", \"2\")\n"

-- these, and the script of n calls
abbrev pub told_of_trial : ℕ → Told
told_of_trial n =
    record {
      config = Some trial_config;
      dar = Some trial_table;
      script = Some (generated_text n);
    }

-- ## Its line

-- a word and a number
abbrev pub counted_text : Bytes → ℕ → Bytes
counted_text word n = word ++ decimal n

-- the front of the line that `trial` writes; the number of calls follows
unfoldable pub trial_word : Bytes
trial_word = codes "trial "

-- before the number of steps
unfoldable pub steps_word : Bytes
steps_word = codes " steps "

-- before the number of messages that were sent
unfoldable pub sent_word : Bytes
sent_word = codes " sent "

-- before the number of sessions that live
unfoldable pub live_word : Bytes
live_word = codes " live "

-- `trial N steps S sent M live L`, and a line feed
unfoldable pub trial_text : ℕ → ℕ → ℕ → ℕ → Bytes
trial_text n steps sent live =
    counted_text trial_word n ++ counted_text steps_word steps ++ counted_text sent_word sent
    ++ counted_text live_word live ++ line_feed ∷ []

-- the steps of the journal, all that it sends, and the sessions that live after it
unfoldable pub trial_line : Setup → ℕ → List Step → Bytes
trial_line setup n journal =
    trial_text n (length journal) (length (all_sent as_session setup 0 0 journal))
    (live_count (net_from as_session setup 0 0 journal))

-- ## How it ends

-- what is left at each status, in the journal and of the line in the sink: `old` and `new` are what
-- it took before and after, and `write` says that its count of faults rose
unfoldable pub TrialLeaves : Setup → ℕ → Type 0 → Option Bytes → Option Bytes → Status → List Step
    → Type 0
TrialLeaves setup n write old new statuses.Done journal =
    Replays setup (Some (generated_text n)) journal × Takes old new (trial_line setup n journal)
TrialLeaves setup n write old new statuses.Usage journal = ⊥
TrialLeaves setup n write old new (statuses.Config kind key) journal = ⊥
TrialLeaves setup n write old new (statuses.Dar line kind) journal = ⊥
TrialLeaves setup n write old new statuses.JournalFull journal =
    ReplaysFull setup (Some (generated_text n)) journal × (new ≡ old)
TrialLeaves setup n write old new statuses.Edge journal = ⊥
TrialLeaves setup n write old new statuses.NoMemory journal =
    ReplaysPart setup (Some (generated_text n)) journal
    × TakesPart old new (trial_line setup n journal)
TrialLeaves setup n write old new (statuses.Script at kind) journal = ⊥
TrialLeaves setup n write old new statuses.Read journal = ⊥
TrialLeaves setup n write old new statuses.Write journal =
    write × Replays setup (Some (generated_text n)) journal
    × TakesPart old new (trial_line setup n journal)

-- of n calls: the journal is there exactly where the settings were accepted, and it is that of a
-- run with them; else the sink took nothing
unfoldable pub Trials : List Bytes → List Charters → ℕ → Type 0 → Option Bytes → Option Bytes
    → Status → Option (Kept Step) → Type 0
Trials names kinds n write old new status None =
    IsUnset names (Some trial_config) (Some trial_table) ⊥ status × (new ≡ old)
Trials names kinds n write old new status (Some journal) =
    (setup : Setup)
    × TellsSetup names kinds (told_of_trial n) setup
    × IsLawful as_session setup 0 0 journal.items
    × TrialLeaves setup n write old new status journal.items

-- of these words
unfoldable pub TrialsWords : Option ℕ → List Bytes → List Charters → Type 0 → Option Bytes
    → Option Bytes → Status → Option (Kept Step) → Type 0
TrialsWords (Some n) names kinds write old new status journal =
    Trials names kinds n write old new status journal
TrialsWords None names kinds write old new status journal =
    (status ≡ statuses.Usage) × (journal ≡ None) × (new ≡ old)

-- ## Its parts

-- what a run on a switch with these settings answers
pub record IsTried (setup : Setup) (n : ℕ) (write : Type 0) (old new : Option Bytes) (ran : Ran)
    : Type 0 where
  pub journal : Kept Step
  pub journal_is : ran.journal ≡ Some journal
  pub lawful : IsLawful as_session setup 0 0 journal.items
  pub leaves : TrialLeaves setup n write old new ran.status journal.items
