-- How a trial ends.
use Rattle.std.proofs.Common.{◌≡◌, ◌≤◌, ℕ, Option, None, Some, Ok, Err, List, [], ◌∷◌, length, refl, sym, ap, subst, inl, true, ◌∙◌}
use Rattle.std.specs.Prelude.{is_some, IfSome, Result}
use Rattle.std.specs.Result.{is_ok}
use Rattle.std.proofs.lemmas.Bool.{false≢true}
use Rattle.sc_terms.specs.declared.steps.Line.{Line}
use Rattle.sc_terms.specs.declared.steps.Step.{Step}
use Rattle.sc_parts.specs.declared.setup.Setup.{Setup}
use Rattle.sc_tokens.specs.Bytes.{Bytes}
use Rattle.sc_journal.specs.Kept.{Kept}
use Rattle.sc_model.specs.Generated.{generated_text as generated}
use Rattle.sc_model.specs.Settings.{Charters}
use Rattle.sc_edge.specs.Taking.{TakesPart_none}
use Rattle.sc_hosts.specs.Histories.{as_session}
use Rattle.sc_hosts.specs.Runs.{IsLawful, IsLawfulFrom, live_count, start}
use Rattle.sc_runs.specs.Following.{Follows, Upto, UptoFrom, no_bytes}
use Rattle.sc_moments.proofs.FollowTicks.{follows-ticks}
use Rattle.sc_script.specs.ScriptTexts.{script_of}
use Rattle.sc_follow.specs.Leading.{IsStoppedIn}
use Rattle.sc_follow.specs.Moving.{IsUntaken}
use Rattle.sc_follow.proofs.Followings.{part-none}
use Rattle.sc_switch.specs.declared.ran.Ran.{Ran}
use Rattle.sc_switch.specs.declared.ran.Status.{Status}
use Rattle.sc_switch.specs.declared.ran.Status.TheVariants as statuses
use Rattle.sc_switch.specs.declared.refused.StepRefused.TheVariants as refused
use Rattle.sc_switch.specs.Standing.{Known, net_of, whole}
use Rattle.sc_replay.specs.Putting.{IsPut}
use Rattle.sc_replay.specs.Replaying.{TellsConfig, TellsTable, TellsScript, IsUnset, Replays, ReplaysPart, ReplaysFull, app_names}
use Rattle.sc_replay.specs.Trying.{IsTried, TrialLeaves, Trials, TrialsWords, trial_config, trial_line, trial_table, trial_text}
use Rattle.sc_replay.proofs.Drivings.{upto_whole}
use Rattle.sc_replay.proofs.MadeScripts.{script_read}
use Rattle.sc_replay.proofs.Replayings.{the_journal}

-- ## The script

tells : (n : ℕ) (said : List Line) → script_of (generated n) ≡ Ok said → TellsScript (Some (generated n)) said
tells n said is = record { text = generated n; told_is = refl; script_is = is }

err_ok : {A E : Type 0} (r : Result A E) (a : A) (e : E) → r ≡ Ok a → r ≡ Err e → ⊥
err_ok r a e ok err = absurd (false≢true (ap is_ok (sym err ∙ ok)))

-- it is never refused
pub never_refused : (n at kind : ℕ) (text : Bytes) → n ≤ 1000 → text ≡ generated n → script_of text ≡ Err (record { at = at; kind = kind }) → ⊥
never_refused n at kind text few text_is fault =
    let (said, is) = script_read n few in
    err_ok (script_of (generated n)) said (record { at = at; kind = kind }) is (subst (λ (t : Bytes). script_of t ≡ Err (record { at = at; kind = kind })) text_is fault)

-- ## What is left

upto_none : (setup : Setup) (said : List Line) → Upto as_session setup said []
unfolding Upto UptoFrom
upto_none setup [] = refl
upto_none setup (line ∷ later) = inl (part-none setup (start setup 0 0) no_bytes line)

-- all was followed, and the line was put
left_put : (setup : Setup) (n : ℕ) (write : Type 0) (a b : Option Bytes) (said : List Line) (journal : List Step) (status : Status) → script_of (generated n) ≡ Ok said → Follows as_session setup said journal → IsPut write a b (trial_line setup n journal) status
    → TrialLeaves setup n write a b status journal
unfolding TrialLeaves Replays ReplaysPart IsPut
left_put setup n write a b said journal statuses.Done is follows put = ((said, tells n said is, follows, follows-ticks as_session setup (generated n) said journal is follows), put)
left_put setup n write a b said journal statuses.Usage is follows put = absurd put
left_put setup n write a b said journal (statuses.Config kind key) is follows put = absurd put
left_put setup n write a b said journal (statuses.Dar line kind) is follows put = absurd put
left_put setup n write a b said journal statuses.JournalFull is follows put = absurd put
left_put setup n write a b said journal statuses.Edge is follows put = absurd put
left_put setup n write a b said journal statuses.NoMemory is follows put = ((said, tells n said is, upto_whole setup said journal follows), put)
left_put setup n write a b said journal (statuses.Script at kind) is follows put = absurd put
left_put setup n write a b said journal statuses.Read is follows put = absurd put
left_put setup n write a b said journal statuses.Write is follows put = (put.0, (said, tells n said is, follows, follows-ticks as_session setup (generated n) said journal is follows), put.1)

pub left_whole : (setup : Setup) (n : ℕ) (write : Type 0) (a b : Option Bytes) (said : List Line) (known : Known) (status : Status) → script_of (generated n) ≡ Ok said → known.setup ≡ setup → Follows as_session setup said known.journal
    → IsPut write a b (trial_line known.setup n known.journal) status → TrialLeaves setup n write a b status known.journal
left_whole setup n write a b said known status is setup_is follows put =
    left_put setup n write a b said known.journal status is follows (subst (λ (s : Setup). IsPut write a b (trial_line s n known.journal) status) setup_is put)

-- the journal found no room
pub left_full : (setup : Setup) (n : ℕ) (write : Type 0) (a : Option Bytes) (said : List Line) (journal : List Step) (steps bytes : ℕ) → script_of (generated n) ≡ Ok said → IsStoppedIn setup said journal (refused.JournalFull steps bytes)
    → TrialLeaves setup n write a a statuses.JournalFull journal
unfolding TrialLeaves ReplaysFull IsStoppedIn
left_full setup n write a said journal steps bytes is stopped = ((said, tells n said is, stopped.0, stopped.1), refl)

-- memory was wanting in the run
pub left_part : (setup : Setup) (n : ℕ) (write : Type 0) (a : Option Bytes) (said : List Line) (journal : List Step) → script_of (generated n) ≡ Ok said → IsStoppedIn setup said journal refused.NoMemory → TrialLeaves setup n write a a statuses.NoMemory journal
unfolding TrialLeaves ReplaysPart IsStoppedIn
left_part setup n write a said journal is stopped = ((said, tells n said is, stopped), TakesPart_none a (trial_line setup n journal))

left_empty : (setup : Setup) (n : ℕ) (write : Type 0) (a : Option Bytes) → n ≤ 1000 → TrialLeaves setup n write a a statuses.NoMemory []
unfolding TrialLeaves ReplaysPart
left_empty setup n write a few =
    let (said, is) = script_read n few in
    ((said, tells n said is, upto_none setup said), TakesPart_none a (trial_line setup n []))

-- it was wanting before the run
pub left_none : (setup : Setup) (n : ℕ) (write : Type 0) (a : Option Bytes) (journal : List Step) → n ≤ 1000 → journal ≡ [] → TrialLeaves setup n write a a statuses.NoMemory journal
left_none setup n write a journal few none = subst (λ (j : List Step). TrialLeaves setup n write a a statuses.NoMemory j) (sym none) (left_empty setup n write a few)

-- ## The line

line_of : (known : Known) (n steps sent live : ℕ) → known.epoch ≡ 0 → known.began ≡ 0 → IsUntaken known → steps ≡ length known.journal → sent ≡ length known.left → live ≡ live_count (net_of known)
    → trial_text n steps sent live ≡ trial_line known.setup n known.journal
unfolding trial_line net_of
line_of known n steps sent live epoch began untaken steps_is sent_is live_is = rw (steps_is, sent_is, live_is, untaken.left_is, epoch, began, untaken.handed_is) refl

pub line_put : (write : Type 0) (a b : Option Bytes) (known : Known) (n steps sent live : ℕ) (status : Status) → known.epoch ≡ 0 → known.began ≡ 0 → IsUntaken known → steps ≡ length known.journal → sent ≡ length known.left → live ≡ live_count (net_of known)
    → IsPut write a b (trial_text n steps sent live) status → IsPut write a b (trial_line known.setup n known.journal) status
line_put write a b known n steps sent live status epoch began untaken steps_is sent_is live_is put =
    subst (λ (bytes : Bytes). IsPut write a b bytes status) (line_of known n steps sent live epoch began untaken steps_is sent_is live_is) put

-- ## The run

pub tried_on : (setup : Setup) (n : ℕ) (write : Type 0) (a b : Option Bytes) (status : Status) (ran : Ran) (known : Known) → ran.status ≡ status → is_some ran.journal ≡ true → IfSome ran.journal (λ journal. journal.items ≡ known.journal) → known.setup ≡ setup → known.epoch ≡ 0 → known.began ≡ 0 → known.handed ≡ []
    → IsLawful as_session known.setup known.epoch known.began (whole known) → TrialLeaves setup n write a b status known.journal → IsTried setup n write a b ran
tried_on setup n write a b status ran known status_is some items setup_is epoch began handed lawful leaves =
    let (journal, journal_is, items_is) = the_journal known.journal ran.journal some items in
    record {
      journal = journal;
      journal_is = journal_is;
      lawful = rw (← setup_is, items_is) (rw (epoch, began, handed) at lawful);
      leaves = rw (status_is, items_is) leaves;
    }

-- no switch could be made
pub tried_not : (setup : Setup) (n : ℕ) (write : Type 0) (a : Option Bytes) (ran : Ran) → n ≤ 1000 → ran.status ≡ statuses.NoMemory → is_some ran.journal ≡ true → IfSome ran.journal (λ journal. journal.items ≡ []) → IsTried setup n write a a ran
unfolding IsLawful IsLawfulFrom
tried_not setup n write a ran few status_is some items =
    let (journal, journal_is, items_is) = the_journal [] ran.journal some items in
    record {
      journal = journal;
      journal_is = journal_is;
      lawful = rw items_is tt;
      leaves = rw status_is (left_none setup n write a journal.items few items_is);
    }

pub tried_for : (made setup : Setup) (n : ℕ) (write : Type 0) (a b : Option Bytes) (ran : Ran) → made ≡ setup → IsTried made n write a b ran → IsTried setup n write a b ran
tried_for made setup n write a b ran same is = subst (λ (s : Setup). IsTried s n write a b ran) same is

-- ## The call

-- with settings that were accepted
pub trials_ran : (names : List Bytes) (setup : Setup) (n : ℕ) (write : Type 0) (a b : Option Bytes) (ran : Ran) → TellsConfig names (Some trial_config) setup.config → TellsTable (app_names setup.config) (Some trial_table) setup.dar → IsTried setup n write a b ran
    → Trials names setup.kinds n write a b ran.status ran.journal
unfolding Trials
trials_ran names setup n write a b ran config table is = rw is.journal_is (setup, record { config = config; table = table; kinds_is = refl }, is.lawful, is.leaves)

-- without
pub trials_unset : (names : List Bytes) (kinds : List Charters) (n : ℕ) (write : Type 0) (a : Option Bytes) (status given : Status) (journal : Option (Kept Step)) → status ≡ given → journal ≡ None → IsUnset names (Some trial_config) (Some trial_table) ⊥ given
    → Trials names kinds n write a a status journal
unfolding Trials
trials_unset names kinds n write a status given journal status_is journal_is unset = rw (journal_is, status_is) (unset, refl)

pub words_tried : (found : Option ℕ) (n : ℕ) (names : List Bytes) (kinds : List Charters) (write : Type 0) (a b : Option Bytes) (status : Status) (journal : Option (Kept Step)) → Some n ≡ found → Trials names kinds n write a b status journal → TrialsWords found names kinds write a b status journal
unfolding TrialsWords
words_tried found n names kinds write a b status journal same trials = subst (λ (o : Option ℕ). TrialsWords o names kinds write a b status journal) same trials

pub words_wrong : (found : Option ℕ) (names : List Bytes) (kinds : List Charters) (write : Type 0) (a : Option Bytes) (status : Status) (journal : Option (Kept Step)) → None ≡ found → status ≡ statuses.Usage → journal ≡ None → TrialsWords found names kinds write a a status journal
unfolding TrialsWords
words_wrong found names kinds write a status journal same status_is journal_is = subst (λ (o : Option ℕ). TrialsWords o names kinds write a a status journal) same (status_is, journal_is, refl)
