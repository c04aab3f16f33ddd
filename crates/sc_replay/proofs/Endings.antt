-- How a call of `replay` ends.
use Rattle.std.proofs.Common.{◌≡◌, ◌<◌, ℕ, false, Option, None, Some, Ok, List, refl, subst, length, arith}
use Rattle.std.specs.Prelude.{IsTrue}
use Rattle.std.specs.List.{All}
use Rattle.std.proofs.lemmas.List.{length-map}
use Rattle.sc_terms.specs.declared.settings.Config.{Config}
use Rattle.sc_terms.specs.declared.settings.Dar.{Dar}
use Rattle.sc_terms.specs.declared.settings.AppEntry.{AppEntry}
use Rattle.sc_terms.specs.declared.steps.Step.{Step}
use Rattle.sc_parts.specs.declared.setup.Setup.{Setup}
use Rattle.sc_tokens.specs.Bytes.{Bytes}
use Rattle.sc_journal.specs.Kept.{Kept}
use Rattle.sc_model.specs.Settings.{Charters, IsSetup}
use Rattle.sc_dar.proofs.Kept.{named_if_ok}
use Rattle.sc_switch.specs.declared.ran.Ran.{Ran}
use Rattle.sc_switch.specs.declared.ran.Status.{Status}
use Rattle.sc_switch.specs.declared.ran.Status.TheVariants as statuses
use Rattle.sc_replay.specs.Replaying.{IsReplay, Told, TellsConfig, TellsTable, IsUnset, ComesIn, Ends, Leaves, app_names}
use Rattle.sc_replay.specs.Running.{IsRan}
use Rattle.sc_replay.proofs.Ranges.{in_range}

-- ## Settings that are accepted

-- what was read is in range
pub is_setup : (names : List Bytes) (kinds : List Charters) (told told_dar : Option Bytes) (config : Config) (dar : Dar) → length names ≡ length kinds → TellsConfig names told config → TellsTable (app_names config) told_dar dar
    → IsSetup (record { config = config; dar = dar; kinds = kinds })
is_setup names kinds told told_dar config dar paired tells table =
    let range = in_range tells.text names config tells.config_is in
    let tuples = named_if_ok table.text (app_names config) (Ok dar) table.table_is in
    record {
      steps = range.steps;
      bytes = range.bytes;
      apps = range.apps;
      kinds = subst (λ (n : ℕ). All (λ (app : AppEntry). app.kind < n) config.app) paired range.kinds;
      tuples = subst (λ (n : ℕ). All (λ list. All (λ tuple. tuple.app < n) list.tuples) dar.lists) (length-map config.app (λ (app : AppEntry). app.name)) tuples;
    }

-- ## Its journal

comes_later : (setup : Setup) (told : Option Bytes) (before read write : Type 0) (status : Status) → (before → read) → ComesIn setup told before write status → ComesIn setup told read write status
unfolding ComesIn
comes_later setup told before read write statuses.Done rose is = is
comes_later setup told before read write statuses.Usage rose is = is
comes_later setup told before read write (statuses.Config kind key) rose is = is
comes_later setup told before read write (statuses.Dar line kind) rose is = is
comes_later setup told before read write statuses.JournalFull rose is = is
comes_later setup told before read write statuses.Edge rose is = is
comes_later setup told before read write statuses.NoMemory rose is = is
comes_later setup told before read write (statuses.Script at kind) rose is = is
comes_later setup told before read write statuses.Read rose is = rose is
comes_later setup told before read write statuses.Write rose is = is

-- with settings that were accepted
pub ends_ran : (names : List Bytes) (told : Told) (setup : Setup) (script : Option Bytes) (before read write : Type 0) (a b : Option Bytes) (ran : Ran) → TellsConfig names told.config setup.config → TellsTable (app_names setup.config) told.dar setup.dar → script ≡ told.script → (before → read)
    → IsRan setup script before write a b ran → Ends names setup.kinds told read write a b ran.status ran.journal
unfolding Ends
ends_ran names told setup script before read write a b ran config table script_is rose is =
    rw is.journal_is (
      setup,
      record { config = config; table = table; kinds_is = refl },
      subst (λ (o : Option Bytes). ComesIn setup o read write ran.status) script_is (comes_later setup script before read write ran.status rose is.comes),
      is.lawful,
      subst (λ (o : Option Bytes). Leaves setup o write a b ran.status is.journal.items) script_is is.leaves,
    )

-- without
pub ends_unset : (names : List Bytes) (kinds : List Charters) (told : Told) (read write : Type 0) (a b : Option Bytes) (status given : Status) (journal : Option (Kept Step)) → status ≡ given → journal ≡ None → b ≡ a → IsUnset names told.config told.dar read given → Ends names kinds told read write a b status journal
unfolding Ends
ends_unset names kinds told read write a b status given journal status_is journal_is same unset = rw (journal_is, status_is) (unset, same)

-- ## The form of the words

no_usage : (names : List Bytes) (kinds : List Charters) (told : Told) (read write : Type 0) (a b : Option Bytes) (journal : Option (Kept Step)) → Ends names kinds told read write a b statuses.Usage journal → ⊥
unfolding Ends IsUnset ComesIn
no_usage names kinds told read write a b None (unset, same) = unset
no_usage names kinds told read write a b (Some journal) (setup, tells, comes, lawful, leaves) = comes

-- right words are no wrong form
pub never_usage : (names : List Bytes) (kinds : List Charters) (told : Told) (read write : Type 0) (a b : Option Bytes) (status : Status) (journal : Option (Kept Step)) → Ends names kinds told read write a b status journal → status ≡ statuses.Usage → ⊥
never_usage names kinds told read write a b status journal ends usage = no_usage names kinds told read write a b journal (subst (λ (s : Status). Ends names kinds told read write a b s journal) usage ends)

pub wrong_words : (words : List Bytes) → (IsReplay words → IsTrue false) → IsReplay words → ⊥
wrong_words words never is = absurd (grind (arith, never is))
