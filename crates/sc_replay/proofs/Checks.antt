-- How `check` ends.
use Rattle.std.proofs.Common.{◌≡◌, Option, None, Some, List, refl, sym, subst}
use Rattle.std.specs.Prelude.{length}
use Rattle.sc_terms.specs.declared.settings.Config.{Config}
use Rattle.sc_terms.specs.declared.settings.Dar.{Dar}
use Rattle.sc_terms.specs.declared.steps.Step.{Step}
use Rattle.sc_tokens.specs.Bytes.{Bytes}
use Rattle.sc_journal.specs.Kept.{Kept}
use Rattle.sc_switch.specs.declared.ran.Ran.{Ran}
use Rattle.sc_switch.specs.declared.ran.Status.{Status}
use Rattle.sc_switch.specs.declared.ran.Status.TheVariants as statuses
use Rattle.sc_replay.specs.Replaying.{TellsConfig, TellsTable, IsUnset, app_names}
use Rattle.sc_replay.specs.Putting.{IsPut}
use Rattle.sc_replay.specs.Checking.{Checks, ChecksWords, HasNoSteps, ok_line, tuple_count}

pub settings_put : (kinds : List Bytes) (configs dars : Option Bytes) (read write : Type 0) (old new : Option Bytes) (status put_status : Status) (journal : Option (Kept Step)) (config : Config) (dar : Dar)
    → HasNoSteps journal → status ≡ put_status → TellsConfig kinds configs config → TellsTable (app_names config) dars dar → IsPut write old new (ok_line (length config.app) (tuple_count dar.lists)) put_status
    → Checks kinds configs dars read write old new status journal
unfolding Checks HasNoSteps
settings_put kinds configs dars read write old new status put_status None config dar none same config_is table_is put = absurd none
settings_put kinds configs dars read write old new status put_status (Some journal) config dar none same config_is table_is put =
    (none, record { config = config; dar = dar; config_is = config_is; table_is = table_is; put = subst (λ (s : Status). IsPut write old new (ok_line (length config.app) (tuple_count dar.lists)) s) (sym same) put })

pub settings_refused : (kinds : List Bytes) (configs dars : Option Bytes) (read write : Type 0) (old : Option Bytes) (status cause : Status) (journal : Option (Kept Step))
    → journal ≡ None → status ≡ cause → IsUnset kinds configs dars read cause → Checks kinds configs dars read write old old status journal
unfolding Checks
settings_refused kinds configs dars read write old status cause journal none same refused =
    subst (λ (j : Option (Kept Step)). Checks kinds configs dars read write old old status j) (sym none) (refl, subst (λ (s : Status). IsUnset kinds configs dars read s) (sym same) refused)

pub words_checked : (names : Option (Bytes × Bytes)) (config dar : Bytes) (kinds : List Bytes) (holds : Bytes → Option Bytes) (read write : Type 0) (old new : Option Bytes) (ran : Ran)
    → Some (config, dar) ≡ names → Checks kinds (holds config) (holds dar) read write old new ran.status ran.journal → ChecksWords names kinds holds read write old new ran
unfolding ChecksWords
words_checked names config dar kinds holds read write old new ran same checks = subst (λ (n : Option (Bytes × Bytes)). ChecksWords n kinds holds read write old new ran) same checks

pub words_wrong : (names : Option (Bytes × Bytes)) (kinds : List Bytes) (holds : Bytes → Option Bytes) (read write : Type 0) (old : Option Bytes) (ran : Ran)
    → None ≡ names → ran.status ≡ statuses.Usage → ran.journal ≡ None → ChecksWords names kinds holds read write old old ran
unfolding ChecksWords
words_wrong names kinds holds read write old ran same status journal = subst (λ (n : Option (Bytes × Bytes)). ChecksWords n kinds holds read write old old ran) same (status, journal, refl)
