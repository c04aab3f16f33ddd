-- How a call ends, from its parts.
use Rattle.std.specs.Prelude.{Result, Ok, Err, IfErr, IfOk}
use Rattle.std.proofs.Common.{◌≡◌, List, Option, None, Some, refl, sym, subst}
use Rattle.sc_parts.specs.declared.setup.Setup.{Setup}
use Rattle.sc_tokens.specs.Bytes.{Bytes}
use Rattle.sc_journal.specs.Kept.{Kept}
use Rattle.sc_terms.specs.declared.steps.Step.{Step}
use Rattle.sc_model.specs.Settings.{Charters, IsSetup}
use Rattle.sc_edge.specs.Edges.{EdgeState}
use Rattle.sc_switch.specs.declared.ran.Ran.{Ran}
use Rattle.sc_switch.specs.declared.ran.Status.{Status}
use Rattle.sc_switch.specs.declared.ran.Status.TheVariants as statuses
use Rattle.sc_replay.specs.Replaying.{IsUnset, TellsConfig, TellsTable, app_names}
use Rattle.sc_courses.specs.Asking.{Sources, none_given}
use Rattle.sc_courses.proofs.AskingLaws.{asked_none}
use Rattle.sc_courses.specs.Courses.{Told}
use Rattle.sc_serve.specs.declared.beginning.Begun.{Begun}
use Rattle.sc_serve.specs.Running.{IsServed}
use Rattle.sc_serve.specs.Served.{IsAsked, IsSetUp, Serves, ServesWords}
use Rattle.sc_serve.proofs.Leavings.{IsServedOn, beginning}

pub serves_ran : (names : List Bytes) (kinds : List Charters) (configs dars : Option Bytes) (read : Type 0) (first now : EdgeState) (told told2 : Told) (sources sources2 : Sources) (ran : Ran) (setup : Setup) → setup.kinds ≡ kinds → TellsConfig names configs setup.config
    → TellsTable (app_names setup.config) dars setup.dar → IsServedOn setup told first now told2 sources sources2 ran → Serves names kinds configs dars read first now told told2 sources sources2 ran ran.journal
unfolding Serves
serves_ran names kinds configs dars read first now told told2 sources sources2 ran setup kinds_is config table (given, asked, served) =
    subst (λ (journal : Option (Kept Step)). Serves names kinds configs dars read first now told told2 sources sources2 ran journal) (sym served.journal_is)
    (setup, record { config = config; table = table; kinds_is = kinds_is }, given, asked, served.leaves)

pub serves_unset : (names : List Bytes) (kinds : List Charters) (configs dars : Option Bytes) (read : Type 0) (first : EdgeState) (told : Told) (sources : Sources) (ran : Ran) (status : Status) → ran.status ≡ status → ran.journal ≡ None
    → IsUnset names configs dars read status → Serves names kinds configs dars read first first told told sources sources ran ran.journal
unfolding Serves
serves_unset names kinds configs dars read first told sources ran status status_is journal_is unset = rw (journal_is, status_is) (unset, refl, refl, asked_none sources)

pub words_served : (asked : Option (Bytes × Bytes)) (config dar : Bytes) (names : List Bytes) (kinds : List Charters) (holds : Bytes → Option Bytes) (read : Type 0) (first now : EdgeState) (told told2 : Told) (sources sources2 : Sources) (ran : Ran) → Some (config, dar) ≡ asked
    → Serves names kinds (holds config) (holds dar) read first now told told2 sources sources2 ran ran.journal → ServesWords asked names kinds holds read first now told told2 sources sources2 ran
unfolding ServesWords
words_served asked config dar names kinds holds read first now told told2 sources sources2 ran e serves = rw (sym e) serves

pub words_wrong : (asked : Option (Bytes × Bytes)) (names : List Bytes) (kinds : List Charters) (holds : Bytes → Option Bytes) (read : Type 0) (first : EdgeState) (told : Told) (sources : Sources) (ran : Ran) → None ≡ asked → ran.status ≡ statuses.Usage → ran.journal ≡ None
    → ServesWords asked names kinds holds read first first told told sources sources ran
unfolding ServesWords
words_wrong asked names kinds holds read first told sources ran e status journal = rw (sym e) (status, journal, refl, refl, asked_none sources)

-- ## As a call begins

pub ok_right : (r : Result Begun Ran) (setup : Setup) → IsSetup setup → IfOk r (λ begun. begun.server.core.switch.setup ≡ setup) → IfOk r (λ begun. IsSetup begun.server.core.switch.setup)
ok_right (Ok begun) setup right is = subst IsSetup (sym is) right
ok_right (Err ran) setup right is = tt

pub ok_set : (r : Result Begun Ran) (names : List Bytes) (kinds : List Charters) (configs dars : Option Bytes) (setup : Setup) → setup.kinds ≡ kinds → TellsConfig names configs setup.config → TellsTable (app_names setup.config) dars setup.dar
    → IfOk r (λ begun. begun.server.core.switch.setup ≡ setup) → IfOk r (λ begun. IsSetUp names kinds configs dars begun.server.core.switch.setup)
ok_set (Ok begun) names kinds configs dars setup kinds_is config table is =
    subst (λ (s : Setup). IsSetUp names kinds configs dars s) (sym is) (record { config = config; table = table; kinds_is = kinds_is })
ok_set (Err ran) names kinds configs dars setup kinds_is config table is = tt

pub err_set : (r : Result Begun Ran) (names : List Bytes) (kinds : List Charters) (configs dars : Option Bytes) (read : Type 0) (setup : Setup) → setup.kinds ≡ kinds → TellsConfig names configs setup.config → TellsTable (app_names setup.config) dars setup.dar
    → IfErr r (λ ran. (edge : EdgeState) (told : Told) → IsServed (beginning setup told edge) edge told ran) → IfErr r (λ ran. (edge : EdgeState) (told : Told) (sources : Sources) → Serves names kinds configs dars read edge edge told told sources sources ran ran.journal)
err_set (Ok begun) names kinds configs dars read setup kinds_is config table served = tt
err_set (Err ran) names kinds configs dars read setup kinds_is config table served = λ edge told sources. serves_ran names kinds configs dars read edge edge told told sources sources ran setup kinds_is config table (none_given, asked_none sources, served edge told)

pub ok_asked : (r : Result Begun Ran) (asked : Option (Bytes × Bytes)) (config dar : Bytes) (names : List Bytes) (kinds : List Charters) (holds : Bytes → Option Bytes) → Some (config, dar) ≡ asked
    → IfOk r (λ begun. IsSetUp names kinds (holds config) (holds dar) begun.server.core.switch.setup) → IfOk r (λ begun. IsAsked asked names kinds holds begun.server.core.switch.setup)
unfolding IsAsked
ok_asked (Ok begun) asked config dar names kinds holds e set = rw (sym e) set
ok_asked (Err ran) asked config dar names kinds holds e set = tt

pub err_asked : (r : Result Begun Ran) (asked : Option (Bytes × Bytes)) (config dar : Bytes) (names : List Bytes) (kinds : List Charters) (holds : Bytes → Option Bytes) (read : Type 0) → Some (config, dar) ≡ asked
    → IfErr r (λ ran. (edge : EdgeState) (told : Told) (sources : Sources) → Serves names kinds (holds config) (holds dar) read edge edge told told sources sources ran ran.journal) → IfErr r (λ ran. (edge : EdgeState) (told : Told) (sources : Sources) → ServesWords asked names kinds holds read edge edge told told sources sources ran)
err_asked (Ok begun) asked config dar names kinds holds read e serves = tt
err_asked (Err ran) asked config dar names kinds holds read e serves = λ edge told sources. words_served asked config dar names kinds holds read edge edge told told sources sources ran e (serves edge told sources)

-- and as it goes on
pub asked_serves : (asked : Option (Bytes × Bytes)) (names : List Bytes) (kinds : List Charters) (holds : Bytes → Option Bytes) (read : Type 0) (first now : EdgeState) (told told2 : Told) (sources sources2 : Sources) (ran : Ran) (setup : Setup)
    → IsAsked asked names kinds holds setup → IsServedOn setup told first now told2 sources sources2 ran → ServesWords asked names kinds holds read first now told told2 sources sources2 ran
unfolding IsAsked
asked_serves (Some asked) names kinds holds read first now told told2 sources sources2 ran setup set served =
    words_served (Some asked) asked.0 asked.1 names kinds holds read first now told told2 sources sources2 ran refl (serves_ran names kinds (holds asked.0) (holds asked.1) read first now told told2 sources sources2 ran setup set.kinds_is set.config set.table served)
asked_serves None names kinds holds read first now told told2 sources sources2 ran setup set served = absurd set
