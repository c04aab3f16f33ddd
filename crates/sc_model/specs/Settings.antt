-- What a container is set up with. This project's own.
use Rattle.std.specs.Prelude.{ℕ, ℤ, pos, negsuc, ◌+◌, ◌*◌, ◌<◌, ◌≤◌, ◌==◌, if◌then◌else◌, List, [], Option, None, Some, option_and_then, length}
use Rattle.std.specs.List.{slice_get, All}
use Rattle.sc_terms.specs.declared.settings.Config.{Config}
use Rattle.sc_terms.specs.declared.settings.AppEntry.{AppEntry}
use Rattle.sc_terms.specs.declared.settings.MethodList.{MethodList}
use Rattle.sc_terms.specs.declared.settings.Tuple.{Tuple}
use Rattle.sc_terms.specs.declared.charters.Charter.{Charter}
use Rattle.sc_terms.specs.declared.charters.ListenerCharter.{ListenerCharter}
use Rattle.sc_parts.specs.declared.setup.Setup.{Setup}
use Rattle.sc_tokens.specs.Bytes.{Bytes}

-- the stated interfaces of a kind: the servlet's, and the listener's where it has one
abbrev pub Charters : Type 0
Charters = Charter × Option ListenerCharter

-- the application of a host
abbrev pub app_of : Config → ℕ → Option AppEntry
app_of config host = slice_get config.app host

-- the charters of an application
unfoldable pub charters_of : Setup → ℕ → Option Charters
charters_of setup host =
    option_and_then (λ app. slice_get setup.kinds app.kind) (app_of setup.config host)

-- the parameters of an application
unfoldable pub params_in : Option AppEntry → List Bytes
params_in None = []
params_in (Some app) = app.params

-- the moment so many minutes after another, none for 0 and less
unfoldable pub moment_after : ℕ → ℤ → Option ℕ
moment_after began (pos minutes) = if minutes == 0 then None else Some (began + minutes * 60000)
moment_after began (negsuc minutes) = None

-- the moment at which a session expires that began at this one
unfoldable pub expiry_in : Option AppEntry → ℕ → Option ℕ
expiry_in None began = None
expiry_in (Some app) began = moment_after began app.expires

-- the settings are in range, each kind has its charters and each tuple its application
pub record IsSetup (setup : Setup) : Type 0 where
  pub steps : setup.config.journal_steps ≤ 1000000
  pub bytes : setup.config.journal_bytes ≤ 67108864
  pub apps : length setup.config.app ≤ 64
  pub kinds : All (λ (app : AppEntry). app.kind < length setup.kinds) setup.config.app
  pub tuples : All
      (λ (list : MethodList).
      All (λ (tuple : Tuple). tuple.app < length setup.config.app) list.tuples) setup.dar.lists
