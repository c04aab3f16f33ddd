use Rattle.std.proofs.Common.{◌≡◌, ◌++◌, map, take}
use Rattle.toml.specs.View.{view}
use Rattle.sc_config.specs.ReadSettings.{app_entry}
use Rattle.sc_config.proofs.making.add_apps.Given as goal

abbrev pub invariant-loop-app : goal.invariant-loop-app
invariant-loop-app l = l.entries ≡ l.fn.entries ++ map (λ v. app_entry l.kinds (view v)) (take l.app-index l.apps)
