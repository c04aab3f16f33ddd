use Rattle.std.specs.Prelude.{◌≡◌, ◌++◌, take}
use Rattle.std.specs.List.{flat_map}
use Rattle.sc_console.specs.Answers.{app_text}
use Rattle.sc_console.proofs.listed.write_apps.Given as goal

abbrev pub invariant-loop-app : goal.invariant-loop-app
invariant-loop-app l = l.out ≡ l.fn.out ++ flat_map app_text (take l.app-index l.apps)
