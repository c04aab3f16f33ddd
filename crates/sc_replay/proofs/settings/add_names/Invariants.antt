use Rattle.std.proofs.Common.{◌≡◌, ◌++◌, map, take}
use Rattle.sc_replay.proofs.settings.add_names.Given as goal

abbrev pub invariant-loop-app : goal.invariant-loop-app
invariant-loop-app l = l.names ≡ l.fn.names ++ map (λ app. app.name) (take l.app-index l.apps)
