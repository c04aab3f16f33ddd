use Rattle.std.proofs.Common.{◌≡◌, ◌++◌, map, take}
use Rattle.toml.specs.View.{view}
use Rattle.sc_config.specs.ReadSettings.{param_text}
use Rattle.sc_config.proofs.making.add_params.Given as goal

abbrev pub invariant-loop-value : goal.invariant-loop-value
invariant-loop-value l = l.params ≡ l.fn.params ++ map (λ v. param_text (view v)) (take l.value-index l.values)
