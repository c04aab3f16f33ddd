use Rattle.std.proofs.Common.{◌≡◌, ◌++◌, take}
use Rattle.std.specs.Prelude.{filter}
use Rattle.sc_steps.specs.TurnParts.{is_running}
use Rattle.sc_steps.proofs.leaving.add_running.Given as goal

abbrev pub invariant-loop-entry : goal.invariant-loop-entry
invariant-loop-entry l = l.running ≡ l.fn.running ++ filter (is_running l.session) (take l.entry-index l.fired)
