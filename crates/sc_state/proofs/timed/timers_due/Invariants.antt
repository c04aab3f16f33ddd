use Rattle.std.proofs.Common.{◌≡◌, take, ◌∷◌, []}
use Rattle.std.specs.List.{flat_map}
use Rattle.sc_state.specs.Entries.{timer_entry, least_due}
use Rattle.sc_state.proofs.timed.timers_due.Given as goal

abbrev pub invariant-loop-timer : goal.invariant-loop-timer
invariant-loop-timer l = l.least ≡ least_due l.fired (flat_map (λ timer. timer_entry timer ∷ []) (take l.timer-index l.timers))
