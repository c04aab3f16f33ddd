use Rattle.std.proofs.Common.{◌≡◌, [], ◌∷◌, ◌++◌, take}
use Rattle.std.specs.List.{flat_map}
use Rattle.sc_hosts.specs.Sessions.{timer_entry}
use Rattle.sc_ticks.proofs.entries.put_timers.Given as goal

abbrev pub invariant-loop-timer : goal.invariant-loop-timer
invariant-loop-timer l = l.out ≡ l.fn.out ++ flat_map (λ timer. timer_entry timer ∷ []) (take l.timer-index l.timers)
