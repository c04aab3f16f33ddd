-- Worked cases of what is due.
use Rattle.std.proofs.Common.{◌≡◌, ℕ, List, [], ◌∷◌, refl}
use Rattle.sc_parts.specs.declared.timers.TimerName.{TimerName}
use Rattle.sc_parts.specs.declared.timers.TimerName.TheVariants.{Expiry, Branch, Client, Cancel, Server}
use Rattle.sc_model.specs.Timers.{DueEntry, DueEvent, running, in_order, due_by}
use Rattle.sc_model.specs.Timers.DueEvent.{Made, Ended}

-- by due moment, host, serial and timer's name
entry : ℕ → ℕ → ℕ → TimerName → DueEntry
entry due host serial timer = record { due = due; app = record { host = host; serial = serial }; timer = timer }

-- made out of order; one ended, and one of those that ended was made again
history : List DueEvent
history =
    Made (entry 5 1 1 (Branch 1))
    ∷ Made (entry 5 0 2 (Branch 1))
    ∷ Made (entry 5 0 1 (Branch 1))
    ∷ Ended (entry 5 0 2 (Branch 1))
    ∷ Made (entry 5 0 1 Expiry)
    ∷ Ended (entry 5 1 1 (Branch 1))
    ∷ Made (entry 5 1 1 (Branch 1))
    ∷ Made (entry 4 1 1 (Branch 1))
    ∷ Made (entry 6 0 0 Expiry)
    ∷ []

due_in_order : due_by history 5 ≡ entry 4 1 1 (Branch 1) ∷ entry 5 0 1 Expiry ∷ entry 5 0 1 (Branch 1) ∷ entry 5 1 1 (Branch 1) ∷ []
unfolding entry history running in_order due_by
due_in_order = refl

due_before : due_by history 3 ≡ []
unfolding entry history running in_order due_by
due_before = refl

-- of one session and moment: by the number of what the timer is of, and the rank within a number
timers : List DueEvent
timers =
    Made (entry 5 0 1 (Server 2))
    ∷ Made (entry 5 0 1 (Client 3))
    ∷ Made (entry 5 0 1 (Cancel 2))
    ∷ Made (entry 5 0 1 (Branch 2))
    ∷ Made (entry 5 0 1 (Client 2))
    ∷ Made (entry 5 0 1 (Server 0))
    ∷ Made (entry 5 0 1 (Branch 2))
    ∷ Made (entry 5 0 1 Expiry)
    ∷ []

timers_in_order : due_by timers 5
    ≡ entry 5 0 1 Expiry
    ∷ entry 5 0 1 (Server 0)
    ∷ entry 5 0 1 (Branch 2)
    ∷ entry 5 0 1 (Client 2)
    ∷ entry 5 0 1 (Cancel 2)
    ∷ entry 5 0 1 (Server 2)
    ∷ entry 5 0 1 (Client 3)
    ∷ []
unfolding entry timers running in_order due_by
timers_in_order = refl
