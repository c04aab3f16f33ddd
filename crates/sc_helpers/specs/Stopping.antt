-- How far the calls of a helper go in a turn: all are accepted, or the turn refuses one and none is
-- made behind it. This project's own.
use Rattle.std.specs.Prelude.{◌≡◌, ◌⊎◌, ℕ, ◌+◌, zero, suc, Result, Ok, Err}
use Rattle.sc_value.specs.declared.no_memory.NoMemory as no
use Rattle.sc_terms.specs.declared.calls.Call.{Call}
use Rattle.sc_terms.specs.declared.calls.Refusal.{Refusal}
use Rattle.sc_terms.specs.declared.calls.Refusal.TheVariants.{NoMemory}
use Rattle.sc_hosts.specs.Effects.{answer_to_call}
use Rattle.sc_hosts.specs.Scripting.{Done, Make, Script, with_number}
use Rattle.sc_turn.specs.Working.{Working, play_of, after_made, IsAccepted, IsRefused}
use Rattle.sc_helpers.specs.declared.stopping.Stopped.{Stopped}

-- ## What a helper's calls leave

-- every call of the script was accepted
unfoldable pub GoesThrough : Script → Working → Working → Type 0
GoesThrough Done old new = new ≡ old
GoesThrough (Make call next) old new =
    IsAccepted call old (answer_to_call (play_of old) call) (after_made call old)
    × GoesThrough (next (answer_to_call (play_of old) call)) (after_made call old) new

-- the turn refused the first call of the script
unfoldable pub IsFirstRefused : Script → Working → Refusal → Working → Type 0
IsFirstRefused Done old refused new = ⊥
IsFirstRefused (Make call next) old refused new = IsRefused call old refused new

-- so many calls of the script were accepted; then the turn refused the next one, or memory was
-- wanting for what it names
unfoldable pub StopsAfter : ℕ → Script → Working → Refusal → Working → Type 0
StopsAfter zero script old refused new =
    ((refused ≡ NoMemory) × (new ≡ old)) ⊎ IsFirstRefused script old refused new
StopsAfter (suc made) Done old refused new = ⊥
StopsAfter (suc made) (Make call next) old refused new =
    IsAccepted call old (answer_to_call (play_of old) call) (after_made call old)
    × StopsAfter made (next (answer_to_call (play_of old) call)) (after_made call old) refused new

-- the calls of the script went through, or they stopped
unfoldable pub IsDone : Script → Working → Result (Unit {0}) Stopped → Working → Type 0
IsDone script old (Ok x) new = GoesThrough script old new
IsDone script old (Err stop) new = StopsAfter stop.made script old stop.refusal new

-- the same where something is answered once they went through
unfoldable pub IsCarried : {X : Type 0} → Script → X → Working → Result X Stopped → Working → Type 0
IsCarried script answer old (Ok given) new = (given ≡ answer) × GoesThrough script old new
IsCarried script answer old (Err stop) new = StopsAfter stop.made script old stop.refusal new

-- ## Calls behind others

-- the calls of the script went through, or they stopped, behind so many others that were accepted
unfoldable pub Goes : ℕ → Script → Working → Result (Unit {0}) Stopped → Working → Type 0
Goes before script old (Ok x) new = GoesThrough script old new
Goes before script old (Err stop) new =
    (made : ℕ) × (stop.made ≡ before + made) × StopsAfter made script old stop.refusal new

-- the first calls of a script were accepted, and the rest goes on from there; or the script stopped
-- at them
unfoldable pub Leads : (Script → Script) → ℕ → Working → Result ℕ Stopped → Working → Type 0
Leads part before old (Ok after) mid =
    (script : Script) (result : Result (Unit {0}) Stopped) (last : Working)
    → Goes after script mid result last → Goes before (part script) old result last
Leads part before old (Err stop) mid =
    (script : Script) → Goes before (part script) old (Err stop) mid

-- the same of a call that gives a number, which the rest names
unfoldable pub Gives : Call → ℕ → Working → Result ℕ Stopped → Working → Type 0
Gives call before old (Ok number) mid =
    (next : ℕ → Script) (result : Result (Unit {0}) Stopped) (last : Working)
    → Goes (before + 1) (next number) mid result last
    → Goes before (Make call (with_number next)) old result last
Gives call before old (Err stop) mid =
    (next : ℕ → Script) → Goes before (Make call (with_number next)) old (Err stop) mid

-- how many calls were accepted after one that was answered so, or where they stopped
unfoldable pub IsCounted : ℕ → Result (Unit {0}) Refusal → Result ℕ Stopped → Type 0
IsCounted made (Ok x) out = out ≡ Ok (made + 1)
IsCounted made (Err refused) out = out ≡ Err (record { refusal = refused; made = made })

-- a servlet goes on where its helper stopped, unless memory was wanting
unfoldable pub IsHeard : Stopped → Result (Unit {0}) no.NoMemory → Type 0
IsHeard stop (Ok x) = stop.refusal ≡ NoMemory → ⊥
IsHeard stop (Err e) = Unit {0}
