-- Steps that are taken until nothing is to do: they come to an end, and are one step and then the rest.
use Rattle.std.proofs.Common.{◌≡◌, ℕ, zero, suc, Bool, true, false, refl, ◌<◌, ◌≤◌, arith}
use Rattle.sc_hosts.specs.Settle.{steps, settle}

-- once nothing is to do, further steps change nothing
steps-idle : {S : Type 0} (busy : S → Bool) (step : S → S) (k : ℕ) (s : S) → busy s ≡ false → steps busy step k s ≡ s
unfolding steps
steps-idle busy step zero s idle = refl
steps-idle busy step (suc k) s idle = rw (idle, steps) refl

-- where something is to do, one step and then the rest
steps-busy : {S : Type 0} (busy : S → Bool) (step : S → S) (k : ℕ) (s : S) → busy s ≡ true → steps busy step (suc k) s ≡ steps busy step k (step s)
unfolding steps
steps-busy busy step k s at_work = rw (at_work, steps) refl

-- each step lowers the weight
unfoldable pub Falls : {S : Type 0} → (S → Bool) → (S → S) → (S → ℕ) → Type 0
Falls {S = S} busy step weight = (s : S) → busy s ≡ true → weight (step s) < weight s

-- with as many steps as the weight, whatever more
steps-enough : {S : Type 0} (k : ℕ) (busy : S → Bool) (step : S → S) (weight : S → ℕ) → Falls busy step weight
    → (s : S) (b : Bool) → busy s ≡ b → weight s ≤ k → busy (steps busy step k s) ≡ false
unfolding Falls
steps-enough k busy step weight falls s false idle enough = rw (steps-idle busy step k s idle) idle
steps-enough zero busy step weight falls s true at_work enough = absurd (omega (arith, falls s at_work, enough))
steps-enough (suc k) busy step weight falls s true at_work enough =
    rw (steps-busy busy step k s at_work) (steps-enough k busy step weight falls (step s) (busy (step s)) refl (omega (arith, falls s at_work, enough)))

-- the number of steps doesn't matter, where it is enough
steps-same : {S : Type 0} (k j : ℕ) (busy : S → Bool) (step : S → S) (weight : S → ℕ) → Falls busy step weight
    → (s : S) (b : Bool) → busy s ≡ b → weight s ≤ k → weight s ≤ j → steps busy step k s ≡ steps busy step j s
unfolding Falls
steps-same k j busy step weight falls s false idle a b = rw (steps-idle busy step k s idle, steps-idle busy step j s idle) refl
steps-same zero j busy step weight falls s true at_work a b = absurd (omega (arith, falls s at_work, a))
steps-same (suc k) zero busy step weight falls s true at_work a b = absurd (omega (arith, falls s at_work, b))
steps-same (suc k) (suc j) busy step weight falls s true at_work a b =
    rw (steps-busy busy step k s at_work, steps-busy busy step j s at_work)
    (steps-same k j busy step weight falls (step s) (busy (step s)) refl (omega (arith, falls s at_work, a)) (omega (arith, falls s at_work, b)))

falls-under : {S : Type 0} (busy : S → Bool) (step : S → S) (weight : S → ℕ) → Falls busy step weight → (s : S) → busy s ≡ true → weight (step s) ≤ weight s
unfolding Falls
falls-under busy step weight falls s at_work = omega (arith, falls s at_work)

-- in the end nothing is to do
pub settle-ends : {S : Type 0} (busy : S → Bool) (step : S → S) (weight : S → ℕ) → Falls busy step weight → (s : S) → busy (settle busy step weight s) ≡ false
unfolding settle
settle-ends busy step weight falls s = steps-enough (weight s) busy step weight falls s (busy s) refl (omega arith)

-- where nothing is to do, nothing is done
pub settle-idle : {S : Type 0} (busy : S → Bool) (step : S → S) (weight : S → ℕ) → (s : S) → busy s ≡ false → settle busy step weight s ≡ s
unfolding settle
settle-idle busy step weight s idle = steps-idle busy step (weight s) s idle

-- else one step is taken, and then the rest
pub settle-next : {S : Type 0} (busy : S → Bool) (step : S → S) (weight : S → ℕ) → Falls busy step weight
    → (s : S) → busy s ≡ true → settle busy step weight s ≡ settle busy step weight (step s)
unfolding settle
settle-next busy step weight falls s at_work = next
  where
    one : steps busy step (weight s) s ≡ steps busy step (suc (weight s)) s
    one = steps-same (weight s) (suc (weight s)) busy step weight falls s true at_work (omega arith) (omega arith)

    two : steps busy step (suc (weight s)) s ≡ steps busy step (weight s) (step s)
    two = steps-busy busy step (weight s) s at_work

    three : steps busy step (weight s) (step s) ≡ steps busy step (weight (step s)) (step s)
    three = steps-same (weight s) (weight (step s)) busy step weight falls (step s) (busy (step s)) refl (falls-under busy step weight falls s at_work) (omega arith)

    next : steps busy step (weight s) s ≡ steps busy step (weight (step s)) (step s)
    next = rw (one, two) three

no-steps : {S : Type 0} (busy : S → Bool) (step : S → S) (s : S) → steps busy step zero s ≡ s
unfolding steps
no-steps busy step s = refl

steps-keep : {S A : Type 0} (k : ℕ) (busy : S → Bool) (step : S → S) (kept : S → A) → ((s : S) → kept (step s) ≡ kept s)
    → (s : S) (b : Bool) → busy s ≡ b → kept (steps busy step k s) ≡ kept s
steps-keep k busy step kept keeps s false idle = rw (steps-idle busy step k s idle) refl
steps-keep zero busy step kept keeps s true at_work = rw (no-steps busy step s) refl
steps-keep (suc k) busy step kept keeps s true at_work =
    rw (steps-busy busy step k s at_work, steps-keep k busy step kept keeps (step s) (busy (step s)) refl) (keeps s)

-- what each step keeps is kept in the end
pub settle-keeps : {S A : Type 0} (busy : S → Bool) (step : S → S) (weight : S → ℕ) (kept : S → A) → ((s : S) → kept (step s) ≡ kept s)
    → (s : S) → kept (settle busy step weight s) ≡ kept s
unfolding settle
settle-keeps busy step weight kept keeps s = steps-keep (weight s) busy step kept keeps s (busy s) refl
