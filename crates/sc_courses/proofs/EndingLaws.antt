-- What a step more, and the end of an epoch, make of when epochs end.
use Rattle.std.proofs.Common.{◌≡◌, true, List, [], ◌∷◌, ◌++◌, refl, sym, ap, ◌∙◌, subst, inl, inr}
use Rattle.std.specs.Prelude.{◌⊎◌}
use Rattle.std.proofs.lemmas.Bool.{false≢true}
use Rattle.sc_value.specs.declared.ids.AppId.{AppId}
use Rattle.sc_terms.specs.declared.steps.Step.{Step}
use Rattle.sc_terms.specs.declared.steps.Step.TheVariants as steps
use Rattle.sc_parts.specs.declared.setup.Setup.{Setup}
use Rattle.sc_hosts.specs.Runs.{Epoch}
use Rattle.sc_courses.specs.Endings.{AreInTime, EndedInTime, HasToEnd, IsInTime, waits_for_end}
use Rattle.sc_courses.specs.Ordering.{with_steps}

pub withdrawal_waits : (app : AppId) → waits_for_end (steps.Withdraw app) ≡ true → ⊥
unfolding waits_for_end
withdrawal_waits app is = false≢true is

-- ## A step more

-- the first of the steps, this one where there is none
first-of : Step → List Step → Step
first-of other [] = other
first-of other (step ∷ steps) = step

rest-of : List Step → List Step
rest-of [] = []
rest-of (step ∷ steps) = steps

none-first : (before : List Step) (step : Step) (later : List Step) → [] ≡ before ++ step ∷ later → ⊥
none-first [] step later e = let x : [] ≡ step ∷ later = e in cc
none-first (b ∷ bs) step later e = let x : [] ≡ b ∷ (bs ++ step ∷ later) = e in cc

-- a step of a journal with one more at its end is that one, or one of the journal
abbrev Divided : List Step → Step → List Step → Step → Type 0
Divided journal last before step = ((before ≡ journal) × (step ≡ last)) ⊎ ((rest : List Step) × (journal ≡ before ++ step ∷ rest))

divided-more : (j b : Step) (journal : List Step) (last : Step) (before : List Step) (step : Step) → j ≡ b → Divided journal last before step → Divided (j ∷ journal) last (b ∷ before) step
divided-more j b journal last before step same (inl (whole, is)) = inl (ap (λ (steps : List Step). b ∷ steps) whole ∙ ap (λ (s : Step). s ∷ journal) (sym same), is)
divided-more j b journal last before step same (inr (rest, is)) = inr (rest, ap (λ (steps : List Step). j ∷ steps) is ∙ ap (λ (s : Step). s ∷ (before ++ step ∷ rest)) same)

divided : (journal : List Step) (last : Step) (before : List Step) (step : Step) (later : List Step) → journal ++ last ∷ [] ≡ before ++ step ∷ later → Divided journal last before step
unfolding first-of rest-of
divided [] last [] step later e = inl (refl, sym (ap (first-of last) e))
divided [] last (b ∷ bs) step later e = absurd (none-first bs step later (ap rest-of e))
divided (j ∷ js) last [] step later e = inr (js, ap (λ (s : Step). s ∷ js) (ap (first-of last) e))
divided (j ∷ js) last (b ∷ bs) step later e = divided-more j b js last bs step (ap (first-of last) e) (divided js last bs step later (ap rest-of e))

-- the epoch hadn't to end before the step, or the step doesn't wait for that
pub in_time_step : (setup : Setup) (epoch : Epoch) (last : Step) → (waits_for_end last ≡ true → HasToEnd setup epoch → ⊥) → IsInTime setup epoch → IsInTime setup (with_steps epoch (last ∷ []))
unfolding IsInTime
in_time_step setup epoch last ready in_time before step later e waits ends = by (divided epoch.journal last before step later e)
  where
    by : Divided epoch.journal last before step → ⊥
    by (inl (same, is)) = ready (subst (λ (s : Step). waits_for_end s ≡ true) is waits) (subst (λ (journal : List Step). HasToEnd setup (record epoch { journal = journal })) same ends)
    by (inr (rest, is)) = in_time before step rest is waits ends

pub in_time_none : (setup : Setup) (epoch : Epoch) → epoch.journal ≡ [] → IsInTime setup epoch
unfolding IsInTime
in_time_none setup epoch none before step later e waits ends = none-first before step later (sym none ∙ e)

-- ## The end of an epoch

ended-more : (setup : Setup) (ended : List Epoch) (epoch : Epoch) → HasToEnd setup epoch → IsInTime setup epoch → EndedInTime setup ended → EndedInTime setup (ended ++ epoch ∷ [])
unfolding EndedInTime
ended-more setup [] epoch ends in_time are = (ends, in_time, tt)
ended-more setup (e ∷ es) epoch ends in_time are = (are.0, are.1, ended-more setup es epoch ends in_time are.2)

-- ## Up to a point

pub are_in_time_begin : (setup : Setup) (running : Epoch) → running.journal ≡ [] → AreInTime setup (record { ended = []; running = running })
unfolding EndedInTime
are_in_time_begin setup running none = record { ended = tt; running = in_time_none setup running none }

pub are_in_time_step : (setup : Setup) (ended : List Epoch) (running : Epoch) (step : Step) → (waits_for_end step ≡ true → HasToEnd setup running → ⊥) → AreInTime setup (record { ended = ended; running = running })
    → AreInTime setup (record { ended = ended; running = with_steps running (step ∷ []) })
are_in_time_step setup ended running step ready are = record { ended = are.ended; running = in_time_step setup running step ready are.running }

pub are_in_time_next : (setup : Setup) (ended : List Epoch) (running next : Epoch) → HasToEnd setup running → next.journal ≡ [] → AreInTime setup (record { ended = ended; running = running })
    → AreInTime setup (record { ended = ended ++ running ∷ []; running = next })
are_in_time_next setup ended running next ends none are = record { ended = ended-more setup ended running ends are.running are.ended; running = in_time_none setup next none }
