-- What a server keeps is of a second, through its steps.
use Rattle.std.proofs.Common.{◌≡◌, ℕ, ◌+◌, ◌<◌, ◌⊎◌, Bool, true, false, Option, None, Some, List, [], ◌∷◌, ◌++◌, refl, ap, sym, ◌∙◌, subst, inl, inr, arith}
use Rattle.std.specs.Prelude.{length, ◌==◌}
use Rattle.std.specs.Option.{is_some}
use Rattle.std.proofs.lemmas.Bool.Decides.{nat_tests}
use Rattle.sc_journal.specs.Kept.{Kept}
use Rattle.sc_terms.specs.declared.steps.Step.{Step}
use Rattle.sc_terms.specs.declared.steps.Step.TheVariants as steps
use Rattle.sc_edge.specs.Telling.{Notes}
use Rattle.sc_edge.specs.declared.notice.Noted.{Noted}
use Rattle.sc_edge.specs.declared.notice.Noted.TheVariants as noted
use Rattle.sc_moments.specs.Moments.{moment_of}
use Rattle.sc_servlets.specs.declared.done.Done.{Done}
use Rattle.sc_switch.specs.Standing.{Known, net_of, step_of}
use Rattle.sc_switch.specs.Answers.{with_step}
use Rattle.sc_courses.specs.Courses.{Beginning, Told}
use Rattle.sc_courses.specs.Reports.{TellsSuch}
use Rattle.sc_courses.specs.Seconds.{HandsInTime, IsInTime, Keeps, KeepsNext, part_in}
use Rattle.sc_courses.proofs.ReportLaws.{such_more, such_same}
use Rattle.sc_courses.proofs.SecondLaws.{keeps_handed, keeps_hands, keeps_settled, keeps_step, keeps_told, next_hands, next_told}
use Rattle.sc_rounds.specs.declared.stepping.Core.{Core}
use Rattle.sc_rounds.specs.declared.stepping.Turning.{Turning}
use Rattle.sc_rounds.specs.Serving.{EndsInSeconds, IsInSeconds, IsInSecondsNext}
use Rattle.sc_rounds.proofs.Timings.{left_moment, taken_moment}

-- where steps are recorded, this one may be taken behind those that are kept
abbrev pub IsInTimeAt : Core → Step → Type 0
IsInTimeAt core step = core.turning.recording ≡ true → IsInTime core.kept_since core.switch.journal step

-- a turn takes no time
pub turn_in_time : (core : Core) (done : Done) → IsInTimeAt core (step_of done)
unfolding step_of
turn_in_time core done recording = tt

pub seconds_end : (from : Beginning) (told : Told) (core : Core) → IsInSeconds from told core → EndsInSeconds from told core.switch
seconds_end from told core seconds recorded =
    such_same from.told told (Keeps core.kept_since (net_of core.switch).moment core.switch.journal) (HandsInTime core.switch.journal) (keeps_hands core.kept_since (net_of core.switch).moment core.switch.journal) (seconds recorded).1

pub ends_at : (from : Beginning) (told : Told) (old new : Known) → new ≡ old → EndsInSeconds from told old → EndsInSeconds from told new
ends_at from told old new e seconds = subst (λ (known : Known). EndsInSeconds from told known) (sym e) seconds

next-at : (from : Beginning) (told : Told) (since : ℕ) (moment moment2 : ℕ) (kept kept2 : List Step) → moment2 ≡ moment → kept2 ≡ kept → TellsSuch from.told told (KeepsNext since moment kept) → TellsSuch from.told told (KeepsNext since moment2 kept2)
next-at from told since moment moment2 kept kept2 a b tells = rw (a, b) tells

-- a step was taken
pub seconds_step : (from : Beginning) (told : Told) (core : Core) (switch : Known) (step : Step) → switch ≡ with_step core.switch step → IsInTimeAt core step → IsInSeconds from told core → IsInSecondsNext from told (record core { switch = switch })
seconds_step from told core switch step e in_time seconds recorded = (
  (seconds recorded).0,
  next-at from told core.kept_since (moment_of (net_of core.switch).moment step) (net_of switch).moment (core.switch.journal ++ step ∷ []) switch.journal (taken_moment step core.switch switch e) (ap (λ (known : Known). known.journal) e)
      (such_same from.told told (Keeps core.kept_since (net_of core.switch).moment core.switch.journal) (KeepsNext core.kept_since (moment_of (net_of core.switch).moment step) (core.switch.journal ++ step ∷ []))
      (keeps_step core.kept_since (net_of core.switch).moment core.switch.journal step (in_time (seconds recorded).0)) (seconds recorded).1),
)

keeps-at : (from : Beginning) (told : Told) (since since2 moment moment2 : ℕ) (kept kept2 : List Step) → since2 ≡ since → moment2 ≡ moment → kept2 ≡ kept → TellsSuch from.told told (Keeps since moment kept) → TellsSuch from.told told (Keeps since2 moment2 kept2)
keeps-at from told since since2 moment moment2 kept kept2 a b c tells = rw (a, b, c) tells

still-recording : (old new : Core) → new.turning ≡ old.turning → old.turning.recording ≡ true → new.turning.recording ≡ true
still-recording old new same recording = ap (λ (turning : Turning). turning.recording) same ∙ recording

-- the notice was told of the step, and the moment was noted
pub seconds_settled : (from : Beginning) (told told2 : Told) (old new : Core) (count : ℕ) → Notes told told2 (noted.Step count) → new.switch ≡ record old.switch { left = new.switch.left } → new.turning ≡ old.turning
    → (length old.switch.journal ≡ 1 → new.kept_since ≡ (net_of old.switch).moment) → ((length old.switch.journal ≡ 1 → ⊥) → new.kept_since ≡ old.kept_since) → IsInSecondsNext from told old → IsInSeconds from told2 new
unfolding part_in
seconds_settled from told told2 old new count notes same turning first later seconds recorded = (
  still-recording old new turning (seconds recorded).0,
  keeps-at from told2 new.kept_since new.kept_since (net_of old.switch).moment (net_of new.switch).moment old.switch.journal new.switch.journal refl (left_moment old.switch new.switch same) (ap (λ (known : Known). known.journal) same)
      (such_more from.told told told2 (noted.Step count) (KeepsNext old.kept_since (net_of old.switch).moment old.switch.journal) (Keeps new.kept_since (net_of old.switch).moment old.switch.journal)
      (λ items next. keeps_told new.kept_since (net_of old.switch).moment old.switch.journal (noted.Step count) refl items
      (keeps_settled old.kept_since new.kept_since (net_of old.switch).moment old.switch.journal first later items next)) (seconds recorded).1 notes),
)

-- the notice was told of the step, and the run ended
pub next_end : (from : Beginning) (told told2 : Told) (old new : Core) (count : ℕ) → Notes told told2 (noted.Step count) → new.switch ≡ record old.switch { left = new.switch.left } → IsInSecondsNext from told old → EndsInSeconds from told2 new.switch
unfolding part_in
next_end from told told2 old new count notes same seconds recorded =
    subst (λ (kept : List Step). TellsSuch from.told told2 (HandsInTime kept)) (sym (ap (λ (known : Known). known.journal) same))
    (such_more from.told told told2 (noted.Step count) (KeepsNext old.kept_since (net_of old.switch).moment old.switch.journal) (HandsInTime old.switch.journal)
    (λ items next. next_hands old.kept_since (net_of old.switch).moment old.switch.journal (items ++ noted.Step count ∷ []) (next_told old.kept_since (net_of old.switch).moment old.switch.journal (noted.Step count) refl items next)) (seconds recorded).1 notes)

-- what was kept was handed on
pub seconds_handed : (from : Beginning) (told told2 : Told) (old new : Core) (item : Noted (Kept Step)) → part_in item ≡ Some old.switch.journal → Notes told told2 item → new.turning ≡ old.turning → (net_of new.switch).moment ≡ (net_of old.switch).moment → new.switch.journal ≡ []
    → IsInSeconds from told old → IsInSeconds from told2 new
seconds_handed from told told2 old new item part notes turning moment none seconds recorded = (
  still-recording old new turning (seconds recorded).0,
  keeps-at from told2 new.kept_since new.kept_since (net_of old.switch).moment (net_of new.switch).moment [] new.switch.journal refl moment none
      (such_more from.told told told2 item (Keeps old.kept_since (net_of old.switch).moment old.switch.journal) (Keeps new.kept_since (net_of old.switch).moment [])
      (keeps_handed old.kept_since new.kept_since (net_of old.switch).moment old.switch.journal item part) (seconds recorded).1 notes),
)

-- an item was told that hands on nothing
pub seconds_told : (from : Beginning) (told told2 : Told) (core : Core) (item : Noted (Kept Step)) → part_in item ≡ None → Notes told told2 item → IsInSeconds from told core → IsInSeconds from told2 core
seconds_told from told told2 core item none notes seconds recorded = (
  (seconds recorded).0,
  such_more from.told told told2 item (Keeps core.kept_since (net_of core.switch).moment core.switch.journal) (Keeps core.kept_since (net_of core.switch).moment core.switch.journal)
      (keeps_told core.kept_since (net_of core.switch).moment core.switch.journal item none) (seconds recorded).1 notes,
)

-- no step was taken, and nothing was told
pub seconds_at : (from : Beginning) (told : Told) (old new : Core) → new.turning ≡ old.turning → new.kept_since ≡ old.kept_since → (net_of new.switch).moment ≡ (net_of old.switch).moment → new.switch.journal ≡ old.switch.journal → IsInSeconds from told old → IsInSeconds from told new
seconds_at from told old new turning since moment journal seconds recorded = (
  still-recording old new turning (seconds recorded).0,
  keeps-at from told old.kept_since new.kept_since (net_of old.switch).moment (net_of new.switch).moment old.switch.journal new.switch.journal since moment journal (seconds recorded).1,
)

-- ## What the code tests

-- nothing is kept
pub none_in_time : (since : ℕ) (kept : List Step) (now : ℕ) → kept ≡ [] → IsInTime since kept (steps.Tick now)
none_in_time since kept now none = inl none

pub empty_in_time : (since : ℕ) (kept : List Step) (now : ℕ) (empty : Bool) → empty ≡ (length kept == 0) → empty ≡ true → IsInTime since kept (steps.Tick now)
empty_in_time since [] now empty e is = inl refl
empty_in_time since (step ∷ kept) now empty e is =
    let no : ⊥ = grind (arith, nat_tests, e, is) in
    absurd no

-- the first step will be less than a second old
pub early_in_time : (since : ℕ) (kept : List Step) (now : ℕ) → now < since + 1000 → IsInTime since kept (steps.Tick now)
early_in_time since kept now early = inr early
