-- Where a server stands: between two steps, within an answer of its edge, and where its run ends.
-- This project's own.
use Rattle.std.specs.Prelude.{◌≡◌, ◌⊎◌, ℕ, Bool, true, false, List, [], ◌∷◌, ◌++◌, length}
use Rattle.std.specs.Option.{is_some}
use Rattle.sc_tokens.specs.Bytes.{Bytes}
use Rattle.sc_value.specs.declared.ids.Place.{Place}
use Rattle.sc_value.specs.declared.message.Sent.{Sent}
use Rattle.sc_terms.specs.declared.steps.Step.{Step}
use Rattle.sc_terms.specs.declared.steps.Step.TheVariants as steps
use Rattle.sc_edge.specs.Edges.{EdgeState}
use Rattle.sc_hosts.specs.Runs.{Epoch}
use Rattle.sc_switch.specs.Standing.{Known, net_of, whole}
use Rattle.sc_outs.specs.Deeds.{Deed}
use Rattle.sc_outs.specs.Puts.{IsCut, Puts}
use Rattle.sc_courses.specs.Asking.{Ticked, TickedPart}
use Rattle.sc_courses.specs.Courses.{Beginning, Course, Told}
use Rattle.sc_courses.specs.Endings.{HasToEnd}
use Rattle.sc_courses.specs.Marks.{Hearing, HearingPart, HearsOn}
use Rattle.sc_courses.specs.Reports.{Counts, Reports, TellsSuch, Untold}
use Rattle.sc_courses.specs.Seconds.{HandsInTime, Keeps, KeepsNext}
use Rattle.sc_rounds.specs.declared.stepping.Core.{Core}
use Rattle.sc_streams.specs.declared.streams.Pending.{Pending}
use Rattle.sc_streams.specs.Streaming.{bytes_of}

-- the epoch that runs, with all its steps
abbrev pub running : Known → Epoch
running known = record { number = known.epoch; began = known.began; journal = whole known }

-- once the clock has answered these moments more
abbrev pub since : Beginning → List ℕ → Beginning
since from given = record from { moments = from.moments ++ given }

-- the answers of the clock once a step was due: a tick is one more
abbrev pub moments_after : Step → List ℕ → List ℕ
moments_after (steps.In place message) moments = moments
moments_after (steps.Bad place bad) moments = moments
moments_after (steps.Lost place) moments = moments
moments_after (steps.Tick now) moments = moments ++ now ∷ []
moments_after (steps.Turn end app event now calls) moments = moments
moments_after (steps.Withdraw app) moments = moments

-- what a run is held against, once a step was due
abbrev pub with_moment_of : Step → Beginning → Beginning
with_moment_of step from = record from { moments = moments_after step from.moments }

-- what the notice was told of the run's steps and of what lives
abbrev pub Reported : Beginning → Told → ℕ → ℕ → Known → Type 0
Reported from told count unlisted known =
    Reports from.setup from.told told count unlisted known.handed (running known)

-- the same, but for the last step, of which it isn't told yet
abbrev pub Unreported : Beginning → Told → ℕ → Known → Type 0
Unreported from told count known = Untold from.told told count known.handed (running known)

-- it was told of each step
abbrev pub Counted : Beginning → Told → Known → Type 0
Counted from told known = TellsSuch from.told told (Counts known.handed (length (whole known)))

-- the switch has run this course
pub record Runs (from : Beginning) (told : Told) (known : Known) (deeds : List Deed) : Type 0 where
  pub setup_is : known.setup ≡ from.setup
  pub course : Course from told known.handed (running known) deeds

-- the server ends its epochs as the settings say
abbrev pub EndsAsSet : Beginning → Core → Type 0
EndsAsSet from core = core.turning.epoch_steps ≡ from.setup.config.epoch_steps

-- where steps are recorded, those that are kept are of a second, and so was each part that was
-- handed on
abbrev pub IsInSeconds : Beginning → Told → Core → Type 0
IsInSeconds from told core =
    is_some from.setup.config.recording ≡ true
    → (core.turning.recording ≡ true)
    × TellsSuch from.told told
    (Keeps core.kept_since (net_of core.switch).moment core.switch.journal)

-- the same, once a step was taken of which the notice isn't told yet
abbrev pub IsInSecondsNext : Beginning → Told → Core → Type 0
IsInSecondsNext from told core =
    is_some from.setup.config.recording ≡ true
    → (core.turning.recording ≡ true)
    × TellsSuch from.told told
    (KeepsNext core.kept_since (net_of core.switch).moment core.switch.journal)

-- the same, where the run ends
abbrev pub EndsInSeconds : Beginning → Told → Known → Type 0
EndsInSeconds from told known =
    is_some from.setup.config.recording ≡ true
    → TellsSuch from.told told (HandsInTime known.journal)

-- between two steps all that was sent was taken from the switch, and was put or is left to be put
pub record Stands (from : Beginning) (edge : EdgeState) (told : Told) (core : Core)
    (deeds : List Deed) : Type 0 where
  pub runs : Runs from told core.switch deeds
  pub left_is : core.switch.left ≡ []
  pub puts : Puts from.edge edge deeds core.outs []
  pub ticked : Ticked from.moments deeds (net_of core.switch).moment
  pub reports : Reported from told core.handed core.unlisted core.switch
  pub as_set : EndsAsSet from core
  pub seconds : IsInSeconds from told core

-- where a run ends, whatever is left to be put
pub record Ends (from : Beginning) (edge : EdgeState) (told : Told) (known : Known)
    (deeds : List Deed) : Type 0 where
  pub runs : Runs from told known deeds
  pub cut : IsCut from.edge edge deeds
  pub ticked : TickedPart from.moments deeds
  pub counts : Counted from told known
  pub seconds : EndsInSeconds from told known

-- ## What a step does

-- a step with what it sent, and whether it is the loss of a place that failed
abbrev pub deed : Step → List Sent → Bool → Deed
deed step sent failed = record { step = step; sent = sent; failed = failed }

-- no step was taken
unfoldable pub Same : Core → Core → Told → Told → Type 0
Same old new told told2 =
    (from : Beginning) (edge : EdgeState) (deeds : List Deed) → Stands from edge told old deeds
    → Stands from edge told2 new deeds

-- where it stood so, the epoch that runs now hasn't to end
unfoldable pub HasNoEnd : Core → Told → Known → Type 0
HasNoEnd old told known =
    (from : Beginning) (edge : EdgeState) (deeds : List Deed) → Stands from edge told old deeds
    → HasToEnd from.setup (running known) → ⊥

-- no step was taken, and the clock answered this
unfoldable pub SameAt : ℕ → Core → Core → Told → Told → Type 0
SameAt now old new told told2 =
    (from : Beginning) (edge : EdgeState) (deeds : List Deed) → Stands from edge told old deeds
    → Stands (since from (now ∷ [])) edge told2 new deeds

-- this step was taken
unfoldable pub Took : Step → Bool → Core → Core → Told → Told → Type 0
Took step failed old new told told2 =
    (from : Beginning) (edge : EdgeState) (deeds : List Deed) → Stands from edge told old deeds
    → (sent : List Sent)
    × Stands (with_moment_of step from) edge told2 new (deeds ++ deed step sent failed ∷ [])

-- the run ended before this step, or behind it
unfoldable pub Stopped : Step → Bool → Core → Core → Told → Told → Type 0
Stopped step failed old new told told2 =
    (from : Beginning) (edge : EdgeState) (deeds : List Deed) → Stands from edge told old deeds
    → Ends (with_moment_of step from) edge told2 new.switch deeds
    ⊎ ((sent : List Sent)
    × Ends (with_moment_of step from) edge told2 new.switch (deeds ++ deed step sent failed ∷ []))

-- what the last step sent was taken from the switch
unfoldable pub Settles : Core → Core → Told → Told → Type 0
Settles old new told told2 =
    (from : Beginning) (edge : EdgeState) (deeds : List Deed) → Runs from told old.switch deeds
    → Puts from.edge edge deeds old.outs old.switch.left
    → Ticked from.moments deeds (net_of old.switch).moment
    → Unreported from told old.handed old.switch → EndsAsSet from old
    → IsInSecondsNext from told old → Stands from edge told2 new deeds

-- the switch goes on in the same course, and the notice was told of its last step
unfoldable pub RunsOn : Core → Core → Told → Told → Type 0
RunsOn old new told told2 =
    (from : Beginning) (deeds : List Deed) → Runs from told old.switch deeds
    → Unreported from told old.handed old.switch → IsInSecondsNext from told old
    → Runs from told2 new.switch deeds × Counted from told2 new.switch
    × EndsInSeconds from told2 new.switch

-- ## With what was heard

-- between two steps
pub record Serves (from : Beginning) (edge : EdgeState) (told : Told) (core : Core)
    (streams : List Pending) : Type 0 where
  pub deeds : List Deed
  pub stands : Stands from edge told core deeds
  pub hearing : Hearing from.edge.polled edge.polled deeds (bytes_of streams)

-- where the run ended
pub record Ended (from : Beginning) (edge : EdgeState) (told : Told) (known : Known) : Type 0 where
  pub deeds : List Deed
  pub ends : Ends from edge told known deeds
  pub hearing : HearingPart from.edge.polled edge.polled deeds

-- within an answer of the edge, these bytes of a place
pub record ServesOn (from : Beginning) (edge : EdgeState) (told : Told) (core : Core)
    (streams : List Pending) (place : Place) (text : Bytes) : Type 0 where
  pub deeds : List Deed
  pub stands : Stands from edge told core deeds
  pub on : HearsOn from.edge.polled edge.polled deeds (bytes_of streams) place text

-- within it, or behind it
unfoldable pub ServesMore : Beginning → EdgeState → Told → Core → List Pending → Place → Bytes
    → Bool → Type 0
ServesMore from edge told core streams place text true =
    ServesOn from edge told core streams place text
ServesMore from edge told core streams place text false = Serves from edge told core streams
