-- What became of a turn that was brought, of a moment, and of an order. This project's own.
use Rattle.std.specs.Prelude.{◌<◌, ◌≤◌, ◌+◌, ◌⊎◌, ◌++◌, Bool, true, false, ℕ, List, [], ◌∷◌, Option, Some, length}
use Rattle.sc_value.specs.declared.ids.AppId.{AppId}
use Rattle.sc_value.specs.declared.message.Sent.{Sent}
use Rattle.sc_terms.specs.declared.steps.Step.TheVariants as steps
use Rattle.sc_servlets.specs.declared.done.Done.{Done}
use Rattle.sc_switch.specs.declared.refused.Committed.{Committed}
use Rattle.sc_switch.specs.declared.refused.Committed.TheVariants as committed
use Rattle.sc_switch.specs.Standing.{step_of}
use Rattle.sc_edge.specs.Edges.{EdgeState}
use Rattle.sc_edge.specs.declared.orders.Order.{Order}
use Rattle.sc_outs.specs.Deeds.{Deed}
use Rattle.sc_courses.specs.Courses.{Beginning, Told, with_orders}
use Rattle.sc_rounds.specs.declared.stepping.Core.{Core}
use Rattle.sc_rounds.specs.Serving.{Ends, Same, SameAt, Stands, Took, deed}

-- the epoch that runs has as many steps as the settings ask for, which isn't 0, where so many of
-- them were handed on
pub record IsLong (core : Core) (handed : ℕ) : Type 0 where
  pub asked : 0 < core.turning.epoch_steps
  pub steps : core.turning.epoch_steps ≤ handed + length core.switch.journal

-- the moment is the step, or it is no later one; one past 2^63 is none
unfoldable pub Ticks : ℕ → Core → Core → Told → Told → Bool → Type 0
Ticks now old new told told2 true = Took (steps.Tick now) false old new told told2
Ticks now old new told told2 false = now ≤ 9223372036854775808 → SameAt now old new told told2

-- the order to withdraw this session, in the epoch that runs
abbrev pub order_at : Core → AppId → Order
order_at core app = record { epoch = core.switch.epoch; app = app }

-- the session was withdrawn, as it was ordered
unfoldable pub Ordered : AppId → Core → Core → Told → Told → Type 0
Ordered app old new told told2 =
    (from : Beginning) (edge : EdgeState) (deeds : List Deed) → Stands from edge told old deeds
    → (sent : List Sent)
    × Stands (with_orders from (Some (order_at old app) ∷ [])) edge told2 new
    (deeds ++ deed (steps.Withdraw app) sent false ∷ [])

-- nothing was withdrawn at this answer
unfoldable pub Unordered : Option Order → Core → Core → Told → Told → Type 0
Unordered answer old new told told2 =
    (from : Beginning) (edge : EdgeState) (deeds : List Deed) → Stands from edge told old deeds
    → Stands (with_orders from (answer ∷ [])) edge told2 new deeds

-- the run ended before this withdrawal, or behind it
unfoldable pub StoppedAt : AppId → Core → Core → Told → Told → Type 0
StoppedAt app old new told told2 =
    (from : Beginning) (edge : EdgeState) (deeds : List Deed) → Stands from edge told old deeds
    → Ends from edge told2 new.switch deeds
    ⊎ ((sent : List Sent)
    × Ends (with_orders from (Some (order_at old app) ∷ [])) edge told2 new.switch
    (deeds ++ deed (steps.Withdraw app) sent false ∷ []))

-- the session was withdrawn, or it didn't live
unfoldable pub Withdraws : AppId → Core → Core → Told → Told → Bool → Type 0
Withdraws app old new told told2 true = Ordered app old new told told2
Withdraws app old new told told2 false = Unordered (Some (order_at old app)) old new told told2

-- the turn is the step, or there is none
unfoldable pub Commits : Done → Core → Core → Told → Told → Committed → Type 0
Commits done old new told told2 committed.Taken = Took (step_of done) false old new told told2
Commits done old new told told2 (committed.Gone number) = Same old new told told2
Commits done old new told told2 (committed.Other number) = Same old new told told2
