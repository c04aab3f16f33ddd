-- What a server does that isn't heard: turns, moments and orders. This project's own.
use Rattle.sc_edge.specs.Edges.{EdgeState}
use Rattle.std.specs.Prelude.{◌≡◌, ◌⊎◌, ◌++◌, ℕ, List, [], ◌∷◌, Option}
use Rattle.sc_courses.specs.Asking.{Answered, AreAnswers, Asked, Given, Source, Sources}
use Rattle.sc_edge.specs.declared.orders.Order.{Order}
use Rattle.sc_courses.specs.Courses.{Beginning, Told, after, with_orders}
use Rattle.sc_switch.specs.Standing.{Known}
use Rattle.sc_rounds.specs.declared.stepping.Core.{Core}
use Rattle.sc_streams.specs.declared.streams.Pending.{Pending}
use Rattle.sc_rounds.specs.Serving.{Ended, Serves, since}

-- the server stands between two steps as before
unfoldable pub Moves : Core → Core → Told → Told → Type 0
Moves old new told told2 =
    (from : Beginning) (edge : EdgeState) (streams : List Pending)
    → Serves from edge told old streams → Serves from edge told2 new streams

-- the run ended
unfoldable pub Breaks : Core → Core → Told → Told → Type 0
Breaks old new told told2 =
    (from : Beginning) (edge : EdgeState) (streams : List Pending)
    → Serves from edge told old streams → Ended from edge told2 new.switch

-- the same, once the clock was asked, once
unfoldable pub MovesOn : Core → Core → Told → Told → Source ℕ → Source ℕ → Type 0
MovesOn old new told told2 clock clock2 =
    (moment : ℕ) × Answered clock clock2 (moment ∷ [])
    × ((from : Beginning) (edge : EdgeState) (streams : List Pending)
    → Serves from edge told old streams
    → Serves (since from (moment ∷ [])) edge told2 new streams)

-- the run ended, once the clock was asked
unfoldable pub BreaksOn : Core → Core → Told → Told → Source ℕ → Source ℕ → Type 0
BreaksOn old new told told2 clock clock2 =
    (moment : ℕ) × Answered clock clock2 (moment ∷ [])
    × ((from : Beginning) (edge : EdgeState) (streams : List Pending)
    → Serves from edge told old streams
    → Ended (since from (moment ∷ [])) edge told2 new.switch)

-- the same, once an order was asked for, once
unfoldable pub MovesOrdered : Core → Core → Told → Told → Source (Option Order)
    → Source (Option Order) → Type 0
MovesOrdered old new told told2 orders orders2 =
    (answer : Option Order) × Answered orders orders2 (answer ∷ [])
    × ((from : Beginning) (edge : EdgeState) (streams : List Pending)
    → Serves from edge told old streams
    → Serves (with_orders from (answer ∷ [])) edge told2 new streams)

-- these are all answers, or all but the last
abbrev pub AreAlmost : List (Option Order) → List (Option Order) → Type 0
AreAlmost obeyed given = (obeyed ≡ given) ⊎ ((last : Option Order) × (given ≡ obeyed ++ last ∷ []))

-- the run ended, and obeyed these answers, but maybe for the last
abbrev pub EndedOrdered : Beginning → List (Option Order) → EdgeState → Told → Known → Type 0
EndedOrdered from given edge told known =
    (obeyed : List (Option Order)) × AreAlmost obeyed given
    × Ended (with_orders from obeyed) edge told known

-- the run ended, and what it withdrew was ordered
unfoldable pub BreaksOrdered : Core → Core → Told → Told → Source (Option Order)
    → Source (Option Order) → Type 0
BreaksOrdered old new told told2 orders orders2 =
    (answer : Option Order) × Answered orders orders2 (answer ∷ [])
    × ((from : Beginning) (edge : EdgeState) (streams : List Pending)
    → Serves from edge told old streams → EndedOrdered from (answer ∷ []) edge told2 new.switch)

-- ## Both

-- the server stands as before, once orders were asked for so often, and the clock so often
unfoldable pub MovesBoth : ℕ → ℕ → Core → Core → Told → Told → Sources → Sources → Type 0
MovesBoth orders moments old new told told2 sources sources2 =
    (given : Given) × AreAnswers orders moments given × Asked sources sources2 given
    × ((from : Beginning) (edge : EdgeState) (streams : List Pending)
    → Serves from edge told old streams → Serves (after from given) edge told2 new streams)

-- the run ended, where it had obeyed these orders, but maybe for the last one
abbrev pub EndedAfter : Beginning → Given → EdgeState → Told → Known → Type 0
EndedAfter from given edge told known =
    (obeyed : List (Option Order)) × AreAlmost obeyed given.orders
    × Ended (after from (record given { orders = obeyed })) edge told known

-- the run ended once they were asked so often
unfoldable pub BreaksBoth : ℕ → ℕ → Core → Core → Told → Told → Sources → Sources → Type 0
BreaksBoth orders moments old new told told2 sources sources2 =
    (given : Given) × AreAnswers orders moments given × Asked sources sources2 given
    × ((from : Beginning) (edge : EdgeState) (streams : List Pending)
    → Serves from edge told old streams → EndedAfter from given edge told2 new.switch)
