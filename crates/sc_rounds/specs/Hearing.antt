-- What a text that is no message does (RFC 3261 section 18.3): the connection on which it came is
-- given up.
use Rattle.std.specs.Prelude.{◌⊎◌, List, [], ◌∷◌, ◌++◌, false}
use Rattle.sc_value.specs.declared.ids.Place.{Place}
use Rattle.sc_value.specs.declared.message.Sent.{Sent}
use Rattle.sc_terms.specs.declared.steps.Bad.{Bad}
use Rattle.sc_terms.specs.declared.steps.Step.TheVariants as steps
use Rattle.sc_edge.specs.Edges.{EdgeState}
use Rattle.sc_outs.specs.Deeds.{Deed}
use Rattle.sc_courses.specs.Courses.{Beginning, Told}
use Rattle.sc_rounds.specs.declared.stepping.Core.{Core}
use Rattle.sc_rounds.specs.Serving.{Ends, Stands, deed}

-- it is a step, and the loss of its place
unfoldable pub BrokeOff : Place → Bad → Core → Core → Told → Told → Type 0
BrokeOff at bad old new told told2 =
    (from : Beginning) (edge : EdgeState) (deeds : List Deed) → Stands from edge told old deeds
    → (sent : List Sent) × (sent2 : List Sent)
    × Stands from edge told2 new
    ((deeds ++ deed (steps.Bad at bad) sent false ∷ []) ++ deed (steps.Lost at) sent2 false
    ∷ [])

-- the run ended before them, between them, or behind them
unfoldable pub BrokeUpto : Place → Bad → Core → Core → Told → Told → Type 0
BrokeUpto at bad old new told told2 =
    (from : Beginning) (edge : EdgeState) (deeds : List Deed) → Stands from edge told old deeds
    → Ends from edge told2 new.switch deeds
    ⊎ (((sent : List Sent)
    × Ends from edge told2 new.switch (deeds ++ deed (steps.Bad at bad) sent false ∷ []))
    ⊎ ((sent : List Sent) × (sent2 : List Sent)
    × Ends from edge told2 new.switch
    ((deeds ++ deed (steps.Bad at bad) sent false ∷ []) ++ deed (steps.Lost at) sent2 false
    ∷ [])))
