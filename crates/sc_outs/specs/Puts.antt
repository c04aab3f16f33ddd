-- What was put of what the deeds of a run send. This project's own.
use Rattle.std.specs.Prelude.{◌≡◌, false, List, ◌++◌}
use Rattle.sc_tokens.specs.Bytes.{Bytes}
use Rattle.sc_value.specs.declared.ids.Place.{Place}
use Rattle.sc_value.specs.declared.message.Sent.{Sent}
use Rattle.sc_edge.specs.Edges.{EdgeState, is_back}
use Rattle.sc_edge.specs.Taking.{Takes}
use Rattle.sc_outs.specs.Deeds.{Deed}
use Rattle.sc_outs.specs.Owing.{Owing, is_gone_at, left_at, owing}
use Rattle.sc_outs.specs.Stretches.{AreTaken, IsWritten, is_gone, stretches, stretching}

-- what was put of what was sent, and what is left to be put; `letters` were sent and aren't owed
-- yet
pub record Puts (first now : EdgeState) (deeds : List Deed) (outs : Owing)
    (letters : List Sent) : Type 0 where
  pub written : (place : Place)
      → IsWritten place (first.took place) (now.took place) (stretching place deeds)
      (left_at outs place ++ owing outs place letters)
  pub gone_is : (place : Place) → is_gone_at outs place ≡ is_gone place (stretching place deeds).cut

-- whatever is left, of each stretch a part was taken from its front
unfoldable pub IsCut : EdgeState → EdgeState → List Deed → Type 0
IsCut first now deeds =
    (place : Place)
    → (left : Bytes)
    × IsWritten place (first.took place) (now.took place) (stretching place deeds) left

-- of each stretch of each place a part was taken from its front, one after the other (of a peer's
-- connection of the first alone)
unfoldable pub TookParts : EdgeState → EdgeState → List Deed → Type 0
TookParts first now deeds =
    (place : Place)
    → (took : Bytes) × Takes (first.took place) (now.took place) took
    × AreTaken (is_back place) (stretches place deeds) took

-- the last stretch of each place that isn't gone was taken whole
unfoldable pub TookWhole : EdgeState → EdgeState → List Deed → Type 0
TookWhole first now deeds =
    (place : Place) → is_gone place (stretching place deeds).cut ≡ false
    → (before : Bytes) × (took : Bytes) × Takes (first.took place) (now.took place) took
    × (took ≡ before ++ (stretching place deeds).last)
