-- What is left to be put to each place, and what a call does to that (RFC 3261 section 18).
use Rattle.std.specs.Prelude.{◌≡◌, ℕ, ◌==◌, ◌&&◌, ◌||◌, Bool, false, Option, None, Some, List, [], ◌∷◌, ◌++◌, take, drop, if◌then◌else◌}
use Rattle.std.specs.List.{find, list_any}
use Rattle.sc_tokens.specs.Bytes.{Bytes}
use Rattle.sc_value.specs.declared.ids.Place.{Place}
use Rattle.sc_value.specs.declared.ids.Place.TheVariants.{Back, To}
use Rattle.sc_value.specs.declared.message.Sent.{Sent}
use Rattle.sc_value.specs.Places.{same_place}
use Rattle.sc_edge.specs.Edges.{EdgeState, Stands, is_back}
use Rattle.sc_edge.specs.EdgeCalls.{PutTells}
use Rattle.sc_edge.specs.Taking.{Takes}
use Rattle.sc_edge.specs.declared.edge.Put.{Put}
use Rattle.sc_edge.specs.declared.edge.Put.TheVariants as put
use Rattle.sc_outs.specs.Stretches.{text_for, texts_for}

-- what is left to be put to one place
pub record Owed : Type 0 where
  pub place : Place
  pub left : Bytes

-- what is left to be put to all places, and which peers' connections failed
pub record Owing : Type 0 where
  pub outs : List Owed
  -- the numbers of the peers' connections that failed
  pub gone : List ℕ

-- nothing is left, and none failed
abbrev pub nothing : Owing
nothing = record { outs = []; gone = [] }

-- ## What is left

-- what is left is of this place
abbrev pub is_at : Place → Owed → Bool
is_at place owed = same_place place owed.place

-- what is left, nothing where nothing was
unfoldable pub bytes_in : Option Owed → Bytes
bytes_in None = []
bytes_in (Some owed) = owed.left

-- what of these is left of a place
unfoldable pub bytes_of : List Owed → Place → Bytes
bytes_of outs place = bytes_in (find (is_at place) outs)

-- what is left of a place
unfoldable pub left_at : Owing → Place → Bytes
left_at owing place = bytes_of owing.outs place

-- no place stands there twice
unfoldable pub Distinct : List Owed → Type 0
Distinct [] = Unit {0}
Distinct (owed ∷ others) = (find (is_at owed.place) others ≡ None) × Distinct others

-- the number is one of these
unfoldable pub is_among : List ℕ → ℕ → Bool
is_among numbers number = list_any (λ (other : ℕ). number == other) numbers

-- a peer's connection, and its number is one of these
unfoldable pub is_gone_from : List ℕ → Place → Bool
is_gone_from numbers (Back number) = is_among numbers number
is_gone_from numbers (To ip port) = false

-- a peer's connection that failed
unfoldable pub is_gone_at : Owing → Place → Bool
is_gone_at owing place = is_gone_from owing.gone place

-- what is sent there and wasn't taken yet; a peer's connection that failed gets nothing more
unfoldable pub owing : Owing → Place → List Sent → Bytes
owing held place sent = if is_gone_at held place then [] else texts_for place sent

-- ## What the calls do

-- this is left of the place, and of the others as before
unfoldable pub IsKept : (Place → Bytes) → Place → Bytes → (Place → Bytes) → Type 0
IsKept before place bytes after =
    (other : Place) → after other ≡ (if same_place other place then bytes else before other)

-- the text came behind what is left of its place, where that isn't gone
pub record IsOwed (sent : Sent) (old new : Owing) : Type 0 where
  pub left : (place : Place)
      → left_at new place
      ≡ left_at old place ++ (if is_gone_at old place then [] else text_for place sent)
  pub gone : (place : Place) → is_gone_at new place ≡ is_gone_at old place

-- the connection of a peer is among them, too; an address is never
unfoldable pub IsGoneToo : Place → List ℕ → List ℕ → Type 0
IsGoneToo at old new =
    (place : Place)
    → is_gone_from new place ≡ (is_gone_from old place || (is_back at && same_place place at))

-- a place failed: nothing is left of it, and a peer's connection is gone
pub record IsLostAt (at : Place) (old new : Owing) : Type 0 where
  pub left : IsKept (left_at old) at [] (left_at new)
  pub gone : (place : Place)
      → is_gone_at new place ≡ (is_gone_at old place || (is_back at && same_place place at))

-- what a put to a place did to what is left of it
unfoldable pub PutLeaves : EdgeState → EdgeState → Place → Owing → Owing → Put → Type 0
PutLeaves old new place before after (put.Wrote count) =
    Takes (old.took place) (new.took place) (take count (left_at before place))
    × IsKept (left_at before) place (drop count (left_at before place)) (left_at after)
PutLeaves old new place before after put.NotYet =
    (new.took place ≡ old.took place) × (after ≡ before)
PutLeaves old new place before after put.Failed =
    (new.took place ≡ old.took place) × (after ≡ before)

-- a put to a place was tried; where nothing is left of it, the edge wasn't asked
pub record Tried (old new : EdgeState) (place : Place) (before after : Owing)
    (answer : Put) : Type 0 where
  pub leaves : PutLeaves old new place before after answer
  pub gone : (other : Place) → is_gone_at after other ≡ is_gone_at before other
  pub others : (other : Place) → same_place place other ≡ false → Stands old new other
  pub tells : PutTells old new place answer
  pub none : left_at before place ≡ [] → (new ≡ old) × (after ≡ before) × (answer ≡ put.NotYet)
