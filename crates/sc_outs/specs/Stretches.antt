-- The stretches of a place: what is sent there until it fails, and from then until it fails again;
-- and how much of them was taken (RFC 3261 section 18).
use Rattle.std.specs.Prelude.{◌≡◌, Bool, true, false, ◌&&◌, Option, List, [], ◌∷◌, ◌++◌, if◌then◌else◌}
use Rattle.std.specs.List.{flat_map, fold}
use Rattle.sc_tokens.specs.Bytes.{Bytes}
use Rattle.sc_value.specs.declared.ids.Place.{Place}
use Rattle.sc_value.specs.declared.message.Sent.{Sent}
use Rattle.sc_value.specs.Places.{same_place}
use Rattle.sc_terms.specs.declared.steps.Step.{Step}
use Rattle.sc_terms.specs.declared.steps.Step.TheVariants as steps
use Rattle.sc_grammar.specs.Written.{text_of_message}
use Rattle.sc_edge.specs.Edges.{is_back}
use Rattle.sc_edge.specs.Taking.{Takes}
use Rattle.sc_outs.specs.Deeds.{Deed}

-- ## What is sent to a place

-- the stretches of a place so far
pub record Stretching : Type 0 where
  -- the stretches that a failure ended
  pub cut : List Bytes
  -- what was sent since
  pub last : Bytes

-- the written form of a message that goes to this place; of others nothing
unfoldable pub text_for : Place → Sent → Bytes
text_for place sent = if same_place place sent.place then text_of_message sent.message else []

-- the texts of those that go to the place
unfoldable pub texts_for : Place → List Sent → Bytes
texts_for place sent = flat_map (text_for place) sent

-- the step is the loss of this place
unfoldable pub is_lost : Place → Step → Bool
is_lost place (steps.In from message) = false
is_lost place (steps.Bad from bad) = false
is_lost place (steps.Lost at) = same_place place at
is_lost place (steps.Tick now) = false
is_lost place (steps.Turn end app event now calls) = false
is_lost place (steps.Withdraw app) = false

-- the stretch has ended, and the next one begins
abbrev pub next_stretch : Stretching → Stretching
next_stretch s = record { cut = s.cut ++ s.last ∷ []; last = [] }

-- the last stretch with more sent
abbrev pub longer : Bytes → Stretching → Stretching
longer more s = record { cut = s.cut; last = s.last ++ more }

-- a failure ends the stretch; what a step sends comes behind that
unfoldable pub after_deed : Place → Stretching → Deed → Stretching
after_deed place s deed =
    longer (texts_for place deed.sent)
    (if deed.failed && is_lost place deed.step then next_stretch s else s)

-- the stretches of a place after these deeds
unfoldable pub stretching : Place → List Deed → Stretching
stretching place deeds = fold (after_deed place) (record { cut = []; last = [] }) deeds

-- all stretches
unfoldable pub stretches : Place → List Deed → List Bytes
stretches place deeds = (stretching place deeds).cut ++ (stretching place deeds).last ∷ []

-- ## What was taken of it

-- of each stretch a part was taken from its front, one after the other; `once` is that it was so of
-- the first alone
unfoldable pub AreTaken : Bool → List Bytes → Bytes → Type 0
AreTaken once [] took = took ≡ []
AreTaken true (stretch ∷ later) took = (cut : Bytes) × (stretch ≡ took ++ cut)
AreTaken false (stretch ∷ later) took =
    (part : Bytes) × (cut : Bytes) × (rest : Bytes) × (stretch ≡ part ++ cut)
    × (took ≡ part ++ rest) × AreTaken false later rest

-- a stretch has ended
unfoldable pub has_some : List Bytes → Bool
has_some [] = false
has_some (stretch ∷ later) = true

-- a peer's connection that failed takes nothing more
unfoldable pub is_gone : Place → List Bytes → Bool
is_gone place cut = is_back place && has_some cut

-- of the last stretch this was taken, and this is left of the place; the Bool is whether the place
-- is gone
unfoldable pub IsLeft : Bool → Bytes → Bytes → Bytes → Type 0
IsLeft false last part left = last ≡ part ++ left
IsLeft true last part left = (part ≡ []) × (left ≡ [])

-- of the stretches that ended parts were taken, and the last was taken up to what is left
pub record Writing (place : Place) (s : Stretching) (took left : Bytes) : Type 0 where
  pub before : Bytes
  pub part : Bytes
  pub taken : AreTaken (is_back place) s.cut before
  pub took_is : took ≡ before ++ part
  pub last_is : IsLeft (is_gone place s.cut) s.last part left

-- what an edge took of a place between two moments, where it tells it
pub record IsWritten (place : Place) (first now : Option Bytes) (s : Stretching)
    (left : Bytes) : Type 0 where
  pub took : Bytes
  pub takes : Takes first now took
  pub writing : Writing place s took left
