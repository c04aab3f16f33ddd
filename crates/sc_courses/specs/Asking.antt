-- What was asked of the outside beside its edge, and which steps that made. This project's own.
use Rattle.std.specs.Prelude.{◌≡◌, ◌+◌, ◌⊎◌, ℕ, suc, List, [], ◌∷◌, ◌++◌, Option, length, map, if◌then◌else◌}
use Rattle.std.specs.Bool.{nat_lt}
use Rattle.sc_edge.specs.Faults.{one_more}
use Rattle.sc_edge.specs.Telling.{IsTold}
use Rattle.sc_edge.specs.declared.orders.Order.{Order}
use Rattle.sc_moments.specs.Moments.{ticks_of}
use Rattle.sc_outs.specs.Deeds.{Deed, step_of}

-- how often it was asked, and what call `n` from here answers, where that is told
abbrev pub Source : Type 0 → Type 0
Source A = ℕ × (ℕ → Option A)

-- the count after these answers
unfoldable pub count_after : {A : Type 0} → ℕ → List A → ℕ
count_after count [] = count
count_after count (answer ∷ later) = count_after (one_more count) later

-- these are the answers of the next calls, as far as they are told
unfoldable pub AreTold : {A : Type 0} → (ℕ → Option A) → List A → Type 0
AreTold comes [] = Unit {0}
AreTold comes (answer ∷ later) = IsTold (comes 0) answer × AreTold (λ n. comes (n + 1)) later

-- it was asked so often, and these were its answers
pub record Answered {A : Type 0} (old new : Source A) (given : List A) : Type 0 where
  pub count : new.0 ≡ count_after old.0 given
  pub told : AreTold old.1 given
  pub later : (n : ℕ) → new.1 n ≡ old.1 (length given + n)

-- of the moments of a clock those that are later than this one and than all before them
unfoldable pub later_moments : ℕ → List ℕ → List ℕ
later_moments last [] = []
later_moments last (moment ∷ later) =
    if nat_lt last moment then moment ∷ later_moments moment later else later_moments last later

-- the latest of them, or this one
unfoldable pub latest : ℕ → List ℕ → ℕ
latest last [] = last
latest last (moment ∷ later) = latest (if nat_lt last moment then moment else last) later

-- the moments of the steps that are ticks
abbrev pub ticks_taken : List Deed → List ℕ
ticks_taken deeds = ticks_of (map step_of deeds)

-- each moment of the clock that is a later one is a step, and no other is
pub record Ticked (moments : List ℕ) (deeds : List Deed) (now : ℕ) : Type 0 where
  pub ticks : ticks_taken deeds ≡ later_moments 0 moments
  pub now_is : now ≡ latest 0 moments

-- the same, but for the last answer of the clock
unfoldable pub TickedPart : List ℕ → List Deed → Type 0
TickedPart moments deeds =
    (ticks_taken deeds ≡ later_moments 0 moments)
    ⊎ ((before : List ℕ) × (last : ℕ) × (moments ≡ before ++ last ∷ [])
    × (ticks_taken deeds ≡ later_moments 0 before))

-- ## Clock and orders

-- what both were asked and answer
abbrev pub Sources : Type 0
Sources = Source ℕ × Source (Option Order)

-- what both answered
pub record Given : Type 0 where
  pub moments : List ℕ
  pub orders : List (Option Order)

-- nothing was answered
abbrev pub none_given : Given
none_given = record { moments = []; orders = [] }

-- the one's answers, and then the other's
abbrev pub given_then : Given → Given → Given
given_then first later =
    record { moments = first.moments ++ later.moments; orders = first.orders ++ later.orders }

-- so often orders answered, and so often the clock
pub record AreAnswers (orders moments : ℕ) (given : Given) : Type 0 where
  pub orders_are : length given.orders ≡ orders
  pub moments_are : length given.moments ≡ moments

-- both were asked once each round: the one as often as the other
abbrev pub AreEven : Given → Type 0
AreEven given = length given.orders ≡ length given.moments

-- the same, but in the last round the clock maybe wasn't asked any more
unfoldable pub AreAlmostEven : Given → Type 0
AreAlmostEven given = AreEven given ⊎ (length given.orders ≡ suc (length given.moments))

-- they were asked so often, and these were their answers
pub record Asked (old new : Sources) (given : Given) : Type 0 where
  pub moments : Answered old.0 new.0 given.moments
  pub orders : Answered old.1 new.1 given.orders
