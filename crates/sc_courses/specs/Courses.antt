-- How far a server came: the epochs of its journal, what each of their steps sent, and what a
-- notice was told. This project's own.
use Rattle.std.specs.Prelude.{◌≡◌, ◌⊎◌, ℕ, List, [], ◌∷◌, ◌++◌, Option, None, Some, map}
use Rattle.std.specs.List.{fold}
use Rattle.sc_journal.specs.Kept.{Kept}
use Rattle.sc_terms.specs.declared.steps.Step.{Step}
use Rattle.sc_parts.specs.declared.setup.Setup.{Setup}
use Rattle.sc_state.specs.declared.net.Net.{Net}
use Rattle.sc_state.specs.declared.session.Session.{Session}
use Rattle.sc_edge.specs.Edges.{EdgeState}
use Rattle.sc_edge.specs.declared.orders.Order.{Order}
use Rattle.sc_edge.specs.declared.notice.Noted.{Noted}
use Rattle.sc_edge.specs.declared.notice.Noted.TheVariants as noted
use Rattle.sc_hosts.specs.Histories.{as_session}
use Rattle.sc_hosts.specs.Runs.{AreLawful, Epoch, IsLawfulAfter, after_step, start}
use Rattle.sc_outs.specs.Deeds.{Deed, step_of}
use Rattle.sc_courses.specs.Asking.{Given}
use Rattle.sc_courses.specs.Endings.{AreInTime}
use Rattle.sc_courses.specs.Listings.{Lists, listings_in}
use Rattle.sc_courses.specs.Ordering.{Obeys, Point, beginning_point}

-- what a notice was told, where it tells it
abbrev pub Told : Type 0
Told = Option (List (Noted (Kept Step)))

-- each deed's step sends what the run of all steps sends there
unfoldable pub AreSent : Setup → Net Session → List Deed → Type 0
AreSent setup net [] = Unit {0}
AreSent setup net (deed ∷ later) =
    (deed.sent ≡ (after_step as_session setup net deed.step).sent)
    × AreSent setup (after_step as_session setup net deed.step) later

-- the deeds of an epoch: its journal's steps, each with what it sends
unfoldable pub IsRun : Setup → Epoch → List Deed → Type 0
IsRun setup epoch deeds =
    (map step_of deeds ≡ epoch.journal) × AreSent setup (start setup epoch.number epoch.began) deeds

-- the deeds of epochs, one after the other
unfoldable pub AreDeeds : Setup → List Epoch → List Deed → Type 0
AreDeeds setup [] deeds = deeds ≡ []
AreDeeds setup (epoch ∷ later) deeds =
    (mine : List Deed) × (rest : List Deed) × (deeds ≡ mine ++ rest) × IsRun setup epoch mine
    × AreDeeds setup later rest

-- what a notice was told: the epochs that ended, and the steps of the one that runs which were
-- handed on
pub record Telling : Type 0 where
  pub ended : List Epoch
  pub handed : List Step

-- what was told, with one item more; a step and a listing tell nothing of epochs
unfoldable pub with_item : Telling → Noted (Kept Step) → Telling
with_item telling (noted.Step count) = telling
with_item telling (noted.Part journal) = record telling { handed = telling.handed ++ journal.items }
with_item telling (noted.Epoch number began journal) =
    record {
      ended = telling.ended
          ++ record { number = number; began = began; journal = telling.handed ++ journal.items }
          ∷ [];
      handed = [];
    }
with_item telling (noted.List listing) = telling

-- what these items tell, from the first epoch on
unfoldable pub told_by : List (Noted (Kept Step)) → Telling
told_by items = fold with_item (record { ended = []; handed = [] }) items

-- a notice was told this from some moment on, or it doesn't tell
unfoldable pub TellsEpochs : Told → Told → Telling → Type 0
TellsEpochs None now telling = now ≡ None
TellsEpochs (Some old) now telling =
    ((items : List (Noted (Kept Step))) × (now ≡ Some (old ++ items)) × (told_by items ≡ telling))
    ⊎ (now ≡ None)

-- a notice was told what lived at points of the run, one after the other, as far as it came, or it
-- doesn't tell
unfoldable pub TellsListings : Setup → Told → Told → Point → Type 0
TellsListings setup None now point = now ≡ None
TellsListings setup (Some old) now point =
    ((items : List (Noted (Kept Step))) × (now ≡ Some (old ++ items))
    × Lists setup beginning_point (listings_in items) point) ⊎ (now ≡ None)

-- what a run is held against: its settings, what its notice was told and its edge where it began,
-- and since then the moments that its clock has answered, and the orders that were answered, none
-- where there was none
pub record Beginning : Type 0 where
  pub setup : Setup
  pub told : Told
  pub edge : EdgeState
  pub moments : List ℕ
  pub orders : List (Option Order)

-- once these orders were answered
abbrev pub with_orders : Beginning → List (Option Order) → Beginning
with_orders from given = record from { orders = from.orders ++ given }

-- once both the clock and the orders answered so
abbrev pub after : Beginning → Given → Beginning
after from given =
    record from { moments = from.moments ++ given.moments; orders = from.orders ++ given.orders }

-- how far it came: the epochs that ended, their deeds, and those of the epoch that runs, of which
-- so much was handed on; what was withdrawn was ordered; each listing that the notice was told is
-- of a point on the way; and epochs ended in time
pub record Course (from : Beginning) (told : Told) (handed : List Step) (running : Epoch)
    (deeds : List Deed) : Type 0 where
  pub ended : List Epoch
  pub before : List Deed
  pub mine : List Deed
  pub deeds_are : deeds ≡ before ++ mine
  pub tells : TellsEpochs from.told told (record { ended = ended; handed = handed })
  pub lawful : (later : List Epoch)
      → IsLawfulAfter as_session from.setup running.number running.began later
      → AreLawful as_session from.setup (ended ++ later)
  pub are : (later : List Epoch) (rest : List Deed) → AreDeeds from.setup later rest
      → AreDeeds from.setup (ended ++ later) (before ++ rest)
  pub run : IsRun from.setup running mine
  pub obeys : Obeys from.setup beginning_point from.orders
      (record { ended = ended; running = running })
  pub listings : TellsListings from.setup from.told told
      (record { ended = ended; running = running })
  pub in_time : AreInTime from.setup (record { ended = ended; running = running })
