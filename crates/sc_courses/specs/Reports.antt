-- What a notice is told of how far a run came: how many steps each epoch has so far, and what lived
-- at the last step. This project's own.
use Rattle.std.specs.Prelude.{◌≡◌, ◌⊎◌, ℕ, zero, suc, List, [], ◌∷◌, ◌++◌, Option, None, Some, length, map, min}
use Rattle.std.specs.List.{fold}
use Rattle.sc_journal.specs.Kept.{Kept}
use Rattle.sc_terms.specs.declared.steps.Step.{Step}
use Rattle.sc_parts.specs.declared.setup.Setup.{Setup}
use Rattle.sc_edge.specs.declared.listing.Listing.{Listing}
use Rattle.sc_edge.specs.declared.notice.Noted.{Noted}
use Rattle.sc_edge.specs.declared.notice.Noted.TheVariants as noted
use Rattle.sc_hosts.specs.Runs.{Epoch}
use Rattle.sc_courses.specs.Courses.{Told, told_by}
use Rattle.sc_courses.specs.Listings.{IsListingAt}

-- a notice was told items of which this holds from some moment on, or it doesn't tell
unfoldable pub TellsSuch : Told → Told → (List (Noted (Kept Step)) → Type 0) → Type 0
TellsSuch None now holds = now ≡ None
TellsSuch (Some old) now holds =
    ((items : List (Noted (Kept Step))) × (now ≡ Some (old ++ items)) × holds items) ⊎ (now ≡ None)

-- ## The lengths of journals

-- the lengths of a journal as it grows to so many steps: 1, 2 and so on, up to the greatest number
-- that a count has room for
unfoldable pub lengths : ℕ → List ℕ
lengths zero = []
lengths (suc count) = lengths count ++ min (suc count) 18446744073709551615 ∷ []

-- the lengths of an epoch's journal
abbrev pub lengths_of : Epoch → List ℕ
lengths_of epoch = lengths (length epoch.journal)

-- the counts of steps that were told: of each epoch that ended, and of the one that runs
pub record Counting : Type 0 where
  pub ended : List (List ℕ)
  pub running : List ℕ

-- with one item more
unfoldable pub with_count : Counting → Noted (Kept Step) → Counting
with_count counting (noted.Step count) =
    record counting { running = counting.running ++ count ∷ [] }
with_count counting (noted.Part journal) = counting
with_count counting (noted.Epoch number began journal) =
    record { ended = counting.ended ++ counting.running ∷ []; running = [] }
with_count counting (noted.List listing) = counting

-- the counts of steps among these items, epoch by epoch
unfoldable pub counted_by : List (Noted (Kept Step)) → Counting
counted_by items = fold with_count (record { ended = []; running = [] }) items

-- these were counted of the epochs that ended, and so many steps of the one that runs
abbrev pub AreCounted : List Epoch → ℕ → List (Noted (Kept Step)) → Type 0
AreCounted ended count items =
    counted_by items ≡ record { ended = map lengths_of ended; running = lengths count }

-- a notice was told each length of each epoch's journal once, in order, of the epoch that runs up
-- to this count; or it doesn't tell
unfoldable pub TellsLengths : Told → Told → List Epoch → ℕ → Type 0
TellsLengths first now ended count = TellsSuch first now (AreCounted ended count)

-- ## The last listing

-- the last listing so far
unfoldable pub or_listing : Option Listing → Noted (Kept Step) → Option Listing
or_listing found (noted.Step count) = found
or_listing found (noted.Part journal) = found
or_listing found (noted.Epoch number began journal) = found
or_listing found (noted.List listing) = Some listing

-- the last listing among these items
unfoldable pub last_listing : List (Noted (Kept Step)) → Option Listing
last_listing items = fold or_listing None items

-- the epoch, where it has a step; else the one that was found before
unfoldable pub or_epoch : Option Epoch → Epoch → List Step → Option Epoch
or_epoch found epoch [] = found
or_epoch found epoch (step ∷ steps) = Some epoch

-- the last of these epochs that has a step
unfoldable pub last_stepped : List Epoch → Option Epoch
last_stepped epochs = fold (λ found (epoch : Epoch). or_epoch found epoch epoch.journal) None epochs

-- the listing is that of the end of this epoch; where there is no epoch with a step, any
unfoldable pub ShowsEnd : Setup → Option Epoch → Option Listing → Type 0
ShowsEnd setup None listing = Unit {0}
ShowsEnd setup (Some epoch) None = ⊥
ShowsEnd setup (Some epoch) (Some listing) =
    IsListingAt setup (record { ended = []; running = epoch }) listing

-- the last listing that a notice was told is that of all steps of the last of these epochs that has
-- one, if any has; or it doesn't tell
unfoldable pub TellsLast : Setup → Told → Told → List Epoch → Type 0
TellsLast setup first now epochs =
    TellsSuch first now (λ items. ShowsEnd setup (last_stepped epochs) (last_listing items))

-- ## On the way

-- what was counted, with the epochs as the items tell them
pub record Counts (handed : List Step) (count : ℕ) (items : List (Noted (Kept Step))) : Type 0 where
  pub handed_is : (told_by items).handed ≡ handed
  pub counted : AreCounted (told_by items).ended count items

-- what was shown last, with the epochs as the items tell them
pub record Shows (setup : Setup) (handed : List Step) (running : Epoch)
    (items : List (Noted (Kept Step))) : Type 0 where
  pub handed_is : (told_by items).handed ≡ handed
  pub shows : ShowsEnd setup (last_stepped ((told_by items).ended ++ running ∷ []))
      (last_listing items)

-- what a notice was told of the run so far, of which so much was handed on: the lengths of its
-- journals, and, where no step was taken since the last listing, that listing is of the last step;
-- `count` says how much was handed on
pub record Reports (setup : Setup) (first told : Told) (count unlisted : ℕ) (handed : List Step)
    (running : Epoch) : Type 0 where
  pub count_is : count ≡ min (length handed) 18446744073709551615
  pub counts : TellsSuch first told (Counts handed (length running.journal))
  pub shows : unlisted ≡ 0 → TellsSuch first told (Shows setup handed running)

-- the same, where a step was taken of which the notice isn't told yet
pub record Untold (first told : Told) (count : ℕ) (handed : List Step)
    (running : Epoch) : Type 0 where
  pub count_is : count ≡ min (length handed) 18446744073709551615
  pub before : ℕ
  pub more : length running.journal ≡ suc before
  pub counts : TellsSuch first told (Counts handed before)
