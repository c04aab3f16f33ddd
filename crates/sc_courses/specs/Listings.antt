-- What a notice is told of what lives: each listing is of a point through which the run came. This
-- project's own.
use Rattle.std.specs.Prelude.{◌≡◌, List, [], ◌∷◌, min}
use Rattle.std.specs.List.{flat_map}
use Rattle.sc_journal.specs.Kept.{Kept}
use Rattle.sc_terms.specs.declared.steps.Step.{Step}
use Rattle.sc_parts.specs.declared.setup.Setup.{Setup}
use Rattle.sc_edge.specs.declared.listing.Listing.{Listing}
use Rattle.sc_edge.specs.declared.notice.Noted.{Noted}
use Rattle.sc_edge.specs.declared.notice.Noted.TheVariants as noted
use Rattle.sc_hosts.specs.Histories.{as_session}
use Rattle.sc_hosts.specs.EventLists.{Listing as Shown, listing_of}
use Rattle.sc_courses.specs.Ordering.{ComesOn, Point}

-- what is shown of the epoch that runs at this point, after its steps until then
abbrev pub shown_at : Setup → Point → Shown
shown_at setup point =
    listing_of as_session setup point.running.number point.running.began point.running.journal

-- the listing tells what is shown there: the epoch, its sessions that live, how many events wait,
-- and how many steps there were, up to the greatest number that it has room for
pub record IsListingAt (setup : Setup) (point : Point) (listing : Listing) : Type 0 where
  pub epoch_is : listing.epoch ≡ point.running.number
  pub steps_is : listing.steps ≡ min (shown_at setup point).steps 18446744073709551615
  pub live_is : listing.live ≡ (shown_at setup point).live
  pub waiting_is : listing.waiting ≡ (shown_at setup point).waiting

-- the run came from the first point to the second through points of which these are the listings,
-- one after the other
unfoldable pub Lists : Setup → Point → List Listing → Point → Type 0
Lists setup earlier [] later = ComesOn earlier later
Lists setup earlier (listing ∷ listings) later =
    (point : Point) × ComesOn earlier point × IsListingAt setup point listing
    × Lists setup point listings later

-- the listing that an item is
abbrev pub listing_in : Noted (Kept Step) → List Listing
listing_in (noted.Step count) = []
listing_in (noted.Part journal) = []
listing_in (noted.Epoch number began journal) = []
listing_in (noted.List listing) = listing ∷ []

-- the listings among these items, in order
unfoldable pub listings_in : List (Noted (Kept Step)) → List Listing
listings_in items = flat_map listing_in items
