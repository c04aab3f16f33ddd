-- The listings of a run as it comes on, and as one more is told.
use Rattle.std.proofs.Common.{◌≡◌, ◌⊎◌, Some, None, List, [], ◌∷◌, ◌++◌, sym, ap, ◌∙◌, subst, append_assoc, append-nil, inl, inr, refl}
use Rattle.sc_journal.specs.Kept.{Kept}
use Rattle.sc_terms.specs.declared.steps.Step.{Step}
use Rattle.sc_parts.specs.declared.setup.Setup.{Setup}
use Rattle.sc_edge.specs.declared.listing.Listing.{Listing}
use Rattle.sc_edge.specs.declared.notice.Noted.{Noted}
use Rattle.sc_edge.specs.Telling.{Notes}
use Rattle.sc_courses.specs.Courses.{Told, TellsListings}
use Rattle.sc_courses.specs.Listings.{IsListingAt, Lists, listing_in, listings_in}
use Rattle.sc_courses.specs.Ordering.{ComesOn, Point, beginning_point}
use Rattle.sc_courses.proofs.OrderingLaws.{comes_same, comes_then, flat_append}

pub lists_begin : (setup : Setup) (point : Point) → Lists setup point [] point
unfolding Lists
lists_begin setup point = comes_same point

-- the run came on, and nothing was told
pub lists_more : (setup : Setup) (a b c : Point) (listings : List Listing) → Lists setup a listings b → ComesOn b c → Lists setup a listings c
unfolding Lists
lists_more setup a b c [] first on = comes_then a b c first on
lists_more setup a b c (listing ∷ listings) (point, first, here, later) on = (point, first, here, lists_more setup point b c listings later on)

-- it was told what lives there
pub lists_one : (setup : Setup) (a b : Point) (listings : List Listing) (listing : Listing) → Lists setup a listings b → IsListingAt setup b listing → Lists setup a (listings ++ listing ∷ []) b
unfolding Lists
lists_one setup a b [] listing first is = (b, first, is, comes_same b)
lists_one setup a b (other ∷ listings) listing (point, first, here, later) is = (point, first, here, lists_one setup point b listings listing later is)

-- it was told something else
pub lists_other : (setup : Setup) (a b : Point) (listings : List Listing) → Lists setup a listings b → Lists setup a (listings ++ []) b
lists_other setup a b listings lists = subst (λ (all : List Listing). Lists setup a all b) (sym (append-nil listings)) lists

pub listings_more : (items : List (Noted (Kept Step))) (item : Noted (Kept Step)) → listings_in (items ++ item ∷ []) ≡ listings_in items ++ listing_in item
unfolding listings_in
listings_more items item = flat_append listing_in items (item ∷ []) ∙ ap (λ (rest : List Listing). listings_in items ++ rest) (append-nil (listing_in item))

-- ## What the notice was told

abbrev Items : Type 0
Items = List (Noted (Kept Step))

-- the run came on
pub listings_on : (setup : Setup) (first now : Told) (a b : Point) → TellsListings setup first now a → ComesOn a b → TellsListings setup first now b
unfolding TellsListings
listings_on setup None now a b tells on = tells
listings_on setup (Some first) now a b (inl (items, e, lists)) on = inl (items, e, lists_more setup beginning_point a b (listings_in items) lists on)
listings_on setup (Some first) now a b (inr none) on = inr none

-- with this item the listings are still of points on the way
abbrev pub Adds : Setup → Point → Noted (Kept Step) → Type 0
Adds setup point item = (listings : List Listing) → Lists setup beginning_point listings point → Lists setup beginning_point (listings ++ listing_in item) point

told-by : (setup : Setup) (first items : Items) (now new : Told) (point : Point) (item : Noted (Kept Step)) → Adds setup point item → now ≡ Some (first ++ items) → Lists setup beginning_point (listings_in items) point → Notes now new item
    → ((more : Items) × (new ≡ Some (first ++ more)) × Lists setup beginning_point (listings_in more) point) ⊎ (new ≡ None)
told-by setup first items now new point item adds e lists notes = by (rw e at notes)
  where
    by : ((new ≡ Some ((first ++ items) ++ item ∷ [])) ⊎ (new ≡ None)) → ((more : Items) × (new ≡ Some (first ++ more)) × Lists setup beginning_point (listings_in more) point) ⊎ (new ≡ None)
    by (inl told) =
        inl (
          items ++ item ∷ [],
          told ∙ ap (λ (xs : Items). Some xs) (append_assoc first items (item ∷ [])),
          subst (λ (all : List Listing). Lists setup beginning_point all point) (sym (listings_more items item)) (adds (listings_in items) lists),
        )
    by (inr none) = inr none

-- it was told one item more
pub listings_told : (setup : Setup) (first now new : Told) (point : Point) (item : Noted (Kept Step)) → Adds setup point item → TellsListings setup first now point → Notes now new item → TellsListings setup first new point
unfolding TellsListings
listings_told setup None now new point item adds tells notes = rw tells at notes
listings_told setup (Some first) now new point item adds (inl (items, e, lists)) notes = told-by setup first items now new point item adds e lists notes
listings_told setup (Some first) now new point item adds (inr none) notes = inr (rw none at notes)

-- nothing was told yet
pub listings_none : (setup : Setup) (told : Told) → TellsListings setup told told beginning_point
unfolding TellsListings listings_in
listings_none setup None = refl
listings_none setup (Some items) = inl ([], ap (λ (xs : Items). Some xs) (sym (append-nil items)), lists_begin setup beginning_point)
