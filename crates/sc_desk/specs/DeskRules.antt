-- The rule of the queue of orders, and the steps of its passes. This project's own.
use Rattle.std.specs.Prelude.{◌≡◌, ◌≢◌, ◌<◌, ◌+◌, ℕ, true, false, List, [], ◌∷◌, ◌++◌, map, filter, nat_eq}
use Rattle.std.specs.List.{AllByRecursion}
use mathlib.Core.Option.{some}
use lib.ListN.{get_elem?}
use Rattle.sc_edge.specs.declared.orders.Order.{Order}
use Rattle.sc_desk.specs.declared.posted.Posted.{Posted}
use Rattle.sc_desk.specs.declared.desk_queue.DeskView.{DeskView}
use Rattle.sc_desk.specs.declared.desk_queue.Ended.{Ended}

-- the orders of these that the poster of this number posted
unfoldable pub orders_by : ℕ → List Posted → List Order
orders_by number all =
    map (λ (p : Posted). p.order) (filter (λ (p : Posted). nat_eq p.by number) all)

-- the view of the taker's pass, as the desk is made
abbrev pub first_view : DeskView
first_view =
    record {
      first = true;
      posts = false;
      number = 0;
      made = 0;
      posted = [];
      taken = [];
      ended = [];
    }

-- the view of a poster's pass as it is split off, with its number
abbrev pub poster_view : ℕ → DeskView
poster_view number =
    record {
      first = false;
      posts = true;
      number = number;
      made = 0;
      posted = [];
      taken = [];
      ended = [];
    }

-- a pass that was joined to the taker's
abbrev pub spent_view : DeskView
spent_view =
    record {
      first = false;
      posts = false;
      number = 0;
      made = 0;
      posted = [];
      taken = [];
      ended = [];
    }

-- the taker after one poster more was split off
abbrev pub one_made : DeskView → DeskView
one_made v = record v { made = v.made + 1 }

-- the taker after a poster's pass was joined to it: what that posted is remembered
abbrev pub joined_view : DeskView → DeskView → DeskView
joined_view v w =
    record v { ended = v.ended ++ record { number = w.number; orders = w.posted } ∷ [] }

-- a poster after it posted this order
abbrev pub after_post : DeskView → Order → DeskView
after_post v order = record v { posted = v.posted ++ order ∷ [] }

-- the taker after it took this order
abbrev pub after_take : DeskView → Posted → DeskView
after_take v posted = record v { taken = v.taken ++ posted ∷ [] }

-- the number that a pass keeps is its poster's, or how many the taker made, which doesn't post
abbrev pub IsNumbered : DeskView → ℕ → Type 0
IsNumbered v number =
    (v.first ≡ true → (v.made ≡ number) × (v.posts ≡ false)) × (v.posts ≡ true → v.number ≡ number)

-- ## What was taken of a poster that has ended

-- a beginning of what it posted, in its order, each once
abbrev pub IsBegun : List Posted → Ended → Type 0
IsBegun taken ended = (later : List Order) × (ended.orders ≡ orders_by ended.number taken ++ later)

-- all that it posted
abbrev pub IsWhole : List Posted → Ended → Type 0
IsWhole taken ended = orders_by ended.number taken ≡ ended.orders

-- of each poster that has ended all was taken
abbrev pub AreTakenWhole : DeskView → Type 0
AreTakenWhole v = AllByRecursion (IsWhole v.taken) v.ended

-- the taker took this one; of each poster that has ended a beginning was taken
abbrev pub Took : DeskView → Posted → DeskView → Type 0
Took v posted w = (w ≡ after_take v posted) × AllByRecursion (IsBegun w.taken) w.ended

-- the same, of the order of some poster
abbrev pub TookOrder : DeskView → Order → DeskView → Type 0
TookOrder v order w = (posted : Posted) × (posted.order ≡ order) × Took v posted w

-- what the taker knows of what waits: with it all is there that posters posted which have ended
abbrev pub IsTakenUpTo : DeskView → List Posted → Type 0
IsTakenUpTo v items = AllByRecursion (IsWhole (v.taken ++ items)) v.ended

-- what a poster knows of what waits: its own orders are the last ones that it posted
abbrev pub IsWaiting : DeskView → List Posted → Type 0
IsWaiting v items = (earlier : List Order) × (v.posted ≡ earlier ++ orders_by v.number items)

-- ## The rule

-- of all orders, taken and waiting, those of this poster are what it posted; no other has had its
-- number
pub record IsPoster (made : ℕ) (all : List Posted) (ended : List Ended)
    (v : DeskView) : Type 0 where
  pub posted_are : orders_by v.number all ≡ v.posted
  pub below : v.number < made
  pub apart : AllByRecursion (λ (e : Ended). e.number ≢ v.number) ended

-- a poster that has ended: all that it posted was taken or waits
pub record IsEnded (made : ℕ) (all : List Posted) (e : Ended) : Type 0 where
  pub whole : IsWhole all e
  pub below : e.number < made

-- what the taker's view says
pub record IsTaker (taken : List Posted) (ended : List Ended) (made : ℕ)
    (v : DeskView) : Type 0 where
  pub taken_is : v.taken ≡ taken
  pub ended_is : v.ended ≡ ended
  pub made_is : v.made ≡ made
  pub posts_not : v.posts ≡ false

-- both are taker's views
abbrev pub BothTake : DeskView → DeskView → Type 0
BothTake v w = (v.first ≡ true) × (w.first ≡ true)

-- both are posters' views of one number
abbrev pub BothPost : DeskView → DeskView → Type 0
BothPost v w = (v.posts ≡ true) × (w.posts ≡ true) × (v.number ≡ w.number)

-- two views of which this is so are one
abbrev pub AreOne : (DeskView → DeskView → Type 0) → List DeskView → Type 0
AreOne Both views =
    (i j : ℕ) (v w : DeskView) → get_elem? views i ≡ some v → get_elem? views j ≡ some w → Both v w
    → i ≡ j

-- Of each poster the orders that were taken and those that wait are what it posted, in its order,
-- each once. One pass alone takes, and no two posters have one number.
pub record DeskKept (items : List Posted) (views : List DeskView) : Type 0 where
  pub taken : List Posted
  pub ended : List Ended
  pub made : ℕ
  pub taker : (seat : ℕ) (v : DeskView) → get_elem? views seat ≡ some v → v.first ≡ true
      → IsTaker taken ended made v
  pub posters : (seat : ℕ) (v : DeskView) → get_elem? views seat ≡ some v → v.posts ≡ true
      → IsPoster made (taken ++ items) ended v
  pub one : AreOne BothTake views
  pub apart : AreOne BothPost views
  pub ended_are : AllByRecursion (IsEnded made (taken ++ items)) ended
  pub below : AllByRecursion (λ (p : Posted). p.by < made) (taken ++ items)
