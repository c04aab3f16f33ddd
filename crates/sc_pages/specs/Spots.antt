-- How far a walk over the items of a list in pages has come. This project's own.
use Rattle.std.specs.Prelude.{List, ◌++◌, drop}
use Rattle.sc_queue.specs.Joined.{joined}
use Rattle.sc_pages.specs.declared.same.Spot.{Spot}

-- the items to come
abbrev pub rest : {A : Type 0} → List (List A) → List A → Spot → List A
rest pages newest spot = drop spot.within (joined (drop spot.page pages) ++ newest)
