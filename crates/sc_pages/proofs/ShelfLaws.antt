-- Pages of which none is touched, and a list without pages.
use Rattle.std.proofs.Common.{◌≡◌, Bool, false, List, None, ap, ◌∙◌, map, position}
use Rattle.std.specs.List.{list_any}
use Rattle.sc_queue.specs.Joined.{joined}
use Rattle.sc_pages.proofs.PageLaws.{none_changed as no_item_changed}
use Rattle.sc_pages.proofs.PagesLaws.{joined_map, none_in_pages, nowhere}

pub none_changed : {A : Type 0} (p : A → Bool) (f : A → A) (pages : List (List A)) → ((x : A) → p x ≡ false → f x ≡ x) → position (list_any p) pages ≡ None → map f (joined pages) ≡ joined pages
none_changed p f pages same placed = no_item_changed p f (joined pages) same (none_in_pages p pages (nowhere p pages placed))

pub all_changed : {A : Type 0} (f : A → A) (old new : List (List A)) → new ≡ map (map f) old → joined new ≡ map f (joined old)
all_changed f old new is = ap joined is ∙ joined_map f old
