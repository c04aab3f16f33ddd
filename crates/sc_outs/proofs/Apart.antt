-- Places that are apart are so either way.
use Rattle.std.proofs.Common.{◌≡◌, Bool, true, false, refl, ap, sym, ◌∙◌}
use Rattle.std.proofs.lemmas.Bool.{false≢true}
use Rattle.sc_value.specs.declared.ids.Place.{Place}
use Rattle.sc_value.specs.Places.{same_place}
use Rattle.sc_value.proofs.PlaceLaws.{same_place-is, same_place-self}

turned_by : (a b : Place) (t : Bool) → same_place b a ≡ t → same_place a b ≡ false → same_place b a ≡ false
turned_by a b true e other = absurd (false≢true (sym other ∙ (ap (λ (p : Place). same_place a p) (same_place-is b a e) ∙ same_place-self a)))
turned_by a b false e other = e

pub apart_turned : (a b : Place) → same_place a b ≡ false → same_place b a ≡ false
apart_turned a b other = turned_by a b (same_place b a) refl other
