-- What an edge in memory knows of each place after something was noted of one.
use Rattle.std.proofs.Common.{◌≡◌, ℕ, ◌≤◌, ◌⊎◌, inl, inr, Bool, true, false, cond, Option, Some, None, List, [], ◌∷◌, refl, ap, sym, ◌∙◌, subst, arith}
use Rattle.std.specs.List.{find}
use Rattle.sc_value.specs.declared.ids.Place.{Place}
use Rattle.sc_value.specs.Places.{same_place}
use Rattle.sc_value.proofs.PlaceLaws.{same_place-is}
use Rattle.sc_edge.proofs.PlaceFacts.{Lost, known-with_known, other-with_known}
use Rattle.sc_edge.specs.EdgePlaces.{PlacesState, is_of, known_or, known_at, with_known}
use Rattle.sc_edge.specs.declared.mem_places.Known.{Known}

-- ## The place that is looked up

passes_step : (p : Known → Bool) (x k : Known) (found : Option Known) (b : Bool) → p x ≡ b → (found ≡ Some k → p k ≡ true) → cond b (Some x) found ≡ Some k → p k ≡ true
passes_step p x k found true is later e = cc
passes_step p x k found false is later e = later e

found_passes : (p : Known → Bool) (known : List Known) (k : Known) → find p known ≡ Some k → p k ≡ true
found_passes p [] k e = cc
found_passes p (x ∷ known) k e = passes_step p x k (find p known) (p x) refl (found_passes p known k) e

place_or : (places : PlacesState) (place : Place) (found : Option Known) → find (is_of place) places.known ≡ found → (known_or places place found).place ≡ place
place_or places place None e = refl
place_or places place (Some known) e = same_place-is known.place place (found_passes (is_of place) places.known known e)

pub place_known : (places : PlacesState) (place : Place) → (known_at places place).place ≡ place
place_known places place = place_or places place (find (is_of place) places.known) refl

-- ## The place of which something was noted

-- what is known of a place after this was noted of it
Now : PlacesState → Place → Known → Type 0
Now places place new =
    (known_at (with_known places new) place ≡ new) ⊎ (Lost (known_at places place) places.others × Lost (known_at (with_known places new) place) new.faults)

now : (places : PlacesState) (place : Place) (new : Known) → new.place ≡ place → Now places place new
unfolding Now
now places place new e =
    subst (λ (p : Place). (known_at (with_known places new) p ≡ new) ⊎ (Lost (known_at places p) places.others × Lost (known_at (with_known places new) p) new.faults)) e (known-with_known places new)

silent_of : (old after new : Known) (others : ℕ) → ((after ≡ new) ⊎ (Lost old others × Lost after new.faults)) → new.is_silent ≡ true → after.is_silent ≡ true
unfolding Lost
silent_of old after new others (inl same) e = ap (λ (k : Known). k.is_silent) same ∙ e
silent_of old after new others (inr (was, is)) e = is.0

barred_of : (old after new : Known) (others : ℕ) → ((after ≡ new) ⊎ (Lost old others × Lost after new.faults)) → new.is_barred ≡ true → after.is_barred ≡ true
unfolding Lost
barred_of old after new others (inl same) e = ap (λ (k : Known). k.is_barred) same ∙ e
barred_of old after new others (inr (was, is)) e = is.1

faults_of : (old after new : Known) (others : ℕ) → ((after ≡ new) ⊎ (Lost old others × Lost after new.faults)) → after.faults ≡ new.faults
unfolding Lost
faults_of old after new others (inl same) = ap (λ (k : Known). k.faults) same
faults_of old after new others (inr (was, is)) = is.3

cut_of : (old after new : Known) (others : ℕ) → ((after ≡ new) ⊎ (Lost old others × Lost after new.faults)) → new.is_cut ≡ old.is_cut → after.is_cut ≡ old.is_cut
unfolding Lost
cut_of old after new others (inl same) e = ap (λ (k : Known). k.is_cut) same ∙ e
cut_of old after new others (inr (was, is)) e = is.2 ∙ sym was.2

new_cut_of : (old after new : Known) (others : ℕ) → ((after ≡ new) ⊎ (Lost old others × Lost after new.faults)) → old.is_barred ≡ false → after.is_cut ≡ new.is_cut
unfolding Lost
new_cut_of old after new others (inl same) e = ap (λ (k : Known). k.is_cut) same
new_cut_of old after new others (inr (was, is)) e = let barred : old.is_barred ≡ true = was.1 in absurd (clash old.is_barred barred e)
  where
    clash : (b : Bool) → b ≡ true → b ≡ false → ⊥
    clash true is isnt = cc
    clash false is isnt = cc

pub now_silent : (places : PlacesState) (place : Place) (new : Known) → new.place ≡ place → new.is_silent ≡ true → (known_at (with_known places new) place).is_silent ≡ true
unfolding Now
now_silent places place new e s = silent_of _ _ new places.others (now places place new e) s

pub now_barred : (places : PlacesState) (place : Place) (new : Known) → new.place ≡ place → new.is_barred ≡ true → (known_at (with_known places new) place).is_barred ≡ true
unfolding Now
now_barred places place new e s = barred_of _ _ new places.others (now places place new e) s

pub now_faults : (places : PlacesState) (place : Place) (new : Known) → new.place ≡ place → (known_at (with_known places new) place).faults ≡ new.faults
unfolding Now
now_faults places place new e = faults_of _ _ new places.others (now places place new e)

pub now_cut : (places : PlacesState) (place : Place) (new : Known) → new.place ≡ place → new.is_cut ≡ (known_at places place).is_cut → (known_at (with_known places new) place).is_cut ≡ (known_at places place).is_cut
unfolding Now
now_cut places place new e s = cut_of _ _ new places.others (now places place new e) s

pub now_new_cut : (places : PlacesState) (place : Place) (new : Known) → new.place ≡ place → (known_at places place).is_barred ≡ false → (known_at (with_known places new) place).is_cut ≡ new.is_cut
unfolding Now
now_new_cut places place new e s = new_cut_of _ _ new places.others (now places place new e) s

-- ## All places

-- a silent place stays silent and barred, a cut one cut, and no count falls
abbrev pub Grows : Known → Known → Type 0
Grows old new =
    (old.is_silent ≡ true → new.is_silent ≡ true) × (old.is_silent ≡ true → old.is_barred ≡ true → new.is_barred ≡ true) × (new.is_cut ≡ old.is_cut) × (old.faults ≤ new.faults)

pub grows_same : (known : Known) → Grows known known
grows_same known = ((λ e. e), (λ s e. e), refl, omega arith)

grows_here : (places : PlacesState) (place : Place) (new : Known) → new.place ≡ place → Grows (known_at places place) new → Grows (known_at places place) (known_at (with_known places new) place)
grows_here places place new e grows = (
  λ s. now_silent places place new e (grows.0 s),
  λ s b. now_barred places place new e (grows.1 s b),
  now_cut places place new e grows.2,
  let same = now_faults places place new e in let le = grows.3 in omega (arith, same, le),
)

pub grows_other : (places : PlacesState) (place other : Place) (new : Known) → new.place ≡ place → (known_at places place).faults ≤ new.faults → same_place place other ≡ false
    → Grows (known_at places other) (known_at (with_known places new) other)
grows_other places place other new e le apart =
    let kept = other-with_known places new other (rw e apart) (rw e le) in
    (kept.0, (λ s b. kept.1 b), kept.2, kept.3)

grows_by : (places : PlacesState) (place other : Place) (new : Known) (b : Bool) → same_place place other ≡ b → new.place ≡ place → Grows (known_at places place) new
    → Grows (known_at places other) (known_at (with_known places new) other)
grows_by places place other new true is e grows =
    subst (λ (p : Place). Grows (known_at places p) (known_at (with_known places new) p)) (same_place-is place other is) (grows_here places place new e grows)
grows_by places place other new false is e grows = grows_other places place other new e grows.3 is

pub grows_all : (places : PlacesState) (place other : Place) (new : Known) → new.place ≡ place → Grows (known_at places place) new
    → Grows (known_at places other) (known_at (with_known places new) other)
grows_all places place other new e grows = grows_by places place other new (same_place place other) refl e grows

counts_by : (places : PlacesState) (place other : Place) (new : Known) (b : Bool) → same_place place other ≡ b → new.place ≡ place → (known_at places place).faults ≤ new.faults
    → (known_at places other).faults ≤ (known_at (with_known places new) other).faults
counts_by places place other new true is e le =
    subst (λ (p : Place). (known_at places p).faults ≤ (known_at (with_known places new) p).faults) (same_place-is place other is)
    (let same = now_faults places place new e in omega (arith, same, le))
counts_by places place other new false is e le = (grows_other places place other new e le is).3

pub counts_all : (places : PlacesState) (place other : Place) (new : Known) → new.place ≡ place → (known_at places place).faults ≤ new.faults
    → (known_at places other).faults ≤ (known_at (with_known places new) other).faults
counts_all places place other new e le = counts_by places place other new (same_place place other) refl e le
