-- What is known of a place, after something was noted of it or of another.
use Rattle.std.proofs.Common.{◌≡◌, ℕ, suc, ◌≤◌, ◌⊎◌, inl, inr, Bool, true, false, cond, nat_le, nat_lt, Option, Some, None, List, [], ◌∷◌, ◌++◌, length, refl, ap, sym, ◌∙◌, subst, position, arith, length-append}
use Rattle.std.specs.List.{find}
use Rattle.std.specs.Option.{option_or}
use Rattle.std.proofs.Math.ListN.{set}
use Rattle.std.proofs.lemmas.Bool.Decides.{nat_tests}
use Rattle.std.proofs.lemmas.List.Folds.{find-append}
use Rattle.sc_value.specs.declared.ids.Place.{Place}
use Rattle.sc_value.specs.Lists.{change_first}
use Rattle.sc_value.specs.Places.{same_place}
use Rattle.sc_value.proofs.ListFacts.{change_first_position, find_position, find_none}
use Rattle.sc_value.proofs.PlaceLaws.{same_place-is, same_place-self}
use Rattle.sc_edge.specs.EdgePlaces.{PlacesState, with_changed_item as changed, with_one_place as grown, is_of, known_or, known_at, without_room as missed, with_note_of as stored, with_known}
use Rattle.sc_edge.specs.declared.mem_places.Known.{Known}

-- the code's way: by the number of the item
pub with_known_some : (places : PlacesState) (new : Known) (i : ℕ) → position (is_of new.place) places.known ≡ Some i
    → with_known places new ≡ record places { known = set places.known i new }
with_known_some places new i at =
    ap (stored places new) (find_position (is_of new.place) places.known i new at)
    ∙ ap (λ (known : List Known). let changed : PlacesState = record places { known = known } in changed) (change_first_position (is_of new.place) (λ _. new) places.known i new at)

pub with_known_none : (places : PlacesState) (new : Known) → position (is_of new.place) places.known ≡ None → with_known places new ≡ stored places new None
with_known_none places new at = ap (stored places new) (find_none (is_of new.place) places.known at)

-- ## Looking up after a change

-- the items stay apart: what has one test hasn't the other
Apart : (Known → Bool) → (Known → Bool) → Type 0
Apart p q = (k : Known) → p k ≡ true → q k ≡ false

same_step : (p : Known → Bool) (new k : Known) (known : List Known) (b : Bool) → p k ≡ b → p new ≡ true
    → ((old : Known) → find p known ≡ Some old → find p (change_first p (λ _. new) known) ≡ Some new)
    → (old : Known) → cond b (Some k) (find p known) ≡ Some old → find p (cond b (new ∷ known) (k ∷ change_first p (λ _. new) known)) ≡ Some new
same_step p new k known true is passes later old there = rw passes refl
same_step p new k known false is passes later old there = rw is (later old there)

find_changed : (p : Known → Bool) (new : Known) (known : List Known) → p new ≡ true
    → (old : Known) → find p known ≡ Some old → find p (change_first p (λ _. new) known) ≡ Some new
unfolding change_first
find_changed p new [] passes old there = cc
find_changed p new (k ∷ known) passes old there =
    same_step p new k known (p k) refl passes (find_changed p new known passes) old there

other_step : (p q : Known → Bool) (new k : Known) (known : List Known) (b : Bool) → p k ≡ b → Apart p q → q new ≡ false
    → find q (change_first p (λ _. new) known) ≡ find q known → find q (cond b (new ∷ known) (k ∷ change_first p (λ _. new) known)) ≡ find q (k ∷ known)
unfolding Apart
other_step p q new k known true is apart other later = rw (other, apart k is) refl
other_step p q new k known false is apart other later = ap (λ (found : Option Known). cond (q k) (Some k) found) later

find_other : (p q : Known → Bool) (new : Known) (known : List Known) → Apart p q → q new ≡ false → find q (change_first p (λ _. new) known) ≡ find q known
unfolding change_first
find_other p q new [] apart other = refl
find_other p q new (k ∷ known) apart other = other_step p q new k known (p k) refl apart other (find_other p q new known apart other)

apart_places : (a b : Place) → same_place a b ≡ false → Apart (is_of a) (is_of b)
unfolding Apart
apart_places a b other k is = subst (λ (p : Place). same_place p b ≡ false) (sym (same_place-is k.place a is)) other

-- ## The place itself

-- a place for which there was no room: nothing comes from it, and each put fails
unfoldable pub Lost : Known → ℕ → Type 0
Lost known faults = (known.is_silent ≡ true) × (known.is_barred ≡ true) × (known.is_cut ≡ false) × (known.faults ≡ faults)

full : (places : PlacesState) → nat_lt (length places.known) places.room ≡ false → nat_le places.room (length places.known) ≡ true
full places e = grind (arith, nat_tests)

-- what is known of the place after something was noted of it: that, or it is lost and was so before
abbrev pub NowKnown : PlacesState → PlacesState → Known → Type 0
NowKnown old after new =
    (known_at after new.place ≡ new) ⊎ (Lost (known_at old new.place) old.others × Lost (known_at after new.place) new.faults)

lost_or : (places : PlacesState) (place : Place) (found : Option Known) → found ≡ None → nat_le places.room (length places.known) ≡ true → Lost (known_or places place found) places.others
unfolding Lost
lost_or places place None e is_full = (is_full, is_full, refl, refl)
lost_or places place (Some known) e is_full = cc

noted_known : (places : PlacesState) (new old : Known) → find (is_of new.place) places.known ≡ Some old → known_at (changed places new) new.place ≡ new
noted_known places new old e =
    ap (known_or (changed places new) new.place) (find_changed (is_of new.place) new places.known (same_place-self new.place) old e)

found_last : (new : Known) (known : List Known) → find (is_of new.place) known ≡ None → find (is_of new.place) (known ++ new ∷ []) ≡ Some new
found_last new known e =
    find-append (is_of new.place) known (new ∷ [])
    ∙ (ap (λ (found : Option Known). option_or found (cond (same_place new.place new.place) (Some new) None)) e
    ∙ ap (λ (b : Bool). option_or None (cond b (Some new) None)) (same_place-self new.place))

noted_last : (places : PlacesState) (new : Known) → find (is_of new.place) places.known ≡ None → known_at (grown places new) new.place ≡ new
noted_last places new e = ap (known_or (grown places new) new.place) (found_last new places.known e)

noted_lost : (places : PlacesState) (new : Known) (has_room : Bool) → nat_lt (length places.known) places.room ≡ has_room → find (is_of new.place) places.known ≡ None
    → NowKnown places (cond has_room (grown places new) (missed places new)) new
noted_lost places new true room e = inl (noted_last places new e)
noted_lost places new false room e =
    inr (lost_or places new.place (find (is_of new.place) places.known) e (full places room), lost_or (missed places new) new.place (find (is_of new.place) places.known) e (full places room))

noted : (places : PlacesState) (new : Known) (found : Option Known) → find (is_of new.place) places.known ≡ found → NowKnown places (stored places new found) new
noted places new None e = noted_lost places new (nat_lt (length places.known) places.room) refl e
noted places new (Some old) e = inl (noted_known places new old e)

pub known-with_known : (places : PlacesState) (new : Known) → NowKnown places (with_known places new) new
known-with_known places new = noted places new (find (is_of new.place) places.known) refl

-- ## Other places

-- what is known of a place may turn to its being lost, and its count doesn't fall
abbrev pub Keeps : Known → Known → Type 0
Keeps old new = (old.is_silent ≡ true → new.is_silent ≡ true) × (old.is_barred ≡ true → new.is_barred ≡ true) × (new.is_cut ≡ old.is_cut) × (old.faults ≤ new.faults)

fuller : (room a b : ℕ) → a ≤ b → nat_le room a ≡ true → nat_le room b ≡ true
fuller room a b le e = grind (arith, nat_tests)

keeps_or : (a b : PlacesState) (place : Place) (found : Option Known) → a.room ≡ b.room → length a.known ≤ length b.known → a.others ≤ b.others
    → Keeps (known_or a place found) (known_or b place found)
keeps_or a b place (Some known) room len others = ((λ e. e), (λ e. e), refl, omega arith)
keeps_or a b place None room len others =
    ((λ e. fuller _ _ _ len (rw room at e)), (λ e. fuller _ _ _ len (rw room at e)), refl, others)

length_step : (p : Known → Bool) (new k : Known) (known : List Known) (b : Bool) → length (change_first p (λ _. new) known) ≡ length known
    → length (cond b (new ∷ known) (k ∷ change_first p (λ _. new) known)) ≡ length (k ∷ known)
length_step p new k known true later = refl
length_step p new k known false later = ap (λ (n : ℕ). suc n) later

length_changed : (p : Known → Bool) (new : Known) (known : List Known) → length (change_first p (λ _. new) known) ≡ length known
unfolding change_first
length_changed p new [] = refl
length_changed p new (k ∷ known) = length_step p new k known (p k) (length_changed p new known)

or_none : (found : Option Known) → option_or found None ≡ found
or_none None = refl
or_none (Some known) = refl

-- where the look-up finds the same as before
keeps_found : (a b : PlacesState) (place : Place) → find (is_of place) b.known ≡ find (is_of place) a.known → a.room ≡ b.room → length a.known ≤ length b.known → a.others ≤ b.others
    → Keeps (known_at a place) (known_at b place)
keeps_found a b place same room len others =
    rw same (keeps_or a b place (find (is_of place) a.known) room len others)

other_last : (place : Place) (new : Known) (known : List Known) → same_place new.place place ≡ false → find (is_of place) (known ++ new ∷ []) ≡ find (is_of place) known
other_last place new known other =
    rw (find-append (is_of place) known (new ∷ []), other) (or_none (find (is_of place) known))

Kept : PlacesState → PlacesState → Place → Type 0
Kept old new place = Keeps (known_at old place) (known_at new place)

other_known : (places : PlacesState) (new : Known) (place : Place) → same_place new.place place ≡ false → Kept places (changed places new) place
unfolding Kept
other_known places new place other =
    let len = length_changed (is_of new.place) new places.known in
    keeps_found places (changed places new) place (find_other (is_of new.place) (is_of place) new places.known (apart_places new.place place other) other) refl (omega (arith, len)) (omega arith)

other_grown : (places : PlacesState) (new : Known) (place : Place) → same_place new.place place ≡ false → Kept places (grown places new) place
unfolding Kept
other_grown places new place other =
    let len = length-append places.known (new ∷ []) in
    keeps_found places (grown places new) place (other_last place new places.known other) refl (omega (arith, len)) (omega arith)

other_missed : (places : PlacesState) (new : Known) (place : Place) → places.others ≤ new.faults → Kept places (missed places new) place
unfolding Kept
other_missed places new place le = keeps_found places (missed places new) place refl refl (omega arith) le

other_lost : (places : PlacesState) (new : Known) (place : Place) (has_room : Bool) → same_place new.place place ≡ false → places.others ≤ new.faults
    → Kept places (cond has_room (grown places new) (missed places new)) place
other_lost places new place true other le = other_grown places new place other
other_lost places new place false other le = other_missed places new place le

other : (places : PlacesState) (new : Known) (place : Place) (found : Option Known) → same_place new.place place ≡ false
    → (known_or places new.place found).faults ≤ new.faults → Kept places (stored places new found) place
other places new place None apart le = other_lost places new place (nat_lt (length places.known) places.room) apart le
other places new place (Some old) apart le = other_known places new place apart

pub other-with_known : (places : PlacesState) (new : Known) (place : Place) → same_place new.place place ≡ false → (known_at places new.place).faults ≤ new.faults
    → Keeps (known_at places place) (known_at (with_known places new) place)
unfolding Kept
other-with_known places new place apart le = other places new place (find (is_of new.place) places.known) apart le
