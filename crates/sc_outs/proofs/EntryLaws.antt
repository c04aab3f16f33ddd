-- What is left of each place, as texts are put behind, taken and let go of.
use Rattle.std.proofs.Common.{◌≡◌, ℕ, ◌≤◌, ◌==◌, Bool, true, false, not, Option, None, Some, List, [], ◌∷◌, ◌++◌, get_or, length, refl, sym, ap, ◌∙◌, subst, set, cond, if◌then◌else◌, arith}
use Rattle.std.specs.Prelude.{drop, position, is_some, Result, Ok, Err, OnOk, OnErr}
use Rattle.sc_value.specs.declared.no_memory.NoMemory.{NoMemory}
use Rattle.std.specs.List.{find, remove}
use Rattle.std.specs.Option.{option_or}
use Rattle.std.proofs.lemmas.Bool.{false≢true}
use Rattle.std.proofs.lemmas.Bool.Decides.{nat_tests}
use Rattle.std.proofs.lemmas.List.{nil_from_length}
use Rattle.std.proofs.Math.Seq.{drop-length}
use Rattle.std.proofs.lemmas.List.Folds.{find-append}
use Rattle.sc_tokens.specs.Bytes.{Bytes}
use Rattle.sc_value.specs.declared.ids.Place.{Place}
use Rattle.sc_value.specs.Lists.{change_first, remove_first}
use Rattle.sc_value.specs.Places.{same_place}
use Rattle.sc_value.proofs.ListFacts.{change_first_position, find_none, find_position, remove_first_position}
use Rattle.sc_value.proofs.PlaceLaws.{same_place-is}
use Rattle.sc_outs.specs.Owing.{Distinct, IsKept, Owed, bytes_in, bytes_of, is_at}
use Rattle.sc_outs.proofs.Apart.{apart_turned}

abbrev with_left : Bytes → Owed → Owed
with_left bytes owed = record owed { left = bytes }

there-with : (outs : List Owed) (place : Place) (i : ℕ) (d : Owed) → position (is_at place) outs ≡ Some i → is_some (find (is_at place) outs) ≡ true
there-with outs place i d at = rw (find_position (is_at place) outs i d at) refl

there_at : (outs : List Owed) (place : Place) (i : ℕ) → position (is_at place) outs ≡ Some i → is_some (find (is_at place) outs) ≡ true
there_at [] place i at = cc
there_at (p ∷ ps) place i at = there-with (p ∷ ps) place i p at

-- ## Changed

here : (other : Place) (p : Owed) (bytes : Bytes) (found : Option Owed) (b : Bool) → same_place other p.place ≡ b
    → bytes_in (cond b (Some (with_left bytes p)) found) ≡ (if b then bytes else bytes_in (cond b (Some p) found))
unfolding bytes_in
here other p bytes found true e = refl
here other p bytes found false e = refl

elsewhere : (place other : Place) (p : Owed) (bytes : Bytes) (found changed : Option Owed) (b c : Bool) → same_place other p.place ≡ b → same_place other place ≡ c → same_place place p.place ≡ false
    → bytes_in changed ≡ (if c then bytes else bytes_in found) → bytes_in (cond b (Some p) changed) ≡ (if c then bytes else bytes_in (cond b (Some p) found))
elsewhere place other p bytes found changed true true b c apart same =
    absurd (false≢true (sym apart ∙ (ap (λ (q : Place). same_place q p.place) (sym (same_place-is other place c)) ∙ b)))
elsewhere place other p bytes found changed true false b c apart same = refl
elsewhere place other p bytes found changed false true b c apart same = same
elsewhere place other p bytes found changed false false b c apart same = same

changed-by : (place other : Place) (bytes : Bytes) (p : Owed) (ps : List Owed) (b : Bool) → is_at place p ≡ b
    → (is_some (find (is_at place) ps) ≡ true → bytes_of (change_first (is_at place) (with_left bytes) ps) other ≡ (if same_place other place then bytes else bytes_of ps other))
    → is_some (cond b (Some p) (find (is_at place) ps)) ≡ true
    → bytes_in (find (is_at other) (cond b (with_left bytes p ∷ ps) (p ∷ change_first (is_at place) (with_left bytes) ps))) ≡ (if same_place other place then bytes else bytes_in (cond (is_at other p) (Some p) (find (is_at other) ps)))
unfolding bytes_of
changed-by place other bytes p ps true e later is = rw (same_place-is place p.place e) (here other p bytes (find (is_at other) ps) (same_place other p.place) refl)
changed-by place other bytes p ps false e later is = elsewhere place other p bytes (find (is_at other) ps) (find (is_at other) (change_first (is_at place) (with_left bytes) ps)) (same_place other p.place) (same_place other place) refl refl e (later is)

changed : (outs : List Owed) (place other : Place) (bytes : Bytes) → is_some (find (is_at place) outs) ≡ true
    → bytes_of (change_first (is_at place) (with_left bytes) outs) other ≡ (if same_place other place then bytes else bytes_of outs other)
unfolding bytes_of change_first
changed [] place other bytes is = absurd (false≢true is)
changed (p ∷ ps) place other bytes is = changed-by place other bytes p ps (is_at place p) refl (changed ps place other bytes) is

pub changed_kept : (outs : List Owed) (place : Place) (bytes : Bytes) (i : ℕ) (d : Owed) → position (is_at place) outs ≡ Some i → IsKept (bytes_of outs) place bytes (bytes_of (set outs i (record (get_or outs i d) { left = bytes })))
unfolding IsKept
changed_kept outs place bytes i d at other =
    subst (λ (changed : List Owed). bytes_of changed other ≡ (if same_place other place then bytes else bytes_of outs other)) (change_first_position (is_at place) (with_left bytes) outs i d at)
    (changed outs place other bytes (there_at outs place i at))

pub left_found : (outs : List Owed) (place : Place) (i : ℕ) (d : Owed) → position (is_at place) outs ≡ Some i → bytes_of outs place ≡ (get_or outs i d).left
unfolding bytes_of bytes_in
left_found outs place i d at = rw (find_position (is_at place) outs i d at) refl

pub left_none : (outs : List Owed) (place : Place) → position (is_at place) outs ≡ None → bytes_of outs place ≡ []
unfolding bytes_of bytes_in
left_none outs place none = rw (find_none (is_at place) outs none) refl

-- ## Added

fresh : (place other : Place) (text : Bytes) (b : Bool) → same_place other place ≡ b → (found : Option Owed) → (b ≡ true → found ≡ None)
    → bytes_in (option_or found (cond b (Some (record { place = place; left = text })) None)) ≡ (if b then text else bytes_in found)
unfolding bytes_in
fresh place other text true e None none = refl
fresh place other text true e (Some p) none = absurd (some_none p (none refl))
  where
    some_none : (p : Owed) → Some p ≡ None → ⊥
    some_none p e = cc
fresh place other text false e None none = refl
fresh place other text false e (Some p) none = refl

pub added_kept : (outs : List Owed) (place : Place) (text : Bytes) → position (is_at place) outs ≡ None → IsKept (bytes_of outs) place text (bytes_of (outs ++ record { place = place; left = text } ∷ []))
unfolding IsKept bytes_of
added_kept outs place text none other =
    rw (find-append (is_at other) outs (record { place = place; left = text } ∷ []))
    (fresh place other text (same_place other place) refl (find (is_at other) outs)
    (λ same. ap (λ (q : Place). find (is_at q) outs) (same_place-is other place same) ∙ find_none (is_at place) outs none))

-- ## Removed

gone_by : (place other : Place) (p : Owed) (ps : List Owed) (c : Bool) → same_place other place ≡ c → place ≡ p.place → find (is_at p.place) ps ≡ None
    → bytes_in (find (is_at other) ps) ≡ (if c then [] else bytes_in (cond (same_place other p.place) (Some p) (find (is_at other) ps)))
unfolding bytes_in
gone_by place other p ps true c is none = rw (same_place-is other place c, is, none) refl
gone_by place other p ps false c is none = rw (sym is, c) refl

removed-by : (place other : Place) (p : Owed) (ps : List Owed) (b : Bool) → is_at place p ≡ b → Distinct (p ∷ ps)
    → (is_some (find (is_at place) ps) ≡ true → bytes_of (remove_first (is_at place) ps) other ≡ (if same_place other place then [] else bytes_of ps other))
    → is_some (cond b (Some p) (find (is_at place) ps)) ≡ true
    → bytes_in (find (is_at other) (cond b ps (p ∷ remove_first (is_at place) ps))) ≡ (if same_place other place then [] else bytes_in (cond (is_at other p) (Some p) (find (is_at other) ps)))
unfolding bytes_of Distinct
removed-by place other p ps true e distinct later is = gone_by place other p ps (same_place other place) refl (same_place-is place p.place e) distinct.0
removed-by place other p ps false e distinct later is = elsewhere place other p [] (find (is_at other) ps) (find (is_at other) (remove_first (is_at place) ps)) (same_place other p.place) (same_place other place) refl refl e (later is)

removed : (outs : List Owed) (place other : Place) → Distinct outs → is_some (find (is_at place) outs) ≡ true
    → bytes_of (remove_first (is_at place) outs) other ≡ (if same_place other place then [] else bytes_of outs other)
unfolding bytes_of remove_first Distinct
removed [] place other distinct is = absurd (false≢true is)
removed (p ∷ ps) place other distinct is = removed-by place other p ps (is_at place p) refl distinct (removed ps place other distinct.1) is

pub removed_kept : (outs : List Owed) (place : Place) (i : ℕ) → Distinct outs → position (is_at place) outs ≡ Some i → IsKept (bytes_of outs) place [] (bytes_of (remove outs i))
unfolding IsKept
removed_kept outs place i distinct at other =
    subst (λ (removed : List Owed). bytes_of removed other ≡ (if same_place other place then [] else bytes_of outs other)) (remove_first_position (is_at place) outs i at)
    (removed outs place other distinct (there_at outs place i at))

none-kept : (outs : List Owed) (place other : Place) (b : Bool) → same_place other place ≡ b → position (is_at place) outs ≡ None → bytes_of outs other ≡ (if b then [] else bytes_of outs other)
unfolding bytes_of bytes_in
none-kept outs place other true e none = rw (same_place-is other place e, find_none (is_at place) outs none) refl
none-kept outs place other false e none = refl

pub kept_none : (outs : List Owed) (place : Place) → position (is_at place) outs ≡ None → IsKept (bytes_of outs) place [] (bytes_of outs)
unfolding IsKept
kept_none outs place none other = none-kept outs place other (same_place other place) refl none

-- ## No place twice

none_changed : (p : Owed → Bool) (q : Place) (bytes : Bytes) (o : Owed) (os : List Owed) (b c : Bool) → p o ≡ c → is_at q o ≡ b
    → (find (is_at q) os ≡ None → find (is_at q) (change_first p (with_left bytes) os) ≡ None)
    → cond b (Some o) (find (is_at q) os) ≡ None → find (is_at q) (cond c (with_left bytes o ∷ os) (o ∷ change_first p (with_left bytes) os)) ≡ None
none_changed p q bytes o os true c pe e later none = cc
none_changed p q bytes o os false true pe e later none = rw e none
none_changed p q bytes o os false false pe e later none = rw e (later none)

find_changed : (p : Owed → Bool) (q : Place) (bytes : Bytes) (os : List Owed) → find (is_at q) os ≡ None → find (is_at q) (change_first p (with_left bytes) os) ≡ None
unfolding change_first
find_changed p q bytes [] none = none
find_changed p q bytes (o ∷ os) none = none_changed p q bytes o os (is_at q o) (p o) refl refl (find_changed p q bytes os) none

distinct_by : (p : Owed → Bool) (bytes : Bytes) (o : Owed) (os : List Owed) (c : Bool) → find (is_at o.place) os ≡ None → Distinct os → Distinct (change_first p (with_left bytes) os)
    → Distinct (cond c (with_left bytes o ∷ os) (o ∷ change_first p (with_left bytes) os))
unfolding Distinct
distinct_by p bytes o os true none here later = (none, here)
distinct_by p bytes o os false none here later = (find_changed p o.place bytes os none, later)

distinct_changed : (p : Owed → Bool) (bytes : Bytes) (os : List Owed) → Distinct os → Distinct (change_first p (with_left bytes) os)
unfolding Distinct change_first
distinct_changed p bytes [] is = is
distinct_changed p bytes (o ∷ os) is = distinct_by p bytes o os (p o) is.0 is.1 (distinct_changed p bytes os is.1)

pub distinct_set : (outs : List Owed) (place : Place) (bytes : Bytes) (i : ℕ) (d : Owed) → Distinct outs → position (is_at place) outs ≡ Some i → Distinct (set outs i (record (get_or outs i d) { left = bytes }))
distinct_set outs place bytes i d is at = subst Distinct (change_first_position (is_at place) (with_left bytes) outs i d at) (distinct_changed (is_at place) bytes outs is)

none_removed : (p : Owed → Bool) (q : Place) (o : Owed) (os : List Owed) (b c : Bool) → p o ≡ c → is_at q o ≡ b
    → (find (is_at q) os ≡ None → find (is_at q) (remove_first p os) ≡ None)
    → cond b (Some o) (find (is_at q) os) ≡ None → find (is_at q) (cond c os (o ∷ remove_first p os)) ≡ None
none_removed p q o os true c pe e later none = cc
none_removed p q o os false true pe e later none = none
none_removed p q o os false false pe e later none = rw e (later none)

find_removed : (p : Owed → Bool) (q : Place) (os : List Owed) → find (is_at q) os ≡ None → find (is_at q) (remove_first p os) ≡ None
unfolding remove_first
find_removed p q [] none = none
find_removed p q (o ∷ os) none = none_removed p q o os (is_at q o) (p o) refl refl (find_removed p q os) none

distinct_less : (p : Owed → Bool) (o : Owed) (os : List Owed) (c : Bool) → find (is_at o.place) os ≡ None → Distinct os → Distinct (remove_first p os) → Distinct (cond c os (o ∷ remove_first p os))
unfolding Distinct
distinct_less p o os true none here later = here
distinct_less p o os false none here later = (find_removed p o.place os none, later)

distinct_removed : (p : Owed → Bool) (os : List Owed) → Distinct os → Distinct (remove_first p os)
unfolding Distinct remove_first
distinct_removed p [] is = is
distinct_removed p (o ∷ os) is = distinct_less p o os (p o) is.0 is.1 (distinct_removed p os is.1)

pub distinct_remove : (outs : List Owed) (place : Place) (i : ℕ) → Distinct outs → position (is_at place) outs ≡ Some i → Distinct (remove outs i)
distinct_remove outs place i is at = subst Distinct (remove_first_position (is_at place) outs i at) (distinct_removed (is_at place) outs is)

not_here : (place : Place) (o : Owed) (later : Option Owed) (b : Bool) → same_place place o.place ≡ b → cond b (Some o) later ≡ None → same_place place o.place ≡ false
not_here place o later true e none = cc
not_here place o later false e none = e

not_later : (o : Owed) (later : Option Owed) (b : Bool) → cond b (Some o) later ≡ None → later ≡ None
not_later o later true none = cc
not_later o later false none = none

both_none : (first later : Option Owed) → first ≡ None → later ≡ None → option_or first later ≡ None
both_none first later a b = rw (a, b) refl

distinct_pushed : (outs : List Owed) (new : Owed) → Distinct outs → find (is_at new.place) outs ≡ None → Distinct (outs ++ new ∷ [])
unfolding Distinct
distinct_pushed [] new is none = (refl, tt)
distinct_pushed (o ∷ os) new is none = (
  rw (find-append (is_at o.place) os (new ∷ []))
      (both_none _ _ is.0 (rw (apart_turned new.place o.place (not_here new.place o _ (same_place new.place o.place) refl none)) refl)),
  distinct_pushed os new is.1 (not_later o _ (same_place new.place o.place) none),
)

pub distinct_none : (outs : List Owed) → outs ≡ [] → Distinct outs
unfolding Distinct
distinct_none outs none = rw none tt

pub distinct_push : (outs : List Owed) (new : Owed) → Distinct outs → position (is_at new.place) outs ≡ None → Distinct (outs ++ new ∷ [])
distinct_push outs new is none = distinct_pushed outs new is (find_none (is_at new.place) outs none)

-- ## A text behind

appended_at : (outs : List Owed) (place : Place) (i : ℕ) (d new : Owed) (text : Bytes) → position (is_at place) outs ≡ Some i → new ≡ record (get_or outs i d) { left = (get_or outs i d).left ++ text }
    → new ≡ record (get_or outs i d) { left = bytes_of outs place ++ text }
appended_at outs place i d new text at e =
    e ∙ ap (λ (b : Bytes). let more : Owed = record (get_or outs i d) { left = b ++ text } in more) (sym (left_found outs place i d at))

pub appended_kept : (outs : List Owed) (place : Place) (i : ℕ) (d new : Owed) (text : Bytes) (r : Result Unit NoMemory) → position (is_at place) outs ≡ Some i
    → OnOk r (new ≡ record (get_or outs i d) { left = (get_or outs i d).left ++ text }) → OnOk r (IsKept (bytes_of outs) place (bytes_of outs place ++ text) (bytes_of (set outs i new)))
appended_kept outs place i d new text (Ok u) at e =
    subst (λ (o : Owed). IsKept (bytes_of outs) place (bytes_of outs place ++ text) (bytes_of (set outs i o))) (sym (appended_at outs place i d new text at e)) (changed_kept outs place (bytes_of outs place ++ text) i d at)
appended_kept outs place i d new text (Err cause) at e = tt

pub appended_distinct : (outs : List Owed) (place : Place) (i : ℕ) (d new : Owed) (text : Bytes) (r : Result Unit NoMemory) → Distinct outs → position (is_at place) outs ≡ Some i
    → OnOk r (new ≡ record (get_or outs i d) { left = (get_or outs i d).left ++ text }) → OnErr r (new ≡ get_or outs i d) → Distinct (set outs i new)
appended_distinct outs place i d new text (Ok u) is at e same =
    subst (λ (o : Owed). Distinct (set outs i o)) (sym (appended_at outs place i d new text at e)) (distinct_set outs place (bytes_of outs place ++ text) i d is at)
appended_distinct outs place i d new text (Err cause) is at e same =
    subst (λ (o : Owed). Distinct (set outs i o)) (sym same) (distinct_set outs place (get_or outs i d).left i d is at)

pub pushed_distinct : (outs now : List Owed) (place : Place) (text : Bytes) (new : Owed) → Distinct outs → position (is_at place) outs ≡ None → now ≡ outs ++ new ∷ [] → new ≡ record { place = place; left = text } → Distinct now
pushed_distinct outs now place text new is none e made = rw (e, made) (distinct_push outs (record { place = place; left = text }) is none)

pub pushed_kept : (outs now : List Owed) (place : Place) (text : Bytes) (new : Owed) → position (is_at place) outs ≡ None → now ≡ outs ++ new ∷ [] → new ≡ record { place = place; left = text }
    → IsKept (bytes_of outs) place (bytes_of outs place ++ text) (bytes_of now)
pushed_kept outs now place text new none e made = rw (e, made, left_none outs place none) (added_kept outs place text none)

-- ## As the code removes

pub removed_distinct_at : (outs seen was now : List Owed) (place : Place) (found : Option ℕ) (i : ℕ) → Distinct outs → seen ≡ outs → found ≡ position (is_at place) seen → found ≡ Some i → was ≡ outs → now ≡ remove was i → Distinct now
removed_distinct_at outs seen was now place found i is see find_is at same e = rw (e, same) (distinct_remove outs place i is (rw see at (sym find_is ∙ at)))

pub removed_kept_at : (outs seen was now : List Owed) (place : Place) (found : Option ℕ) (i : ℕ) → Distinct outs → seen ≡ outs → found ≡ position (is_at place) seen → found ≡ Some i → was ≡ outs → now ≡ remove was i → IsKept (bytes_of outs) place [] (bytes_of now)
removed_kept_at outs seen was now place found i is see find_is at same e = rw (e, same) (removed_kept outs place i is (rw see at (sym find_is ∙ at)))

pub none_kept_at : (outs seen : List Owed) (place : Place) (found : Option ℕ) → seen ≡ outs → found ≡ position (is_at place) seen → found ≡ None → IsKept (bytes_of outs) place [] (bytes_of outs)
none_kept_at outs seen place found see find_is at = kept_none outs place (rw see at (sym find_is ∙ at))

-- ## As the code reads

-- what is left of the place is what its entry has
pub read_at : (outs seen : List Owed) (place : Place) (i : ℕ) (d : Owed) (left : Bytes) → seen ≡ outs → position (is_at place) outs ≡ Some i → d ≡ get_or seen i d → left ≡ d.left → bytes_of outs place ≡ left
read_at outs seen place i d left see at is mine =
    left_found outs place i d at ∙ (ap (λ (l : List Owed). (get_or l i d).left) (sym see) ∙ (ap (λ (o : Owed). o.left) (sym is) ∙ sym mine))

-- where the place's number was looked up
pub read_found : (outs seen again : List Owed) (place : Place) (found : Option ℕ) (i : ℕ) (d : Owed) (left : Bytes) → seen ≡ outs → found ≡ position (is_at place) seen → found ≡ Some i → again ≡ outs → d ≡ get_or again i d → left ≡ d.left → bytes_of outs place ≡ left
read_found outs seen again place found i d left see find_is at same is mine = read_at outs again place i d left same (rw see at (sym find_is ∙ at)) is mine

pub read_none : (outs seen : List Owed) (place : Place) (found : Option ℕ) → seen ≡ outs → found ≡ position (is_at place) seen → found ≡ None → bytes_of outs place ≡ []
read_none outs seen place found see find_is none = left_none outs place (rw see at (sym find_is ∙ none))

-- the last byte was taken, and so the entry goes
pub removed_whole : (outs was now : List Owed) (place : Place) (i : ℕ) (count : ℕ) (left : Bytes) → Distinct outs → position (is_at place) outs ≡ Some i → bytes_of outs place ≡ left → count ≡ length left → was ≡ outs → now ≡ remove was i
    → IsKept (bytes_of outs) place (drop count (bytes_of outs place)) (bytes_of now)
removed_whole outs was now place i count left is at found all same e =
    rw (e, same, all, found, drop-length left) (removed_kept outs place i is at)

pub removed_distinct : (outs was now : List Owed) (place : Place) (i : ℕ) → Distinct outs → position (is_at place) outs ≡ Some i → was ≡ outs → now ≡ remove was i → Distinct now
removed_distinct outs was now place i is at same e = rw (e, same) (distinct_remove outs place i is at)

-- ## As the code takes from the front

pub within_at : (outs : List Owed) (place : Place) (i : ℕ) (d : Owed) (count : ℕ) → position (is_at place) outs ≡ Some i → count ≤ length (bytes_of outs place) → count ≤ length (get_or outs i d).left
within_at outs place i d count at is = subst (λ (left : Bytes). count ≤ length left) (left_found outs place i d at) is

pub took_kept : (outs : List Owed) (place : Place) (i : ℕ) (d now : Owed) (count : ℕ) → position (is_at place) outs ≡ Some i → now ≡ record (get_or outs i d) { left = drop count (get_or outs i d).left }
    → IsKept (bytes_of outs) place (drop count (bytes_of outs place)) (bytes_of (set outs i now))
took_kept outs place i d now count at made = rw (made, left_found outs place i d at) (changed_kept outs place (drop count (get_or outs i d).left) i d at)

pub took_distinct : (outs : List Owed) (place : Place) (i : ℕ) (d now : Owed) (count : ℕ) → Distinct outs → position (is_at place) outs ≡ Some i → now ≡ record (get_or outs i d) { left = drop count (get_or outs i d).left } → Distinct (set outs i now)
took_distinct outs place i d now count is at made = rw made (distinct_set outs place (drop count (get_or outs i d).left) i d is at)

-- ## Whether something is left

pub is_left : (bytes left : Bytes) (b : Bool) → bytes ≡ left → b ≡ (length left == 0) → not b ≡ not (length bytes == 0)
is_left bytes left b is empty = rw (is, empty) refl

none-by : {X : Type 0} (xs : List X) → (length xs == 0) ≡ true → xs ≡ []
none-by xs e = nil_from_length xs (grind (arith, nat_tests))

pub none_left : (bytes left : Bytes) (b : Bool) → bytes ≡ left → b ≡ (length left == 0) → not b ≡ false → bytes ≡ []
none_left bytes left true is empty none = is ∙ none-by left (sym empty)
none_left bytes left false is empty none = cc

pub not_left : (bytes : Bytes) → bytes ≡ [] → false ≡ not (length bytes == 0)
not_left bytes is = rw is refl

empty-by : (outs : List Owed) (place : Place) → outs ≡ [] → bytes_of outs place ≡ []
unfolding bytes_of bytes_in
empty-by outs place none = rw none refl

pub empty_where : (outs : List Owed) (place : Place) (b : Bool) → b ≡ (length outs == 0) → b ≡ true → bytes_of outs place ≡ []
empty_where outs place b is empty = empty-by outs place (none-by outs (sym is ∙ empty))
