-- What is kept of a place, after something became of it or of another.
use Rattle.std.proofs.Common.{◌≡◌, Bool, true, false, not, cond, Option, Some, None, List, [], ◌∷◌, ◌++◌, refl, ap, sym, ◌∙◌, subst}
use Rattle.std.specs.Prelude.{filter}
use Rattle.std.specs.List.{find}
use Rattle.std.specs.Option.{option_map, option_or}
use Rattle.std.proofs.lemmas.List.Folds.{find-append}
use Rattle.sc_value.specs.declared.ids.Place.{Place}
use Rattle.sc_value.specs.Lists.{change_first}
use Rattle.sc_value.specs.Places.{same_place}
use Rattle.sc_value.proofs.PlaceLaws.{same_place-is, same_place-self}
use Rattle.sc_sockets.specs.Lines.{after, is_of, is_other, lines_with as settled}
use Rattle.sc_sockets.specs.declared.line.Change.{Change}
use Rattle.sc_sockets.specs.declared.line.Change.TheVariants.{Halted, Part, Pardoned, Reopened}
use Rattle.sc_sockets.specs.declared.line.Line.{Line}

-- a change leaves the place of a connection
same_kind : (change : Change) (place : Place) (line : Line) → is_of place (after change line) ≡ is_of place line
same_kind Halted place line = refl
same_kind Pardoned place line = refl
same_kind Reopened place line = refl
same_kind (Part count len) place line = refl

-- ## The place itself

changed_step : (change : Change) (place : Place) (line : Line) (lines : List Line) (b : Bool) → is_of place line ≡ b
    → find (is_of place) (change_first (is_of place) (after change) lines) ≡ option_map (after change) (find (is_of place) lines)
    → find (is_of place) (cond b (after change line ∷ lines) (line ∷ change_first (is_of place) (after change) lines)) ≡ option_map (after change) (cond b (Some line) (find (is_of place) lines))
changed_step change place line lines true is later = rw (same_kind change place line, is) refl
changed_step change place line lines false is later = rw is later

find_changed : (change : Change) (place : Place) (lines : List Line) → find (is_of place) (change_first (is_of place) (after change) lines) ≡ option_map (after change) (find (is_of place) lines)
unfolding change_first
find_changed change place [] = refl
find_changed change place (line ∷ lines) = changed_step change place line lines (is_of place line) refl (find_changed change place lines)

gone_step : (place : Place) (line : Line) (lines : List Line) (b : Bool) → is_of place line ≡ b → find (is_of place) (filter (is_other place) lines) ≡ None
    → find (is_of place) (cond (not b) (line ∷ filter (is_other place) lines) (filter (is_other place) lines)) ≡ None
gone_step place line lines true is later = later
gone_step place line lines false is later = rw is later

find_gone : (place : Place) (lines : List Line) → find (is_of place) (filter (is_other place) lines) ≡ None
unfolding is_other
find_gone place [] = refl
find_gone place (line ∷ lines) = gone_step place line lines (is_of place line) refl (find_gone place lines)

-- what is known of a place after it was settled
abbrev pub line_after : Bool → Change → Option Line → Option Line
line_after true change line = option_map (after change) line
line_after false change line = None

pub settled_self : (is_kept : Bool) (change : Change) (place : Place) (lines : List Line)
    → find (is_of place) (settled is_kept change place lines) ≡ line_after is_kept change (find (is_of place) lines)
unfolding settled
settled_self true change place lines = find_changed change place lines
settled_self false change place lines = find_gone place lines

-- ## Other places

apart : (a b : Place) (line : Line) → same_place a b ≡ false → is_of a line ≡ true → is_of b line ≡ false
apart a b line other is = subst (λ (p : Place). same_place p b ≡ false) (sym (same_place-is line.place a is)) other

other_step : (change : Change) (place other : Place) (line : Line) (lines : List Line) (b : Bool) → is_of place line ≡ b → same_place place other ≡ false
    → find (is_of other) (change_first (is_of place) (after change) lines) ≡ find (is_of other) lines
    → find (is_of other) (cond b (after change line ∷ lines) (line ∷ change_first (is_of place) (after change) lines)) ≡ find (is_of other) (line ∷ lines)
other_step change place other line lines true is apart_from later =
    rw (same_kind change other line, apart place other line apart_from is) refl
other_step change place other line lines false is apart_from later = ap (λ (found : Option Line). cond (is_of other line) (Some line) found) later

other_changed : (change : Change) (place other : Place) (lines : List Line) → same_place place other ≡ false
    → find (is_of other) (change_first (is_of place) (after change) lines) ≡ find (is_of other) lines
unfolding change_first
other_changed change place other [] apart_from = refl
other_changed change place other (line ∷ lines) apart_from =
    other_step change place other line lines (is_of place line) refl apart_from (other_changed change place other lines apart_from)

kept_step : (place other : Place) (line : Line) (lines : List Line) (b : Bool) → is_of place line ≡ b → same_place place other ≡ false
    → find (is_of other) (filter (is_other place) lines) ≡ find (is_of other) lines
    → find (is_of other) (cond (not b) (line ∷ filter (is_other place) lines) (filter (is_other place) lines)) ≡ find (is_of other) (line ∷ lines)
kept_step place other line lines true is apart_from later = rw (apart place other line apart_from is) later
kept_step place other line lines false is apart_from later = ap (λ (found : Option Line). cond (is_of other line) (Some line) found) later

other_gone : (place other : Place) (lines : List Line) → same_place place other ≡ false → find (is_of other) (filter (is_other place) lines) ≡ find (is_of other) lines
unfolding is_other
other_gone place other [] apart_from = refl
other_gone place other (line ∷ lines) apart_from =
    kept_step place other line lines (is_of place line) refl apart_from (other_gone place other lines apart_from)

pub settled_other : (is_kept : Bool) (change : Change) (place other : Place) (lines : List Line) → same_place place other ≡ false
    → find (is_of other) (settled is_kept change place lines) ≡ find (is_of other) lines
unfolding settled
settled_other true change place other lines apart_from = other_changed change place other lines apart_from
settled_other false change place other lines apart_from = other_gone place other lines apart_from

-- ## One more connection

or_none : (found : Option Line) → option_or found None ≡ found
or_none None = refl
or_none (Some line) = refl

-- another place is found as before
pub added_other : (place : Place) (line : Line) (lines : List Line) → same_place line.place place ≡ false → find (is_of place) (lines ++ line ∷ []) ≡ find (is_of place) lines
added_other place line lines other = rw (find-append (is_of place) lines (line ∷ []), other) (or_none (find (is_of place) lines))

-- the place itself, where none was found
pub added_self : (line : Line) (lines : List Line) → find (is_of line.place) lines ≡ None → find (is_of line.place) (lines ++ line ∷ []) ≡ Some line
added_self line lines e =
    find-append (is_of line.place) lines (line ∷ [])
    ∙ (ap (λ (found : Option Line). option_or found (cond (same_place line.place line.place) (Some line) None)) e
    ∙ ap (λ (b : Bool). option_or None (cond b (Some line) None)) (same_place-self line.place))
