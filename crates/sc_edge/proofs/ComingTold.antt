-- What the polls of an edge in memory told, and what their answers name.
use Rattle.std.proofs.Common.{◌≡◌, ℕ, ◌+◌, ◌<◌, ◌≤◌, Bool, true, false, ◌||◌, ◌==◌, cond, get_or, List, [], ◌∷◌, ◌++◌, length, take, refl, ap, sym, ◌∙◌, arith}
use Rattle.std.proofs.Math.ListN.{drop}
use Rattle.std.proofs.lemmas.List.{drop_more, drop_all, drop-append-le, take-take, take-append-le, length-take, length-drop}
use Rattle.std.proofs.lemmas.List.Sums.{sum_by-cons}
use Rattle.sc_edge.specs.Edges.{IsWithin, polled_of}
use Rattle.sc_edge.specs.EdgePlaces.{PlacesState, known_at}
use Rattle.sc_edge.specs.EdgeCalls.{is_end}
use Rattle.sc_edge.specs.EdgeComing.{ComingState, after_answer, next_answer, answer_of, is_last, count_of, counts, got_of, is_passed, answers_with_bytes as joined, left_of, less, live_from, rest_of, weights}
use Rattle.sc_edge.specs.declared.edge.Got.{Got}
use Rattle.sc_edge.specs.declared.edge.Got.TheVariants as got
use Rattle.sc_edge.specs.declared.edge.Polled.{Polled}
use Rattle.sc_edge.specs.declared.edge.Polled.TheVariants as polled
use Rattle.sc_edge.proofs.ComingFacts.{Live, bytes_spent, lighter, live, live_spent, skip_one, some_byte, stop_end, stop_here}

-- ## What was told

cut_again : (answer : Got) (room : List ℕ) → polled_of answer (take (count_of answer) room) ≡ polled_of answer room
cut_again (got.Bytes place count) room = ap (λ (bytes : List ℕ). polled.Bytes place bytes) (take-take count count room (omega arith))
cut_again (got.End place) room = refl
cut_again (got.Failed place) room = refl
cut_again got.Closed room = refl
cut_again got.NotYet room = refl
cut_again got.Fault room = refl

cut_front : (answer : Got) (bytes more : List ℕ) → count_of answer ≤ length bytes → polled_of answer (bytes ++ more) ≡ polled_of answer bytes
cut_front (got.Bytes place count) bytes more le = ap (λ (xs : List ℕ). polled.Bytes place xs) (take-append-le count bytes more le)
cut_front (got.End place) bytes more le = refl
cut_front (got.Failed place) bytes more le = refl
cut_front got.Closed bytes more le = refl
cut_front got.NotYet bytes more le = refl
cut_front got.Fault bytes more le = refl

joined_first : (answer : Got) (bytes room : List ℕ) → 0 ≡ length bytes → joined (answer ∷ []) (bytes ++ take (count_of answer) room) ≡ polled_of answer room ∷ []
joined_first answer [] room none = ap (λ (p : Polled). p ∷ []) (cut_again answer room)
joined_first answer (b ∷ bytes) room none = absurd (omega (arith, none))

-- one answer more
pub joined_push : (answers : List Got) (bytes room : List ℕ) (answer : Got) → counts answers ≡ length bytes
    → joined (answers ++ answer ∷ []) (bytes ++ take (count_of answer) room) ≡ joined answers bytes ++ polled_of answer room ∷ []
joined_push [] bytes room answer same = joined_first answer bytes room same
joined_push (first ∷ answers) bytes room answer same =
    let cons = sum_by-cons count_of first answers in
    let within : count_of first ≤ length bytes = omega (arith, same, cons) in
    let left = length-drop (count_of first) bytes in
    let later : counts answers ≡ length (drop (count_of first) bytes) = omega (arith, same, cons, left) in
    let rest : joined (answers ++ answer ∷ []) (drop (count_of first) (bytes ++ take (count_of answer) room)) ≡ joined answers (drop (count_of first) bytes) ++ polled_of answer room ∷ []
    = ap (joined (answers ++ answer ∷ [])) (drop-append-le (count_of first) bytes (take (count_of answer) room) within) ∙ joined_push answers (drop (count_of first) bytes) room answer later in
    ap (λ (p : Polled). p ∷ joined (answers ++ answer ∷ []) (drop (count_of first) (bytes ++ take (count_of answer) room))) (cut_front first bytes (take (count_of answer) room) within)
    ∙ ap (λ (ps : List Polled). polled_of first bytes ∷ ps) rest

pub is_end-got_of : (answer : Polled) → is_end (got_of answer) ≡ is_last answer
is_end-got_of (polled.Bytes place bytes) = refl
is_end-got_of (polled.End place) = refl
is_end-got_of (polled.Failed place) = refl
is_end-got_of polled.Closed = refl
is_end-got_of polled.NotYet = refl
is_end-got_of polled.Fault = refl

pub after_is : (places : PlacesState) (coming : ComingState) (room : ℕ) (left told : List Polled) (closed : Bool) → coming.is_closed ≡ false
    → left ≡ rest_of room (live_from places coming.left) → told ≡ coming.polled ++ answer_of room (live_from places coming.left) ∷ [] → closed ≡ is_last (answer_of room (live_from places coming.left))
    → (let after : ComingState = record { left = left; polled = told; is_closed = closed; spare = coming.spare } in after) ≡ after_answer places coming room
after_is places coming room left told closed going l t c = rw (going, l, t, c) refl

-- ## The room for the next answer

pub room_for_bytes : (places : PlacesState) (xs ys now : List Polled) (from next room used cap : ℕ) (answer : Got) → xs ≡ ys
    → now ≡ live_from places (left_of from (drop next xs)) → answer ≡ got_of (answer_of room now)
    → used + weights (left_of from (drop next ys)) ≤ cap → used + count_of answer ≤ cap
room_for_bytes places xs ys now from next room used cap answer same is got le =
    let spent = bytes_spent room (live_from places (left_of from (drop next ys))) in
    let lower = lighter places (left_of from (drop next ys)) in
    rw (got, is, same) (omega (arith, spent, lower, le))

pub room_after : (places : PlacesState) (xs ys now : List Polled) (from next from2 next2 room used cap used2 cap2 : ℕ) (answer : Got) → xs ≡ ys
    → now ≡ live_from places (left_of from (drop next xs)) → answer ≡ got_of (answer_of room now) → left_of from2 (drop next2 xs) ≡ rest_of room now
    → used + weights (left_of from (drop next ys)) ≤ cap → used2 ≡ used + count_of answer → cap ≤ cap2
    → used2 + weights (left_of from2 (drop next2 ys)) ≤ cap2
room_after places xs ys now from next from2 next2 room used cap used2 cap2 answer same is got rest le more caps =
    let spent = bytes_spent room (live_from places (left_of from (drop next ys))) in
    let lower = lighter places (left_of from (drop next ys)) in
    let left : left_of from2 (drop next2 ys) ≡ rest_of room (live_from places (left_of from (drop next ys))) = rw (← same) (rest ∙ ap (rest_of room) is) in
    let count : count_of answer ≡ count_of (got_of (answer_of room (live_from places (left_of from (drop next ys))))) = rw (got, is, same) refl in
    rw left (omega (arith, spent, lower, le, more, caps, count))

pub room_after_answer : (places : PlacesState) (xs ys now : List Polled) (from next from2 next2 room used cap used2 cap2 spare : ℕ) (answer : Got) (closed : Bool) → xs ≡ ys
    → now ≡ live_from places (left_of from (drop next xs)) → answer ≡ got_of (answer_of room now) → left_of from2 (drop next2 xs) ≡ rest_of room now
    → closed ≡ is_end answer → 0 < room
    → used + weights (left_of from (drop next ys)) + 1 + spare ≤ cap → used2 ≡ used + 1 → cap ≤ cap2 → closed ≡ false
    → used2 + weights (left_of from2 (drop next2 ys)) + 1 + spare ≤ cap2
room_after_answer places xs ys now from next from2 next2 room used cap used2 cap2 spare answer closed same is got rest ends some le more caps going =
    let left : left_of from2 (drop next2 ys) ≡ rest_of room (live_from places (left_of from (drop next ys))) = rw (← same) (rest ∙ ap (rest_of room) is) in
    let which : answer ≡ got_of (answer_of room (live_from places (left_of from (drop next ys)))) = rw (got, is, same) refl in
    let last : is_last (answer_of room (live_from places (left_of from (drop next ys)))) ≡ false
    = sym (is_end-got_of (answer_of room (live_from places (left_of from (drop next ys))))) ∙ (ap is_end (sym which) ∙ (sym ends ∙ going)) in
    let spent = live_spent places room (left_of from (drop next ys)) some last in
    rw left (omega (arith, spent, le, more, caps))

-- ## The loop that passes items over

pub item_at : (items : List Polled) (next : ℕ) (item : Polled) → next < length items → item ≡ get_or items next item → drop next items ≡ item ∷ drop (next + 1) items
item_at items next item below at = drop_more items next item below ∙ ap (λ (x : Polled). x ∷ drop (next + 1) items) (sym at)

pub skipped : (places : PlacesState) (items before : List Polled) (next from : ℕ) (item : Polled) → next < length items → item ≡ get_or items next item → is_passed places (less from item) ≡ true
    → live_from places (left_of from (drop next items)) ≡ live_from places before → live_from places (left_of 0 (drop (next + 1) items)) ≡ live_from places before
skipped places items before next from item below at passed done =
    sym (skip_one places items (drop (next + 1) items) next from item (item_at items next item below at) passed) ∙ done

pub stopped : (places : PlacesState) (items before : List Polled) (next from : ℕ) (item : Polled) → next < length items → item ≡ get_or items next item → is_passed places (less from item) ≡ false
    → live_from places (left_of from (drop next items)) ≡ live_from places before → left_of from (drop next items) ≡ live_from places before
stopped places items before next from item below at going done =
    stop_here places items (drop (next + 1) items) next from item (item_at items next item below at) going ∙ done

pub stopped_end : (places : PlacesState) (items before : List Polled) (next from : ℕ) → length items ≤ next
    → live_from places (left_of from (drop next items)) ≡ live_from places before → left_of from (drop next items) ≡ live_from places before
stopped_end places items before next from past done = stop_end places items next from (drop_all next items past) ∙ done

-- ## What the next answer names

-- the answer names no silent place
unfoldable pub NotSilent : PlacesState → Got → Type 0
NotSilent places (got.Bytes place count) = (known_at places place).is_silent ≡ false
NotSilent places (got.End place) = (known_at places place).is_silent ≡ false
NotSilent places (got.Failed place) = (known_at places place).is_silent ≡ false
NotSilent places got.Closed = Unit {0}
NotSilent places got.NotYet = Unit {0}
NotSilent places got.Fault = Unit {0}

first_test : (a b : Bool) → (a || b) ≡ false → a ≡ false
first_test true b e = cc
first_test false b e = refl

names_live : (places : PlacesState) (room : ℕ) (items : List Polled) → Live places items → NotSilent places (got_of (answer_of room items))
unfolding Live NotSilent
names_live places room [] is = tt
names_live places room (polled.Bytes place bytes ∷ items) is = first_test (known_at places place).is_silent (length bytes == 0) is
names_live places room (polled.End place ∷ items) is = is
names_live places room (polled.Failed place ∷ items) is = is
names_live places room (polled.Closed ∷ items) is = tt
names_live places room (polled.NotYet ∷ items) is = tt
names_live places room (polled.Fault ∷ items) is = tt

names_closed : (places : PlacesState) (answer : Polled) (closed : Bool) → NotSilent places (got_of answer) → NotSilent places (got_of (cond closed polled.Closed answer))
unfolding NotSilent
names_closed places answer true named = tt
names_closed places answer false named = named

pub next_names : (places : PlacesState) (coming : ComingState) (room : ℕ) → NotSilent places (got_of (next_answer places coming room))
next_names places coming room =
    names_closed places (answer_of room (live_from places coming.left)) coming.is_closed (names_live places room (live_from places coming.left) (live places coming.left))

within_live : (places : PlacesState) (room : ℕ) (items : List Polled) → 0 < room → Live places items → IsWithin (got_of (answer_of room items)) room
unfolding Live
within_live places room [] some is = tt
within_live places room (polled.Bytes place bytes ∷ items) some is =
    let len = length-take room bytes in
    let byte = some_byte (known_at places place).is_silent (length bytes) is in
    (omega (arith, some, byte, len), omega (arith, len))
within_live places room (polled.End place ∷ items) some is = tt
within_live places room (polled.Failed place ∷ items) some is = tt
within_live places room (polled.Closed ∷ items) some is = tt
within_live places room (polled.NotYet ∷ items) some is = tt
within_live places room (polled.Fault ∷ items) some is = tt

within_closed : (answer : Polled) (closed : Bool) (room : ℕ) → IsWithin (got_of answer) room → IsWithin (got_of (cond closed polled.Closed answer)) room
within_closed answer true room is = tt
within_closed answer false room is = is

pub next_within : (places : PlacesState) (coming : ComingState) (room : ℕ) → 0 < room → IsWithin (got_of (next_answer places coming room)) room
next_within places coming room some =
    within_closed (answer_of room (live_from places coming.left)) coming.is_closed room (within_live places room (live_from places coming.left) some (live places coming.left))

-- there is room for failures too
pub room_to_fail : (used left cap used2 cap2 spare : ℕ) → used + left + 1 + spare ≤ cap → used2 ≡ used + 1 → cap ≤ cap2 → used2 + spare ≤ cap2
room_to_fail used left cap used2 cap2 spare le more caps = omega arith
