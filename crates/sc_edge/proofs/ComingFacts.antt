-- What is left of a list of answers, and what was told.
use Rattle.std.proofs.Common.{◌≡◌, ℕ, ◌+◌, ◌<◌, ◌≤◌, Bool, true, false, ◌||◌, ◌==◌, cond, List, [], ◌∷◌, length, refl, ap, sym, ◌∙◌, arith}
use Rattle.std.proofs.Math.ListN.{drop}
use Rattle.std.proofs.lemmas.List.{drop-drop, length-take, length-drop}
use Rattle.std.proofs.lemmas.List.Sums.{sum_by-cons}
use Rattle.std.proofs.lemmas.Bool.Decides.{nat_tests}
use Rattle.sc_edge.specs.EdgePlaces.{PlacesState, known_at}
use Rattle.sc_edge.specs.EdgeComing.{answer_of, is_last, count_of, got_of, is_passed, left_of, less, live_from, rest_of, weight, weights}
use Rattle.sc_edge.specs.declared.edge.Polled.{Polled}
use Rattle.sc_edge.specs.declared.edge.Polled.TheVariants as polled

less-zero : (item : Polled) → less 0 item ≡ item
less-zero (polled.Bytes place bytes) = refl
less-zero (polled.End place) = refl
less-zero (polled.Failed place) = refl
less-zero polled.Closed = refl
less-zero polled.NotYet = refl
less-zero polled.Fault = refl

pub left_of_zero : (items : List Polled) → left_of 0 items ≡ items
left_of_zero [] = refl
left_of_zero (item ∷ items) = ap (λ (x : Polled). x ∷ items) (less-zero item)

-- some items further on
pub drop_steps : (items : List Polled) (next steps : ℕ) → drop (next + steps) items ≡ drop steps (drop next items)
drop_steps items next steps = sym (drop-drop steps next items)

-- ## Passing items over

passed_step : (places : PlacesState) (item : Polled) (items : List Polled) (b : Bool) → is_passed places item ≡ b → b ≡ true → live_from places (item ∷ items) ≡ live_from places items
unfolding live_from
passed_step places item items true is passed = rw is refl
passed_step places item items false is passed = cc

pub live_from_passed : (places : PlacesState) (item : Polled) (items : List Polled) → is_passed places item ≡ true → live_from places (item ∷ items) ≡ live_from places items
live_from_passed places item items passed = passed_step places item items (is_passed places item) refl passed

pub live_from_live : (places : PlacesState) (item : Polled) (items : List Polled) → is_passed places item ≡ false → live_from places (item ∷ items) ≡ item ∷ items
unfolding live_from
live_from_live places item items live = rw live refl

pub live_from_none : (places : PlacesState) → live_from places [] ≡ []
unfolding live_from
live_from_none places = refl

-- an item that is passed over
pub skip_one : (places : PlacesState) (items rest : List Polled) (next from : ℕ) (item : Polled) → drop next items ≡ item ∷ rest → is_passed places (less from item) ≡ true
    → live_from places (left_of from (drop next items)) ≡ live_from places (left_of 0 rest)
skip_one places items rest next from item at passed =
    ap (λ (xs : List Polled). live_from places (left_of from xs)) at
    ∙ (live_from_passed places (less from item) rest passed
    ∙ ap (live_from places) (sym (left_of_zero rest)))

-- an item that isn't
pub stop_here : (places : PlacesState) (items rest : List Polled) (next from : ℕ) (item : Polled) → drop next items ≡ item ∷ rest → is_passed places (less from item) ≡ false
    → left_of from (drop next items) ≡ live_from places (left_of from (drop next items))
stop_here places items rest next from item at live =
    let here : left_of from (drop next items) ≡ less from item ∷ rest = ap (left_of from) at in
    here ∙ (sym (live_from_live places (less from item) rest live) ∙ ap (live_from places) (sym here))

-- the end of the list
pub stop_end : (places : PlacesState) (items : List Polled) (next from : ℕ) → drop next items ≡ [] → left_of from (drop next items) ≡ live_from places (left_of from (drop next items))
stop_end places items next from at =
    let here : left_of from (drop next items) ≡ [] = ap (left_of from) at in
    here ∙ (sym (live_from_none places) ∙ ap (live_from places) (sym here))

-- ## The memory for answers

-- the first item isn't passed over
unfoldable pub Live : PlacesState → List Polled → Type 0
Live places [] = Unit {0}
Live places (item ∷ items) = is_passed places item ≡ false

live_step : (places : PlacesState) (item : Polled) (items : List Polled) (b : Bool) → is_passed places item ≡ b → Live places (live_from places items) → Live places (cond b (live_from places items) (item ∷ items))
unfolding Live
live_step places item items true is later = later
live_step places item items false is later = is

pub live : (places : PlacesState) (items : List Polled) → Live places (live_from places items)
unfolding live_from
live places [] = unfold Live in tt
live places (item ∷ items) = live_step places item items (is_passed places item) refl (live places items)

lighter_step : (item : Polled) (items later : List Polled) (b : Bool) → weights later ≤ weights items → weights (cond b later (item ∷ items)) ≤ weights (item ∷ items)
lighter_step item items later true le = let cons = sum_by-cons weight item items in omega (arith, le, cons)
lighter_step item items later false le = omega arith

-- passing over adds no answer
pub lighter : (places : PlacesState) (items : List Polled) → weights (live_from places items) ≤ weights items
unfolding live_from
lighter places [] = omega arith
lighter places (item ∷ items) = lighter_step item items (live_from places items) (is_passed places item) (lighter places items)

-- an answer has no more bytes than there is room for
pub answer_fits : (room : ℕ) (items : List Polled) → count_of (got_of (answer_of room items)) ≤ room
answer_fits room [] = omega arith
answer_fits room (polled.Bytes place bytes ∷ items) = let len = length-take room bytes in omega (arith, len)
answer_fits room (polled.End place ∷ items) = omega arith
answer_fits room (polled.Failed place ∷ items) = omega arith
answer_fits room (polled.Closed ∷ items) = omega arith
answer_fits room (polled.NotYet ∷ items) = omega arith
answer_fits room (polled.Fault ∷ items) = omega arith

-- its bytes come off what is left
pub bytes_spent : (room : ℕ) (items : List Polled) → weights (rest_of room items) + count_of (got_of (answer_of room items)) ≤ weights items
bytes_spent room [] = omega arith
bytes_spent room (polled.Bytes place bytes ∷ items) =
    let taken = length-take room bytes in
    let left = length-drop room bytes in
    let before = sum_by-cons weight (polled.Bytes place bytes) items in
    let after = sum_by-cons weight (polled.Bytes place (drop room bytes)) items in
    omega (arith, taken, left, before, after)
bytes_spent room (polled.End place ∷ items) = let before = sum_by-cons weight (polled.End place) items in omega (arith, before)
bytes_spent room (polled.Failed place ∷ items) = let before = sum_by-cons weight (polled.Failed place) items in omega (arith, before)
bytes_spent room (polled.Closed ∷ items) = let before = sum_by-cons weight polled.Closed items in omega (arith, before)
bytes_spent room (polled.NotYet ∷ items) = let before = sum_by-cons weight polled.NotYet items in omega (arith, before)
bytes_spent room (polled.Fault ∷ items) = let before = sum_by-cons weight polled.Fault items in omega (arith, before)

pub some_byte : (silent : Bool) (len : ℕ) → (silent || len == 0) ≡ false → 0 < len
some_byte true len e = cc
some_byte false len e = grind (arith, nat_tests)

-- the answer itself comes off, unless it is the last
answer_spent : (places : PlacesState) (room : ℕ) (items : List Polled) → 0 < room → Live places items → is_last (answer_of room items) ≡ false
    → weights (rest_of room items) + 1 ≤ weights items
unfolding Live
answer_spent places room [] some is going = cc
answer_spent places room (polled.Bytes place bytes ∷ items) some is going =
    let left = length-drop room bytes in
    let byte = some_byte (known_at places place).is_silent (length bytes) is in
    let before = sum_by-cons weight (polled.Bytes place bytes) items in
    let after = sum_by-cons weight (polled.Bytes place (drop room bytes)) items in
    omega (arith, some, byte, left, before, after)
answer_spent places room (polled.End place ∷ items) some is going = let before = sum_by-cons weight (polled.End place) items in omega (arith, before)
answer_spent places room (polled.Failed place ∷ items) some is going = let before = sum_by-cons weight (polled.Failed place) items in omega (arith, before)
answer_spent places room (polled.Closed ∷ items) some is going = cc
answer_spent places room (polled.NotYet ∷ items) some is going = let before = sum_by-cons weight polled.NotYet items in omega (arith, before)
answer_spent places room (polled.Fault ∷ items) some is going = let before = sum_by-cons weight polled.Fault items in omega (arith, before)

pub live_spent : (places : PlacesState) (room : ℕ) (items : List Polled) → 0 < room → is_last (answer_of room (live_from places items)) ≡ false
    → weights (rest_of room (live_from places items)) + 1 ≤ weights items
live_spent places room items some going =
    let spent = answer_spent places room (live_from places items) some (live places items) going in
    let less = lighter places items in
    omega (arith, spent, less)
