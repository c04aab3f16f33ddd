-- An edge in memory keeps what every edge promises.
use Rattle.std.proofs.Common.{◌≡◌, ℕ, ◌+◌, ◌<◌, ◌≤◌, inl, inr, Bool, true, false, cond, ◌||◌, nat_eq, Some, List, [], ◌∷◌, ◌++◌, refl, ap, sym, ◌∙◌, arith}
use Rattle.std.proofs.lemmas.Bool.Decides.{nat_tests}
use Rattle.sc_value.specs.declared.ids.Place.{Place}
use Rattle.sc_edge.proofs.ComingTold.{NotSilent, is_end-got_of, next_names, next_within}
use Rattle.sc_edge.proofs.PlaceGrowth.{Grows, grows_all, grows_same, now_barred, now_faults, now_silent, place_known}
use Rattle.sc_edge.specs.EdgeCalls.{Answers, Appends, Ends, Names, PollBlames, is_end}
use Rattle.sc_edge.specs.EdgeComing.{ComingState, after_answer, answer_of, got_of, live_from, next_answer}
use Rattle.sc_edge.specs.EdgeMemory.{MemoryState, after_poll, edge_state, faults_after, next_got, places_after, told_coming}
use Rattle.sc_edge.specs.EdgePlaces.{PlacesState, as_ended as ended, as_failed as failed, known_at, as_shut as shut, with_known}
use Rattle.sc_edge.specs.Edges.{CountsOn, IsWithin, Stands, Stays, is_back, polled_of}
use Rattle.sc_edge.specs.Faults.{Rose, risen}
use Rattle.sc_edge.specs.declared.edge.Got.{Got}
use Rattle.sc_edge.specs.declared.edge.Got.TheVariants as got
use Rattle.sc_edge.specs.declared.edge.Polled.{Polled}
use Rattle.sc_edge.specs.declared.mem_places.Known.{Known}

rises_by : (n : ℕ) (b : Bool) → nat_eq n 18446744073709551615 ≡ b → Rose n (cond b n (n + 1))
rises_by n true e = inr (grind (arith, nat_tests))
rises_by n false e = inl (omega arith)

pub rises : (n : ℕ) → Rose n (risen n)
rises n = rises_by n (nat_eq n 18446744073709551615) refl

grew_by : (n : ℕ) (b : Bool) → n ≤ cond b n (n + 1)
grew_by n true = omega arith
grew_by n false = omega arith

pub grew : (n : ℕ) → n ≤ risen n
grew n = grew_by n (nat_eq n 18446744073709551615)

either_first : (a b : Bool) → a ≡ true → (a || b) ≡ true
either_first a b e = rw e refl

pub or_true : (a : Bool) → (a || true) ≡ true
or_true true = refl
or_true false = refl

pub not_both : (b : Bool) → b ≡ false → b ≡ true → ⊥
not_both true isnt is = cc
not_both false isnt is = cc

-- ## What is noted of a place

grows_ended : (known : Known) → Grows known (ended known)
grows_ended known = ((λ s. refl), (λ s b. either_first known.is_barred _ b), refl, omega arith)

grows_failed : (known : Known) → known.is_silent ≡ false → Grows known (failed known)
grows_failed known e = ((λ s. refl), (λ s b. absurd (not_both known.is_silent e s)), refl, grew known.faults)

three_first : (a b c : Bool) → a ≡ true → (a || b || c) ≡ true
three_first a b c e = rw e refl

pub three_second : (a b c : Bool) → b ≡ true → (a || b || c) ≡ true
three_second true b c e = refl
three_second false b c e = rw e refl

pub three_third : (a b c : Bool) → c ≡ true → (a || b || c) ≡ true
three_third true b c e = refl
three_third false true c e = refl
three_third false false c e = e

pub grows_shut : (known : Known) → Grows known (shut known)
grows_shut known = ((λ s. refl), (λ s b. three_first known.is_barred (is_back known.place) known.is_cut b), refl, omega arith)

-- ## Polls

places_grow : (places : PlacesState) (answer : Got) (other : Place) → NotSilent places answer → Grows (known_at places other) (known_at (places_after places answer) other)
unfolding NotSilent
places_grow places (got.Bytes place count) other named = grows_same (known_at places other)
places_grow places (got.End place) other named = grows_all places place other (ended (known_at places place)) (place_known places place) (grows_ended (known_at places place))
places_grow places (got.Failed place) other named = grows_all places place other (failed (known_at places place)) (place_known places place) (grows_failed (known_at places place) named)
places_grow places got.Closed other named = grows_same (known_at places other)
places_grow places got.NotYet other named = grows_same (known_at places other)
places_grow places got.Fault other named = grows_same (known_at places other)

next_grow : (edge : MemoryState) (room : ℕ) (other : Place) → Grows (known_at edge.places other) (known_at (places_after edge.places (next_got edge room)) other)
next_grow edge room other = places_grow edge.places (next_got edge room) other (next_names edge.places edge.coming room)

faults_grow : (faults : ℕ) (answer : Got) → faults ≤ faults_after faults answer
faults_grow faults (got.Bytes place count) = omega arith
faults_grow faults (got.End place) = omega arith
faults_grow faults (got.Failed place) = omega arith
faults_grow faults got.Closed = omega arith
faults_grow faults got.NotYet = omega arith
faults_grow faults got.Fault = grew faults

pub poll_later : (edge : MemoryState) (room : ℕ) → CountsOn (edge_state edge) (edge_state (after_poll edge room))
poll_later edge room = (faults_grow edge.faults (next_got edge room), λ place. (next_grow edge room place).3)

pub poll_stays : (edge : MemoryState) (room : ℕ) (place : Place) → Stays (edge_state edge) (edge_state (after_poll edge room)) place
poll_stays edge room place = λ s. ((next_grow edge room place).0 s, (next_grow edge room place).1 s)

pub poll_stands : (edge : MemoryState) (room : ℕ) (place : Place) → Stands (edge_state edge) (edge_state (after_poll edge room)) place
poll_stands edge room place = (refl, λ peer. (next_grow edge room place).2)

blames : (old new : MemoryState) (answer : Got) → new.faults ≡ faults_after old.faults answer → new.places ≡ places_after old.places answer → PollBlames (edge_state old) (edge_state new) answer
blames old new (got.Bytes place count) f p = tt
blames old new (got.End place) f p = tt
blames old new (got.Failed place) f p =
    rw (p, now_faults old.places place (failed (known_at old.places place)) (place_known old.places place)) (rises (known_at old.places place).faults)
blames old new got.Closed f p = tt
blames old new got.NotYet f p = tt
blames old new got.Fault f p = rw f (rises old.faults)

pub poll_blames : (edge : MemoryState) (room : ℕ) → PollBlames (edge_state edge) (edge_state (after_poll edge room)) (next_got edge room)
poll_blames edge room = blames edge (after_poll edge room) (next_got edge room) refl refl

ended_barred : (known : Known) (place : Place) → known.place ≡ place → is_back place ≡ false → known.is_cut ≡ true → (ended known).is_barred ≡ true
ended_barred known place e peer cut = rw (e, peer, cut) (or_true known.is_barred)

halts : (places : PlacesState) (place : Place) → (known_at (with_known places (ended (known_at places place))) place).is_silent ≡ true
halts places place = now_silent places place (ended (known_at places place)) (place_known places place) refl

names : (old new : MemoryState) (answer : Got) → new.places ≡ places_after old.places answer → NotSilent old.places answer → Names (edge_state old) (edge_state new) answer
unfolding NotSilent
names old new (got.Bytes place count) p named = named
names old new (got.End place) p named = (
  named,
  (
    rw p (halts old.places place),
    λ peer cut. rw p (now_barred old.places place (ended (known_at old.places place)) (place_known old.places place) (ended_barred (known_at old.places place) place (place_known old.places place) peer cut)),
  ),
)
names old new (got.Failed place) p named = (
  named,
  (
    rw p (now_silent old.places place (failed (known_at old.places place)) (place_known old.places place) refl),
    λ peer. rw p (now_barred old.places place (failed (known_at old.places place)) (place_known old.places place) (ap is_back (place_known old.places place) ∙ peer)),
  ),
)
names old new got.Closed p named = tt
names old new got.NotYet p named = tt
names old new got.Fault p named = tt

pub poll_names : (edge : MemoryState) (room : ℕ) → Names (edge_state edge) (edge_state (after_poll edge room)) (next_got edge room)
poll_names edge room = names edge (after_poll edge room) (next_got edge room) refl (next_names edge.places edge.coming room)

told_next : (places : PlacesState) (coming : ComingState) (room : ℕ) → coming.is_closed ≡ false → (after_answer places coming room).polled ≡ coming.polled ++ next_answer places coming room ∷ []
told_next places coming room e = rw e refl

told_no_more : (places : PlacesState) (coming : ComingState) (room : ℕ) → coming.is_closed ≡ true → (after_answer places coming room).polled ≡ coming.polled
told_no_more places coming room e = rw e refl

appends : (tells : Bool) (old new : List Polled) (answer : Polled) → new ≡ old ++ answer ∷ [] → Appends (told_coming tells old) (told_coming tells new) answer
unfolding told_coming
appends true old new answer e = ap (λ (xs : List Polled). Some xs) e
appends false old new answer e = refl

pub poll_told : (edge : MemoryState) (room : ℕ) (bytes : List ℕ) → polled_of (next_got edge room) bytes ≡ next_answer edge.places edge.coming room
    → Answers (edge_state edge) (edge_state (after_poll edge room)) (next_got edge room) bytes
poll_told edge room bytes same = (
  (λ going. appends edge.tells edge.coming.polled (after_answer edge.places edge.coming room).polled (polled_of (next_got edge room) bytes) (told_next edge.places edge.coming room going ∙ ap (λ (x : Polled). edge.coming.polled ++ x ∷ []) (sym same))),
  (λ closed. ap (told_coming edge.tells) (told_no_more edge.places edge.coming room closed)),
)

closes_by : (places : PlacesState) (coming : ComingState) (room : ℕ) (b : Bool) → coming.is_closed ≡ b → (after_answer places coming room).is_closed ≡ is_end (got_of (next_answer places coming room))
closes_by places coming room true e = rw e refl
closes_by places coming room false e = rw e (sym (is_end-got_of (answer_of room (live_from places coming.left))))

stays_closed : (places : PlacesState) (coming : ComingState) (room : ℕ) → coming.is_closed ≡ true → got_of (next_answer places coming room) ≡ got.Closed
stays_closed places coming room e = rw e refl

pub poll_ends : (edge : MemoryState) (room : ℕ) → Ends (edge_state edge) (edge_state (after_poll edge room)) (next_got edge room)
poll_ends edge room =
    ((λ e. stays_closed edge.places edge.coming room e), closes_by edge.places edge.coming room edge.coming.is_closed refl)

pub poll_within : (edge : MemoryState) (room : ℕ) → 0 < room → IsWithin (next_got edge room) room
poll_within edge room some = next_within edge.places edge.coming room some
