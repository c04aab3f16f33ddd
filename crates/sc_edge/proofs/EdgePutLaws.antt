-- The puts and closes of an edge in memory keep what every edge promises.
use Rattle.std.proofs.Common.{◌≡◌, ℕ, ◌-◌, ◌≤◌, inl, inr, Bool, true, false, cond, ◌||◌, ◌&&◌, nat_lt, Option, Some, None, List, [], ◌∷◌, ◌++◌, length, take, refl, ap, ◌∙◌, arith, append-nil}
use Rattle.std.proofs.lemmas.Grind.{flat_map-append}
use Rattle.sc_value.specs.declared.ids.Place.{Place}
use Rattle.sc_value.specs.Places.{same_place}
use Rattle.sc_value.proofs.PlaceLaws.{same_place-self}
use Rattle.sc_edge.proofs.EdgeLaws.{grew, grows_shut, or_true, rises, three_second, three_third}
use Rattle.sc_edge.proofs.PlaceGrowth.{Grows, counts_all, grows_all, grows_other, grows_same, now_barred, now_cut, now_faults, now_new_cut, now_silent, place_known}
use Rattle.sc_edge.specs.EdgeCalls.{IsNoPoll, IsPart, Leaves, PutTells, Shuts, Took, cut_after}
use Rattle.sc_edge.specs.EdgeMemory.{IsPut, MemoryState, after_close, after_put, closes_after, coming_put, edge_state, next_put, places_put, put_share, share_at, taken_put, tells_put, told_coming}
use Rattle.sc_edge.specs.EdgeComing.{ComingState, failed_put}
use Rattle.sc_edge.specs.declared.edge.Polled.{Polled}
use Rattle.sc_edge.specs.declared.edge.Polled.TheVariants as polled
use Rattle.sc_edge.specs.EdgePlaces.{PlacesState, as_failed as failed, known_at, as_served as served, as_shut as shut, with_known}
use Rattle.sc_edge.specs.EdgeTaken.{byte_for, kept_of, bytes_of_place as tagged}
use Rattle.sc_edge.specs.Edges.{CountsOn, Stands, Stays, is_back}
use Rattle.sc_edge.specs.Faults.{is_listed, one_more}
use Rattle.sc_edge.specs.Telling.{Notes}
use Rattle.sc_edge.specs.declared.edge.Closing.{Closing}
use Rattle.sc_edge.specs.declared.edge.Put.{Put}
use Rattle.sc_edge.specs.declared.edge.Put.TheVariants as put
use Rattle.sc_edge.specs.declared.mem_places.Known.{Known}
use Rattle.sc_edge.specs.declared.mem_taken.Kept.{Kept}

-- ## Bytes that were taken

own_bytes : (place : Place) (bytes : List ℕ) → kept_of place (tagged place bytes) ≡ bytes
own_bytes place [] = refl
own_bytes place (b ∷ bytes) = rw (same_place-self place) (ap (λ (bs : List ℕ). b ∷ bs) (own_bytes place bytes))

other_bytes : (place other : Place) (bytes : List ℕ) → same_place place other ≡ false → kept_of other (tagged place bytes) ≡ []
other_bytes place other [] e = refl
other_bytes place other (b ∷ bytes) e = rw e (other_bytes place other bytes e)

kept_more : (place : Place) (kept : List Kept) (bytes : List ℕ) → kept_of place (kept ++ tagged place bytes) ≡ kept_of place kept ++ bytes
kept_more place kept bytes = flat_map-append (byte_for place) kept (tagged place bytes) ∙ ap (λ (bs : List ℕ). kept_of place kept ++ bs) (own_bytes place bytes)

kept_same : (place other : Place) (kept : List Kept) (bytes : List ℕ) → same_place place other ≡ false → kept_of other (kept ++ tagged place bytes) ≡ kept_of other kept
kept_same place other kept bytes e =
    flat_map-append (byte_for other) kept (tagged place bytes)
    ∙ (ap (λ (bs : List ℕ). kept_of other kept ++ bs) (other_bytes place other bytes e) ∙ append-nil (kept_of other kept))

-- ## Puts

pub part_of : (answer : Put) (len left : ℕ) → IsPut answer len left → IsPart answer len
part_of (put.Wrote count) len left fits = (fits.0, fits.2)
part_of put.NotYet len left fits = tt
part_of put.Failed len left fits = tt

counts_put : (places : PlacesState) (to other : Place) (answer : Put) (len : ℕ) → (known_at places other).faults ≤ (known_at (places_put places (known_at places to) answer len) other).faults
counts_put places to other (put.Wrote count) len = counts_all places to other (served (known_at places to) count len) (place_known places to) (omega arith)
counts_put places to other put.NotYet len = omega arith
counts_put places to other put.Failed len = counts_all places to other (failed (known_at places to)) (place_known places to) (grew (known_at places to).faults)

pub put_later : (edge : MemoryState) (to : Place) (bytes : List ℕ) → CountsOn (edge_state edge) (edge_state (after_put edge to bytes))
put_later edge to bytes = (omega arith, λ other. counts_put edge.places to other (next_put edge to (length bytes)) (length bytes))

barred_by : (planned barred : Bool) (other : Put) → barred ≡ true → cond (planned || barred) put.Failed other ≡ put.Failed
barred_by planned barred other e = rw (e, or_true planned) refl

pub put_barred : (edge : MemoryState) (to : Place) (bytes : List ℕ) → (edge_state edge).is_barred to ≡ true → next_put edge to (length bytes) ≡ put.Failed
put_barred edge to bytes e = barred_by (is_listed edge.failing (one_more edge.puts)) (known_at edge.places to).is_barred (put_share (share_at edge.shares edge.puts) (edge.taken.room - length edge.taken.kept) (length bytes)) e

wrote_step : (planned barred : Bool) (other : Put) (count : ℕ) → cond (planned || barred) put.Failed other ≡ put.Wrote count → barred ≡ false
wrote_step true barred other count e = cc
wrote_step false true other count e = cc
wrote_step false false other count e = refl

wrote_open : (edge : MemoryState) (to : Place) (len count : ℕ) → next_put edge to len ≡ put.Wrote count → (known_at edge.places to).is_barred ≡ false
wrote_open edge to len count e = wrote_step (is_listed edge.failing (one_more edge.puts)) (known_at edge.places to).is_barred (put_share (share_at edge.shares edge.puts) (edge.taken.room - length edge.taken.kept) len) count e

took_by : (edge new : MemoryState) (to : Place) (bytes : List ℕ) (answer : Put) → new.taken ≡ taken_put edge.taken to bytes answer → Took (edge_state edge) (edge_state new) to bytes answer
took_by edge new to bytes (put.Wrote count) e = rw e (ap (λ (bs : List ℕ). Some bs) (kept_more to edge.taken.kept (take count bytes)))
took_by edge new to bytes put.NotYet e = rw e refl
took_by edge new to bytes put.Failed e = rw e refl

pub put_took : (edge : MemoryState) (to : Place) (bytes : List ℕ) → Took (edge_state edge) (edge_state (after_put edge to bytes)) to bytes (next_put edge to (length bytes))
put_took edge to bytes = took_by edge (after_put edge to bytes) to bytes (next_put edge to (length bytes)) refl

cut_by : (places : PlacesState) (to : Place) (answer : Put) (len : ℕ) → ((count : ℕ) → answer ≡ put.Wrote count → (known_at places to).is_barred ≡ false)
    → (known_at (places_put places (known_at places to) answer len) to).is_cut ≡ cut_after (known_at places to).is_cut answer len
cut_by places to (put.Wrote count) len going = now_new_cut places to (served (known_at places to) count len) (place_known places to) (going count refl)
cut_by places to put.NotYet len going = refl
cut_by places to put.Failed len going = now_cut places to (failed (known_at places to)) (place_known places to) refl

pub put_cut : (edge : MemoryState) (to : Place) (bytes : List ℕ)
    → (edge_state (after_put edge to bytes)).is_cut to ≡ cut_after ((edge_state edge).is_cut to) (next_put edge to (length bytes)) (length bytes)
put_cut edge to bytes = cut_by edge.places to (next_put edge to (length bytes)) (length bytes) (λ count e. wrote_open edge to (length bytes) count e)

served_silent : (known : Known) (place : Place) (count len : ℕ) → known.place ≡ place → is_back place ≡ true → known.is_silent ≡ true → (served known count len).is_silent ≡ true
served_silent known place count len e peer silent = rw (e, peer, silent) refl

leaves_by : (edge new : MemoryState) (to : Place) (answer : Put) (len : ℕ) → new.places ≡ places_put edge.places (known_at edge.places to) answer len → Leaves (edge_state edge) (edge_state new) to answer
leaves_by edge new to (put.Wrote count) len e =
    λ peer silent. rw e (now_silent edge.places to (served (known_at edge.places to) count len) (place_known edge.places to) (served_silent (known_at edge.places to) to count len (place_known edge.places to) peer silent))
leaves_by edge new to put.NotYet len e = λ peer silent. rw e silent
leaves_by edge new to put.Failed len e = (
  (
    rw e (now_silent edge.places to (failed (known_at edge.places to)) (place_known edge.places to) refl),
    λ peer. rw e (now_barred edge.places to (failed (known_at edge.places to)) (place_known edge.places to) (ap is_back (place_known edge.places to) ∙ peer)),
  ),
  rw (e, now_faults edge.places to (failed (known_at edge.places to)) (place_known edge.places to)) (rises (known_at edge.places to).faults),
)

pub put_leaves : (edge : MemoryState) (to : Place) (bytes : List ℕ) → Leaves (edge_state edge) (edge_state (after_put edge to bytes)) to (next_put edge to (length bytes))
put_leaves edge to bytes = leaves_by edge (after_put edge to bytes) to (next_put edge to (length bytes)) (length bytes) refl

others_put : (places : PlacesState) (to other : Place) (answer : Put) (len : ℕ) → same_place to other ≡ false → Grows (known_at places other) (known_at (places_put places (known_at places to) answer len) other)
others_put places to other (put.Wrote count) len apart = grows_other places to other (served (known_at places to) count len) (place_known places to) (omega arith) apart
others_put places to other put.NotYet len apart = grows_same (known_at places other)
others_put places to other put.Failed len apart = grows_other places to other (failed (known_at places to)) (place_known places to) (grew (known_at places to).faults) apart

pub put_stays : (edge : MemoryState) (to : Place) (bytes : List ℕ) (other : Place) → same_place to other ≡ false → Stays (edge_state edge) (edge_state (after_put edge to bytes)) other
put_stays edge to bytes other apart =
    λ s. ((others_put edge.places to other (next_put edge to (length bytes)) (length bytes) apart).0 s, (others_put edge.places to other (next_put edge to (length bytes)) (length bytes) apart).1 s)

kept_by : (edge new : MemoryState) (to other : Place) (bytes : List ℕ) (answer : Put) → new.taken ≡ taken_put edge.taken to bytes answer → same_place to other ≡ false → kept_of other new.taken.kept ≡ kept_of other edge.taken.kept
kept_by edge new to other bytes (put.Wrote count) e apart = rw e (kept_same to other edge.taken.kept (take count bytes) apart)
kept_by edge new to other bytes put.NotYet e apart = rw e refl
kept_by edge new to other bytes put.Failed e apart = rw e refl

pub put_stands : (edge : MemoryState) (to : Place) (bytes : List ℕ) (other : Place) → same_place to other ≡ false → Stands (edge_state edge) (edge_state (after_put edge to bytes)) other
put_stands edge to bytes other apart = (
  ap (λ (bs : List ℕ). Some bs) (kept_by edge (after_put edge to bytes) to other bytes (next_put edge to (length bytes)) refl apart),
  λ peer. (others_put edge.places to other (next_put edge to (length bytes)) (length bytes) apart).2,
)

-- ## Closes

close_grows : (edge : MemoryState) (at other : Place) → Grows (known_at edge.places other) (known_at (with_known edge.places (shut (known_at edge.places at))) other)
close_grows edge at other = grows_all edge.places at other (shut (known_at edge.places at)) (place_known edge.places at) (grows_shut (known_at edge.places at))

pub close_later : (edge : MemoryState) (at : Place) → CountsOn (edge_state edge) (edge_state (after_close edge at))
close_later edge at = (omega arith, λ other. (close_grows edge at other).3)

pub close_stays : (edge : MemoryState) (at other : Place) → Stays (edge_state edge) (edge_state (after_close edge at)) other
close_stays edge at other = λ s. ((close_grows edge at other).0 s, (close_grows edge at other).1 s)

pub close_stands : (edge : MemoryState) (at other : Place) → Stands (edge_state edge) (edge_state (after_close edge at)) other
close_stands edge at other = (refl, λ peer. (close_grows edge at other).2)

pub close_shuts : (edge : MemoryState) (at : Place) → Shuts (edge_state edge) (edge_state (after_close edge at)) at
close_shuts edge at =
    let known = known_at edge.places at in
    let same = place_known edge.places at in (
      (
        now_silent edge.places at (shut known) same refl,
        λ peer cut. now_barred edge.places at (shut known) same (three_third known.is_barred (is_back known.place) known.is_cut cut),
      ),
      λ peer. now_barred edge.places at (shut known) same (three_second known.is_barred (is_back known.place) known.is_cut (ap is_back same ∙ peer)),
    )

notes_by : (closes : List Closing) (closing : Closing) (has_room : Bool) → Notes (Some closes) (cond has_room (Some (closes ++ closing ∷ [])) None) closing
notes_by closes closing true = inl refl
notes_by closes closing false = inr refl

notes : (closes : Option (List Closing)) (room : ℕ) (closing : Closing) → Notes closes (closes_after closes room closing) closing
notes None room closing = refl
notes (Some closes) room closing = notes_by closes closing (nat_lt (length closes) room)

pub close_notes : (edge : MemoryState) (at : Place) → Notes (edge_state edge).closes (edge_state (after_close edge at)).closes (record { place = at; polls = edge.polls })
close_notes edge at = notes edge.closes edge.room (record { place = at; polls = edge.polls })

-- the two changes of a close
pub closed_is : (edge : MemoryState) (at : Place) (places : PlacesState) (closes : Option (List Closing)) → places ≡ with_known edge.places (shut (known_at edge.places at))
    → closes ≡ closes_after edge.closes edge.room (record { place = at; polls = edge.polls }) → (let new : MemoryState = record edge { places = places; closes = closes } in new) ≡ after_close edge at
closed_is edge at places closes p c = rw (p, c) refl

-- ## What is told of a put

failed_told : (tells b : Bool) (came : List Polled) (to : Place) → Notes (told_coming tells came) (told_coming (tells && b) (cond b (came ++ polled.Failed to ∷ []) came)) (polled.Failed to)
unfolding told_coming
failed_told true true came to = inl refl
failed_told true false came to = inr refl
failed_told false b came to = refl

spare_put : (coming : ComingState) (to : Place) (b : Bool) → (cond b (failed_put coming to) coming).polled ≡ cond b (coming.polled ++ polled.Failed to ∷ []) coming.polled
spare_put coming to true = refl
spare_put coming to false = refl

tells_by : (old new : MemoryState) (to : Place) (answer : Put) → new.coming ≡ coming_put old.coming to answer → new.tells ≡ tells_put old.tells old.coming answer → PutTells (edge_state old) (edge_state new) to answer
tells_by old new to (put.Wrote count) c t = rw (c, t) refl
tells_by old new to put.NotYet c t = rw (c, t) refl
tells_by old new to put.Failed c t = rw (c, t, spare_put old.coming to (nat_lt 0 old.coming.spare)) (failed_told old.tells (nat_lt 0 old.coming.spare) old.coming.polled to)

pub put_tells : (edge : MemoryState) (to : Place) (bytes : List ℕ) → PutTells (edge_state edge) (edge_state (after_put edge to bytes)) to (next_put edge to (length bytes))
put_tells edge to bytes = tells_by edge (after_put edge to bytes) to (next_put edge to (length bytes)) refl refl

closed_by : (coming : ComingState) (to : Place) (answer : Put) → (coming_put coming to answer).is_closed ≡ coming.is_closed
closed_by coming to (put.Wrote count) = refl
closed_by coming to put.NotYet = refl
closed_by coming to put.Failed = closed_spare coming to (nat_lt 0 coming.spare)
  where
    closed_spare : (coming : ComingState) (to : Place) (b : Bool) → (cond b (failed_put coming to) coming).is_closed ≡ coming.is_closed
    closed_spare coming to true = refl
    closed_spare coming to false = refl

pub put_no_poll : (edge : MemoryState) (to : Place) (bytes : List ℕ) → IsNoPoll (edge_state edge) (edge_state (after_put edge to bytes))
put_no_poll edge to bytes = (refl, closed_by edge.coming to (next_put edge to (length bytes)))
