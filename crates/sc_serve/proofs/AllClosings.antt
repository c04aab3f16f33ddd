-- Each place that is given up is closed, as a server goes on.
use Rattle.std.proofs.Common.{◌≡◌, ◌==◌, ◌<◌, ◌-◌, ℕ, Bool, true, Option, List, [], ◌∷◌, ◌++◌, append_assoc, sym, ap, ◌∙◌, subst, inl, inr, arith}
use Rattle.std.specs.Prelude.{IsPermutation, length, slice_index_or}
use Rattle.std.specs.List.{swap_remove}
use Rattle.std.proofs.lemmas.Bool.Decides.{nat_tests}
use Rattle.std.proofs.lemmas.List.{append-nil, get_or_default, nil_from_length}
use Rattle.std.proofs.lemmas.List.Sorted.{IsPermutation-append_left, IsPermutation-append_right, IsPermutation-refl, IsPermutation-swap_remove, IsPermutation-trans}
use Rattle.sc_value.specs.declared.ids.Place.{Place}
use Rattle.sc_edge.specs.Edges.{EdgeState}
use Rattle.sc_edge.specs.Telling.{Notes}
use Rattle.sc_edge.specs.declared.edge.Closing.{Closing}
use Rattle.sc_edge.specs.declared.edge.Polled.{Polled}
use Rattle.sc_runs.specs.Following.{Streams, no_bytes}
use Rattle.sc_runs.specs.Heard.{AllKept}
use Rattle.sc_courses.specs.Marks.{TellsSo}
use Rattle.sc_courses.proofs.HeardLaws.{tells_more, tells-none}
use Rattle.sc_rounds.specs.GivingUp.{broken_by}
use Rattle.sc_rounds.specs.Polling.{GivesOn}
use Rattle.sc_rounds.specs.declared.polling.Came.{Came}
use Rattle.sc_rounds.specs.declared.polling.Came.TheVariants as came
use Rattle.sc_rounds.proofs.AllGivings.{give_up_more, give_up_none, give_up_same}
use Rattle.sc_serve.specs.Closing.{Adds, ClosedSo, ClosesAll}
use Rattle.sc_serve.proofs.Closings.{closed_more, closed_none}

-- ## Where a run begins

none-kept : (streams : Streams) → ((place : Place) → streams place ≡ []) → AllKept no_bytes streams
unfolding AllKept
none-kept streams none place = none place

pub all_begin : (edge : EdgeState) (streams : Streams) (waiting : List Place) → ((place : Place) → streams place ≡ []) → waiting ≡ [] → ClosesAll edge edge streams waiting
all_begin edge streams waiting empty none = subst (λ (places : List Place). ClosesAll edge edge streams places) (sym none) (record {
  given = [];
  told = tells-none edge.polled;
  places = [];
  gave = give_up_none no_bytes streams (none-kept streams empty);
  closed = [];
  closes = closed_none edge.closes;
  all = IsPermutation-refl [];
})

-- ## Nothing is closed

pub all_waits : (first now : EdgeState) (streams : Streams) (old new : List Place) → new ≡ old → ClosesAll first now streams old → ClosesAll first now streams new
all_waits first now streams old new same s = subst (λ (waiting : List Place). ClosesAll first now streams waiting) (sym same) s

more-wait : (closed waiting places more : List Place) → IsPermutation places (closed ++ waiting) → IsPermutation (places ++ more) (closed ++ (waiting ++ more))
more-wait closed waiting places more all =
    subst (λ (xs : List Place). IsPermutation (places ++ more) xs) (append_assoc closed waiting more) (IsPermutation-append_left more places (closed ++ waiting) all)

none-more : (places : List Place) (first : List Place) (more : List Place) → more ≡ [] → first ≡ places ++ more → first ≡ places
none-more places first more none is = is ∙ (ap (λ (xs : List Place). places ++ xs) none ∙ append-nil places)

-- the edge told nothing more, or one answer, and the places that it gives up are to be closed
pub all_on : (first old new : EdgeState) (streams streams2 : Streams) (waiting more left : List Place) → GivesOn old new streams more streams2 → new.closes ≡ old.closes → left ≡ waiting ++ more → ClosesAll first old streams waiting → ClosesAll first new streams2 left
unfolding GivesOn
all_on first old new streams streams2 waiting more left (inl (same, kept, none)) closes added s = all_waits first new streams2 waiting left (none-more waiting left more none added) (record {
  given = s.given;
  told = subst (λ (now : Option (List Polled)). TellsSo first.polled now s.given) (sym same) s.told;
  places = s.places;
  gave = give_up_same no_bytes s.given s.places streams streams2 kept s.gave;
  closed = s.closed;
  closes = subst (λ (now : Option (List Closing)). ClosedSo first.closes now s.closed) (sym closes) s.closes;
  all = s.all;
})
all_on first old new streams streams2 waiting more left (inr (answer, notes, gives)) closes added s = all_waits first new streams2 (waiting ++ more) left added (record {
  given = s.given ++ answer ∷ [];
  told = tells_more first.polled old.polled new.polled s.given answer s.told notes;
  places = s.places ++ more;
  gave = give_up_more no_bytes s.given answer s.places more streams streams2 s.gave gives;
  closed = s.closed;
  closes = subst (λ (now : Option (List Closing)). ClosedSo first.closes now s.closed) (sym closes) s.closes;
  all = more-wait s.closed waiting s.places more s.all;
})

-- what is to be closed is the place of which the answer says so
pub added_by : (answer : Came) (old new : List Place) → Adds answer old new → new ≡ old ++ broken_by answer
unfolding Adds
added_by came.Nothing old new adds = adds ∙ sym (append-nil old)
added_by (came.Bytes place) old new adds = adds ∙ sym (append-nil old)
added_by (came.Broken place) old new adds = adds
added_by (came.End place) old new adds = adds ∙ sym (append-nil old)
added_by came.Closed old new adds = adds ∙ sym (append-nil old)
added_by came.Fault old new adds = adds ∙ sym (append-nil old)

-- nothing more is to be closed
pub added_none : (old new : List Place) → new ≡ old → new ≡ old ++ []
added_none old new same = same ∙ sym (append-nil old)

none-by : (places : List Place) → (length places == 0) ≡ true → places ≡ []
none-by places e = nil_from_length places (grind (arith, nat_tests))

-- the code saw that none is to be closed
pub none_left : (places : List Place) (empty : Bool) → empty ≡ (length places == 0) → empty ≡ true → places ≡ []
none_left places empty e is = none-by places (sym e ∙ is)

-- ## A place is closed

one-closed : (closed waiting left : List Place) (place : Place) → IsPermutation waiting (place ∷ left) → IsPermutation (closed ++ waiting) ((closed ++ place ∷ []) ++ left)
one-closed closed waiting left place moved =
    subst (λ (xs : List Place). IsPermutation (closed ++ waiting) xs) (sym (append_assoc closed (place ∷ []) left)) (IsPermutation-append_right closed waiting (place ∷ left) moved)

all-one : (first old new : EdgeState) (streams : Streams) (waiting left : List Place) (closing : Closing) → new.polled ≡ old.polled → Notes old.closes new.closes closing → IsPermutation waiting (closing.place ∷ left) → ClosesAll first old streams waiting → ClosesAll first new streams left
all-one first old new streams waiting left closing polled notes moved s = record {
  given = s.given;
  told = subst (λ (now : Option (List Polled)). TellsSo first.polled now s.given) (sym polled) s.told;
  places = s.places;
  gave = s.gave;
  closed = s.closed ++ closing.place ∷ [];
  closes = closed_more first.closes old.closes new.closes s.closed closing s.closes notes;
  all = IsPermutation-trans s.places (s.closed ++ waiting) ((s.closed ++ closing.place ∷ []) ++ left) s.all (one-closed s.closed waiting left closing.place moved);
}

-- as the code does it: the place so far from the last one goes
pub all_last : (first old new : EdgeState) (streams : Streams) (waiting seen inner left : List Place) (closing : Closing) (len n back at : ℕ) (d e : Place) → new.polled ≡ old.polled → Notes old.closes new.closes closing → seen ≡ waiting → inner ≡ waiting → len ≡ length waiting → n ≡ length waiting → back < n
    → at ≡ len - 1 - back → closing.place ≡ slice_index_or seen at d → e ≡ slice_index_or inner at e → left ≡ swap_remove inner at e → ClosesAll first old streams waiting → ClosesAll first new streams left
all_last first old new streams waiting seen inner left closing len n back at d e polled notes seen_is inner_is len_is n_is inside at_is place_is here left_is s =
    let below : at < length waiting = omega (arith, len_is, n_is, inside, at_is) in
    let found : e ≡ slice_index_or waiting at e = subst (λ (places : List Place). e ≡ slice_index_or places at e) inner_is here in
    let same : closing.place ≡ e = place_is ∙ (ap (λ (places : List Place). slice_index_or places at d) seen_is ∙ (get_or_default waiting at d e below ∙ sym found)) in
    let moved : IsPermutation waiting (e ∷ swap_remove waiting at e) = IsPermutation-swap_remove waiting at e below found in
    all-one first old new streams waiting left closing polled notes
    (subst (λ (p : Place). IsPermutation waiting (p ∷ left)) (sym same)
    (subst (λ (places : List Place). IsPermutation waiting (e ∷ places)) (sym (left_is ∙ ap (λ (places : List Place). swap_remove places at e) inner_is)) moved)) s
