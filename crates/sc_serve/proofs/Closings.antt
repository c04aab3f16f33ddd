-- The places that a server closes, as it goes on.
use Rattle.std.proofs.Common.{◌≡◌, ◌<◌, ◌+◌, ◌-◌, ℕ, zero, suc, Option, None, Some, List, [], ◌∷◌, ◌++◌, append_assoc, refl, sym, ap, ◌∙◌, subst, inl, inr, arith, get_or, set, ⊎_elim}
use Rattle.std.specs.Prelude.{◌⊎◌, length, map, slice_index_or}
use Rattle.std.specs.List.{All, swap_remove}
use Rattle.std.proofs.lemmas.Bool.{cases_eq}
use Rattle.std.proofs.lemmas.List.{append-nil, get_or-set_other, get_or-set_same, get_or-take, length-set, length-take, map-append}
use Rattle.std.proofs.lemmas.List.Elements.{All-append, All-nil}
use Rattle.sc_value.specs.declared.ids.Place.{Place}
use Rattle.sc_edge.specs.Edges.{EdgeState}
use Rattle.sc_edge.specs.Telling.{Notes}
use Rattle.sc_edge.specs.declared.edge.Closing.{Closing}
use Rattle.sc_rounds.specs.GivingUp.{GaveUp}
use Rattle.sc_rounds.specs.Polling.{TellsOn}
use Rattle.sc_rounds.proofs.GivingUps.{gave_on}
use Rattle.sc_serve.specs.Closing.{ClosedSo, Closes}

pub one_all : {X : Type 0} (P : X → Type 0) (x : X) → P x → All P (x ∷ [])
one_all P x holds zero d below = holds
one_all P x holds (suc k) d below = absurd (omega (arith, below))

all-as : {X : Type 0} (P Q : X → Type 0) (xs : List X) → ((x : X) → P x → Q x) → All P xs → All Q xs
all-as P Q xs f all k d below = f (slice_index_or xs k d) (all k d below)

-- ## Nothing is closed

-- nothing is to be closed any more
pub none_waits : (first now : EdgeState) (waiting : List Place) → Closes first now waiting → Closes first now []
none_waits first now waiting s = record { closed = s.closed; told = s.told; gave = s.gave; waits = All-nil (GaveUp first.polled now.polled) }

pub same_waits : (first now : EdgeState) (old new : List Place) → new ≡ old → Closes first now old → Closes first now new
same_waits first now old new same s = subst (λ (waiting : List Place). Closes first now waiting) (sym same) s

-- the edge told what came, or nothing
pub closes_on : (first old new : EdgeState) (waiting : List Place) → TellsOn old new → new.closes ≡ old.closes → Closes first old waiting → Closes first new waiting
closes_on first old new waiting tells same s = record {
  closed = s.closed;
  told = subst (λ (now : Option (List Closing)). ClosedSo first.closes now s.closed) (sym same) s.told;
  gave = all-as (GaveUp first.polled old.polled) (GaveUp first.polled new.polled) s.closed (λ place gave. gave_on first.polled old new place tells gave) s.gave;
  waits = all-as (GaveUp first.polled old.polled) (GaveUp first.polled new.polled) waiting (λ place gave. gave_on first.polled old new place tells gave) s.waits;
}

pub closed_none : (closes : Option (List Closing)) → ClosedSo closes closes []
unfolding ClosedSo
closed_none None = refl
closed_none (Some old) = inl ([], ap (λ (items : List Closing). Some items) (sym (append-nil old)), refl)

-- where a run begins
pub closes_begin : (edge : EdgeState) (waiting : List Place) → waiting ≡ [] → Closes edge edge waiting
closes_begin edge waiting none = subst (λ (places : List Place). Closes edge edge places) (sym none) (record {
  closed = [];
  told = closed_none edge.closes;
  gave = All-nil (GaveUp edge.polled edge.polled);
  waits = All-nil (GaveUp edge.polled edge.polled);
})

-- ## A place is closed

closed-by : (first now new : Option (List Closing)) (old : List Closing) (closings : List Closing) (places : List Place) (closing : Closing) → now ≡ Some (old ++ closings) → map (λ c. c.place) closings ≡ places → Notes now new closing
    → ((items : List Closing) × (new ≡ Some (old ++ items)) × (map (λ c. c.place) items ≡ places ++ closing.place ∷ [])) ⊎ (new ≡ None)
closed-by first now new old closings places closing is are notes = by (rw is at notes)
  where
    by : ((new ≡ Some ((old ++ closings) ++ closing ∷ [])) ⊎ (new ≡ None)) → ((items : List Closing) × (new ≡ Some (old ++ items)) × (map (λ c. c.place) items ≡ places ++ closing.place ∷ [])) ⊎ (new ≡ None)
    by (inl e) = inl (closings ++ closing ∷ [], e ∙ ap (λ (items : List Closing). Some items) (append_assoc old closings (closing ∷ [])), map-append (λ c. c.place) closings (closing ∷ []) ∙ ap (λ (ps : List Place). ps ++ closing.place ∷ []) are)
    by (inr e) = inr e

pub closed_more : (first now new : Option (List Closing)) (places : List Place) (closing : Closing) → ClosedSo first now places → Notes now new closing → ClosedSo first new (places ++ closing.place ∷ [])
unfolding ClosedSo
closed_more None now new places closing told notes = rw told at notes
closed_more (Some old) now new places closing (inl (closings, is, are)) notes = closed-by (Some old) now new old closings places closing is are notes
closed_more (Some old) now new places closing (inr none) notes = inr (rw none at notes)

-- one of those that are to be closed is closed
pub closes_one : (first old new : EdgeState) (waiting left : List Place) (closing : Closing) → new.polled ≡ old.polled → Notes old.closes new.closes closing → GaveUp first.polled old.polled closing.place → (All (GaveUp first.polled old.polled) waiting → All (GaveUp first.polled old.polled) left)
    → Closes first old waiting → Closes first new left
closes_one first old new waiting left closing polled notes gave fewer s = record {
  closed = s.closed ++ closing.place ∷ [];
  told = closed_more first.closes old.closes new.closes s.closed closing s.told notes;
  gave = subst (λ now. All (GaveUp first.polled now) (s.closed ++ closing.place ∷ [])) (sym polled) (All-append (GaveUp first.polled old.polled) s.closed (closing.place ∷ []) s.gave (one_all (GaveUp first.polled old.polled) closing.place gave));
  waits = subst (λ now. All (GaveUp first.polled now) left) (sym polled) (fewer s.waits);
}

-- the last takes the place of the one that goes
all-swapped : {X : Type 0} (P : X → Type 0) (old : List X) (at : ℕ) (e : X) → at < length old → All P old → All P (swap_remove old at e)
all-swapped {X} P old at e inside all k d below =
    let last : X = get_or old (length old - 1) e in
    let fits : k < length old - 1 = omega (arith, length-take (length old - 1) (set old at last), length-set old at last, below) in
    subst P (sym (get_or-take (length old - 1) (set old at last) k d fits))
    (⊎_elim (λ (same : k ≡ at). subst (λ (i : ℕ). P (get_or (set old at last) i d)) (sym same) (subst P (sym (get_or-set_same old at last d inside)) (all (length old - 1) e (omega (arith, inside)))))
    (λ (other : k ≡ at → ⊥). subst P (sym (get_or-set_other old at k last d other)) (all k d (omega (arith, fits)))) (cases_eq k at))

-- as the code does it: the place so far from the last one goes
pub closes_last : (first old new : EdgeState) (waiting seen inner left : List Place) (closing : Closing) (len n back at : ℕ) (d e : Place) → new.polled ≡ old.polled → Notes old.closes new.closes closing → seen ≡ waiting → inner ≡ waiting → len ≡ length waiting → n ≡ length waiting → back < n
    → at ≡ len - 1 - back → closing.place ≡ slice_index_or seen at d → left ≡ swap_remove inner at e → Closes first old waiting → Closes first new left
closes_last first old new waiting seen inner left closing len n back at d e polled notes seen_is inner_is len_is n_is inside at_is place_is left_is s =
    let below : at < length waiting = omega (arith, len_is, n_is, inside, at_is) in
    closes_one first old new waiting left closing polled notes
    (subst (GaveUp first.polled old.polled) (sym place_is) (subst (λ (places : List Place). GaveUp first.polled old.polled (slice_index_or places at d)) (sym seen_is) (s.waits at d below)))
    (λ all. subst (λ (places : List Place). All (GaveUp first.polled old.polled) places) (sym left_is)
    (subst (λ (places : List Place). All (GaveUp first.polled old.polled) (swap_remove places at e)) (sym inner_is) (all-swapped (GaveUp first.polled old.polled) waiting at e below all))) s
