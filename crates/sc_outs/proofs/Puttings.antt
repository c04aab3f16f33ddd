-- A put to a place, as it was tried.
use Rattle.std.proofs.Common.{◌≡◌, ℕ, ◌≤◌, ◌==◌, Bool, true, false, List, [], length, refl, sym, ◌∙◌, subst, take}
use Rattle.std.specs.Prelude.{drop}
use Rattle.std.proofs.lemmas.Bool.{false≢true}
use Rattle.sc_tokens.specs.Bytes.{Bytes}
use Rattle.sc_value.specs.declared.ids.Place.{Place}
use Rattle.sc_value.specs.Places.{same_place}
use Rattle.sc_edge.specs.Edges.{EdgeState, Stands}
use Rattle.sc_edge.specs.EdgeCalls.{PutTells}
use Rattle.sc_edge.specs.Taking.{Takes}
use Rattle.sc_edge.specs.declared.edge.Put.{Put}
use Rattle.sc_edge.specs.declared.edge.Put.TheVariants as put
use Rattle.sc_outs.specs.Owing.{IsKept, Owed, PutLeaves, Tried, bytes_of, is_gone_at, left_at}

abbrev Others : EdgeState → EdgeState → Place → Type 0
Others old new place = (other : Place) → same_place place other ≡ false → Stands old new other

-- where nothing is left, the edge isn't asked
pub tried_none : (edge : EdgeState) (place : Place) (outs : List Owed) (gone : List ℕ) → Tried edge edge place (record { outs = outs; gone = gone }) (record { outs = outs; gone = gone }) put.NotYet
unfolding PutLeaves
tried_none edge place outs gone = record {
  leaves = (refl, refl);
  gone = λ other. refl;
  others = λ other apart. (refl, λ peer. refl);
  tells = refl;
  none = λ empty. (refl, refl, refl);
}

-- something is left of the place
some-left : {P : Type 0} (bytes left : Bytes) (b : Bool) → bytes ≡ left → b ≡ (length left == 0) → b ≡ false → bytes ≡ [] → P
some-left bytes left b found is some none = absurd (false≢true (sym some ∙ (is ∙ subst (λ (l : Bytes). (length l == 0) ≡ true) (sym none ∙ found) refl)))

pub tried_wrote : (old new : EdgeState) (place : Place) (outs now : List Owed) (gone : List ℕ) (count : ℕ) (left : Bytes) (b : Bool) → bytes_of outs place ≡ left
    → b ≡ (length left == 0) → b ≡ false → IsKept (bytes_of outs) place (drop count (bytes_of outs place)) (bytes_of now)
    → Takes (old.took place) (new.took place) (take count left) → Others old new place → new.polled ≡ old.polled → Tried old new place (record { outs = outs; gone = gone }) (record { outs = now; gone = gone }) (put.Wrote count)
unfolding PutLeaves left_at IsKept is_gone_at
tried_wrote old new place outs now gone count left b found empty some kept takes others tells = record {
  leaves = (subst (λ (x : Bytes). Takes (old.took place) (new.took place) (take count x)) (sym found) takes, kept);
  gone = λ other. refl;
  others = others;
  tells = tells;
  none = λ none. some-left (bytes_of outs place) left b found empty some none;
}

tried-same : (old new : EdgeState) (place : Place) (outs : List Owed) (gone : List ℕ) (left : Bytes) (b : Bool) (answer : Put) → bytes_of outs place ≡ left
    → b ≡ (length left == 0) → b ≡ false → PutLeaves old new place (record { outs = outs; gone = gone }) (record { outs = outs; gone = gone }) answer → Others old new place → PutTells old new place answer
    → Tried old new place (record { outs = outs; gone = gone }) (record { outs = outs; gone = gone }) answer
unfolding left_at
tried-same old new place outs gone left b answer found empty some leaves others tells = record {
  leaves = leaves;
  gone = λ other. refl;
  others = others;
  tells = tells;
  none = λ none. some-left (bytes_of outs place) left b found empty some none;
}

pub tried_not : (old new : EdgeState) (place : Place) (outs : List Owed) (gone : List ℕ) (left : Bytes) (b : Bool) → bytes_of outs place ≡ left
    → b ≡ (length left == 0) → b ≡ false → new.took place ≡ old.took place → Others old new place → new.polled ≡ old.polled
    → Tried old new place (record { outs = outs; gone = gone }) (record { outs = outs; gone = gone }) put.NotYet
unfolding PutLeaves
tried_not old new place outs gone left b found empty some same others tells = tried-same old new place outs gone left b put.NotYet found empty some (same, refl) others tells

pub tried_failed : (old new : EdgeState) (place : Place) (outs : List Owed) (gone : List ℕ) (left : Bytes) (b : Bool) → bytes_of outs place ≡ left
    → b ≡ (length left == 0) → b ≡ false → new.took place ≡ old.took place → Others old new place → PutTells old new place put.Failed
    → Tried old new place (record { outs = outs; gone = gone }) (record { outs = outs; gone = gone }) put.Failed
unfolding PutLeaves
tried_failed old new place outs gone left b found empty some same others tells = tried-same old new place outs gone left b put.Failed found empty some (same, refl) others tells

-- what the edge took is no more than what is left
pub within : (bytes left : Bytes) (count : ℕ) → bytes ≡ left → count ≤ length left → count ≤ length bytes
within bytes left count found part = subst (λ (x : Bytes). count ≤ length x) (sym found) part
