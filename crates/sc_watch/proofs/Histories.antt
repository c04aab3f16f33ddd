-- Each step of a thread keeps the rule of what is shown.
use Rattle.std.proofs.Common.{◌≡◌, ◌≢◌, ℕ, zero, suc, List, [], ◌∷◌, ◌++◌, fold, refl, sym, ap, ◌∙◌, subst, ⊎_elim, inl, inr, append-nil, arith}
use Rattle.std.proofs.lemmas.Bool.{false≢true}
use Rattle.std.specs.Arc.{arc_value}
use Rattle.std.specs.Prelude.{false, Result, Ok, Err, MatchResult, OnOk}
use Rattle.std.specs.Result.{is_err}
use Rattle.std.specs.List.{AllByRecursion}
use mathlib.Core.Option.{some, some-injective, some-ne-none}
use lib.ListN.{get_elem?}
use Rattle.crossbeam_utils.specs.Register.{Admits, TurnsAt}
use Rattle.atomic_table.proofs.Lists.{at_set, at_snoc}
use Rattle.sc_edge.specs.declared.listing.Listing.{Listing}
use Rattle.sc_watch.specs.declared.note.Note.{Note}
use Rattle.sc_watch.specs.declared.shown.Knows.{Knows}
use Rattle.sc_watch.specs.declared.shown.Shown.{Shown}
use Rattle.sc_watch.specs.Keeping.{Keeps, SeesShown}
use Rattle.sc_watch.specs.Risings.{Begins, IsFrom, IsNewest, Rises, knows_none, note_of}

pub from_then : (a b c : Note) → IsFrom a b → IsFrom b c → IsFrom a c
from_then a b c (inl first) (inl second) = inl (omega (arith, first, second))
from_then a b c (inl first) (inr second) = let same = second.0 in inl (omega (arith, first, same))
from_then a b c (inr first) (inl second) = let same = first.0 in inl (omega (arith, second, same))
from_then a b c (inr first) (inr second) = inr (first.0 ∙ second.0, (let x = first.1 in let y = second.1 in omega (arith, x, y)))

older-from : (listing next : Listing) (older : List Listing) → IsFrom (note_of listing) (note_of next) → AllByRecursion (λ (old : Listing). IsFrom (note_of old) (note_of listing)) older
    → AllByRecursion (λ (old : Listing). IsFrom (note_of old) (note_of next)) older
older-from listing next [] from all = tt
older-from listing next (old ∷ older) from all = (from_then (note_of old) (note_of listing) (note_of next) all.0 from, older-from listing next older from all.1)

-- the history with one more rises
pub rises_more : (listing next : Listing) (older : List Listing) → IsFrom (note_of listing) (note_of next) → Rises (listing ∷ older) → Rises (next ∷ (listing ∷ older))
rises_more listing next older from rises = ((from, older-from listing next older from rises.0), rises)

pub begins_keeping : (first : Shown) → Keeps first (knows_none ∷ [])
begins_keeping first = record { older = []; rises = (tt, tt); known = λ seat v at. first_known seat v at }
  where
    first_known : (seat : ℕ) (v : Knows) → get_elem? (knows_none ∷ []) seat ≡ some v → Begins (arc_value first.listing ∷ []) v.seen
    first_known zero v at = (arc_value first.listing ∷ [], subst (λ (u : Knows). arc_value first.listing ∷ [] ≡ (arc_value first.listing ∷ []) ++ u.seen) (some-injective knows_none v at) refl)
    first_known (suc seat) v at = absurd (some-ne-none v (sym at))

-- a new thread has seen nothing
pub admits : Admits Keeps knows_none
admits shown views h = record {
  older = h.older;
  rises = h.rises;
  known = λ seat v at. ⊎_elim (λ (was : get_elem? views seat ≡ some v). h.known seat v was)
      (λ (new : knows_none ≡ v). subst (λ (u : Knows). Begins (arc_value shown.listing ∷ h.older) u.seen) new (arc_value shown.listing ∷ h.older, sym (append-nil (arc_value shown.listing ∷ h.older))))
      (at_snoc views knows_none v seat at);
}

-- what was seen of a history is seen of it with one more
begins-more : (next : Listing) (history seen : List Listing) → Begins history seen → Begins (next ∷ history) seen
begins-more next history seen begun = (next ∷ begun.0, ap (λ (xs : List Listing). next ∷ xs) begun.1)

-- a thread that sees all has seen a beginning
seen-all : (history : List Listing) → Begins history history
seen-all history = ([], refl)

pub puts : (seat : ℕ) (v : Knows) (x y : Shown) → IsFrom (note_of (arc_value x.listing)) (note_of (arc_value y.listing)) → TurnsAt Keeps seat v x y SeesShown
puts seat v x y from views h at =
    let history : List Listing = arc_value y.listing ∷ (arc_value x.listing ∷ h.older) in
    let rises : Rises history = rises_more (arc_value x.listing) (arc_value y.listing) h.older from h.rises in
    let w : Knows = record { seen = history } in (
      w,
      record {
        older = arc_value x.listing ∷ h.older;
        rises = rises;
        known = λ j u here. ⊎_elim (λ (mine : (j ≡ seat) × (w ≡ u)). subst (λ (k : Knows). Begins history k.seen) mine.1 (seen-all history))
            (λ (other : (j ≢ seat) × (get_elem? views j ≡ some u)). begins-more (arc_value y.listing) (arc_value x.listing ∷ h.older) u.seen (h.known j u other.1))
            (at_set views seat j w u here);
      },
      (arc_value x.listing ∷ h.older, refl, begins-more (arc_value y.listing) (arc_value x.listing ∷ h.older) v.seen (h.known seat v at), rises),
    )

pub reads : (seat : ℕ) (v : Knows) (x : Shown) → TurnsAt Keeps seat v x x SeesShown
reads seat v x views h at =
    let history : List Listing = arc_value x.listing ∷ h.older in
    let w : Knows = record { seen = history } in (
      w,
      record {
        older = h.older;
        rises = h.rises;
        known = λ j u here. ⊎_elim (λ (mine : (j ≡ seat) × (w ≡ u)). subst (λ (k : Knows). Begins history k.seen) mine.1 (seen-all history))
            (λ (other : (j ≢ seat) × (get_elem? views j ≡ some u)). h.known j u other.1)
            (at_set views seat j w u here);
      },
      (h.older, refl, h.known seat v at, h.rises),
    )

-- of operations that replace what is shown the last one counts
pub last_shown : {O : Type 0} (value : O → Listing) (shown : Listing) (pending : List O) (op : O) → fold (λ (_ : Listing) (o : O). value o) shown (pending ++ op ∷ []) ≡ value op
last_shown value shown [] op = refl
last_shown value shown (first ∷ pending) op = last_shown value (value first) pending op

-- ## What is put

pub puts_newest : (seat : ℕ) (v : Knows) (x y : Shown) (before listing : Listing) → arc_value x.listing ≡ before → arc_value y.listing ≡ listing → IsFrom (note_of before) (note_of listing) → TurnsAt Keeps seat v x y SeesShown
puts_newest seat v x y before listing x_is y_is from =
    puts seat v x y (subst (λ (l : Listing). IsFrom (note_of l) (note_of (arc_value y.listing))) (sym x_is) (subst (λ (l : Listing). IsFrom (note_of before) (note_of l)) (sym y_is) from))

pub newest_of : (v : Knows) (x y : Shown) (w : Knows) (listing : Listing) → arc_value y.listing ≡ listing → SeesShown v x y w → IsNewest listing w
newest_of v x y w listing is (older, seen, begun, rises) = (
  older,
  ap (λ (k : Knows). k.seen) seen ∙ ap (λ (l : Listing). l ∷ older) is,
  subst (λ (l : Listing). Rises (l ∷ older)) is rises,
)

module _ {A E : Type 0} where
  pub of_ok : {P : Type 0} (Q : E → Type 0) (r : Result A E) → false ≡ is_err r → MatchResult r (λ _. P) Q → P
  of_ok Q (Ok a) ok fact = fact
  of_ok Q (Err e) ok fact = absurd (false≢true ok)

  pub both_ok : {P P2 S : Type 0} (Q Q2 : E → Type 0) (r : Result A E) → MatchResult r (λ _. P) Q → MatchResult r (λ _. P2) Q2 → (P → P2 → S) → OnOk r S
  both_ok Q Q2 (Ok a) fact other then = then fact other
  both_ok Q Q2 (Err e) fact other then = tt
