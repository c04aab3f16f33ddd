-- The text of the first steps of a journal.
use Rattle.std.proofs.Common.{◌≡◌, ◌<◌, ◌+◌, ℕ, List, [], ◌∷◌, ◌++◌, take, drop, length, suc, sym, ap, subst, ◌∙◌, append_assoc, arith}
use Rattle.std.specs.Prelude.{Option, None, Some, Result, Ok, Err, OnErr, slice_get, get_or}
use Rattle.std.proofs.Math.Seq.{take-suc}
use Rattle.std.proofs.lemmas.Grind.{flat_map-append}
use Rattle.std.proofs.lemmas.List.{append-nil, take-append-drop}
use Rattle.std.proofs.lemmas.Option.{none-some, slice_get-get_or, slice_get_within, get_or_from_slice_get}
use Rattle.sc_terms.specs.declared.steps.Step.{Step}
use Rattle.sc_edge.specs.Taking.{Takes, TakesPart, Takes_none, Takes_then, TakesPart_then, TakesPart_front}
use Rattle.sc_recording.specs.StepTexts.{step_text, steps_text}

pub steps-append : (first rest : List Step) → steps_text (first ++ rest) ≡ steps_text first ++ steps_text rest
unfolding steps_text
steps-append first rest = flat_map-append step_text first rest

steps-one : (step : Step) → steps_text (step ∷ []) ≡ step_text step
unfolding steps_text
steps-one step = append-nil (step_text step)

-- the first steps and one more
next-taken : (items : List Step) (at : ℕ) (step : Step) → slice_get items at ≡ Some step → take (suc at) items ≡ take at items ++ step ∷ []
next-taken items at step there =
    take-suc items at step (slice_get_within items at step there) ∙ ap (λ (s : Step). take at items ++ s ∷ []) (get_or_from_slice_get items at step step there)

-- their text
next-text : (items : List Step) (at : ℕ) (step : Step) → slice_get items at ≡ Some step → steps_text (take (suc at) items) ≡ steps_text (take at items) ++ step_text step
next-text items at step there =
    ap steps_text (next-taken items at step there) ∙ steps-append (take at items) (step ∷ []) ∙ ap (λ (bytes : List ℕ). steps_text (take at items) ++ bytes) (steps-one step)

-- the text of all begins with it
whole-text : (items : List Step) (at : ℕ) (step : Step) → slice_get items at ≡ Some step → steps_text items ≡ steps_text (take at items) ++ (step_text step ++ steps_text (drop (suc at) items))
whole-text items at step there =
    ap steps_text (sym (take-append-drop (suc at) items)) ∙ steps-append (take (suc at) items) (drop (suc at) items)
    ∙ ap (λ (bytes : List ℕ). bytes ++ steps_text (drop (suc at) items)) (next-text items at step there)
    ∙ append_assoc (steps_text (take at items)) (step_text step) (steps_text (drop (suc at) items))

-- no step was put
pub steps_none : (a : Option (List ℕ)) (items : List Step) → Takes a a (steps_text (take 0 items))
unfolding steps_text
steps_none a items = Takes_none a

-- one more was put
pub steps_next : (a b c : Option (List ℕ)) (items : List Step) (at : ℕ) (step : Step) → slice_get items at ≡ Some step → Takes a b (steps_text (take at items)) → Takes b c (step_text step) → Takes a c (steps_text (take (at + 1) items))
steps_next a b c items at step there before now =
    let k : at + 1 ≡ suc at = omega arith in
    rw k (subst (λ (bytes : List ℕ). Takes a c bytes) (sym (next-text items at step there)) (Takes_then a b c (steps_text (take at items)) (step_text step) before now))

-- a part of the next was put
pub steps_part : (a b c : Option (List ℕ)) (items : List Step) (at : ℕ) (step : Step) → slice_get items at ≡ Some step → Takes a b (steps_text (take at items)) → TakesPart b c (step_text step) → TakesPart a c (steps_text items)
steps_part a b c items at step there before now =
    subst (λ (bytes : List ℕ). TakesPart a c bytes) (sym (whole-text items at step there))
    (TakesPart_then a b c (steps_text (take at items)) (step_text step ++ steps_text (drop (suc at) items)) before (TakesPart_front b c (step_text step) (steps_text (drop (suc at) items)) now))

-- a place below the length has a step
pub is_there : (items : List Step) (at : ℕ) → at < length items → None ≡ slice_get items at → ⊥
is_there [] at less none = absurd (omega (arith, less))
is_there (step ∷ items) at less none = none-some (get_or (step ∷ items) at step) (none ∙ slice_get-get_or (step ∷ items) at step less)

-- a fact holds of either answer
pub on_either : {A E P : Type 0} (r : Result A E) → P → OnErr r P
on_either (Ok a) p = tt
on_either (Err e) p = p
