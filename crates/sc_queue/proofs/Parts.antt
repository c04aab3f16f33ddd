-- Lists that are kept in parts: a part more, and the item at a place.
use Rattle.std.proofs.Common.{◌≡◌, ◌+◌, ◌<◌, ◌≤◌, ℕ, zero, suc, List, [], ◌∷◌, ◌++◌, length, take, drop, slice_get, append-nil, length-append, get_or, drop-cons, drop_of_length-le, add-one, take-append-drop, refl, ap, sym, ◌∙◌, arith}
use Rattle.std.proofs.lemmas.Grind.{flat_map-append}
use Rattle.sc_queue.specs.Joined.{joined}

pub joined_more : {A : Type 0} (front newest : List A) (x : A) → front ++ (newest ++ x ∷ []) ≡ (front ++ newest) ++ x ∷ []
joined_more [] newest x = refl
joined_more (y ∷ ys) newest x = ap (λ l. y ∷ l) (joined_more ys newest x)

assoc : {A : Type 0} (a b c : List A) → a ++ (b ++ c) ≡ (a ++ b) ++ c
assoc [] b c = refl
assoc (x ∷ xs) b c = ap (λ l. x ∷ l) (assoc xs b c)

pub count_more : {A : Type 0} (old all : List A) (x : A) (before after : ℕ) → before ≡ length old → after ≡ before + 1 → all ≡ old ++ x ∷ [] → after ≡ length all
count_more old all x before after was more is = more ∙ ap (λ n. n + 1) was ∙ sym (ap length is ∙ length-append old (x ∷ []))

-- a part more
pub part_behind : {A : Type 0} (front : List (List A)) (part : List A) → joined (front ++ part ∷ []) ≡ joined front ++ part
part_behind front part = flat_map-append (λ p. p) front (part ∷ []) ∙ ap (λ l. joined front ++ l) (append-nil part)

pub joined_behind : {A : Type 0} (all front back : List (List A)) (part newest : List A) → all ≡ front ++ part ∷ [] → part ≡ joined back ++ newest → joined all ≡ joined front ++ (joined back ++ newest)
joined_behind all front back part newest is whole = ap joined is ∙ part_behind front part ∙ ap (λ l. joined front ++ l) whole

pub joined_split : {A : Type 0} (at : ℕ) (parts front back all : List (List A)) (newest : List A) → front ≡ take at parts → back ≡ drop at parts → joined all ≡ joined front ++ (joined back ++ newest) → joined all ≡ joined parts ++ newest
joined_split at parts front back all newest front_is back_is is =
    is
    ∙ ap (λ l. joined l ++ (joined back ++ newest)) front_is
    ∙ ap (λ l. joined (take at parts) ++ (joined l ++ newest)) back_is
    ∙ assoc (joined (take at parts)) (joined (drop at parts)) newest
    ∙ ap (λ l. l ++ newest) (sym (flat_map-append (λ p. p) (take at parts) (drop at parts)) ∙ ap joined (take-append-drop at parts))

-- ## The item at a place

pub front_item : {A : Type 0} (part rest : List A) (at : ℕ) → at < length part → slice_get (part ++ rest) at ≡ slice_get part at
front_item [] rest at lt = absurd (omega (arith, lt))
front_item (x ∷ xs) rest zero lt = refl
front_item (x ∷ xs) rest (suc at) lt = front_item xs rest at (omega (arith, lt))

pub back_item : {A : Type 0} (part rest : List A) (at left : ℕ) → at ≡ length part + left → slice_get (part ++ rest) at ≡ slice_get rest left
back_item [] rest at left is = let same : at ≡ left = omega (arith, is) in ap (slice_get rest) same
back_item (x ∷ xs) rest zero left is = absurd (omega (arith, is))
back_item (x ∷ xs) rest (suc at) left is = back_item xs rest at left (omega (arith, is))

-- the parts from a place on begin with the one that stands there
next_part : {A : Type 0} (parts : List (List A)) (newest part : List A) (i : ℕ) → i < length parts → part ≡ get_or parts i part → joined (drop i parts) ++ newest ≡ part ++ (joined (drop (i + 1) parts) ++ newest)
next_part parts newest part i here is =
    ap (λ l. joined l ++ newest) (drop-cons parts i part here)
    ∙ ap (λ l. (l ++ joined (drop (suc i) parts)) ++ newest) (sym is)
    ∙ sym (assoc part (joined (drop (suc i) parts)) newest)
    ∙ ap (λ n. part ++ (joined (drop n parts) ++ newest)) (sym (add-one i))

pub in_part : {A : Type 0} (parts : List (List A)) (newest part : List A) (i at left : ℕ) → i < length parts → part ≡ get_or parts i part → slice_get (joined parts ++ newest) at ≡ slice_get (joined (drop i parts) ++ newest) left → left < length part
    → slice_get part left ≡ slice_get (joined parts ++ newest) at
in_part parts newest part i at left here is found lt =
    sym (found ∙ ap (λ l. slice_get l left) (next_part parts newest part i here is) ∙ front_item part (joined (drop (i + 1) parts) ++ newest) left lt)

pub past_part : {A : Type 0} (parts : List (List A)) (newest part : List A) (i at left less : ℕ) → i < length parts → part ≡ get_or parts i part → slice_get (joined parts ++ newest) at ≡ slice_get (joined (drop i parts) ++ newest) left → left ≡ length part + less
    → slice_get (joined parts ++ newest) at ≡ slice_get (joined (drop (i + 1) parts) ++ newest) less
past_part parts newest part i at left less here is found rest =
    found ∙ ap (λ l. slice_get l left) (next_part parts newest part i here is) ∙ back_item part (joined (drop (i + 1) parts) ++ newest) left less rest

pub past_all : {A : Type 0} (parts : List (List A)) (newest : List A) (i at left : ℕ) → length parts ≤ i → slice_get (joined parts ++ newest) at ≡ slice_get (joined (drop i parts) ++ newest) left → slice_get newest left ≡ slice_get (joined parts ++ newest) at
past_all parts newest i at left past found = sym (found ∙ ap (λ l. slice_get (joined l ++ newest) left) (drop_of_length-le parts past))
