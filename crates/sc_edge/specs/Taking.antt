-- What a sink took between two moments. A sink that doesn't tell what it took stays one. This
-- project's own.
use Rattle.std.specs.Prelude.{◌≡◌, ℕ, ◌+◌, ◌≤◌, min, Option, Some, None, List, [], ◌++◌, take, length, refl}
use Rattle.std.proofs.Common.{sym, ap, subst, ◌∙◌, append_assoc, arith}
use Rattle.std.proofs.lemmas.List.{append-nil, take-append-le, take_min}
use Rattle.std.proofs.Math.Seq.{take-append_seam, take-append-add}

-- the sink took these bytes, after those that it had taken
abbrev pub Takes : Option (List ℕ) → Option (List ℕ) → List ℕ → Type 0
Takes None new bytes = new ≡ None
Takes (Some old) new bytes = new ≡ Some (old ++ bytes)

-- the sink took some bytes from the front of these
abbrev pub TakesPart : Option (List ℕ) → Option (List ℕ) → List ℕ → Type 0
TakesPart old new bytes = (count : ℕ) × Takes old new (take count bytes)

-- where nothing happened, no bytes were taken
pub Takes_none : (a : Option (List ℕ)) → Takes a a []
Takes_none None = refl
Takes_none (Some old) = ap (λ (bytes : List ℕ). Some bytes) (sym (append-nil old))

-- bytes, and then more, where what was taken is told
some_then : (old x y : List ℕ) (c : Option (List ℕ)) → Takes (Some (old ++ x)) c y
    → Takes (Some old) c (x ++ y)
some_then old x y c second = second ∙ ap (λ (bytes : List ℕ). Some bytes) (append_assoc old x y)

-- bytes, and then more
pub Takes_then : (a b c : Option (List ℕ)) (x y : List ℕ) → Takes a b x → Takes b c y
    → Takes a c (x ++ y)
Takes_then None b c x y first second = subst (λ (m : Option (List ℕ)). Takes m c y) first second
Takes_then (Some old) b c x y first second =
    some_then old x y c (subst (λ (m : Option (List ℕ)). Takes m c y) first second)

-- all bytes of the front are a part of the whole
pub Takes_part : (a b : Option (List ℕ)) (x y : List ℕ) → Takes a b x → TakesPart a b (x ++ y)
Takes_part a b x y all =
    (length x, subst (λ (bytes : List ℕ). Takes a b bytes) (sym (take-append_seam x y)) all)

-- nothing is a part of anything
pub TakesPart_none : (a : Option (List ℕ)) (x : List ℕ) → TakesPart a a x
TakesPart_none a x = Takes_part a a [] x (Takes_none a)

-- bytes, and then a part of more
pub TakesPart_then : (a b c : Option (List ℕ)) (x y : List ℕ) → Takes a b x → TakesPart b c y
    → TakesPart a c (x ++ y)
TakesPart_then a b c x y first (count, second) = (
  length x + count,
  subst (λ (bytes : List ℕ). Takes a c bytes) (sym (take-append-add x y count))
      (Takes_then a b c x (take count y) first second),
)

-- so many bytes of a front, as bytes of the whole
front_take : (count : ℕ) (x y : List ℕ) → take count x ≡ take (min count (length x)) (x ++ y)
front_take count x y =
    let within : min count (length x) ≤ length x = omega arith in
    sym (take-append-le (min count (length x)) x y within ∙ take_min count x)

-- a part of the front is a part of the whole
pub TakesPart_front : (a b : Option (List ℕ)) (x y : List ℕ) → TakesPart a b x
    → TakesPart a b (x ++ y)
TakesPart_front a b x y (count, part) =
    (min count (length x), subst (λ (bytes : List ℕ). Takes a b bytes) (front_take count x y) part)
