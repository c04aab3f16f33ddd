-- Sending messages one after another.
use Rattle.std.proofs.Common.{◌≡◌, List, [], ◌∷◌, ◌++◌, length, sym, ap, ◌∙◌, append_assoc, arith}
use Rattle.std.proofs.lemmas.List.{append-nil}

pub more-left : {A : Type 0} (start left yielded : List A) (x : A) → left ≡ start ++ yielded → left ++ x ∷ [] ≡ start ++ (yielded ++ x ∷ [])
more-left start left yielded x e = ap (λ ys. ys ++ x ∷ []) e ∙ append_assoc start yielded (x ∷ [])

pub more-taken : {A : Type 0} (all yielded rest rest' : List A) (x : A) → all ≡ yielded ++ rest → rest ≡ x ∷ rest' → all ≡ (yielded ++ x ∷ []) ++ rest'
more-taken all yielded rest rest' x whole next = whole ∙ (ap (λ ys. yielded ++ ys) next ∙ sym (append_assoc yielded (x ∷ []) rest'))

pub all-taken : {A : Type 0} (all yielded rest : List A) → all ≡ yielded ++ rest → length rest ≡ 0 → yielded ≡ all
all-taken all yielded [] whole none = sym (whole ∙ append-nil yielded)
all-taken all yielded (x ∷ rest) whole none = absurd (omega (arith, none))
