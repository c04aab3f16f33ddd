-- Going through a list from its end.
use Rattle.std.proofs.Common.{◌≡◌, ℕ, ◌+◌, ◌-◌, ◌<◌, ◌≤◌, List, ◌∷◌, length, drop, get_or, refl, ◌∙◌, arith}
use Rattle.std.proofs.lemmas.List.{drop_more}

-- the list from the item before a place on
pub drop_before : {A : Type 0} (xs : List A) (before : ℕ) (d : A) → 0 < before → before ≤ length xs → drop (before - 1) xs ≡ get_or xs (before - 1) d ∷ drop before xs
drop_before xs before d some within =
    let one : before - 1 + 1 ≡ before = omega arith in
    let more : drop (before - 1) xs ≡ get_or xs (before - 1) d ∷ drop (before - 1 + 1) xs = drop_more xs (before - 1) d (omega arith) in
    more ∙ rw one refl
