-- Changing one item of a list. This project's own.
use Rattle.std.specs.Prelude.{ℕ, zero, suc, List, [], ◌∷◌, Bool, if◌then◌else◌}

-- the list with its first item that passes the test changed
unfoldable pub change_first : {A : Type 0} → (A → Bool) → (A → A) → List A → List A
change_first test change [] = []
change_first test change (x ∷ xs) =
    if test x then change x ∷ xs else (x ∷ change_first test change xs)

-- the list without its first item that passes the test
unfoldable pub remove_first : {A : Type 0} → (A → Bool) → List A → List A
remove_first test [] = []
remove_first test (x ∷ xs) = if test x then xs else (x ∷ remove_first test xs)

-- the list with the item at this place changed, where there is one
unfoldable pub change_nth : {A : Type 0} → ℕ → (A → A) → List A → List A
change_nth place change [] = []
change_nth zero change (x ∷ xs) = change x ∷ xs
change_nth (suc place) change (x ∷ xs) = x ∷ change_nth place change xs
