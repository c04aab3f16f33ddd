-- Numbers of texts that are joined.
use Rattle.std.proofs.Common.{◌≡◌, ℕ, List, [], ◌∷◌, ◌++◌, refl, ap, ◌∙◌}
use Rattle.std.specs.Prelude.{decimal}
use Rattle.std.specs.List.{fold}
use Rattle.sc_value.specs.declared.ids.AppId.{AppId}
use Rattle.sc_model.specs.Names.{counted_text}
use Rattle.sc_state.specs.Groups.{with_byte, text_number, branch_number}

fold_append : (n : ℕ) (xs ys : List ℕ) → fold with_byte n (xs ++ ys) ≡ fold with_byte (fold with_byte n xs) ys
fold_append n [] ys = refl
fold_append n (x ∷ xs) ys = fold_append (with_byte n x) xs ys

-- three decimals with signs between
pub branch_is : (app : AppId) (branch : ℕ) → branch_number app branch ≡ fold with_byte (with_byte (fold with_byte (with_byte (fold with_byte 14695981039346656037 (decimal app.host)) 45) (decimal app.serial)) 45) (decimal branch)
unfolding branch_number text_number counted_text
branch_is app branch =
    fold_append 14695981039346656037 (decimal app.host ++ 45 ∷ [] ++ decimal app.serial ++ 45 ∷ []) (decimal branch)
    ∙ ap (λ n. fold with_byte n (decimal branch)) (fold_append 14695981039346656037 (decimal app.host ++ 45 ∷ [] ++ decimal app.serial) (45 ∷ []))
    ∙ ap (λ n. fold with_byte (with_byte n 45) (decimal branch)) (fold_append 14695981039346656037 (decimal app.host ++ 45 ∷ []) (decimal app.serial))
    ∙ ap (λ n. fold with_byte (with_byte (fold with_byte n (decimal app.serial)) 45) (decimal branch)) (fold_append 14695981039346656037 (decimal app.host) (45 ∷ []))
