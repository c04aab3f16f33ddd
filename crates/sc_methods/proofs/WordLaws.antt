-- A comparison that tells whether two texts are equal.
use Rattle.std.proofs.Common.{◌≡◌, ℕ, Bool, true, false, List, refl, sym}
use Rattle.std.specs.Prelude.{IsTrue, ◌↔◌}
use Rattle.std.proofs.lemmas.Slice.Eq.{slice_eq-Decides}
use Rattle.std.proofs.lemmas.Bool.Decides.{Decides-eqb}
use Rattle.sc_tokens.specs.Names.{same_bytes}

alike : (r s : Bool) → (r ≡ true → s ≡ true) → (s ≡ true → r ≡ true) → r ≡ s
alike true s there back = sym (there refl)
alike false true there back = back refl
alike false false there back = refl

-- what is true exactly where two texts are equal tells whether they have the same bytes
pub word_is : (r : Bool) (a b : List ℕ) → (IsTrue r ↔ (a ≡ b)) → r ≡ same_bytes a b
word_is r a b tells =
    let same = slice_eq-Decides Decides-eqb a b (same_bytes a b) refl in
    alike r (same_bytes a b) (λ is. same.1 (tells.0 is)) (λ is. tells.1 (same.0 is))
