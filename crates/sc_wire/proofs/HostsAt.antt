-- A host by its number.
use Rattle.std.proofs.Common.{◌≡◌, ◌<◌, ◌≤◌, ◌∙◌, ℕ, List, length, get_or, slice_get, Option, None, Some, IfSome, MatchOption, Bor, ap, sym}
use Rattle.std.specs.Option.{option_copied}
use Rattle.std.proofs.lemmas.Option.{slice_get_past, slice_get-get_or}

-- what a look-up by a place gives is the item there
pub copied-at : {T : Type 0} → (got : Option (Bor T)) (items : List T) (i : ℕ) → (rest : Bor T → Type 0) → MatchOption got (length items ≤ i) (λ x. (i < length items) × rest x) → IfSome got (λ x. x.now ≡ get_or items i x.now) → option_copied got ≡ slice_get items i
copied-at None items i rest past same = sym (slice_get_past items i past)
copied-at (Some x) items i rest within same = ap Some same ∙ sym (slice_get-get_or items i x.now within.0)
