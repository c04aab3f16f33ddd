-- Lists of headers without structure.
use Rattle.std.proofs.Common.{◌≡◌, ℕ, zero, suc, Some, List, [], ◌∷◌, ◌++◌, slice_get, arith, ◌<◌, length, get_or}
use Rattle.std.proofs.lemmas.Option.{get_or_from_slice_get}
use Rattle.sc_value.specs.declared.parts.Field.{Field}
use Rattle.sc_value.specs.OtherFields.{IsOther, AreOthers}

pub others_with : (fields : List Field) (field : Field) → AreOthers fields → IsOther field → AreOthers (fields ++ field ∷ [])
unfolding AreOthers
others_with [] field are is = (is, tt)
others_with (first ∷ fields) field are is = (are.0, others_with fields field are.1 is)

pub other_at : (fields : List Field) (at : ℕ) (d : Field) → AreOthers fields → at < length fields → IsOther (get_or fields at d)
unfolding AreOthers
other_at [] at d are below = absurd (omega (arith, below))
other_at (first ∷ fields) zero d are below = are.0
other_at (first ∷ fields) (suc at) d are below = other_at fields at d are.1 (omega (arith, below))

pub is_at : (fields : List Field) (at : ℕ) (field d : Field) → slice_get fields at ≡ Some field → get_or fields at d ≡ field
is_at fields at field d found = get_or_from_slice_get fields at field d found
