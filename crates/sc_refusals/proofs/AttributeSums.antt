use Rattle.std.proofs.Common.{◌≡◌, ℕ, ◌+◌, Bool, true, false, not, cond, List, [], ◌∷◌, length, filter, sum_by, refl, arith}
use Rattle.std.proofs.lemmas.List.Sums.{sum_by-cons}
use Rattle.sc_tokens.specs.Names.{same_bytes}
use Rattle.sc_value.specs.declared.parts.Field.{Field}
use Rattle.sc_tokens.specs.Bytes.{Bytes}
use Rattle.sc_hosts.specs.Refusals.{attribute_bytes}
use Rattle.sc_refusals.specs.AttributeSums.{bytes_beside}

size : Field → ℕ
size field = length field.name + length field.value

kept : {A : Type 0} (p : A → Bool) (f : A → ℕ) (x : A) (xs : List A) (b : Bool) → p x ≡ b → sum_by f (filter p (x ∷ xs)) ≡ cond b (f x) 0 + sum_by f (filter p xs)
kept p f x xs true e = rw (e, filter) (sum_by-cons f x (filter p xs))
kept p f x xs false e = rw (e, filter) (omega arith)

counted : (name : Bytes) (field : Field) (b : Bool) → same_bytes field.name name ≡ b → cond (not b) (size field) 0 ≡ bytes_beside name field
unfolding bytes_beside size
counted name field true e = rw e refl
counted name field false e = rw e refl

beside : (fields : List Field) (name : Bytes) → sum_by (bytes_beside name) fields ≡ sum_by (λ field. length field.name + length field.value) (filter (λ field. not (same_bytes field.name name)) fields)
unfolding size
beside [] name = refl
beside (field ∷ fields) name =
    rw (
      sum_by-cons (bytes_beside name) field fields,
      beside fields name,
      kept (λ field. not (same_bytes field.name name)) (λ field. length field.name + length field.value) field fields (not (same_bytes field.name name)) refl,
      ← counted name field (same_bytes field.name name) refl,
      size,
    ) refl

-- the sum over all, in which one of the name counts nothing, is that over the others
pub bytes_of_others : (name : Bytes) (fields : List Field) → sum_by (bytes_beside name) fields ≡ attribute_bytes name fields
unfolding attribute_bytes
bytes_of_others name fields = beside fields name
