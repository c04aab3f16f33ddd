-- Which header lines spell the head of a message (RFC 3261 sections 7.3.1 and 20): the lines are
-- fields, with their long names and their values.
use Rattle.std.specs.Prelude.{◌≡◌, ℕ, Bool, List, [], ◌∷◌, ◌++◌, Option, None, Some, not, ◌||◌, ◌+◌, filter, length}
use Rattle.sc_tokens.specs.HeaderNames.{is_dialog_name, is_routing_name, via_name, route_name, record_route_name, max_forwards_name, from_name, to_name, call_id_name, cseq_name, contact_name, content_length_name}
use Rattle.sc_value.specs.declared.parts.Field.{Field}
use Rattle.sc_value.specs.declared.message.Head.{Head}
use Rattle.sc_tokens.specs.Bytes.{Bytes}
use Rattle.sc_tokens.specs.Numbers.{number_of}
use Rattle.sc_syntax.specs.Sequences.{hops_of}
use Rattle.sc_syntax.specs.Fronts.{values_of}
use Rattle.sc_syntax.specs.SpelledVias.{AreViasSpelled}
use Rattle.sc_syntax.specs.SpelledAddresses.{IsAddressSpelled, AreAddressesSpelled, AreContactsSpelled}
use Rattle.sc_syntax.specs.SpelledSequences.{IsCSeqSpelled}

-- each value spells some of the items, and all together are these, in order
unfoldable pub AreInLines : {X : Type 0} → (Bytes → List X → Type 0) → List Bytes → List X → Type 0
AreInLines Spells [] items = items ≡ []
AreInLines Spells (value ∷ values) items =
    (first more : List _) × Spells value first × AreInLines Spells values more
    × (items ≡ first ++ more)

-- there is one value, and it spells this
unfoldable pub IsOnce : {X : Type 0} → (Bytes → X → Type 0) → List Bytes → X → Type 0
IsOnce Spells [] x = ⊥
IsOnce Spells (value ∷ []) x = Spells value x
IsOnce Spells (value ∷ next ∷ more) x = ⊥

-- there is no value, or one that spells this
unfoldable pub IsAtMostOnce : {X : Type 0} → (Bytes → X → Type 0) → List Bytes → Option X → Type 0
IsAtMostOnce Spells values None = values ≡ []
IsAtMostOnce Spells values (Some x) = IsOnce Spells values x

-- the field has a name without structure
unfoldable pub is_other : Field → Bool
is_other field = not (is_dialog_name field.name || is_routing_name field.name)

-- the fields are those of the head, of Max-Forwards and of Content-Length: each header that is a
-- list may have several, From, To, Call-ID and CSeq have one, and those without structure keep
-- their order
pub record AreFieldsOf (fields : List Field) (head : Head) (hops len : Option ℕ) : Type 0 where
  pub via : AreInLines AreViasSpelled (values_of via_name fields) head.via
  pub route : AreInLines AreAddressesSpelled (values_of route_name fields) head.route
  pub record_route : AreInLines AreAddressesSpelled (values_of record_route_name fields)
      head.record_route
  pub contact : AreInLines AreContactsSpelled (values_of contact_name fields) head.contact
  pub from : IsOnce IsAddressSpelled (values_of from_name fields) head.from
  pub to : IsOnce IsAddressSpelled (values_of to_name fields) head.to
  pub call_id : values_of call_id_name fields ≡ head.call_id ∷ []
  pub cseq : IsOnce IsCSeqSpelled (values_of cseq_name fields) head.cseq
  pub max_forwards : IsAtMostOnce (λ value n. hops_of value ≡ Some n)
      (values_of max_forwards_name fields) hops
  pub content_length : IsAtMostOnce (λ value n. number_of value ≡ Some n)
      (values_of content_length_name fields) len
  pub others : filter is_other fields ≡ head.others

-- one, where there is a number
unfoldable pub number_if_any : Option ℕ → ℕ
number_if_any None = 0
number_if_any (Some n) = 1

-- how many values there are: an item of a list is one, and so is every other header
unfoldable pub value_count : Head → Option ℕ → Option ℕ → ℕ
value_count head hops len =
    length head.via + length head.route + length head.record_route + length head.contact
    + length head.others + 4 + number_if_any hops + number_if_any len
