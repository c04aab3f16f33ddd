-- What the headers of a message are read as, all together.
use Rattle.std.proofs.Common.{◌≡◌, ℕ, suc, Bool, true, false, not, Option, Some, None, Ok, List, [], ◌∷◌, ◌++◌, ◌||◌, ◌==◌, ◌+◌, ◌≤◌, length, refl, ap, ◌∙◌, arith}
use Rattle.std.specs.Prelude.{nat_le, slice_get}
use Rattle.std.specs.List.{list_all}
use Rattle.std.specs.Option.{option_map_or}
use Rattle.std.proofs.lemmas.Bool.{false≢true}
use Rattle.std.proofs.lemmas.Bool.Decides.{nat_tests}
use Rattle.sc_tokens.specs.Tokens.{is_one_line}
use Rattle.sc_value.specs.declared.parts.Via.{Via}
use Rattle.sc_value.specs.declared.parts.Field.{Field}
use Rattle.sc_syntax.specs.declared.left.Left.{Left}
use Rattle.sc_syntax.specs.declared.left.Lists.{Lists}
use Rattle.sc_syntax.specs.declared.left.Singles.{Singles}
use Rattle.sc_syntax.specs.declared.left.Header.{Header}
use Rattle.sc_syntax.specs.declared.left.Header.TheVariants as headers
use Rattle.sc_tokens.specs.Bytes.{Bytes}
use Rattle.sc_tokens.specs.Numbers.{number_of}
use Rattle.sc_syntax.specs.Vias.{vias_of}
use Rattle.sc_syntax.specs.Addresses.{address_of, addresses_of, contacts_of}
use Rattle.sc_syntax.specs.Sequences.{cseq_of, hops_of}
use Rattle.sc_syntax.specs.Judging.{has_branch, in_line, with_header as taken}
use Rattle.sc_spelling.proofs.Entries.{Entry, Of, values_at, fields_at, then_taken, all_taken}

-- each value is read as some of the items, and all together are these, in order
unfoldable pub ReadsAll : {X : Type 0} → (Bytes → Option (List X)) → List Bytes → List X → Type 0
ReadsAll read [] items = items ≡ []
ReadsAll read (value ∷ values) items = (first more : List _) × (in_line read value ≡ Some first) × ReadsAll read values more × (items ≡ first ++ more)

-- there is no value and nothing, or one, read so
unfoldable pub ReadsOnce : {X : Type 0} → (Bytes → Option X) → List Bytes → Option X → Type 0
ReadsOnce read [] o = o ≡ None
ReadsOnce read (value ∷ []) o = (x : _) × (in_line read value ≡ Some x) × (o ≡ Some x)
ReadsOnce read (value ∷ next ∷ more) o = ⊥

-- the fields are these, each with a value of one line
abbrev pub ReadsFields : List Field → List Field → Type 0
ReadsFields fields others = (fields ≡ others) × (list_all (λ field. is_one_line field.value) fields ≡ true)

-- what the headers leave
pub record Reads (entries : List Entry) (lists : Lists) (singles : Singles) : Type 0 where
  pub via : ReadsAll vias_of (values_at headers.Via entries) lists.via
  pub route : ReadsAll addresses_of (values_at headers.Route entries) lists.route
  pub record_route : ReadsAll addresses_of (values_at headers.RecordRoute entries) lists.record_route
  pub contact : ReadsAll contacts_of (values_at headers.Contact entries) lists.contact
  pub others : ReadsFields (fields_at headers.Other entries) lists.others
  pub from : ReadsOnce address_of (values_at headers.From entries) singles.from
  pub to : ReadsOnce address_of (values_at headers.To entries) singles.to
  pub call_id : ReadsOnce Some (values_at headers.CallId entries) singles.call_id
  pub cseq : ReadsOnce cseq_of (values_at headers.CSeq entries) singles.cseq
  pub max_forwards : ReadsOnce hops_of (values_at headers.MaxForwards entries) singles.hops
  pub content_length : ReadsOnce number_of (values_at headers.ContentLength entries) singles.length

-- ## What was left before, and this

unfoldable pub held : {X : Type 0} → Option X → ℕ
held None = 0
held (Some x) = 1

unfoldable pub either_of : {X : Type 0} → Option X → Option X → Option X
either_of None o = o
either_of (Some x) o = Some x

-- one of both isn't there
unfoldable pub are_apart : {X : Type 0} → Option X → Option X → Bool
are_apart None o = true
are_apart (Some x) None = true
are_apart (Some x) (Some y) = false

unfoldable pub count : Lists → Singles → ℕ
count lists singles =
    (length lists.via + length lists.route + length lists.record_route + length lists.contact + length lists.others)
    + (held singles.from + held singles.to + held singles.call_id + held singles.cseq + held singles.hops + held singles.length)

abbrev pub joined : Lists → Lists → Lists
joined a b = record {
  via = a.via ++ b.via;
  route = a.route ++ b.route;
  record_route = a.record_route ++ b.record_route;
  contact = a.contact ++ b.contact;
  others = a.others ++ b.others;
}

abbrev pub merged : Singles → Singles → Singles
merged a b = record {
  from = either_of a.from b.from;
  to = either_of a.to b.to;
  call_id = either_of a.call_id b.call_id;
  cseq = either_of a.cseq b.cseq;
  hops = either_of a.hops b.hops;
  length = either_of a.length b.length;
}

-- the first Via has its branch, where there is one
unfoldable pub begins_so : List Via → Bool
begins_so [] = true
begins_so (via ∷ vias) = has_branch via

-- these may come behind what was left
pub record Fits (left : Left) (lists : Lists) (singles : Singles) : Type 0 where
  pub room : count lists singles ≤ left.room
  pub begun : begins_so (left.lists.via ++ lists.via) ≡ true
  pub from : are_apart left.singles.from singles.from ≡ true
  pub to : are_apart left.singles.to singles.to ≡ true
  pub call_id : are_apart left.singles.call_id singles.call_id ≡ true
  pub cseq : are_apart left.singles.cseq singles.cseq ≡ true
  pub max_forwards : are_apart left.singles.hops singles.hops ≡ true
  pub content_length : are_apart left.singles.length singles.length ≡ true

-- the headers are taken, and leave both together
pub record Ends (left : Left) (entries : List Entry) (lists : Lists) (singles : Singles) : Type 0 where
  pub final : Left
  pub taken_so : all_taken left entries ≡ Ok final
  pub lists_are : final.lists ≡ joined left.lists lists
  pub singles_are : final.singles ≡ merged left.singles singles

-- ## One header more

pub ends_on : (left next : Left) (kind : Header) (name value : Bytes) (entries : List Entry) (lists more : Lists) (singles others : Singles) → taken left name kind value ≡ Ok next → Ends next entries more others
    → joined next.lists more ≡ joined left.lists lists → merged next.singles others ≡ merged left.singles singles → Ends left (Of kind name value ∷ entries) lists singles
unfolding all_taken then_taken
ends_on left next kind name value entries lists more singles others step h l s = record {
  final = h.final;
  taken_so = ap (λ r. then_taken r (λ n. all_taken n entries)) step ∙ h.taken_so;
  lists_are = h.lists_are ∙ l;
  singles_are = h.singles_are ∙ s;
}

pub is_within : (n m : ℕ) → n ≤ m → nat_le n m ≡ true
is_within n m h = grind (arith, nat_tests, h)

-- a first value of a header that stands once
pub once_split : {X : Type 0} (read : Bytes → Option X) (value : Bytes) (values : List Bytes) (o : Option X) → ReadsOnce read (value ∷ values) o → (x : X) × (in_line read value ≡ Some x) × (o ≡ Some x) × ReadsOnce read values None
unfolding ReadsOnce
once_split read value [] o h = (h.0, h.1, h.2, refl)
once_split read value (next ∷ more) o h = absurd h

pub apart_none : {X : Type 0} (a b : Option X) (x : X) → b ≡ Some x → are_apart a b ≡ true → a ≡ None
unfolding are_apart
apart_none None b x is h = refl
apart_none (Some y) None x is h = let bad : ◌≡◌ {A = Option _} None (Some x) = is in cc
apart_none (Some y) (Some z) x is h = absurd (false≢true h)

no_less : (n : ℕ) → not (suc n == 0) ≡ true
no_less n = grind (arith, nat_tests)

pub begun_by : (before first more : List Via) → ¬ (first ≡ []) → begins_so (before ++ (first ++ more)) ≡ true → (not (length before == 0) || option_map_or has_branch (slice_get first 0) false) ≡ true
unfolding begins_so
begun_by [] [] more some h = absurd (some refl)
begun_by [] (via ∷ vias) more some h = h
begun_by (via ∷ vias) first more some h = ap (λ t. t || option_map_or has_branch (slice_get first 0) false) (no_less (length vias))
