-- Fields with the kinds of their headers, and what a reader makes of them.
use Rattle.std.proofs.Common.{◌≡◌, ℕ, Bool, true, false, cond, not, Result, Ok, Err, List, [], ◌∷◌, ◌||◌, ◌==◌, map, refl, sym, ap, subst, ◌∙◌}
use Rattle.std.specs.Prelude.{filter}
use Rattle.std.specs.Char.{to_ascii_lowercase}
use Rattle.std.proofs.lemmas.Bool.{false≢true}
use Rattle.sc_tokens.specs.HeaderNames.{is_dialog_name, is_routing_name, via_name, route_name, record_route_name, max_forwards_name, from_name, to_name, call_id_name, cseq_name, contact_name, content_length_name}
use Rattle.sc_tokens.specs.Names.{same_bytes, same_name}
use Rattle.sc_value.specs.declared.parts.Field.{Field}
use Rattle.sc_syntax.specs.declared.left.Left.{Left}
use Rattle.sc_syntax.specs.declared.left.Header.{Header}
use Rattle.sc_syntax.specs.declared.left.Header.TheVariants as headers
use Rattle.sc_tokens.specs.Bytes.{Bytes}
use Rattle.sc_syntax.specs.Fronts.{values_of}
use Rattle.sc_syntax.specs.Judging.{header_named, with_header as taken}
use Rattle.sc_syntax.proofs.ListedLaws.{same_text}
use Rattle.sc_syntax.proofs.ClassLaws.{same_number, itself}
use Rattle.sc_spelling.specs.SpelledHeads.{is_other}

-- ## Kinds

unfoldable pub number_at : Header → ℕ
number_at headers.Via = 0
number_at headers.Route = 1
number_at headers.RecordRoute = 2
number_at headers.Contact = 3
number_at headers.From = 4
number_at headers.To = 5
number_at headers.CallId = 6
number_at headers.CSeq = 7
number_at headers.MaxForwards = 8
number_at headers.ContentLength = 9
number_at headers.Other = 10

-- the two kinds are one
unfoldable pub is_kind : Header → Header → Bool
is_kind kind other = number_at kind == number_at other

-- a header with its kind, its name and its value
pub data Entry : Type 0 where
  Of : Header → Bytes → Bytes → Entry

unfoldable pub entry_of : Field → Entry
entry_of field = Of (header_named field.name) field.name field.value

unfoldable pub values_at : Header → List Entry → List Bytes
values_at kind [] = []
values_at kind (Of of name value ∷ more) = cond (is_kind kind of) (value ∷ values_at kind more) (values_at kind more)

unfoldable pub fields_at : Header → List Entry → List Field
fields_at kind [] = []
fields_at kind (Of of name value ∷ more) = cond (is_kind kind of) (record { name = name; value = value } ∷ fields_at kind more) (fields_at kind more)

unfoldable pub then_taken : Result Left ℕ → (Left → Result Left ℕ) → Result Left ℕ
then_taken (Ok left) next = next left
then_taken (Err kind) next = Err kind

-- the headers, one by one
unfoldable pub all_taken : Left → List Entry → Result Left ℕ
all_taken left [] = Ok left
all_taken left (Of kind name value ∷ more) = then_taken (taken left name kind value) (λ next. all_taken next more)

-- ## Names tell the kinds

unfoldable name_at : Header → Bytes
name_at headers.Via = via_name
name_at headers.Route = route_name
name_at headers.RecordRoute = record_route_name
name_at headers.Contact = contact_name
name_at headers.From = from_name
name_at headers.To = to_name
name_at headers.CallId = call_id_name
name_at headers.CSeq = cseq_name
name_at headers.MaxForwards = max_forwards_name
name_at headers.ContentLength = content_length_name
name_at headers.Other = []

unfoldable kind_at : ℕ → Header
kind_at n =
    cond (n == 0) headers.Via (cond (n == 1) headers.Route (cond (n == 2) headers.RecordRoute (cond (n == 3) headers.Contact (cond (n == 4) headers.From (cond (n == 5) headers.To
    (cond (n == 6) headers.CallId (cond (n == 7) headers.CSeq (cond (n == 8) headers.MaxForwards (cond (n == 9) headers.ContentLength headers.Other)))))))))

kind_again : (kind : Header) → kind_at (number_at kind) ≡ kind
unfolding kind_at number_at
kind_again headers.Via = refl
kind_again headers.Route = refl
kind_again headers.RecordRoute = refl
kind_again headers.Contact = refl
kind_again headers.From = refl
kind_again headers.To = refl
kind_again headers.CallId = refl
kind_again headers.CSeq = refl
kind_again headers.MaxForwards = refl
kind_again headers.ContentLength = refl
kind_again headers.Other = refl

pub same_kind : (a b : Header) → is_kind a b ≡ true → a ≡ b
unfolding is_kind
same_kind a b h = sym (kind_again a) ∙ ap kind_at (same_number (number_at a) (number_at b) h) ∙ kind_again b

pub kind_itself : (kind : Header) → is_kind kind kind ≡ true
unfolding is_kind
kind_itself kind = itself (number_at kind)

-- by the name in lower case
unfoldable kind_of : Bytes → Header
kind_of lower =
    cond (same_bytes lower (map to_ascii_lowercase via_name)) headers.Via (cond (same_bytes lower (map to_ascii_lowercase route_name)) headers.Route
    (cond (same_bytes lower (map to_ascii_lowercase record_route_name)) headers.RecordRoute (cond (same_bytes lower (map to_ascii_lowercase contact_name)) headers.Contact
    (cond (same_bytes lower (map to_ascii_lowercase from_name)) headers.From (cond (same_bytes lower (map to_ascii_lowercase to_name)) headers.To
    (cond (same_bytes lower (map to_ascii_lowercase call_id_name)) headers.CallId (cond (same_bytes lower (map to_ascii_lowercase cseq_name)) headers.CSeq
    (cond (same_bytes lower (map to_ascii_lowercase max_forwards_name)) headers.MaxForwards (cond (same_bytes lower (map to_ascii_lowercase content_length_name)) headers.ContentLength headers.Other)))))))))

by_lower : (name : Bytes) → header_named name ≡ kind_of (map to_ascii_lowercase name)
unfolding header_named kind_of same_name
by_lower name = refl

-- a header that isn't without structure has the name of its kind
abbrev IsNamedSo : Bytes → Header → Type 0
IsNamedSo name kind = (is_kind headers.Other kind || same_name name (name_at kind)) ≡ true

choose : (name : Bytes) (t : Bool) (a b : Header) → (t ≡ true → IsNamedSo name a) → IsNamedSo name b → IsNamedSo name (cond t a b)
choose name true a b g h = g refl
choose name false a b g h = h

named_so : (name : Bytes) → IsNamedSo name (header_named name)
unfolding header_named is_kind number_at name_at
named_so name =
    choose name (same_name name via_name) headers.Via _ (λ e. e) (choose name (same_name name route_name) headers.Route _ (λ e. e)
    (choose name (same_name name record_route_name) headers.RecordRoute _ (λ e. e) (choose name (same_name name contact_name) headers.Contact _ (λ e. e)
    (choose name (same_name name from_name) headers.From _ (λ e. e) (choose name (same_name name to_name) headers.To _ (λ e. e)
    (choose name (same_name name call_id_name) headers.CallId _ (λ e. e) (choose name (same_name name cseq_name) headers.CSeq _ (λ e. e)
    (choose name (same_name name max_forwards_name) headers.MaxForwards _ (λ e. e) (choose name (same_name name content_length_name) headers.ContentLength headers.Other (λ e. e) refl)))))))))

or_second : (a b : Bool) → a ≡ false → (a || b) ≡ true → b ≡ true
or_second true b g h = absurd (false≢true (sym g))
or_second false b g h = h

-- the name of a kind is what tells it
is_named : (name wanted : Bytes) (kind : Header) → name_at kind ≡ wanted → is_kind headers.Other kind ≡ false → kind_of (map to_ascii_lowercase wanted) ≡ kind → same_name name wanted ≡ is_kind kind (header_named name)
unfolding same_name
is_named name wanted kind is structured again = elim (same_name name wanted) as (λ (t : Bool). same_name name wanted ≡ t → t ≡ is_kind kind (header_named name)) [
  | true ↦ λ e. sym (ap (is_kind kind) (by_lower name ∙ ap kind_of (same_text (map to_ascii_lowercase name) (map to_ascii_lowercase wanted) e) ∙ again) ∙ kind_itself kind)
  | false ↦ λ e. elim (is_kind kind (header_named name)) as (λ (t : Bool). is_kind kind (header_named name) ≡ t → false ≡ t) [
    | false ↦ λ g. refl
    | true ↦ λ g.
        let so : IsNamedSo name kind = subst (IsNamedSo name) (sym (same_kind kind (header_named name) g)) (named_so name) in
        sym e ∙ ap (same_name name) (sym is) ∙ or_second (is_kind headers.Other kind) (same_name name (name_at kind)) structured so
  ] refl
] refl

names_again : (kind_of (map to_ascii_lowercase via_name) ≡ headers.Via) × (kind_of (map to_ascii_lowercase route_name) ≡ headers.Route) × (kind_of (map to_ascii_lowercase record_route_name) ≡ headers.RecordRoute)
    × (kind_of (map to_ascii_lowercase contact_name) ≡ headers.Contact) × (kind_of (map to_ascii_lowercase from_name) ≡ headers.From) × (kind_of (map to_ascii_lowercase to_name) ≡ headers.To)
    × (kind_of (map to_ascii_lowercase call_id_name) ≡ headers.CallId) × (kind_of (map to_ascii_lowercase cseq_name) ≡ headers.CSeq) × (kind_of (map to_ascii_lowercase max_forwards_name) ≡ headers.MaxForwards)
    × (kind_of (map to_ascii_lowercase content_length_name) ≡ headers.ContentLength)
unfolding kind_of via_name route_name record_route_name contact_name from_name to_name call_id_name cseq_name max_forwards_name content_length_name
names_again = (refl, refl, refl, refl, refl, refl, refl, refl, refl, refl)

-- the name tells the kind
abbrev pub Tells : Bytes → Header → Type 0
Tells wanted kind = (name : Bytes) → same_name name wanted ≡ is_kind kind (header_named name)

pub via_tells : Tells via_name headers.Via
unfolding name_at is_kind number_at
via_tells name = is_named name via_name headers.Via refl refl names_again.0

pub route_tells : Tells route_name headers.Route
unfolding name_at is_kind number_at
route_tells name = is_named name route_name headers.Route refl refl names_again.1

pub record_route_tells : Tells record_route_name headers.RecordRoute
unfolding name_at is_kind number_at
record_route_tells name = is_named name record_route_name headers.RecordRoute refl refl names_again.2

pub contact_tells : Tells contact_name headers.Contact
unfolding name_at is_kind number_at
contact_tells name = is_named name contact_name headers.Contact refl refl names_again.3

pub from_tells : Tells from_name headers.From
unfolding name_at is_kind number_at
from_tells name = is_named name from_name headers.From refl refl names_again.4

pub to_tells : Tells to_name headers.To
unfolding name_at is_kind number_at
to_tells name = is_named name to_name headers.To refl refl names_again.5

pub call_id_tells : Tells call_id_name headers.CallId
unfolding name_at is_kind number_at
call_id_tells name = is_named name call_id_name headers.CallId refl refl names_again.6

pub cseq_tells : Tells cseq_name headers.CSeq
unfolding name_at is_kind number_at
cseq_tells name = is_named name cseq_name headers.CSeq refl refl names_again.7

pub max_forwards_tells : Tells max_forwards_name headers.MaxForwards
unfolding name_at is_kind number_at
max_forwards_tells name = is_named name max_forwards_name headers.MaxForwards refl refl names_again.8

pub content_length_tells : Tells content_length_name headers.ContentLength
unfolding name_at is_kind number_at
content_length_tells name = is_named name content_length_name headers.ContentLength refl refl names_again.9

by_kind : (kind : Header) → not ((is_kind headers.From kind || is_kind headers.To kind || is_kind headers.CallId kind || is_kind headers.CSeq kind || is_kind headers.Contact kind)
    || (is_kind headers.Via kind || is_kind headers.Route kind || is_kind headers.RecordRoute kind || is_kind headers.MaxForwards kind || is_kind headers.ContentLength kind)) ≡ is_kind headers.Other kind
unfolding is_kind number_at
by_kind headers.Via = refl
by_kind headers.Route = refl
by_kind headers.RecordRoute = refl
by_kind headers.Contact = refl
by_kind headers.From = refl
by_kind headers.To = refl
by_kind headers.CallId = refl
by_kind headers.CSeq = refl
by_kind headers.MaxForwards = refl
by_kind headers.ContentLength = refl
by_kind headers.Other = refl

-- no name of a structured header tells the others
pub other_tells : (field : Field) → is_other field ≡ is_kind headers.Other (header_named field.name)
unfolding is_other is_dialog_name is_routing_name
other_tells field =
    let name = field.name in
    rw (from_tells name, to_tells name, call_id_tells name, cseq_tells name, contact_tells name, via_tells name, route_tells name, record_route_tells name, max_forwards_tells name, content_length_tells name) (by_kind (header_named name))

-- ## Values

by_test : (s t : Bool) (field : Field) (fields : List Field) (values : List Bytes) → s ≡ t → map (λ f. f.value) fields ≡ values → map (λ (f : Field). f.value) (cond s (field ∷ fields) fields) ≡ cond t (field.value ∷ values) values
by_test true true field fields values e h = ap (λ l. field.value ∷ l) h
by_test false false field fields values e h = h
by_test true false field fields values e h = absurd (false≢true (sym e))
by_test false true field fields values e h = absurd (false≢true e)

pub same_values : (wanted : Bytes) (kind : Header) → Tells wanted kind → (fields : List Field) → values_of wanted fields ≡ values_at kind (map entry_of fields)
unfolding values_of values_at entry_of
same_values wanted kind tells [] = refl
same_values wanted kind tells (field ∷ fields) =
    by_test (same_name field.name wanted) (is_kind kind (header_named field.name)) field (filter (λ f. same_name f.name wanted) fields) (values_at kind (map entry_of fields)) (tells field.name) (same_values wanted kind tells fields)

by_both : (s t : Bool) (field : Field) (fields others : List Field) → s ≡ t → fields ≡ others → cond s (field ∷ fields) fields ≡ cond t (field ∷ others) others
by_both true true field fields others e h = ap (λ l. field ∷ l) h
by_both false false field fields others e h = h
by_both true false field fields others e h = absurd (false≢true (sym e))
by_both false true field fields others e h = absurd (false≢true e)

pub same_others : (fields : List Field) → filter is_other fields ≡ fields_at headers.Other (map entry_of fields)
unfolding fields_at entry_of
same_others [] = refl
same_others (field ∷ fields) =
    by_both (is_other field) (is_kind headers.Other (header_named field.name)) field (filter is_other fields) (fields_at headers.Other (map entry_of fields)) (other_tells field) (same_others fields)
