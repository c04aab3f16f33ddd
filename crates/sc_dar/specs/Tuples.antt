-- A tuple of a routing table (JSR 289 appendix C): six texts in quotes, between round brackets.
use Rattle.std.specs.Prelude.{ℕ, Bool, false, List, [], ◌∷◌, not, ◌&&◌, ◌==◌, ◌+◌, ◌^◌, Option, Some, None, Result, Ok, Err, option_map, option_and_then, codes, decimal, is_some, length, drop, nat_lt, if◌then◌else◌}
use Rattle.std.specs.List.{position}
use Rattle.std.specs.Option.{option_map_or}
use Rattle.sc_tokens.specs.Names.{same_bytes}
use Rattle.sc_value.specs.declared.ids.Region.{Region}
use Rattle.sc_value.specs.declared.ids.Region.TheVariants.{Originating, Terminating, Neutral}
use Rattle.sc_value.specs.declared.parts.Address.{Address}
use Rattle.sc_value.specs.declared.parts.Uri.{Uri}
use Rattle.sc_value.specs.declared.parts.Uri.TheVariants.{Sip, Other}
use Rattle.sc_terms.specs.declared.settings.Modifier.{Modifier}
use Rattle.sc_terms.specs.declared.settings.Modifier.TheVariants.{Route, RouteBack, NoRoute}
use Rattle.sc_terms.specs.declared.settings.Tuple.{Tuple}
use Rattle.sc_tokens.specs.Bytes.{Bytes}
use Rattle.sc_tokens.specs.Cuts.{has, before, after, onto_first}
use Rattle.sc_tokens.specs.Hosts.{begins}
use Rattle.sc_syntax.specs.UriParts.{Fault as UriFault}
use Rattle.sc_syntax.specs.Uris.{uri_of}
use Rattle.sc_dar.specs.Lines.{drop_blanks, is_blank_text}
use Rattle.sc_tokens.specs.Signs.{carriage_return, comma, left_angle, quote, right_angle, right_parenthesis}

-- ## Kinds of refusals

-- a tuple isn't six texts in quotes between brackets, or something stands behind it
abbrev pub BAD_TUPLE : ℕ
BAD_TUPLE = 2

-- the third text is no region
abbrev pub BAD_REGION : ℕ
BAD_REGION = 3

-- the fifth text is no modifier
abbrev pub BAD_MODIFIER : ℕ
BAD_MODIFIER = 4

-- the sixth text isn't the tuple's place in its list, from 0
abbrev pub BAD_ORDER : ℕ
BAD_ORDER = 5

-- the first text names no application
abbrev pub UNKNOWN_APPLICATION : ℕ
UNKNOWN_APPLICATION = 6

-- the fourth text is neither empty nor a `sip:` URI
abbrev pub BAD_ROUTE : ℕ
BAD_ROUTE = 7

-- the tuple is the 65th of its method
abbrev pub TOO_MANY : ℕ
TOO_MANY = 9

-- a part that is read, and then what follows it; the first refusal counts
unfoldable pub then_read : {A B : Type 0} → Result A ℕ → (A → Result B ℕ) → Result B ℕ
then_read (Ok a) next = next a
then_read (Err kind) next = Err kind

-- what is there, else the refusal
abbrev pub or_refusal : {A : Type 0} → ℕ → Option A → Result A ℕ
or_refusal kind None = Err kind
or_refusal kind (Some a) = Ok a

-- ## The six texts

-- the six texts of a tuple, with or without their quotes
pub record TupleTexts : Type 0 where
  pub app : Bytes
  pub subscriber : Bytes
  pub region : Bytes
  pub route : Bytes
  pub modifier : Bytes
  pub order : Bytes

-- the parts between the commas that stand outside quotes
unfoldable pub parts : Bool → Bytes → List Bytes
parts text_in_quotes [] = [] ∷ []
parts text_in_quotes (b ∷ bs) =
    if b == comma && not text_in_quotes then [] ∷ parts false bs
    else onto_first b (parts (if b == quote then not text_in_quotes else text_in_quotes) bs)

-- the parts behind a comma, none where there is none
unfoldable pub parts_after : Option Bytes → List Bytes
parts_after None = []
parts_after (Some text) = parts false text

-- the first six of the parts, where there are so many, and the others
unfoldable pub first_six : List Bytes → Option (TupleTexts × List Bytes)
first_six (app ∷ subscriber ∷ region ∷ route ∷ modifier ∷ order ∷ more) =
    Some (
      record {
        app = app;
        subscriber = subscriber;
        region = region;
        route = route;
        modifier = modifier;
        order = order;
      },
      more,
    )
first_six fewer = None

-- what stands behind the sign at the front of the text, past blanks
unfoldable pub behind : ℕ → Bytes → Option Bytes
behind sign text = if begins sign (drop_blanks text) then Some (drop 1 (drop_blanks text)) else None

-- what stands before the closing quote, where that passes as the end of the text; no CR stands in
-- it
unfoldable pub before_quote : (Bytes → Bool) → Bytes → Option Bytes
before_quote is_end text =
    if option_map_or is_end (after quote text) false
    && not (has carriage_return (before quote text))
    then Some (before quote text)
    else None

-- the text in quotes, blanks before it, and such an end behind it
unfoldable pub text_in_quotes : (Bytes → Bool) → Bytes → Option Bytes
text_in_quotes is_end text = option_and_then (before_quote is_end) (behind quote text)

-- the bracket closes
unfoldable pub is_closing : Bytes → Bool
is_closing text = is_some (behind right_parenthesis text)

-- what stands behind the tuple's bracket, up to the next comma or the end; the order is its last
-- text
unfoldable pub behind_tuple : Bytes → Option Bytes
behind_tuple order =
    option_and_then (behind right_parenthesis)
    (option_and_then (after quote) (behind quote order))

-- blanks alone stand there
unfoldable pub is_parted : Bytes → Bool
is_parted order = option_map_or is_blank_text (behind_tuple order) false

-- the first of the six, behind the opening bracket
unfoldable pub opening : Bytes → Option Bytes
opening text = option_and_then (text_in_quotes is_blank_text) (behind 40 text)

-- the six texts without their quotes and brackets
unfoldable pub without_quotes : TupleTexts → Option TupleTexts
without_quotes t =
    option_and_then
    (λ app. option_and_then
    (λ subscriber. option_and_then
    (λ region. option_and_then
    (λ route. option_and_then
    (λ modifier. option_map
    (λ order. record {
      app = app;
      subscriber = subscriber;
      region = region;
      route = route;
      modifier = modifier;
      order = order;
    })
    (text_in_quotes is_closing t.order))
    (text_in_quotes is_blank_text t.modifier))
    (text_in_quotes is_blank_text t.route))
    (text_in_quotes is_blank_text t.region))
    (text_in_quotes is_blank_text t.subscriber))
    (opening t.app)

-- ## What they say

-- the region that a text names, with case (JSR 289 section 15.8)
unfoldable pub region_of : Bytes → Option Region
region_of text =
    if same_bytes text (codes "ORIGINATING") then Some Originating
    else (if same_bytes text (codes "TERMINATING") then Some Terminating
    else (if same_bytes text (codes "NEUTRAL") then Some Neutral
    else None))

-- the modifier that a text names, with case (JSR 289 section 15.6)
unfoldable pub modifier_of : Bytes → Option Modifier
modifier_of text =
    if same_bytes text (codes "ROUTE") then Some Route
    else (if same_bytes text (codes "ROUTE_BACK") then Some RouteBack
    else (if same_bytes text (codes "NO_ROUTE") then Some NoRoute
    else None))

-- the order, in decimal without leading zeros
abbrev pub order_of : ℕ → Bytes → Option ℕ
order_of order text = if same_bytes text (decimal order) then Some order else None

-- a place of 32 bits
abbrev pub of_32 : ℕ → Option ℕ
of_32 place = if nat_lt place (2 ^ 32) then Some place else None

-- the place of the first application of this name
abbrev pub app_of : List Bytes → Bytes → Option ℕ
app_of apps text = option_and_then of_32 (position (λ app. same_bytes app text) apps)

-- the URI alone, without display and parameters of the address
abbrev pub bare : Uri → Address
bare uri = record { display = None; uri = uri; params = [] }

-- a `sip:` URI as it is read
unfoldable pub sip_route : Result Uri UriFault → Option Address
sip_route (Ok (Sip uri)) = Some (bare (Sip uri))
sip_route (Ok (Other text)) = None
sip_route (Err fault) = None

-- what stands between angle brackets, or else the whole text
unfoldable pub without_brackets : Bytes → Option Bytes
without_brackets text =
    if begins left_angle text
    then option_and_then
    (λ rest. if length rest == 0 then Some (before right_angle (drop 1 text)) else None)
    (after right_angle (drop 1 text))
    else Some text

-- no route for an empty text, else a `sip:` URI, bare or in angle brackets (RFC 3261 section 20.34)
unfoldable pub route_of : Bytes → Option (Option Address)
route_of text =
    if length text == 0 then Some None
    else option_map Some (option_and_then (λ uri. sip_route (uri_of uri)) (without_brackets text))

-- the tuple that the texts say, at this place of its method, or the kind of the first that is wrong
unfoldable pub tuple_of : List Bytes → ℕ → TupleTexts → Result Tuple ℕ
tuple_of apps order t =
    then_read (or_refusal BAD_REGION (region_of t.region)) (λ region.
    then_read (or_refusal BAD_MODIFIER (modifier_of t.modifier)) (λ modifier.
    then_read (or_refusal BAD_ORDER (order_of order t.order)) (λ _.
    then_read (or_refusal UNKNOWN_APPLICATION (app_of apps t.app)) (λ app.
    then_read (or_refusal BAD_ROUTE (route_of t.route)) (λ route.
    Ok
    (record {
      app = app;
      subscriber = t.subscriber;
      region = region;
      route = route;
      modifier = modifier;
    }))))))

-- a method has at most 64 tuples
unfoldable pub tuple_within : ℕ → Tuple → Result Tuple ℕ
tuple_within order tuple = if nat_lt order 64 then Ok tuple else Err TOO_MANY

-- a comma or the end comes next
unfoldable pub tuple_before_comma : Bytes → Tuple → Result Tuple ℕ
tuple_before_comma order tuple = if is_parted order then Ok tuple else Err BAD_TUPLE

-- the tuple of six parts: its brackets and quotes are judged, then what it says, then whether there
-- are too many, and what stands behind it last
unfoldable pub tuple_at : List Bytes → ℕ → TupleTexts → Result Tuple ℕ
tuple_at apps order t =
    then_read (or_refusal BAD_TUPLE (without_quotes t)) (λ texts.
    then_read (tuple_of apps order texts) (λ tuple.
    then_read (tuple_within order tuple) (tuple_before_comma t.order)))

-- the tuples of the parts, six parts each, from this order on
unfoldable pub tuples_in : List Bytes → ℕ → List Bytes → Result (List Tuple) ℕ
tuples_in apps order [] = Ok []
tuples_in apps order (app ∷ subscriber ∷ region ∷ route ∷ modifier ∷ order_text ∷ more) =
    then_read
    (tuple_at apps order
    (record {
      app = app;
      subscriber = subscriber;
      region = region;
      route = route;
      modifier = modifier;
      order = order_text;
    })) (λ tuple.
    then_read (tuples_in apps (1 + order) more) (λ tuples.
    Ok (tuple ∷ tuples)))
tuples_in apps order fewer = Err BAD_TUPLE
