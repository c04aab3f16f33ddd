-- Addresses: `display <uri>;params`, or a bare URI whose semicolons begin header parameters (RFC
-- 3261 sections 20.10 and 25.1: name-addr, addr-spec). A display is kept as written: a quoted
-- string, or tokens with blanks between.
use Rattle.std.specs.Prelude.{ℕ, List, [], ◌∷◌, Option, Some, None, ◌==◌, length, take, drop, if◌then◌else◌, codes}
use Rattle.std.specs.List.{list_all}
use Rattle.std.specs.Option.{option_map, option_map_or, option_and_then}
use Rattle.std.specs.Result.{result_ok}
use Rattle.sc_tokens.specs.HeaderTokens.{is_display_byte}
use Rattle.sc_tokens.specs.Names.{same_bytes}
use Rattle.sc_value.specs.declared.parts.Param.{Param}
use Rattle.sc_value.specs.declared.parts.Address.{Address}
use Rattle.sc_value.specs.declared.parts.Contact.{Contact}
use Rattle.sc_value.specs.declared.parts.Contact.TheVariants.{Star, At}
use Rattle.sc_tokens.specs.Bytes.{Bytes}
use Rattle.sc_tokens.specs.Cuts.{before, after}
use Rattle.sc_tokens.specs.Hosts.{begins, is_none_left}
use Rattle.sc_tokens.specs.Quoted.{quoted_end}
use Rattle.sc_syntax.specs.Uris.{uri_of}
use Rattle.sc_tokens.specs.Blanks.{without_blanks}
use Rattle.sc_tokens.specs.Signs.{left_angle, quote, right_angle}
use Rattle.sc_syntax.specs.Scanning.{address_items, address_parts, all_read}
use Rattle.sc_syntax.specs.Parameters.{params_of}

-- the display, where there is one, and the text of the URI
abbrev pub Named : Type 0
Named = Option Bytes × Bytes

-- behind the opening bracket: the URI up to the closing one, which ends the text
unfoldable pub uri_in_brackets : Bytes → Option Bytes
uri_in_brackets text =
    if is_none_left (after right_angle text) then Some (before right_angle text) else None

-- a URI in its brackets
unfoldable pub in_brackets : Bytes → Option Bytes
in_brackets text = if begins left_angle text then uri_in_brackets (drop 1 text) else None

-- a quoted string of so many bytes, and a URI in its brackets
unfoldable pub quoted_named : Bytes → ℕ → Option Named
quoted_named text end =
    option_map (λ uri. (Some (take end text), uri)) (in_brackets (without_blanks (drop end text)))

-- none, or the text
unfoldable pub unless_empty : Bytes → Option Bytes
unless_empty text = if length text == 0 then None else Some text

-- tokens, or none, and what stands behind the opening bracket
unfoldable pub token_named : Bytes → Bytes → Option Named
token_named display rest =
    if list_all is_display_byte display
    then option_map (λ uri. (unless_empty display, uri)) (uri_in_brackets rest)
    else None

-- the first part between semicolons, without blanks round it: without an opening bracket it is a
-- bare URI
unfoldable pub named_in : Bytes → Option Named
named_in text =
    if begins quote text
    then option_and_then (quoted_named text) (quoted_end 0 text)
    else option_map_or (token_named (without_blanks (before left_angle text)))
    (after left_angle text)
    (Some (None, text))

-- the address, where the URI is one
unfoldable pub with_uri : List Param → Named → Option Address
with_uri params named =
    option_map (λ uri. record { display = named.0; uri = uri; params = params })
    (result_ok (uri_of named.1))

-- the first part between semicolons, with these parameters
unfoldable pub address_with : Bytes → List Param → Option Address
address_with text params = option_and_then (with_uri params) (named_in (without_blanks text))

-- the parts between semicolons
unfoldable pub address_in : List Bytes → Option Address
address_in [] = None
address_in (first ∷ more) = option_and_then (address_with first) (params_of more)

-- one address, as From and To have
unfoldable pub address_of : Bytes → Option Address
address_of text = address_in (address_parts text)

-- addresses with commas between, as Route and Record-Route have
unfoldable pub addresses_of : Bytes → Option (List Address)
addresses_of text = all_read address_of (address_items text)

-- an item of Contact: `*` alone, or an address
unfoldable pub contact_of : Bytes → Option Contact
contact_of text =
    if same_bytes (without_blanks text) (codes "*") then Some Star
    else option_map At (address_of text)

-- items with commas between
unfoldable pub contacts_of : Bytes → Option (List Contact)
contacts_of text = all_read contact_of (address_items text)
