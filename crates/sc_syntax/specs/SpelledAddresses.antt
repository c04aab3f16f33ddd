-- Which texts spell an address (RFC 3261 sections 20.10 and 25.1): its written form, with blanks
-- round its parts, or the bare URI where that can be told from what follows it.
use Rattle.std.specs.Prelude.{◌≡◌, Bool, true, false, None, List, [], ◌∷◌, ◌++◌, ◌&&◌, ◌⊎◌, unwrap_or, codes}
use Rattle.sc_tokens.specs.HeaderTokens.{IsDisplay}
use Rattle.sc_value.specs.declared.parts.Address.{Address}
use Rattle.sc_value.specs.declared.parts.Contact.{Contact}
use Rattle.sc_value.specs.declared.parts.Contact.TheVariants.{Star, At}
use Rattle.sc_tokens.specs.Bytes.{Bytes}
use Rattle.sc_tokens.specs.Cuts.{has}
use Rattle.sc_tokens.specs.Signs.{comma, left_angle, semicolon}
use Rattle.sc_syntax.specs.SpelledUris.{IsUriSpelled}
use Rattle.sc_syntax.specs.SpelledParts.{IsBlanks, Padded, AreListed, AreParamsSpelled}

-- the display, blanks or none, and the URI in its brackets
abbrev pub IsNamedSpelled : Bytes → Address → Type 0
IsNamedSpelled text address =
    IsDisplay address.display × (gap uri : Bytes) × IsBlanks gap × IsUriSpelled uri address.uri
    × (text ≡ unwrap_or address.display [] ++ (gap ++ left_angle ∷ (uri ++ codes ">")))

-- a URI without semicolon and, in a list, without comma
abbrev pub IsBareSpelled : Bool → Bytes → Address → Type 0
IsBareSpelled listed text address =
    (address.display ≡ None) × IsUriSpelled text address.uri × (has semicolon text ≡ false)
    × ((listed && has comma text) ≡ false)

-- one of both, and the parameters
abbrev pub IsAddressIn : Bool → Bytes → Address → Type 0
IsAddressIn listed text address =
    (inner first rest : Bytes) × (IsNamedSpelled inner address ⊎ IsBareSpelled listed inner address)
    × Padded inner first × AreParamsSpelled rest address.params × (text ≡ first ++ rest)

-- the address of From and To
abbrev pub IsAddressSpelled : Bytes → Address → Type 0
IsAddressSpelled text address = IsAddressIn false text address

-- those of Route and Record-Route
abbrev pub AreAddressesSpelled : Bytes → List Address → Type 0
AreAddressesSpelled text addresses = AreListed comma (IsAddressIn true) text addresses

-- an item of Contact
unfoldable pub IsContactSpelled : Bytes → Contact → Type 0
IsContactSpelled text Star = Padded (codes "*") text
IsContactSpelled text (At address) = IsAddressIn true text address

-- the items of Contact
abbrev pub AreContactsSpelled : Bytes → List Contact → Type 0
AreContactsSpelled text contacts = AreListed comma IsContactSpelled text contacts
