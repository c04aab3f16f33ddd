-- What the parts of a URI are made of (RFC 3261 sections 19.1.1 and 25.1).
use Rattle.std.specs.Prelude.{◌≡◌, Bool, true, false, Option, Some, None, not, ◌&&◌, ◌==◌, ◌∷◌, ◌++◌, length, codes, slice_get, ⊤}
use Rattle.std.specs.List.{list_all}
use Rattle.std.specs.Option.{option_map_or}
use Rattle.std.specs.Char.{is_ascii_alphabetic}
use Rattle.sc_tokens.specs.Names.{same_name}
use Rattle.sc_tokens.specs.Bytes.{Bytes, is_param_byte, is_scheme_byte, is_open}
use Rattle.sc_tokens.specs.Cuts.{has}
use Rattle.sc_tokens.specs.Signs.{at_sign, colon}

-- bytes of a parameter, one or more
unfoldable pub is_param_name : Bytes → Bool
is_param_name text = not (length text == 0) && list_all is_param_byte text

-- bytes of a parameter, where there is a value
unfoldable pub is_param_value : Option Bytes → Bool
is_param_value value = option_map_or (list_all is_param_byte) value true

-- a letter, then letters, digits and +-.
unfoldable pub is_scheme : Bytes → Bool
is_scheme text =
    option_map_or is_ascii_alphabetic (slice_get text 0) false && list_all is_scheme_byte text

-- the one scheme whose URIs are read in structure; it compares without case
unfoldable pub sip_scheme : Bytes
sip_scheme = codes "sip"

-- a user ends at the first @, so it has none; without a user nothing has one
unfoldable pub IsUser : Option Bytes → Option Bytes → Type 0
IsUser (Some user) headers = (is_open user ≡ true) × (has at_sign user ≡ false)
IsUser None None = ⊤
IsUser None (Some headers) = has at_sign headers ≡ false

-- a URI of another scheme
abbrev pub IsOtherSpelled : Bytes → Bytes → Type 0
IsOtherSpelled text other =
    (text ≡ other) × (is_open text ≡ true) × (scheme rest : Bytes) × (is_scheme scheme ≡ true)
    × (same_name scheme sip_scheme ≡ false) × (text ≡ scheme ++ colon ∷ rest)
