-- What each item of a Contact keeps (RFC 3261 section 20.10).
use Rattle.std.specs.Prelude.{⊤}
use Rattle.sc_value.specs.declared.parts.Contact.{Contact}
use Rattle.sc_value.specs.declared.parts.Contact.TheVariants.{Star, At}
use Rattle.sc_value.specs.AddressValues.{IsAddress}

-- `*`, or an address
unfoldable pub IsContact : Contact → Type 0
IsContact Star = ⊤
IsContact (At address) = IsAddress address
