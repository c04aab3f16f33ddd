-- A display and the text of a URI, as the definitions have them (RFC 3261 section 20.10).
use Rattle.std.specs.Option.{option_copied}
use Rattle.sc_syntax.specs.Addresses.{Named as Pair}
use Rattle.sc_head_text.specs.declared.named.Named.{Named}

-- the two as bytes
abbrev pub seen : Named → Pair
seen named = (option_copied named.display, named.uri.now)
