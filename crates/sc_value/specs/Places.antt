-- When two outside places, the ends of connections, are one (RFC 3261 section 18).
use Rattle.std.specs.Prelude.{◌==◌, Bool, false, ◌&&◌}
use Rattle.sc_tokens.specs.Names.{same_bytes}
use Rattle.sc_value.specs.declared.ids.Place.{Place}
use Rattle.sc_value.specs.declared.ids.Place.TheVariants.{Back, To}

-- the same connection of a peer, or the same address
unfoldable pub same_place : Place → Place → Bool
same_place (Back a) (Back b) = a == b
same_place (Back a) (To ip port) = false
same_place (To ip port) (Back b) = false
same_place (To ip port) (To other other_port) = same_bytes ip other && port == other_port
