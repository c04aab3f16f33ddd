-- Which texts spell a Via: its written form, with blanks round its signs, and with leading zeros of
-- the port (RFC 3261 sections 20.42 and 25.1).
use Rattle.std.specs.Prelude.{◌≡◌, true, false, List, ◌∷◌, ◌++◌, ◌==◌, length, codes}
use Rattle.sc_tokens.specs.Tokens.{is_token}
use Rattle.sc_value.specs.declared.parts.Via.{Via}
use Rattle.sc_tokens.specs.Bytes.{Bytes}
use Rattle.sc_tokens.specs.Hosts.{is_host}
use Rattle.sc_tokens.specs.Signs.{comma, slash}
use Rattle.sc_syntax.specs.SpelledUris.{IsPortSpelled}
use Rattle.sc_syntax.specs.SpelledParts.{IsBlanks, Padded, AreListed, AreParamsSpelled}

-- transport, one blank or more, host and port
abbrev pub IsHopSpelled : Bytes → Via → Type 0
IsHopSpelled text via =
    (is_token via.transport ≡ true) × (is_host via.host ≡ true) × (gap port : Bytes) × IsBlanks gap
    × ((length gap == 0) ≡ false) × IsPortSpelled port via.port
    × (text ≡ via.transport ++ (gap ++ (via.host ++ port)))

-- `SIP`, a slash, `2.0`, a slash, all this, and the parameters
abbrev pub IsViaSpelled : Bytes → Via → Type 0
IsViaSpelled text via =
    (name version inner hop rest : Bytes) × Padded (codes "SIP") name × Padded (codes "2.0") version
    × IsHopSpelled inner via × Padded inner hop × AreParamsSpelled rest via.params
    × (text ≡ name ++ slash ∷ (version ++ slash ∷ (hop ++ rest)))

-- Vias with commas between
abbrev pub AreViasSpelled : Bytes → List Via → Type 0
AreViasSpelled text vias = AreListed comma IsViaSpelled text vias
