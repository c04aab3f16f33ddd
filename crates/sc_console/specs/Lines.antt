-- What a line of the console asks for: `list`, or `drop H S` with decimals as in scripts. Both are
-- this project's own.
use Rattle.std.specs.Prelude.{ℕ, Option, None, Some, codes, if◌then◌else◌}
use Rattle.sc_tokens.specs.Bytes.{Bytes}
use Rattle.sc_tokens.specs.Cuts.{before, after}
use Rattle.sc_tokens.specs.Names.{same_bytes}
use Rattle.sc_script.specs.ScriptTexts.{MOST_COUNT, decimal_upto}
use Rattle.sc_console.specs.declared.asked.Asked.{Asked}
use Rattle.sc_console.specs.declared.asked.Asked.TheVariants as asks
use Rattle.sc_tokens.specs.Signs.{space}

-- the session of this host and serial, where both are numbers of their ranges
unfoldable pub asked_session : Option ℕ → Option ℕ → Asked
asked_session (Some host) (Some serial) = asks.Drop (record { host = host; serial = serial })
asked_session host serial = asks.Nothing

-- by the texts of host and serial: decimals up to 2^32 - 1 and up to the greatest count
unfoldable pub session_of : Bytes → Option Bytes → Asked
session_of host None = asks.Nothing
session_of host (Some serial) =
    asked_session (decimal_upto 4294967295 host) (decimal_upto MOST_COUNT serial)

-- `H S`
unfoldable pub session_in : Option Bytes → Asked
session_in None = asks.Nothing
session_in (Some text) = session_of (before space text) (after space text)

-- what a line, without its end, asks for
unfoldable pub asked_of : Bytes → Asked
asked_of line =
    if same_bytes line (codes "list") then asks.List
    else
    (if same_bytes (before space line) (codes "drop") then session_in (after space line)
    else asks.Nothing)
