-- The messages of a stream (RFC 3261 sections 7.5 and 18.3). A stream is cut into line ends that
-- are skipped, messages and a rest.
use Rattle.std.specs.Prelude.{◌≡◌, ℕ, Bool, true, false, List, [], ◌∷◌, drop}
use Rattle.sc_value.specs.declared.message.Message.{Message}
use Rattle.sc_syntax.specs.declared.front.Front.{Front}
use Rattle.sc_syntax.specs.declared.front.Front.TheVariants.{Open, Whole, Bad, Long}
use Rattle.sc_tokens.specs.Bytes.{Bytes}
use Rattle.sc_syntax.specs.Fronts.{behind_breaks, front_of}

-- what a text begins with, behind the line ends that are skipped
abbrev pub front_behind : Bytes → Front
front_behind text = front_of (behind_breaks text)

-- more bytes may change it
abbrev pub is_open : Front → Bool
is_open Open = true
is_open (Whole len message) = false
is_open (Bad at kind heads) = false
is_open Long = false

-- how many bytes the message has that is there
abbrev pub len_of : Front → ℕ
len_of Open = 0
len_of (Whole len message) = len
len_of (Bad at kind heads) = 0
len_of Long = 0

-- the stream begins with these messages, and this is what stands behind them
unfoldable pub Splits : List Message → Bytes → Bytes → Type 0
Splits [] fed rest = rest ≡ fed
Splits (message ∷ more) fed rest =
    (len : ℕ) × (front_behind fed ≡ Whole len message)
    × Splits more (drop len (behind_breaks fed)) rest
