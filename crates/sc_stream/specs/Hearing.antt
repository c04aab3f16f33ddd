-- What a stream answers (RFC 3261 section 18.3).
use Rattle.std.specs.Prelude.{◌≡◌, ℕ, List, [], ◌∷◌, ◌++◌, Option, drop, ⊤}
use Rattle.sc_value.specs.declared.message.Message.{Message}
use Rattle.sc_value.specs.declared.answerable.Answerable.{Answerable}
use Rattle.sc_syntax.specs.declared.front.Front.TheVariants as fronts
use Rattle.sc_tokens.specs.Bytes.{Bytes}
use Rattle.sc_syntax.specs.Fronts.{behind_breaks}
use Rattle.sc_stream.specs.declared.streams.Heard.{Heard}
use Rattle.sc_stream.specs.declared.streams.Heard.TheVariants as heard
use Rattle.sc_stream.specs.Frames.{front_behind}

-- what is heard of these kept bytes, and what is kept then
abbrev pub Hears : Heard → Bytes → Bytes → Type 0
Hears (heard.Message message) old now =
    (len : ℕ) × (front_behind old ≡ fronts.Whole len message) × (now ≡ drop len (behind_breaks old))
Hears heard.NotYet old now = (front_behind old ≡ fronts.Open) × (now ≡ old)
Hears (heard.Bad bad) old now =
    (front_behind old ≡ fronts.Bad bad.at bad.kind bad.heads) × (now ≡ old)
Hears heard.Long old now = (front_behind old ≡ fronts.Long) × (now ≡ old)
Hears heard.NoMemory old now = now ≡ old

-- the answer of a head with this fault
abbrev pub IsBad : Heard → ℕ → ℕ → Option Answerable → Type 0
IsBad (heard.Message message) at kind heads = ⊥
IsBad heard.NotYet at kind heads = ⊥
IsBad (heard.Bad bad) at kind heads = (bad.at ≡ at) × (bad.kind ≡ kind) × (bad.heads ≡ heads)
IsBad heard.Long at kind heads = ⊥
IsBad heard.NoMemory at kind heads = ⊤

-- the messages that were given, with the one that is heard
abbrev pub given_after : List Message → Heard → List Message
given_after given (heard.Message message) = given ++ message ∷ []
given_after given heard.NotYet = given
given_after given (heard.Bad bad) = given
given_after given heard.Long = given
given_after given heard.NoMemory = given
