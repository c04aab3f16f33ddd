-- What a reader of texts answers. This project's own.
use Rattle.std.specs.Prelude.{◌≡◌, ℕ, ◌<◌, ◌^◌, false, ◌∷◌, ◌++◌, ◌==◌, Option, Some, IfSome, decimal}
use Rattle.std.specs.List.{list_any}
use Rattle.sc_value.specs.declared.ids.AppId.{AppId}
use Rattle.sc_tokens.specs.Bytes.{Bytes}
use Rattle.sc_tokens.specs.Signs.{hyphen}

-- the answer is the one value in range whose text the bytes are, and none where they are the text
-- of none
pub record IsRead {V : Type 0} (text : V → Bytes) (InRange : V → Type 0) (bytes : Bytes)
    (answer : Option V) : Type 0 where
  pub some : IfSome answer (λ v. InRange v × (bytes ≡ text v))
  pub one : (v : V) → InRange v → bytes ≡ text v → answer ≡ Some v

-- of 32 bits, and of 64
abbrev pub Is32 : ℕ → Type 0
Is32 n = n < 2 ^ 32

-- a number of 64 bits
abbrev pub Is64 : ℕ → Type 0
Is64 n = n < 2 ^ 64

-- a host's place of 32 bits and a serial of 64
abbrev pub IsApp : AppId → Type 0
IsApp app = Is32 app.host × Is64 app.serial

-- the same with a counter of 64 bits
abbrev pub IsCounted : AppId × ℕ → Type 0
IsCounted p = IsApp p.0 × Is64 p.1

-- the sign is none of the bytes
abbrev pub Lacks : ℕ → Bytes → Type 0
Lacks sign bytes = list_any (λ b. b == sign) bytes ≡ false

-- two texts with a sign between them
abbrev pub two_with_sign : ℕ → Bytes × Bytes → Bytes
two_with_sign sign p = p.0 ++ sign ∷ p.1

-- two numbers with `-` between them
abbrev pub pair_text : ℕ × ℕ → Bytes
pair_text p = decimal p.0 ++ hyphen ∷ decimal p.1
