-- The parts of a `sip:` URI, and which of them is at fault (RFC 3261 sections 19.1.1 and 25.1).
use Rattle.std.specs.Prelude.{ℕ, Bool, true, Option, Some, None, List, [], ◌∷◌, Result, Ok, Err, ◌||◌, ◌&&◌, ◌==◌, ◌+◌, length, take, drop, if◌then◌else◌}
use Rattle.std.specs.Option.{option_map_or}
use Rattle.sc_tokens.specs.UriTokens.{is_param_name, is_param_value}
use Rattle.sc_value.specs.declared.parts.Param.{Param}
use Rattle.sc_tokens.specs.Bytes.{Bytes, is_open}
use Rattle.sc_tokens.specs.Numbers.{port_of}
use Rattle.sc_tokens.specs.Cuts.{before, after, pieces}
use Rattle.sc_tokens.specs.Hosts.{begins, is_host, host_len}
use Rattle.sc_tokens.specs.Signs.{colon, equal, semicolon}

-- where the first part at fault begins, and which part it is: 1 the scheme, 2 the host, 3 the
-- port, 4 a parameter or the headers
pub record Fault : Type 0 where
  pub at : ℕ
  pub kind : ℕ

-- the scheme is at fault; a byte that no URI holds is so too behind another scheme than `sip`
abbrev pub scheme_fault : Fault
scheme_fault = record { at = 0; kind = 1 }

-- the host at this place is at fault, or a user that begins there
abbrev pub host_fault : ℕ → Fault
host_fault at = record { at = at; kind = 2 }

-- the port at this place is at fault
abbrev pub port_fault : ℕ → Fault
port_fault at = record { at = at; kind = 3 }

-- the parameter or the headers at this place are at fault
abbrev pub param_fault : ℕ → Fault
param_fault at = record { at = at; kind = 4 }

-- a part that is read, and then what follows it; the first fault counts
unfoldable pub then_read : {A B : Type 0} → Result A Fault → (A → Result B Fault) → Result B Fault
then_read (Ok a) next = next a
then_read (Err fault) next = Err fault

-- ## Host and port

-- nothing, or a colon and the port's digits
unfoldable pub port_in : ℕ → Bytes → Result (Option ℕ) Fault
port_in at [] = Ok None
port_in at (sign ∷ digits) =
    option_map_or (λ port. Ok (Some port)) (port_of digits) (Err (port_fault at))

-- the host may end before this text
unfoldable pub is_port_start : Bytes → Bool
is_port_start text = length text == 0 || begins colon text

-- the port behind a host, whose first byte stands at this place
unfoldable pub sent_at : ℕ → Bytes → Result (Bytes × Option ℕ) Fault
sent_at at text =
    if is_host (take (host_len text) text) && is_port_start (drop (host_len text) text)
    then then_read (port_in (at + host_len text + 1) (drop (host_len text) text))
    (λ port. Ok (take (host_len text) text, port))
    else Err (host_fault at)

-- ## Parameters

-- `name` or `name=value`, at this place
unfoldable pub param_at : ℕ → Bytes → Result Param Fault
param_at at text =
    if is_param_name (before equal text) && is_param_value (after equal text)
    then Ok (record { name = before equal text; value = after equal text })
    else Err (param_fault at)

-- the parameters with semicolons between, of which the first stands at this place
unfoldable pub params_in : ℕ → List Bytes → Result (List Param) Fault
params_in at [] = Ok []
params_in at (text ∷ more) =
    then_read (param_at at text)
    (λ param. then_read (params_in (at + length text + 1) more) (λ params. Ok (param ∷ params)))

-- none, or those after the first semicolon
unfoldable pub params_at : ℕ → Option Bytes → Result (List Param) Fault
params_at at None = Ok []
params_at at (Some text) = params_in at (pieces semicolon text)

-- ## Headers

-- none, or all after the question mark, perhaps nothing
unfoldable pub headers_at : ℕ → Option Bytes → Result (Option Bytes) Fault
headers_at at headers =
    if option_map_or is_open headers true then Ok headers else Err (param_fault at)
