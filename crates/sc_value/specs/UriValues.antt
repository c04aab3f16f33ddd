-- A `sip:` URI as contracts see it, and what each keeps (RFC 3261 sections 19.1.1 and 25.1).
use Rattle.std.specs.Prelude.{◌≡◌, ◌<◌, ℕ, List, Option, IfSome, true}
use Rattle.std.specs.Option.{option_map_or}
use Rattle.sc_tokens.specs.Bytes.{is_open}
use Rattle.sc_tokens.specs.Hosts.{is_host}
use Rattle.sc_tokens.specs.UriTokens.{IsUser}
use Rattle.sc_value.specs.declared.parts.Param.{Param}
use Rattle.sc_value.specs.ParamRules.{AreUriParams}

-- a `sip:` URI: its user part with the password, host, port, parameters, and headers unread
pub record SipValue : Type 0 where
  pub user : Option (List ℕ)
  pub host : List ℕ
  pub port : Option ℕ
  pub params : List Param
  pub headers : Option (List ℕ)

-- what each `sip:` URI keeps
pub record IsSipUri (uri : SipValue) : Type 0 where
  pub user : IsUser uri.user uri.headers
  pub host : is_host uri.host ≡ true
  pub params : AreUriParams uri.params
  pub headers : option_map_or is_open uri.headers true ≡ true

-- the same with its port
abbrev pub IsSip : SipValue → Type 0
IsSip uri = IsSipUri uri × IfSome uri.port (λ port. port < 65536)
