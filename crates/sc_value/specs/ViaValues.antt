-- A Via as contracts see it, and what each keeps (RFC 3261 sections 20.42 and 25.1).
use Rattle.std.specs.Prelude.{◌≡◌, ◌<◌, ℕ, List, Option, IfSome, true}
use Rattle.sc_tokens.specs.Tokens.{is_token}
use Rattle.sc_tokens.specs.Hosts.{is_host}
use Rattle.sc_value.specs.declared.parts.Param.{Param}
use Rattle.sc_value.specs.ParamRules.{AreHeaderParams}

-- a transport, a sent-by of host and port, and parameters
pub record ViaValue : Type 0 where
  pub transport : List ℕ
  pub host : List ℕ
  pub port : Option ℕ
  pub params : List Param

-- what each Via keeps
pub record IsVia (via : ViaValue) : Type 0 where
  pub transport : is_token via.transport ≡ true
  pub host : is_host via.host ≡ true
  pub port : IfSome via.port (λ port. port < 65536)
  pub params : AreHeaderParams via.params
