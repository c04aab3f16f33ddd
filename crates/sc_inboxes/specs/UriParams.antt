-- Parameters of URIs (RFC 3261 section 19.1.1).
use Rattle.std.specs.Prelude.{Option, None}
use Rattle.sc_value.specs.declared.parts.Uri.{Uri}
use Rattle.sc_value.specs.declared.parts.Uri.TheVariants.{Sip, Other}
use Rattle.sc_value.specs.Params.{param_value}
use Rattle.sc_tokens.specs.Bytes.{Bytes}

-- the value of the parameter of this name
abbrev pub uri_param : Bytes → Uri → Option Bytes
uri_param name (Sip uri) = param_value name uri.params
uri_param name (Other text) = None
