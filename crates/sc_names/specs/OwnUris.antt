-- The pieces of an own URI's text (RFC 3261 section 19.1.1).
use Rattle.std.specs.Prelude.{ℕ, ◌++◌, decimal, codes}
use Rattle.sc_tokens.specs.Bytes.{Bytes}
use Rattle.sc_grammar.specs.Written.{param_text, scheme}
use Rattle.sc_model.specs.Names.{tcp_param, loose_param}

-- `sip:host:port`
unfoldable pub listen_text : Bytes → ℕ → Bytes
listen_text host port = scheme ++ host ++ codes ":" ++ decimal port

-- `;transport=tcp;lr`
unfoldable pub fixed_params : Bytes
fixed_params = param_text tcp_param ++ param_text loose_param

-- `;name=value`
unfoldable pub named_value : Bytes → Bytes → Bytes
named_value name value = codes ";" ++ name ++ codes "=" ++ value
