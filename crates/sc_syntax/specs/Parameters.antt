-- Header parameters: `name`, `name=value` or `name="a string"` (RFC 3261 section 25.1:
-- generic-param). Blanks may stand round a semicolon and not round `=`, where the RFC allows them.
-- A value is kept as written, a string with its quotes and escapes; it may be empty, which isn't
-- the same as none.
use Rattle.std.specs.Prelude.{true, List, Option, Some, None, ◌&&◌, if◌then◌else◌}
use Rattle.std.specs.Option.{option_map_or}
use Rattle.sc_tokens.specs.HeaderTokens.{is_param_text}
use Rattle.sc_tokens.specs.Tokens.{is_token}
use Rattle.sc_value.specs.declared.parts.Param.{Param}
use Rattle.sc_tokens.specs.Bytes.{Bytes}
use Rattle.sc_tokens.specs.Cuts.{before, after}
use Rattle.sc_tokens.specs.Blanks.{without_blanks}
use Rattle.sc_tokens.specs.Signs.{equal}
use Rattle.sc_syntax.specs.Scanning.{all_read}

-- a parameter without blanks round it
unfoldable pub param_in : Bytes → Option Param
param_in text =
    if is_token (before equal text) && option_map_or is_param_text (after equal text) true
    then Some (record { name = before equal text; value = after equal text })
    else None

-- one part between semicolons
unfoldable pub param_of : Bytes → Option Param
param_of text = param_in (without_blanks text)

-- the parts between semicolons
abbrev pub params_of : List Bytes → Option (List Param)
params_of texts = all_read param_of texts
