-- Looking a parameter up by its name (RFC 3261 sections 7.3.1 and 19.1.4).
use Rattle.std.specs.Prelude.{List, ℕ, Bool, Option, codes, option_and_then}
use Rattle.std.specs.List.{find}
use Rattle.sc_tokens.specs.Names.{same_name}
use Rattle.sc_value.specs.declared.parts.Param.{Param}

-- the parameter of From and To that names a side of a dialog (RFC 3261 section 19.3)
unfoldable pub tag_name : List ℕ
tag_name = codes "tag"

-- the parameter of Via that names a transaction (RFC 3261 section 8.1.1.7)
unfoldable pub branch_name : List ℕ
branch_name = codes "branch"

-- the parameter has this name
abbrev pub is_named : List ℕ → Param → Bool
is_named name param = same_name param.name name

-- the value of the first parameter of this name, if it has one
unfoldable pub param_value : List ℕ → List Param → Option (List ℕ)
param_value name params = option_and_then (λ param. param.value) (find (is_named name) params)
