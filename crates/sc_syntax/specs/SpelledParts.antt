-- Which texts spell parts with separators between, and header parameters (RFC 3261 sections 7.3.1
-- and 25.1). The one freedom of a parameter is blanks round it.
use Rattle.std.specs.Prelude.{◌≡◌, ℕ, true, List, [], ◌∷◌, ◌++◌}
use Rattle.std.specs.List.{list_all}
use Rattle.sc_tokens.specs.Tokens.{is_blank}
use Rattle.sc_value.specs.declared.parts.Param.{Param}
use Rattle.sc_tokens.specs.Bytes.{Bytes}
use Rattle.sc_tokens.specs.Signs.{equal, semicolon}
use Rattle.sc_syntax.specs.SpelledUris.{behind_sign}
use Rattle.sc_value.specs.ParamRules.{IsHeaderParam}

-- spaces and tabs alone, or nothing
abbrev pub IsBlanks : Bytes → Type 0
IsBlanks text = list_all is_blank text ≡ true

-- the inner text, with blanks or none at its ends
abbrev pub Padded : Bytes → Bytes → Type 0
Padded inner text =
    (front back : Bytes) × IsBlanks front × IsBlanks back × (text ≡ front ++ (inner ++ back))

-- each item behind its sign
unfoldable pub AreLed : {X : Type 0} → ℕ → (Bytes → X → Type 0) → Bytes → List X → Type 0
AreLed sign Spells text [] = text ≡ []
AreLed sign Spells text (x ∷ xs) =
    (item rest : Bytes) × Spells item x × AreLed sign Spells rest xs
    × (text ≡ sign ∷ (item ++ rest))

-- items with a sign between, one at least
unfoldable pub AreListed : {X : Type 0} → ℕ → (Bytes → X → Type 0) → Bytes → List X → Type 0
AreListed sign Spells text [] = ⊥
AreListed sign Spells text (x ∷ xs) =
    (item rest : Bytes) × Spells item x × AreLed sign Spells rest xs × (text ≡ item ++ rest)

-- ## Header parameters

-- `name` or `name=value`
unfoldable pub header_param : Param → Bytes
header_param param = param.name ++ behind_sign equal param.value

-- a header parameter, with blanks round it or none
abbrev pub IsParamSpelled : Bytes → Param → Type 0
IsParamSpelled text param = IsHeaderParam param × Padded (header_param param) text

-- nothing, or a semicolon before each
abbrev pub AreParamsSpelled : Bytes → List Param → Type 0
AreParamsSpelled text params = AreLed semicolon IsParamSpelled text params
