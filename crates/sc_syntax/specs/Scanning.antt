-- Values cut at their separators (RFC 3261 sections 7.3.1 and 25.1). A separator within a quoted
-- string or within angle brackets doesn't part. A quote opens a string only at an address's front
-- or among parameters.
use Rattle.std.specs.Prelude.{ℕ, Bool, true, false, List, [], ◌∷◌, Option, Some, None, ◌&&◌, ◌==◌, if◌then◌else◌}
use Rattle.std.specs.Option.{option_map}
use Rattle.sc_tokens.specs.Tokens.{is_blank}
use Rattle.sc_syntax.specs.declared.scan.Scan.{Scan}
use Rattle.sc_syntax.specs.declared.scan.Scan.TheVariants.{Front, Word, Display, DisplayEscaped, Bracketed, Params, Quoted, Escaped}
use Rattle.sc_tokens.specs.Bytes.{Bytes}
use Rattle.sc_tokens.specs.Cuts.{onto_first}
use Rattle.sc_tokens.specs.Signs.{backslash, left_angle, quote, right_angle, semicolon}

-- a separator parts here
unfoldable pub is_outside : Scan → Bool
is_outside Front = true
is_outside Word = true
is_outside Display = false
is_outside DisplayEscaped = false
is_outside Bracketed = false
is_outside Params = true
is_outside Quoted = false
is_outside Escaped = false

-- an address's front ends at a quote, a bracket, or any byte but a blank
unfoldable pub past_front : ℕ → Scan
past_front b =
    if b == quote then Display else if b == left_angle then Bracketed else if is_blank b then Front
    else Word

-- the URI's brackets begin, or the parameters
unfoldable pub past_word : ℕ → Scan
past_word b = if b == left_angle then Bracketed else if b == semicolon then Params else Word

-- in a string: a backslash takes the next byte with it, a quote closes
unfoldable pub in_string : Scan → Scan → Scan → ℕ → Scan
in_string inside slashed outside b =
    if b == backslash then slashed else if b == quote then outside else inside

-- the URI's brackets end
unfoldable pub past_bracketed : ℕ → Scan
past_bracketed b = if b == right_angle then Params else Bracketed

-- a quoted string begins
unfoldable pub past_params : ℕ → Scan
past_params b = if b == quote then Quoted else Params

-- where the scan stands behind the byte
unfoldable pub past : Scan → ℕ → Scan
past Front b = past_front b
past Word b = past_word b
past Display b = in_string Display DisplayEscaped Word b
past DisplayEscaped b = Display
past Bracketed b = past_bracketed b
past Params b = past_params b
past Quoted b = in_string Quoted Escaped Params b
past Escaped b = Quoted

-- this byte is a separator that parts
unfoldable pub is_part_end : Scan → ℕ → ℕ → Bool
is_part_end at sign b = is_outside at && b == sign

-- the parts between such separators: the scan stands here, and behind a separator where it restarts
unfoldable pub parts : Scan → ℕ → Scan → Bytes → List Bytes
parts restart sign at [] = [] ∷ []
parts restart sign at (b ∷ bs) =
    if is_part_end at sign b then [] ∷ parts restart sign restart bs
    else onto_first b (parts restart sign (past at b) bs)

-- the items of a list over commas: of addresses, and of Vias
abbrev pub address_items : Bytes → List Bytes
address_items text = parts Front 44 Front text

-- the items of Via, Vias having no display and no brackets
abbrev pub via_items : Bytes → List Bytes
via_items text = parts Params 44 Params text

-- an address or a Via, and then its parameters, over semicolons
abbrev pub address_parts : Bytes → List Bytes
address_parts text = parts Params 59 Front text

-- a Via and its parameters
abbrev pub via_parts : Bytes → List Bytes
via_parts text = parts Params 59 Params text

-- a part that was read, before the others; none where one wasn't
unfoldable pub with_first : {X : Type 0} → Option X → Option (List X) → Option (List X)
with_first None more = None
with_first (Some x) more = option_map (λ xs. x ∷ xs) more

-- each part read; none where one isn't
unfoldable pub all_read : {X : Type 0} → (Bytes → Option X) → List Bytes → Option (List X)
all_read read [] = Some []
all_read read (text ∷ more) = with_first (read text) (all_read read more)
