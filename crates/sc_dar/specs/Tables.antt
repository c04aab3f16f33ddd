-- The table of the Default Application Router that a text gives, or its first refusal (JSR 289
-- appendix C).
use Rattle.std.specs.Prelude.{ℕ, Bool, false, List, [], ◌∷◌, ◌++◌, not, ◌||◌, ◌&&◌, ◌==◌, ◌+◌, Option, Some, None, Result, Ok, Err, length, take, drop, nat_lt, if◌then◌else◌}
use Rattle.std.specs.Option.{option_to_list}
use Rattle.sc_terms.specs.declared.settings.Dar.{Dar}
use Rattle.sc_terms.specs.declared.settings.MethodList.{MethodList}
use Rattle.sc_terms.specs.RoutingTables.{is_listed}
use Rattle.sc_tokens.specs.Bytes.{Bytes}
use Rattle.sc_tokens.specs.Hosts.{begins}
use Rattle.sc_tokens.specs.Quoted.{token_end}
use Rattle.sc_dar.specs.Lines.{Line, drop_blanks, is_comment, lines}
use Rattle.sc_dar.specs.Tuples.{parts, then_read, tuples_in}
use Rattle.sc_tokens.specs.Signs.{colon, equal}

-- a line's number from 1, and what is wrong with it
pub record Fault : Type 0 where
  pub line : ℕ
  pub kind : ℕ

-- a line has no method, or no `:` or `=` behind it
abbrev pub NO_SEPARATOR : ℕ
NO_SEPARATOR = 1

-- the text has more than 65,536 bytes
abbrev pub LONG : ℕ
LONG = 8

-- a method has a list already
abbrev pub DOUBLE_METHOD : ℕ
DOUBLE_METHOD = 10

-- the method: the token at the front of the line
abbrev pub method_in : Bytes → Bytes
method_in line = take (token_end 0 line) line

-- what stands behind the method, past blanks
abbrev pub behind_method : Bytes → Bytes
behind_method line = drop_blanks (drop (token_end 0 line) line)

-- a method, and : or =
unfoldable pub has_separator : Bytes → Bool
has_separator line =
    not (token_end 0 line == 0)
    && (begins colon (behind_method line) || begins equal (behind_method line))

-- the list of a line that is no comment
unfoldable pub list_in : List Bytes → List MethodList → Bytes → Result MethodList ℕ
list_in apps lists line =
    if not (has_separator line) then Err NO_SEPARATOR
    else (if is_listed lists (method_in line) then Err DOUBLE_METHOD
    else then_read (tuples_in apps 0 (parts false (drop 1 (behind_method line))))
    (λ tuples. Ok (record { method = method_in line; tuples = tuples })))

-- the list of a line, none of a comment; or the kind of what is wrong first
unfoldable pub list_of : List Bytes → List MethodList → Bytes → Result (Option MethodList) ℕ
list_of apps lists line =
    if is_comment line then Ok None
    else then_read (list_in apps lists line) (λ list. Ok (Some list))

-- a line that is read, and then the others; a refusal has this number
unfoldable pub then_line : {A B : Type 0} → ℕ → Result A ℕ → (A → Result B Fault) → Result B Fault
then_line number (Ok a) next = next a
then_line number (Err kind) next = Err (record { line = number; kind = kind })

-- the lists of these lines behind the others, the first line having this number
unfoldable pub lists_with : List Bytes → ℕ → List MethodList → List Line
    → Result (List MethodList) Fault
lists_with apps number lists [] = Ok lists
lists_with apps number lists (line ∷ more) =
    then_line number (list_of apps lists line.text)
    (λ found. lists_with apps (number + line.height) (lists ++ option_to_list found) more)

-- the table of these lists, or the fault
unfoldable pub table_with : Result (List MethodList) Fault → Result Dar Fault
table_with (Ok lists) = Ok (record { lists = lists })
table_with (Err fault) = Err fault

-- the table that the text gives for these applications, or the first refusal; a text of more than
-- 65,536 bytes is refused before all lines
unfoldable pub table_of : Bytes → List Bytes → Result Dar Fault
table_of text apps =
    if nat_lt 65536 (length text) then Err (record { line = 0; kind = LONG })
    else table_with (lists_with apps 1 [] (lines text))
