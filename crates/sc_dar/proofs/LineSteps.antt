-- Lines, judged from the front.
use Rattle.std.proofs.Common.{◌≡◌, ℕ, Option, Some, None, Ok, Err, List, [], ◌∷◌, ◌++◌, ◌+◌, length, refl, sym, ap, ◌∙◌, append-nil}
use Rattle.std.proofs.lemmas.List.{nil_from_length}
use Rattle.std.specs.Option.{option_to_list}
use Rattle.sc_terms.specs.declared.settings.MethodList.{MethodList}
use Rattle.sc_tokens.specs.Bytes.{Bytes}
use Rattle.sc_dar.specs.Lines.{Line, lines}
use Rattle.sc_dar.specs.Tables.{list_of, then_line, lists_with as judged}
use Rattle.sc_dar.specs.Answers.{IsKind, IsAtLine, IsFault}
use Rattle.sc_dar.specs.declared.refused.DarRefused.{DarRefused}
use Rattle.sc_dar.specs.declared.unread.Unread.{Unread}
use Rattle.sc_dar.specs.declared.unread.Unread.TheVariants as causes
use Rattle.sc_dar.proofs.Rows.{no_more}

-- how the reading stands: these lists are read, and this text is left, whose first line has this number
abbrev pub Stands : List Bytes → Bytes → ℕ → List MethodList → Bytes → Type 0
Stands apps text number lists rest = judged apps number lists (lines rest) ≡ judged apps 1 [] (lines text)

read_on : (apps : List Bytes) (number : ℕ) (lists : List MethodList) (line : Line) (more : List Line) (found : Option MethodList) → list_of apps lists line.text ≡ Ok found
    → judged apps number lists (line ∷ more) ≡ judged apps (number + line.height) (lists ++ option_to_list found) more
unfolding judged then_line
read_on apps number lists line more found h = ap (λ r. then_line number r (λ f. judged apps (number + line.height) (lists ++ option_to_list f) more)) h

refused_here : (apps : List Bytes) (number : ℕ) (lists : List MethodList) (line : Line) (more : List Line) (kind : ℕ) → list_of apps lists line.text ≡ Err kind
    → judged apps number lists (line ∷ more) ≡ Err (record { line = number; kind = kind })
unfolding judged then_line
refused_here apps number lists line more kind h = ap (λ r. then_line number r (λ f. judged apps (number + line.height) (lists ++ option_to_list f) more)) h

by_line : (apps : List Bytes) (text : Bytes) (number : ℕ) (lists : List MethodList) (rest said : Bytes) (height : ℕ) (more : Bytes) → Stands apps text number lists rest → lines rest ≡ record { text = said; height = height } ∷ lines more
    → judged apps 1 [] (lines text) ≡ judged apps number lists (record { text = said; height = height } ∷ lines more)
by_line apps text number lists rest said height more so_far h = sym so_far ∙ ap (judged apps number lists) h

pub line_on : (apps : List Bytes) (text : Bytes) (number : ℕ) (lists : List MethodList) (rest said : Bytes) (height : ℕ) (more : Bytes) (list : MethodList) → Stands apps text number lists rest
    → lines rest ≡ record { text = said; height = height } ∷ lines more → list_of apps lists said ≡ Ok (Some list) → Stands apps text (number + height) (lists ++ list ∷ []) more
line_on apps text number lists rest said height more list so_far h g =
    sym (by_line apps text number lists rest said height more so_far h ∙ read_on apps number lists (record { text = said; height = height }) (lines more) (Some list) g)

pub comment_on : (apps : List Bytes) (text : Bytes) (number : ℕ) (lists : List MethodList) (rest said : Bytes) (height : ℕ) (more : Bytes) → Stands apps text number lists rest
    → lines rest ≡ record { text = said; height = height } ∷ lines more → list_of apps lists said ≡ Ok None → Stands apps text (number + height) lists more
comment_on apps text number lists rest said height more so_far h g =
    sym (by_line apps text number lists rest said height more so_far h ∙ read_on apps number lists (record { text = said; height = height }) (lines more) None g
    ∙ ap (λ l. judged apps (number + height) l (lines more)) (append-nil lists))

pub line_fault : (apps : List Bytes) (text : Bytes) (number : ℕ) (lists : List MethodList) (rest said : Bytes) (height : ℕ) (more : Bytes) (cause : Unread) (refused : DarRefused) → Stands apps text number lists rest
    → lines rest ≡ record { text = said; height = height } ∷ lines more → IsKind cause (list_of apps lists said) → IsAtLine cause number refused → IsFault refused (judged apps 1 [] (lines text))
line_fault apps text number lists rest said height more (causes.Fault kind) refused so_far h g is =
    rw is (by_line apps text number lists rest said height more so_far h ∙ refused_here apps number lists (record { text = said; height = height }) (lines more) kind g)
line_fault apps text number lists rest said height more causes.NoMemory refused so_far h g is = rw is tt

none_left : (apps : List Bytes) (number : ℕ) (lists : List MethodList) → judged apps number lists [] ≡ Ok lists
unfolding judged
none_left apps number lists = refl

pub all_read : (apps : List Bytes) (text : Bytes) (number : ℕ) (lists : List MethodList) (rest : Bytes) → Stands apps text number lists rest → length rest ≡ 0 → judged apps 1 [] (lines text) ≡ Ok lists
all_read apps text number lists rest so_far h =
    sym so_far ∙ ap (judged apps number lists) (ap lines (nil_from_length rest h) ∙ no_more) ∙ none_left apps number lists
