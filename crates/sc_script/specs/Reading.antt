-- What the parts of the reader of scripts answer. This project's own.
use Rattle.std.specs.Prelude.{◌≡◌, ◌++◌, ℕ, List, [], Option, None, Some, Result, Ok, Err}
use Rattle.sc_terms.specs.declared.steps.Line.{Line}
use Rattle.sc_tokens.specs.Cuts.{pieces}
use Rattle.sc_tokens.specs.Bytes.{Bytes}
use Rattle.sc_script.specs.ScriptTexts.{Fault}
use Rattle.sc_script.specs.declared.refused.ScriptRefused.{ScriptRefused}
use Rattle.sc_script.specs.declared.refused.ScriptRefused.TheVariants as refused
use Rattle.sc_script.specs.declared.rows.RowRefused.{RowRefused}
use Rattle.sc_script.specs.declared.rows.RowRefused.TheVariants as rows

-- the pieces of what stands behind a sign
unfoldable pub more_pieces : ℕ → Option Bytes → List Bytes
more_pieces sign None = []
more_pieces sign (Some rest) = pieces sign rest

-- the answer is what the line says, or the kind of what is wrong with it; want of memory says
-- nothing
unfoldable pub Says : {A : Type 0} → Result A RowRefused → Result A ℕ → Type 0
Says (Ok row) said = said ≡ Ok row
Says (Err (rows.Wrong kind)) said = said ≡ Err kind
Says (Err rows.NoMemory) said = Unit {0}

-- the answer is what the text says, or its first fault; want of memory says nothing
unfoldable pub Gives : {A : Type 0} → Result A ScriptRefused → Result A Fault → Type 0
Gives (Ok value) read = read ≡ Ok value
Gives (Err (refused.Refused at kind)) read = read ≡ Err (record { at = at; kind = kind })
Gives (Err refused.NoMemory) read = Unit {0}

-- the list is that of the lines that the text says, or its first fault is told
unfoldable pub Adds : {A : Type 0} → Result A ScriptRefused → List Line → Result (List Line) Fault
    → Type 0
Adds (Ok done) lines read = read ≡ Ok lines
Adds (Err (refused.Refused at kind)) lines read = read ≡ Err (record { at = at; kind = kind })
Adds (Err refused.NoMemory) lines read = Unit {0}

-- these lines, and then those that are read
unfoldable pub onto : List Line → Result (List Line) Fault → Result (List Line) Fault
onto lines (Ok later) = Ok (lines ++ later)
onto lines (Err fault) = Err fault
