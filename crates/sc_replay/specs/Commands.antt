-- Which command the words of a command line are. This project's own.
use Rattle.std.specs.Prelude.{◌≡◌, ◌⊎◌, ℕ, nat_le, Option, Some, None, List, [], ◌∷◌, codes, if◌then◌else◌, is_some}
use Rattle.std.specs.Option.{option_and_then}
use Rattle.sc_tokens.specs.Names.{same_bytes}
use Rattle.sc_tokens.specs.Bytes.{Bytes}
use Rattle.sc_script.specs.ScriptTexts.{decimal_upto}
use Rattle.sc_replay.specs.declared.commanding.Command.{Command}
use Rattle.sc_replay.specs.declared.commanding.Command.TheVariants.{Replay, Check, Make, Trial, Serve, Usage}

-- the number, where it isn't 0
abbrev pub if_positive : ℕ → Option ℕ
if_positive n = if nat_le 1 n then Some n else None

-- the number N of a command: a decimal from 1 to 1,000 without leading zero
unfoldable pub count_in : Bytes → Option ℕ
count_in text = option_and_then if_positive (decimal_upto 1000 text)

-- the number behind a command's name
abbrev pub count_behind : Bytes → Bytes → Bytes → Option ℕ
count_behind name word count = if same_bytes word name then count_in count else None

-- the N of `NAME N`, none of other words
unfoldable pub count_after_name : Bytes → List Bytes → Option ℕ
count_after_name name (word ∷ count ∷ []) = count_behind name word count
count_after_name name words = None

-- CONFIG and DAR of `NAME CONFIG DAR`, none of other words
unfoldable pub settled_names : Bytes → List Bytes → Option (Bytes × Bytes)
settled_names name (word ∷ config ∷ dar ∷ []) =
    if same_bytes word name then Some (config, dar) else None
settled_names name words = None

-- the word, and the number of a command
abbrev pub IsCounted : Bytes → List Bytes → Type 0
IsCounted word words =
    (count : Bytes) × (n : ℕ) × (count_in count ≡ Some n) × (words ≡ word ∷ count ∷ [])

-- the word, and two names
abbrev pub IsSettled : Bytes → List Bytes → Type 0
IsSettled word words = (config dar : Bytes) × (words ≡ word ∷ config ∷ dar ∷ [])

-- the words have the form of this command; `Usage` has none
unfoldable pub HasForm : Command → List Bytes → Type 0
HasForm Replay words =
    (config dar script : Bytes) × (words ≡ codes "replay" ∷ config ∷ dar ∷ script ∷ [])
HasForm Check words = IsSettled (codes "check") words
HasForm Make words = IsCounted (codes "make") words
HasForm Trial words = IsCounted (codes "trial") words
HasForm Serve words = IsSettled (codes "serve") words
HasForm Usage words = ⊥

-- the command is `Usage`, or the words have its form
abbrev pub IsNamed : Command → List Bytes → Type 0
IsNamed command words = (command ≡ Usage) ⊎ HasForm command words

-- ## The same, as it is found

-- `make N` and `trial N`
unfoldable pub counted_command : Bytes → Bytes → Command
counted_command word count =
    if is_some (count_in count)
    then (if same_bytes word (codes "make") then Make
    else (if same_bytes word (codes "trial") then Trial else Usage))
    else Usage

-- `check CONFIG DAR` and `serve CONFIG DAR`
unfoldable pub settled_command : Bytes → Command
settled_command word =
    if same_bytes word (codes "check") then Check
    else (if same_bytes word (codes "serve") then Serve else Usage)

-- `replay CONFIG DAR SCRIPT`
unfoldable pub scripted_command : Bytes → Command
scripted_command word = if same_bytes word (codes "replay") then Replay else Usage

-- the command that the words are; other words are `Usage`
unfoldable pub command_of : List Bytes → Command
command_of (word ∷ count ∷ []) = counted_command word count
command_of (word ∷ config ∷ dar ∷ []) = settled_command word
command_of (word ∷ config ∷ dar ∷ script ∷ []) = scripted_command word
command_of words = Usage
