-- What a reader of a routing table's text answers (JSR 289 appendix C).
use Rattle.std.specs.Prelude.{◌≡◌, ℕ, Result, Ok, Err, ⊤}
use Rattle.sc_dar.specs.Tables.{Fault}
use Rattle.sc_dar.specs.declared.refused.DarRefused.{DarRefused}
use Rattle.sc_dar.specs.declared.refused.DarRefused.TheVariants as refusals
use Rattle.sc_dar.specs.declared.unread.Unread.{Unread}
use Rattle.sc_dar.specs.declared.unread.Unread.TheVariants as causes

-- the refusal has the kind; for want of memory it says nothing
abbrev pub IsKind : {Y : Type 0} → Unread → Result Y ℕ → Type 0
IsKind (causes.Fault kind) read = read ≡ Err kind
IsKind causes.NoMemory read = ⊤

-- the value exactly as it is read, or else the kind
abbrev pub IsRead : {X : Type 0} → Result X Unread → Result X ℕ → Type 0
IsRead (Ok x) read = read ≡ Ok x
IsRead (Err cause) read = IsKind cause read

-- the refusal has the line and the kind; for want of memory it says nothing
abbrev pub IsFault : {Y : Type 0} → DarRefused → Result Y Fault → Type 0
IsFault (refusals.Refused line kind) read = read ≡ Err (record { line = line; kind = kind })
IsFault refusals.NoMemory read = ⊤

-- the value exactly as it is read, or else the fault
abbrev pub IsJudged : {X : Type 0} → Result X DarRefused → Result X Fault → Type 0
IsJudged (Ok x) read = read ≡ Ok x
IsJudged (Err refused) read = IsFault refused read

-- the refusal of a line of this number
abbrev pub IsAtLine : Unread → ℕ → DarRefused → Type 0
IsAtLine (causes.Fault kind) line refused = refused ≡ refusals.Refused line kind
IsAtLine causes.NoMemory line refused = refused ≡ refusals.NoMemory
