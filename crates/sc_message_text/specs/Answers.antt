-- What the readers of messages answer (RFC 3261 section 7).
use Rattle.std.specs.Prelude.{◌≡◌, ℕ, Result, Ok, Err, ⊤}
use Rattle.sc_syntax.specs.UriParts.{Fault}
use Rattle.sc_head_text.specs.declared.unread.Unread.{Unread}
use Rattle.sc_head_text.specs.declared.unread.Unread.TheVariants as unread
use Rattle.sc_message_text.specs.declared.refused.MessageRefused.{MessageRefused}
use Rattle.sc_message_text.specs.declared.refused.MessageRefused.TheVariants as message
use Rattle.sc_message_text.specs.declared.refused.LineRefused.{LineRefused}
use Rattle.sc_message_text.specs.declared.refused.LineRefused.TheVariants as line

-- ## Lines

-- the kind of the fault; want of memory says nothing
abbrev pub HasKind : {Y : Type 0} → LineRefused → Result Y ℕ → Type 0
HasKind (line.Fault kind) read = read ≡ Err kind
HasKind line.NoMemory read = ⊤

-- the value exactly as it is read, or else the kind of the fault
abbrev pub ReadsLine : {X : Type 0} → Result X LineRefused → Result X ℕ → Type 0
ReadsLine (Ok x) read = read ≡ Ok x
ReadsLine (Err refused) read = HasKind refused read

-- the same, where what is read stands here
abbrev pub Takes : {X U : Type 0} → Result U LineRefused → X → Result X ℕ → Type 0
Takes (Ok done) now read = read ≡ Ok now
Takes (Err refused) now read = HasKind refused read

-- a value that isn't read
abbrev pub value_refused : Unread → LineRefused
value_refused unread.Fault = line.Fault 9
value_refused unread.NoMemory = line.NoMemory

-- ## Texts

-- the place and the kind of the fault; want of memory says nothing
abbrev pub HasPlace : {Y : Type 0} → MessageRefused → Result Y Fault → Type 0
HasPlace (message.Refused at kind) read = read ≡ Err (record { at = at; kind = kind })
HasPlace message.NoMemory read = ⊤

-- the value exactly as it is read, or else the place and the kind of the fault
abbrev pub Reads : {X : Type 0} → Result X MessageRefused → Result X Fault → Type 0
Reads (Ok x) read = read ≡ Ok x
Reads (Err refused) read = HasPlace refused read

-- the same, where what is read stands here
abbrev pub TakesAll : {X U : Type 0} → Result U MessageRefused → X → Result X Fault → Type 0
TakesAll (Ok done) now read = read ≡ Ok now
TakesAll (Err refused) now read = HasPlace refused read

-- a line's refusal, at this place
abbrev pub placed_refusal : ℕ → LineRefused → MessageRefused
placed_refusal at (line.Fault kind) = message.Refused at kind
placed_refusal at line.NoMemory = message.NoMemory
