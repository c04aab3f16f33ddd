-- What a reader of URIs answers (RFC 3261 section 19.1.1).
use Rattle.std.specs.Prelude.{◌≡◌, Result, Ok, Err, ⊤}
use Rattle.sc_syntax.specs.UriParts.{Fault}
use Rattle.sc_uri_text.specs.declared.refused.UriRefused.{UriRefused}
use Rattle.sc_uri_text.specs.declared.refused.UriRefused.TheVariants.{Refused, NoMemory}

-- the refusal has the place and the kind of the fault; for want of memory it says nothing
abbrev pub IsFault : {Y : Type 0} → UriRefused → Result Y Fault → Type 0
IsFault (Refused at kind) read = read ≡ Err (record { at = at; kind = kind })
IsFault NoMemory read = ⊤

-- the value, seen so, exactly as it is read, or else the fault
abbrev pub IsReadAs : {X Y : Type 0} → (X → Y) → Result X UriRefused → Result Y Fault → Type 0
IsReadAs view (Ok x) read = read ≡ Ok (view x)
IsReadAs view (Err refused) read = IsFault refused read

-- the value exactly as it is read, or else the fault
abbrev pub IsRead : {X : Type 0} → Result X UriRefused → Result X Fault → Type 0
IsRead result read = IsReadAs (λ x. x) result read
