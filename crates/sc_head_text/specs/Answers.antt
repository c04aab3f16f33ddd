-- What a reader of a header's value answers (RFC 3261 section 20).
use Rattle.std.specs.Prelude.{◌≡◌, Option, Some, None, Result, Ok, Err, ⊤}
use Rattle.sc_uri_text.specs.declared.refused.UriRefused.{UriRefused}
use Rattle.sc_uri_text.specs.declared.refused.UriRefused.TheVariants as uri
use Rattle.sc_head_text.specs.declared.unread.Unread.{Unread}
use Rattle.sc_head_text.specs.declared.unread.Unread.TheVariants.{Fault, NoMemory}

-- a fault where nothing is read; want of memory says nothing
abbrev pub Fails : {Y : Type 0} → Unread → Option Y → Type 0
Fails Fault read = read ≡ None
Fails NoMemory read = ⊤

-- the value, seen so, exactly as it is read, or else the fault
abbrev pub GivesAs : {X Y : Type 0} → (X → Y) → Result X Unread → Option Y → Type 0
GivesAs view (Ok x) read = read ≡ Some (view x)
GivesAs view (Err unread) read = Fails unread read

-- the value exactly as it is read, or else the fault
abbrev pub Gives : {X : Type 0} → Result X Unread → Option X → Type 0
Gives result read = GivesAs (λ x. x) result read

-- a fault only where nothing is spelled
abbrev pub SpellsNone : {X : Type 0} → Unread → (X → Type 0) → Type 0
SpellsNone {X} Fault Spelled = (x : X) → Spelled x → ⊥
SpellsNone NoMemory Spelled = ⊤

-- the one value that is spelled, or a fault where none is
abbrev pub GivesSpelled : {X : Type 0} → Result X Unread → (X → Type 0) → Type 0
GivesSpelled {X} (Ok x) Spelled = Spelled x × ((other : X) → Spelled other → other ≡ x)
GivesSpelled (Err unread) Spelled = SpellsNone unread Spelled

-- a URI's refusal, as one of the value that it stands in
abbrev pub unread_of : UriRefused → Unread
unread_of (uri.Refused at kind) = Fault
unread_of uri.NoMemory = NoMemory
