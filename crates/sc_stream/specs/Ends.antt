-- What a stream keeps, and how it ends (RFC 3261 section 18.3). An ended stream keeps its answer
-- alone.
use Rattle.std.specs.Prelude.{◌≡◌, ℕ, Option, Some, None, [], ◌≤◌, length, drop, ⊤}
use Rattle.sc_syntax.specs.declared.front.Front.TheVariants as fronts
use Rattle.sc_tokens.specs.Bytes.{Bytes}
use Rattle.sc_stream.specs.declared.ends.Ended.{Ended}
use Rattle.sc_stream.specs.declared.ends.Ended.TheVariants as ends
use Rattle.sc_stream.specs.declared.first.First.{First}
use Rattle.sc_stream.specs.declared.streams.Heard.{Heard}
use Rattle.sc_stream.specs.declared.streams.Heard.TheVariants as heard
use Rattle.sc_stream.specs.Frames.{front_behind}
use Rattle.sc_stream.specs.Knowing.{IsFirst}

-- this is what a stream with these bytes answers
abbrev pub IsEnd : Ended → Bytes → Type 0
IsEnd (ends.Bad bad) text = front_behind text ≡ fronts.Bad bad.at bad.kind bad.heads
IsEnd ends.Long text = front_behind text ≡ fronts.Long

-- the bytes behind the messages: those that are kept, or those that an ended stream has let go
abbrev pub bytes_of : Option Ended → Bytes → Bytes → Bytes
bytes_of None kept gone = kept
bytes_of (Some ended) kept gone = gone

-- what is true of what a stream keeps, in memory for so many bytes: once it has ended no byte is
-- left, and no memory for one
abbrev pub IsKept : Option Ended → ℕ → First → Bytes → ℕ → Bytes → Type 0
IsKept None from first kept room gone = (from ≤ length kept) × IsFirst first (drop from kept)
IsKept (Some ended) from first kept room gone = (kept ≡ []) × (room ≡ 0) × IsEnd ended gone

-- the stream goes on behind what is heard
abbrev pub GoesOn : Heard → Type 0
GoesOn (heard.Message message) = ⊤
GoesOn heard.NotYet = ⊤
GoesOn (heard.Bad bad) = ⊥
GoesOn heard.Long = ⊥
GoesOn heard.NoMemory = ⊤

-- what is heard is this end
abbrev pub EndsWith : Heard → Ended → Type 0
EndsWith (heard.Message message) ended = ⊥
EndsWith heard.NotYet ended = ⊥
EndsWith (heard.Bad bad) ended = ended ≡ ends.Bad bad
EndsWith heard.Long ended = ended ≡ ends.Long
EndsWith heard.NoMemory ended = ⊥

-- the same answer again, where there is memory
abbrev pub IsAgain : Heard → Ended → Type 0
IsAgain heard.NoMemory ended = ⊤
IsAgain answer ended = EndsWith answer ended
