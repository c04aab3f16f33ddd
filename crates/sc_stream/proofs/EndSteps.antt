-- How a stream ends, and what it keeps then.
use Rattle.std.proofs.Common.{◌≡◌, ℕ, true, false, Option, Some, None, ◌++◌, ◌≤◌, length, drop, refl, sym, ap, subst, ◌∙◌, arith}
use Rattle.std.specs.Prelude.{is_some}
use Rattle.std.proofs.lemmas.Bool.{false≢true}
use Rattle.std.proofs.lemmas.List.{drop-append-le, length-append}
use Rattle.sc_tokens.specs.Bytes.{Bytes}
use Rattle.sc_stream.specs.declared.ends.Ended.{Ended}
use Rattle.sc_stream.specs.declared.ends.Ended.TheVariants as ends
use Rattle.sc_stream.specs.declared.first.First.{First}
use Rattle.sc_stream.specs.declared.streams.Heard.{Heard}
use Rattle.sc_stream.specs.declared.streams.Heard.TheVariants as heard
use Rattle.sc_stream.specs.Frames.{is_open}
use Rattle.sc_stream.specs.Hearing.{Hears}
use Rattle.sc_stream.specs.Knowing.{IsFirst}
use Rattle.sc_stream.specs.Ends.{EndsWith, IsAgain, IsEnd, IsKept, bytes_of}
use Rattle.sc_stream.proofs.FrameLaws.{behind_stays}
use Rattle.sc_stream.proofs.Knowing.{first_more}

-- an end stays the end whatever comes
pub end_stays : (ended : Ended) (text more : Bytes) → IsEnd ended text → IsEnd ended (text ++ more)
end_stays (ends.Bad bad) text more front = behind_stays text more (ap is_open front) ∙ front
end_stays ends.Long text more front = behind_stays text more (ap is_open front) ∙ front

pub again_heard : (answer : Heard) (ended : Ended) (text : Bytes) → IsAgain answer ended → IsEnd ended text → Hears answer text text
again_heard heard.NoMemory ended text same end = refl
again_heard (heard.Message message) ended text same end = absurd same
again_heard heard.NotYet ended text same end = absurd same
again_heard (heard.Bad bad) ended text same end = (subst (λ e. IsEnd e text) same end, refl)
again_heard heard.Long ended text same end = (subst (λ e. IsEnd e text) same end, refl)

-- what is heard as the end is the end of these bytes
pub ends_with : (answer : Heard) (ended : Ended) (text now : Bytes) → EndsWith answer ended → Hears answer text now → IsEnd ended text
ends_with (heard.Message message) ended text now same h = absurd same
ends_with heard.NotYet ended text now same h = absurd same
ends_with (heard.Bad bad) ended text now same (front, rest) = subst (λ e. IsEnd e text) (sym same) front
ends_with heard.Long ended text now same (front, rest) = subst (λ e. IsEnd e text) (sym same) front
ends_with heard.NoMemory ended text now same h = absurd same

-- ## What is kept

-- a piece that comes after the end is let go
pub late_stands : (ended : Option Ended) (from : ℕ) (first : First) (kept gone now piece : Bytes) (room : ℕ) → is_some ended ≡ true → now ≡ gone ++ piece → IsKept ended from first kept room gone → IsKept ended from first kept room now
late_stands None from first kept gone now piece room there is h = absurd (false≢true there)
late_stands (Some ended) from first kept gone now piece room there is (none, free, end) = (none, free, subst (IsEnd ended) (sym is) (end_stays ended gone piece end))

pub late_seen : (ended : Option Ended) (kept gone now piece old : Bytes) → is_some ended ≡ true → now ≡ gone ++ piece → bytes_of ended kept gone ≡ old → bytes_of ended kept now ≡ old ++ piece
late_seen None kept gone now piece old there is h = absurd (false≢true there)
late_seen (Some ended) kept gone now piece old there is h = is ∙ ap (λ t. t ++ piece) h

-- before the end it is kept
fed_known : (first : First) (kept now piece : Bytes) (from : ℕ) → now ≡ kept ++ piece → from ≤ length kept → IsFirst first (drop from kept) → (from ≤ length now) × IsFirst first (drop from now)
fed_known first kept now piece from is there known = (
  let all = ap length is ∙ length-append kept piece in omega (arith, there, all),
  subst (IsFirst first) (sym (ap (drop from) is ∙ drop-append-le from kept piece there)) (first_more first (drop from kept) piece known),
)

fed_shown : (old kept now piece : Bytes) (from : ℕ) → drop from kept ≡ old → now ≡ kept ++ piece → from ≤ length kept → drop from now ≡ old ++ piece
fed_shown old kept now piece from seen is there = ap (drop from) is ∙ drop-append-le from kept piece there ∙ ap (λ t. t ++ piece) seen

pub fed_stands : (ended : Option Ended) (from : ℕ) (first : First) (kept now gone piece : Bytes) (room more : ℕ) → is_some ended ≡ false → now ≡ kept ++ piece → IsKept ended from first kept room gone → IsKept ended from first now more gone
fed_stands None from first kept now gone piece room more none is (there, known) = fed_known first kept now piece from is there known
fed_stands (Some ended) from first kept now gone piece room more none is h = absurd (false≢true (sym none))

pub fed_seen : (ended : Option Ended) (from : ℕ) (first : First) (kept now gone piece old : Bytes) (room : ℕ) → is_some ended ≡ false → now ≡ kept ++ piece → IsKept ended from first kept room gone → bytes_of ended (drop from kept) gone ≡ old
    → bytes_of ended (drop from now) gone ≡ old ++ piece
fed_seen None from first kept now gone piece old room none is (there, known) seen = fed_shown old kept now piece from seen is there
fed_seen (Some ended) from first kept now gone piece old room none is h seen = absurd (false≢true (sym none))

-- a stream that hasn't ended shows the bytes that it keeps
pub shown : (ended : Option Ended) (kept gone : Bytes) → ended ≡ None → bytes_of ended kept gone ≡ kept
shown ended kept gone none = ap (λ e. bytes_of e kept gone) none

pub ended_heard : (answer : Heard) (ended : Ended) (old now text : Bytes) → text ≡ old → now ≡ text → IsEnd ended text → ((t : Bytes) → IsEnd ended t → Hears answer t t) → Hears answer old now
ended_heard answer ended old now text is same end again = subst (λ t. Hears answer t now) is (subst (Hears answer text) (sym same) (again text end))
