-- A message that a stream begins with isn't empty, and it is there.
use Rattle.std.proofs.Common.{◌≡◌, ℕ, ◌+◌, ◌-◌, ◌<◌, ◌≤◌, Bool, true, false, Option, None, Some, [], ◌∷◌, length, refl, ap, subst, arith, if◌then◌else◌, cond, length-drop}
use Rattle.std.specs.Prelude.{Result, Ok, Err, take, drop, nat_le, ◌==◌}
use Rattle.std.specs.Option.{option_map_or}
use Rattle.sc_value.specs.declared.message.Message.{Message}
use Rattle.sc_syntax.specs.declared.front.Front.TheVariants.{Open, Whole, Long}
use Rattle.sc_syntax.specs.declared.ending.Ending.TheVariants.{Empty}
use Rattle.sc_tokens.specs.Bytes.{Bytes}
use Rattle.sc_syntax.specs.UriParts.{Fault}
use Rattle.sc_syntax.specs.Lines.{begins_break, end_of}
use Rattle.sc_syntax.specs.Fronts.{bad_front as bad, behind_breaks, body_len, front_of, front_after_head as headed, front_of_length as sized, whole}
use Rattle.sc_syntax.specs.Messages.{message_in}
use Rattle.sc_stream.specs.Frames.{front_behind, len_of}

some-whole : (head : Bytes) (len size : ℕ) (message : Message) (r : Result Message Fault) → 0 < len → whole head len r ≡ Whole size message → 0 < size
unfolding whole bad
some-whole head len size message (Ok m) some e = subst (λ (n : ℕ). 0 < n) (cc) some
some-whole head len size message (Err fault) some e = cc

some-sized : (text head : Bytes) (len size : ℕ) (message : Message) (fits there : Bool) → nat_le len 65535 ≡ fits → nat_le len (length text) ≡ there → 0 < len → sized text head len ≡ Whole size message → 0 < size
unfolding sized
some-sized text head len size message false there f t some e = let x = rw f at e in cc
some-sized text head len size message true false f t some e = let x = rw (f, t) at e in cc
some-sized text head len size message true true f t some e = some-whole head len size message _ some (rw (f, t) at e)

some-len : (head : Bytes) (n : ℕ) → 0 < length head + 4 + n
some-len head n = omega arith

some-fault : (text head : Bytes) (fault : Fault) (size : ℕ) (message : Message) (b : Bool) → (fault.kind == 12) ≡ b → headed text head (Err fault) ≡ Whole size message → 0 < size
unfolding headed bad
some-fault text head fault size message true k e = some-sized text head _ size message _ _ refl refl (some-len head (body_len head)) (rw k at e)
some-fault text head fault size message false k e = let x = rw k at e in cc

some-headed : (text head : Bytes) (size : ℕ) (message : Message) (r : Result Message Fault) → headed text head r ≡ Whole size message → 0 < size
unfolding headed
some-headed text head size message (Ok m) e = some-sized text head _ size message _ _ refl refl (some-len head (body_len head)) e
some-headed text head size message (Err fault) e = some-fault text head fault size message _ refl e

some-open : (b : Bool) (size : ℕ) (message : Message) → (if b then Open else Long) ≡ Whole size message → 0 < size
some-open true size message e = cc
some-open false size message e = cc

some-end : (text : Bytes) (size : ℕ) (message : Message) (o : Option ℕ) → option_map_or (λ end. headed text (take end text) (message_in (take end text) [])) o (if nat_le (length text) 65535 then Open else Long) ≡ Whole size message → 0 < size
some-end text size message None e = some-open (nat_le (length text) 65535) size message e
some-end text size message (Some end) e = some-headed text (take end text) size message (message_in (take end text) []) e

some-front : (text : Bytes) (size : ℕ) (message : Message) → front_of text ≡ Whole size message → 0 < size
unfolding front_of
some-front text size message e = some-end text size message (end_of Empty (take 65535 text)) e

within-front : ((text : Bytes) → len_of (front_of text) ≤ length text) → (text : Bytes) (size : ℕ) (message : Message) → front_of text ≡ Whole size message → size ≤ length text
within-front whole text size message e = subst (λ (n : ℕ). n ≤ length text) (ap len_of e) (whole text)

shorter-by : (b c : ℕ) (bs rest : Bytes) (t : Bool) → length rest ≤ length bs → length (cond t rest (b ∷ c ∷ bs)) ≤ length (b ∷ c ∷ bs)
shorter-by b c bs rest true le = omega arith
shorter-by b c bs rest false le = omega arith

breaks-shorter : (text : Bytes) → length (behind_breaks text) ≤ length text
unfolding behind_breaks
breaks-shorter [] = omega arith
breaks-shorter (b ∷ []) = omega arith
breaks-shorter (b ∷ c ∷ bs) = shorter-by b c bs (behind_breaks bs) (begins_break (b ∷ c ∷ bs)) (breaks-shorter bs)

-- fewer bytes are kept behind a message
pub taken_less : ((text : Bytes) → len_of (front_of text) ≤ length text) → (text : Bytes) (size : ℕ) (message : Message) → front_behind text ≡ Whole size message → length (drop size (behind_breaks text)) < length text
taken_less whole text size message e =
    let some : 0 < size = some-front (behind_breaks text) size message e in
    let within : size ≤ length (behind_breaks text) = within-front whole (behind_breaks text) size message e in
    let shorter : length (behind_breaks text) ≤ length text = breaks-shorter text in
    let left : length (drop size (behind_breaks text)) ≡ length (behind_breaks text) - size = length-drop size (behind_breaks text) in
    omega arith

-- nothing is open
pub none_open : front_behind [] ≡ Open
unfolding front_of behind_breaks end_of
none_open = refl
