-- What is known of the first message of a stream.
use Rattle.std.proofs.Common.{◌≡◌, ℕ, zero, suc, Bool, true, false, cond, Option, Some, None, [], ◌∷◌, ◌++◌, ◌+◌, ◌-◌, ◌≤◌, ◌<◌, Result, Ok, length, take, drop, refl, sym, ap, subst, ◌∙◌, arith}
use Rattle.std.specs.Prelude.{IfOk, nat_le, is_some, if◌then◌else◌}
use Rattle.std.specs.Option.{option_map}
use Rattle.std.proofs.lemmas.Bool.{false≢true}
use Rattle.std.proofs.lemmas.Bool.Decides.{nat_tests}
use Rattle.std.proofs.lemmas.List.{drop-append-le, drop-drop, length-append, length-drop, length-take, length-take-le, take-append-le, take-take, take_all, take_min}
use Rattle.sc_syntax.specs.declared.ending.Ending.TheVariants.{Empty}
use Rattle.sc_syntax.specs.declared.left.HeadParts.{HeadParts}
use Rattle.sc_syntax.specs.declared.front.Front.{Front}
use Rattle.sc_syntax.specs.declared.front.Front.TheVariants.{Open, Long}
use Rattle.sc_tokens.specs.Bytes.{Bytes}
use Rattle.sc_syntax.specs.Lines.{begins_break, is_end, end_of}
use Rattle.sc_syntax.specs.Messages.{message_in, parts_in}
use Rattle.sc_syntax.specs.Fronts.{behind_breaks, front_of, front_after_head as headed, front_of_length as sized, whole}
use Rattle.sc_stream.specs.declared.first.First.{First}
use Rattle.sc_stream.specs.declared.first.Known.{Known}
use Rattle.sc_stream.specs.declared.first.Known.TheVariants.{Searched, Read}
use Rattle.sc_stream.specs.declared.fronts.Wanted.{Wanted}
use Rattle.sc_stream.specs.declared.fronts.Wanted.TheVariants as wanted
use Rattle.sc_stream.specs.Frames.{front_behind}
use Rattle.sc_stream.specs.Knowing.{IsFirst, IsKnown, IsSized, Tells}
use Rattle.sc_stream.proofs.FrontLaws.{by_end, end_alike, front_is, limit_stays, room_in}
use Rattle.sc_stream.proofs.FrameLaws.{break_alike, skip_on}
use Rattle.sc_stream.proofs.HearSteps.{skip_none}
use Rattle.sc_stream.proofs.Telling.{nothing_read}

-- ## The search goes on

zero_more : (o : Option ℕ) → option_map (λ k. 0 + k) o ≡ o
zero_more None = refl
zero_more (Some k) = let same : ◌≡◌ {A = ℕ} (0 + k) k = omega arith in ap Some same

one_more : (n : ℕ) (o : Option ℕ) → option_map (λ k. 1 + k) (option_map (λ k. n + k) o) ≡ option_map (λ k. suc n + k) o
one_more n None = refl
one_more n (Some k) = let sums : ◌≡◌ {A = ℕ} (1 + (n + k)) (suc n + k) = omega arith in ap Some sums

-- an end that the first bytes show, or that they don't show
later_by : (c : Bool) (o : Option ℕ) → cond c (Some 0) (option_map (λ k. 1 + k) o) ≡ None → (c ≡ false) × (o ≡ None)
later_by true o h = absurd (false≢true (sym (ap is_some h)))
later_by false None h = (refl, refl)
later_by false (Some k) h = absurd (false≢true (sym (ap is_some h)))

later : (b : ℕ) (bs : Bytes) → end_of Empty (b ∷ bs) ≡ None → (is_end Empty (b ∷ bs) ≡ false) × (end_of Empty bs ≡ None)
unfolding end_of
later b bs h = later_by (is_end Empty (b ∷ bs)) (end_of Empty bs) h

after_one : (b : ℕ) (bs : Bytes) → is_end Empty (b ∷ bs) ≡ false → end_of Empty (b ∷ bs) ≡ option_map (λ k. 1 + k) (end_of Empty bs)
unfolding end_of
after_one b bs h = ap (λ c. cond c (Some 0) (option_map (λ k. 1 + k) (end_of Empty bs))) h

-- four bytes tell whether an end begins here
end_shown : (n b : ℕ) (bs : Bytes) → is_end Empty (b ∷ take (n + 3) bs) ≡ is_end Empty (b ∷ bs)
end_shown n b [] = ap (λ t. is_end Empty (b ∷ t)) (take_all (n + 3) [] (omega arith))
end_shown n b (c ∷ []) = ap (λ t. is_end Empty (b ∷ t)) (take_all (n + 3) (c ∷ []) (omega arith))
end_shown n b (c ∷ d ∷ []) = ap (λ t. is_end Empty (b ∷ t)) (take_all (n + 3) (c ∷ d ∷ []) (omega arith))
end_shown n b (c ∷ d ∷ e ∷ r) = let on : n + 3 ≡ suc (suc (suc n)) = omega arith in ap (λ k. is_end Empty (b ∷ take k (c ∷ d ∷ e ∷ r))) on ∙ end_alike b c d e (take n r) r

-- where no end shows in the first bytes, the first end comes behind them but for three
end_behind : (n : ℕ) (t : Bytes) → end_of Empty (take (n + 3) t) ≡ None → end_of Empty t ≡ option_map (λ k. n + k) (end_of Empty (drop n t))
unfolding end_of
end_behind zero t h = sym (zero_more (end_of Empty t))
end_behind (suc n) [] h = refl
end_behind (suc n) (b ∷ bs) h =
    let on : suc n + 3 ≡ suc (n + 3) = omega arith in
    let none = later b (take (n + 3) bs) (ap (λ k. end_of Empty (take k (b ∷ bs))) (sym on) ∙ h) in
    after_one b bs (sym (end_shown n b bs) ∙ none.0) ∙ ap (option_map (λ k. 1 + k)) (end_behind n bs none.1) ∙ one_more n (end_of Empty (drop n bs))

end_from : (searched : ℕ) (t : Bytes) → end_of Empty (take searched t) ≡ None → end_of Empty t ≡ option_map (λ k. searched - 3 + k) (end_of Empty (drop (searched - 3) t))
end_from zero t h = sym (zero_more (end_of Empty t))
end_from (suc zero) t h = sym (zero_more (end_of Empty t))
end_from (suc (suc zero)) t h = sym (zero_more (end_of Empty t))
end_from (suc (suc (suc n))) t h =
    let back : suc (suc (suc n)) - 3 ≡ n = omega arith in
    let on : n + 3 ≡ suc (suc (suc n)) = omega arith in
    rw back (end_behind n t (ap (λ k. end_of Empty (take k t)) on ∙ h))

pub search_on : (searched : ℕ) (text : Bytes) → IsKnown (Searched searched) text → end_of Empty (take 65535 text) ≡ option_map (λ k. searched - 3 + k) (end_of Empty (drop (searched - 3) (take 65535 text)))
unfolding IsKnown
search_on searched text (there, within, none) = end_from searched (take 65535 text) (ap (end_of Empty) (take-take searched 65535 text within) ∙ none)

pub search_room : (searched : ℕ) (text : Bytes) → IsKnown (Searched searched) text → searched - 3 ≤ length (take 65535 text)
unfolding IsKnown
search_room searched text (there, within, none) = let len = length-take 65535 text in omega (arith, len, there, within)

-- ## What is known, by the front

pub read_front : (text : Bytes) (end len : ℕ) (parts : HeadParts) → IsKnown (Read end len parts) text → front_of text ≡ sized text (take end text) len
unfolding IsKnown
read_front text end len parts (begins, ended, (least, most, told), read) = front_is text ∙ ap (by_end text) ended ∙ told text

pub read_room : (text : Bytes) (end len : ℕ) (parts : HeadParts) → IsKnown (Read end len parts) text → length (take end text) ≡ end
unfolding IsKnown
read_room text end len parts (begins, ended, told, read) = let room = room_in text end ended in length-take-le end text (omega (arith, room))

pub read_len : (text : Bytes) (end len : ℕ) (parts : HeadParts) → IsKnown (Read end len parts) text → (end ≤ length text) × (end + 4 ≤ len) × (len ≤ 65535)
unfolding IsKnown
read_len text end len parts (begins, ended, (least, most, told), read) =
    let room = room_in text end ended in
    let same = length-take-le end text (omega (arith, room)) in (omega (arith, room), omega (arith, least, same), most)

pub read_parts : (text : Bytes) (end len : ℕ) (parts : HeadParts) → IsKnown (Read end len parts) text → parts_in (take end text) ≡ Ok parts
unfolding IsKnown
read_parts text end len parts (begins, ended, told, read) = read

-- as much as there is, where the body isn't there whole
pub read_open : (text : Bytes) (end len : ℕ) (parts : HeadParts) → IsKnown (Read end len parts) text → length text < len → Open ≡ front_of text
unfolding sized
read_open text end len parts known more =
    let head = take end text in
    let whole_there = whole head len (message_in head (drop (length head + 4) (take len text))) in
    sym (
    read_front text end len parts known ∙ ap (λ t. cond t (cond (nat_le len (length text)) whole_there Open) Long) (within len (read_len text end len parts known).2)
    ∙ ap (λ t. cond t whole_there Open) (past len (length text) more)
    )
  where
    within : (n : ℕ) → n ≤ 65535 → nat_le n 65535 ≡ true
    within n h = grind (arith, nat_tests, h)

    past : (n m : ℕ) → m < n → nat_le n m ≡ false
    past n m h = grind (arith, nat_tests, h)

pub read_whole : (text : Bytes) (end len : ℕ) (parts : HeadParts) (body : Bytes) → IsKnown (Read end len parts) text → len ≤ length text → body ≡ drop (end + 4) (take len text) → whole (take end text) len (message_in (take end text) body) ≡ front_of text
unfolding sized
read_whole text end len parts body known there is =
    let head = take end text in
    let whole_of = λ (b : Bytes). whole head len (message_in head b) in
    let rest = drop (length head + 4) (take len text) in
    sym (
    read_front text end len parts known ∙ ap (λ t. cond t (cond (nat_le len (length text)) (whole_of rest) Open) Long) (within len 65535 (read_len text end len parts known).2)
    ∙ ap (λ t. cond t (whole_of rest) Open) (within len (length text) there)
    ∙ ap (λ n. whole_of (drop (n + 4) (take len text))) (read_room text end len parts known) ∙ ap whole_of (sym is)
    )
  where
    within : (n m : ℕ) → n ≤ m → nat_le n m ≡ true
    within n m h = grind (arith, nat_tests, h)

pub headed_front : (text : Bytes) (end : ℕ) → end_of Empty (take 65535 text) ≡ Some end → front_of text ≡ headed text (take end text) (message_in (take end text) [])
headed_front text end ended = front_is text ∙ ap (by_end text) ended

pub open_front : (text : Bytes) → end_of Empty (take 65535 text) ≡ None → front_of text ≡ (if nat_le (length text) 65535 then Open else Long)
open_front text none = front_is text ∙ ap (by_end text) none

pub nothing_front : (told : Wanted) (text : Bytes) (front : Front) (end : ℕ) → told ≡ wanted.Nothing front → Tells told (take end text) → end_of Empty (take 65535 text) ≡ Some end → front ≡ front_of text
nothing_front told text front end is tells ended = nothing_read told text (take end text) front is tells ∙ sym (headed_front text end ended)

searched_first : (text : Bytes) → end_of Empty (take 65535 text) ≡ None → IsKnown (Searched (length (take 65535 text))) text
unfolding IsKnown
searched_first text none = let len = length-take 65535 text in (omega (arith, len), omega (arith, len), ap (end_of Empty) (ap (λ n. take n text) len ∙ take_min 65535 text) ∙ none)

pub searched_all : (text first : Bytes) → first ≡ take 65535 text → end_of Empty (take 65535 text) ≡ None → IsKnown (Searched (length first)) text
searched_all text first is none = subst (λ t. IsKnown (Searched (length t)) text) (sym is) (searched_first text none)

pub is_read : (text head : Bytes) (told : Wanted) (end len : ℕ) (parts : HeadParts) → head ≡ take end text → begins_break text ≡ false → end_of Empty (take 65535 text) ≡ Some end → told ≡ wanted.Body len parts → Tells told head → IsKnown (Read end len parts) text
unfolding IsKnown
is_read text head told end len parts is begins ended body tells =
    let sure : Tells (wanted.Body len parts) (take end text) = subst (λ h. Tells (wanted.Body len parts) h) is (subst (λ t. Tells t head) body tells) in (begins, ended, sure.0, sure.1)

-- ## More bytes

begins_stays : (text more : Bytes) → 2 ≤ length text → begins_break (text ++ more) ≡ begins_break text
begins_stays [] more few = absurd (omega (arith, few))
begins_stays (b ∷ []) more few = absurd (omega (arith, few))
begins_stays (b ∷ c ∷ bs) more few = break_alike b c (bs ++ more) bs

known_more : (known : Known) (text more : Bytes) → IsKnown known text → IsKnown known (text ++ more)
unfolding IsKnown
known_more (Searched len) text more (there, within, none) = (let all = length-append text more in omega (arith, there, all), within, ap (end_of Empty) (take-append-le len text more there) ∙ none)
known_more (Read end len parts) text more (begins, ended, told, read) =
    let room = room_in text end ended in
    let head = take-append-le end text more (omega (arith, room)) in (
      begins_stays text more (omega (arith, room)) ∙ begins,
      limit_stays text more (ap is_some ended) ∙ ended,
      subst (λ head. IsSized head len) (sym head) told,
      ap parts_in head ∙ read,
    )

pub first_more : (first : First) (text more : Bytes) → IsFirst first text → IsFirst first (text ++ more)
unfolding IsFirst
first_more first text more (there, behind, known) = (
  let all = length-append text more in omega (arith, there, all),
  ap behind_breaks (drop-append-le first.breaks text more there) ∙ skip_on (drop first.breaks text) more ∙ ap (λ t. behind_breaks (t ++ more)) behind ∙ sym (skip_on text more),
  subst (IsKnown first.known) (sym (drop-append-le first.breaks text more there)) (known_more first.known (drop first.breaks text) more known),
)

-- ## Line ends

pub nothing_searched : (text : Bytes) → IsKnown (Searched 0) text
unfolding IsKnown end_of
nothing_searched text = (omega arith, omega arith, refl)

passed_on : (breaks passed : ℕ) (text rest : Bytes) → rest ≡ drop breaks text → drop (breaks + passed) text ≡ drop passed rest
passed_on breaks passed text rest at = sym (drop-drop passed breaks text) ∙ ap (drop passed) (sym at)

pub first_none : (text : Bytes) → IsFirst (record { breaks = 0; known = Searched 0 }) text
unfolding IsFirst
first_none text = (omega arith, refl, nothing_searched text)

pub first_on : (first : First) (text rest : Bytes) (passed : ℕ) → IsFirst first text → rest ≡ drop first.breaks text → passed ≤ length rest → drop passed rest ≡ behind_breaks rest → begins_break (drop passed rest) ≡ false
    → IsFirst (record { breaks = first.breaks + passed; known = Searched 0 }) text
unfolding IsFirst
first_on first text rest passed (there, behind, known) at room is none =
    let on : drop (first.breaks + passed) text ≡ drop passed rest = passed_on first.breaks passed text rest at in (
      let len = ap length at ∙ length-drop first.breaks text in omega (arith, there, room, len),
      ap behind_breaks on ∙ skip_none (drop passed rest) none ∙ is ∙ ap behind_breaks at ∙ behind,
      nothing_searched (drop (first.breaks + passed) text),
    )

pub room_on : (first : First) (text rest : Bytes) (passed : ℕ) → IsFirst first text → rest ≡ drop first.breaks text → passed ≤ length rest → first.breaks + passed ≤ length text
unfolding IsFirst
room_on first text rest passed (there, behind, known) at room = let len = ap length at ∙ length-drop first.breaks text in omega (arith, there, room, len)

pub none_on : (breaks passed : ℕ) (text rest : Bytes) → rest ≡ drop breaks text → begins_break (drop passed rest) ≡ false → begins_break (drop (breaks + passed) text) ≡ false
none_on breaks passed text rest at none = ap begins_break (passed_on breaks passed text rest at) ∙ none

pub none_here : (breaks passed : ℕ) (text rest : Bytes) → rest ≡ drop breaks text → begins_break (drop passed rest) ≡ false → passed ≡ 0 → begins_break (drop breaks text) ≡ false
none_here breaks passed text rest at none here = ap begins_break (sym at ∙ ap (λ n. drop n rest) (sym here)) ∙ none

pub first_room : (first : First) (text : Bytes) → IsFirst first text → first.breaks ≤ length text
unfolding IsFirst
first_room first text (there, behind, known) = there

pub first_known : (first : First) (text rest : Bytes) → IsFirst first text → rest ≡ drop first.breaks text → IsKnown first.known rest
unfolding IsFirst
first_known first text rest (there, behind, known) at = subst (IsKnown first.known) (sym at) known

pub first_with : (first : First) (text rest : Bytes) (known : Known) → IsFirst first text → rest ≡ drop first.breaks text → IsKnown known rest → IsFirst (record { breaks = first.breaks; known = known }) text
unfolding IsFirst
first_with first text rest known (there, behind, before) at now = (there, behind, subst (IsKnown known) at now)

pub first_behind : (first : First) (text : Bytes) → IsFirst first text → begins_break (drop first.breaks text) ≡ false → drop first.breaks text ≡ behind_breaks text
unfolding IsFirst
first_behind first text (there, behind, known) none = sym (skip_none (drop first.breaks text) none) ∙ behind

pub front_seen : {E : Type 0} (read : Result Front E) (text rest : Bytes) (breaks : ℕ) → rest ≡ drop breaks text → drop breaks text ≡ behind_breaks text → IfOk read (λ front. front ≡ front_of rest) → IfOk read (λ front. front ≡ front_behind text)
front_seen {E} read text rest breaks at behind h = subst (λ t. IfOk read (λ front. front ≡ front_of t)) (at ∙ behind) h
