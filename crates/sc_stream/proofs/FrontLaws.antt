-- What a text begins with stays so with more bytes behind, once it is more than open.
use Rattle.std.proofs.Common.{◌≡◌, ℕ, zero, suc, subst, Bool, true, false, cond, ◌&&◌, Option, Some, None, [], ◌∷◌, ◌++◌, ◌+◌, ◌-◌, ◌≤◌, ◌<◌, Result, Ok, Err, length, take, drop, refl, sym, ap, ◌∙◌, arith}
use Rattle.std.specs.Prelude.{nat_le, ◌==◌, is_some, IfSome, if◌then◌else◌}
use Rattle.std.proofs.lemmas.Bool.{false≢true}
use Rattle.std.proofs.lemmas.Bool.Decides.{nat_tests}
use Rattle.std.specs.Option.{option_map, option_map_or}
use Rattle.std.proofs.lemmas.List.{length-append, length-take, take-append-le}
use Rattle.sc_value.specs.declared.message.Message.{Message}
use Rattle.sc_syntax.specs.declared.ending.Ending.TheVariants.{Empty}
use Rattle.sc_syntax.specs.declared.front.Front.{Front}
use Rattle.sc_syntax.specs.declared.front.Front.TheVariants.{Open, Long}
use Rattle.sc_tokens.specs.Bytes.{Bytes}
use Rattle.sc_syntax.specs.UriParts.{Fault}
use Rattle.sc_tokens.specs.Hosts.{begins}
use Rattle.sc_syntax.specs.Lines.{begins_break, is_end, end_of}
use Rattle.sc_syntax.specs.Messages.{message_in}
use Rattle.sc_syntax.specs.Fronts.{behind_breaks, body_len, bad_front as bad, whole, front_of_length as sized, front_after_head as headed, front_of}
use Rattle.sc_stream.specs.Frames.{front_behind, is_open, len_of}

-- ## The empty line

pub and_false : (x : Bool) → (x && false) ≡ false
and_false true = refl
and_false false = refl

short_end : (b c d : ℕ) → is_end Empty (b ∷ c ∷ d ∷ []) ≡ false
unfolding is_end begins_break begins
short_end b c d = ap (λ t. begins_break (b ∷ c ∷ d ∷ []) && t) (and_false (begins 13 (d ∷ []))) ∙ and_false (begins_break (b ∷ c ∷ d ∷ []))

-- only four bytes count
pub end_alike : (b c d e : ℕ) (x y : Bytes) → is_end Empty (b ∷ c ∷ d ∷ e ∷ x) ≡ is_end Empty (b ∷ c ∷ d ∷ e ∷ y)
unfolding is_end begins_break begins
end_alike b c d e x y = refl

short_none : (t : Bytes) → length t < 4 → end_of Empty t ≡ None
unfolding end_of is_end begins_break begins
short_none [] few = refl
short_none (b ∷ []) few = ap (λ t. cond t (Some 0) None) (and_false (begins_break (b ∷ [])))
short_none (b ∷ c ∷ []) few = ap (λ t. cond t (Some 0) (option_map (λ n. 1 + n) (end_of Empty (c ∷ [])))) (and_false (begins_break (b ∷ c ∷ []))) ∙ ap (option_map (λ n. 1 + n)) (short_none (c ∷ []) (omega arith))
short_none (b ∷ c ∷ d ∷ []) few = ap (λ t. cond t (Some 0) (option_map (λ n. 1 + n) (end_of Empty (c ∷ d ∷ [])))) (short_end b c d) ∙ ap (option_map (λ n. 1 + n)) (short_none (c ∷ d ∷ []) (omega arith))
short_none (b ∷ c ∷ d ∷ e ∷ r) few = absurd (omega (arith, few))

some_of : (o : Option ℕ) → is_some (option_map (λ n. 1 + n) o) ≡ true → is_some o ≡ true
some_of None h = h
some_of (Some n) h = refl

none_some : (o : Option ℕ) → o ≡ None → is_some o ≡ true → ⊥
none_some o e h = false≢true (sym (ap is_some e) ∙ h)

end_stays : (t more : Bytes) → is_some (end_of Empty t) ≡ true → end_of Empty (t ++ more) ≡ end_of Empty t
unfolding end_of
end_stays [] more h = absurd (none_some (end_of Empty []) (short_none [] (omega arith)) h)
end_stays (b ∷ []) more h = absurd (none_some (end_of Empty (b ∷ [])) (short_none (b ∷ []) (omega arith)) h)
end_stays (b ∷ c ∷ []) more h = absurd (none_some (end_of Empty (b ∷ c ∷ [])) (short_none (b ∷ c ∷ []) (omega arith)) h)
end_stays (b ∷ c ∷ d ∷ []) more h = absurd (none_some (end_of Empty (b ∷ c ∷ d ∷ [])) (short_none (b ∷ c ∷ d ∷ []) (omega arith)) h)
end_stays (b ∷ c ∷ d ∷ e ∷ r) more h =
    ap (λ t. cond t (Some 0) (option_map (λ n. 1 + n) (end_of Empty (c ∷ d ∷ e ∷ (r ++ more))))) (end_alike b c d e (r ++ more) r)
    ∙ (elim (is_end Empty (b ∷ c ∷ d ∷ e ∷ r)) as (λ (t : Bool). is_some (cond t (Some 0) (option_map (λ n. 1 + n) (end_of Empty (c ∷ d ∷ e ∷ r)))) ≡ true
    → cond t (Some 0) (option_map (λ n. 1 + n) (end_of Empty (c ∷ d ∷ e ∷ (r ++ more)))) ≡ cond t (Some 0) (option_map (λ n. 1 + n) (end_of Empty (c ∷ d ∷ e ∷ r)))) [
      | true ↦ λ _. refl
      | false ↦ λ later. ap (option_map (λ n. 1 + n)) (end_stays (c ∷ d ∷ e ∷ r) more (some_of (end_of Empty (c ∷ d ∷ e ∷ r)) later))
    ]) h

-- ## The limit

take_on : (n : ℕ) (t more : Bytes) → take n (t ++ more) ≡ take n t ++ take (n - length t) more
take_on zero t more = let none : ◌≡◌ {A = ℕ} (0 - length t) 0 = omega arith in rw none refl
take_on (suc n) [] more = let all : ◌≡◌ {A = ℕ} (suc n - 0) (suc n) = omega arith in rw all refl
take_on (suc n) (b ∷ bs) more = let less : ◌≡◌ {A = ℕ} (suc n - suc (length bs)) (n - length bs) = omega arith in rw less (ap (λ t. b ∷ t) (take_on n bs more))

pub limit_stays : (text more : Bytes) → is_some (end_of Empty (take 65535 text)) ≡ true → end_of Empty (take 65535 (text ++ more)) ≡ end_of Empty (take 65535 text)
limit_stays text more h = ap (end_of Empty) (take_on 65535 text more) ∙ end_stays (take 65535 text) (take (65535 - length text) more) h

fits_more : (n : ℕ) (text more : Bytes) → nat_le n (length text) ≡ true → nat_le n (length (text ++ more)) ≡ true
fits_more n text more h = let len = length-append text more in grind (arith, nat_tests, len, h)

past_more : (text more : Bytes) → nat_le (length text) 65535 ≡ false → nat_le (length (text ++ more)) 65535 ≡ false
past_more text more h = let len = length-append text more in grind (arith, nat_tests, len, h)

le_of : (a b : ℕ) → nat_le a b ≡ true → a ≤ b
le_of a b h = grind (arith, nat_tests, h)

pub gt_of : (a b : ℕ) → nat_le a b ≡ false → b ≤ a
gt_of a b h = grind (arith, nat_tests, h)

-- ## Head and body

sized_stays : (text more head : Bytes) (len : ℕ) → is_open (sized text head len) ≡ false → sized (text ++ more) head len ≡ sized text head len
unfolding sized
sized_stays text more head len h = (elim (nat_le len 65535) as (λ (t : Bool). is_open (cond t (sized_in text) Long) ≡ false → cond t (sized_in (text ++ more)) Long ≡ cond t (sized_in text) Long) [
  | true ↦ by_body (nat_le len (length text)) refl
  | false ↦ λ _. refl
]) h
  where
    body_in : Bytes → Front
    body_in t = whole head len (message_in head (drop (length head + 4) (take len t)))

    sized_in : Bytes → Front
    sized_in t = cond (nat_le len (length t)) (body_in t) Open

    by_body : (there : Bool) → nat_le len (length text) ≡ there → is_open (sized_in text) ≡ false → sized_in (text ++ more) ≡ sized_in text
    by_body true e _ = ap (λ t. cond t (body_in (text ++ more)) Open) (fits_more len text more e) ∙ ap (λ t. whole head len (message_in head (drop (length head + 4) t))) (take-append-le len text more (le_of len (length text) e)) ∙ sym (ap (λ t. cond t (body_in text) Open) e)
    by_body false e same = absurd (false≢true (sym same ∙ ap (λ t. is_open (cond t (body_in text) Open)) e))

headed_stays : (text more head : Bytes) (read : Result Message Fault) → is_open (headed text head read) ≡ false → headed (text ++ more) head read ≡ headed text head read
unfolding headed
headed_stays text more head (Ok message) h = sized_stays text more head (length head + 4 + body_len head) h
headed_stays text more head (Err fault) h = (elim (fault.kind == 12) as (λ (t : Bool). is_open (cond t (sized text head (length head + 4 + body_len head)) (bad head fault)) ≡ false
    → cond t (sized (text ++ more) head (length head + 4 + body_len head)) (bad head fault) ≡ cond t (sized text head (length head + 4 + body_len head)) (bad head fault)) [
      | true ↦ sized_stays text more head (length head + 4 + body_len head)
      | false ↦ λ _. refl
    ]) h

-- ## The front

head_room : (o : Option ℕ) (n : ℕ) → IfSome o (λ e. e + 4 ≤ n) → IfSome (option_map (λ k. 1 + k) o) (λ e. e + 4 ≤ suc n)
head_room None n h = tt
head_room (Some e) n h = omega (arith, h)

pub end_room : (t : Bytes) → IfSome (end_of Empty t) (λ e. e + 4 ≤ length t)
unfolding end_of
end_room [] = tt
end_room (b ∷ []) = rw (short_none (b ∷ []) (omega arith)) tt
end_room (b ∷ c ∷ []) = rw (short_none (b ∷ c ∷ []) (omega arith)) tt
end_room (b ∷ c ∷ d ∷ []) = rw (short_none (b ∷ c ∷ d ∷ []) (omega arith)) tt
end_room (b ∷ c ∷ d ∷ e ∷ r) = elim (is_end Empty (b ∷ c ∷ d ∷ e ∷ r)) as (λ (t : Bool). IfSome (cond t (Some 0) (option_map (λ n. 1 + n) (end_of Empty (c ∷ d ∷ e ∷ r)))) (λ e. e + 4 ≤ suc (length (c ∷ d ∷ e ∷ r)))) [
  | true ↦ omega arith
  | false ↦ head_room (end_of Empty (c ∷ d ∷ e ∷ r)) (length (c ∷ d ∷ e ∷ r)) (end_room (c ∷ d ∷ e ∷ r))
]

pub room_in : (text : Bytes) (end : ℕ) → end_of Empty (take 65535 text) ≡ Some end → end + 4 ≤ length text
room_in text end h =
    let here : end + 4 ≤ length (take 65535 text) = subst (λ o. IfSome o (λ e. e + 4 ≤ length (take 65535 text))) h (end_room (take 65535 text)) in
    let len = length-take 65535 text in omega (arith, here, len)

-- by the place of the empty line
abbrev pub by_end : Bytes → Option ℕ → Front
by_end text o = option_map_or (λ end. headed text (take end text) (message_in (take end text) [])) o (if nat_le (length text) 65535 then Open else Long)

pub front_is : (text : Bytes) → front_of text ≡ by_end text (end_of Empty (take 65535 text))
unfolding front_of
front_is text = refl

by_end_stays : (text more : Bytes) (o : Option ℕ) → end_of Empty (take 65535 text) ≡ o → is_open (by_end text o) ≡ false → by_end (text ++ more) (end_of Empty (take 65535 (text ++ more))) ≡ by_end text o
by_end_stays text more (Some end) e h =
    ap (by_end (text ++ more)) (limit_stays text more (ap is_some e) ∙ e)
    ∙ ap (λ t. headed (text ++ more) t (message_in t [])) (take-append-le end text more (let room = room_in text end e in omega (arith, room)))
    ∙ headed_stays text more (take end text) (message_in (take end text) []) h
by_end_stays text more None e h = by_len (nat_le (length text) 65535) refl
  where
    by_len : (few : Bool) → nat_le (length text) 65535 ≡ few → by_end (text ++ more) (end_of Empty (take 65535 (text ++ more))) ≡ by_end text None
    by_len true f = absurd (false≢true (sym h ∙ ap (λ t. is_open (cond t Open Long)) f))
    by_len false f =
        ap (by_end (text ++ more)) (ap (end_of Empty) (take-append-le 65535 text more (gt_of (length text) 65535 f)) ∙ e)
        ∙ ap (λ t. cond t Open Long) (past_more text more f) ∙ sym (ap (λ t. cond t Open Long) f)

-- once it is a message, a bad head or too long, it stays that
pub front_stays : (text more : Bytes) → is_open (front_of text) ≡ false → front_of (text ++ more) ≡ front_of text
front_stays text more h = front_is (text ++ more) ∙ by_end_stays text more (end_of Empty (take 65535 text)) refl (sym (ap is_open (front_is text)) ∙ h) ∙ sym (front_is text)

-- ## A message is there whole

whole_len : (head : Bytes) (len n : ℕ) (read : Result Message Fault) → len ≤ n → len_of (whole head len read) ≤ n
unfolding whole bad
whole_len head len n (Ok message) h = h
whole_len head len n (Err fault) h = omega arith

sized_len : (text head : Bytes) (len : ℕ) → len_of (sized text head len) ≤ length text
unfolding sized
sized_len text head len = elim (nat_le len 65535) as (λ (t : Bool). len_of (cond t (cond (nat_le len (length text)) (whole head len (message_in head (drop (length head + 4) (take len text)))) Open) Long) ≤ length text) [
  | true ↦ elim (nat_le len (length text)) as (λ (t : Bool). nat_le len (length text) ≡ t → len_of (cond t (whole head len (message_in head (drop (length head + 4) (take len text)))) Open) ≤ length text) [
    | true ↦ λ e. whole_len head len (length text) (message_in head (drop (length head + 4) (take len text))) (le_of len (length text) e)
    | false ↦ λ _. omega arith
  ] refl
  | false ↦ omega arith
]

headed_len : (text head : Bytes) (read : Result Message Fault) → len_of (headed text head read) ≤ length text
unfolding headed bad
headed_len text head (Ok message) = sized_len text head (length head + 4 + body_len head)
headed_len text head (Err fault) = elim (fault.kind == 12) as (λ (t : Bool). len_of (cond t (sized text head (length head + 4 + body_len head)) (bad head fault)) ≤ length text) [
  | true ↦ sized_len text head (length head + 4 + body_len head)
  | false ↦ omega arith
]

by_end_len : (text : Bytes) (o : Option ℕ) → len_of (by_end text o) ≤ length text
by_end_len text (Some end) = headed_len text (take end text) (message_in (take end text) [])
by_end_len text None = elim (nat_le (length text) 65535) as (λ (t : Bool). len_of (cond t Open Long) ≤ length text) [
  | true ↦ omega arith
  | false ↦ omega arith
]

pub front_within : (text : Bytes) → len_of (front_of text) ≤ length text
front_within text = subst (λ f. len_of f ≤ length text) (sym (front_is text)) (by_end_len text (end_of Empty (take 65535 text)))

-- ## Too few bytes for anything

few_open : (text : Bytes) → length text < 4 → is_open (front_of text) ≡ true
few_open text few =
    let short : length (take 65535 text) < 4 = (let len = length-take 65535 text in omega (arith, len, few)) in
    ap is_open (front_is text ∙ ap (by_end text) (short_none (take 65535 text) short)) ∙ ap (λ t. is_open (cond t Open Long)) (few_le (length text) few)
  where
    few_le : (n : ℕ) → n < 4 → nat_le n 65535 ≡ true
    few_le n h = grind (arith, nat_tests, h)

pub front_none : is_open (front_behind []) ≡ true
unfolding behind_breaks
front_none = few_open [] (omega arith)

pub front_one : (b : ℕ) → is_open (front_behind (b ∷ [])) ≡ true
unfolding behind_breaks
front_one b = few_open (b ∷ []) (omega arith)
