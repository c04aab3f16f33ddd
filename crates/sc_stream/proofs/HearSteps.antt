-- What is heard of a stream.
use Rattle.std.proofs.Common.{◌≡◌, ℕ, true, false, cond, List, [], ◌∷◌, Option, Result, Ok, ◌+◌, ◌-◌, ◌≤◌, length, take, drop, refl, sym, ap, subst, ◌∙◌, arith}
use Rattle.std.specs.Prelude.{IfOk}
use Rattle.std.proofs.lemmas.Bool.{false≢true}
use Rattle.std.proofs.lemmas.List.{drop-drop, length-drop, take_rest}
use Rattle.sc_value.specs.declared.message.Message.{Message}
use Rattle.sc_value.specs.declared.answerable.Answerable.{Answerable}
use Rattle.sc_syntax.specs.declared.front.Front.{Front}
use Rattle.sc_syntax.specs.declared.front.Front.TheVariants as fronts
use Rattle.sc_tokens.specs.Bytes.{Bytes}
use Rattle.sc_tokens.specs.Hosts.{begins}
use Rattle.sc_syntax.specs.Lines.{begins_break}
use Rattle.sc_syntax.specs.Fronts.{behind_breaks}
use Rattle.sc_stream.specs.declared.streams.Heard.{Heard}
use Rattle.sc_stream.specs.declared.streams.Heard.TheVariants as heard
use Rattle.sc_stream.specs.Frames.{front_behind, Splits, len_of}
use Rattle.sc_stream.specs.Hearing.{Hears, IsBad, given_after}
use Rattle.sc_stream.proofs.FrontLaws.{and_false, front_within}
use Rattle.sc_stream.proofs.FrameLaws.{splits_given}

-- ## Line ends before a message

pub skip_none : (text : Bytes) → begins_break text ≡ false → behind_breaks text ≡ text
unfolding behind_breaks
skip_none [] h = refl
skip_none (b ∷ []) h = refl
skip_none (b ∷ c ∷ bs) h = ap (λ t. cond t (behind_breaks bs) (b ∷ c ∷ bs)) h

skip_one : (text : Bytes) → begins_break text ≡ true → behind_breaks (drop 2 text) ≡ behind_breaks text
unfolding behind_breaks begins_break begins
skip_one [] h = absurd (false≢true h)
skip_one (b ∷ []) h = absurd (false≢true (sym (and_false (begins 13 (b ∷ []))) ∙ h))
skip_one (b ∷ c ∷ bs) h = sym (ap (λ t. cond t (behind_breaks bs) (b ∷ c ∷ bs)) h)

two_there : (text : Bytes) → begins_break text ≡ true → 2 ≤ length text
unfolding begins_break begins
two_there [] h = absurd (false≢true h)
two_there (b ∷ []) h = absurd (false≢true (sym (and_false (begins 13 (b ∷ []))) ∙ h))
two_there (b ∷ c ∷ bs) h = omega arith

-- what is left from this place on
abbrev left : ℕ → Bytes → Bytes
left i text = take (length text - i) (drop i text)

pub skip_end : (text : Bytes) (place : ℕ) → begins_break (left place text) ≡ false → drop place text ≡ behind_breaks (drop place text)
skip_end text place h = sym (skip_none (drop place text) (ap begins_break (sym (take_rest text place)) ∙ h))

pub skip_more : (text : Bytes) (place : ℕ) → begins_break (left place text) ≡ true → behind_breaks (drop (place + 2) text) ≡ behind_breaks (drop place text)
skip_more text place h = ap behind_breaks (sym (drop-drop 2 place text)) ∙ skip_one (drop place text) (ap begins_break (sym (take_rest text place)) ∙ h)

pub skip_room : (text : Bytes) (place : ℕ) → begins_break (left place text) ≡ true → place ≤ length text → place + 2 ≤ length text
skip_room text place h within =
    let two = two_there (drop place text) (ap begins_break (sym (take_rest text place)) ∙ h) in
    let len = length-drop place text in omega (arith, two, len, within)

-- ## What is heard

-- what was read, by the arm of a match
pub front_here : {E : Type 0} (read : Result Front E) (found front seen : Front) → read ≡ Ok found → found ≡ front → IfOk read (λ front. front ≡ seen) → front ≡ seen
front_here {E} read found front seen is same h = sym same ∙ subst (λ r. IfOk r (λ front. front ≡ seen)) is h

pub room_in : (text : Bytes) (breaks len : ℕ) (message : Message) → breaks ≤ length text → drop breaks text ≡ behind_breaks text → fronts.Whole len message ≡ front_behind text → breaks + len ≤ length text
room_in text breaks len message most behind h =
    let few : len ≤ length (behind_breaks text) = subst (λ n. n ≤ length (behind_breaks text)) (sym (ap len_of h)) (front_within (behind_breaks text)) in
    let same : length (behind_breaks text) ≡ length text - breaks = ap length (sym behind) ∙ length-drop breaks text in
    omega (arith, few, same, most)

pub message_heard : (text : Bytes) (breaks len : ℕ) (message : Message) → drop breaks text ≡ behind_breaks text → fronts.Whole len message ≡ front_behind text → Hears (heard.Message message) text (drop (breaks + len) text)
message_heard text breaks len message behind h = (len, sym h, sym (drop-drop len breaks text) ∙ ap (drop len) behind)

pub bad_heard : (answer : Heard) (text : Bytes) (at kind : ℕ) (heads : Option Answerable) → fronts.Bad at kind heads ≡ front_behind text → IsBad answer at kind heads → Hears answer text text
bad_heard (heard.Message message) text at kind heads h bad = absurd bad
bad_heard heard.NotYet text at kind heads h bad = absurd bad
bad_heard (heard.Bad b) text at kind heads h (place, what, same) = (sym h ∙ ap (λ n. fronts.Bad n kind heads) (sym place) ∙ ap (λ n. fronts.Bad b.at n heads) (sym what) ∙ ap (fronts.Bad b.at b.kind) (sym same), refl)
bad_heard heard.Long text at kind heads h bad = absurd bad
bad_heard heard.NoMemory text at kind heads h bad = refl

same_rest : (given : List Message) (fed old now : Bytes) → now ≡ old → Splits given fed old → Splits given fed now
same_rest given fed old now is h = subst (λ t. Splits given fed t) (sym is) h

-- a message that is heard goes behind those that were given
pub hears_stands : (answer : Heard) (old now fed : Bytes) (given : List Message) → Hears answer old now → Splits given fed old → Splits (given_after given answer) fed now
hears_stands (heard.Message message) old now fed given (len, front, rest) h = subst (λ t. Splits (given_after given (heard.Message message)) fed t) (sym rest) (splits_given given fed old len message front h)
hears_stands heard.NotYet old now fed given (front, rest) h = same_rest given fed old now rest h
hears_stands (heard.Bad bad) old now fed given (front, rest) h = same_rest given fed old now rest h
hears_stands heard.Long old now fed given (front, rest) h = same_rest given fed old now rest h
hears_stands heard.NoMemory old now fed given rest h = same_rest given fed old now rest h

-- ## The bytes before a place

-- what is heard behind it, by what is kept then
pub hears_kept : (answer : Heard) (old now text kept left : Bytes) (from taken place : ℕ) → drop from kept ≡ old → text ≡ drop from kept → drop place left ≡ drop (from + taken) kept → now ≡ drop place left → Hears answer text (drop taken text) → Hears answer old now
hears_kept answer old now text kept left from taken place is same gone rest h =
    subst (Hears answer old) (ap (drop taken) same ∙ drop-drop taken from kept ∙ sym gone ∙ sym rest) (subst (λ t. Hears answer t (drop taken text)) (same ∙ is) h)
