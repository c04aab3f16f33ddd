-- What a head tells of its message.
use Rattle.std.proofs.Common.{◌≡◌, ℕ, false, cond, Some, None, [], ◌+◌, ◌≤◌, ◌<◌, Result, Ok, Err, length, take, drop, sym, ap, subst, ◌∙◌, arith}
use Rattle.std.specs.Prelude.{IfOk, nat_le, unwrap_or}
use Rattle.std.proofs.lemmas.Bool.Decides.{nat_tests}
use Rattle.sc_value.specs.declared.message.Message.{Message}
use Rattle.sc_syntax.specs.declared.front.Front.{Front}
use Rattle.sc_syntax.specs.declared.front.Front.TheVariants.{Open, Whole, Long}
use Rattle.sc_syntax.specs.declared.left.HeadParts.{HeadParts}
use Rattle.sc_tokens.specs.Bytes.{Bytes}
use Rattle.sc_syntax.specs.Messages.{fault_at_place as placed, message_from_parts as finished, message_in, parts_in, lacking}
use Rattle.sc_syntax.specs.Fronts.{bad_front as bad, front_after_head as headed, front_of_length as sized, whole}
use Rattle.sc_syntax.proofs.HeadLaws.{message_read, headed_refused, headed_lacking, headed_read}
use Rattle.sc_stream.specs.declared.fronts.Wanted.{Wanted}
use Rattle.sc_stream.specs.declared.fronts.Wanted.TheVariants as wanted
use Rattle.sc_stream.specs.Knowing.{IsSized, Tells}

-- ## By its parts

pub told_nothing : (told : Wanted) (head : Bytes) (front : Front) → told ≡ wanted.Nothing front → ((text : Bytes) → headed text head (message_in head []) ≡ front) → Tells told head
told_nothing told head front is h = subst (λ t. Tells t head) (sym is) h

pub refused_told : (told : Wanted) (head : Bytes) (at kind : ℕ) → parts_in head ≡ Err (record { at = at; kind = kind }) → told ≡ wanted.Nothing (bad head (record { at = at; kind = kind })) → Tells told head
refused_told told head at kind refused is = told_nothing told head (bad head (record { at = at; kind = kind })) is (λ text. headed_refused text head (record { at = at; kind = kind }) refused)

pub lacking_told : (told : Wanted) (head : Bytes) (parts : HeadParts) (kind : ℕ) → parts_in head ≡ Ok parts → lacking parts ≡ Some kind → told ≡ wanted.Nothing (bad head (record { at = length head + 2; kind = kind })) → Tells told head
lacking_told told head parts kind read lacks is = told_nothing told head (bad head (record { at = length head + 2; kind = kind })) is (λ text. headed_lacking text head parts kind read lacks)

-- where it was read
pub told_ok : {E X : Type 0} {P Q : X → Type 0} (read : Result X E) → ((x : X) → P x → Q x) → IfOk read P → IfOk read Q
told_ok {E} {X} {P} {Q} (Ok x) more h = more x h
told_ok {E} {X} {P} {Q} (Err e) more h = h

pub body_told : (head : Bytes) (parts : HeadParts) (len : ℕ) → parts_in head ≡ Ok parts → lacking parts ≡ None → len ≡ length head + 4 + unwrap_or parts.left.singles.length 0 → len ≤ 65535 → Tells (wanted.Body len parts) head
body_told head parts len read none is most = (
  (let all = is in omega (arith, all), most, λ text. headed_read text head parts read none ∙ ap (sized text head) (sym is)),
  read,
)

pub too_long : (text head : Bytes) (len : ℕ) → 65535 < len → sized text head len ≡ Long
unfolding sized
too_long text head len more = ap (λ c. cond c (cond (nat_le len (length text)) (whole head len (message_in head (drop (length head + 4) (take len text)))) Open) Long) (past len more)
  where
    past : (n : ℕ) → 65535 < n → nat_le n 65535 ≡ false
    past n h = grind (arith, nat_tests, h)

pub long_told : (head : Bytes) (parts : HeadParts) → parts_in head ≡ Ok parts → lacking parts ≡ None → 65535 < length head + 4 + unwrap_or parts.left.singles.length 0 → Tells (wanted.Nothing Long) head
long_told head parts read none more = λ text. headed_read text head parts read none ∙ too_long text head (length head + 4 + unwrap_or parts.left.singles.length 0) more

-- ## By what it tells

pub body_read : {E : Type 0} (read : Result Front E) (told : Wanted) (text head : Bytes) (len : ℕ) (parts : HeadParts) → told ≡ wanted.Body len parts → Tells told head → IfOk read (λ front. front ≡ sized text head len) → IfOk read (λ front. front ≡ headed text head (message_in head []))
body_read {E} read told text head len parts is tells h =
    let sure : Tells (wanted.Body len parts) head = subst (λ t. Tells t head) is tells in subst (λ f. IfOk read (λ front. front ≡ f)) (sym (sized_as text head len sure.0)) h
  where
    sized_as : (t h : Bytes) (n : ℕ) → IsSized h n → headed t h (message_in h []) ≡ sized t h n
    sized_as t h n (least, most, same) = same t

pub body_least : (told : Wanted) (head : Bytes) (len : ℕ) (parts : HeadParts) → told ≡ wanted.Body len parts → Tells told head → (length head + 4 ≤ len) × (len ≤ 65535) × (parts_in head ≡ Ok parts)
body_least told head len parts is tells = let sure : Tells (wanted.Body len parts) head = subst (λ t. Tells t head) is tells in (sure.0.0, sure.0.1, sure.1)

pub nothing_read : (told : Wanted) (text head : Bytes) (front : Front) → told ≡ wanted.Nothing front → Tells told head → front ≡ headed text head (message_in head [])
nothing_read told text head front is tells = let sure : Tells (wanted.Nothing front) head = subst (λ t. Tells t head) is tells in sym (sure text)

-- ## A message that is there whole

pub whole_made : (head body : Bytes) (len : ℕ) (parts : HeadParts) (message : Message) → parts_in head ≡ Ok parts → Ok message ≡ finished parts.start parts.left body → Whole len message ≡ whole head len (message_in head body)
unfolding whole placed
whole_made head body len parts message read made = sym (ap (whole head len) (message_read head body parts read ∙ ap (placed (length head + 2)) (sym made)))

pub whole_bad : (head body : Bytes) (len : ℕ) (parts : HeadParts) (kind : ℕ) → parts_in head ≡ Ok parts → Err kind ≡ finished parts.start parts.left body → bad head (record { at = length head + 2; kind = kind }) ≡ whole head len (message_in head body)
unfolding whole placed
whole_bad head body len parts kind read made = sym (ap (whole head len) (message_read head body parts read ∙ ap (placed (length head + 2)) (sym made)))
