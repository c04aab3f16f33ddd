-- The offer to the INVITE that begins a session isn't refused behind its response.
use Rattle.std.proofs.Common.{◌≡◌, ◌≤◌, ◌<◌, ℕ, ◌+◌, ◌++◌, false, Option, None, Some, List, [], ◌∷◌, refl, sym, ap, subst, ◌∙◌, arith}
use Rattle.std.proofs.lemmas.Bool.Decides.{nat_tests}
use Rattle.std.proofs.lemmas.Fmt.{length-decimal-le}
use Rattle.std.proofs.lemmas.List.{length-append}
use Rattle.std.specs.Prelude.{◌^◌, codes, decimal, length, nat_le, nat_lt}
use Rattle.sc_value.specs.declared.ids.ReqId.{ReqId}
use Rattle.sc_value.specs.declared.message.Request.{Request}
use Rattle.sc_value.specs.declared.parts.Field.{Field}
use Rattle.sc_tokens.specs.Bytes.{Bytes}
use Rattle.sc_terms.specs.declared.calls.Answer.{Answer}
use Rattle.sc_terms.specs.declared.calls.Call.{Call}
use Rattle.sc_terms.specs.declared.calls.Call.TheVariants as calls
use Rattle.sc_terms.specs.declared.calls.Refusal.{Refusal}
use Rattle.sc_terms.specs.declared.views.Period.TheVariants.{Once}
use Rattle.sc_terms.specs.declared.views.RequestView.{RequestView}
use Rattle.sc_terms.specs.declared.views.View.{View}
use Rattle.sc_state.specs.declared.working.Play.{Play}
use Rattle.sc_hosts.specs.Effects.{after_call, after_listed, answer_by, answer_of, answer_to_call as accepted, first_play as begun, played_by, with_attribute}
use Rattle.sc_hosts.specs.Looking.{request_in}
use Rattle.sc_hosts.specs.Offers.{offer_text, rel_name, session_progress}
use Rattle.sc_hosts.specs.RefusalParts.{MOST_ATTRIBUTE_BYTES, MOST_CALLS, first_of, name_refusal, sessions_in_call as named}
use Rattle.sc_hosts.specs.Refusals.{attribute_bytes, is_set, is_zero_period, own_refusal, refusal}
use Rattle.sc_hosts.specs.Scripting.{attribute, is_refused}
use Rattle.sc_hosts.specs.ViewChanges.{view_with_answer as answered, answered_in, tidy}
use Rattle.sc_promised.specs.Reliable.{Given, IsSound, Offers, Sound, next_of, offer_call, remembered_at, remembered_of}
use Rattle.sc_promised.proofs.Attributes.{responded-attributes, same-self, timed-attributes}

-- ## Lengths

below-twenty : (n : ℕ) → n < 2 ^ 64 → n < 10 ^ 20
below-twenty n p = omega (arith, p)

positive : 0 < 20
positive = omega arith

decimal-short : (n : ℕ) → n < 2 ^ 64 → length (decimal n) ≤ 20
decimal-short n p = length-decimal-le 20 n positive (below-twenty n p) p

name-sum : (a b k : ℕ) → k ≡ a + b → a ≡ 3 → b ≤ 20 → k ≤ 23
name-sum a b k is p q = omega (arith, is, p, q)

three : length (codes "rel") ≡ 3
three = refl

name-short : (n : ℕ) → n < 2 ^ 64 → length (rel_name n) ≤ 23
unfolding rel_name
name-short n p = name-sum (length (codes "rel")) (length (decimal n)) _ (length-append (codes "rel") (decimal n)) three (decimal-short n p)

two : length (codes "P ") ≡ 2
two = refl

one : length (codes " ") ≡ 1
one = refl

text-sum : (p r s c t k pr prs prsc prscs : ℕ) → pr ≡ p + r → prs ≡ pr + s → prsc ≡ prs + c → prscs ≡ prsc + s → k ≡ prscs + t → p ≡ 2 → s ≡ 1 → r ≤ 20 → c ≤ 20 → t ≤ 20 → k ≤ 64
text-sum p r s c t k pr prs prsc prscs a b d e f is-p is-s x y z = omega (arith, a, b, d, e, f, is-p, is-s, x, y, z)

text-short : (r c t : ℕ) → r < 2 ^ 64 → c < 2 ^ 64 → t < 2 ^ 64 → length (offer_text r c t) ≤ 64
unfolding offer_text
text-short r c t x y z =
    text-sum (length (codes "P ")) (length (decimal r)) (length (codes " ")) (length (decimal c)) (length (decimal t)) _ _ _ _ _
    (length-append (codes "P ") (decimal r)) (length-append (codes "P " ++ decimal r) (codes " ")) (length-append (codes "P " ++ decimal r ++ codes " ") (decimal c))
    (length-append (codes "P " ++ decimal r ++ codes " " ++ decimal c) (codes " ")) (length-append (codes "P " ++ decimal r ++ codes " " ++ decimal c ++ codes " ") (decimal t))
    two one (decimal-short r x) (decimal-short c y) (decimal-short t z)

-- ## Calls that aren't refused

-- a turn that has listed so many calls, and goes on
record IsOpen (play : Play) (k : ℕ) : Type 0 where
  listed : play.listed ≡ k
  ended : play.ended ≡ false

begun-open : (view : View) → IsOpen (begun view) 0
unfolding begun
begun-open view = record { listed = refl; ended = refl }

respond-open : (play : Play) (k : ℕ) (req : ReqId) (answer : Answer) (found : Option Refusal) → IsOpen play k → IsOpen (played_by play (calls.Respond req answer) found) k
unfolding played_by after_call
respond-open play k req answer None is = record { listed = is.listed; ended = is.ended }
respond-open play k req answer (Some refused) is = is

set-open : (play : Play) (k : ℕ) (name value : Bytes) (found : Option Refusal) → IsOpen play k → IsOpen (played_by play (calls.SetAttribute name value) found) k
unfolding played_by after_call
set-open play k name value None is = record { listed = is.listed; ended = is.ended }
set-open play k name value (Some refused) is = is

start-open : (play : Play) (k delay : ℕ) (info : Bytes) (found : Option Refusal) → IsOpen play k → IsOpen (played_by play (calls.StartTimer delay Once info) found) k
unfolding played_by after_call
start-open play k delay info None is = record { listed = is.listed; ended = is.ended }
start-open play k delay info (Some refused) is = is

next-open : (play : Play) (k : ℕ) (call : Call) → IsOpen (played_by play call (refusal play call)) k → IsOpen (after_listed play call) (k + 1)
unfolding after_listed
next-open play k call is = record { listed = ap (λ (n : ℕ). n + 1) is.listed; ended = is.ended }

set-passes : (play : Play) (name value : Bytes) → nat_lt MOST_ATTRIBUTE_BYTES (attribute_bytes name play.view.attributes + length name + length value) ≡ false
    → own_refusal play (calls.SetAttribute name value) ≡ None
unfolding own_refusal first_of
set-passes play name value is = rw is refl

start-passes : (play : Play) (delay : ℕ) (info : Bytes) → play.view.timers ≡ [] → own_refusal play (calls.StartTimer delay Once info) ≡ None
unfolding own_refusal first_of is_zero_period
start-passes play delay info none = rw none refl

set-names : (play : Play) (name value : Bytes) → name_refusal play.view (named play (calls.SetAttribute name value)) ≡ None
unfolding name_refusal named
set-names play name value = refl

start-names : (play : Play) (delay : ℕ) (info : Bytes) → name_refusal play.view (named play (calls.StartTimer delay Once info)) ≡ None
unfolding name_refusal named
start-names play delay info = refl

few : (k : ℕ) → k < 256 → nat_le MOST_CALLS k ≡ false
few k p = grind (arith, nat_tests, p)

no-refusal : (play : Play) (k : ℕ) (call : Call) → k < 256 → IsOpen play k → name_refusal play.view (named play call) ≡ None → own_refusal play call ≡ None → refusal play call ≡ None
unfolding refusal first_of
no-refusal play k call small is names own = rw (names, own, is.listed, few k small, is.ended) refl

set-free : (play : Play) (name value : Bytes) → refusal play (calls.SetAttribute name value) ≡ None → is_refused (answer_of play (calls.SetAttribute name value)) ≡ false
unfolding answer_of answer_by accepted is_refused
set-free play name value none = rw none refl

start-free : (play : Play) (delay : ℕ) (info : Bytes) → refusal play (calls.StartTimer delay Once info) ≡ None → is_refused (answer_of play (calls.StartTimer delay Once info)) ≡ false
unfolding answer_of answer_by accepted is_refused
start-free play delay info none = rw none refl

-- ## What they leave

answered-timers : (request : Option RequestView) (code : ℕ) (view : View) → ((answered request code view).timers ≡ view.timers) × ((answered request code view).next_timer ≡ view.next_timer)
unfolding answered answered_in tidy
answered-timers None code view = (refl, refl)
answered-timers (Some request) code view = (refl, refl)

respond-timers : (play : Play) (req : ReqId) (answer : Answer) (found : Option Refusal)
    → ((played_by play (calls.Respond req answer) found).view.timers ≡ play.view.timers) × ((played_by play (calls.Respond req answer) found).view.next_timer ≡ play.view.next_timer)
unfolding played_by after_call
respond-timers play req answer None = answered-timers (request_in play.view req) answer.code play.view
respond-timers play req answer (Some refused) = (refl, refl)

set-timers : (play : Play) (name value : Bytes) (found : Option Refusal)
    → ((played_by play (calls.SetAttribute name value) found).view.timers ≡ play.view.timers) × ((played_by play (calls.SetAttribute name value) found).view.next_timer ≡ play.view.next_timer)
unfolding played_by after_call
set-timers play name value None = (refl, refl)
set-timers play name value (Some refused) = (refl, refl)

set-first : (play : Play) (name value : Bytes) → play.view.attributes ≡ [] → refusal play (calls.SetAttribute name value) ≡ None
    → (after_listed play (calls.SetAttribute name value)).view.attributes ≡ record { name = name; value = value } ∷ []
unfolding after_listed played_by after_call with_attribute is_set
set-first play name value none free = rw (free, none) refl

bytes-none : (name : Bytes) (fields : List Field) → fields ≡ [] → attribute_bytes name fields ≡ 0
unfolding attribute_bytes
bytes-none name fields none = rw none refl

bytes-own : (name value : Bytes) (fields : List Field) → fields ≡ record { name = name; value = value } ∷ [] → attribute_bytes name fields ≡ 0
unfolding attribute_bytes
bytes-own name value fields is = rw (is, same-self name) refl

within : (a n v k : ℕ) → a ≡ 0 → n ≤ 23 → v ≤ 64 → k ≡ a + n + v → nat_lt MOST_ATTRIBUTE_BYTES k ≡ false
within a n v k p q r is = grind (arith, nat_tests, p, q, r, is)

-- ## The offer

module _ (view : View) (req : ReqId) (c : ℕ) (fields : view.attributes ≡ []) (timers : view.timers ≡ []) (next : view.next_timer ≡ 1) (own : req.0 < 2 ^ 64) (small : c < 2 ^ 64)
    (responded : is_refused (answer_of (begun view) (offer_call req 1 183 session_progress [])) ≡ false) where
  abbrev given : Play
  given = after_listed (begun view) (offer_call req 1 183 session_progress [])

  abbrev noted : Play
  noted = after_listed given (calls.SetAttribute (rel_name req.0) (offer_text 1 c 0))

  abbrev timed : Play
  timed = after_listed noted (calls.StartTimer 32000 Once (rel_name req.0))

  begun-fields : (begun view).view.attributes ≡ []
  unfolding begun
  begun-fields = fields

  given-fields : given.view.attributes ≡ []
  given-fields = responded-attributes (begun view) req _ ∙ begun-fields

  given-open : IsOpen given 1
  given-open = next-open (begun view) 0 (offer_call req 1 183 session_progress []) (respond-open (begun view) 0 req _ (refusal (begun view) (offer_call req 1 183 session_progress [])) (begun-open view))

  given-timers : (given.view.timers ≡ []) × (given.view.next_timer ≡ 1)
  unfolding after_listed begun
  given-timers =
      let same = respond-timers (begun view) req _ (refusal (begun view) (offer_call req 1 183 session_progress [])) in
      (same.0 ∙ timers, same.1 ∙ next)

  note-passes : refusal given (calls.SetAttribute (rel_name req.0) (offer_text 1 c 0)) ≡ None
  note-passes =
      no-refusal given 1 (calls.SetAttribute (rel_name req.0) (offer_text 1 c 0)) (omega arith) given-open (set-names given (rel_name req.0) (offer_text 1 c 0))
      (set-passes given (rel_name req.0) (offer_text 1 c 0)
      (within (attribute_bytes (rel_name req.0) given.view.attributes) (length (rel_name req.0)) (length (offer_text 1 c 0)) _
      (bytes-none (rel_name req.0) given.view.attributes given-fields) (name-short req.0 own) (text-short 1 c 0 (omega arith) small (omega arith)) refl))

  noted-open : IsOpen noted 2
  noted-open = next-open given 1 (calls.SetAttribute (rel_name req.0) (offer_text 1 c 0)) (set-open given 1 (rel_name req.0) (offer_text 1 c 0) (refusal given (calls.SetAttribute (rel_name req.0) (offer_text 1 c 0))) given-open)

  noted-timers : (noted.view.timers ≡ []) × (noted.view.next_timer ≡ 1)
  unfolding after_listed
  noted-timers =
      let same = set-timers given (rel_name req.0) (offer_text 1 c 0) (refusal given (calls.SetAttribute (rel_name req.0) (offer_text 1 c 0))) in
      (same.0 ∙ given-timers.0, same.1 ∙ given-timers.1)

  noted-fields : noted.view.attributes ≡ record { name = rel_name req.0; value = offer_text 1 c 0 } ∷ []
  noted-fields = set-first given (rel_name req.0) (offer_text 1 c 0) given-fields note-passes

  timer-passes : refusal noted (calls.StartTimer 32000 Once (rel_name req.0)) ≡ None
  timer-passes =
      no-refusal noted 2 (calls.StartTimer 32000 Once (rel_name req.0)) (omega arith) noted-open (start-names noted 32000 (rel_name req.0)) (start-passes noted 32000 (rel_name req.0) noted-timers.0)

  timed-open : IsOpen timed 3
  timed-open = next-open noted 2 (calls.StartTimer 32000 Once (rel_name req.0)) (start-open noted 2 32000 (rel_name req.0) (refusal noted (calls.StartTimer 32000 Once (rel_name req.0))) noted-open)

  timed-fields : timed.view.attributes ≡ record { name = rel_name req.0; value = offer_text 1 c 0 } ∷ []
  timed-fields = timed-attributes noted 32000 Once (rel_name req.0) ∙ noted-fields

  timer-small : noted.view.next_timer < 2 ^ 64
  timer-small = rw (noted-timers.1) (omega arith)

  name-passes : refusal timed (calls.SetAttribute (rel_name req.0) (offer_text 1 c noted.view.next_timer)) ≡ None
  name-passes =
      no-refusal timed 3 (calls.SetAttribute (rel_name req.0) (offer_text 1 c noted.view.next_timer)) (omega arith) timed-open (set-names timed (rel_name req.0) (offer_text 1 c noted.view.next_timer))
      (set-passes timed (rel_name req.0) (offer_text 1 c noted.view.next_timer)
      (within (attribute_bytes (rel_name req.0) timed.view.attributes) (length (rel_name req.0)) (length (offer_text 1 c noted.view.next_timer)) _
      (bytes-own (rel_name req.0) (offer_text 1 c 0) timed.view.attributes timed-fields) (name-short req.0 own) (text-short 1 c noted.view.next_timer (omega arith) small timer-small) refl))

  all-given : Given (begun view) req 1 c 183 session_progress []
  all-given = record {
    responded = responded;
    noted = set-free given (rel_name req.0) (offer_text 1 c 0) note-passes;
    timed = start-free noted 32000 (rel_name req.0) timer-passes;
    timer = noted.view.next_timer;
    timer_is = refl;
    named = set-free timed (rel_name req.0) (offer_text 1 c noted.view.next_timer) name-passes;
  }

  pub offer-sound : Sound (begun view) req 1 c 183 session_progress []
  unfolding all-given after_listed
  offer-sound = record { given = all-given; rseq = omega arith; cseq = small; timer = timer-small }

some-number : (a b : ℕ) → Some a ≡ Some b → a ≡ b
some-number a b is = cc

fresh-next : (view : View) (req : ReqId) → view.attributes ≡ [] → next_of (remembered_at (begun view).view req.0) ≡ Some 1
unfolding begun attribute remembered_of next_of
fresh-next view req none = rw none refl

-- where nothing was remembered and no timer runs
pub first-sound : (view : View) (req : ReqId) (request : Request) → view.attributes ≡ [] → view.timers ≡ [] → view.next_timer ≡ 1 → req.0 < 2 ^ 64 → request.head.cseq.number < 2 ^ 64
    → IsSound (begun view) (Offers req request 183 session_progress [])
unfolding IsSound
first-sound view req request fields timers next own small = λ r is responded.
    by-number r (some-number 1 r (sym (fresh-next view req fields) ∙ is)) responded
  where
    by-number : (r : ℕ) → 1 ≡ r → is_refused (answer_of (begun view) (offer_call req r 183 session_progress [])) ≡ false
        → Sound (begun view) req r request.head.cseq.number 183 session_progress []
    by-number r one responded = subst (λ (n : ℕ). Sound (begun view) req n request.head.cseq.number 183 session_progress []) one
        (offer-sound view req request.head.cseq.number fields timers next own small (rw one responded))
