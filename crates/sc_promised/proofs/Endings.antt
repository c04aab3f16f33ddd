-- A PRACK and a timer leave the number of the last offer.
use Rattle.std.proofs.Common.{◌≡◌, ◌<◌, ℕ, ◌^◌, Bool, true, false, Option, None, Some, List, [], ◌∷◌, refl, sym, ap, subst, ◌∙◌, arith}
use Rattle.std.specs.Prelude.{cond, is_some, ◌&&◌, not, ◌==◌, nat_lt, option_and_then, option_map, decimal, codes}
use Rattle.std.proofs.lemmas.Bool.Decides.{nat_tests}
use Rattle.sc_tokens.specs.Cuts.{pieces}
use Rattle.sc_tokens.specs.Names.{same_bytes}
use Rattle.sc_tokens.specs.Numbers.{number_below, is_digits, number_in}
use Rattle.sc_value.specs.declared.ids.ReqId.{ReqId}
use Rattle.sc_value.specs.declared.ids.TimerId.{TimerId}
use Rattle.sc_value.specs.declared.message.Request.{Request}
use Rattle.sc_terms.specs.declared.calls.Answer.{Answer}
use Rattle.sc_terms.specs.declared.calls.Call.TheVariants as calls
use Rattle.sc_terms.specs.declared.calls.Refusal.{Refusal}
use Rattle.sc_terms.specs.declared.views.RequestView.{RequestView}
use Rattle.sc_terms.specs.declared.views.View.{View}
use Rattle.sc_state.specs.declared.working.Play.{Play}
use Rattle.sc_tokens.specs.Bytes.{Bytes}
use Rattle.sc_hosts.specs.Effects.{after_listed, played_by, answer_of, answer_by, answer_to_call as accepted}
use Rattle.sc_hosts.specs.HelperParts.{strict_number, accepted_then, cancel_then, field_of}
use Rattle.sc_hosts.specs.Offers.{Offer, offer_in, pending_offer, prack_by, late_offer, names_offer, rel_name, ended_offer_text}
use Rattle.sc_hosts.specs.Looking.{timer_in, request_in}
use Rattle.sc_hosts.specs.Refusals.{refusal}
use Rattle.sc_hosts.specs.Words.{ok, does_not_exist}
use Rattle.sc_model.specs.BestResponses.{server_error}
use Rattle.sc_hosts.specs.Scripting.{Script, Done, only, reply, where_some, attribute, is_refused}
use Rattle.sc_promised.proofs.Attributes.{accepted-none, responded-attributes, set-attribute, cancelled-attributes}
use Rattle.sc_promised.proofs.Texts.{acked-read, failed-read}
use Rattle.sc_promised.specs.Reliable.{Remembered, Pending, remembered_of, remembered_in, remembered_four, remembered_at, last_of, play_after}

-- ## Numbers that are read fit

below-test : (n limit : ℕ) → nat_lt n limit ≡ true → n < limit
below-test n limit is = grind (arith, nat_tests, is)

below-by : (a b : Bool) (n m limit : ℕ) → (a && b) ≡ true → b ≡ nat_lt n limit → Some n ≡ Some m → m < limit
below-by true true n m limit both is same = let eq : n ≡ m = cc in rw (← eq) (below-test n limit (sym is))
below-by true false n m limit both is same = cc
below-by false b n m limit both is same = cc

below-cond : (t : Bool) (n m limit : ℕ) → (t ≡ true → n < limit) → cond t (Some n) None ≡ Some m → m < limit
below-cond true n m limit fits is = let eq : n ≡ m = cc in rw (← eq) (fits refl)
below-cond false n m limit fits is = cc

second : (a b : Bool) → (a && b) ≡ true → b ≡ true
second true b is = is
second false b is = cc

number-fits : (text : Bytes) (limit m : ℕ) → number_below limit text ≡ Some m → m < limit
unfolding number_below
number-fits text limit m is = below-cond (is_digits text && nat_lt (number_in text) limit) (number_in text) m limit (λ both. below-test (number_in text) limit (second (is_digits text) _ both)) is

strict-by : (found : Option ℕ) (text : Bytes) (m : ℕ) → ((k : ℕ) → found ≡ Some k → k < 2 ^ 64)
    → option_and_then (λ n. cond (same_bytes (decimal n) text) (Some n) None) found ≡ Some m → m < 2 ^ 64
strict-by None text m fits is = cc
strict-by (Some k) text m fits is = below-cond (same_bytes (decimal k) text) k m (2 ^ 64) (λ _. fits k refl) is

pub strict-fits : (text : Bytes) (m : ℕ) → strict_number text ≡ Some m → m < 2 ^ 64
unfolding strict_number
strict-fits text m is = strict-by (number_below (2 ^ 64) text) text m (number-fits text (2 ^ 64)) is

-- ## The offer that waits is the pending one

pub record Waits (rel : Remembered) (offer : Offer) : Type 0 where
  pub pending : rel ≡ Pending offer.rseq offer.cseq offer.timer
  pub whole : offer ≡ record { letter = 80; rseq = offer.rseq; cseq = offer.cseq; timer = offer.timer }
  pub rseq : offer.rseq < 2 ^ 64
  pub cseq : offer.cseq < 2 ^ 64

waits-four : (letter : Bytes) (p : Bool) → same_bytes letter (codes "P") ≡ p → (r c t : Option ℕ) (offer : Offer)
    → ((m : ℕ) → r ≡ Some m → m < 2 ^ 64) → ((m : ℕ) → c ≡ Some m → m < 2 ^ 64)
    → cond p (option_and_then (λ rseq. option_and_then (λ cseq. option_map {T = ℕ} {U = Offer} (λ timer. record { letter = 80; rseq = rseq; cseq = cseq; timer = timer }) t) c) r) None ≡ Some offer
    → Waits (remembered_four letter r c t) offer
unfolding remembered_four
waits-four letter false test r c t offer r_fits c_fits is = cc
waits-four letter true test None c t offer r_fits c_fits is = cc
waits-four letter true test (Some r) None t offer r_fits c_fits is = cc
waits-four letter true test (Some r) (Some c) None offer r_fits c_fits is = cc
waits-four letter true test (Some r) (Some c) (Some t) offer r_fits c_fits is =
    let eq : ◌≡◌ {A = Offer} (record { letter = 80; rseq = r; cseq = c; timer = t }) offer = cc in
    rw (← eq) (record { pending = rw test refl; whole = refl; rseq = r_fits r refl; cseq = c_fits c refl })

waits-words : (words : List Bytes) (offer : Offer) → offer_in words ≡ Some offer → Waits (remembered_in words) offer
unfolding offer_in remembered_in
waits-words (letter ∷ r ∷ c ∷ t ∷ []) offer is =
    waits-four letter (same_bytes letter (codes "P")) refl (strict_number r) (strict_number c) (strict_number t) offer (strict-fits r) (strict-fits c) is
waits-words [] offer is = cc
waits-words (a ∷ []) offer is = cc
waits-words (a ∷ b ∷ []) offer is = cc
waits-words (a ∷ b ∷ c ∷ []) offer is = cc
waits-words (a ∷ b ∷ c ∷ d ∷ e ∷ more) offer is = cc

waits-text : (found : Option Bytes) (offer : Offer)
    → option_and_then (λ text. offer_in (pieces 32 text)) found ≡ Some offer → Waits (remembered_of found) offer
unfolding remembered_of
waits-text None offer is = cc
waits-text (Some text) offer is = waits-words (pieces 32 text) offer is

pub waits : (view : View) (n : ℕ) (offer : Offer) → pending_offer view n ≡ Some offer
    → Waits (remembered_at view n) offer
unfolding pending_offer
waits view n offer is = waits-text (attribute (rel_name n) view) offer is

-- ## Calls that leave the attributes

answered-same : (play : Play) (req : ReqId) (answer : Answer)
    → (play_after play (only (calls.Respond req answer))).view.attributes ≡ play.view.attributes
unfolding play_after only
answered-same play req answer = responded-attributes play req answer

after-if : (play : Play) (b : Bool) (req : ReqId) (answer : Answer)
    → (play_after play (cond b Done (only (calls.Respond req answer)))).view.attributes ≡ play.view.attributes
unfolding play_after
after-if play true req answer = refl
after-if play false req answer = answered-same play req answer

cancel-answer : (play : Play) (b : Bool) (id : TimerId) (req : ReqId) (answer : Answer)
    → (play_after play (cond b (accepted_then (calls.CancelTimer id) (only (calls.Respond req answer))) (only (calls.Respond req answer)))).view.attributes ≡ play.view.attributes
unfolding play_after accepted_then
cancel-answer play true id req answer = after-if (after_listed play (calls.CancelTimer id)) (is_refused (answer_of play (calls.CancelTimer id))) req answer ∙ cancelled-attributes play id
cancel-answer play false id req answer = answered-same play req answer

-- ## A PRACK

pub same-rel : (a b : View) (n : ℕ) → a.attributes ≡ b.attributes → remembered_at a n ≡ remembered_at b n
unfolding attribute remembered_of
same-rel a b n same = rw same refl

same-last : (a b : View) (n : ℕ) → a.attributes ≡ b.attributes
    → last_of (remembered_at a n) ≡ last_of (remembered_at b n)
unfolding attribute remembered_of last_of
same-last a b n same = rw same refl

refused-by : (play : Play) (name value : Bytes) (found : Option Refusal)
    → is_refused (answer_by play (calls.SetAttribute name value) found) ≡ true
    → (played_by play (calls.SetAttribute name value) found).view.attributes ≡ play.view.attributes
unfolding played_by answer_by accepted is_refused
refused-by play name value None is = cc
refused-by play name value (Some refused) is = refl

refused-attributes : (play : Play) (name value : Bytes)
    → is_refused (answer_of play (calls.SetAttribute name value)) ≡ true
    → (after_listed play (calls.SetAttribute name value)).view.attributes ≡ play.view.attributes
unfolding after_listed answer_of
refused-attributes play name value is = refused-by play name value (refusal play (calls.SetAttribute name value)) is

acked-last : (rel : Remembered) (offer : Offer) → Waits rel offer
    → last_of (remembered_of (Some (ended_offer_text 65 offer))) ≡ offer.rseq
unfolding last_of
acked-last rel offer w = ap (λ (o : Offer). last_of (remembered_of (Some (ended_offer_text 65 o)))) w.whole ∙ ap last_of (acked-read offer.rseq offer.cseq offer.timer w.rseq w.cseq)

failed-last : (rel : Remembered) (offer : Offer) → Waits rel offer
    → last_of (remembered_of (Some (ended_offer_text 70 offer))) ≡ offer.rseq
unfolding last_of
failed-last rel offer w = ap (λ (o : Offer). last_of (remembered_of (Some (ended_offer_text 70 o)))) w.whole ∙ ap last_of (failed-read offer.rseq offer.cseq offer.timer w.rseq w.cseq)

pending-last : (rel : Remembered) (offer : Offer) → Waits rel offer → last_of rel ≡ offer.rseq
unfolding last_of
pending-last rel offer w = ap last_of w.pending

-- accepted or refused, the attribute tells the same last number, and behind it nothing writes
kept-or-set : (letter : ℕ)
    → ((rel : Remembered) (offer : Offer) → Waits rel offer → last_of (remembered_of (Some (ended_offer_text letter offer))) ≡ offer.rseq)
    → (play : Play) (n : ℕ) (offer : Offer) (script : Script) (refused : Bool)
    → is_refused (answer_of play (calls.SetAttribute (rel_name n) (ended_offer_text letter offer))) ≡ refused
    → ((later : Play) → (play_after later script).view.attributes ≡ later.view.attributes)
    → Waits (remembered_at play.view n) offer
    → last_of (remembered_at (play_after (after_listed play (calls.SetAttribute (rel_name n) (ended_offer_text letter offer))) (cond refused Done script)).view n) ≡ last_of (remembered_at play.view n)
unfolding play_after
kept-or-set letter ended play n offer script true is keeps w = same-last _ play.view n (refused-attributes play (rel_name n) (ended_offer_text letter offer) is)
kept-or-set letter ended play n offer script false is keeps w =
    let set = set-attribute play (rel_name n) (ended_offer_text letter offer) (accepted-none play (calls.SetAttribute (rel_name n) (ended_offer_text letter offer)) is) in
    same-last _ (after_listed play (calls.SetAttribute (rel_name n) (ended_offer_text letter offer))).view n (keeps (after_listed play (calls.SetAttribute (rel_name n) (ended_offer_text letter offer))))
    ∙ (ap (λ text. last_of (remembered_of text)) set ∙ ended (remembered_at play.view n) offer w ∙ sym (pending-last (remembered_at play.view n) offer w))

-- a PRACK that names it, or another
prack-named : (play : Play) (invited req : ReqId) (offer : Offer) (refused : Bool)
    → is_refused (answer_of play (reply req 200 ok)) ≡ refused → Waits (remembered_at play.view invited.0) offer
    → last_of (remembered_at (play_after (after_listed play (reply req 200 ok)) (cond refused Done (accepted_then (calls.SetAttribute (rel_name invited.0) (ended_offer_text 65 offer)) (cancel_then offer.timer play.view (only (reply invited 200 ok)))))).view invited.0)
    ≡ last_of (remembered_at play.view invited.0)
unfolding play_after accepted_then cancel_then reply
prack-named play invited req offer true is w = same-last _ play.view invited.0 (responded-attributes play req _)
prack-named play invited req offer false is w =
    let one = after_listed play (reply req 200 ok) in
    let same : remembered_at one.view invited.0 ≡ remembered_at play.view invited.0 = same-rel one.view play.view invited.0 (responded-attributes play req _) in
    kept-or-set 65 acked-last one invited.0 offer (cancel_then offer.timer play.view (only (reply invited 200 ok))) (is_refused (answer_of one (calls.SetAttribute (rel_name invited.0) (ended_offer_text 65 offer)))) refl
    (λ later. cancel-answer later (is_some (timer_in play.view (record { 0 = offer.timer }))) (record { 0 = offer.timer }) invited _) (subst (λ (rel : Remembered). Waits rel offer) (sym same) w)
    ∙ ap last_of same

only-last : (play : Play) (req : ReqId) (answer : Answer) (n : ℕ)
    → last_of (remembered_at (play_after play (only (calls.Respond req answer))).view n) ≡ last_of (remembered_at play.view n)
only-last play req answer n = same-last _ play.view n (answered-same play req answer)

prack-by : (play : Play) (invited req : ReqId) (request : Request) (found : Option Offer)
    → pending_offer play.view invited.0 ≡ found
    → last_of (remembered_at (play_after play (prack_by play.view invited req request found)).view invited.0) ≡ last_of (remembered_at play.view invited.0)
unfolding prack_by reply play_after accepted_then
prack-by play invited req request None is = only-last play req _ invited.0
prack-by play invited req request (Some offer) is = by (names_offer offer (field_of (codes "RAck") request))
  where
    by : (b : Bool)
        → last_of (remembered_at (play_after play (cond b (accepted_then (reply req 200 ok) (accepted_then (calls.SetAttribute (rel_name invited.0) (ended_offer_text 65 offer)) (cancel_then offer.timer play.view (only (reply invited 200 ok))))) (only (reply req 481 does_not_exist)))).view invited.0)
        ≡ last_of (remembered_at play.view invited.0)
    by true = prack-named play invited req offer (is_refused (answer_of play (reply req 200 ok))) refl (waits play.view invited.0 offer is)
    by false = only-last play req _ invited.0

-- a PRACK leaves the last number
pub prack-last : (play : Play) (invited req : ReqId) (request : Request)
    → last_of (remembered_at (play_after play (prack_by play.view invited req request (pending_offer play.view invited.0))).view invited.0) ≡ last_of (remembered_at play.view invited.0)
prack-last play invited req request = prack-by play invited req request (pending_offer play.view invited.0) refl

-- ## A timer

done-last : (play : Play) (n : ℕ) (offer : Offer) (refused : Bool)
    → is_refused (answer_of play (calls.SetAttribute (rel_name n) (ended_offer_text 70 offer))) ≡ refused
    → Waits (remembered_at play.view n) offer
    → last_of (remembered_at (after_listed play (calls.SetAttribute (rel_name n) (ended_offer_text 70 offer))).view n) ≡ last_of (remembered_at play.view n)
done-last play n offer true is w = same-last _ play.view n (refused-attributes play (rel_name n) (ended_offer_text 70 offer) is)
done-last play n offer false is w =
    ap (λ text. last_of (remembered_of text)) (set-attribute play (rel_name n) (ended_offer_text 70 offer) (accepted-none play (calls.SetAttribute (rel_name n) (ended_offer_text 70 offer)) is))
    ∙ (failed-last (remembered_at play.view n) offer w ∙ sym (pending-last (remembered_at play.view n) offer w))

late-refused : (play : Play) (n : ℕ) (offer : Offer) (refused : Bool)
    → is_refused (answer_of play (reply (record { 0 = n }) 500 server_error)) ≡ refused
    → Waits (remembered_at play.view n) offer
    → last_of (remembered_at (play_after (after_listed play (reply (record { 0 = n }) 500 server_error)) (cond refused Done (only (calls.SetAttribute (rel_name n) (ended_offer_text 70 offer))))).view n) ≡ last_of (remembered_at play.view n)
unfolding play_after reply only
late-refused play n offer true is w = same-last _ play.view n (responded-attributes play _ _)
late-refused play n offer false is w =
    let one = after_listed play (reply (record { 0 = n }) 500 server_error) in
    let same : remembered_at one.view n ≡ remembered_at play.view n = same-rel one.view play.view n (responded-attributes play _ _) in
    done-last one n offer (is_refused (answer_of one (calls.SetAttribute (rel_name n) (ended_offer_text 70 offer)))) refl (subst (λ (rel : Remembered). Waits rel offer) (sym same) w) ∙ ap last_of same

late-given : (play : Play) (n : ℕ) (offer : Offer) (b : Bool) → Waits (remembered_at play.view n) offer
    → last_of (remembered_at (play_after play (cond b (accepted_then (reply (record { 0 = n }) 500 server_error) (only (calls.SetAttribute (rel_name n) (ended_offer_text 70 offer)))) Done)).view n) ≡ last_of (remembered_at play.view n)
unfolding play_after accepted_then
late-given play n offer true w = late-refused play n offer (is_refused (answer_of play (reply (record { 0 = n }) 500 server_error))) refl w
late-given play n offer false w = refl

late-found : (play : Play) (n : ℕ) (id : TimerId) (offer : Offer) (found : Option RequestView)
    → Waits (remembered_at play.view n) offer
    → last_of (remembered_at (play_after play (where_some found (λ request. cond (offer.timer == id.0 && not (is_some request.answered)) (accepted_then (reply (record { 0 = n }) 500 server_error) (only (calls.SetAttribute (rel_name n) (ended_offer_text 70 offer)))) Done))).view n)
    ≡ last_of (remembered_at play.view n)
unfolding where_some play_after
late-found play n id offer None w = refl
late-found play n id offer (Some request) w = late-given play n offer (offer.timer == id.0 && not (is_some request.answered)) w

late-by : (play : Play) (n : ℕ) (id : TimerId) (found : Option Offer) → pending_offer play.view n ≡ found
    → last_of (remembered_at (play_after play (where_some found (λ offer. where_some (request_in play.view (record { 0 = n })) (λ request. cond (offer.timer == id.0 && not (is_some request.answered)) (accepted_then (reply (record { 0 = n }) 500 server_error) (only (calls.SetAttribute (rel_name n) (ended_offer_text 70 offer)))) Done)))).view n)
    ≡ last_of (remembered_at play.view n)
unfolding where_some play_after
late-by play n id None is = refl
late-by play n id (Some offer) is = late-found play n id offer _ (waits play.view n offer is)

-- a timer leaves the last number
pub late-last : (play : Play) (n : ℕ) (id : TimerId)
    → last_of (remembered_at (play_after play (late_offer play.view n id)).view n) ≡ last_of (remembered_at play.view n)
unfolding late_offer
late-last play n id = late-by play n id (pending_offer play.view n) refl
