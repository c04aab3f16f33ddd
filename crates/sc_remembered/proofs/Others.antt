-- An act of one INVITE leaves what is remembered of every other.
use Rattle.std.proofs.Common.{◌≡◌, ◌<◌, ℕ, ◌++◌, Bool, true, false, Option, None, Some, [], ◌∷◌, refl, sym, ap, subst, ◌∙◌, arith}
use Rattle.std.specs.Prelude.{◌==◌, ◌+◌, ◌&&◌, ◌^◌, cond, codes, decimal, is_some, not}
use Rattle.std.proofs.lemmas.Bool.Decides.{nat_tests}
use Rattle.std.proofs.lemmas.Fmt.{decimal_injective}
use Rattle.sc_tokens.specs.Names.{same_bytes}
use Rattle.sc_value.specs.declared.ids.ReqId.{ReqId}
use Rattle.sc_value.specs.declared.ids.TimerId.{TimerId}
use Rattle.sc_value.specs.declared.message.Request.{Request}
use Rattle.sc_tokens.specs.Bytes.{Bytes}
use Rattle.sc_terms.specs.declared.calls.Call.{Call}
use Rattle.sc_terms.specs.declared.calls.Call.TheVariants as calls
use Rattle.sc_terms.specs.declared.calls.CallAnswer.{CallAnswer}
use Rattle.sc_terms.specs.declared.calls.CallAnswer.TheVariants as answers
use Rattle.sc_terms.specs.declared.calls.Refusal.{Refusal}
use Rattle.sc_terms.specs.declared.views.View.{View}
use Rattle.sc_state.specs.declared.working.Play.{Play}
use Rattle.sc_hosts.proofs.Deliveries.{same_bytes-equal}
use Rattle.sc_hosts.specs.Effects.{after_call, first_play as begun, after_listed, answer_of, played_by, with_timer}
use Rattle.sc_hosts.specs.HelperParts.{accepted_then, cancel_then, field_of, lists_option}
use Rattle.sc_hosts.specs.Offers.{Offer, ended_offer_text, late_offer, names_offer, pending_offer, prack_by, rel_name, rel_option}
use Rattle.sc_hosts.specs.Looking.{request_in, timer_in}
use Rattle.sc_hosts.specs.Refusals.{refusal}
use Rattle.sc_hosts.specs.Scripting.{Done, Make, Script, attribute, is_refused, only, reply, where_some, with_number}
use Rattle.sc_hosts.specs.Words.{does_not_exist, ok}
use Rattle.sc_model.specs.BestResponses.{server_error}
use Rattle.sc_promised.specs.Reliable.{Acked, Act, Failed, Fresh, Late, MOST_RSEQ, Offers, Pending, Pracks, Remembered, offer_by, offer_call, offer_script, offers, play_after, remembered_at, remembered_of, script_of}
use Rattle.sc_promised.proofs.Attributes.{cancelled-by, created-by, sent-by, set-other, remove-other}
use Rattle.sc_remembered.proofs.Parts.{answered-kept}
use Rattle.sc_remembered.specs.Early.{invite_of}

-- ## Names

pub cut-front : (xs ys zs : Bytes) → xs ++ ys ≡ xs ++ zs → ys ≡ zs
cut-front [] ys zs same = same
cut-front (x ∷ xs) ys zs same = cut-front xs ys zs (tails x (xs ++ ys) (xs ++ zs) same)
  where
    tails : (x : ℕ) (us vs : Bytes) → x ∷ us ≡ x ∷ vs → us ≡ vs
    tails x us vs same = cc

names-one : (m n : ℕ) → m < 2 ^ 64 → n < 2 ^ 64 → rel_name m ≡ rel_name n → m ≡ n
unfolding rel_name
names-one m n p q same = decimal_injective m n p q (cut-front (codes "rel") (decimal m) (decimal n) same)

names-apart : (m n : ℕ) → m < 2 ^ 64 → n < 2 ^ 64 → (m == n) ≡ false → same_bytes (rel_name m) (rel_name n) ≡ false
names-apart m n p q other = by (same_bytes (rel_name m) (rel_name n)) refl
  where
    clash : (m n : ℕ) → m ≡ n → (m == n) ≡ false → true ≡ false
    clash m n is other = absurd (grind (arith, nat_tests, is, other))

    by : (b : Bool) → same_bytes (rel_name m) (rel_name n) ≡ b → b ≡ false
    by true is = clash m n (names-one m n p q (same_bytes-equal (rel_name m) (rel_name n) is)) other
    by false is = refl

-- ## Scripts that write one attribute alone

-- a call that writes or removes this attribute, or none
unfoldable pub IsFor : Bytes → Call → Type 0
IsFor name (calls.SetAttribute other value) = other ≡ name
IsFor name (calls.RemoveAttribute other) = other ≡ name
IsFor name (calls.Respond req answer) = Unit {0}
IsFor name (calls.StartTimer delay period info) = Unit {0}
IsFor name (calls.CancelTimer id) = Unit {0}
IsFor name (calls.CreateInDialog sess ask) = Unit {0}
IsFor name (calls.Send draft) = Unit {0}
IsFor name call = ⊥

unfoldable pub AreFor : Bytes → Script → Type 0
AreFor name Done = Unit {0}
AreFor name (Make call next) = IsFor name call × ((answer : CallAnswer) → AreFor name (next answer))

same-fields : (other : Bytes) (play : Play) (call : Call) (found : Option Refusal) → (played_by play call found).view.attributes ≡ play.view.attributes → attribute other (played_by play call found).view ≡ attribute other play.view
unfolding attribute
same-fields other play call found same = rw same refl

respond-fields : (play : Play) (req : ReqId) (answer : _) (found : Option Refusal) → (played_by play (calls.Respond req answer) found).view.attributes ≡ play.view.attributes
unfolding played_by after_call
respond-fields play req answer None = answered-kept _ answer.code play.view
respond-fields play req answer (Some refused) = refl

start-fields : (play : Play) (delay : ℕ) (period : _) (info : Bytes) (found : Option Refusal) → (played_by play (calls.StartTimer delay period info) found).view.attributes ≡ play.view.attributes
unfolding played_by after_call with_timer
start-fields play delay period info None = refl
start-fields play delay period info (Some refused) = refl

call-other : (name other : Bytes) → same_bytes name other ≡ false → (play : Play) (call : Call) → IsFor name call
    → attribute other (after_listed play call).view ≡ attribute other play.view
unfolding IsFor after_listed attribute
call-other name other apart play (calls.SetAttribute written value) is =
    set-other written value other (subst (λ (text : Bytes). same_bytes text other ≡ false) (sym is) apart) play (refusal play (calls.SetAttribute written value))
call-other name other apart play (calls.Respond req answer) is = same-fields other play (calls.Respond req answer) _ (respond-fields play req answer (refusal play (calls.Respond req answer)))
call-other name other apart play (calls.StartTimer delay period info) is =
    same-fields other play (calls.StartTimer delay period info) _ (start-fields play delay period info (refusal play (calls.StartTimer delay period info)))
call-other name other apart play (calls.CancelTimer id) is = same-fields other play (calls.CancelTimer id) _ (cancelled-by play id (refusal play (calls.CancelTimer id)))
call-other name other apart play (calls.CreateRequest ask) is = absurd is
call-other name other apart play (calls.CreateInDialog sess ask) is =
    same-fields other play (calls.CreateInDialog sess ask) _ (created-by play sess ask (refusal play (calls.CreateInDialog sess ask)))
call-other name other apart play (calls.B2bCreate req uri) is = absurd is
call-other name other apart play (calls.SetDirective draft directive origin) is = absurd is
call-other name other apart play (calls.Send draft) is = same-fields other play (calls.Send draft) _ (sent-by play draft (refusal play (calls.Send draft)))
call-other name other apart play (calls.Discard draft) is = absurd is
call-other name other apart play (calls.Ack sess body) is = absurd is
call-other name other apart play (calls.Cancel req) is = absurd is
call-other name other apart play (calls.ProxyTo req uris how) is = absurd is
call-other name other apart play (calls.ProxyCancel req) is = absurd is
call-other name other apart play (calls.B2bRespond sess answer) is = absurd is
call-other name other apart play (calls.Link a b) is = absurd is
call-other name other apart play (calls.Unlink a) is = absurd is
call-other name other apart play (calls.RemoveAttribute removed) is =
    remove-other removed other (subst (λ (text : Bytes). same_bytes text other ≡ false) (sym is) apart) play (refusal play (calls.RemoveAttribute removed))
call-other name other apart play (calls.SetExpires minutes) is = absurd is
call-other name other apart play (calls.SetReadyFlag target flag) is = absurd is
call-other name other apart play (calls.InvalidateSession sess) is = absurd is
call-other name other apart play calls.InvalidateApplication is = absurd is

pub script-other : (name other : Bytes) → same_bytes name other ≡ false → (script : Script) (play : Play) → AreFor name script
    → attribute other (play_after play script).view ≡ attribute other play.view
unfolding AreFor play_after
script-other name other apart Done play are = refl
script-other name other apart (Make call next) play are =
    script-other name other apart (next (answer_of play call)) (after_listed play call) (are.1 (answer_of play call)) ∙ call-other name other apart play call are.0

-- ## Acts

pub if-for : (name : Bytes) (b : Bool) (x y : Script) → AreFor name x → AreFor name y → AreFor name (cond b x y)
if-for name true x y p q = p
if-for name false x y p q = q

pub then-for : (name : Bytes) (call : Call) (script : Script) → IsFor name call → AreFor name script → AreFor name (accepted_then call script)
unfolding AreFor accepted_then
then-for name call script one more = (one, λ answer. if-for name (is_refused answer) Done script tt more)

pub only-for : (name : Bytes) (call : Call) → IsFor name call → AreFor name (only call)
unfolding AreFor only
only-for name call one = (one, λ answer. tt)

pub reply-for : (name : Bytes) (req : ReqId) (code : ℕ) (reason : Bytes) → IsFor name (reply req code reason)
unfolding IsFor reply
reply-for name req code reason = tt

pub number-for : (name : Bytes) (next : ℕ → Script) → ((t : ℕ) → AreFor name (next t)) → (answer : CallAnswer) → AreFor name (with_number next answer)
unfolding with_number AreFor
number-for name next each answers.Fine = tt
number-for name next each (answers.Number n) = each n
number-for name next each (answers.Refused refused) = tt

offers-for : (req : ReqId) (r c code : ℕ) (reason body : Bytes) → AreFor (rel_name req.0) (offers req r c code reason body)
unfolding offers AreFor IsFor
offers-for req r c code reason body =
    then-for (rel_name req.0) (offer_call req r code reason body) _ tt
    (then-for (rel_name req.0) (calls.SetAttribute (rel_name req.0) _) _ refl (tt, number-for (rel_name req.0) _ (λ t. only-for (rel_name req.0) (calls.SetAttribute (rel_name req.0) _) refl)))

pub done-for : (name : Bytes) → AreFor name Done
unfolding AreFor
done-for name = tt

offer-for : (req : ReqId) (rel : Remembered) (c code : ℕ) (reason body : Bytes) → AreFor (rel_name req.0) (offer_by rel req c code reason body)
unfolding offer_by
offer-for req (Pending r d t) c code reason body = done-for (rel_name req.0)
offer-for req Fresh c code reason body = offers-for req 1 c code reason body
offer-for req (Acked r d) c code reason body = if-for (rel_name req.0) (r == MOST_RSEQ) Done (offers req (r + 1) c code reason body) (done-for (rel_name req.0)) (offers-for req (r + 1) c code reason body)
offer-for req (Failed r d) c code reason body = if-for (rel_name req.0) (r == MOST_RSEQ) Done (offers req (r + 1) c code reason body) (done-for (rel_name req.0)) (offers-for req (r + 1) c code reason body)

pub where-for : {A : Type 0} (name : Bytes) (found : Option A) (next : A → Script) → ((a : A) → AreFor name (next a)) → AreFor name (where_some found next)
unfolding where_some AreFor
where-for name None next each = tt
where-for name (Some a) next each = each a

pub cancel-for : (name : Bytes) (timer : ℕ) (view : View) (script : Script) → AreFor name script → AreFor name (cancel_then timer view script)
unfolding cancel_then IsFor
cancel-for name timer view script more =
    if-for name (is_some (timer_in view (record { 0 = timer }))) (accepted_then (calls.CancelTimer (record { 0 = timer })) script) script (then-for name (calls.CancelTimer (record { 0 = timer })) script tt more) more

prack-for : (view : View) (invited req : ReqId) (request : Request) (found : Option Offer) → AreFor (rel_name invited.0) (prack_by view invited req request found)
unfolding prack_by IsFor
prack-for view invited req request None = only-for (rel_name invited.0) (reply req 481 does_not_exist) (reply-for (rel_name invited.0) req 481 does_not_exist)
prack-for view invited req request (Some offer) =
    if-for (rel_name invited.0) (names_offer offer (field_of (codes "RAck") request)) (accepted_then (reply req 200 ok) (accepted_then (calls.SetAttribute (rel_name invited.0) (ended_offer_text 65 offer)) (cancel_then offer.timer view (only (reply invited 200 ok)))))
    (only (reply req 481 does_not_exist))
    (then-for (rel_name invited.0) (reply req 200 ok) _ (reply-for (rel_name invited.0) req 200 ok)
    (then-for (rel_name invited.0) (calls.SetAttribute (rel_name invited.0) (ended_offer_text 65 offer)) _ refl
    (cancel-for (rel_name invited.0) offer.timer view (only (reply invited 200 ok)) (only-for (rel_name invited.0) (reply invited 200 ok) (reply-for (rel_name invited.0) invited 200 ok)))))
    (only-for (rel_name invited.0) (reply req 481 does_not_exist) (reply-for (rel_name invited.0) req 481 does_not_exist))

late-for : (view : View) (n : ℕ) (id : TimerId) → AreFor (rel_name n) (late_offer view n id)
unfolding late_offer IsFor
late-for view n id =
    where-for (rel_name n) (pending_offer view n) _ (λ offer. where-for (rel_name n) (request_in view (record { 0 = n })) _ (λ request.
    if-for (rel_name n) (offer.timer == id.0 && not (is_some request.answered)) (accepted_then (reply (record { 0 = n }) 500 server_error) (only (calls.SetAttribute (rel_name n) (ended_offer_text 70 offer)))) Done
    (then-for (rel_name n) (reply (record { 0 = n }) 500 server_error) _ (reply-for (rel_name n) (record { 0 = n }) 500 server_error) (only-for (rel_name n) (calls.SetAttribute (rel_name n) (ended_offer_text 70 offer)) refl))
    (done-for (rel_name n))))

act-for : (view : View) (act : Act) → AreFor (rel_name (invite_of act)) (script_of view act)
unfolding script_of invite_of offer_script
act-for view (Offers req request code reason body) =
    if-for (rel_name req.0) (lists_option rel_option request) (offer_by (remembered_at view req.0) req request.head.cseq.number code reason body) Done (offer-for req (remembered_at view req.0) request.head.cseq.number code reason body) (done-for (rel_name req.0))
act-for view (Pracks invited req request) = prack-for view invited req request (pending_offer view invited.0)
act-for view (Late invited id) = late-for view invited.0 id

pub act-others : (n : ℕ) (view : View) (act : Act) → invite_of act < 2 ^ 64 → n < 2 ^ 64 → (invite_of act == n) ≡ false
    → remembered_at (play_after (begun view) (script_of view act)).view n ≡ remembered_at view n
unfolding begun
act-others n view act p q other =
    ap remembered_of (script-other (rel_name (invite_of act)) (rel_name n) (names-apart (invite_of act) n p q other) (script_of view act) (begun view) (act-for view act))
