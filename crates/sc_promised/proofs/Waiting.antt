-- The offer that waits is answered 200 exactly where a PRACK names it; and it waits until it is settled.
use Rattle.std.proofs.Common.{◌≡◌, ℕ, Bool, true, false, Option, None, Some, List, [], ◌∷◌, refl, sym, ap, subst, ◌∙◌}
use Rattle.std.specs.Prelude.{cond, is_some, ◌&&◌, ◌||◌, not, ◌==◌, option_and_then, option_map, codes}
use Rattle.std.specs.List.{filter_map, list_any, cons_option}
use Rattle.sc_tokens.specs.Cuts.{pieces}
use Rattle.sc_tokens.specs.Names.{same_bytes}
use Rattle.sc_value.specs.declared.ids.ReqId.{ReqId}
use Rattle.sc_value.specs.declared.ids.TimerId.{TimerId}
use Rattle.sc_value.specs.declared.message.Request.{Request}
use Rattle.sc_terms.specs.declared.calls.Answer.{Answer}
use Rattle.sc_terms.specs.declared.calls.Call.TheVariants as calls
use Rattle.sc_terms.specs.declared.views.RequestView.{RequestView}
use Rattle.sc_terms.specs.declared.views.View.{View}
use Rattle.sc_state.specs.declared.working.Play.{Play}
use Rattle.sc_tokens.specs.Bytes.{Bytes}
use Rattle.sc_model.specs.BestResponses.{server_error}
use Rattle.sc_hosts.specs.Effects.{after_listed, answer_of}
use Rattle.sc_hosts.specs.HelperParts.{accepted_then, cancel_then, field_of, lists_option, strict_number, answer_with}
use Rattle.sc_hosts.specs.Looking.{request_in}
use Rattle.sc_hosts.specs.Offers.{Offer, first_offer, session_progress, offer_in, pending_offer, prack_by, late_offer, names_offer, rel_name, rel_option, ended_offer_text}
use Rattle.sc_hosts.specs.Scripting.{Script, Done, only, reply, where_some, attribute, is_refused}
use Rattle.sc_hosts.specs.Words.{ok, does_not_exist}
use Rattle.sc_promised.specs.Reliable.{Remembered, Fresh, Pending, remembered_of, remembered_in, remembered_three, remembered_four, remembered_at, waiting_of, names_waiting, next_of, offers, offer_answer, offer_by, offer_script, offered_number as offered, offered_as, is_late, play_after, first_code, settles, script_of, Act, Offers, Pracks, Late, Happened, IsOf, IsTrace}
use Rattle.sc_promised.proofs.Attributes.{responded-attributes}
use Rattle.sc_promised.proofs.Endings.{same-rel}

-- ## What waits is what is remembered as pending

waiting-three : (a f : Bool) (letter : Bytes) → same_bytes letter (codes "A") ≡ a → same_bytes letter (codes "F") ≡ f
    → (r c : Option ℕ) → waiting_of (remembered_three letter r c) ≡ None
unfolding remembered_three waiting_of
waiting-three true f letter is has (Some r) (Some c) = rw is refl
waiting-three false true letter is has (Some r) (Some c) = rw (is, has) refl
waiting-three false false letter is has (Some r) (Some c) = rw (is, has) refl
waiting-three a f letter is has (Some r) None = refl
waiting-three a f letter is has None c = refl

waiting-four : (letter : Bytes) (p : Bool) → same_bytes letter (codes "P") ≡ p → (r c t : Option ℕ)
    → waiting_of (remembered_four letter r c t)
    ≡ cond p (option_and_then (λ rseq. option_and_then (λ cseq. option_map {T = ℕ} {U = Offer} (λ timer. record { letter = 80; rseq = rseq; cseq = cseq; timer = timer }) t) c) r) None
unfolding remembered_four waiting_of
waiting-four letter true is None c t = refl
waiting-four letter true is (Some r) None t = refl
waiting-four letter true is (Some r) (Some c) None = refl
waiting-four letter true is (Some r) (Some c) (Some t) = rw is refl
waiting-four letter false is None c t = refl
waiting-four letter false is (Some r) None t = refl
waiting-four letter false is (Some r) (Some c) None = refl
waiting-four letter false is (Some r) (Some c) (Some t) = rw is refl

waiting-words : (words : List Bytes) → waiting_of (remembered_in words) ≡ offer_in words
unfolding offer_in remembered_in waiting_of
waiting-words (letter ∷ r ∷ c ∷ t ∷ []) = waiting-four letter (same_bytes letter (codes "P")) refl (strict_number r) (strict_number c) (strict_number t)
waiting-words [] = refl
waiting-words (a ∷ []) = refl
waiting-words (a ∷ b ∷ []) = refl
waiting-words (a ∷ b ∷ c ∷ []) = waiting-three _ _ a refl refl (strict_number b) (strict_number c)
waiting-words (a ∷ b ∷ c ∷ d ∷ e ∷ more) = refl

waiting-text : (found : Option Bytes)
    → waiting_of (remembered_of found) ≡ option_and_then (λ text. offer_in (pieces 32 text)) found
unfolding remembered_of waiting_of
waiting-text None = refl
waiting-text (Some text) = waiting-words (pieces 32 text)

waiting-is : (view : View) (n : ℕ) → pending_offer view n ≡ waiting_of (remembered_at view n)
unfolding pending_offer
waiting-is view n = sym (waiting-text (attribute (rel_name n) view))

-- the first offer of an INVITE is one of these
pub first-is : (req : ReqId) (request : Request)
    → offer_by Fresh req request.head.cseq.number 183 session_progress [] ≡ first_offer req request
unfolding offer_by offers first_offer offer_answer answer_with
first-is req request = refl

-- ## What a PRACK is answered

prack-by-code : (view : View) (invited req : ReqId) (request : Request) (found : Option Offer) (remembered : Remembered)
    → waiting_of remembered ≡ found
    → first_code (prack_by view invited req request found) ≡ Some (cond (names_waiting remembered request) 200 481)
unfolding prack_by first_code names_waiting reply only accepted_then
prack-by-code view invited req request None remembered is = rw is refl
prack-by-code view invited req request (Some offer) remembered is = rw is (by (names_offer offer (field_of (codes "RAck") request)))
  where
    by : (b : Bool)
        → first_code (cond b (accepted_then (reply req 200 ok) (accepted_then (calls.SetAttribute (rel_name invited.0) (ended_offer_text 65 offer)) (cancel_then offer.timer view (only (reply invited 200 ok))))) (only (reply req 481 does_not_exist)))
        ≡ Some (cond b 200 481)
    by true = refl
    by false = refl

-- 200 exactly where it names the offer that waits
pub prack-code : (view : View) (invited req : ReqId) (request : Request)
    → first_code (script_of view (Pracks invited req request)) ≡ Some (cond (names_waiting (remembered_at view invited.0) request) 200 481)
unfolding script_of
prack-code view invited req request = prack-by-code view invited req request (pending_offer view invited.0) (remembered_at view invited.0) (sym (waiting-is view invited.0))

-- ## It waits until it is settled

answered-same : (play : Play) (req : ReqId) (answer : Answer) (n : ℕ)
    → remembered_at (play_after play (only (calls.Respond req answer))).view n ≡ remembered_at play.view n
unfolding play_after only
answered-same play req answer n = same-rel _ play.view n (responded-attributes play req answer)

-- a script whose first answer is refused
refused-same : (play : Play) (req : ReqId) (answer : Answer) (script : Script) (n : ℕ)
    → is_refused (answer_of play (calls.Respond req answer)) ≡ true
    → remembered_at (play_after play (accepted_then (calls.Respond req answer) script)).view n ≡ remembered_at play.view n
unfolding play_after accepted_then
refused-same play req answer script n is = rw (is, play_after) (same-rel (after_listed play (calls.Respond req answer)).view play.view n (responded-attributes play req answer))

not-settled : (a b : Bool) → (a && not b) ≡ false → a ≡ true → b ≡ true
not-settled true true is has = refl
not-settled true false is has = cc
not-settled false b is has = cc

prack-keeps : (play : Play) (invited req : ReqId) (request : Request) (found : Option Offer) (n : ℕ)
    → pending_offer play.view invited.0 ≡ found
    → (names_waiting (remembered_at play.view invited.0) request && not (is_refused (answer_of play (reply req 200 ok)))) ≡ false
    → remembered_at (play_after play (prack_by play.view invited req request found)).view n ≡ remembered_at play.view n
unfolding prack_by names_waiting reply
prack-keeps play invited req request None n is unsettled = answered-same play req _ n
prack-keeps play invited req request (Some offer) n is unsettled =
    by (names_offer offer (field_of (codes "RAck") request)) refl
  where
    by : (b : Bool) → names_offer offer (field_of (codes "RAck") request) ≡ b
        → remembered_at (play_after play (cond b (accepted_then (reply req 200 ok) (accepted_then (calls.SetAttribute (rel_name invited.0) (ended_offer_text 65 offer)) (cancel_then offer.timer play.view (only (reply invited 200 ok))))) (only (reply req 481 does_not_exist)))).view n
        ≡ remembered_at play.view n
    by false named = answered-same play req _ n
    by true named = refused-same play req _ _ n (not-settled (names_waiting (remembered_at play.view invited.0) request) _ unsettled (rw (sym (waiting-is play.view invited.0), is) named))

late-found : (play : Play) (n m : ℕ) (id : TimerId) (offer : Offer) (found : Option RequestView)
    → (is_late (Some offer) id found && not (is_refused (answer_of play (reply (record { 0 = n }) 500 server_error)))) ≡ false
    → remembered_at (play_after play (where_some found (λ request. cond (offer.timer == id.0 && not (is_some request.answered)) (accepted_then (reply (record { 0 = n }) 500 server_error) (only (calls.SetAttribute (rel_name n) (ended_offer_text 70 offer)))) Done))).view m
    ≡ remembered_at play.view m
unfolding where_some play_after is_late reply
late-found play n m id offer None unsettled = refl
late-found play n m id offer (Some request) unsettled = by (offer.timer == id.0 && not (is_some request.answered)) refl
  where
    by : (b : Bool) → (offer.timer == id.0 && not (is_some request.answered)) ≡ b
        → remembered_at (play_after play (cond b (accepted_then (reply (record { 0 = n }) 500 server_error) (only (calls.SetAttribute (rel_name n) (ended_offer_text 70 offer)))) Done)).view m ≡ remembered_at play.view m
    by false is = refl
    by true is = refused-same play (record { 0 = n }) _ _ m (not-settled (offer.timer == id.0 && not (is_some request.answered)) _ unsettled is)

late-keeps : (play : Play) (n m : ℕ) (id : TimerId) (found : Option Offer)
    → (is_late found id (request_in play.view (record { 0 = n })) && not (is_refused (answer_of play (reply (record { 0 = n }) 500 server_error)))) ≡ false
    → remembered_at (play_after play (where_some found (λ offer. where_some (request_in play.view (record { 0 = n })) (λ request. cond (offer.timer == id.0 && not (is_some request.answered)) (accepted_then (reply (record { 0 = n }) 500 server_error) (only (calls.SetAttribute (rel_name n) (ended_offer_text 70 offer)))) Done)))).view m
    ≡ remembered_at play.view m
unfolding where_some play_after
late-keeps play n m id None unsettled = refl
late-keeps play n m id (Some offer) unsettled = late-found play n m id offer _ unsettled

offer-if : (b : Bool) (play : Play) (req : ReqId) (c code : ℕ) (reason body : Bytes) (r d t n : ℕ)
    → remembered_at (play_after play (cond b (offer_by (Pending r d t) req c code reason body) Done)).view n ≡ remembered_at play.view n
unfolding offer_by play_after
offer-if true play req c code reason body r d t n = refl
offer-if false play req c code reason body r d t n = refl

-- an act that doesn't settle it leaves it
act-keeps : (n : ℕ) (play : Play) (act : Act) (r c t : ℕ) → IsOf n act → remembered_at play.view n ≡ Pending r c t
    → settles (record { play = play; act = act }) ≡ false
    → remembered_at (play_after play (script_of play.view act)).view n ≡ remembered_at play.view n
unfolding IsOf script_of settles offer_script late_offer
act-keeps n play (Offers req request code reason body) r c t of is unsettled =
    rw (ap (remembered_at play.view) of ∙ is) (offer-if (lists_option rel_option request) play req request.head.cseq.number code reason body r c t n)
act-keeps n play (Pracks invited req request) r c t of is unsettled = prack-keeps play invited req request _ n refl unsettled
act-keeps n play (Late invited id) r c t of is unsettled =
    late-keeps play invited.0 n id (pending_offer play.view invited.0) (ap (λ found. is_late found id (request_in play.view invited) && not (is_refused (answer_of play (reply invited 500 server_error)))) (waiting-is play.view invited.0) ∙ unsettled)

-- and nothing is offered beside it
offered-none : (n : ℕ) (play : Play) (act : Act) (r c t : ℕ) → IsOf n act → remembered_at play.view n ≡ Pending r c t
    → offered (record { play = play; act = act }) ≡ None
unfolding IsOf offered next_of offered_as
offered-none n play (Offers req request code reason body) r c t of is = rw (ap (remembered_at play.view) of ∙ is) (by (lists_option rel_option request))
  where
    by : (b : Bool) → ◌≡◌ {A = Option ℕ} (cond b None None) None
    by true = refl
    by false = refl
offered-none n play (Pracks invited req request) r c t of is = refl
offered-none n play (Late invited id) r c t of is = refl

or-both : (a b : Bool) → (a || b) ≡ false → (a ≡ false) × (b ≡ false)
or-both true b is = cc
or-both false b is = (refl, is)

none-more : (found : Option ℕ) (ns : List ℕ) → found ≡ None → ns ≡ [] → cons_option found ns ≡ []
none-more None ns is rest = rest
none-more (Some k) ns is rest = cc

-- while an offer waits, no other is made
pub waits-alone : (acts : List Happened) (n r c t : ℕ) → IsTrace n (Pending r c t) acts → list_any settles acts ≡ false
    → filter_map offered acts ≡ []
unfolding IsTrace
waits-alone [] n r c t trace unsettled = refl
waits-alone (h ∷ acts) n r c t trace unsettled =
    let both = or-both (settles h) (list_any settles acts) unsettled in
    none-more (offered h) (filter_map offered acts) (offered-none n h.play h.act r c t trace.0 trace.2)
    (waits-alone acts n r c t (subst (λ (remembered : Remembered). IsTrace n remembered acts) (act-keeps n h.play h.act r c t trace.0 trace.2 both.0 ∙ trace.2) trace.3) both.1)
