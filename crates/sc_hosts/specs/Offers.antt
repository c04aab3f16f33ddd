-- The charter of a servlet for reliable provisional responses (RFC 3262), as the calls that it
-- makes. What it remembers stands in attributes.
use Rattle.std.specs.Prelude.{ℕ, ◌==◌, List, [], ◌∷◌, ◌++◌, Bool, false, not, ◌&&◌, Option, None, Some, is_some, option_map, option_and_then, if◌then◌else◌, codes, decimal, length, drop}
use Rattle.std.specs.List.{find, starts_with}
use Rattle.std.specs.Option.{option_map_or}
use Rattle.std.specs.Prelude.{nat_eq}
use Rattle.sc_value.specs.declared.ids.ReqId.{ReqId}
use Rattle.sc_value.specs.declared.ids.SessId.{SessId}
use Rattle.sc_value.specs.declared.ids.TimerId.{TimerId}
use Rattle.sc_value.specs.declared.message.Request.{Request}
use Rattle.sc_tokens.specs.Names.{same_bytes}
use Rattle.sc_terms.specs.declared.views.View.{View}
use Rattle.sc_terms.specs.declared.views.RequestView.{RequestView}
use Rattle.sc_terms.specs.declared.views.Period.TheVariants.{Once}
use Rattle.sc_terms.specs.declared.events.Event.{Event}
use Rattle.sc_terms.specs.declared.events.Event.TheVariants as events
use Rattle.sc_terms.specs.declared.calls.Call.TheVariants as calls
use Rattle.sc_tokens.specs.Bytes.{Bytes}
use Rattle.sc_tokens.specs.Cuts.{pieces}
use Rattle.sc_tokens.specs.Numbers.{number_of}
use Rattle.sc_model.specs.SessionStates.{invite}
use Rattle.sc_hosts.specs.Scripting.{Done, Make, Script, attribute, only, reply, then_make, where_some, with_number}
use Rattle.sc_hosts.specs.Charters.{reply_ok}
use Rattle.sc_hosts.specs.Looking.{request_in, same_session}
use Rattle.sc_hosts.specs.Words.{prack, ok, ringing, does_not_exist}
use Rattle.sc_hosts.specs.HelperParts.{strict_number, field_of, words_of, require_word, lists_option, answer_with, field, accepted_then, cancel_then, cancel_first_timer}
use Rattle.sc_model.specs.BestResponses.{server_error}
use Rattle.sc_tokens.specs.Signs.{space}

-- the last offer of an INVITE: its RSeq, the INVITE's CSeq number, its timer, 0 for none
pub record Offer : Type 0 where
  pub letter : ℕ
  pub rseq : ℕ
  pub cseq : ℕ
  pub timer : ℕ

-- the attribute that remembers the offer of the INVITE of this number
unfoldable pub rel_name : ℕ → Bytes
rel_name n = codes "rel" ++ decimal n

-- the offer that waits, read from the words of an attribute: `P`, RSeq, CSeq number and timer
unfoldable pub offer_in : List Bytes → Option Offer
offer_in (letter ∷ r ∷ c ∷ t ∷ []) =
    if same_bytes letter (codes "P")
    then option_and_then
    (λ rseq.
    option_and_then
    (λ cseq.
    option_map (λ timer. record { letter = 80; rseq = rseq; cseq = cseq; timer = timer })
    (strict_number t)) (strict_number c)) (strict_number r)
    else None
offer_in words = None

-- the offer that waits
unfoldable pub pending_offer : View → ℕ → Option Offer
pending_offer view n =
    option_and_then (λ text. offer_in (pieces space text)) (attribute (rel_name n) view)

-- the same written; the timer is 0 before it is started
unfoldable pub offer_text : ℕ → ℕ → ℕ → Bytes
offer_text r c t = codes "P " ++ decimal r ++ codes " " ++ decimal c ++ codes " " ++ decimal t

-- an offer that waits no more: `A` where its PRACK came, `F` where none did
unfoldable pub ended_offer_text : ℕ → Offer → Bytes
ended_offer_text letter offer =
    letter ∷ codes " " ++ decimal offer.rseq ++ codes " " ++ decimal offer.cseq

-- the option of reliable provisional responses (RFC 3262 section 3)
unfoldable pub rel_option : Bytes
rel_option = codes "100rel"

-- the reason phrase of a 183 (RFC 3261 section 21.1.5)
unfoldable pub session_progress : Bytes
session_progress = codes "Session Progress"

-- the first offer of an INVITE
unfoldable pub first_offer : ReqId → Request → Script
first_offer req request =
    accepted_then
    (answer_with req 183 session_progress
    (field require_word rel_option ∷ field (codes "RSeq") (decimal 1) ∷ []))
    (accepted_then (calls.SetAttribute (rel_name req.0) (offer_text 1 request.head.cseq.number 0))
    (Make (calls.StartTimer 32000 Once (rel_name req.0))
    (with_number
    (λ t.
    only (calls.SetAttribute (rel_name req.0) (offer_text 1 request.head.cseq.number t))))))

-- the received INVITE that began this SipSession
unfoldable pub is_invite_of : SessId → RequestView → Bool
is_invite_of sess request =
    request.received && request.initial && same_bytes request.method invite
    && same_session request.sess sess

-- the RAck names this offer (RFC 3262 section 7.2)
unfoldable pub names_offer : Offer → Option Bytes → Bool
names_offer offer None = false
names_offer offer (Some value) = is_rack (words_of value)
  where
    is_rack : List Bytes → Bool
    is_rack (r ∷ c ∷ method ∷ []) =
        option_map_or (λ n. n == offer.rseq) (number_of r) false
        && option_map_or (λ n. n == offer.cseq) (number_of c) false && same_bytes method invite
    is_rack words = false

-- a PRACK for the INVITE's offer: 200 to it and then to the INVITE; one that names no waiting offer
-- gets 481
unfoldable pub prack_by : View → ReqId → ReqId → Request → Option Offer → Script
prack_by view invited req request None = only (reply req 481 does_not_exist)
prack_by view invited req request (Some offer) =
    if names_offer offer (field_of (codes "RAck") request)
    then accepted_then (reply req 200 ok)
    (accepted_then (calls.SetAttribute (rel_name invited.0) (ended_offer_text 65 offer))
    (cancel_then offer.timer view (only (reply invited 200 ok))))
    else only (reply req 481 does_not_exist)

-- a PRACK, for the INVITE that began its SipSession
unfoldable pub take_prack : View → ReqId → SessId → Request → Script
take_prack view req sess request =
    take_with (find (is_invite_of sess) view.requests)
  where
    take_with : Option RequestView → Script
    take_with None = only (reply req 481 does_not_exist)
    take_with (Some invited) =
        prack_by view invited.id req request (pending_offer view invited.id.0)

-- no PRACK came in 32 s: the INVITE is answered 500 (RFC 3262 section 3)
unfoldable pub late_offer : View → ℕ → TimerId → Script
late_offer view n id =
    where_some (pending_offer view n)
    (λ offer. where_some (request_in view (record { 0 = n })) (λ request.
    if offer.timer == id.0 && not (is_some request.answered)
    then accepted_then (reply (record { 0 = n }) 500 server_error)
    (only (calls.SetAttribute (rel_name n) (ended_offer_text 70 offer)))
    else Done))

-- what stands after this word
unfoldable pub after_word : Bytes → Bytes → Option Bytes
after_word word text = if starts_with nat_eq text word then Some (drop (length word) text) else None

-- `early`: an INVITE whose caller supports it gets a reliable 183, and 200 after its PRACK; others
-- get 180 and 200
unfoldable pub early_script : View → Event → Script
early_script view (events.Initial req sess region subscriber popped request) =
    if same_bytes request.method invite
    then
    (if lists_option rel_option request then first_offer req request
    else then_make (reply req 180 ringing) (only (reply req 200 ok)))
    else only (reply req 200 ok)
early_script view (events.Request req sess request) =
    if same_bytes request.method prack then take_prack view req sess request
    else reply_ok req request
early_script view (events.Response req sess response) = Done
early_script view (events.Branch req sess response) = Done
early_script view (events.Cancelled req sess) = cancel_first_timer view
early_script view (events.Timer id info) =
    where_some (option_and_then strict_number (after_word (codes "rel") info))
    (λ n. late_offer view n id)
early_script view events.Expired = Done
early_script view events.Ready = Done
