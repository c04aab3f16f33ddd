-- What an attribute remembers of the offers of an INVITE, and the calls that read and write it (RFC
-- 3262).
use Rattle.std.specs.Prelude.{◌≡◌, ◌<◌, ℕ, ◌+◌, ◌==◌, ◌^◌, List, [], ◌∷◌, Bool, false, not, ◌&&◌, Option, None, Some, is_some, if◌then◌else◌, codes, decimal}
use Rattle.std.specs.Option.{option_map_or}
use Rattle.sc_value.specs.declared.ids.ReqId.{ReqId}
use Rattle.sc_value.specs.declared.ids.TimerId.{TimerId}
use Rattle.sc_value.specs.declared.message.Request.{Request}
use Rattle.sc_tokens.specs.Cuts.{pieces}
use Rattle.sc_tokens.specs.Names.{same_bytes}
use Rattle.sc_terms.specs.declared.calls.Answer.{Answer}
use Rattle.sc_terms.specs.declared.calls.Call.{Call}
use Rattle.sc_terms.specs.declared.calls.Call.TheVariants as calls
use Rattle.sc_terms.specs.declared.views.Period.TheVariants.{Once}
use Rattle.sc_terms.specs.declared.views.RequestView.{RequestView}
use Rattle.sc_terms.specs.declared.views.View.{View}
use Rattle.sc_state.specs.declared.working.Play.{Play}
use Rattle.sc_tokens.specs.Bytes.{Bytes}
use Rattle.sc_model.specs.BestResponses.{server_error}
use Rattle.sc_hosts.specs.Effects.{after_listed, answer_of}
use Rattle.sc_hosts.specs.HelperParts.{field, field_of, strict_number, require_word, lists_option, accepted_then}
use Rattle.sc_hosts.specs.Looking.{request_in}
use Rattle.sc_hosts.specs.Offers.{Offer, rel_name, rel_option, offer_text, prack_by, pending_offer, late_offer, names_offer}
use Rattle.sc_hosts.specs.Scripting.{Done, Make, Script, attribute, is_refused, only, reply, with_number}
use Rattle.sc_hosts.specs.Words.{ok}
use Rattle.sc_tokens.specs.Signs.{space}

-- ## What is remembered

-- no offer yet; one that waits, with its timer; one whose PRACK came; one for which none came
pub data Remembered : Type 0 where
  Fresh : Remembered
  Pending : (rseq cseq timer : ℕ) → Remembered
  Acked : (rseq cseq : ℕ) → Remembered
  Failed : (rseq cseq : ℕ) → Remembered

-- of an offer that waits no more: the words are `A` or `F`, RSeq and CSeq number
unfoldable pub remembered_three : Bytes → Option ℕ → Option ℕ → Remembered
remembered_three letter (Some r) (Some c) =
    if same_bytes letter (codes "A") then Acked r c
    else (if same_bytes letter (codes "F") then Failed r c else Fresh)
remembered_three letter (Some r) None = Fresh
remembered_three letter None c = Fresh

-- of an offer that waits: the words are `P`, RSeq, CSeq number and timer
unfoldable pub remembered_four : Bytes → Option ℕ → Option ℕ → Option ℕ → Remembered
remembered_four letter (Some r) (Some c) (Some t) =
    if same_bytes letter (codes "P") then Pending r c t else Fresh
remembered_four letter (Some r) (Some c) None = Fresh
remembered_four letter (Some r) None t = Fresh
remembered_four letter None c t = Fresh

-- by the words of an attribute; others remember nothing
unfoldable pub remembered_in : List Bytes → Remembered
remembered_in (letter ∷ r ∷ c ∷ []) = remembered_three letter (strict_number r) (strict_number c)
remembered_in (letter ∷ r ∷ c ∷ t ∷ []) =
    remembered_four letter (strict_number r) (strict_number c) (strict_number t)
remembered_in words = Fresh

-- by the attribute's text
unfoldable pub remembered_of : Option Bytes → Remembered
remembered_of None = Fresh
remembered_of (Some text) = remembered_in (pieces space text)

-- what a view remembers of the INVITE of this number
abbrev pub remembered_at : View → ℕ → Remembered
remembered_at view n = remembered_of (attribute (rel_name n) view)

-- the RSeq of the last offer
unfoldable pub last_of : Remembered → ℕ
last_of Fresh = 0
last_of (Pending r c t) = r
last_of (Acked r c) = r
last_of (Failed r c) = r

-- the offer that waits
unfoldable pub waiting_of : Remembered → Option Offer
waiting_of Fresh = None
waiting_of (Pending r c t) = Some (record { letter = 80; rseq = r; cseq = c; timer = t })
waiting_of (Acked r c) = None
waiting_of (Failed r c) = None

-- the request's RAck names the offer that waits (RFC 3262 section 7.2)
unfoldable pub names_waiting : Remembered → Request → Bool
names_waiting remembered request =
    option_map_or (λ offer. names_offer offer (field_of (codes "RAck") request))
    (waiting_of remembered) false

-- ## An offer

-- the greatest RSeq that is given: 2^31 - 1, the bound of a first one (RFC 3262 section 3)
abbrev pub MOST_RSEQ : ℕ
MOST_RSEQ = 2147483647

-- a reliable provisional response: Require: 100rel, and its RSeq (RFC 3262 section 3)
unfoldable pub offer_answer : ℕ → ℕ → Bytes → Bytes → Answer
offer_answer r code reason body =
    record {
      code = code;
      reason = reason;
      fields = field require_word rel_option ∷ field (codes "RSeq") (decimal r) ∷ [];
      contact = [];
      body = body;
    }

-- that response is given
abbrev pub offer_call : ReqId → ℕ → ℕ → Bytes → Bytes → Call
offer_call req r code reason body = calls.Respond req (offer_answer r code reason body)

-- an offer: the response, a note of it, and 32 s for its PRACK
unfoldable pub offers : ReqId → ℕ → ℕ → ℕ → Bytes → Bytes → Script
offers req r c code reason body =
    accepted_then (offer_call req r code reason body)
    (accepted_then (calls.SetAttribute (rel_name req.0) (offer_text r c 0))
    (Make (calls.StartTimer 32000 Once (rel_name req.0))
    (with_number (λ t. only (calls.SetAttribute (rel_name req.0) (offer_text r c t))))))

-- the next offer by what is remembered: none while one waits, and the next RSeq else
unfoldable pub offer_by : Remembered → ReqId → ℕ → ℕ → Bytes → Bytes → Script
offer_by (Pending r d t) req c code reason body = Done
offer_by Fresh req c code reason body = offers req 1 c code reason body
offer_by (Acked r d) req c code reason body =
    if r == MOST_RSEQ then Done else offers req (r + 1) c code reason body
offer_by (Failed r d) req c code reason body =
    if r == MOST_RSEQ then Done else offers req (r + 1) c code reason body

-- an offer where the INVITE's sender supports it
unfoldable pub offer_script : View → ReqId → Request → ℕ → Bytes → Bytes → Script
offer_script view req request code reason body =
    if lists_option rel_option request
    then offer_by (remembered_at view req.0) req request.head.cseq.number code reason body
    else Done

-- ## Any list of calls

-- the timer of the offer that waits has come, and its INVITE has no final answer
unfoldable pub is_late : Option Offer → TimerId → Option RequestView → Bool
is_late None id request = false
is_late (Some offer) id None = false
is_late (Some offer) id (Some request) = offer.timer == id.0 && not (is_some request.answered)

-- the play after all calls of a script
unfoldable pub play_after : Play → Script → Play
play_after play Done = play
play_after play (Make call next) = play_after (after_listed play call) (next (answer_of play call))

-- an offer, a PRACK, or a timer, as one of the helper's calls
pub data Act : Type 0 where
  Offers : ReqId → Request → ℕ → Bytes → Bytes → Act
  Pracks : ReqId → ReqId → Request → Act
  Late : ReqId → TimerId → Act

-- the calls of an act
unfoldable pub script_of : View → Act → Script
script_of view (Offers req request code reason body) =
    offer_script view req request code reason body
script_of view (Pracks invited req request) =
    prack_by view invited req request (pending_offer view invited.0)
script_of view (Late invited id) = late_offer view invited.0 id

-- an act, with what the turn was where it began
pub record Happened : Type 0 where
  pub play : Play
  pub act : Act

-- what the turn was after the act
abbrev pub after : Happened → Play
after happened = play_after happened.play (script_of happened.play.view happened.act)

-- ## The law's words

-- where an offer may go: the RSeq that it would have
unfoldable pub next_of : Remembered → Option ℕ
next_of Fresh = Some 1
next_of (Pending r c t) = None
next_of (Acked r c) = if r == MOST_RSEQ then None else Some (r + 1)
next_of (Failed r c) = if r == MOST_RSEQ then None else Some (r + 1)

-- the RSeq of an offer whose response went
unfoldable pub offered_as : Play → ReqId → ℕ → Bytes → Bytes → Option ℕ → Option ℕ
offered_as play req code reason body None = None
offered_as play req code reason body (Some r) =
    if is_refused (answer_of play (offer_call req r code reason body)) then None else Some r

-- the RSeq of the offer that an act made, if its response went
unfoldable pub offered_number : Happened → Option ℕ
offered_number happened = offered_by happened.play happened.act
  where
    offered_by : Play → Act → Option ℕ
    offered_by play (Offers req request code reason body) =
        if lists_option rel_option request
        then offered_as play req code reason body (next_of (remembered_at play.view req.0))
        else None
    offered_by play (Pracks invited req request) = None
    offered_by play (Late invited id) = None

-- these are k + 1, k + 2 and so on
unfoldable pub CountFrom : ℕ → List ℕ → Type 0
CountFrom k [] = Unit {0}
CountFrom k (n ∷ ns) = (n ≡ k + 1) × CountFrom n ns

-- the code of the response that is a script's first call
unfoldable pub first_code : Script → Option ℕ
first_code Done = None
first_code (Make call next) = code_of call
  where
    code_of : Call → Option ℕ
    code_of (calls.Respond req answer) = Some answer.code
    code_of call = None

-- the act settled the offer that waited: a PRACK that names it was answered 200, or its timer
-- answered the INVITE 500
unfoldable pub settles : Happened → Bool
settles happened = settles_by happened.play happened.act
  where
    settles_by : Play → Act → Bool
    settles_by play (Offers req request code reason body) = false
    settles_by play (Pracks invited req request) =
        names_waiting (remembered_at play.view invited.0) request
        && not (is_refused (answer_of play (reply req 200 ok)))
    settles_by play (Late invited id) =
        is_late (waiting_of (remembered_at play.view invited.0)) id (request_in play.view invited)
        && not (is_refused (answer_of play (reply invited 500 server_error)))

-- ## What is premised

-- the four calls, where none is refused
pub record Given (play : Play) (req : ReqId) (r c code : ℕ) (reason body : Bytes) : Type 0 where
  pub responded : is_refused (answer_of play (offer_call req r code reason body)) ≡ false
  pub noted : is_refused
      (answer_of (after_listed play (offer_call req r code reason body))
      (calls.SetAttribute (rel_name req.0) (offer_text r c 0))) ≡ false
  pub timed : is_refused
      (answer_of
      (after_listed (after_listed play (offer_call req r code reason body))
      (calls.SetAttribute (rel_name req.0) (offer_text r c 0)))
      (calls.StartTimer 32000 Once (rel_name req.0))) ≡ false
  pub timer : ℕ
  pub timer_is : timer
      ≡ (after_listed
      (after_listed play (offer_call req r code reason body))
      (calls.SetAttribute (rel_name req.0) (offer_text r c 0))).view.next_timer
  pub named : is_refused
      (answer_of
      (after_listed
      (after_listed (after_listed play (offer_call req r code reason body))
      (calls.SetAttribute (rel_name req.0) (offer_text r c 0)))
      (calls.StartTimer 32000 Once (rel_name req.0)))
      (calls.SetAttribute (rel_name req.0) (offer_text r c timer))) ≡ false

-- what is premised of an offer whose response went: no call behind it is refused, and the numbers
-- fit
pub record Sound (play : Play) (req : ReqId) (r c code : ℕ) (reason body : Bytes) : Type 0 where
  pub given : Given play req r c code reason body
  pub rseq : r < 2 ^ 64
  pub cseq : c < 2 ^ 64
  pub timer : given.timer < 2 ^ 64

-- the act is one of this INVITE
unfoldable pub IsOf : ℕ → Act → Type 0
IsOf n (Offers req request code reason body) = req.0 ≡ n
IsOf n (Pracks invited req request) = invited.0 ≡ n
IsOf n (Late invited id) = invited.0 ≡ n

-- no offer is refused behind its response
unfoldable pub IsSound : Play → Act → Type 0
IsSound play (Offers req request code reason body) =
    (r : ℕ) → next_of (remembered_at play.view req.0) ≡ Some r
    → is_refused (answer_of play (offer_call req r code reason body)) ≡ false
    → Sound play req r request.head.cseq.number code reason body
IsSound play (Pracks invited req request) = Unit {0}
IsSound play (Late invited id) = Unit {0}

-- acts of an INVITE, of which each begins with what the one before left: nothing else writes
unfoldable pub IsTrace : ℕ → Remembered → List Happened → Type 0
IsTrace n rel [] = Unit {0}
IsTrace n rel (h ∷ acts) =
    IsOf n h.act × IsSound h.play h.act × (remembered_at h.play.view n ≡ rel)
    × IsTrace n (remembered_at (after h).view n) acts
