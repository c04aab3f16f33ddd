-- What the calls of reliable provisional responses answer, and what they leave (RFC 3262).
use Rattle.std.specs.Prelude.{◌≡◌, ◌⊎◌, ℕ, ◌+◌, ◌==◌, Option, None, Some, Result, Ok, Err, if◌then◌else◌, codes, nat_le, option_map, option_and_then}
use Rattle.sc_value.specs.declared.ids.ReqId.{ReqId}
use Rattle.sc_value.specs.declared.ids.TimerId.{TimerId}
use Rattle.sc_value.specs.declared.no_memory.NoMemory as no
use Rattle.sc_value.specs.declared.message.Request.{Request}
use Rattle.sc_terms.specs.declared.views.View.{View}
use Rattle.sc_terms.specs.declared.calls.Call.TheVariants as calls
use Rattle.sc_terms.specs.declared.calls.Refusal.TheVariants.{NoMemory}
use Rattle.sc_tokens.specs.Bytes.{Bytes}
use Rattle.sc_hosts.specs.HelperParts.{accepted_then, field_of, lists_option}
use Rattle.sc_hosts.specs.Offers.{Offer, ended_offer_text, names_offer, pending_offer, rel_name, rel_option}
use Rattle.sc_hosts.specs.Scripting.{Done, Script, only, reply}
use Rattle.sc_hosts.specs.Words.{does_not_exist, ok}
use Rattle.sc_model.specs.BestResponses.{server_error}
use Rattle.sc_turn.specs.Working.{Working}
use Rattle.sc_helpers.specs.Leading.{cancel_some, timer_named}
use Rattle.sc_helpers.specs.Stopping.{GoesThrough, IsHeard, StopsAfter}
use Rattle.sc_promised.specs.Reliable.{Acked, Failed, Fresh, MOST_RSEQ, Pending, Remembered, offers, remembered_at}
use Rattle.sc_offers.specs.declared.refused.OfferRefused.{OfferRefused}
use Rattle.sc_offers.specs.declared.refused.OfferRefused.TheVariants as refused
use Rattle.sc_offers.specs.declared.refused.Prack.{Prack}
use Rattle.sc_offers.specs.declared.refused.Prack.TheVariants as pracks
use Rattle.sc_offers.specs.declared.overdue.Overdue.{Overdue}
use Rattle.sc_offers.specs.declared.pracks.Named.{Named}

-- ## How a call ends

-- the turn refused a call of the script, or memory was wanting
unfoldable pub IsTurned : Script → Working → OfferRefused → Working → Type 0
IsTurned script old refused.Unsupported new = ⊥
IsTurned script old (refused.Pending rseq) new = ⊥
IsTurned script old refused.Exhausted new = ⊥
IsTurned script old (refused.Turn refusal made) new = StopsAfter made script old refusal new

-- the calls of the script went through and this was answered, or they stopped
unfoldable pub IsCarriedOut : {X : Type 0} → Script → X → Working → Result X OfferRefused → Working
    → Type 0
IsCarriedOut script answer old (Ok given) new = (given ≡ answer) × GoesThrough script old new
IsCarriedOut script answer old (Err refusal) new = IsTurned script old refusal new

-- ## An offer (RFC 3262 section 3)

-- the RSeq behind this one; behind 2^31 - 1 there is none
unfoldable pub rseq_behind : ℕ → Result ℕ OfferRefused
rseq_behind r = if nat_le MOST_RSEQ r then Err refused.Exhausted else Ok (r + 1)

-- the RSeq of the next offer, by what is remembered of the last: 1 at first, and none while one
-- waits
unfoldable pub next_rseq : Remembered → Result ℕ OfferRefused
next_rseq Fresh = Ok 1
next_rseq (Pending r c t) = Err (refused.Pending r)
next_rseq (Acked r c) = rseq_behind r
next_rseq (Failed r c) = rseq_behind r

-- the RSeq that an offer to this INVITE has, or why there is none
unfoldable pub offer_rseq : View → ReqId → Request → Result ℕ OfferRefused
offer_rseq view req request =
    if lists_option rel_option request then next_rseq (remembered_at view req.0)
    else Err refused.Unsupported

-- an offer of such an RSeq was made; or where there is none, no call, and it is said why
unfoldable pub IsOffered : Result ℕ OfferRefused → ReqId → ℕ → ℕ → Bytes → Bytes → Working
    → Result ℕ OfferRefused → Working → Type 0
IsOffered (Ok r) req c code reason body old result new =
    IsCarriedOut (offers req r c code reason body) r old result new
IsOffered (Err refusal) req c code reason body old result new =
    ((result ≡ Err refusal) ⊎ (result ≡ Err (refused.Turn NoMemory 0))) × (new ≡ old)

-- ## A PRACK (RFC 3262 sections 3 and 7.2)

-- the offer that waits where the PRACK's RAck names it, with its timer where that runs
unfoldable pub named_by : View → Request → Option Offer → Option Named
named_by view prack offer =
    option_and_then
    (λ offer.
    if names_offer offer (field_of (codes "RAck") prack)
    then Some (record { offer = offer; running = timer_named view offer.timer })
    else None) offer

-- that of the offer to this INVITE
unfoldable pub named_offer : View → ReqId → Request → Option Named
named_offer view invite prack = named_by view prack (pending_offer view invite.0)

-- 200 to the PRACK, a note of it, and the end of the timer where that runs; then the script goes on
unfoldable pub acknowledges : ReqId → ReqId → Named → Script → Script
acknowledges invite req named script =
    accepted_then (reply req 200 ok)
    (accepted_then (calls.SetAttribute (rel_name invite.0) (ended_offer_text 65 named.offer))
    (cancel_some named.running script))

-- the calls for a PRACK: for one that names no offer that waits 481
unfoldable pub prack_calls : ReqId → ReqId → Option Named → Script
prack_calls invite req None = only (reply req 481 does_not_exist)
prack_calls invite req (Some named) = acknowledges invite req named Done

-- what is told of it
unfoldable pub prack_answer : Option Named → Prack
prack_answer None = pracks.NoMatch
prack_answer (Some named) = pracks.Acknowledged named.offer.rseq

-- the servlet then answers the INVITE 200
unfoldable pub behind_prack : ReqId → Prack → Script
behind_prack invite (pracks.Acknowledged rseq) = only (reply invite 200 ok)
behind_prack invite pracks.NoMatch = Done

-- ## A timer (RFC 3262 section 3)

-- the offer that this timer ends, and its INVITE, unless that has its final response
unfoldable pub overdue_by : Option ReqId → TimerId → Option Offer → Option Overdue
overdue_by invite id offer =
    option_and_then
    (λ offer.
    if offer.timer == id.0 then option_map (λ req. record { offer = offer; req = req }) invite
    else None) offer

-- 500 to the INVITE, and a note of it
unfoldable pub gives_up : ℕ → Option Overdue → Script
gives_up n None = Done
gives_up n (Some overdue) =
    accepted_then (reply overdue.req 500 server_error)
    (only (calls.SetAttribute (rel_name n) (ended_offer_text 70 overdue.offer)))

-- ## A servlet

-- a servlet goes on where a turn refused its helper's call, unless memory was wanting
unfoldable pub IsTold : OfferRefused → Result (Unit {0}) no.NoMemory → Type 0
IsTold refused.Unsupported out = Unit {0}
IsTold (refused.Pending rseq) out = Unit {0}
IsTold refused.Exhausted out = Unit {0}
IsTold (refused.Turn refusal made) out = IsHeard (record { refusal = refusal; made = made }) out
