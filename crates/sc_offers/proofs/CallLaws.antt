-- How the calls of reliable provisional responses end.
use Rattle.std.proofs.Common.{◌≡◌, ℕ, Bool, false, Option, Result, Ok, Err, inl, inr, refl, subst, ap, ◌∙◌}
use Rattle.sc_value.specs.declared.ids.ReqId.{ReqId}
use Rattle.sc_value.specs.declared.message.Request.{Request}
use Rattle.sc_terms.specs.declared.views.View.{View}
use Rattle.sc_terms.specs.declared.calls.Call.{Call}
use Rattle.sc_terms.specs.declared.calls.Refusal.TheVariants.{NoMemory}
use Rattle.sc_tokens.specs.Bytes.{Bytes}
use Rattle.sc_hosts.specs.HelperParts.{accepted_then}
use Rattle.sc_hosts.specs.Scripting.{Script, Done, only}
use Rattle.sc_turn.specs.Working.{Working, play_of}
use Rattle.sc_helpers.specs.Stopping.{GoesThrough, Goes, IsCarried, Leads, StopsAfter}
use Rattle.sc_helpers.specs.declared.stopping.Stopped.{Stopped}
use Rattle.sc_helpers.proofs.Steps.{goes_stopped, last_off, last_on}
use Rattle.sc_offers.specs.Offering.{IsCarriedOut, IsOffered, IsTurned, named_offer, offer_rseq, prack_answer, prack_calls}
use Rattle.sc_offers.specs.declared.pracks.Named.{Named}
use Rattle.sc_offers.specs.declared.refused.OfferRefused.{OfferRefused}
use Rattle.sc_offers.specs.declared.refused.OfferRefused.TheVariants as refused
use Rattle.sc_offers.specs.declared.refused.Prack.{Prack}

turned_is : {X : Type 0} (script : Script) (answer : X) (old new : Working) (stop : Stopped) (refusal : OfferRefused) → refusal ≡ refused.Turn stop.refusal stop.made → StopsAfter stop.made script old stop.refusal new
    → IsCarriedOut script answer old (Err refusal) new
unfolding IsCarriedOut IsTurned
turned_is script answer old new stop refusal is stops = rw is stops

-- ## From the calls on

pub went_through : (script : Script) (answer : ℕ) (old new : Working) (x : Unit {0}) → Goes 0 script old (Ok x) new → IsCarriedOut script answer old (Ok answer) new
unfolding Goes IsCarriedOut
went_through script answer old new x through = (refl, through)

pub came_to_stop : (script : Script) (answer : ℕ) (old new : Working) (stop : Stopped) (refusal : OfferRefused) → Goes 0 script old (Err stop) new → refusal ≡ refused.Turn stop.refusal stop.made
    → IsCarriedOut script answer old (Err refusal) new
unfolding IsCarried
came_to_stop script answer old new stop refusal goes is = turned_is script answer old new stop refusal is (goes_stopped script answer old new stop goes)

pub carried_out : {X : Type 0} (script : Script) (answer given : X) (old new : Working) → (old.starved ≡ false → IsCarried script answer old (Ok given) new) → old.starved ≡ false → IsCarriedOut script answer old (Ok given) new
unfolding IsCarried IsCarriedOut
carried_out script answer given old new carried fed = carried fed

pub carried_stop : {X : Type 0} (script : Script) (answer : X) (old new : Working) (stop : Stopped) (refusal : OfferRefused) → (old.starved ≡ false → IsCarried script answer old (Err stop) new) → refusal ≡ refused.Turn stop.refusal stop.made
    → old.starved ≡ false → IsCarriedOut script answer old (Err refusal) new
unfolding IsCarried
carried_stop script answer old new stop refusal carried is fed = turned_is script answer old new stop refusal is (carried fed)

-- memory was wanting before the first call
wants_carried : {X : Type 0} (script : Script) (answer : X) (old : Working) (stop : Stopped) → stop ≡ record { refusal = NoMemory; made = 0 } → IsCarried script answer old (Err stop) old
unfolding IsCarried StopsAfter
wants_carried script answer old stop is = rw is (inl (refl, refl))

pub wanting_carried : {X : Type 0} (script : Script) (answer : X) (old : Working) (stop : Stopped) → stop ≡ record { refusal = NoMemory; made = 0 } → old.starved ≡ false → IsCarried script answer old (Err stop) old
wanting_carried script answer old stop is fed = wants_carried script answer old stop is

pub only_through : (call : Call) (given : Prack) (after : ℕ) (old new : Working) → Leads (accepted_then call) 0 old (Ok after) new → IsCarried (only call) given old (Ok given) new
unfolding IsCarried Goes
only_through call given after old new led = (refl, last_on call 0 after old new tt led)

pub only_stopped : (call : Call) (given : Prack) (old new : Working) (stop : Stopped) → Leads (accepted_then call) 0 old (Err stop) new → IsCarried (only call) given old (Err stop) new
only_stopped call given old new stop led = goes_stopped (only call) given old new stop (last_off call 0 old new stop led)

pub nothing_carried : (given : Bool) (old : Working) → IsCarried Done given old (Ok given) old
unfolding IsCarried GoesThrough
nothing_carried given old = (refl, refl)

-- ## An offer

pub offer_refused : (refusal : OfferRefused) (req : ReqId) (c code : ℕ) (reason body : Bytes) (old : Working) → IsOffered (Err refusal) req c code reason body old (Err refusal) old
unfolding IsOffered
offer_refused refusal req c code reason body old = (inl refl, refl)

pub offer_judged : (req : ReqId) (request : Request) (code : ℕ) (reason body : Bytes) (old new : Working) (seen : View) (judged result : Result ℕ OfferRefused) → (old.starved ≡ false → seen ≡ (play_of old).view)
    → judged ≡ offer_rseq seen req request → IsOffered judged req request.head.cseq.number code reason body old result new
    → old.starved ≡ false → IsOffered (offer_rseq (play_of old).view req request) req request.head.cseq.number code reason body old result new
offer_judged req request code reason body old new seen judged result sees is offered fed =
    subst (λ (j : Result ℕ OfferRefused). IsOffered j req request.head.cseq.number code reason body old result new) (is ∙ ap (λ (v : View). offer_rseq v req request) (sees fed)) offered

wants_offer : (judged : Result ℕ OfferRefused) (req : ReqId) (c code : ℕ) (reason body : Bytes) (old : Working) → IsOffered judged req c code reason body old (Err (refused.Turn NoMemory 0)) old
unfolding IsOffered IsCarriedOut IsTurned StopsAfter
wants_offer (Ok r) req c code reason body old = inl (refl, refl)
wants_offer (Err refusal) req c code reason body old = (inr refl, refl)

pub offer_wanting : (judged : Result ℕ OfferRefused) (req : ReqId) (c code : ℕ) (reason body : Bytes) (old : Working) (stop : Stopped) (refusal : OfferRefused) → stop ≡ record { refusal = NoMemory; made = 0 }
    → refusal ≡ refused.Turn stop.refusal stop.made → old.starved ≡ false → IsOffered judged req c code reason body old (Err refusal) old
offer_wanting judged req c code reason body old stop refusal wants is fed = rw (is, wants) (wants_offer judged req c code reason body old)

-- ## A PRACK

pub prack_carried : (invite req : ReqId) (prack : Request) (old new : Working) (seen : View) (named : Option Named) (result : Result Prack Stopped) → (old.starved ≡ false → seen ≡ (play_of old).view) → named ≡ named_offer seen invite prack
    → IsCarried (prack_calls invite req named) (prack_answer named) old result new
    → old.starved ≡ false → IsCarried (prack_calls invite req (named_offer (play_of old).view invite prack)) (prack_answer (named_offer (play_of old).view invite prack)) old result new
prack_carried invite req prack old new seen named result sees is carried fed =
    subst (λ (o : Option Named). IsCarried (prack_calls invite req o) (prack_answer o) old result new) (is ∙ ap (λ (v : View). named_offer v invite prack) (sees fed)) carried
