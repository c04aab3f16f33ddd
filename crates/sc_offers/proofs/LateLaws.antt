-- An offer that a timer ends, by what was read before the first call.
use Rattle.std.proofs.Common.{◌≡◌, ℕ, ◌==◌, ◌&&◌, Bool, true, false, not, if◌then◌else◌, Option, None, Some, Result, refl, sym, ap, subst, ◌∙◌}
use Rattle.std.specs.Prelude.{is_some}
use Rattle.sc_value.specs.declared.ids.ReqId.{ReqId}
use Rattle.sc_value.specs.declared.ids.TimerId.{TimerId}
use Rattle.sc_terms.specs.declared.views.View.{View}
use Rattle.sc_terms.specs.declared.views.RequestView.{RequestView}
use Rattle.sc_terms.specs.declared.calls.Call.TheVariants as calls
use Rattle.sc_hosts.specs.HelperParts.{accepted_then}
use Rattle.sc_hosts.specs.Looking.{is_request, request_in}
use Rattle.sc_hosts.specs.Offers.{Offer, ended_offer_text, late_offer, pending_offer, rel_name}
use Rattle.sc_hosts.specs.Scripting.{Script, Done, only, reply, where_some}
use Rattle.sc_model.specs.BestResponses.{server_error}
use Rattle.sc_turn.specs.Working.{Working, play_of}
use Rattle.sc_helpers.specs.Stopping.{IsCarried}
use Rattle.sc_helpers.specs.declared.stopping.Stopped.{Stopped}
use Rattle.sc_helpers.proofs.FoundLaws.{found, request_is}
use Rattle.sc_promised.specs.Reliable.{is_late}
use Rattle.sc_offers.specs.OfferScripts.{open_in}
use Rattle.sc_offers.specs.Offering.{gives_up, overdue_by}
use Rattle.sc_offers.specs.declared.overdue.Overdue.{Overdue}

abbrev lasts : ℕ → Offer → RequestView → TimerId → Script
lasts n offer request id =
    if offer.timer == id.0 && not (is_some request.answered)
    then accepted_then (reply (record { 0 = n }) 500 server_error) (only (calls.SetAttribute (rel_name n) (ended_offer_text 70 offer)))
    else Done

-- of an INVITE that is there
one_late : (n : ℕ) (offer : Offer) (id : TimerId) (request : RequestView) (due answered : Bool) → (request.id.0 == n) ≡ true → (offer.timer == id.0) ≡ due → is_some request.answered ≡ answered
    → (lasts n offer request id ≡ gives_up n (overdue_by (open_in (Some request)) id (Some offer))) × (is_late (Some offer) id (Some request) ≡ is_some (overdue_by (open_in (Some request)) id (Some offer)))
unfolding gives_up overdue_by open_in is_late
one_late n offer id request true true e due answered = (rw (due, answered) refl, rw (due, answered) refl)
one_late n offer id request true false e due answered =
    (rw (due, answered) (ap (λ (req : ReqId). accepted_then (reply req 500 server_error) (only (calls.SetAttribute (rel_name n) (ended_offer_text 70 offer)))) (sym (request_is request.id n e))), rw (due, answered) refl)
one_late n offer id request false answered e due is = (rw due refl, rw due refl)

none_late : (n : ℕ) (offer : Offer) (id : TimerId) (due : Bool) → (offer.timer == id.0) ≡ due
    → (Done ≡ gives_up n (overdue_by (open_in None) id (Some offer))) × (is_late (Some offer) id None ≡ is_some (overdue_by (open_in None) id (Some offer)))
unfolding gives_up overdue_by open_in is_late
none_late n offer id true due = (rw due refl, rw due refl)
none_late n offer id false due = (rw due refl, rw due refl)

abbrev Same : ℕ → TimerId → Option Offer → Option RequestView → Type 0
Same n id offer request =
    (where_some offer (λ offer. where_some request (λ request. lasts n offer request id)) ≡ gives_up n (overdue_by (open_in request) id offer))
    × (is_late offer id request ≡ is_some (overdue_by (open_in request) id offer))

by_request : (view : View) (n : ℕ) (id : TimerId) (offer : Offer) (request : Option RequestView) → request_in view (record { 0 = n }) ≡ request → Same n id (Some offer) request
unfolding where_some
by_request view n id offer None is = none_late n offer id (offer.timer == id.0) refl
by_request view n id offer (Some request) is =
    one_late n offer id request (offer.timer == id.0) (is_some request.answered) (found (is_request (record { 0 = n })) view.requests request is) refl refl

by_offer : (view : View) (n : ℕ) (id : TimerId) (offer : Option Offer) → Same n id offer (request_in view (record { 0 = n }))
unfolding where_some gives_up overdue_by is_late
by_offer view n id None = (refl, refl)
by_offer view n id (Some offer) = by_request view n id offer (request_in view (record { 0 = n })) refl

same_late : (view : View) (n : ℕ) (id : TimerId)
    → (late_offer view n id ≡ gives_up n (overdue_by (open_in (request_in view (record { 0 = n }))) id (pending_offer view n)))
    × (is_late (pending_offer view n) id (request_in view (record { 0 = n })) ≡ is_some (overdue_by (open_in (request_in view (record { 0 = n }))) id (pending_offer view n)))
unfolding late_offer
same_late view n id = by_offer view n id (pending_offer view n)

abbrev read : View → ℕ → TimerId → Option Overdue
read view n id = overdue_by (open_in (request_in view (record { 0 = n }))) id (pending_offer view n)

pub late_carried : (n : ℕ) (id : TimerId) (old new : Working) (seen : View) (overdue : Option Overdue) (result : Result Bool Stopped) → (old.starved ≡ false → seen ≡ (play_of old).view)
    → overdue ≡ overdue_by (open_in (request_in seen (record { 0 = n }))) id (pending_offer seen n)
    → IsCarried (gives_up n overdue) (is_some overdue) old result new
    → old.starved ≡ false → IsCarried (late_offer (play_of old).view n id) (is_late (pending_offer (play_of old).view n) id (request_in (play_of old).view (record { 0 = n }))) old result new
late_carried n id old new seen overdue result sees is carried fed =
    let same = same_late (play_of old).view n id in
    rw (same.0, same.1) (subst (λ (o : Option Overdue). IsCarried (gives_up n o) (is_some o) old result new) (is ∙ ap (λ (v : View). read v n id) (sees fed)) carried)
