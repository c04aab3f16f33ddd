-- The charter of the servlet, from what its helper's calls leave.
use Rattle.std.proofs.Common.{◌≡◌, ◌≤◌, ◌<◌, ℕ, ◌+◌, Bool, true, false, if◌then◌else◌, Option, None, Some, [], Result, Ok, Err, OnOk, append-nil, option_map, refl, sym, ap, subst, ◌∙◌, arith}
use Rattle.std.specs.Prelude.{codes}
use Rattle.std.specs.List.{find}
use Rattle.sc_value.specs.declared.ids.ReqId.{ReqId}
use Rattle.sc_value.specs.declared.ids.SessId.{SessId}
use Rattle.sc_value.specs.declared.ids.TimerId.{TimerId}
use Rattle.sc_value.specs.declared.no_memory.NoMemory as no
use Rattle.sc_value.specs.declared.message.Request.{Request}
use Rattle.sc_terms.specs.declared.views.View.{View}
use Rattle.sc_terms.specs.declared.views.RequestView.{RequestView}
use Rattle.sc_terms.specs.declared.calls.Call.TheVariants as calls
use Rattle.sc_terms.specs.declared.calls.Refusal.{Refusal}
use Rattle.sc_tokens.specs.Bytes.{Bytes}
use Rattle.sc_hosts.specs.HelperParts.{accepted_then, answer_with, field_of}
use Rattle.sc_hosts.specs.Looking.{is_request, request_in}
use Rattle.sc_hosts.specs.Offers.{Offer, ended_offer_text, first_offer, is_invite_of, late_offer, names_offer, pending_offer, prack_by, rel_name, session_progress, take_prack}
use Rattle.sc_hosts.specs.RefusalParts.{MOST_CALLS}
use Rattle.sc_hosts.specs.Scripting.{Script, Done, only, played_from, reply, where_some}
use Rattle.sc_hosts.specs.Words.{does_not_exist, ok}
use Rattle.sc_turn.specs.Working.{Working, play_of}
use Rattle.sc_apps.specs.Scripted.{IsPlayed}
use Rattle.sc_apps.proofs.Playing.{begun_room, begun_view, played_done}
use Rattle.sc_helpers.specs.Stopping.{GoesThrough, Goes, IsHeard, StopsAfter}
use Rattle.sc_helpers.specs.declared.stopping.Stopped.{Stopped}
use Rattle.sc_helpers.proofs.FoundLaws.{as_is, cancel_is, found, request_is}
use Rattle.sc_helpers.proofs.Shorts.{Short, goes_heard, goes_through, heard_played, short_cancel, short_number, short_only, short_then, short_where, through_listed, through_played}
use Rattle.sc_helpers.proofs.Tails.{IsFine, cancel_stops, cancel_then_on, fine_then, respond_fine, set_fine, stops_then}
use Rattle.sc_promised.specs.Reliable.{offer_answer, offers}
use Rattle.sc_offers.specs.OfferScripts.{prack_of}
use Rattle.sc_offers.specs.Offering.{IsCarriedOut, IsOffered, IsTold, IsTurned, acknowledges, behind_prack, named_by, named_offer, offer_rseq, prack_answer, prack_calls}
use Rattle.sc_offers.specs.declared.pracks.Named.{Named}
use Rattle.sc_offers.specs.declared.refused.OfferRefused.{OfferRefused}
use Rattle.sc_offers.specs.declared.refused.OfferRefused.TheVariants as refused
use Rattle.sc_offers.specs.declared.refused.Prack.{Prack}

-- ## The first offer

offers_short : (req : ReqId) (r c code : ℕ) (reason body : Bytes) → Short (offers req r c code reason body) 4
unfolding offers
offers_short req r c code reason body =
    short_then _ _ 3 (short_then _ _ 2 (short_number _ _ 1 (λ t. short_only _ 0)))

first_is : (req : ReqId) (request : Request) (reason : Bytes) → reason ≡ session_progress → first_offer req request ≡ offers req 1 request.head.cseq.number 183 reason []
unfolding first_offer offers offer_answer answer_with
first_is req request reason is = rw is refl

pub first_played : (req : ReqId) (request : Request) (reason : Bytes) (old new : Working) (out : Result (Unit {0}) no.NoMemory) → reason ≡ session_progress → OnOk out (IsPlayed (offers req 1 request.head.cseq.number 183 reason []) old new)
    → OnOk out (IsPlayed (first_offer req request) old new)
first_played req request reason old new out is played = subst (λ (s : Script). OnOk out (IsPlayed s old new)) (sym (first_is req request reason is)) played

pub offer_through : (req : ReqId) (c : ℕ) (reason body : Bytes) (old new : Working) (x : Unit {0}) → Goes 0 (offers req 1 c 183 reason body) old (Ok x) new → IsPlayed (offers req 1 c 183 reason body) old new
offer_through req c reason body old new x goes = goes_through _ old new x goes

pub offer_stopped : (req : ReqId) (c : ℕ) (reason body : Bytes) (old new : Working) (stop : Stopped) (out : Result (Unit {0}) no.NoMemory) → (play_of old).listed + 3 < MOST_CALLS
    → Goes 0 (offers req 1 c 183 reason body) old (Err stop) new → IsHeard stop out → OnOk out (IsPlayed (offers req 1 c 183 reason body) old new)
offer_stopped req c reason body old new stop out room goes heard =
    goes_heard (offers req 1 c 183 reason body) 4 old new stop out (offers_short req 1 c 183 reason body) (omega (arith, room)) goes heard

-- ## Refusals

told_by : (script : Script) (n : ℕ) (old new : Working) (refusal : OfferRefused) (out : Result (Unit {0}) no.NoMemory) → Short script n → (play_of old).listed + n ≤ MOST_CALLS
    → IsTurned script old refusal new → IsTold refusal out → OnOk out (IsPlayed script old new)
unfolding IsTurned IsTold
told_by script n old new refused.Unsupported out short room stops told = absurd stops
told_by script n old new (refused.Pending rseq) out short room stops told = absurd stops
told_by script n old new refused.Exhausted out short room stops told = absurd stops
told_by script n old new (refused.Turn refusal made) out short room stops told = heard_played script n old new _ out short room stops told

first_room : (old : Working) (n : ℕ) → old.calls ≡ [] → n ≤ 8 → (play_of old).listed + n ≤ MOST_CALLS
first_room old n none few = let e = begun_room old none in omega (arith, e, few)

-- ## The first offer, where nothing is remembered

offered_one : (req : ReqId) (request : Request) (reason body : Bytes) (result : Result ℕ OfferRefused) (old new : Working) → old.calls ≡ [] → old.starved ≡ false → offer_rseq old.shown req request ≡ Ok 1
    → (old.starved ≡ false → IsOffered (offer_rseq (play_of old).view req request) req request.head.cseq.number 183 reason body old result new)
    → IsOffered (Ok 1) req request.head.cseq.number 183 reason body old result new
offered_one req request reason body result old new none fed first offered =
    subst (λ (j : Result ℕ OfferRefused). IsOffered j req request.head.cseq.number 183 reason body old result new) (ap (λ (v : View). offer_rseq v req request) (begun_view old none) ∙ first) (offered fed)

pub first_through : (req : ReqId) (request : Request) (reason body : Bytes) (given : ℕ) (old new : Working) → old.calls ≡ [] → old.starved ≡ false → offer_rseq old.shown req request ≡ Ok 1
    → (old.starved ≡ false → IsOffered (offer_rseq (play_of old).view req request) req request.head.cseq.number 183 reason body old (Ok given) new)
    → IsPlayed (offers req 1 request.head.cseq.number 183 reason body) old new
unfolding IsOffered IsCarriedOut
first_through req request reason body given old new none fed first offered =
    through_played (offers req 1 request.head.cseq.number 183 reason body) old new (offered_one req request reason body (Ok given) old new none fed first offered).1

pub first_stopped : (req : ReqId) (request : Request) (reason body : Bytes) (old new : Working) (refusal : OfferRefused) (out : Result (Unit {0}) no.NoMemory) → old.calls ≡ [] → old.starved ≡ false → offer_rseq old.shown req request ≡ Ok 1
    → (old.starved ≡ false → IsOffered (offer_rseq (play_of old).view req request) req request.head.cseq.number 183 reason body old (Err refusal) new) → IsTold refusal out
    → OnOk out (IsPlayed (offers req 1 request.head.cseq.number 183 reason body) old new)
unfolding IsOffered IsCarriedOut
first_stopped req request reason body old new refusal out none fed first offered told =
    told_by (offers req 1 request.head.cseq.number 183 reason body) 4 old new refusal out (offers_short req 1 request.head.cseq.number 183 reason body) (first_room old 4 none (omega (arith)))
    (offered_one req request reason body (Err refusal) old new none fed first offered) told

-- ## A timer

late_if : (b : Bool) (n : ℕ) (script : Script) → Short script n → Short (if b then script else Done) n
unfolding Short
late_if true n script short = short
late_if false n script short = tt

late_short : (view : View) (n : ℕ) (id : TimerId) → Short (late_offer view n id) 2
unfolding late_offer
late_short view n id = short_where _ _ 2 (λ offer. short_where _ _ 2 (λ request. late_if _ 2 _ (short_then _ _ 1 (short_only _ 0))))

pub late_through : (invite : ReqId) (id : TimerId) (given answer : Bool) (old new : Working) → old.calls ≡ [] → old.starved ≡ false
    → (old.starved ≡ false → IsCarriedOut (late_offer (play_of old).view invite.0 id) answer old (Ok given) new) → IsPlayed (late_offer old.shown invite.0 id) old new
unfolding IsCarriedOut
late_through invite id given answer old new none fed carried =
    as_is _ _ old new (ap (λ (v : View). late_offer v invite.0 id) (sym (begun_view old none))) (through_played (late_offer (play_of old).view invite.0 id) old new (carried fed).1)

pub late_stopped : (invite : ReqId) (id : TimerId) (answer : Bool) (old new : Working) (refusal : OfferRefused) (out : Result (Unit {0}) no.NoMemory) → old.calls ≡ [] → old.starved ≡ false
    → (old.starved ≡ false → IsCarriedOut (late_offer (play_of old).view invite.0 id) answer old (Err refusal) new) → IsTold refusal out → OnOk out (IsPlayed (late_offer old.shown invite.0 id) old new)
unfolding IsCarriedOut
late_stopped invite id answer old new refusal out none fed carried told =
    subst (λ (v : View). OnOk out (IsPlayed (late_offer v invite.0 id) old new)) (begun_view old none)
    (told_by (late_offer (play_of old).view invite.0 id) 2 old new refusal out (late_short (play_of old).view invite.0 id) (first_room old 2 none (omega (arith))) (carried fed) told)

none_is : (view : View) (n : ℕ) (id : TimerId) (offer : Option Offer) (request : Option RequestView) → pending_offer view n ≡ offer → request_in view (record { 0 = n }) ≡ request → None ≡ option_map (λ (r : RequestView). r.id) request → late_offer view n id ≡ Done
unfolding late_offer where_some
none_is view n id None request is has none = rw is refl
none_is view n id (Some offer) None is has none = rw (is, has) refl
none_is view n id (Some offer) (Some request) is has none = cc

pub none_late : (n : ℕ) (id : TimerId) (old : Working) (seen : View) → seen ≡ old.shown → None ≡ option_map (λ (r : RequestView). r.id) (request_in seen (record { 0 = n })) → IsPlayed (late_offer old.shown n id) old old
none_late n id old seen same none =
    as_is _ _ old old (ap (λ (v : View). late_offer v n id) (sym same) ∙ none_is seen n id (pending_offer seen n) (request_in seen (record { 0 = n })) refl refl none) (played_done old)

number_is : (view : View) (n : ℕ) (invite : ReqId) (request : Option RequestView) → request_in view (record { 0 = n }) ≡ request → Some invite ≡ option_map (λ (r : RequestView). r.id) request → invite.0 ≡ n
number_is view n invite None has is = cc
number_is view n invite (Some request) has is =
    ap (λ (r : ReqId). r.0) (some_is invite request.id is ∙ request_is request.id n (found (is_request (record { 0 = n })) view.requests request has))
  where
    some_is : (a b : ReqId) → Some a ≡ Some b → a ≡ b
    some_is a b e = cc

pub some_late : (n : ℕ) (id : TimerId) (old new : Working) (seen : View) (invite : ReqId) (out : Result (Unit {0}) no.NoMemory) → Some invite ≡ option_map (λ (r : RequestView). r.id) (request_in seen (record { 0 = n }))
    → OnOk out (IsPlayed (late_offer old.shown invite.0 id) old new) → OnOk out (IsPlayed (late_offer old.shown n id) old new)
some_late n id old new seen invite out is played =
    subst (λ (m : ℕ). OnOk out (IsPlayed (late_offer old.shown m id) old new)) (number_is seen n invite (request_in seen (record { 0 = n })) refl is) played

-- ## A PRACK

prack_by_found : (view : View) (req : ReqId) (sess : SessId) (request : Request) (o : Option RequestView) → find (is_invite_of sess) view.requests ≡ o → take_prack view req sess request ≡ prack_of view req request (option_map (λ r. r.id) o)
unfolding take_prack prack_of
prack_by_found view req sess request None e = rw e refl
prack_by_found view req sess request (Some invited) e = rw e refl

pub played_prack : (view : View) (req : ReqId) (sess : SessId) (request : Request) (old new : Working) → IsPlayed (prack_of view req request (option_map (λ r. r.id) (find (is_invite_of sess) view.requests))) old new → IsPlayed (take_prack view req sess request) old new
played_prack view req sess request old new is = as_is _ _ old new (prack_by_found view req sess request (find (is_invite_of sess) view.requests) refl) is

-- what the charter makes, where the PRACK names an offer or none
abbrev pub answers : ReqId → ReqId → Option Named → Script
answers invite req None = only (reply req 481 does_not_exist)
answers invite req (Some named) = acknowledges invite req named (only (reply invite 200 ok))

charter_if : (view : View) (invite req : ReqId) (request : Request) (offer : Offer) (b : Bool) → names_offer offer (field_of (codes "RAck") request) ≡ b
    → prack_by view invite req request (Some offer) ≡ answers invite req (named_by view request (Some offer))
unfolding prack_by named_by acknowledges
charter_if view invite req request offer true is =
    rw is (ap (λ s. accepted_then (reply req 200 ok) (accepted_then (calls.SetAttribute (rel_name invite.0) (ended_offer_text 65 offer)) s)) (cancel_is offer.timer view (only (reply invite 200 ok))))
charter_if view invite req request offer false is = rw is refl

charter_by : (view : View) (invite req : ReqId) (request : Request) (offer : Option Offer) → prack_by view invite req request offer ≡ answers invite req (named_by view request offer)
unfolding prack_by named_by
charter_by view invite req request None = refl
charter_by view invite req request (Some offer) = charter_if view invite req request offer (names_offer offer (field_of (codes "RAck") request)) refl

pub charter_is : (view : View) (invite req : ReqId) (request : Request) → prack_by view invite req request (pending_offer view invite.0) ≡ answers invite req (named_offer view invite request)
unfolding named_offer
charter_is view invite req request = charter_by view invite req request (pending_offer view invite.0)

reply_fine : (req : ReqId) (code : ℕ) (reason : Bytes) → IsFine (reply req code reason)
unfolding reply
reply_fine req code reason play = respond_fine req _ play

acked_by : (invite req : ReqId) (named : Named) (script : Script) (old mid new : Working) → GoesThrough (acknowledges invite req named Done) old mid → IsPlayed script mid new → IsPlayed (acknowledges invite req named script) old new
unfolding acknowledges
acked_by invite req named script old mid new through rest =
    fine_then (reply req 200 ok) (reply_fine req 200 ok) _ _ old mid new through
    (λ more. fine_then (calls.SetAttribute (rel_name invite.0) (ended_offer_text 65 named.offer)) (set_fine (rel_name invite.0) (ended_offer_text 65 named.offer)) _ _ _ mid new more
    (λ last. cancel_then_on named.running script _ mid new last rest))

-- behind a script that went through nothing was played
played_and_done : (script : Script) (old mid new : Working) → GoesThrough script old mid → IsPlayed Done mid new → IsPlayed script old new
unfolding IsPlayed played_from
played_and_done script old mid new through done = done ∙ append-nil mid.calls ∙ through_played script old mid through

-- the calls for a PRACK, and what the servlet makes behind them
taken_from : (invite req : ReqId) (named : Option Named) (answer : Prack) (old mid new : Working) → answer ≡ prack_answer named → GoesThrough (prack_calls invite req named) old mid
    → IsPlayed (behind_prack invite answer) mid new → IsPlayed (answers invite req named) old new
unfolding prack_answer prack_calls behind_prack
taken_from invite req None answer old mid new is through rest =
    played_and_done (only (reply req 481 does_not_exist)) old mid new through (subst (λ (a : Prack). IsPlayed (behind_prack invite a) mid new) is rest)
taken_from invite req (Some named) answer old mid new is through rest =
    acked_by invite req named (only (reply invite 200 ok)) old mid new through (subst (λ (a : Prack). IsPlayed (behind_prack invite a) mid new) is rest)

prack_short : (invite req : ReqId) (named : Option Named) → Short (prack_calls invite req named) 3
unfolding prack_calls acknowledges Short
prack_short invite req None = short_only _ 2
prack_short invite req (Some named) = short_then _ _ 2 (short_then _ _ 1 (short_cancel named.running Done 0 tt))

answers_short : (invite req : ReqId) (named : Option Named) → Short (answers invite req named) 4
unfolding acknowledges
answers_short invite req None = short_only _ 3
answers_short invite req (Some named) = short_then _ _ 3 (short_then _ _ 2 (short_cancel named.running _ 1 (short_only _ 0)))

acked_stops : (invite req : ReqId) (named : Named) (script : Script) (count : ℕ) (old new : Working) (refusal : Refusal) → StopsAfter count (acknowledges invite req named Done) old refusal new → StopsAfter count (acknowledges invite req named script) old refusal new
unfolding acknowledges
acked_stops invite req named script count old new refusal stops =
    stops_then (reply req 200 ok) (reply_fine req 200 ok) _ _ count old new refusal stops
    (λ n more. stops_then (calls.SetAttribute (rel_name invite.0) (ended_offer_text 65 named.offer)) (set_fine (rel_name invite.0) (ended_offer_text 65 named.offer)) _ _ n _ new refusal more
    (λ m last. cancel_stops named.running script m _ new refusal last))

stops_from : (invite req : ReqId) (named : Option Named) (count : ℕ) (old new : Working) (refusal : Refusal) → StopsAfter count (prack_calls invite req named) old refusal new → StopsAfter count (answers invite req named) old refusal new
unfolding prack_calls
stops_from invite req None count old new refusal stops = stops
stops_from invite req (Some named) count old new refusal stops = acked_stops invite req named (only (reply invite 200 ok)) count old new refusal stops

turned_from : (invite req : ReqId) (named : Option Named) (old new : Working) (refusal : OfferRefused) → IsTurned (prack_calls invite req named) old refusal new → IsTurned (answers invite req named) old refusal new
unfolding IsTurned
turned_from invite req named old new refused.Unsupported stops = stops
turned_from invite req named old new (refused.Pending rseq) stops = stops
turned_from invite req named old new refused.Exhausted stops = stops
turned_from invite req named old new (refused.Turn refusal made) stops = stops_from invite req named made old new refusal stops

charter_at : (invite req : ReqId) (prack : Request) (old : Working) → old.calls ≡ [] → prack_by old.shown invite req prack (pending_offer old.shown invite.0) ≡ answers invite req (named_offer (play_of old).view invite prack)
charter_at invite req prack old none = ap (λ (v : View). prack_by v invite req prack (pending_offer v invite.0)) (sym (begun_view old none)) ∙ charter_is (play_of old).view invite req prack

pub taken_room : (invite req : ReqId) (prack : Request) (answer : Prack) (old mid : Working) → old.calls ≡ [] → old.starved ≡ false
    → (old.starved ≡ false → IsCarriedOut (prack_calls invite req (named_offer (play_of old).view invite prack)) (prack_answer (named_offer (play_of old).view invite prack)) old (Ok answer) mid)
    → (play_of mid).listed < MOST_CALLS
unfolding IsCarriedOut
taken_room invite req prack answer old mid none fed taken =
    let named = named_offer (play_of old).view invite prack in
    let few = through_listed (prack_calls invite req named) 3 old mid (prack_short invite req named) (taken fed).1 in
    let room = begun_room old none in omega (arith, few, room)

pub taken_played : (invite req : ReqId) (prack : Request) (answer : Prack) (old mid new : Working) (out : Result (Unit {0}) no.NoMemory) → old.calls ≡ [] → old.starved ≡ false
    → (old.starved ≡ false → IsCarriedOut (prack_calls invite req (named_offer (play_of old).view invite prack)) (prack_answer (named_offer (play_of old).view invite prack)) old (Ok answer) mid)
    → OnOk out (IsPlayed (behind_prack invite answer) mid new) → OnOk out (IsPlayed (prack_by old.shown invite req prack (pending_offer old.shown invite.0)) old new)
unfolding IsCarriedOut
taken_played invite req prack answer old mid new (Ok x) none fed taken rest =
    as_is _ _ old new (charter_at invite req prack old none) (taken_from invite req (named_offer (play_of old).view invite prack) answer old mid new (taken fed).0 (taken fed).1 rest)
taken_played invite req prack answer old mid new (Err e) none fed taken rest = tt

pub prack_stopped : (invite req : ReqId) (prack : Request) (old new : Working) (refusal : OfferRefused) (out : Result (Unit {0}) no.NoMemory) → old.calls ≡ [] → old.starved ≡ false
    → (old.starved ≡ false → IsCarriedOut (prack_calls invite req (named_offer (play_of old).view invite prack)) (prack_answer (named_offer (play_of old).view invite prack)) old (Err refusal) new)
    → IsTold refusal out → OnOk out (IsPlayed (prack_by old.shown invite req prack (pending_offer old.shown invite.0)) old new)
unfolding IsCarriedOut
prack_stopped invite req prack old new refusal out none fed taken told =
    let named = named_offer (play_of old).view invite prack in
    subst (λ (s : Script). OnOk out (IsPlayed s old new)) (sym (charter_at invite req prack old none))
    (told_by (answers invite req named) 4 old new refusal out (answers_short invite req named) (first_room old 4 none (omega (arith))) (turned_from invite req named old new refusal (taken fed)) told)
