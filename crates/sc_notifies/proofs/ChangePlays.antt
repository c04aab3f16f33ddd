-- A new state that is told behind the answer to the request that brought it.
use Rattle.std.proofs.Common.{◌≡◌, ◌<◌, ℕ, ◌+◌, false, Option, None, Some, [], Result, Ok, Err, OnOk, inl, inr, refl, ap, subst, ◌∙◌, arith}
use Rattle.sc_value.specs.declared.ids.ReqId.{ReqId}
use Rattle.sc_value.specs.declared.ids.SessId.{SessId}
use Rattle.sc_value.specs.declared.no_memory.NoMemory as no
use Rattle.sc_terms.specs.declared.calls.Answer.{Answer}
use Rattle.sc_terms.specs.declared.calls.Call.{Call}
use Rattle.sc_terms.specs.declared.calls.Call.TheVariants as calls
use Rattle.sc_terms.specs.declared.calls.CallAnswer.{CallAnswer}
use Rattle.sc_terms.specs.declared.calls.Refusal.{Refusal}
use Rattle.sc_terms.specs.declared.views.RequestView.{RequestView}
use Rattle.sc_terms.specs.declared.views.View.{View}
use Rattle.sc_state.specs.declared.working.Play.{Play}
use Rattle.sc_tokens.specs.Bytes.{Bytes}
use Rattle.sc_hosts.specs.Effects.{after_call, after_listed, played_by}
use Rattle.sc_hosts.specs.Looking.{request_in}
use Rattle.sc_hosts.specs.RefusalParts.{MOST_CALLS}
use Rattle.sc_hosts.specs.Refusals.{refusal}
use Rattle.sc_hosts.specs.Scripting.{Script, attribute, reply, then_make, where_some}
use Rattle.sc_hosts.specs.Subscriptions.{Subscription, changes, event_of, subscription_of}
use Rattle.sc_hosts.specs.ViewChanges.{view_with_answer as answered, answered_in, tidy}
use Rattle.sc_turn.specs.Working.{Working, play_of, after_made}
use Rattle.sc_apps.specs.Scripted.{IsMade, IsPlayed}
use Rattle.sc_apps.proofs.Playing.{begun_view, played_done, played_then, played_on}
use Rattle.sc_helpers.proofs.Shorts.{Short, through_played}
use Rattle.sc_notifies.specs.Notifying.{IsCarriedOut, IsOfSubscription, IsRefusedAs, IsTold}
use Rattle.sc_notifies.specs.declared.refused.NotifyRefused.{NotifyRefused}
use Rattle.sc_notifies.proofs.NotifyPlays.{notifies_short, told_by}

-- ## The new state

changes_short : (view : View) (sess : SessId) (body : Bytes) (sub : Subscription) → Short (changes view sess body sub) 2
unfolding changes
changes_short view sess body sub = notifies_short _ _ _ _

through_by : (view : View) (sess : SessId) (body : Bytes) (answer given : ReqId) (o : Option Subscription) (old new : Working) → IsOfSubscription o (changes view sess body) answer old (Ok given) new → IsPlayed (where_some o (changes view sess body)) old new
unfolding IsOfSubscription IsCarriedOut IsRefusedAs where_some
through_by view sess body answer given None old new (inl is, same) = cc
through_by view sess body answer given None old new (inr is, same) = cc
through_by view sess body answer given (Some sub) old new (is, through) = through_played (changes view sess body sub) old new through

told_from : (view : View) (sess : SessId) (body : Bytes) (answer : ReqId) (o : Option Subscription) (old new : Working) (refusal : NotifyRefused) (out : Result (Unit {0}) no.NoMemory) → (play_of old).listed + 1 < MOST_CALLS
    → IsOfSubscription o (changes view sess body) answer old (Err refusal) new → IsTold refusal out → OnOk out (IsPlayed (where_some o (changes view sess body)) old new)
unfolding IsOfSubscription IsCarriedOut IsRefusedAs where_some
told_from view sess body answer None old new refused (Ok x) room (is, same) told = rw same (played_done old)
told_from view sess body answer None old new refused (Err e) room (is, same) told = tt
told_from view sess body answer (Some sub) old new refused out room stops told = told_by (changes view sess body sub) 2 old new refused out (changes_short view sess body sub) (omega (arith, room)) stops told

pub change_through : (sess : SessId) (body : Bytes) (answer given : ReqId) (old new : Working) → old.starved ≡ false
    → (old.starved ≡ false → IsOfSubscription (subscription_of (play_of old).view sess) (changes (play_of old).view sess body) answer old (Ok given) new)
    → IsPlayed (where_some (subscription_of (play_of old).view sess) (changes (play_of old).view sess body)) old new
change_through sess body answer given old new fed carried = through_by (play_of old).view sess body answer given (subscription_of (play_of old).view sess) old new (carried fed)

pub change_told : (sess : SessId) (body : Bytes) (answer : ReqId) (old new : Working) (refusal : NotifyRefused) (out : Result (Unit {0}) no.NoMemory) → (play_of old).listed + 1 < MOST_CALLS → old.starved ≡ false
    → (old.starved ≡ false → IsOfSubscription (subscription_of (play_of old).view sess) (changes (play_of old).view sess body) answer old (Err refusal) new) → IsTold refusal out
    → OnOk out (IsPlayed (where_some (subscription_of (play_of old).view sess) (changes (play_of old).view sess body)) old new)
change_told sess body answer old new refused out room fed carried told =
    told_from (play_of old).view sess body answer (subscription_of (play_of old).view sess) old new refused out room (carried fed) told

-- ## Behind the answer

pub answered_fed : (call : Call) (given : CallAnswer) (old mid : Working) → old.starved ≡ false → IsMade call old given mid → mid.starved ≡ false
unfolding IsMade after_made
answered_fed call given old mid fed (after, is) = rw after fed

answered_view : (request : Option RequestView) (code : ℕ) (view : View) → ((answered request code view).attributes ≡ view.attributes) × ((answered request code view).now ≡ view.now)
unfolding answered answered_in tidy
answered_view None code view = (refl, refl)
answered_view (Some request) code view = (refl, refl)

answered_by : (play : Play) (req : ReqId) (answer : Answer) (found : Option Refusal)
    → ((played_by play (calls.Respond req answer) found).view.attributes ≡ play.view.attributes) × ((played_by play (calls.Respond req answer) found).view.now ≡ play.view.now)
unfolding played_by after_call
answered_by play req answer None = answered_view (request_in play.view req) answer.code play.view
answered_by play req answer (Some refused) = (refl, refl)

-- an answer leaves the attributes and the moment
answered_same : (play : Play) (req : ReqId) (code : ℕ) (reason : Bytes)
    → ((after_listed play (reply req code reason)).view.attributes ≡ play.view.attributes) × ((after_listed play (reply req code reason)).view.now ≡ play.view.now)
unfolding after_listed reply
answered_same play req code reason = answered_by play req _ (refusal play _)

subscription_same : (sess : SessId) (a b : View) → a.attributes ≡ b.attributes → subscription_of a sess ≡ subscription_of b sess
unfolding subscription_of attribute
subscription_same sess a b same = rw same refl

changes_same : (sess : SessId) (body : Bytes) (o : Option Subscription) (a b : View) → a.attributes ≡ b.attributes → a.now ≡ b.now → where_some o (changes a sess body) ≡ where_some o (changes b sess body)
unfolding where_some changes event_of attribute
changes_same sess body None a b same now = refl
changes_same sess body (Some sub) a b same now = rw (same, now) refl

script_same : (sess : SessId) (body : Bytes) (a b : View) → a.attributes ≡ b.attributes → a.now ≡ b.now
    → where_some (subscription_of a sess) (changes a sess body) ≡ where_some (subscription_of b sess) (changes b sess body)
script_same sess body a b same now =
    ap (λ (o : Option Subscription). where_some o (changes a sess body)) (subscription_same sess a b same) ∙ changes_same sess body (subscription_of b sess) a b same now

mid_view : (req : ReqId) (code : ℕ) (reason : Bytes) (given : CallAnswer) (old mid : Working) → old.calls ≡ [] → IsMade (reply req code reason) old given mid
    → ((play_of mid).view.attributes ≡ old.shown.attributes) × ((play_of mid).view.now ≡ old.shown.now)
unfolding IsMade
mid_view req code reason given old mid none (after, is) =
    let on : play_of mid ≡ after_listed (play_of old) (reply req code reason) = ap play_of after ∙ played_on (reply req code reason) old in
    let left = answered_same (play_of old) req code reason in
    let first : (play_of old).view ≡ old.shown = begun_view old none in
    (ap (λ (p : Play). p.view.attributes) on ∙ left.0 ∙ ap (λ (v : View). v.attributes) first, ap (λ (p : Play). p.view.now) on ∙ left.1 ∙ ap (λ (v : View). v.now) first)

pub answered_then : (req : ReqId) (code : ℕ) (reason : Bytes) (sess : SessId) (body : Bytes) (given : CallAnswer) (old mid new : Working) (out : Result (Unit {0}) no.NoMemory) → old.calls ≡ [] → IsMade (reply req code reason) old given mid
    → OnOk out (IsPlayed (where_some (subscription_of (play_of mid).view sess) (changes (play_of mid).view sess body)) mid new)
    → OnOk out (IsPlayed (then_make (reply req code reason) (where_some (subscription_of old.shown sess) (changes old.shown sess body))) old new)
answered_then req code reason sess body given old mid new (Ok x) none made rest =
    let same = mid_view req code reason given old mid none made in
    played_then (reply req code reason) (where_some (subscription_of old.shown sess) (changes old.shown sess body)) old mid new given made
    (subst (λ (s : Script). IsPlayed s mid new) (script_same sess body (play_of mid).view old.shown same.0 same.1) rest)
answered_then req code reason sess body given old mid new (Err e) none made rest = tt
