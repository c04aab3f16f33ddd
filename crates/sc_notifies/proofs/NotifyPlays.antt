-- The charter of the servlet, from what its helper's calls leave.
use Rattle.std.proofs.Common.{◌≡◌, ◌≤◌, ℕ, ◌+◌, ◌==◌, ◌&&◌, Bool, true, false, not, Option, None, Some, [], Result, Ok, Err, OnOk, inl, inr, refl, ap, sym, subst, ◌∙◌, arith}
use Rattle.std.specs.Prelude.{nat_lt}
use Rattle.sc_value.specs.declared.ids.ReqId.{ReqId}
use Rattle.sc_value.specs.declared.ids.SessId.{SessId}
use Rattle.sc_value.specs.declared.ids.TimerId.{TimerId}
use Rattle.sc_value.specs.declared.no_memory.NoMemory as no
use Rattle.sc_value.specs.declared.message.Request.{Request}
use Rattle.sc_terms.specs.declared.views.View.{View}
use Rattle.sc_tokens.specs.Bytes.{Bytes}
use Rattle.sc_hosts.specs.HelperParts.{accepted_then}
use Rattle.sc_hosts.specs.RefusalParts.{MOST_CALLS}
use Rattle.sc_hosts.specs.Scripting.{Script, Done, where_some}
use Rattle.sc_hosts.specs.Subscriptions.{NamedSub, Rule, Subscription, accepts, asked_seconds, ended_sub, failed_sub, names_package, notifies, subscription_of}
use Rattle.sc_turn.specs.Working.{Working, play_of}
use Rattle.sc_apps.specs.Scripted.{IsPlayed}
use Rattle.sc_apps.proofs.Playing.{begun_room, begun_view, played_done}
use Rattle.sc_helpers.proofs.FoundLaws.{as_is}
use Rattle.sc_helpers.proofs.Shorts.{Short, heard_played, short_cancel, short_either, short_more, short_number, short_only, short_remove, short_send, short_then, short_where, through_played}
use Rattle.sc_notifies.specs.Notifying.{IsCarriedOut, IsEnded, IsFailed, IsRefusedAs, IsTold, IsTurned, accepted_by, asked_of, fired_of, read_by, read_of, seconds_in}
use Rattle.sc_notifies.specs.SubScripts.{begun_noted, begun_timed, begun_told, without_subscription as cleared, subscribed_by, without_attributes as unnamed}
use Rattle.sc_notifies.specs.declared.accepting.Grant.TheVariants as grants
use Rattle.sc_notifies.specs.declared.accepting.Read.{Read}
use Rattle.sc_notifies.specs.declared.refused.Asked.{Asked}
use Rattle.sc_notifies.specs.declared.refused.Asked.TheVariants as asked
use Rattle.sc_notifies.specs.declared.refused.NotifyRefused.{NotifyRefused}
use Rattle.sc_notifies.specs.declared.refused.NotifyRefused.TheVariants as refused
use Rattle.sc_notifies.specs.declared.standing.Standing.{Standing}
use Rattle.sc_notifies.specs.declared.subscribing.Term.{Term}
use Rattle.sc_notifies.proofs.SubLaws.{ended_is, subscribed_is}

-- ## How short

pub notifies_short : (sess : SessId) (event state body : Bytes) → Short (notifies sess event state body) 2
unfolding notifies Short
notifies_short sess event state body = short_send _ _ _ _ Done 0 tt

cleared_short : (standing : Standing) (sess : SessId) (script : Script) → Short script 2 → Short (cleared standing sess script) 5
unfolding cleared unnamed
cleared_short standing sess script short = short_cancel standing.running _ 4 (short_remove standing.told _ _ 3 (short_remove standing.named _ script 2 short))

begun_short : (term : Term) (sess : SessId) (event body : Bytes) → Short (begun_timed term sess event body) 5
unfolding begun_timed begun_noted begun_told
begun_short term sess event body = short_number _ _ 4 (λ t. short_then _ _ 3 (short_then _ _ 2 (notifies_short _ _ _ _)))

subscribed_short : (standing : Standing) (term : Term) (sess : SessId) (event body : Bytes) → Short (subscribed_by standing term sess event body) 6
unfolding subscribed_by
subscribed_short standing term sess event body =
    short_either (term.seconds == 0) _ _ 6 (short_more _ 5 (cleared_short standing sess _ (notifies_short _ _ _ _))) (short_cancel standing.running _ 5 (begun_short term sess event body))

accepted_short : (rule : Rule) (req : ReqId) (sess : SessId) (asks : Asked) (read : Read) → Short (accepted_by rule req sess asks read) 7
unfolding accepted_by
accepted_short rule req sess asked.BadEvent read = short_only _ 6
accepted_short rule req sess asked.Brief read = short_only _ 6
accepted_short rule req sess (asked.For seconds) read = short_then _ _ 6 (subscribed_short read.standing read.term sess read.event rule.body)

-- ## A turn that comes with no calls

pub told_by : (script : Script) (n : ℕ) (old new : Working) (refusal : NotifyRefused) (out : Result (Unit {0}) no.NoMemory) → Short script n → (play_of old).listed + n ≤ MOST_CALLS → IsTurned script old refusal new → IsTold refusal out → OnOk out (IsPlayed script old new)
unfolding IsTurned IsTold
told_by script n old new refused.NotSubscribed out short room stops told = absurd stops
told_by script n old new refused.NotPending out short room stops told = absurd stops
told_by script n old new (refused.Turn refusal made) out short room stops told = heard_played script n old new _ out short (omega (arith, room)) stops told

-- a SUBSCRIBE, as the charter has it
accepts_if : (view : View) (rule : Rule) (req : ReqId) (sess : SessId) (request : Request) (other brief : Bool) → not (names_package rule request) ≡ other
    → (nat_lt 0 (asked_seconds rule request) && nat_lt (asked_seconds rule request) rule.least) ≡ brief
    → accepts view rule req sess request ≡ accepted_by rule req sess (asked_of rule request) (read_of view sess request (asked_of rule request) grants.Active)
unfolding accepts accepted_by asked_of read_of read_by seconds_in
accepts_if view rule req sess request true brief is has = rw is refl
accepts_if view rule req sess request false true is has = rw (is, has) refl
accepts_if view rule req sess request false false is has = rw (is, has) (ap (accepted_then _) (subscribed_is view rule sess _ _ (subscription_of view sess)))

accepts_is : (view : View) (rule : Rule) (req : ReqId) (sess : SessId) (request : Request)
    → accepts view rule req sess request ≡ accepted_by rule req sess (asked_of rule request) (read_of view sess request (asked_of rule request) grants.Active)
accepts_is view rule req sess request =
    accepts_if view rule req sess request (not (names_package rule request)) (nat_lt 0 (asked_seconds rule request) && nat_lt (asked_seconds rule request) rule.least) refl refl

pub accepts_through : (rule : Rule) (req : ReqId) (sess : SessId) (request : Request) (answer given : Asked) (old new : Working) → old.calls ≡ [] → old.starved ≡ false
    → (old.starved ≡ false → IsCarriedOut (accepted_by rule req sess (asked_of rule request) (read_of (play_of old).view sess request (asked_of rule request) grants.Active)) answer old (Ok given) new)
    → IsPlayed (accepts old.shown rule req sess request) old new
unfolding IsCarriedOut
accepts_through rule req sess request answer given old new none fed carried =
    as_is _ _ old new (ap (λ (v : View). accepts v rule req sess request) (sym (begun_view old none)) ∙ accepts_is (play_of old).view rule req sess request)
    (through_played (accepted_by rule req sess (asked_of rule request) (read_of (play_of old).view sess request (asked_of rule request) grants.Active)) old new (carried fed).1)

pub accepts_told : (rule : Rule) (req : ReqId) (sess : SessId) (request : Request) (answer : Asked) (old new : Working) (refusal : NotifyRefused) (out : Result (Unit {0}) no.NoMemory) → old.calls ≡ [] → old.starved ≡ false
    → (old.starved ≡ false → IsCarriedOut (accepted_by rule req sess (asked_of rule request) (read_of (play_of old).view sess request (asked_of rule request) grants.Active)) answer old (Err refusal) new) → IsTold refusal out
    → OnOk out (IsPlayed (accepts old.shown rule req sess request) old new)
unfolding IsCarriedOut
accepts_told rule req sess request answer old new refusal out none fed carried told =
    let room = begun_room old none in
    let read : Read = read_of (play_of old).view sess request (asked_of rule request) grants.Active in
    subst (λ (v : View). OnOk out (IsPlayed (accepts v rule req sess request) old new)) (begun_view old none)
    (subst (λ (s : Script). OnOk out (IsPlayed s old new)) (sym (accepts_is (play_of old).view rule req sess request))
    (told_by (accepted_by rule req sess (asked_of rule request) read) 7 old new refusal out (accepted_short rule req sess (asked_of rule request) read) (omega (arith, room)) (carried fed) told))

ended_short : (view : View) (named : NamedSub) → Short (ended_sub view named) 5
unfolding ended_sub
ended_short view named = rw (ended_is view named.sess named.sub _) (cleared_short _ named.sess _ (notifies_short _ _ _ _))

over_short : (view : View) (id : TimerId) → Short (where_some (fired_of view id) (ended_sub view)) 5
over_short view id = short_where (fired_of view id) (ended_sub view) 5 (λ named. ended_short view named)

pub fired_played : (id : TimerId) (answer given : Option ReqId) (old new : Working) → old.calls ≡ [] → old.starved ≡ false
    → (old.starved ≡ false → IsCarriedOut (where_some (fired_of (play_of old).view id) (ended_sub (play_of old).view)) answer old (Ok given) new)
    → IsPlayed (where_some (fired_of old.shown id) (ended_sub old.shown)) old new
unfolding IsCarriedOut
fired_played id answer given old new none fed carried =
    as_is _ _ old new (ap (λ (v : View). where_some (fired_of v id) (ended_sub v)) (sym (begun_view old none))) (through_played (where_some (fired_of (play_of old).view id) (ended_sub (play_of old).view)) old new (carried fed).1)

pub fired_told : (id : TimerId) (answer : Option ReqId) (old new : Working) (refusal : NotifyRefused) (out : Result (Unit {0}) no.NoMemory) → old.calls ≡ [] → old.starved ≡ false
    → (old.starved ≡ false → IsCarriedOut (where_some (fired_of (play_of old).view id) (ended_sub (play_of old).view)) answer old (Err refusal) new) → IsTold refusal out
    → OnOk out (IsPlayed (where_some (fired_of old.shown id) (ended_sub old.shown)) old new)
unfolding IsCarriedOut
fired_told id answer old new refusal out none fed carried told =
    let room = begun_room old none in
    subst (λ (v : View). OnOk out (IsPlayed (where_some (fired_of v id) (ended_sub v)) old new)) (begun_view old none)
    (told_by (where_some (fired_of (play_of old).view id) (ended_sub (play_of old).view)) 5 old new refusal out (over_short (play_of old).view id) (omega (arith, room)) (carried fed) told)

fail_short : (view : View) (sess : SessId) (sub : Subscription) → Short (failed_sub view sess sub) 5
unfolding failed_sub
fail_short view sess sub = rw (ended_is view sess sub _) (cleared_short _ sess _ (short_only _ 1))

fail_through : (view : View) (sess : SessId) (o : Option Subscription) (old new : Working) (x : Unit {0}) → IsFailed o (failed_sub view sess) old (Ok x) new → IsPlayed (where_some o (failed_sub view sess)) old new
unfolding IsFailed IsEnded IsRefusedAs where_some
fail_through view sess None old new x (inl is, same) = cc
fail_through view sess None old new x (inr is, same) = cc
fail_through view sess (Some sub) old new x through = through_played (failed_sub view sess sub) old new through

fail_told : (view : View) (sess : SessId) (o : Option Subscription) (old new : Working) (refusal : NotifyRefused) (out : Result (Unit {0}) no.NoMemory) → (play_of old).listed ≡ 0 → IsFailed o (failed_sub view sess) old (Err refusal) new → IsTold refusal out
    → OnOk out (IsPlayed (where_some o (failed_sub view sess)) old new)
unfolding IsFailed IsEnded IsRefusedAs where_some
fail_told view sess None old new refusal (Ok x) room (is, same) told = rw same (played_done old)
fail_told view sess None old new refusal (Err e) room (is, same) told = tt
fail_told view sess (Some sub) old new refusal out room stops told = told_by (failed_sub view sess sub) 5 old new refusal out (fail_short view sess sub) (omega (arith, room)) stops told

pub failed_played : (sess : SessId) (old new : Working) (x : Unit {0}) → old.calls ≡ [] → old.starved ≡ false → (old.starved ≡ false → IsFailed (subscription_of (play_of old).view sess) (failed_sub (play_of old).view sess) old (Ok x) new)
    → IsPlayed (where_some (subscription_of old.shown sess) (failed_sub old.shown sess)) old new
failed_played sess old new x none fed ended =
    as_is _ _ old new (ap (λ (v : View). where_some (subscription_of v sess) (failed_sub v sess)) (sym (begun_view old none))) (fail_through (play_of old).view sess (subscription_of (play_of old).view sess) old new x (ended fed))

pub failed_told : (sess : SessId) (old new : Working) (refusal : NotifyRefused) (out : Result (Unit {0}) no.NoMemory) → old.calls ≡ [] → old.starved ≡ false
    → (old.starved ≡ false → IsFailed (subscription_of (play_of old).view sess) (failed_sub (play_of old).view sess) old (Err refusal) new) → IsTold refusal out
    → OnOk out (IsPlayed (where_some (subscription_of old.shown sess) (failed_sub old.shown sess)) old new)
failed_told sess old new refusal out none fed ended told =
    subst (λ (v : View). OnOk out (IsPlayed (where_some (subscription_of v sess) (failed_sub v sess)) old new)) (begun_view old none)
    (fail_told (play_of old).view sess (subscription_of (play_of old).view sess) old new refusal out (begun_room old none) (ended fed) told)
