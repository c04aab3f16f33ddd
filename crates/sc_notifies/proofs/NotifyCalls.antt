-- The calls of event notification at any point of a turn, by what was read before the first of them.
use Rattle.std.proofs.Common.{◌≡◌, Bool, true, false, Option, None, Some, Result, Ok, Err, inl, inr, option_map, refl, ap, subst, ◌∙◌}
use Rattle.std.specs.Prelude.{◌++◌, codes}
use Rattle.sc_value.specs.declared.ids.ReqId.{ReqId}
use Rattle.sc_value.specs.declared.ids.SessId.{SessId}
use Rattle.sc_value.specs.declared.ids.TimerId.{TimerId}
use Rattle.sc_value.specs.declared.message.Request.{Request}
use Rattle.sc_terms.specs.declared.views.View.{View}
use Rattle.sc_terms.specs.declared.calls.Refusal.TheVariants.{NoMemory}
use Rattle.sc_tokens.specs.Bytes.{Bytes}
use Rattle.sc_hosts.specs.Scripting.{Script, Done, only, where_some}
use Rattle.sc_hosts.specs.Subscriptions.{NamedSub, Rule, Subscription, changes, ended_sub, failed_sub, subscription_of}
use Rattle.sc_terms.specs.declared.calls.Call.TheVariants as calls
use Rattle.sc_turn.specs.Working.{Working, play_of}
use Rattle.sc_helpers.specs.Stopping.{Goes, GoesThrough, IsCarried, StopsAfter}
use Rattle.sc_helpers.specs.declared.stopping.Stopped.{Stopped}
use Rattle.sc_helpers.proofs.Steps.{goes_stopped}
use Rattle.sc_notifies.specs.Notifying.{IsActivated, IsByState, IsCarriedOut, IsEnded, IsFailed, IsOfPending, IsOfSubscription, IsRefusedAs, IsTurned, accepted_by, activates, asked_of, ends, fired_of, live_activated, live_by, live_ended, live_failed, live_of, live_told, next_of, over_by, over_script, read_of}
use Rattle.sc_notifies.specs.declared.accepting.Grant.{Grant}
use Rattle.sc_notifies.specs.declared.accepting.Read.{Read}
use Rattle.sc_notifies.specs.declared.ending.Over.{Over}
use Rattle.sc_notifies.specs.declared.refused.Asked.{Asked}
use Rattle.sc_notifies.specs.declared.refused.NotifyRefused.{NotifyRefused}
use Rattle.sc_notifies.specs.declared.refused.NotifyRefused.TheVariants as refused
use Rattle.sc_notifies.specs.declared.standing.Live.{Live}
use Rattle.sc_notifies.proofs.SubLaws.{ended_is}

-- ## How a call ends

stops_by : (script : Script) (old new : Working) (stop : Stopped) (x : Unit {0}) → Goes 0 script old (Err stop) new → StopsAfter stop.made script old stop.refusal new
unfolding IsCarried
stops_by script old new stop x goes = goes_stopped {X = Unit {0}} script x old new stop goes

pub went_through : (script : Script) (answer : Asked) (old new : Working) (x : Unit {0}) → Goes 0 script old (Ok x) new → IsCarriedOut script answer old (Ok answer) new
unfolding Goes IsCarriedOut
went_through script answer old new x through = (refl, through)

pub came_to_stop : (script : Script) (answer : Asked) (old new : Working) (stop : Stopped) (refusal : NotifyRefused) → Goes 0 script old (Err stop) new → refusal ≡ refused.Turn stop.refusal stop.made → IsCarriedOut script answer old (Err refusal) new
unfolding IsCarriedOut IsTurned
came_to_stop script answer old new stop refusal goes is = rw is (stops_by script old new stop tt goes)

pub sent_through : (script : Script) (answer : ReqId) (old new : Working) (x : Unit {0}) → Goes 0 script old (Ok x) new → IsCarriedOut script answer old (Ok answer) new
unfolding Goes IsCarriedOut
sent_through script answer old new x through = (refl, through)

pub sent_stopped : (script : Script) (answer : ReqId) (old new : Working) (stop : Stopped) (refusal : NotifyRefused) → Goes 0 script old (Err stop) new → refusal ≡ refused.Turn stop.refusal stop.made → IsCarriedOut script answer old (Err refusal) new
unfolding IsCarriedOut IsTurned
sent_stopped script answer old new stop refusal goes is = rw is (stops_by script old new stop tt goes)

pub over_through : (script : Script) (answer : ReqId) (old new : Working) (x : Unit {0}) → Goes 0 script old (Ok x) new → IsCarriedOut script (Some answer) old (Ok (Some answer)) new
unfolding Goes IsCarriedOut
over_through script answer old new x through = (refl, through)

pub over_stopped : (script : Script) (answer : Option ReqId) (old new : Working) (stop : Stopped) (refusal : NotifyRefused) → Goes 0 script old (Err stop) new → refusal ≡ refused.Turn stop.refusal stop.made → IsCarriedOut script answer old (Err refusal) new
unfolding IsCarriedOut IsTurned
over_stopped script answer old new stop refusal goes is = rw is (stops_by script old new stop tt goes)

pub failed_through : (script : Script) (old new : Working) (x : Unit {0}) → Goes 0 script old (Ok x) new → IsEnded script old (Ok x) new
unfolding Goes IsEnded
failed_through script old new x through = through

pub failed_stopped : (script : Script) (old new : Working) (stop : Stopped) (refusal : NotifyRefused) → Goes 0 script old (Err stop) new → refusal ≡ refused.Turn stop.refusal stop.made → IsEnded script old (Err refusal) new
unfolding IsEnded IsTurned
failed_stopped script old new stop refusal goes is = rw is (stops_by script old new stop tt goes)

pub nothing_over : (old : Working) → IsCarriedOut {X = Option ReqId} Done None old (Ok None) old
unfolding IsCarriedOut GoesThrough
nothing_over old = (refl, refl)

-- memory was wanting before the first call
wants_carried : {X : Type 0} (script : Script) (answer : X) (old : Working) → IsCarriedOut script answer old (Err (refused.Turn NoMemory 0)) old
unfolding IsCarriedOut IsTurned StopsAfter
wants_carried script answer old = inl (refl, refl)

wants_refused : (X : Type 0) (refusal : NotifyRefused) (old : Working) → IsRefusedAs {X = X} refusal old (Err (refused.Turn NoMemory 0)) old
unfolding IsRefusedAs
wants_refused X refusal old = (inr refl, refl)

is_refused : (X : Type 0) (refusal : NotifyRefused) (old : Working) → IsRefusedAs {X = X} refusal old (Err refusal) old
unfolding IsRefusedAs
is_refused X refusal old = (inl refl, refl)

wants_is : (stop : Stopped) (refusal : NotifyRefused) → stop ≡ record { refusal = NoMemory; made = 0 } → refusal ≡ refused.Turn stop.refusal stop.made → refusal ≡ refused.Turn NoMemory 0
wants_is stop refusal wants is = is ∙ ap (λ (s : Stopped). refused.Turn s.refusal s.made) wants

-- ## A subscription that is there, or none

some_sub : (view : View) (sess : SessId) (o : Option Subscription) (live : Live) → Some live ≡ option_map (live_by view sess) o → (sub : Subscription) × (o ≡ Some sub) × (live ≡ live_by view sess sub)
some_sub view sess None live is = cc
some_sub view sess (Some sub) live is = (sub, refl, same is)
  where
    same : {a b : Live} → Some a ≡ Some b → a ≡ b
    same e = cc

none_sub : (view : View) (sess : SessId) (o : Option Subscription) → None ≡ option_map (live_by view sess) o → o ≡ None
none_sub view sess None is = refl
none_sub view sess (Some sub) is = cc

by_some : (view : View) (sess : SessId) (script : Subscription → Script) (of : Live → Script) (old new : Working) (live : Live) (result : Result ReqId NotifyRefused) → ((sub : Subscription) → script sub ≡ of (live_by view sess sub))
    → Some live ≡ live_of view sess → IsCarriedOut (of live) live.next old result new → IsOfSubscription (subscription_of view sess) script (next_of view) old result new
unfolding live_of live_by IsOfSubscription
by_some view sess script of old new live result same is carried =
    let (sub, has, from) = some_sub view sess (subscription_of view sess) live is in
    rw has (rw (same sub) (subst (λ (l : Live). IsCarriedOut (of l) l.next old result new) from carried))

by_none : (view : View) (sess : SessId) (script : Subscription → Script) (old : Working) → None ≡ live_of view sess → IsOfSubscription (subscription_of view sess) script (next_of view) old (Err refused.NotSubscribed) old
unfolding live_of IsOfSubscription
by_none view sess script old is = rw (none_sub view sess (subscription_of view sess) is) (is_refused _ refused.NotSubscribed old)

by_wanting : (o : Option Subscription) (script : Subscription → Script) (answer : ReqId) (old : Working) → IsOfSubscription o script answer old (Err (refused.Turn NoMemory 0)) old
unfolding IsOfSubscription
by_wanting None script answer old = wants_refused _ refused.NotSubscribed old
by_wanting (Some sub) script answer old = wants_carried (script sub) answer old

pub sub_wanting : (o : Option Subscription) (script : Subscription → Script) (answer : ReqId) (old : Working) (stop : Stopped) (refusal : NotifyRefused) → stop ≡ record { refusal = NoMemory; made = 0 } → refusal ≡ refused.Turn stop.refusal stop.made
    → old.starved ≡ false → IsOfSubscription o script answer old (Err refusal) old
sub_wanting o script answer old stop refusal wants is fed = rw (wants_is stop refusal wants is) (by_wanting o script answer old)

-- ## A change of the state

told_is : (view : View) (sess : SessId) (body : Bytes) (sub : Subscription) → changes view sess body sub ≡ live_told sess body (live_by view sess sub)
unfolding changes live_told live_by
told_is view sess body sub = refl

pub change_some : (sess : SessId) (body : Bytes) (old new : Working) (seen : View) (live : Live) (result : Result ReqId NotifyRefused) → (old.starved ≡ false → seen ≡ (play_of old).view) → Some live ≡ live_of seen sess
    → IsCarriedOut (live_told sess body live) live.next old result new
    → old.starved ≡ false → IsOfSubscription (subscription_of (play_of old).view sess) (changes (play_of old).view sess body) (next_of (play_of old).view) old result new
change_some sess body old new seen live result sees is carried fed =
    subst (λ (v : View). IsOfSubscription (subscription_of v sess) (changes v sess body) (next_of v) old result new) (sees fed) (by_some seen sess (changes seen sess body) (live_told sess body) old new live result (told_is seen sess body) is carried)

pub change_none : (sess : SessId) (body : Bytes) (old : Working) (seen : View) → (old.starved ≡ false → seen ≡ (play_of old).view) → None ≡ live_of seen sess
    → old.starved ≡ false → IsOfSubscription (subscription_of (play_of old).view sess) (changes (play_of old).view sess body) (next_of (play_of old).view) old (Err refused.NotSubscribed) old
change_none sess body old seen sees is fed =
    subst (λ (v : View). IsOfSubscription (subscription_of v sess) (changes v sess body) (next_of v) old (Err refused.NotSubscribed) old) (sees fed) (by_none seen sess (changes seen sess body) old is)

-- ## The end

over_is : (view : View) (sess : SessId) (reason : Bytes) (sub : Subscription) → ends view sess reason sub ≡ live_ended sess (codes "terminated;reason=" ++ reason) (live_by view sess sub)
unfolding ends live_ended live_by
over_is view sess reason sub = ended_is view sess sub _

pub end_some : (sess : SessId) (reason : Bytes) (old new : Working) (seen : View) (live : Live) (result : Result ReqId NotifyRefused) → (old.starved ≡ false → seen ≡ (play_of old).view) → Some live ≡ live_of seen sess
    → IsCarriedOut (live_ended sess (codes "terminated;reason=" ++ reason) live) live.next old result new
    → old.starved ≡ false → IsOfSubscription (subscription_of (play_of old).view sess) (ends (play_of old).view sess reason) (next_of (play_of old).view) old result new
end_some sess reason old new seen live result sees is carried fed =
    subst (λ (v : View). IsOfSubscription (subscription_of v sess) (ends v sess reason) (next_of v) old result new) (sees fed)
    (by_some seen sess (ends seen sess reason) (live_ended sess (codes "terminated;reason=" ++ reason)) old new live result (over_is seen sess reason) is carried)

pub end_none : (sess : SessId) (reason : Bytes) (old : Working) (seen : View) → (old.starved ≡ false → seen ≡ (play_of old).view) → None ≡ live_of seen sess
    → old.starved ≡ false → IsOfSubscription (subscription_of (play_of old).view sess) (ends (play_of old).view sess reason) (next_of (play_of old).view) old (Err refused.NotSubscribed) old
end_none sess reason old seen sees is fed =
    subst (λ (v : View). IsOfSubscription (subscription_of v sess) (ends v sess reason) (next_of v) old (Err refused.NotSubscribed) old) (sees fed) (by_none seen sess (ends seen sess reason) old is)

-- ## A failure

fail_is : (view : View) (sess : SessId) (sub : Subscription) → failed_sub view sess sub ≡ live_failed sess (live_by view sess sub)
unfolding failed_sub live_failed live_by
fail_is view sess sub = ended_is view sess sub (only (calls.InvalidateSession sess))

fail_by : (view : View) (sess : SessId) (old new : Working) (live : Live) (result : Result (Unit {0}) NotifyRefused) → Some live ≡ live_of view sess → IsEnded (live_failed sess live) old result new
    → IsFailed (subscription_of view sess) (failed_sub view sess) old result new
unfolding live_of IsFailed
fail_by view sess old new live result is ended =
    let (sub, has, from) = some_sub view sess (subscription_of view sess) live is in
    rw has (rw (fail_is view sess sub) (subst (λ (l : Live). IsEnded (live_failed sess l) old result new) from ended))

fail_none : (view : View) (sess : SessId) (old : Working) → None ≡ live_of view sess → IsFailed (subscription_of view sess) (failed_sub view sess) old (Err refused.NotSubscribed) old
unfolding live_of IsFailed
fail_none view sess old is = rw (none_sub view sess (subscription_of view sess) is) (is_refused _ refused.NotSubscribed old)

pub failed_some : (sess : SessId) (old new : Working) (seen : View) (live : Live) (result : Result (Unit {0}) NotifyRefused) → (old.starved ≡ false → seen ≡ (play_of old).view) → Some live ≡ live_of seen sess → IsEnded (live_failed sess live) old result new
    → old.starved ≡ false → IsFailed (subscription_of (play_of old).view sess) (failed_sub (play_of old).view sess) old result new
failed_some sess old new seen live result sees is ended fed =
    subst (λ (v : View). IsFailed (subscription_of v sess) (failed_sub v sess) old result new) (sees fed) (fail_by seen sess old new live result is ended)

pub failed_none : (sess : SessId) (old : Working) (seen : View) → (old.starved ≡ false → seen ≡ (play_of old).view) → None ≡ live_of seen sess
    → old.starved ≡ false → IsFailed (subscription_of (play_of old).view sess) (failed_sub (play_of old).view sess) old (Err refused.NotSubscribed) old
failed_none sess old seen sees is fed = subst (λ (v : View). IsFailed (subscription_of v sess) (failed_sub v sess) old (Err refused.NotSubscribed) old) (sees fed) (fail_none seen sess old is)

fail_wants : (o : Option Subscription) (script : Subscription → Script) (old : Working) → IsFailed o script old (Err (refused.Turn NoMemory 0)) old
unfolding IsFailed IsEnded IsTurned StopsAfter
fail_wants None script old = wants_refused _ refused.NotSubscribed old
fail_wants (Some sub) script old = inl (refl, refl)

pub failed_wanting : (o : Option Subscription) (script : Subscription → Script) (old : Working) (stop : Stopped) (refusal : NotifyRefused) → stop ≡ record { refusal = NoMemory; made = 0 } → refusal ≡ refused.Turn stop.refusal stop.made
    → old.starved ≡ false → IsFailed o script old (Err refusal) old
failed_wanting o script old stop refusal wants is fed = rw (wants_is stop refusal wants is) (fail_wants o script old)

-- ## A pending one

pub activate_pending : (script : Script) (live : Live) (old new : Working) (result : Result ReqId NotifyRefused) → live.sub.active ≡ false → IsCarriedOut script live.next old result new → IsActivated script live old result new
unfolding IsActivated IsByState
activate_pending script live old new result is carried = rw is carried

pub activate_active : (script : Script) (live : Live) (old : Working) → live.sub.active ≡ true → IsActivated script live old (Err refused.NotPending) old
unfolding IsActivated IsByState
activate_active script live old is = rw is (is_refused _ refused.NotPending old)

active_is : (view : View) (sess : SessId) (body : Bytes) (sub : Subscription) → activates view sess body sub ≡ live_activated sess body (live_by view sess sub)
unfolding activates live_activated live_by
active_is view sess body sub = refl

pending_by : (view : View) (sess : SessId) (body : Bytes) (old new : Working) (live : Live) (result : Result ReqId NotifyRefused) → Some live ≡ live_of view sess → IsActivated (live_activated sess body live) live old result new
    → IsOfPending (subscription_of view sess) (activates view sess body) (next_of view) old result new
unfolding live_of IsOfPending IsActivated live_by
pending_by view sess body old new live result is carried =
    let (sub, has, from) = some_sub view sess (subscription_of view sess) live is in
    rw has (rw (active_is view sess body sub) (subst (λ (l : Live). IsActivated (live_activated sess body l) l old result new) from carried))

pending_none : (view : View) (sess : SessId) (body : Bytes) (old : Working) → None ≡ live_of view sess → IsOfPending (subscription_of view sess) (activates view sess body) (next_of view) old (Err refused.NotSubscribed) old
unfolding live_of IsOfPending
pending_none view sess body old is = rw (none_sub view sess (subscription_of view sess) is) (is_refused _ refused.NotSubscribed old)

pub activate_some : (sess : SessId) (body : Bytes) (old new : Working) (seen : View) (live : Live) (result : Result ReqId NotifyRefused) → (old.starved ≡ false → seen ≡ (play_of old).view) → Some live ≡ live_of seen sess
    → IsActivated (live_activated sess body live) live old result new
    → old.starved ≡ false → IsOfPending (subscription_of (play_of old).view sess) (activates (play_of old).view sess body) (next_of (play_of old).view) old result new
activate_some sess body old new seen live result sees is carried fed =
    subst (λ (v : View). IsOfPending (subscription_of v sess) (activates v sess body) (next_of v) old result new) (sees fed) (pending_by seen sess body old new live result is carried)

pub activate_none : (sess : SessId) (body : Bytes) (old : Working) (seen : View) → (old.starved ≡ false → seen ≡ (play_of old).view) → None ≡ live_of seen sess
    → old.starved ≡ false → IsOfPending (subscription_of (play_of old).view sess) (activates (play_of old).view sess body) (next_of (play_of old).view) old (Err refused.NotSubscribed) old
activate_none sess body old seen sees is fed =
    subst (λ (v : View). IsOfPending (subscription_of v sess) (activates v sess body) (next_of v) old (Err refused.NotSubscribed) old) (sees fed) (pending_none seen sess body old is)

pending_if : (active : Bool) (script : Script) (answer : ReqId) (old : Working) → IsByState active script answer old (Err (refused.Turn NoMemory 0)) old
unfolding IsByState
pending_if true script answer old = wants_refused _ refused.NotPending old
pending_if false script answer old = wants_carried script answer old

pending_wants : (o : Option Subscription) (script : Subscription → Script) (answer : ReqId) (old : Working) → IsOfPending o script answer old (Err (refused.Turn NoMemory 0)) old
unfolding IsOfPending
pending_wants None script answer old = wants_refused _ refused.NotSubscribed old
pending_wants (Some sub) script answer old = pending_if sub.active (script sub) answer old

pub pending_wanting : (o : Option Subscription) (script : Subscription → Script) (answer : ReqId) (old : Working) (stop : Stopped) (refusal : NotifyRefused) → stop ≡ record { refusal = NoMemory; made = 0 } → refusal ≡ refused.Turn stop.refusal stop.made
    → old.starved ≡ false → IsOfPending o script answer old (Err refusal) old
pending_wanting o script answer old stop refusal wants is fed = rw (wants_is stop refusal wants is) (pending_wants o script answer old)

-- ## A timer

pub over_ended : (view : View) (named : NamedSub) → ended_sub view named ≡ over_script (over_by view named)
unfolding ended_sub over_script over_by live_ended live_by
over_ended view named = ended_is view named.sess named.sub _

fire_by : (view : View) (o : Option NamedSub) (old new : Working) (result : Result (Option ReqId) NotifyRefused) → IsCarriedOut (where_some (option_map (over_by view) o) over_script) (option_map (λ (x : Over). x.live.next) (option_map (over_by view) o)) old result new
    → IsCarriedOut (where_some o (ended_sub view)) (option_map (λ (n : NamedSub). next_of view) o) old result new
unfolding where_some over_by live_by
fire_by view None old new result carried = carried
fire_by view (Some named) old new result carried = rw (over_ended view named) carried

pub fire_carried : (id : TimerId) (old new : Working) (seen : View) (over : Option Over) (result : Result (Option ReqId) NotifyRefused) → (old.starved ≡ false → seen ≡ (play_of old).view) → over ≡ option_map (over_by seen) (fired_of seen id)
    → IsCarriedOut (where_some over over_script) (option_map (λ (x : Over). x.live.next) over) old result new
    → old.starved ≡ false → IsCarriedOut (where_some (fired_of (play_of old).view id) (ended_sub (play_of old).view)) (option_map (λ (n : NamedSub). next_of (play_of old).view) (fired_of (play_of old).view id)) old result new
fire_carried id old new seen over result sees is carried fed =
    subst (λ (v : View). IsCarriedOut (where_some (fired_of v id) (ended_sub v)) (option_map (λ (n : NamedSub). next_of v) (fired_of v id)) old result new) (sees fed)
    (fire_by seen (fired_of seen id) old new result (subst (λ (o : Option Over). IsCarriedOut (where_some o over_script) (option_map (λ (x : Over). x.live.next) o) old result new) is carried))

pub fire_wanting : (script : Script) (answer : Option ReqId) (old : Working) (stop : Stopped) (refusal : NotifyRefused) → stop ≡ record { refusal = NoMemory; made = 0 } → refusal ≡ refused.Turn stop.refusal stop.made
    → old.starved ≡ false → IsCarriedOut script answer old (Err refusal) old
fire_wanting script answer old stop refusal wants is fed = rw (wants_is stop refusal wants is) (wants_carried script answer old)

-- ## A SUBSCRIBE

pub accept_carried : (rule : Rule) (req : ReqId) (sess : SessId) (request : Request) (grant : Grant) (old new : Working) (seen : View) (asks : Asked) (read : Read) (result : Result Asked NotifyRefused) → (old.starved ≡ false → seen ≡ (play_of old).view)
    → asks ≡ asked_of rule request → read ≡ read_of seen sess request asks grant → IsCarriedOut (accepted_by rule req sess asks read) asks old result new
    → old.starved ≡ false → IsCarriedOut (accepted_by rule req sess (asked_of rule request) (read_of (play_of old).view sess request (asked_of rule request) grant)) (asked_of rule request) old result new
accept_carried rule req sess request grant old new seen asks read result sees same is carried fed =
    subst (λ (v : View). IsCarriedOut (accepted_by rule req sess (asked_of rule request) (read_of v sess request (asked_of rule request) grant)) (asked_of rule request) old result new) (sees fed)
    (subst (λ (a : Asked). IsCarriedOut (accepted_by rule req sess a (read_of seen sess request a grant)) a old result new) same
    (subst (λ (r : Read). IsCarriedOut (accepted_by rule req sess asks r) asks old result new) is carried))

pub accept_wanting : (script : Script) (answer : Asked) (old : Working) (stop : Stopped) (refusal : NotifyRefused) → stop ≡ record { refusal = NoMemory; made = 0 } → refusal ≡ refused.Turn stop.refusal stop.made
    → old.starved ≡ false → IsCarriedOut script answer old (Err refusal) old
accept_wanting script answer old stop refusal wants is fed = rw (wants_is stop refusal wants is) (wants_carried script answer old)
