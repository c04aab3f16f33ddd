-- The calls of event notification, where they aren't refused, are acts.
use Rattle.std.proofs.Common.{Bool, true, false, Option, None, Some, Ok, inl, inr}
use Rattle.sc_value.specs.declared.ids.ReqId.{ReqId}
use Rattle.sc_value.specs.declared.ids.SessId.{SessId}
use Rattle.sc_value.specs.declared.ids.TimerId.{TimerId}
use Rattle.sc_value.specs.declared.message.Request.{Request}
use Rattle.sc_tokens.specs.Bytes.{Bytes}
use Rattle.sc_hosts.specs.Scripting.{Script, where_some}
use Rattle.sc_hosts.specs.Subscriptions.{Rule, Subscription, changes, ended_sub, failed_sub, subscription_of}
use Rattle.sc_turn.specs.Working.{Working, play_of}
use Rattle.sc_helpers.specs.Stopping.{GoesThrough}
use Rattle.sc_helpers.proofs.Plays.{through_accepted}
use Rattle.sc_notifies.specs.Notifying.{IsByState, IsCarriedOut, IsEnded, IsFailed, IsOfPending, IsOfSubscription, IsRefusedAs, accepted_by, activates, asked_of, ends, fired_of, next_of, read_of}
use Rattle.sc_notifies.specs.States.{Accepts, Activates, Changes, Ends, Fails, Fires, IsActed, activates_by, script_of}
use Rattle.sc_notifies.specs.declared.accepting.Grant.{Grant}
use Rattle.sc_notifies.specs.declared.refused.Asked.{Asked}

of_some : {X : Type 0} (o : Option Subscription) (script : Subscription → Script) (answer given : X) (old new : Working) → IsOfSubscription o script answer old (Ok given) new → GoesThrough (where_some o script) old new
unfolding IsOfSubscription IsRefusedAs IsCarriedOut where_some
of_some None script answer given old new (inl is, same) = cc
of_some None script answer given old new (inr is, same) = cc
of_some (Some sub) script answer given old new (is, through) = through

by_state : {X : Type 0} (active : Bool) (script : Script) (answer given : X) (old new : Working) → IsByState active script answer old (Ok given) new → GoesThrough (activates_by active script) old new
unfolding IsByState IsRefusedAs IsCarriedOut activates_by
by_state true script answer given old new (inl is, same) = cc
by_state true script answer given old new (inr is, same) = cc
by_state false script answer given old new (is, through) = through

of_pending : {X : Type 0} (o : Option Subscription) (script : Subscription → Script) (answer given : X) (old new : Working) → IsOfPending o script answer old (Ok given) new
    → GoesThrough (where_some o (λ sub. activates_by sub.active (script sub))) old new
unfolding IsOfPending IsRefusedAs where_some
of_pending None script answer given old new (inl is, same) = cc
of_pending None script answer given old new (inr is, same) = cc
of_pending (Some sub) script answer given old new is = by_state sub.active (script sub) answer given old new is

of_failed : (o : Option Subscription) (script : Subscription → Script) (given : Unit {0}) (old new : Working) → IsFailed o script old (Ok given) new → GoesThrough (where_some o script) old new
unfolding IsFailed IsRefusedAs IsEnded where_some
of_failed None script given old new (inl is, same) = cc
of_failed None script given old new (inr is, same) = cc
of_failed (Some sub) script given old new through = through

pub accept_acts : (sess : SessId) (rule : Rule) (req : ReqId) (request : Request) (grant : Grant) (old new : Working) (given : Asked)
    → IsCarriedOut (accepted_by rule req sess (asked_of rule request) (read_of (play_of old).view sess request (asked_of rule request) grant)) (asked_of rule request) old (Ok given) new → IsActed sess (Accepts rule req request grant) old new
unfolding IsCarriedOut IsActed script_of
accept_acts sess rule req request grant old new given (is, through) = through_accepted _ old new through

pub change_acts : (sess : SessId) (body : Bytes) (old new : Working) (given : ReqId) → IsOfSubscription (subscription_of (play_of old).view sess) (changes (play_of old).view sess body) (next_of (play_of old).view) old (Ok given) new
    → IsActed sess (Changes body) old new
unfolding IsActed script_of
change_acts sess body old new given is = through_accepted _ old new (of_some (subscription_of (play_of old).view sess) (changes (play_of old).view sess body) (next_of (play_of old).view) given old new is)

pub activate_acts : (sess : SessId) (body : Bytes) (old new : Working) (given : ReqId) → IsOfPending (subscription_of (play_of old).view sess) (activates (play_of old).view sess body) (next_of (play_of old).view) old (Ok given) new
    → IsActed sess (Activates body) old new
unfolding IsActed script_of
activate_acts sess body old new given is = through_accepted _ old new (of_pending (subscription_of (play_of old).view sess) (activates (play_of old).view sess body) (next_of (play_of old).view) given old new is)

pub end_acts : (sess : SessId) (reason : Bytes) (old new : Working) (given : ReqId) → IsOfSubscription (subscription_of (play_of old).view sess) (ends (play_of old).view sess reason) (next_of (play_of old).view) old (Ok given) new
    → IsActed sess (Ends reason) old new
unfolding IsActed script_of
end_acts sess reason old new given is = through_accepted _ old new (of_some (subscription_of (play_of old).view sess) (ends (play_of old).view sess reason) (next_of (play_of old).view) given old new is)

pub fire_acts : (sess : SessId) (id : TimerId) (old new : Working) (answer given : Option ReqId) → IsCarriedOut (where_some (fired_of (play_of old).view id) (ended_sub (play_of old).view)) answer old (Ok given) new → IsActed sess (Fires id) old new
unfolding IsCarriedOut IsActed script_of
fire_acts sess id old new answer given (is, through) = through_accepted _ old new through

pub fail_acts : (sess : SessId) (old new : Working) (given : Unit {0}) → IsFailed (subscription_of (play_of old).view sess) (failed_sub (play_of old).view sess) old (Ok given) new → IsActed sess Fails old new
unfolding IsActed script_of
fail_acts sess old new given is = through_accepted _ old new (of_failed (subscription_of (play_of old).view sess) (failed_sub (play_of old).view sess) given old new is)
