-- Each turn of an application that gives provisional responses reliably plays one act, or leaves the attributes.
use Rattle.std.proofs.Common.{◌≡◌, ◌⊎◌, inl, inr, ℕ, Bool, true, false, Option, None, Some, [], refl, sym, ◌∙◌}
use Rattle.std.specs.Prelude.{◌&&◌, codes, cond, option_and_then, option_map, slice_get}
use Rattle.std.specs.List.{find, fold}
use Rattle.sc_tokens.specs.Names.{same_bytes}
use Rattle.sc_value.specs.declared.ids.ReqId.{ReqId}
use Rattle.sc_value.specs.declared.ids.SessId.{SessId}
use Rattle.sc_value.specs.declared.ids.TimerId.{TimerId}
use Rattle.sc_value.specs.declared.message.Request.{Request}
use Rattle.sc_tokens.specs.Bytes.{Bytes}
use Rattle.sc_terms.specs.declared.calls.Call.TheVariants as calls
use Rattle.sc_terms.specs.declared.events.Event.{Event}
use Rattle.sc_terms.specs.declared.events.Event.TheVariants as events
use Rattle.sc_terms.specs.declared.views.RequestView.{RequestView}
use Rattle.sc_terms.specs.declared.views.TimerView.{TimerView}
use Rattle.sc_terms.specs.declared.views.View.{View}
use Rattle.sc_state.specs.declared.working.Play.{Play}
use Rattle.sc_model.specs.SessionStates.{ack, invite}
use Rattle.sc_hosts.specs.Charters.{reply_ok}
use Rattle.sc_hosts.specs.Effects.{after_calls, after_listed, answer_of, first_play as begun}
use Rattle.sc_hosts.specs.HelperParts.{cancel_first_timer, lists_option, strict_number}
use Rattle.sc_hosts.specs.Offers.{after_word, early_script, first_offer, is_invite_of, late_offer, rel_option, session_progress, take_prack}
use Rattle.sc_hosts.specs.Scripting.{Done, Make, Script, only, calls_of_script as played, played_from, reply, then_make, where_some}
use Rattle.sc_hosts.specs.Words.{does_not_exist, ok, prack, ringing}
use Rattle.sc_promised.specs.Reliable.{Act, Fresh, Late, Offers, Pracks, offer_script, play_after, remembered_at, script_of}
use Rattle.sc_promised.proofs.Attributes.{responded-attributes, cancelled-attributes}
use Rattle.sc_promised.proofs.Waiting.{first-is}
use Rattle.sc_remembered.specs.Early.{IsOneAct, IsUnknown, act_of}

-- ## The calls of a script

played-play : (script : Script) (play : Play) → fold (λ play made. after_listed play made.call) play (played_from play script) ≡ play_after play script
unfolding played_from play_after
played-play Done play = refl
played-play (Make call next) play = played-play (next (answer_of play call)) (after_listed play call)

pub played-is : (view : View) (script : Script) → after_calls view (played view script) ≡ play_after (begun view) script
unfolding after_calls
played-is view script = played-play script (begun view)

-- ## Scripts that leave the attributes

abbrev pub Leaves : View → Script → Type 0
Leaves view script = (play_after (begun view) script).view.attributes ≡ view.attributes

begun-attributes : (view : View) → (begun view).view.attributes ≡ view.attributes
unfolding begun
begun-attributes view = refl

pub done-leaves : (view : View) → Leaves view Done
unfolding play_after begun
done-leaves view = refl

pub replied-leaves : (view : View) (req : ReqId) (code : ℕ) (reason : Bytes) → Leaves view (only (reply req code reason))
unfolding play_after only reply
replied-leaves view req code reason = responded-attributes (begun view) req _ ∙ begun-attributes view

twice-leaves : (view : View) (req : ReqId) (code next-code : ℕ) (reason next-reason : Bytes) → Leaves view (then_make (reply req code reason) (only (reply req next-code next-reason)))
unfolding play_after then_make only reply
twice-leaves view req code next-code reason next-reason = responded-attributes (after_listed (begun view) _) req _ ∙ responded-attributes (begun view) req _ ∙ begun-attributes view

cancelled-leaves : (view : View) (found : Option TimerView) → Leaves view (where_some found (λ timer. only (calls.CancelTimer timer.id)))
unfolding play_after where_some only begun
cancelled-leaves view None = refl
cancelled-leaves view (Some timer) = cancelled-attributes (begun view) timer.id

if-leaves : (view : View) (b : Bool) (x y : Script) → Leaves view x → Leaves view y → Leaves view (cond b x y)
if-leaves view true x y p q = p
if-leaves view false x y p q = q

pub ok-leaves : (view : View) (req : ReqId) (request : Request) → Leaves view (reply_ok req request)
unfolding reply_ok
ok-leaves view req request = if-leaves view (same_bytes request.method ack) Done (only (reply req 200 ok)) (done-leaves view) (replied-leaves view req 200 ok)

-- ## Each event

offer-is : (view : View) (req : ReqId) (request : Request) → lists_option rel_option request ≡ true → remembered_at view req.0 ≡ Fresh
    → first_offer req request ≡ script_of view (Offers req request 183 session_progress [])
unfolding script_of offer_script
offer-is view req request is fresh = sym (rw (is, fresh) (first-is req request))

-- by the tests of an initial request
first-act : (view : View) (req : ReqId) (request : Request) (b c : Bool) → same_bytes request.method invite ≡ b → lists_option rel_option request ≡ c → remembered_at view req.0 ≡ Fresh
    → ((play_after (begun view) (cond b (cond c (first_offer req request) (then_make (reply req 180 ringing) (only (reply req 200 ok)))) (only (reply req 200 ok)))).view.attributes ≡ view.attributes)
    ⊎ ((act : Act) × (cond (b && c) (Some (Offers req request 183 session_progress [])) None ≡ Some act)
    × (cond b (cond c (first_offer req request) (then_make (reply req 180 ringing) (only (reply req 200 ok)))) (only (reply req 200 ok)) ≡ script_of view act))
first-act view req request true true i l fresh = inr (Offers req request 183 session_progress [], refl, offer-is view req request l fresh)
first-act view req request true false i l fresh = inl (twice-leaves view req 180 200 ringing ok)
first-act view req request false c i l fresh = inl (replied-leaves view req 200 ok)

-- a PRACK, by the INVITE that it is for
pracks-act : (view : View) (req : ReqId) (sess : SessId) (request : Request) (found : Option RequestView) → find (is_invite_of sess) view.requests ≡ found
    → ((play_after (begun view) (take_prack view req sess request)).view.attributes ≡ view.attributes)
    ⊎ ((act : Act) × (option_map (λ (invited : RequestView). Pracks invited.id req request) found ≡ Some act) × (take_prack view req sess request ≡ script_of view act))
unfolding take_prack script_of
pracks-act view req sess request None is = inl (rw (is, take_prack) (replied-leaves view req 481 does_not_exist))
pracks-act view req sess request (Some invited) is = inr (Pracks invited.id req request, refl, rw (is, take_prack) refl)

request-act : (view : View) (req : ReqId) (sess : SessId) (request : Request) (b : Bool)
    → ((play_after (begun view) (cond b (take_prack view req sess request) (reply_ok req request))).view.attributes ≡ view.attributes)
    ⊎ ((act : Act) × (cond b (option_map (λ (invited : RequestView). Pracks invited.id req request) (find (is_invite_of sess) view.requests)) None ≡ Some act)
    × (cond b (take_prack view req sess request) (reply_ok req request) ≡ script_of view act))
request-act view req sess request true = pracks-act view req sess request (find (is_invite_of sess) view.requests) refl
request-act view req sess request false = inl (ok-leaves view req request)

late-act : (view : View) (id : TimerId) (found : Option ℕ)
    → ((play_after (begun view) (where_some found (λ n. late_offer view n id))).view.attributes ≡ view.attributes)
    ⊎ ((act : Act) × (option_map (λ (n : ℕ). Late (record { 0 = n }) id) found ≡ Some act) × (where_some found (λ n. late_offer view n id) ≡ script_of view act))
unfolding where_some script_of play_after begun
late-act view id None = inl refl
late-act view id (Some n) = inr (Late (record { 0 = n }) id, refl, refl)

pub early-acts : (view : View) (event : Event) → IsUnknown view event → IsOneAct view event (early_script view event)
unfolding early_script IsUnknown IsOneAct act_of cancel_first_timer
early-acts view (events.Initial req sess region subscriber popped request) fresh =
    first-act view req request (same_bytes request.method invite) (lists_option rel_option request) refl refl fresh
early-acts view (events.Request req sess request) fresh = request-act view req sess request (same_bytes request.method prack)
early-acts view (events.Response req sess response) fresh = inl (done-leaves view)
early-acts view (events.Branch req sess response) fresh = inl (done-leaves view)
early-acts view (events.Cancelled req sess) fresh = inl (cancelled-leaves view (slice_get view.timers 0))
early-acts view (events.Timer id info) fresh = late-act view id (option_and_then strict_number (after_word (codes "rel") info))
early-acts view events.Expired fresh = inl (done-leaves view)
early-acts view events.Ready fresh = inl (done-leaves view)
