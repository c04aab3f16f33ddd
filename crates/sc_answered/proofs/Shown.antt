-- What an event makes of the states of SipSessions, by what it tells.
use Rattle.std.proofs.Common.{◌≡◌, ℕ, ◌++◌, Bool, true, false, Option, None, Some, List, [], refl, sym, subst}
use Rattle.std.specs.Prelude.{◌&&◌, cond, is_none, is_some, not}
use Rattle.std.specs.List.{find}
use Rattle.sc_value.specs.Lists.{change_first}
use Rattle.sc_value.specs.declared.ids.ReqId.{ReqId}
use Rattle.sc_value.specs.declared.ids.SessId.{SessId}
use Rattle.sc_value.specs.declared.message.Request.{Request}
use Rattle.sc_value.specs.declared.message.Response.{Response}
use Rattle.sc_terms.specs.declared.settings.Config.{Config}
use Rattle.sc_terms.specs.declared.views.RequestView.{RequestView}
use Rattle.sc_terms.specs.declared.views.SessionView.{SessionView}
use Rattle.sc_terms.specs.declared.views.State.TheVariants.{Terminated}
use Rattle.sc_terms.specs.declared.views.TimerView.{TimerView}
use Rattle.sc_terms.specs.declared.views.View.{View}
use Rattle.sc_state.specs.declared.proxy.Proxy.{Proxy}
use Rattle.sc_state.specs.declared.queue.Queued.{Queued}
use Rattle.sc_state.specs.declared.queue.Queued.TheVariants as queued
use Rattle.sc_state.specs.declared.queue.Waiting.{Waiting}
use Rattle.sc_state.specs.declared.session.Invited.{Invited}
use Rattle.sc_state.specs.declared.session.Kept.{Kept}
use Rattle.sc_state.specs.declared.session.Session.{Session}
use Rattle.sc_state.specs.declared.working.Prepared.{Prepared}
use Rattle.sc_model.specs.Dialogs.{tag_of}
use Rattle.sc_model.specs.Transactions.{is_failure}
use Rattle.sc_hosts.specs.Branches.{is_supervised}
use Rattle.sc_hosts.specs.DerivedSessions.{Derives, Handling, In, Takes, derived_session, failed_session, handled_in, is_of, is_overtaken, overtaken, overtaken_session, without_derived}
use Rattle.sc_hosts.specs.Legs.{is_low, leg_of}
use Rattle.sc_hosts.specs.Looking.{in_state, is_early, is_gone_in, is_session, request_in, same_session, session_in}
use Rattle.sc_hosts.specs.Preparing.{cancelled_proxy, cancelled_request, after_timer as fired, has_expired, kept_of, prepared_session as prepared, prepared_branch_timer, prepared_cancel, prepared_expiry, prepared_for, prepared_timer, prepared_end as terminated, timed_out}
use Rattle.sc_hosts.specs.PreparingRequests.{next_id, prepared_request, with_received_request as received, showing, showing_in, silent, prepared_for_request as taken, taken_in, too_low}
use Rattle.sc_hosts.specs.PreparingResponses.{accepts_invite, branch_placed, heard_in, is_first_success, is_watched, noted_final, session_of_response as placed, prepared_branch, prepared_own, prepared_response, with_handled_response as responded, responded_again, responded_in, settled_legs, shown_again, with_branches, with_request_again}
use Rattle.sc_hosts.specs.ViewChanges.{view_with_answer as answered, answered_in, tidy, with_response}
use Rattle.sc_walked.specs.SessionWalks.{Each}
use Rattle.sc_walked.proofs.WalkParts.{each-first, each-map, each-same}
use Rattle.sc_answered.specs.StateOf.{Overtaken, Response as Responded, Undone, meaning}
use Rattle.sc_answered.specs.Happened.{Happened, answer_to, asked_of, at_moment, came_in, by_cancel as cancelled, cancelled_in, by_response as got, got_in, got_own, by_event as heard, overtaken_by, response_in, settled_by, too_low as told_low, too_low_in, undone_by}
use Rattle.sc_answered.proofs.StateAfter.{after-responded, state_after}
use Rattle.sc_answered.proofs.Standing.{Comes, IsKept, IsSided, comes-all, comes-each, comes-more, comes-next, comes-response, comes-same, comes-then, if-comes, if-still, response-same}

pub kept : (s : SessionView) → IsKept s s
kept s = record { id = refl; state = refl }

pub sided : (s : SessionView) → IsSided s s
sided s = record { id = refl; role = refl }

-- ## Answers

response-state : (request : RequestView) (tagged : Bool) (code : ℕ) (s : SessionView)
    → (with_response request tagged code s).state ≡ state_after (meaning (Responded s.role (asked_of request) tagged code)) s.state
unfolding with_response
response-state request tagged code s = sym (after-responded s.role request tagged code s.state)

response-id : (request : RequestView) (tagged : Bool) (code : ℕ) (s : SessionView) → (with_response request tagged code s).id ≡ s.id
unfolding with_response
response-id request tagged code s = refl

-- a response to a request that a view tells
pub comes-responded : (sess : SessId) (request : RequestView) (tagged : Bool) (code : ℕ) (xs : List SessionView)
    → Comes (response_in (find (is_session sess) xs) (asked_of request) tagged code) xs (change_first (is_session sess) (with_response request tagged code) xs)
comes-responded sess request tagged code xs =
    comes-response sess (asked_of request) tagged code (with_response request tagged code) xs (response-id request tagged code) (response-state request tagged code)

-- an answer that was given
pub comes-answer : (view : View) (request : Option RequestView) (code : ℕ)
    → Comes (answer_to view request code) view.sessions (answered request code view).sessions
unfolding answer_to answered answered_in tidy
comes-answer view None code = comes-same view.sessions
comes-answer view (Some request) code = comes-responded request.sess request true code view.sessions

-- ## The SipSession of a response

handled-comes : (x : Session) (req : ReqId) (original : SessionView) (came : Option Request) (how : Handling)
    → Comes [] x.view.sessions (handled_in x req original came how).1.view.sessions
unfolding handled_in derived_session
handled-comes x req original came (In at) = comes-same x.view.sessions
handled-comes x req original came (Takes tag) =
    comes-each x.view.sessions _ (each-first IsKept x.view.sessions (is_session original.id) (λ s. record s { peer_tag = Some tag }) kept (λ s. record { id = refl; state = refl }))
handled-comes x req original came (Derives tag) = comes-more x.view.sessions (derived_session x.view original tag) refl refl

if-placed : (b : Bool) (xs : List SessionView) (y z : SessId × Session) → Comes [] xs y.1.view.sessions → Comes [] xs z.1.view.sessions
    → Comes [] xs (cond b y z).1.view.sessions
if-placed true xs y z p q = p
if-placed false xs y z p q = q

placed-comes : (x : Session) (kept : Kept) (request : RequestView) (response : Response) (original : Option SessionView)
    → Comes [] x.view.sessions (placed x kept request response original).1.view.sessions
unfolding placed
placed-comes x kept request response None = comes-same x.view.sessions
placed-comes x kept request response (Some original) =
    if-placed request.initial x.view.sessions _ (request.sess, x) (handled-comes x request.id original None _) (comes-same x.view.sessions)

branch-placed-comes : (x : Session) (proxy : Proxy) (response : Response) (original : Option SessionView)
    → Comes [] x.view.sessions (branch_placed x proxy response original).1.view.sessions
unfolding branch_placed
branch-placed-comes x proxy response None = comes-same x.view.sessions
branch-placed-comes x proxy response (Some original) =
    if-placed (is_some proxy.options) x.view.sessions _ (proxy.sess, x) (handled-comes x proxy.req original (Some proxy.request) _) (comes-same x.view.sessions)

-- ## Its other SipSessions

-- an early one of the request that is there, and another, is overtaken
over-state : (of early there other : Bool) (s : SessionView) → (of && there && other) ≡ true
    → (cond (of && early && there && other) (in_state Terminated s) s).state ≡ cond early Terminated s.state
unfolding in_state
over-state true true true true s is = refl
over-state true false true true s is = refl
over-state true early true false s is = cc
over-state true early false other s is = cc
over-state false early there other s is = cc

over-same : (of early there other : Bool) (s : SessionView) → (of && there && other) ≡ false
    → (cond (of && early && there && other) (in_state Terminated s) s).state ≡ s.state
unfolding in_state
over-same true true true true s is = cc
over-same true true true false s is = refl
over-same true true false other s is = refl
over-same true false there other s is = refl
over-same false early there other s is = refl

if-id : (b : Bool) (s : SessionView) → (cond b (in_state Terminated s) s).id ≡ s.id
unfolding in_state
if-id true s = refl
if-id false s = refl

if-sided : (b : Bool) (s : SessionView) → IsSided s (cond b (in_state Terminated s) s)
unfolding in_state
if-sided true s = record { id = refl; role = refl }
if-sided false s = record { id = refl; role = refl }

if-ended : (b : Bool) (s : SessionView) → b ≡ true → (cond b (in_state Terminated s) s).state ≡ Terminated
unfolding in_state
if-ended true s is = refl
if-ended false s is = cc

if-not : (b : Bool) (s : SessionView) → b ≡ false → (cond b (in_state Terminated s) s).state ≡ s.state
unfolding in_state
if-not true s is = cc
if-not false s is = refl

overtaken-comes : (x : Session) (req : ReqId) (sess : SessId) → Comes (overtaken_by req sess x) x.view.sessions (overtaken req sess x).view.sessions
unfolding overtaken_by overtaken overtaken_session is_overtaken state_after meaning
overtaken-comes x req sess =
    comes-all (λ s. is_of x.known req s && not s.gone && not (same_session s.id sess)) (λ s. Overtaken) (overtaken_session x.known req sess) (λ s. if-id _ s)
    (λ s is. over-state (is_of x.known req s) (is_early s.state) (not s.gone) (not (same_session s.id sess)) s is)
    (λ s is. over-same (is_of x.known req s) (is_early s.state) (not s.gone) (not (same_session s.id sess)) s is) x.view.sessions

undone-comes : (x : Session) (req : ReqId) (original : SessId) → Comes (undone_by req original x) x.view.sessions (without_derived req original x).view.sessions
unfolding undone_by without_derived failed_session state_after meaning
undone-comes x req original =
    comes-all (λ s. is_of x.known req s && not (same_session s.id original)) (λ s. Undone) (failed_session x.known req original) (λ s. if-id _ s)
    (λ s is. if-ended (is_of x.known req s && not (same_session s.id original)) s is)
    (λ s is. if-not (is_of x.known req s && not (same_session s.id original)) s is) x.view.sessions

settled-comes : (request : RequestView) (sess : SessId) (response : Response) (x : Session)
    → Comes (settled_by request sess response x) x.view.sessions (settled_legs request sess response x).view.sessions
unfolding settled_by settled_legs
settled-comes request sess response x =
    let undone = without_derived request.id request.sess x in
    if-comes (λ (y : Session). y.view.sessions) (is_first_success request response) x.view.sessions (overtaken_by request.id sess x)
    (cond (request.initial && is_failure response.code) (undone_by request.id request.sess x) []) (overtaken request.id sess x)
    (cond (request.initial && is_failure response.code) undone x) (overtaken-comes x request.id sess)
    (if-comes (λ (y : Session). y.view.sessions) (request.initial && is_failure response.code) x.view.sessions (undone_by request.id request.sess x) [] undone x (undone-comes x request.id request.sess) (comes-same x.view.sessions))

if-each : (b : Bool) (xs : List SessionView) (y z : Session) → Each IsSided xs y.view.sessions → Each IsSided xs z.view.sessions
    → Each IsSided xs (cond b y z).view.sessions
if-each true xs y z p q = p
if-each false xs y z p q = q

settled-sided : (request : RequestView) (sess : SessId) (response : Response) (x : Session)
    → Each IsSided x.view.sessions (settled_legs request sess response x).view.sessions
unfolding settled_legs overtaken without_derived overtaken_session failed_session
settled-sided request sess response x =
    let over : Session = overtaken request.id sess x in
    let undone : Session = without_derived request.id request.sess x in
    if-each (is_first_success request response) x.view.sessions over (cond (request.initial && is_failure response.code) undone x)
    (each-map IsSided x.view.sessions (overtaken_session x.known request.id sess) (λ s. if-sided _ s))
    (if-each (request.initial && is_failure response.code) x.view.sessions undone x
    (each-map IsSided x.view.sessions (failed_session x.known request.id request.sess) (λ s. if-sided _ s)) (each-same IsSided x.view.sessions sided))

-- ## A response to a request of one's own

responded-comes : (kept : Kept) (request : RequestView) (response : Response) (sess : SessId) (x : Session)
    → Comes (came_in x.view sess (asked_of request) response ++ settled_by request sess response x) x.view.sessions (responded kept request response sess x).view.sessions
unfolding responded answered_in tidy
responded-comes kept request response sess x =
    let tagged = is_some (tag_of response.head.to) in
    let settled = (settled_legs request sess response x).view.sessions in
    let after = change_first (is_session sess) (with_response request tagged response.code) settled in
    comes-then (settled_by request sess response x) (came_in x.view sess (asked_of request) response) x.view.sessions settled after (settled-comes request sess response x)
    (subst (λ (new : List Happened). Comes new settled after)
    (response-same x.view.sessions settled sess (asked_of request) tagged response.code (settled-sided request sess response x))
    (comes-responded sess request tagged response.code settled))

-- the SipSessions that an event shows
abbrev pub Shows : List Happened → Session → Prepared → Type 0
Shows new x shown = Comes new x.view.sessions shown.view.sessions

abbrev shown_of : Prepared → List SessionView
shown_of shown = shown.view.sessions

noted-same : (x : Session) (req : ReqId) (code : ℕ) → (noted_final req code x).view.sessions ≡ x.view.sessions
unfolding noted_final tidy
noted-same x req code = refl

got-comes : (kept : Kept) (request : RequestView) (response : Response) (at : SessId × Session)
    → Comes (got_in request response at) at.1.view.sessions (responded_in kept request response at).view.sessions
unfolding got_in responded_in silent showing noted_final tidy
got-comes kept request response (sess, y) =
    if-comes shown_of (is_gone_in y.view sess) y.view.sessions [] (came_in y.view sess (asked_of request) response ++ settled_by request sess response y)
    (silent (noted_final kept.id response.code y) []) (showing (responded kept request response sess y) _ None []) (comes-same y.view.sessions) (responded-comes kept request response sess y)

again-comes : (kept : Kept) (request : RequestView) (response : Response) (sess : SessId) (y : Session)
    → Comes (came_in y.view sess (asked_of request) response ++ settled_by request sess response y) y.view.sessions (responded kept request response sess (with_request_again request y)).view.sessions
unfolding settled_by overtaken_by undone_by
again-comes kept request response sess y = responded-comes kept request response sess (with_request_again request y)

got-again-comes : (kept : Kept) (request : RequestView) (response : Response) (at : SessId × Session)
    → Comes (got_in request response at) at.1.view.sessions (responded_again kept request response at).view.sessions
unfolding got_in responded_again silent showing
got-again-comes kept request response (sess, y) =
    if-comes shown_of (is_gone_in y.view sess) y.view.sessions [] (came_in y.view sess (asked_of request) response ++ settled_by request sess response y)
    (silent y []) (showing (responded kept request response sess (with_request_again request y)) _ None []) (comes-same y.view.sessions) (again-comes kept request response sess y)

own-comes : (x : Session) (kept : Kept) (response : Response) (found : Option RequestView)
    → Shows (got_own x kept response found) x (prepared_own x kept response found)
unfolding got_own prepared_own silent
own-comes x kept response None =
    let request : RequestView = shown_again x.known kept response.code in
    let at : SessId × Session = placed x kept request response (session_in x.view kept.sess) in
    if-comes shown_of (accepts_invite kept response) x.view.sessions (got_in request response at) [] (responded_again kept request response at) (silent x [])
    (comes-next (got_in request response at) x.view.sessions at.1.view.sessions (responded_again kept request response at).view.sessions (placed-comes x kept request response _) (got-again-comes kept request response at))
    (comes-same x.view.sessions)
own-comes x kept response (Some request) =
    let at : SessId × Session = placed x kept request response (session_in x.view request.sess) in
    comes-next (got_in request response at) x.view.sessions at.1.view.sessions (responded_in kept request response at).view.sessions (placed-comes x kept request response _) (got-comes kept request response at)

-- ## A response on a branch

heard-in-comes : (x : Session) (proxy : Proxy) (branch : ℕ) (response : Response) (at : SessId × Session)
    → Comes [] x.view.sessions at.1.view.sessions → Shows [] x (heard_in proxy branch response at)
unfolding heard_in with_branches showing_in silent
heard-in-comes x proxy branch response (sess, y) p = if-still shown_of (is_watched y.known proxy) x.view.sessions _ _ p p

branch-comes : (x : Session) (proxy : Proxy) (branch : ℕ) (response : Response) → Shows [] x (prepared_branch x proxy branch response)
unfolding prepared_branch silent
branch-comes x proxy branch response =
    if-still shown_of _ x.view.sessions (silent x []) (heard_in proxy branch response (branch_placed x proxy response (session_in x.view proxy.sess))) (comes-same x.view.sessions)
    (heard-in-comes x proxy branch response _ (branch-placed-comes x proxy response (session_in x.view proxy.sess)))

response-comes : (x : Session) (branch : ℕ) (response : Response) (kept : Option Kept) (proxy : Option Proxy)
    → Shows (got x response kept) x (prepared_response x branch response kept proxy)
unfolding got prepared_response silent
response-comes x branch response (Some kept) proxy = own-comes x kept response (request_in x.view kept.id)
response-comes x branch response None (Some proxy) = branch-comes x proxy branch response
response-comes x branch response None None = comes-same x.view.sessions

-- ## A later request

received-same : (x : Session) (number : ℕ) (sess : SessId) (initial passed : Bool) (request : Request)
    → (received x number sess initial passed request).view.sessions ≡ x.view.sessions
unfolding received
received-same x number sess initial passed request = refl

low-comes : (x : Session) (number : ℕ) (sess : SessId) (request : Request)
    → Shows (answer_to (received x number sess false false request).view (request_in (received x number sess false false request).view (next_id x)) 500) x (too_low x number sess request)
unfolding too_low silent received
low-comes x number sess request =
    comes-answer (received x number sess false false request).view (request_in (received x number sess false false request).view (next_id x)) 500

taken-comes : (x : Session) (number : ℕ) (found : SessionView) (request : Request) → Shows [] x (taken x number found request)
unfolding taken showing received
taken-comes x number found request = comes-same x.view.sessions

taken-in-comes : (x : Session) (number : ℕ) (sess : SessId) (found : Option SessionView) (request : Request)
    → Shows (too_low_in x number sess found request) x (taken_in x number sess found request)
unfolding too_low_in taken_in silent
taken-in-comes x number sess None request = comes-same x.view.sessions
taken-in-comes x number sess (Some found) request =
    if-comes shown_of (is_low (leg_of x.known sess) request) x.view.sessions _ [] (too_low x number sess request) (taken x number found request) (low-comes x number sess request) (taken-comes x number found request)

request-comes : (x : Session) (number : ℕ) (request : Request) (sess : Option SessId)
    → Shows (told_low x number request sess) x (prepared_request x number request sess)
unfolding told_low prepared_request silent
request-comes x number request None = comes-same x.view.sessions
request-comes x number request (Some sess) = taken-in-comes x number sess (session_in x.view sess) request

-- ## CANCEL

cancelled-proxy-comes : (x : Session) (invited : Invited) (proxy : Option Proxy) → Shows [] x (cancelled_proxy x invited proxy)
unfolding cancelled_proxy showing_in silent
cancelled-proxy-comes x invited None = comes-same x.view.sessions
cancelled-proxy-comes x invited (Some proxy) = if-still shown_of (is_supervised proxy) x.view.sessions _ _ (comes-same x.view.sessions) (comes-same x.view.sessions)

cancelled-comes : (x : Session) (invited : Invited) (kept : Option Kept) (request : Option RequestView) → kept_of x.known invited.req ≡ kept
    → Shows (cancelled_in x kept request) x (cancelled_request x invited request)
unfolding cancelled_in cancelled_request terminated showing_in
cancelled-comes x invited None None is = comes-same x.view.sessions
cancelled-comes x invited (Some kept) None is = comes-same x.view.sessions
cancelled-comes x invited None (Some request) is =
    if-still shown_of request.proxied x.view.sessions _ _ (cancelled-proxy-comes x invited _)
    (if-still shown_of (is_none request.answered) x.view.sessions (terminated x invited request (kept_of x.known invited.req)) _ (rw is (comes-same x.view.sessions)) (comes-same x.view.sessions))
cancelled-comes x invited (Some kept) (Some request) is =
    if-comes shown_of request.proxied x.view.sessions [] (cond (is_none request.answered) (answer_to x.view (Some request) 487) []) _ _ (cancelled-proxy-comes x invited _)
    (if-comes shown_of (is_none request.answered) x.view.sessions (answer_to x.view (Some request) 487) [] (terminated x invited request (kept_of x.known invited.req)) _ (rw is (comes-answer x.view (Some request) 487)) (comes-same x.view.sessions))

cancel-comes : (x : Session) (invited : Option Invited) → Shows (cancelled x invited) x (prepared_cancel x invited)
unfolding cancelled prepared_cancel silent
cancel-comes x None = comes-same x.view.sessions
cancel-comes x (Some invited) = cancelled-comes x invited (kept_of x.known invited.req) (request_in x.view invited.req) refl

-- ## Timers

fired-comes : (x : Session) (timer : TimerView) (due : Option ℕ) → Comes [] x.view.sessions (fired x.view timer due).sessions
unfolding fired
fired-comes x timer None = comes-same x.view.sessions
fired-comes x timer (Some due) = comes-same x.view.sessions

timer-comes : (x : Session) (timer : Option TimerView) → Shows [] x (prepared_timer x timer)
unfolding prepared_timer showing silent
timer-comes x None = comes-same x.view.sessions
timer-comes x (Some timer) = fired-comes x timer _

expiry-comes : (x : Session) → Shows [] x (prepared_expiry x)
unfolding prepared_expiry showing silent
expiry-comes x = if-still shown_of (has_expired x.view) x.view.sessions _ _ (comes-same x.view.sessions) (comes-same x.view.sessions)

timed-comes : (config : Config) (x : Session) (proxy : Proxy) (branch : ℕ) (provisional : Bool)
    → Comes [] x.view.sessions (timed_out config x proxy branch provisional).view.sessions
unfolding timed_out
timed-comes config x proxy branch provisional = if-still (λ (y : Session). y.view.sessions) _ x.view.sessions _ _ (comes-same x.view.sessions) (comes-same x.view.sessions)

branch-timer-comes : (config : Config) (ringing : List ℕ) (x : Session) (branch due : ℕ) (proxy : Option Proxy)
    → Shows [] x (prepared_branch_timer config ringing x branch due proxy)
unfolding prepared_branch_timer silent
branch-timer-comes config ringing x branch due None = comes-same x.view.sessions
branch-timer-comes config ringing x branch due (Some proxy) =
    if-still shown_of _ x.view.sessions _ _ (timed-comes config x proxy branch _) (comes-same x.view.sessions)

-- ## Each event

for-comes : (config : Config) (ringing : List ℕ) (x : Session) (number : ℕ) (event : Queued)
    → Shows (heard x number event) x (prepared_for config ringing x number event)
unfolding heard prepared_for showing received
for-comes config ringing x number (queued.Initial region subscriber popped request) = comes-same x.view.sessions
for-comes config ringing x number (queued.Request request) = request-comes x number request _
for-comes config ringing x number (queued.Response branch response) = response-comes x branch response _ _
for-comes config ringing x number (queued.Cancelled of) = cancel-comes x _
for-comes config ringing x number (queued.Timer id) = timer-comes x _
for-comes config ringing x number (queued.BranchTimer branch due) = branch-timer-comes config ringing x branch due _
for-comes config ringing x number queued.Expired = expiry-comes x
for-comes config ringing x number queued.Ready = comes-same x.view.sessions

pub shown-comes : (config : Config) (ringing : List ℕ) (x : Session) (waiting : Waiting) (now : ℕ)
    → Shows (heard (at_moment now x) waiting.number waiting.event) x (prepared config ringing x waiting now)
unfolding prepared
shown-comes config ringing x waiting now = for-comes config ringing (at_moment now x) waiting.number waiting.event
