-- What a turn shows has the attributes that the session had, and the moment of the turn.
use Rattle.std.proofs.Common.{◌≡◌, ℕ, Bool, true, false, Option, None, Some, List, [], refl}
use Rattle.std.specs.Prelude.{◌==◌, ◌&&◌, cond, is_none, is_some, not}
use Rattle.std.specs.List.{list_any}
use Rattle.sc_value.specs.declared.ids.ReqId.{ReqId}
use Rattle.sc_value.specs.declared.ids.SessId.{SessId}
use Rattle.sc_value.specs.declared.message.Request.{Request}
use Rattle.sc_value.specs.declared.message.Response.{Response}
use Rattle.sc_terms.specs.declared.events.Event.TheVariants as events
use Rattle.sc_terms.specs.declared.settings.Config.{Config}
use Rattle.sc_terms.specs.declared.views.RequestView.{RequestView}
use Rattle.sc_terms.specs.declared.views.SessionView.{SessionView}
use Rattle.sc_terms.specs.declared.views.TimerView.{TimerView}
use Rattle.sc_terms.specs.declared.views.View.{View}
use Rattle.sc_state.specs.declared.proxy.Proxy.{Proxy}
use Rattle.sc_state.specs.declared.queue.Queued.{Queued}
use Rattle.sc_state.specs.declared.queue.Queued.TheVariants as queued
use Rattle.sc_state.specs.declared.queue.Waiting.{Waiting}
use Rattle.sc_state.specs.declared.session.Invited.{Invited}
use Rattle.sc_state.specs.declared.session.Kept.{Kept}
use Rattle.sc_state.specs.declared.session.Session.{Session}
use Rattle.sc_state.specs.declared.working.Prepared.{Prepared}
use Rattle.sc_model.specs.Names.{edge_tag}
use Rattle.sc_model.specs.Transactions.{is_failure}
use Rattle.sc_hosts.specs.Branches.{ended_by, proxy_after_response as heard, is_invite, is_supervised, is_timed_out, without_search as stopped, to_cancel}
use Rattle.sc_hosts.specs.DerivedSessions.{Derives, Handling, In, Takes, handled_in, handling, overtaken, without_derived}
use Rattle.sc_hosts.specs.Legs.{change_leg, is_low, leg_of, with_answer}
use Rattle.sc_hosts.specs.Looking.{is_gone_in, request_in, session_in}
use Rattle.sc_hosts.specs.Messages.{own_response}
use Rattle.sc_hosts.specs.Preparing.{cancelled_proxy, cancelled_request, after_timer as fired, has_expired, kept_of, prepared_session as prepared, prepared_branch_timer, prepared_cancel, prepared_expiry, prepared_for, prepared_timer, proxy_of, next_firing as renewed, prepared_end as terminated, timed_out}
use Rattle.sc_hosts.specs.PreparingRequests.{next_id, prepared_request, with_received_request as received, showing, showing_in, silent, prepared_for_request as taken, taken_in, too_low}
use Rattle.sc_hosts.specs.PreparingResponses.{accepts_invite, branch_placed, change_proxy, heard_in, is_first_success, is_invalid, is_watched, noted_final, session_of_response as placed, prepared_branch, prepared_own, prepared_response, with_handled_response as responded, responded_again, responded_in, settled_legs, shown_again, event_of_response as told, with_branches, with_request_again}
use Rattle.sc_hosts.specs.ViewChanges.{view_with_answer as answered, answered_in, tidy}
use Rattle.sc_hosts.specs.Words.{request_timeout}
use Rattle.sc_remembered.proofs.Parts.{IsAside, answered-aside, if-aside, then-aside}

abbrev view-of : Prepared → View
view-of shown = shown.view

-- ## Requests

received-kept : (x : Session) (number : ℕ) (sess : SessId) (initial passed : Bool) (request : Request) → IsAside x.view (received x number sess initial passed request).view
unfolding received
received-kept x number sess initial passed request = (refl, refl)

too_low-kept : (x : Session) (number : ℕ) (sess : SessId) (request : Request) → IsAside x.view (too_low x number sess request).view
unfolding too_low silent
too_low-kept x number sess request =
    let came : View = (received x number sess false false request).view in
    let found : Option RequestView = request_in came (next_id x) in
    then-aside x.view came (answered found 500 came) (received-kept x number sess false false request) (answered-aside found 500 came)

taken-kept : (x : Session) (number : ℕ) (found : SessionView) (request : Request) → IsAside x.view (taken x number found request).view
unfolding taken showing
taken-kept x number found request = received-kept x number found.id false _ request

taken_in-kept : (x : Session) (number : ℕ) (sess : SessId) (found : Option SessionView) (request : Request) → IsAside x.view (taken_in x number sess found request).view
unfolding taken_in silent
taken_in-kept x number sess None request = (refl, refl)
taken_in-kept x number sess (Some found) request =
    if-aside view-of (is_low (leg_of x.known sess) request) (too_low x number sess request) (taken x number found request) x.view (too_low-kept x number sess request) (taken-kept x number found request)

request-kept : (x : Session) (number : ℕ) (request : Request) (sess : Option SessId) → IsAside x.view (prepared_request x number request sess).view
unfolding prepared_request silent
request-kept x number request None = (refl, refl)
request-kept x number request (Some sess) = taken_in-kept x number sess _ request

-- ## Responses

handled-kept : (x : Session) (req : ReqId) (original : SessionView) (came : Option Request) (how : Handling)
    → IsAside x.view (handled_in x req original came how).1.view
unfolding handled_in
handled-kept x req original came (In at) = (refl, refl)
handled-kept x req original came (Takes tag) = (refl, refl)
handled-kept x req original came (Derives tag) = (refl, refl)

branch-kept : (x : Session) (proxy : Proxy) (response : Response) (original : Option SessionView) → IsAside x.view (branch_placed x proxy response original).1.view
unfolding branch_placed
branch-kept x proxy response None = (refl, refl)
branch-kept x proxy response (Some original) =
    if-aside (λ (at : SessId × Session). at.1.view) (is_some proxy.options) (handled_in x proxy.req original (Some proxy.request) (handling x proxy.req original proxy.request response)) (proxy.sess, x) x.view
    (handled-kept x proxy.req original (Some proxy.request) (handling x proxy.req original proxy.request response)) (refl, refl)

placed-kept : (x : Session) (kept : Kept) (request : RequestView) (response : Response) (original : Option SessionView)
    → IsAside x.view (placed x kept request response original).1.view
unfolding placed
placed-kept x kept request response None = (refl, refl)
placed-kept x kept request response (Some original) =
    if-aside (λ (at : SessId × Session). at.1.view) request.initial (handled_in x request.id original None (handling x request.id original kept.request response)) (request.sess, x) x.view
    (handled-kept x request.id original None (handling x request.id original kept.request response)) (refl, refl)

legs-kept : (request : RequestView) (sess : SessId) (response : Response) (x : Session) → IsAside x.view (settled_legs request sess response x).view
unfolding settled_legs overtaken without_derived
legs-kept request sess response x =
    if-aside (λ (s : Session). s.view) (is_first_success request response) (overtaken request.id sess x) (cond (request.initial && is_failure response.code) (without_derived request.id request.sess x) x) x.view (refl, refl)
    (if-aside (λ (s : Session). s.view) (request.initial && is_failure response.code) (without_derived request.id request.sess x) x x.view (refl, refl) (refl, refl))

responded-kept : (kept : Kept) (request : RequestView) (response : Response) (sess : SessId) (x : Session) → IsAside x.view (responded kept request response sess x).view
unfolding responded tidy answered_in
responded-kept kept request response sess x = legs-kept request sess response x

responded_in-kept : (x : Session) (kept : Kept) (request : RequestView) (response : Response) (at : SessId × Session) → IsAside x.view at.1.view
    → IsAside x.view (responded_in kept request response at).view
unfolding responded_in silent showing noted_final tidy
responded_in-kept x kept request response (sess, y) same =
    if-aside view-of (is_gone_in y.view sess) (silent (noted_final kept.id response.code y) []) (showing (responded kept request response sess y) (events.Response kept.id sess response) None []) x.view same
    (then-aside x.view y.view (responded kept request response sess y).view same (responded-kept kept request response sess y))

responded_again-kept : (x : Session) (kept : Kept) (request : RequestView) (response : Response) (at : SessId × Session) → IsAside x.view at.1.view
    → IsAside x.view (responded_again kept request response at).view
unfolding responded_again silent showing
responded_again-kept x kept request response (sess, y) same =
    if-aside view-of (is_gone_in y.view sess) (silent y []) (showing (responded kept request response sess (with_request_again request y)) (events.Response kept.id sess response) None []) x.view same
    (then-aside x.view y.view (responded kept request response sess (with_request_again request y)).view same
    (responded-kept kept request response sess (with_request_again request y)))

own-kept : (x : Session) (kept : Kept) (response : Response) (found : Option RequestView) → IsAside x.view (prepared_own x kept response found).view
unfolding prepared_own silent
own-kept x kept response None =
    let request : RequestView = shown_again x.known kept response.code in
    let at : SessId × Session = placed x kept request response (session_in x.view kept.sess) in
    if-aside view-of (accepts_invite kept response) (responded_again kept request response at) (silent x []) x.view
    (responded_again-kept x kept request response at (placed-kept x kept request response (session_in x.view kept.sess))) (refl, refl)
own-kept x kept response (Some request) =
    responded_in-kept x kept request response (placed x kept request response (session_in x.view request.sess)) (placed-kept x kept request response (session_in x.view request.sess))

heard-kept : (x : Session) (proxy : Proxy) (branch : ℕ) (response : Response) (at : SessId × Session) → IsAside x.view at.1.view → IsAside x.view (heard_in proxy branch response at).view
unfolding heard_in showing_in silent with_branches
heard-kept x proxy branch response (sess, y) same =
    let after : Session = record {
      view = with_branches proxy response y.view;
      known = change_proxy proxy.req (heard branch sess response y.view.now) (change_leg sess (with_answer proxy.request response) y.known);
    } in
    if-aside view-of (is_watched y.known proxy) (showing_in after sess (told proxy branch response sess) None []) (silent after []) x.view same same

prepared_branch-kept : (x : Session) (proxy : Proxy) (branch : ℕ) (response : Response) → IsAside x.view (prepared_branch x proxy branch response).view
unfolding prepared_branch silent
prepared_branch-kept x proxy branch response =
    let at : SessId × Session = branch_placed x proxy response (session_in x.view proxy.sess) in
    if-aside view-of (is_invalid x.known proxy.sess) (silent x []) (heard_in proxy branch response at) x.view (refl, refl)
    (heard-kept x proxy branch response at (branch-kept x proxy response (session_in x.view proxy.sess)))

response-kept : (x : Session) (branch : ℕ) (response : Response) (kept : Option Kept) (proxy : Option Proxy) → IsAside x.view (prepared_response x branch response kept proxy).view
unfolding prepared_response silent
response-kept x branch response (Some kept) proxy = own-kept x kept response _
response-kept x branch response None (Some proxy) = prepared_branch-kept x proxy branch response
response-kept x branch response None None = (refl, refl)

-- ## CANCEL and timers

terminated-kept : (x : Session) (invited : Invited) (request : RequestView) (kept : Option Kept) → IsAside x.view (terminated x invited request kept).view
unfolding terminated showing_in
terminated-kept x invited request None = (refl, refl)
terminated-kept x invited request (Some kept) = answered-aside (Some request) 487 x.view

cancelled_proxy-kept : (x : Session) (invited : Invited) (proxy : Option Proxy) → IsAside x.view (cancelled_proxy x invited proxy).view
unfolding cancelled_proxy showing_in silent
cancelled_proxy-kept x invited None = (refl, refl)
cancelled_proxy-kept x invited (Some proxy) =
    let after : Session = record x { known = change_proxy proxy.req stopped x.known } in
    if-aside view-of (is_supervised proxy) (showing_in after invited.sess (events.Cancelled invited.req invited.sess) (Some invited.req) []) (silent after []) x.view (refl, refl) (refl, refl)

cancelled_request-kept : (x : Session) (invited : Invited) (request : Option RequestView) → IsAside x.view (cancelled_request x invited request).view
unfolding cancelled_request showing_in
cancelled_request-kept x invited None = (refl, refl)
cancelled_request-kept x invited (Some request) =
    let shown : Prepared = showing_in x invited.sess (events.Cancelled invited.req invited.sess) (Some invited.req) [] in
    let ended : Prepared = terminated x invited request (kept_of x.known invited.req) in
    if-aside view-of request.proxied (cancelled_proxy x invited (proxy_of x.known invited.req)) (cond (is_none request.answered) ended shown) x.view (cancelled_proxy-kept x invited (proxy_of x.known invited.req))
    (if-aside view-of (is_none request.answered) ended shown x.view (terminated-kept x invited request (kept_of x.known invited.req)) (refl, refl))

cancel-kept : (x : Session) (invited : Option Invited) → IsAside x.view (prepared_cancel x invited).view
unfolding prepared_cancel silent
cancel-kept x None = (refl, refl)
cancel-kept x (Some invited) = cancelled_request-kept x invited _

fired-kept : (x : Session) (timer : TimerView) (due : Option ℕ) → IsAside x.view (fired x.view timer due)
unfolding fired
fired-kept x timer None = (refl, refl)
fired-kept x timer (Some due) = (refl, refl)

timer-kept : (x : Session) (timer : Option TimerView) → IsAside x.view (prepared_timer x timer).view
unfolding prepared_timer showing silent
timer-kept x None = (refl, refl)
timer-kept x (Some timer) = fired-kept x timer (renewed x.view.now timer)

expiry-kept : (x : Session) → IsAside x.view (prepared_expiry x).view
unfolding prepared_expiry showing silent
expiry-kept x = if-aside view-of (has_expired x.view) (showing x events.Expired None []) (silent x []) x.view (refl, refl) (refl, refl)

timed_out-kept : (config : Config) (x : Session) (proxy : Proxy) (branch : ℕ) (provisional : Bool) → IsAside x.view (timed_out config x proxy branch provisional).view
unfolding timed_out
timed_out-kept config x proxy branch provisional =
    if-aside (λ (s : Session). s.view) (is_invite proxy && provisional) (record x { known = change_proxy proxy.req (to_cancel branch) x.known })
    (record x { known = change_proxy proxy.req (ended_by branch proxy.sess (own_response (edge_tag config.salt) 408 request_timeout proxy.request)) x.known }) x.view (refl, refl) (refl, refl)

branch_timer-kept : (config : Config) (ringing : List ℕ) (x : Session) (branch due : ℕ) (proxy : Option Proxy) → IsAside x.view (prepared_branch_timer config ringing x branch due proxy).view
unfolding prepared_branch_timer silent
branch_timer-kept config ringing x branch due None = (refl, refl)
branch_timer-kept config ringing x branch due (Some proxy) =
    if-aside view-of (is_timed_out branch due proxy && not (is_invalid x.known proxy.sess)) (silent (timed_out config x proxy branch (list_any (λ k. k == branch) ringing)) []) (silent x []) x.view
    (timed_out-kept config x proxy branch (list_any (λ k. k == branch) ringing)) (refl, refl)

-- ## Each event

event-kept : (config : Config) (ringing : List ℕ) (x : Session) (number : ℕ) (event : Queued) → IsAside x.view (prepared_for config ringing x number event).view
unfolding prepared_for showing
event-kept config ringing x number (queued.Initial region subscriber popped request) = received-kept x number _ true false request
event-kept config ringing x number (queued.Request request) = request-kept x number request _
event-kept config ringing x number (queued.Response branch response) = response-kept x branch response _ _
event-kept config ringing x number (queued.Cancelled of) = cancel-kept x _
event-kept config ringing x number (queued.Timer id) = timer-kept x _
event-kept config ringing x number (queued.BranchTimer branch due) = branch_timer-kept config ringing x branch due _
event-kept config ringing x number queued.Expired = expiry-kept x
event-kept config ringing x number queued.Ready = (refl, refl)

pub shown-kept : (config : Config) (ringing : List ℕ) (x : Session) (waiting : Waiting) (now : ℕ) → (prepared config ringing x waiting now).view.attributes ≡ x.view.attributes
unfolding prepared
shown-kept config ringing x waiting now = (event-kept config ringing (record x { view = record x.view { now = now } }) waiting.number waiting.event).1

pub shown-now : (config : Config) (ringing : List ℕ) (x : Session) (waiting : Waiting) (now : ℕ) → (prepared config ringing x waiting now).view.now ≡ now
unfolding prepared
shown-now config ringing x waiting now = (event-kept config ringing (record x { view = record x.view { now = now } }) waiting.number waiting.event).0
