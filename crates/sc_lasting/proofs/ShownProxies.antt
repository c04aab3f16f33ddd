-- What leaves all that a session proxies as a turn begins: a request, a response to a request of its own, a timer, expiry.
use Rattle.std.proofs.Common.{◌≡◌, ℕ, Bool, true, false, Option, None, Some, List, [], refl, ◌∙◌}
use Rattle.std.specs.Prelude.{◌&&◌, cond, is_some}
use Rattle.sc_value.specs.declared.ids.ReqId.{ReqId}
use Rattle.sc_value.specs.declared.ids.SessId.{SessId}
use Rattle.sc_value.specs.declared.message.Request.{Request}
use Rattle.sc_value.specs.declared.message.Response.{Response}
use Rattle.sc_terms.specs.declared.views.RequestView.{RequestView}
use Rattle.sc_terms.specs.declared.views.SessionView.{SessionView}
use Rattle.sc_terms.specs.declared.views.TimerView.{TimerView}
use Rattle.sc_state.specs.declared.proxy.Proxy.{Proxy}
use Rattle.sc_state.specs.declared.session.Invited.{Invited}
use Rattle.sc_state.specs.declared.session.Kept.{Kept}
use Rattle.sc_state.specs.declared.session.Session.{Session}
use Rattle.sc_state.specs.declared.working.Prepared.{Prepared}
use Rattle.sc_model.specs.Transactions.{is_failure}
use Rattle.sc_hosts.specs.DerivedSessions.{Derives, Handling, In, Takes, handled_in, handling, overtaken, without_derived}
use Rattle.sc_hosts.specs.Legs.{change_leg}
use Rattle.sc_hosts.specs.Looking.{session_in}
use Rattle.sc_hosts.specs.Preparing.{has_expired, prepared_expiry, prepared_timer, prepared_end as terminated}
use Rattle.sc_hosts.specs.PreparingRequests.{prepared_request, with_received_request as received, showing, showing_in, silent}
use Rattle.sc_hosts.specs.PreparingResponses.{accepts_invite, branch_placed, is_first_success, noted_final, session_of_response as placed, prepared_own, with_handled_response as responded, responded_again, responded_in, settled_legs, shown_again}
use Rattle.sc_lasting.proofs.LaterRequests.{later-session}
use Rattle.sc_lasting.proofs.Parts.{received-holds}

-- both branches have it
pub if-same : {A : Type 0} {B : Type 0} (part : A → B) (b : Bool) (x y : A) (z : B) → part x ≡ z → part y ≡ z → part (cond b x y) ≡ z
if-same part true x y z p q = p
if-same part false x y z p q = q

-- what is proxied, of what a turn shows and of where a response was placed
abbrev pub known-of : Prepared → List Proxy
known-of shown = shown.known.proxies

abbrev pub placed-of : SessId × Session → List Proxy
placed-of at = at.1.known.proxies

-- ## Requests

pub received-same : (x : Session) (number : ℕ) (sess : SessId) (initial passed : Bool) (request : Request) → (received x number sess initial passed request).known.proxies ≡ x.known.proxies
received-same x number sess initial passed request = received-holds (λ v k. k.proxies ≡ x.known.proxies) x number sess initial passed request (λ invited. refl)

pub request-same : (x : Session) (number : ℕ) (request : Request) (sess : Option SessId) → (prepared_request x number request sess).known.proxies ≡ x.known.proxies
request-same x number request = later-session (λ view known. known.proxies ≡ x.known.proxies) x number request refl (λ sess passed. received-same x number sess false passed request)
    (λ came view known same. same) (λ view known legs same. same)

-- ## Responses

handled-same : (x : Session) (req : ReqId) (original : SessionView) (came : Option Request) (how : Handling) → (handled_in x req original came how).1.known.proxies ≡ x.known.proxies
unfolding handled_in
handled-same x req original came (In at) = refl
handled-same x req original came (Takes tag) = refl
handled-same x req original came (Derives tag) = refl

placed-same : (x : Session) (kept : Kept) (request : RequestView) (response : Response) (original : Option SessionView) → (placed x kept request response original).1.known.proxies ≡ x.known.proxies
unfolding placed
placed-same x kept request response None = refl
placed-same x kept request response (Some original) =
    if-same placed-of request.initial (handled_in x request.id original None (handling x request.id original kept.request response)) (request.sess, x) x.known.proxies
    (handled-same x request.id original None (handling x request.id original kept.request response)) refl

legs-same : (request : RequestView) (sess : SessId) (response : Response) (x : Session) → (settled_legs request sess response x).known.proxies ≡ x.known.proxies
unfolding settled_legs overtaken without_derived
legs-same request sess response x =
    if-same (λ (s : Session). s.known.proxies) (is_first_success request response) (overtaken request.id sess x) (cond (request.initial && is_failure response.code) (without_derived request.id request.sess x) x) x.known.proxies refl
    (if-same (λ (s : Session). s.known.proxies) (request.initial && is_failure response.code) (without_derived request.id request.sess x) x x.known.proxies refl refl)

responded-same : (kept : Kept) (request : RequestView) (response : Response) (sess : SessId) (x : Session) → (responded kept request response sess x).known.proxies ≡ x.known.proxies
unfolding responded change_leg
responded-same kept request response sess x = legs-same request sess response x

responded_in-same : (x : Session) (kept : Kept) (request : RequestView) (response : Response) (at : SessId × Session) → at.1.known.proxies ≡ x.known.proxies
    → (responded_in kept request response at).known.proxies ≡ x.known.proxies
unfolding responded_in silent showing noted_final
responded_in-same x kept request response (sess, y) same = if-same known-of _ _ _ x.known.proxies same (responded-same kept request response sess y ∙ same)

responded_again-same : (x : Session) (kept : Kept) (request : RequestView) (response : Response) (at : SessId × Session) → at.1.known.proxies ≡ x.known.proxies
    → (responded_again kept request response at).known.proxies ≡ x.known.proxies
unfolding responded_again silent showing
responded_again-same x kept request response (sess, y) same = if-same known-of _ _ _ x.known.proxies same (responded-same kept request response sess _ ∙ same)

pub own-same : (x : Session) (kept : Kept) (response : Response) (found : Option RequestView) → (prepared_own x kept response found).known.proxies ≡ x.known.proxies
unfolding prepared_own silent
own-same x kept response None =
    let request : RequestView = shown_again x.known kept response.code in
    let at : SessId × Session = placed x kept request response (session_in x.view kept.sess) in
    if-same known-of (accepts_invite kept response) (responded_again kept request response at) (silent x []) x.known.proxies
    (responded_again-same x kept request response at (placed-same x kept request response (session_in x.view kept.sess))) refl
own-same x kept response (Some request) =
    responded_in-same x kept request response (placed x kept request response (session_in x.view request.sess)) (placed-same x kept request response (session_in x.view request.sess))

pub branch-same : (x : Session) (proxy : Proxy) (response : Response) (original : Option SessionView) → (branch_placed x proxy response original).1.known.proxies ≡ x.known.proxies
unfolding branch_placed
branch-same x proxy response None = refl
branch-same x proxy response (Some original) =
    if-same placed-of (is_some proxy.options) (handled_in x proxy.req original (Some proxy.request) (handling x proxy.req original proxy.request response)) (proxy.sess, x) x.known.proxies
    (handled-same x proxy.req original (Some proxy.request) (handling x proxy.req original proxy.request response)) refl

-- ## A CANCEL of what answered itself, and timers

pub terminated-same : (x : Session) (invited : Invited) (request : RequestView) (kept : Option Kept) → (terminated x invited request kept).known.proxies ≡ x.known.proxies
unfolding terminated showing_in
terminated-same x invited request None = refl
terminated-same x invited request (Some kept) = refl

pub timer-same : (x : Session) (timer : Option TimerView) → (prepared_timer x timer).known.proxies ≡ x.known.proxies
unfolding prepared_timer showing silent
timer-same x None = refl
timer-same x (Some timer) = refl

pub expiry-same : (x : Session) → (prepared_expiry x).known.proxies ≡ x.known.proxies
unfolding prepared_expiry showing silent
expiry-same x = if-same known-of (has_expired x.view) _ (silent x []) x.known.proxies refl refl
