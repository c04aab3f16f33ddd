-- What a turn shows of a later request: what holds in each case of it (RFC 3261 section 12.2.2).
use Rattle.std.proofs.Common.{◌≡◌, ℕ, Bool, false, Option, None, Some, List, []}
use Rattle.sc_value.specs.declared.ids.ReqId.{ReqId}
use Rattle.sc_value.specs.declared.ids.SessId.{SessId}
use Rattle.sc_value.specs.declared.message.Request.{Request}
use Rattle.sc_terms.specs.declared.views.RequestView.{RequestView}
use Rattle.sc_terms.specs.declared.views.SessionView.{SessionView}
use Rattle.sc_terms.specs.declared.views.View.{View}
use Rattle.sc_state.specs.declared.session.Known.{Known}
use Rattle.sc_state.specs.declared.session.Leg.{Leg}
use Rattle.sc_state.specs.declared.session.Session.{Session}
use Rattle.sc_state.specs.declared.working.Prepared.{Prepared}
use Rattle.sc_hosts.specs.Legs.{change_leg, is_low, leg_of, with_request}
use Rattle.sc_hosts.specs.Looking.{is_proxy, request_in, session_in}
use Rattle.sc_hosts.specs.PreparingRequests.{next_id, with_number_used as numbered, prepared_request, with_received_request as received, refusal_orders as refused, showing, silent, prepared_for_request as taken, taken_in, too_low}
use Rattle.sc_hosts.specs.ViewChanges.{view_with_answer as answered}
use Rattle.sc_hosts.specs.Words.{does_not_exist}
use Rattle.sc_walked.proofs.WalkParts.{if-is}

-- in its SipSession: that is gone, the request's number is too low, or the request is shown
pub request-in : (P : Prepared → Type 0) (x : Session) (number : ℕ) (request : Request) → P (silent (numbered x) [])
    → ((sess : SessId) → P (too_low x number sess request)) → ((found : SessionView) → P (taken x number found request))
    → (sess : SessId) (found : Option SessionView) → P (taken_in x number sess found request)
unfolding taken_in
request-in P x number request gone low shown sess None = gone
request-in P x number request gone low shown sess (Some found) =
    if-is P (is_low (leg_of x.known sess) request) (too_low x number sess request) (taken x number found request) (low sess) (shown found)

-- or no SipSession has its dialog
pub later-request : (P : Prepared → Type 0) (x : Session) (number : ℕ) (request : Request) → P (silent (numbered x) (refused number 481 does_not_exist request))
    → P (silent (numbered x) []) → ((sess : SessId) → P (too_low x number sess request)) → ((found : SessionView) → P (taken x number found request))
    → (sess : Option SessId) → P (prepared_request x number request sess)
unfolding prepared_request
later-request P x number request none gone low shown None = none
later-request P x number request none gone low shown (Some sess) = request-in P x number request gone low shown sess (session_in x.view sess)

-- what is so of the session as the request has its number, and as it has come, and stays so where
-- the container answers, and whatever is known of dialogs
pub later-session : (P : View → Known → Type 0) (x : Session) (number : ℕ) (request : Request) → P (numbered x).view x.known
    → ((sess : SessId) (passed : Bool) → P (received x number sess false passed request).view (received x number sess false passed request).known)
    → ((came : Option RequestView) (view : View) (known : Known) → P view known → P (answered came 500 view) known)
    → ((view : View) (known : Known) (legs : List Leg) → P view known → P view (record known { legs = legs }))
    → (sess : Option SessId) → P (prepared_request x number request sess).view (prepared_request x number request sess).known
unfolding silent too_low taken showing change_leg
later-session P x number request drawn comes answers legs = later-request (λ (shown : Prepared). P shown.view shown.known) x number request drawn drawn
    (λ sess. let after : Session = received x number sess false false request in answers (request_in after.view (next_id x)) after.view after.known (comes sess false))
    (λ found. let after : Session = received x number found.id false (is_proxy found.role) request in
    legs after.view after.known (change_leg found.id (with_request request) after.known).legs (comes found.id (is_proxy found.role)))

-- ## The number of the request that came

none-next : (r : ReqId) (number : ℕ) → ◌≡◌ {A = Option ReqId} None (Some r) → r.0 ≡ number
none-next r number is = cc

some-next : (a b : ReqId) → Some a ≡ Some b → b.0 ≡ a.0
some-next a b is = cc

-- where one is shown it is the next
pub request-next : (x : Session) (number : ℕ) (request : Request) (sess : Option SessId) (r : ReqId) → (prepared_request x number request sess).req ≡ Some r → r.0 ≡ x.view.next_request
unfolding silent too_low taken showing
request-next x number request sess r = later-request (λ (shown : Prepared). shown.req ≡ Some r → r.0 ≡ x.view.next_request) x number request
    (none-next r x.view.next_request) (none-next r x.view.next_request) (λ s. none-next r x.view.next_request) (λ found. some-next (next_id x) r) sess
