-- A turn begins with answers alone: what it gives first is of each kind of which answers are.
use Rattle.std.proofs.Common.{ℕ, Bool, true, false, Option, None, Some, List, [], ◌∷◌}
use Rattle.std.specs.Prelude.{cond, is_none}
use Rattle.sc_value.specs.declared.ids.SessId.{SessId}
use Rattle.sc_value.specs.declared.message.Request.{Request}
use Rattle.sc_value.specs.declared.message.Response.{Response}
use Rattle.sc_terms.specs.declared.settings.Config.{Config}
use Rattle.sc_terms.specs.declared.views.RequestView.{RequestView}
use Rattle.sc_terms.specs.declared.views.SessionView.{SessionView}
use Rattle.sc_terms.specs.declared.views.TimerView.{TimerView}
use Rattle.sc_state.specs.declared.orders.Order.{Order}
use Rattle.sc_state.specs.declared.orders.Order.TheVariants as orders
use Rattle.sc_state.specs.declared.proxy.Proxy.{Proxy}
use Rattle.sc_state.specs.declared.queue.Queued.{Queued}
use Rattle.sc_state.specs.declared.queue.Queued.TheVariants as queued
use Rattle.sc_state.specs.declared.session.Invited.{Invited}
use Rattle.sc_state.specs.declared.session.Kept.{Kept}
use Rattle.sc_state.specs.declared.session.Session.{Session}
use Rattle.sc_state.specs.declared.working.Prepared.{Prepared}
use Rattle.sc_tokens.specs.Bytes.{Bytes}
use Rattle.sc_hosts.specs.Branches.{is_supervised}
use Rattle.sc_hosts.specs.Preparing.{prepared_for, prepared_end as terminated, cancelled_proxy, cancelled_request, prepared_cancel, prepared_timer, prepared_expiry, prepared_branch_timer}
use Rattle.sc_hosts.specs.PreparingRequests.{silent, showing, showing_in, refusal_orders as refused, too_low, prepared_for_request as taken, taken_in, prepared_request}
use Rattle.sc_hosts.specs.PreparingResponses.{responded_in, responded_again, prepared_own, heard_in, prepared_branch, prepared_response}
use Rattle.sc_lasting.specs.Lasting.{All}

module _ (Kind : Order → Type 0) (responds : (event : ℕ) (response : Response) → Kind (orders.Respond event response)) where
  none : All Kind []
  unfolding All
  none = tt

  answer : (event : ℕ) (response : Response) → All Kind (orders.Respond event response ∷ [])
  unfolding All
  answer event response = (responds event response, tt)

  if-orders : (b : Bool) (xs ys : List Order) → All Kind xs → All Kind ys → All Kind (cond b xs ys)
  if-orders true xs ys p q = p
  if-orders false xs ys p q = q

  if-shown : (b : Bool) (x y : Prepared) → All Kind x.orders → All Kind y.orders → All Kind (cond b x y).orders
  if-shown true x y p q = p
  if-shown false x y p q = q

  terminated-kind : (x : Session) (invited : Invited) (request : RequestView) (kept : Option Kept) → All Kind (terminated x invited request kept).orders
  unfolding terminated showing_in
  terminated-kind x invited request None = none
  terminated-kind x invited request (Some kept) = answer invited.event _

  cancelled_proxy-kind : (x : Session) (invited : Invited) (proxy : Option Proxy) → All Kind (cancelled_proxy x invited proxy).orders
  unfolding cancelled_proxy showing_in silent
  cancelled_proxy-kind x invited None = none
  cancelled_proxy-kind x invited (Some proxy) = if-shown (is_supervised proxy) _ _ none none

  cancelled_request-kind : (x : Session) (invited : Invited) (request : Option RequestView) → All Kind (cancelled_request x invited request).orders
  unfolding cancelled_request showing_in
  cancelled_request-kind x invited None = none
  cancelled_request-kind x invited (Some request) =
      if-shown request.proxied _ _ (cancelled_proxy-kind x invited _)
      (if-shown (is_none request.answered) _ _ (terminated-kind x invited request _) none)

  prepared_cancel-kind : (x : Session) (invited : Option Invited) → All Kind (prepared_cancel x invited).orders
  unfolding prepared_cancel silent
  prepared_cancel-kind x None = none
  prepared_cancel-kind x (Some invited) = cancelled_request-kind x invited _

  prepared_timer-kind : (x : Session) (timer : Option TimerView) → All Kind (prepared_timer x timer).orders
  unfolding prepared_timer silent showing
  prepared_timer-kind x None = none
  prepared_timer-kind x (Some timer) = none

  prepared_branch_timer-kind : (config : Config) (ringing : List ℕ) (x : Session) (branch due : ℕ) (proxy : Option Proxy)
      → All Kind (prepared_branch_timer config ringing x branch due proxy).orders
  unfolding prepared_branch_timer silent
  prepared_branch_timer-kind config ringing x branch due None = none
  prepared_branch_timer-kind config ringing x branch due (Some proxy) = if-shown _ _ _ none none

  refused-kind : (number code : ℕ) (reason : Bytes) (request : Request) → All Kind (refused number code reason request)
  unfolding refused
  refused-kind number code reason request = if-orders _ [] _ none (answer number _)

  taken_in-kind : (x : Session) (number : ℕ) (sess : SessId) (found : Option SessionView) (request : Request)
      → All Kind (taken_in x number sess found request).orders
  unfolding taken_in silent too_low taken showing
  taken_in-kind x number sess None request = none
  taken_in-kind x number sess (Some found) request = if-shown _ _ _ (refused-kind number 500 _ request) none

  prepared_request-kind : (x : Session) (number : ℕ) (request : Request) (sess : Option SessId) → All Kind (prepared_request x number request sess).orders
  unfolding prepared_request silent
  prepared_request-kind x number request None = refused-kind number 481 _ request
  prepared_request-kind x number request (Some sess) = taken_in-kind x number sess _ request

  responded_in-kind : (kept : Kept) (request : RequestView) (response : Response) (at : SessId × Session)
      → All Kind (responded_in kept request response at).orders
  unfolding responded_in silent showing
  responded_in-kind kept request response (sess, session) = if-shown _ _ _ none none

  responded_again-kind : (kept : Kept) (request : RequestView) (response : Response) (at : SessId × Session)
      → All Kind (responded_again kept request response at).orders
  unfolding responded_again silent showing
  responded_again-kind kept request response (sess, session) = if-shown _ _ _ none none

  prepared_own-kind : (x : Session) (kept : Kept) (response : Response) (request : Option RequestView)
      → All Kind (prepared_own x kept response request).orders
  unfolding prepared_own silent
  prepared_own-kind x kept response None = if-shown _ _ _ (responded_again-kind kept _ response _) none
  prepared_own-kind x kept response (Some request) = responded_in-kind kept request response _

  heard_in-kind : (proxy : Proxy) (branch : ℕ) (response : Response) (at : SessId × Session) → All Kind (heard_in proxy branch response at).orders
  unfolding heard_in silent showing_in
  heard_in-kind proxy branch response (sess, session) = if-shown _ _ _ none none

  prepared_response-kind : (x : Session) (branch : ℕ) (response : Response) (kept : Option Kept) (proxy : Option Proxy)
      → All Kind (prepared_response x branch response kept proxy).orders
  unfolding prepared_response prepared_branch silent
  prepared_response-kind x branch response (Some kept) proxy = prepared_own-kind x kept response _
  prepared_response-kind x branch response None (Some proxy) = if-shown _ _ _ none (heard_in-kind proxy branch response _)
  prepared_response-kind x branch response None None = none

  pub prepared-kind : (config : Config) (ringing : List ℕ) (x : Session) (number : ℕ) (event : Queued) → All Kind (prepared_for config ringing x number event).orders
  unfolding prepared_for showing prepared_expiry silent
  prepared-kind config ringing x number (queued.Initial region subscriber popped request) = none
  prepared-kind config ringing x number (queued.Request request) = prepared_request-kind x number request _
  prepared-kind config ringing x number (queued.Response branch response) = prepared_response-kind x branch response _ _
  prepared-kind config ringing x number (queued.Cancelled event) = prepared_cancel-kind x _
  prepared-kind config ringing x number (queued.Timer id) = prepared_timer-kind x _
  prepared-kind config ringing x number (queued.BranchTimer branch due) = prepared_branch_timer-kind config ringing x branch due _
  prepared-kind config ringing x number queued.Expired = if-shown _ _ _ none none
  prepared-kind config ringing x number queued.Ready = none
