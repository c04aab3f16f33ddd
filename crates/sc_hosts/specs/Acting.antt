-- What follows from a turn before readiness is looked for: left drafts, the answer to a fault, and
-- what proxies do (RFC 3261 section 16).
use Rattle.std.specs.Prelude.{ℕ, ◌+◌, ◌==◌, [], ◌∷◌, ◌++◌, Bool, true, false, not, ◌&&◌, ◌||◌, Option, None, Some, is_some, is_none, option_and_then, unwrap_or, if◌then◌else◌, map, drop}
use Rattle.std.specs.List.{fold}
use Rattle.sc_value.specs.declared.ids.Directive.TheVariants.{Continue}
use Rattle.sc_value.specs.declared.ids.ReqId.{ReqId}
use Rattle.sc_value.specs.declared.ids.SessId.{SessId}
use Rattle.sc_value.specs.declared.message.Request.{Request}
use Rattle.sc_value.specs.declared.message.Response.{Response}
use Rattle.sc_value.specs.declared.parts.Uri.{Uri}
use Rattle.sc_tokens.specs.Names.{same_bytes}
use Rattle.sc_terms.specs.declared.settings.Config.{Config}
use Rattle.sc_terms.specs.declared.views.View.{View}
use Rattle.sc_terms.specs.declared.views.RequestView.{RequestView}
use Rattle.sc_terms.specs.declared.views.SessionView.{SessionView}
use Rattle.sc_terms.specs.declared.views.State.TheVariants.{Terminated}
use Rattle.sc_terms.specs.declared.calls.End.{End}
use Rattle.sc_terms.specs.declared.calls.End.TheVariants as ends
use Rattle.sc_state.specs.declared.orders.Order.TheVariants as orders
use Rattle.sc_state.specs.declared.proxy.Branch.{Branch}
use Rattle.sc_state.specs.declared.proxy.Passing.{Passing}
use Rattle.sc_state.specs.declared.proxy.Proxy.{Proxy}
use Rattle.sc_state.specs.declared.queue.Queued.{Queued}
use Rattle.sc_state.specs.declared.queue.Queued.TheVariants as queued
use Rattle.sc_state.specs.declared.session.Kept.{Kept}
use Rattle.sc_state.specs.declared.session.Known.{Known}
use Rattle.sc_state.specs.declared.working.Draft.{Draft}
use Rattle.sc_state.specs.declared.working.Working.{Working}
use Rattle.sc_tokens.specs.Bytes.{Bytes}
use Rattle.sc_model.specs.BestResponses.{best_response, server_error}
use Rattle.sc_model.specs.Dialogs.{tag_of, subscribe}
use Rattle.sc_model.specs.Transactions.{is_success}
use Rattle.sc_model.specs.SessionStates.{is_final, ack}
use Rattle.sc_hosts.specs.Branches.{can_choose, can_pass, cancelled_now, is_exhausted, new_branch, new_proxy, records_route, starting}
use Rattle.sc_hosts.specs.ViewChanges.{answered_in, is_owed, tidy, view_with_answer}
use Rattle.sc_hosts.specs.DerivedSessions.{is_of}
use Rattle.sc_hosts.specs.Looking.{change_session, in_state, is_early, is_initial_state, request_in, same_session, without_sip_session}
use Rattle.sc_hosts.specs.Messages.{bare_answer, on_branch, proxied_request, passed_request}
use Rattle.sc_hosts.specs.Preparing.{kept_of, proxy_of}
use Rattle.sc_hosts.specs.PreparingResponses.{change_proxy, is_invalid}
use Rattle.sc_hosts.specs.States.{after_initial}
use Rattle.sc_hosts.specs.Giving.{answering, giving}
use Rattle.sc_hosts.specs.Working.{event_of, next_branch}
use Rattle.sc_hosts.specs.Words.{too_many_hops}

-- the turn with another view
abbrev pub in_view : View → Working → Working
in_view view working = record working { play = record working.play { view = view } }

-- a branch is drawn
abbrev pub with_next_branch : View → View
with_next_branch view = record view { counter = view.counter + 1 }

-- ## Drafts that were left

-- the view without a draft that was left unsent; the SipSession that an initial one made goes with
-- it
unfoldable pub without_left : View → Draft → View
without_left view draft = if draft.initial then without_sip_session draft.sess view else view

-- the turn without the drafts that the application left unsent
unfoldable pub drafts_ended : Working → Working
drafts_ended working =
    in_view (tidy (fold without_left working.play.view working.play.drafts)) working

-- ## A fault: the event's request is answered 500 where it was left without an answer

-- 500 to this request, where the application neither answered nor proxied it
unfoldable pub fault_at : Config → Option RequestView → Working → Working
fault_at config None working = working
fault_at config (Some request) working =
    if is_owed request && not request.proxied
    then in_view (view_with_answer (Some request) 500 working.play.view)
    (answering config (Some request) (bare_answer 500 server_error) working) else working

-- what follows from how the turn ended: only a fault of the application has an answer
unfoldable pub after_fault : Config → Option ReqId → End → Working → Working
after_fault config req ends.Fine working = working
after_fault config req ends.Fault working =
    fault_at config (option_and_then (request_in working.play.view) req) working
after_fault config req ends.Starved working = working

-- ## Proxies act

-- a change of the proxy of this request
abbrev pub in_proxy : ReqId → (Proxy → Proxy) → Working → Working
in_proxy req change working = record working { known = change_proxy req change working.known }

-- a target gets the next branch: the router is asked to go on behind the place of the application,
-- the branch is drawn, and the proxy has it in place of the target (RFC 3261 section 16.6)
unfoldable pub after_start : Config → Proxy → Working → Uri → Working
after_start config proxy working uri =
    let branch : ℕ = next_branch working in
    let sent : Request = on_branch config working.play.view branch
    (proxied_request config working.play.view (records_route proxy) uri proxy.request) in
    let asks : Working = giving
    (orders.Begin branch Continue working.known.region (Some (working.known.order + 1)) sent ∷ [])
    working in
    let draws : Working = in_view (with_next_branch working.play.view) asks in
    in_proxy proxy.req
    (λ p.
    record p {
      branches = p.branches ++ new_branch proxy branch working.play.view.now ∷ [];
      targets = drop 1 p.targets;
    }) draws

-- the code of a final response that was forwarded first
unfoldable pub with_forwarded : ℕ → Proxy → Proxy
with_forwarded code proxy =
    if is_final code && is_none proxy.forwarded then record proxy { forwarded = Some code }
    else proxy

-- the SipSession after a response that was forwarded in it, to an initial request that the view
-- shows no more: the first SipSession of the request is gone, and a later 2xx came in one of its
-- own
unfoldable pub moved_on : Proxy → Response → SessionView → SessionView
moved_on proxy response session =
    if is_some proxy.options
    then in_state
    (after_initial session.role proxy.request.method (is_some (tag_of response.head.to))
    session.state response.code) session else session

-- the view after a response that was forwarded in a SipSession, by whether it shows the request
-- still
unfoldable pub forwarded_view : Proxy → SessId → Option RequestView → Response → View → View
forwarded_view proxy sess None response view = change_session sess (moved_on proxy response) view
forwarded_view proxy sess (Some request) response view =
    tidy (answered_in sess request (is_some (tag_of response.head.to)) response.code view)

-- the 2xx to a SUBSCRIBE that is forwarded gives the SipSession its tag
unfoldable pub subscribed_tag : Option Bytes → SessionView → SessionView
subscribed_tag tag session =
    if is_none session.peer_tag then record session { peer_tag = tag } else session

-- the view with that tag, where the response is the 2xx to an initial SUBSCRIBE
unfoldable pub with_subscribed : Proxy → SessId → Response → View → View
with_subscribed proxy sess response view =
    if is_some proxy.options && same_bytes proxy.request.method subscribe
    && is_success response.code
    then change_session sess (subscribed_tag (tag_of response.head.to)) view else view

-- a response goes back to where the request came from, and moves the SipSession
unfoldable pub forwards : Proxy → SessId → Response → Working → Working
forwards proxy sess response working =
    let gives : Working = giving (orders.Respond proxy.event response ∷ []) working in
    let moves : Working = in_view
    (forwarded_view proxy sess (request_in working.play.view proxy.req) response
    (with_subscribed proxy sess response working.play.view)) gives in
    in_proxy proxy.req (with_forwarded response.code) moves

-- what waits is forwarded as it came, where it can go still (RFC 3261 section 16.7, step 5)
unfoldable pub passes : Proxy → Option Passing → Working → Working
passes proxy None working = working
passes proxy (Some passing) working =
    if can_pass proxy passing.response then forwards proxy passing.sess passing.response working
    else working

-- the best response goes in the first SipSession of the request
unfoldable pub forwards_best : Proxy → Option Response → Working → Working
forwards_best proxy None working = working
forwards_best proxy (Some response) working = forwards proxy proxy.sess response working

-- the best response is forwarded once it can go (RFC 3261 section 16.7, step 6)
unfoldable pub chooses : Proxy → Working → Working
chooses proxy working =
    if can_choose proxy then forwards_best proxy (best_response proxy.candidates) working
    else working

-- a SipSession of the request without a confirmed dialog: an early one, or a derived one that is
-- INITIAL
unfoldable pub is_over : Known → ReqId → SessId → SessionView → Bool
is_over known req original session =
    is_of known req session
    && (is_early session.state
    || (is_initial_state session.state && not (same_session session.id original)))

-- such a SipSession ended
unfoldable pub closed_session : Known → ReqId → SessId → SessionView → SessionView
closed_session known req original session =
    if is_over known req original session then in_state Terminated session else session

-- once the search of an initial request is exhausted, its SipSessions without a confirmed dialog
-- end
unfoldable pub closes : Proxy → Working → Working
closes proxy working =
    if is_exhausted proxy && is_some proxy.options
    then in_view
    (record working.play.view {
      sessions = map (closed_session working.known proxy.req proxy.sess)
          working.play.view.sessions;
    }) working else working

-- the branch as the turn leaves it: a CANCEL that it was to get has been given out
unfoldable pub rested_branch : Branch → Branch
rested_branch branch = record branch { cancelled = false }

-- the proxy between turns: nothing waits to be forwarded, to be cancelled or to be looked at
unfoldable pub at_rest : Proxy → Proxy
at_rest proxy =
    record proxy {
      branches = map rested_branch proxy.branches;
      passing = None;
      heard_final = false;
    }

-- the proxy as it is now
unfoldable pub proxy_now : Proxy → Working → Proxy
proxy_now proxy working = unwrap_or (proxy_of working.known proxy.req) proxy

-- the CANCELs of the branches that are to be cancelled (RFC 3261 section 16.10)
unfoldable pub sends_cancels : Proxy → Working → Working
sends_cancels proxy working =
    giving (map (λ branch. orders.Cancel branch) (cancelled_now (proxy_now proxy working))) working

-- new branches, then what is forwarded, then CANCELs in the order of branches
unfoldable pub after_proxy : Config → Proxy → Working → Working
after_proxy config proxy working =
    let begun : Working = fold (after_start config proxy) working (starting proxy) in
    let passed : Working = passes (proxy_now proxy begun) proxy.passing begun in
    let chosen : Working = chooses (proxy_now proxy passed) passed in
    in_proxy proxy.req at_rest (closes (proxy_now proxy chosen) (sends_cancels proxy chosen))

-- a proxy whose SipSession the application ended does nothing
unfoldable pub acts : Config → Working → Proxy → Working
acts config working proxy =
    if is_invalid working.known proxy.sess then working else after_proxy config proxy working

-- in order of the requests' numbers
unfoldable pub all_act : Config → Working → Working
all_act config working = fold (acts config) working working.known.proxies

-- ## A later request on a proxied dialog is passed on

-- 483 to a later request that may go no further (RFC 3261 section 16.3)
unfoldable pub hops_spent : Config → RequestView → Working → Working
hops_spent config request working =
    if is_owed request
    then in_view (view_with_answer (Some request) 483 working.play.view)
    (answering config (Some request) (bare_answer 483 too_many_hops) working) else working

-- a proxy of one branch
unfoldable pub sent_proxy : Kept → ℕ → Proxy
sent_proxy kept branch =
    record (new_proxy kept.id kept.sess (event_of kept.way) kept.request None) {
      branches = record { number = branch; ended = None; cancelled = false; due = None } ∷ [];
    }

-- a later request goes on along its dialog, on a branch of its own; an ACK without transaction (RFC
-- 3261 section 16.6)
unfoldable pub passed_on : Config → Kept → Working → Working
passed_on config kept working =
    let sent : Request = on_branch config working.play.view (next_branch working)
    (passed_request kept.request) in
    in_view (with_next_branch working.play.view)
    (if same_bytes kept.request.method ack then giving (orders.Acknowledge sent ∷ []) working
    else giving (orders.Send (next_branch working) sent ∷ [])
    (record working {
      known =
          record working.known {
            proxies = working.known.proxies ++ sent_proxy kept (next_branch working) ∷ [];
          };
    }))

-- a later request of a proxied dialog is passed on, unless the application ended its SipSession
unfoldable pub passed_later : Config → RequestView → Option Kept → Working → Working
passed_later config request None working = working
passed_later config request (Some kept) working =
    if request.initial || not request.proxied || is_invalid working.known request.sess then working
    else
    (if request.hops == 0 then hops_spent config request working
    else passed_on config kept working)

-- the same for a request that the view shows
unfoldable pub passed_request_of : Config → Option RequestView → Working → Working
passed_request_of config None working = working
passed_request_of config (Some request) working =
    passed_later config request (kept_of working.known request.id) working

-- the event is a later request
unfoldable pub is_request_event : Queued → Bool
is_request_event (queued.Request request) = true
is_request_event event = false

-- where the turn's event is a later request, it is passed on after the calls
unfoldable pub passes_later : Config → Queued → Option ReqId → Working → Working
passes_later config event req working =
    if is_request_event event
    then passed_request_of config (option_and_then (request_in working.play.view) req) working
    else working
