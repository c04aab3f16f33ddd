-- What a turn shows of a response that came (RFC 3261 sections 8.1.3, 13.2.2 and 16.7, JSR 289
-- section 6).
use Rattle.std.specs.Prelude.{ℕ, ◌+◌, ◌==◌, List, [], ◌∷◌, Bool, true, false, not, ◌&&◌, Option, None, Some, is_some, option_and_then, nat_lt, if◌then◌else◌, length}
use Rattle.std.specs.List.{find}
use Rattle.std.specs.Option.{option_map_or, option_or}
use Rattle.sc_value.specs.declared.ids.ReqId.{ReqId}
use Rattle.sc_value.specs.declared.ids.SessId.{SessId}
use Rattle.sc_value.specs.declared.message.Response.{Response}
use Rattle.sc_value.specs.Lists.{change_first}
use Rattle.sc_tokens.specs.Names.{same_bytes}
use Rattle.sc_terms.specs.declared.calls.ProxyOptions.{ProxyOptions}
use Rattle.sc_terms.specs.declared.events.Event.{Event}
use Rattle.sc_terms.specs.declared.events.Event.TheVariants as events
use Rattle.sc_terms.specs.declared.views.View.{View}
use Rattle.sc_terms.specs.declared.views.RequestView.{RequestView}
use Rattle.sc_terms.specs.declared.views.SessionView.{SessionView}
use Rattle.sc_state.specs.declared.proxy.Proxy.{Proxy}
use Rattle.sc_state.specs.declared.session.Kept.{Kept}
use Rattle.sc_state.specs.declared.session.Known.{Known}
use Rattle.sc_state.specs.declared.session.Session.{Session}
use Rattle.sc_state.specs.declared.session.Way.{Way}
use Rattle.sc_state.specs.declared.session.Way.TheVariants.{Received, Sent}
use Rattle.sc_state.specs.declared.working.Prepared.{Prepared}
use Rattle.sc_model.specs.Dialogs.{tag_of}
use Rattle.sc_model.specs.SessionStates.{invite}
use Rattle.sc_model.specs.Transactions.{is_success, is_failure}
use Rattle.sc_hosts.specs.Branches.{added_targets, is_told_whole, proxy_after_response}
use Rattle.sc_hosts.specs.ViewChanges.{answered_in, tidy, with_answer as with_final}
use Rattle.sc_hosts.specs.DerivedSessions.{handling, handled_in, overtaken, without_derived}
use Rattle.sc_hosts.specs.Legs.{change_leg, leg_of, with_answer}
use Rattle.sc_hosts.specs.Looking.{change_request, is_gone_in, request_in, same_request, session_in}
use Rattle.sc_hosts.specs.PreparingRequests.{showing, showing_in, silent}

-- ## A response to a request of one's own

-- the request was sent on this branch
abbrev pub is_sent_on : ℕ → Kept → Bool
is_sent_on branch kept = is_way branch kept.way
  where
    is_way : ℕ → Way → Bool
    is_way branch (Received event) = false
    is_way branch (Sent number) = number == branch

-- the SipSessions whose 2xx waits for an ACK, with this one, in order of number and each once
unfoldable pub insert_session : SessId → List SessId → List SessId
insert_session sess [] = sess ∷ []
insert_session sess (s ∷ ss) =
    if s.0 == sess.0 then s ∷ ss
    else (if nat_lt sess.0 s.0 then sess ∷ s ∷ ss else (s ∷ insert_session sess ss))

-- a sent INVITE whose 2xx in this SipSession waits for its ACK
unfoldable pub with_success : SessId → Response → RequestView → RequestView
with_success sess response request =
    if same_bytes request.method invite && is_success response.code
    then record request { unacked = insert_session sess request.unacked }
    else request

-- the first 2xx of an initial INVITE
unfoldable pub is_first_success : RequestView → Response → Bool
is_first_success request response =
    request.initial && same_bytes request.method invite && is_success response.code
    && not (option_map_or is_success request.answered false)

-- what a final response to an initial request makes of the request's other SipSessions
unfoldable pub settled_legs : RequestView → SessId → Response → Session → Session
settled_legs request sess response session =
    if is_first_success request response then overtaken request.id sess session
    else
    (if request.initial && is_failure response.code
    then without_derived request.id request.sess session
    else session)

-- a response handled in this SipSession
unfoldable pub with_handled_response : Kept → RequestView → Response → SessId → Session → Session
with_handled_response kept request response sess session =
    let after : Session = settled_legs request sess response session in record {
      view =
          tidy
          (change_request request.id (with_success sess response)
          (answered_in sess request (is_some (tag_of response.head.to)) response.code after.view));
      known = change_leg sess (with_answer kept.request response) after.known;
    }

-- the SipSession of a response, which may be a derived one
unfoldable pub session_of_response : Session → Kept → RequestView → Response → Option SessionView
    → SessId × Session
session_of_response session kept request response None = (request.sess, session)
session_of_response session kept request response (Some original) =
    if request.initial
    then handled_in session request.id original None
    (handling session request.id original kept.request response)
    else (request.sess, session)

-- the final response is noted with its request, in whatever SipSession it came
unfoldable pub noted_final : ReqId → ℕ → Session → Session
noted_final req code session =
    record session { view = tidy (change_request req (with_final code) session.view) }

-- nothing is shown of a SipSession that is gone, and nothing changes in it
unfoldable pub responded_in : Kept → RequestView → Response → SessId × Session → Prepared
responded_in kept request response (sess, session) =
    if is_gone_in session.view sess then silent (noted_final kept.id response.code session) []
    else showing (with_handled_response kept request response sess session)
    (events.Response kept.id sess response) None []

-- ## A 2xx to an INVITE that the view shows no more: it comes again, or from a further place (RFC
-- 3261 section 13.2.2.4)

-- the request began this SipSession
unfoldable pub has_begun : Known → Kept → Bool
has_begun known kept =
    option_map_or (λ leg. option_map_or (same_request kept.id) leg.first false)
    (leg_of known kept.sess) false

-- the INVITE as the view shows it again, answered by this 2xx
unfoldable pub shown_again : Known → Kept → ℕ → RequestView
shown_again known kept code = record {
  id = kept.id;
  sess = kept.sess;
  method = kept.request.method;
  received = false;
  initial = has_begun known kept;
  hops = kept.request.hops;
  answered = Some code;
  proxied = false;
  branches = 0;
  unacked = [];
  ends = false;
}

-- among the others in the order of their numbers
unfoldable pub insert_request : RequestView → List RequestView → List RequestView
insert_request request [] = request ∷ []
insert_request request (other ∷ others) =
    if nat_lt request.id.0 other.id.0 then request ∷ other ∷ others
    else (other ∷ insert_request request others)

-- the session with a request that its view shows again
abbrev pub with_request_again : RequestView → Session → Session
with_request_again request session =
    record session {
      view = record session.view { requests = insert_request request session.view.requests };
    }

-- the 2xx is handled and shown, so that it can be acknowledged again
unfoldable pub responded_again : Kept → RequestView → Response → SessId × Session → Prepared
responded_again kept request response (sess, session) =
    if is_gone_in session.view sess then silent session []
    else showing
    (with_handled_response kept request response sess (with_request_again request session))
    (events.Response kept.id sess response) None []

-- a 2xx to an INVITE
abbrev pub accepts_invite : Kept → Response → Bool
accepts_invite kept response = same_bytes kept.request.method invite && is_success response.code

-- a request that the view shows no more has had its final response
unfoldable pub prepared_own : Session → Kept → Response → Option RequestView → Prepared
prepared_own session kept response None =
    if accepts_invite kept response
    then responded_again kept (shown_again session.known kept response.code) response
    (session_of_response session kept (shown_again session.known kept response.code) response
    (session_in session.view kept.sess))
    else silent session []
prepared_own session kept response (Some request) =
    responded_in kept request response
    (session_of_response session kept request response (session_in session.view request.sess))

-- ## A response on a branch of a proxied request

-- a change of the proxy of this request
abbrev pub change_proxy : ReqId → (Proxy → Proxy) → Known → Known
change_proxy req change known =
    record known {
      proxies = change_first (λ proxy. same_request proxy.req req) change known.proxies;
    }

-- the response as the application is told of it: of the whole request, or of one branch (JSR 289
-- section 10)
unfoldable pub event_of_response : Proxy → ℕ → Response → SessId → Event
event_of_response proxy branch response sess =
    if is_told_whole branch response proxy then events.Response proxy.req sess response
    else events.Branch proxy.req sess response

-- the view shows the targets that a 3xx added
unfoldable pub with_branches : Proxy → Response → View → View
with_branches proxy response view =
    change_request proxy.req
    (λ request.
    record request { branches = request.branches + length (added_targets proxy response) }) view

-- the options of the proxy of the request that began the SipSession
unfoldable pub dialog_options : Known → SessId → Option ProxyOptions
dialog_options known sess =
    option_and_then
    (λ leg.
    option_and_then
    (λ req.
    option_and_then (λ proxy. proxy.options)
    (find (λ proxy. same_request proxy.req req) known.proxies)) leg.first)
    (leg_of known sess)

-- the application is told of the responses, those to a later request where it is told of those to
-- the request that began its dialog (JSR 289 section 10.2.2)
unfoldable pub is_watched : Known → Proxy → Bool
is_watched known proxy =
    option_map_or (λ (o : ProxyOptions). o.supervised)
    (option_or proxy.options (dialog_options known proxy.sess)) true

-- the application ended this SipSession by a call
unfoldable pub is_invalid : Known → SessId → Bool
is_invalid known sess = option_map_or (λ leg. leg.invalidated) (leg_of known sess) false

-- what a response on a branch makes of the session, handled in this SipSession
unfoldable pub heard_in : Proxy → ℕ → Response → SessId × Session → Prepared
heard_in proxy branch response (sess, session) =
    let after : Session = record {
      view = with_branches proxy response session.view;
      known =
          change_proxy proxy.req (proxy_after_response branch sess response session.view.now)
          (change_leg sess (with_answer proxy.request response) session.known);
    } in
    if is_watched session.known proxy
    then showing_in after sess (event_of_response proxy branch response sess) None []
    else silent after []

-- the SipSession of a response to a proxied request, a derived one maybe
unfoldable pub branch_placed : Session → Proxy → Response → Option SessionView → SessId × Session
branch_placed session proxy response None = (proxy.sess, session)
branch_placed session proxy response (Some original) =
    if is_some proxy.options
    then handled_in session proxy.req original (Some proxy.request)
    (handling session proxy.req original proxy.request response) else (proxy.sess, session)

-- a proxy whose SipSession the application ended does nothing any more
unfoldable pub prepared_branch : Session → Proxy → ℕ → Response → Prepared
prepared_branch session proxy branch response =
    if is_invalid session.known proxy.sess then silent session []
    else heard_in proxy branch response
    (branch_placed session proxy response (session_in session.view proxy.sess))

-- a response: to a sent request, or on a branch of a proxied one
unfoldable pub prepared_response : Session → ℕ → Response → Option Kept → Option Proxy → Prepared
prepared_response session branch response (Some kept) proxy =
    prepared_own session kept response (request_in session.view kept.id)
prepared_response session branch response None (Some proxy) =
    prepared_branch session proxy branch response
prepared_response session branch response None None = silent session []
