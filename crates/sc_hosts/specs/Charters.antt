-- The charters of the applications that every container comes with (JSR 289 sections 6, 10, 12), as
-- scripts of the calls that they make.
use Rattle.std.specs.Prelude.{ℕ, ◌==◌, List, [], ◌∷◌, ◌++◌, Bool, true, false, not, ◌&&◌, Option, None, Some, is_some, option_and_then, unwrap_or, if◌then◌else◌, codes, decimal, pos}
use Rattle.std.specs.List.{find, slice_get, filter_map, list_any}
use Rattle.std.specs.Option.{option_map_or}
use Rattle.sc_value.specs.declared.ids.ReqId.{ReqId}
use Rattle.sc_value.specs.declared.ids.SessId.{SessId}
use Rattle.sc_value.specs.declared.ids.Directive.TheVariants.{New, Reverse}
use Rattle.sc_value.specs.declared.parts.Address.{Address}
use Rattle.sc_value.specs.declared.parts.Uri.{Uri}
use Rattle.sc_value.specs.declared.parts.Uri.TheVariants.{Sip, Other}
use Rattle.sc_value.specs.declared.message.Request.{Request}
use Rattle.sc_value.specs.declared.message.Response.{Response}
use Rattle.sc_tokens.specs.Names.{same_bytes}
use Rattle.sc_terms.specs.declared.views.View.{View}
use Rattle.sc_terms.specs.declared.views.RequestView.{RequestView}
use Rattle.sc_terms.specs.declared.views.Period.TheVariants.{Once}
use Rattle.sc_terms.specs.declared.events.Event.{Event}
use Rattle.sc_terms.specs.declared.events.Event.TheVariants as events
use Rattle.sc_terms.specs.declared.calls.Ask.{Ask}
use Rattle.sc_terms.specs.declared.calls.Call.TheVariants as calls
use Rattle.sc_terms.specs.declared.calls.CallAnswer.{CallAnswer}
use Rattle.sc_terms.specs.declared.calls.CallAnswer.TheVariants as answers
use Rattle.sc_terms.specs.declared.calls.ProxyOptions.{ProxyOptions}
use Rattle.sc_tokens.specs.Bytes.{Bytes}
use Rattle.sc_model.specs.SessionStates.{invite, is_final, ack}
use Rattle.sc_hosts.specs.Looking.{partner, request_in}
use Rattle.sc_hosts.specs.Words.{options, ok, ringing, forbidden, too_many_hops}
use Rattle.sc_hosts.specs.Scripting.{Done, Make, Script, attribute, is_bad_text, is_no_hops, is_refused, only, param_at, readable, reply, same_answer, small_number, then_make, uri_param, where_some, with_number}
use Rattle.sc_model.specs.BestResponses.{server_error}

-- ## answer

-- 200 to a later request; nothing to an ACK
unfoldable pub reply_ok : ReqId → Request → Script
reply_ok req request = if same_bytes request.method ack then Done else only (reply req 200 ok)

-- `answer`: 200 to every request
unfoldable pub answer_script : Event → Script
answer_script (events.Initial req sess region subscriber popped request) = only (reply req 200 ok)
answer_script (events.Request req sess request) = reply_ok req request
answer_script event = Done

-- ## Proxies: forward, recorder, block, fork

-- all targets at once, 3xx followed, the application told; 181 seconds for each branch
unfoldable pub proxy_options : Bool → ProxyOptions
proxy_options record_route =
    record {
      parallel = true;
      recurse = true;
      supervised = true;
      record_route = record_route;
      timeout = 181;
    }

-- 483 where the request may go no further
unfoldable pub without_hops : ReqId → CallAnswer → Script
without_hops req answer = if is_no_hops answer then only (reply req 483 too_many_hops) else Done

-- the request is proxied to these targets
unfoldable pub proxy_script : ReqId → List Uri → Bool → Script
proxy_script req targets record_route =
    Make (calls.ProxyTo req targets (proxy_options record_route)) (without_hops req)

-- to the parameter's URI where there is a readable one, else on to the Request-URI
unfoldable pub forward_script : Bool → View → Event → Script
forward_script record_route view (events.Initial req sess region subscriber popped request) =
    proxy_script req (unwrap_or (uri_param view 0) request.uri ∷ []) record_route
forward_script record_route view event = Done

-- the user part of a `sip` URI
unfoldable pub user_of : Uri → Option Bytes
user_of (Sip uri) = uri.user
user_of (Other text) = None

-- the user in From is one of the application's parameters, byte for byte
unfoldable pub is_blocked : View → Request → Bool
is_blocked view request =
    option_map_or (λ user. list_any (same_bytes user) view.params) (user_of request.head.from.uri)
    false

-- `block`: 403 to the users of its parameters; others are proxied, and it leaves their path
unfoldable pub block_script : View → Event → Script
block_script view (events.Initial req sess region subscriber popped request) =
    if is_blocked view request then only (reply req 403 forbidden)
    else proxy_script req (request.uri ∷ []) false
block_script view event = Done

-- 500 where there is no target, 483 where the request may go no further
unfoldable pub without_targets : ReqId → CallAnswer → Script
without_targets req answer =
    if is_bad_text answer then only (reply req 500 server_error) else without_hops req answer

-- `fork`: the request is proxied to all URIs of the parameters at once
unfoldable pub fork_script : View → Event → Script
fork_script view (events.Initial req sess region subscriber popped request) =
    Make (calls.ProxyTo req (filter_map readable view.params) (proxy_options true))
    (without_targets req)
fork_script view event = Done

-- ## Back-to-back user agents: b2b, reverse (JSR 289 section 12)

-- where the second leg can't be made
unfoldable pub leg_failed : ReqId → CallAnswer → Script
leg_failed req answer =
    if is_no_hops answer then only (reply req 483 too_many_hops)
    else only (reply req 500 server_error)

-- 500 on the first leg where the second one couldn't be sent
unfoldable pub leg_sent : ReqId → CallAnswer → Script
leg_sent req answer = if is_refused answer then only (reply req 500 server_error) else Done

-- the second leg, sent after these calls on its draft
unfoldable pub leg_made : ReqId → (ℕ → Script → Script) → CallAnswer → Script
leg_made req before answers.Fine = Done
leg_made req before (answers.Number draft) = before draft (Make (calls.Send draft) (leg_sent req))
leg_made req before (answers.Refused refused) = leg_failed req (answers.Refused refused)

-- `r` and the number of a request that was sent: the attribute that names the request which it
-- serves
unfoldable pub served_name : ℕ → Bytes
served_name n = codes "r" ++ decimal n

-- a request of the peer, sent on in the dialog of the other leg
unfoldable pub sent_on : ReqId → Request → SessId → Script
sent_on req request other =
    Make
    (calls.CreateInDialog other
    (record {
      method = request.method;
      fields = request.head.others;
      body = request.head.body;
    }))
    (with_number (λ draft. Make (calls.Send draft)
    (with_number (λ n. only (calls.SetAttribute (served_name n) (decimal req.0))))))

-- a later request of one leg, on the other one; an ACK acknowledges the 2xx there
unfoldable pub other_leg : ReqId → Request → SessId → Script
other_leg req request other =
    if same_bytes request.method ack then only (calls.Ack other request.head.body)
    else sent_on req request other

-- a response to a request that was sent on
unfoldable pub sent_back : View → ReqId → Response → Script
sent_back view req response =
    where_some (option_and_then small_number (attribute (served_name req.0) view)) (λ n.
    then_make (calls.Respond (record { 0 = n }) (same_answer response))
    (if is_final response.code then only (calls.RemoveAttribute (served_name req.0)) else Done))

-- the request began its SipSession
unfoldable pub is_initial : View → ReqId → Bool
is_initial view req = option_map_or (λ request. request.initial) (request_in view req) false

-- the initial request that was sent in a SipSession
unfoldable pub sent_initial : View → SessId → Option RequestView
sent_initial view sess =
    find (λ request. request.initial && not request.received && request.sess.0 == sess.0)
    view.requests

-- a back-to-back user agent with these calls before its second leg is sent: what comes on a leg
-- goes on to the other one
unfoldable pub leg_script : (ReqId → ℕ → Script → Script) → View → Event → Script
leg_script before view (events.Initial req sess region subscriber popped request) =
    Make (calls.B2bCreate req None) (leg_made req (before req))
leg_script before view (events.Request req sess request) =
    where_some (partner view sess) (other_leg req request)
leg_script before view (events.Response req sess response) =
    if is_initial view req
    then where_some (partner view sess)
    (λ other. only (calls.B2bRespond other (same_answer response)))
    else sent_back view req response
leg_script before view (events.Branch req sess response) = Done
leg_script before view (events.Cancelled req sess) =
    where_some (partner view sess)
    (λ other. where_some (sent_initial view other) (λ request. only (calls.Cancel request.id)))
leg_script before view (events.Timer id info) = Done
leg_script before view events.Expired = Done
leg_script before view events.Ready = Done

-- `b2b`: the second leg goes on along the router's list
unfoldable pub b2b_script : View → Event → Script
b2b_script view event = leg_script (λ req draft script. script) view event

-- the router is asked for the other region
unfoldable pub reverse_script : View → Event → Script
reverse_script view event =
    leg_script (λ req draft script. then_make (calls.SetDirective draft Reverse (Some req)) script)
    view event

-- ## dial

-- the address of a URI, without display name and parameters
unfoldable pub plain_address : Uri → Address
plain_address uri = record { display = None; uri = uri; params = [] }

-- an OPTIONS of one's own, from one URI to the other, for which the router begins anew
unfoldable pub dial_ask : Uri → Uri → Ask
dial_ask from to = record {
  method = options;
  uri = to;
  from = plain_address from;
  to = plain_address to;
  fields = [];
  contact = [];
  body = [];
  directive = New;
  origin = None;
}

-- `dial`: 200, and an OPTIONS from the first URI of the parameters to the second
unfoldable pub dial_script : View → Event → Script
dial_script view (events.Initial req sess region subscriber popped request) =
    then_make (reply req 200 ok)
    (where_some (uri_param view 0) (λ from. where_some (uri_param view 1) (λ to.
    Make (calls.CreateRequest (dial_ask from to))
    (with_number (λ draft. only (calls.Send draft))))))
dial_script view event = Done

-- ## ringer

-- the parameter by which `ringer` drops the call
unfoldable pub drop_word : Bytes
drop_word = codes "drop"

-- for so many milliseconds it rings
unfoldable pub ringing_time : View → ℕ
ringing_time view = unwrap_or (option_and_then small_number (param_at view 0)) 1000

-- the second parameter says that the call is dropped instead of answered
unfoldable pub drops : View → Bool
drops view = option_map_or (same_bytes drop_word) (param_at view 1) false

-- 180, and a timer that names the request
unfoldable pub ring : View → ReqId → Script
ring view req =
    then_make (reply req 180 ringing)
    (only (calls.StartTimer (ringing_time view) Once (decimal req.0)))

-- `ringer`: an INVITE rings for a time and is answered 200 then, or dropped with its session
unfoldable pub ringer_script : View → Event → Script
ringer_script view (events.Initial req sess region subscriber popped request) =
    if same_bytes request.method invite then ring view req else only (reply req 200 ok)
ringer_script view (events.Request req sess request) = reply_ok req request
ringer_script view (events.Response req sess response) = Done
ringer_script view (events.Branch req sess response) = Done
ringer_script view (events.Cancelled req sess) =
    where_some (slice_get view.timers 0) (λ timer. only (calls.CancelTimer timer.id))
ringer_script view (events.Timer id info) =
    if drops view then only calls.InvalidateApplication
    else where_some (small_number info) (λ n. only (reply (record { 0 = n }) 200 ok))
ringer_script view events.Expired = Done
ringer_script view events.Ready = Done

-- ## The listener

-- the attribute that says that the expiry was moved once
unfoldable pub extended_name : Bytes
extended_name = codes "ext"

-- its value
unfoldable pub extended_value : Bytes
extended_value = codes "1"

-- at the first expiry three minutes more
unfoldable pub extend_script : View → Event → Script
extend_script view events.Expired =
    if is_some (attribute extended_name view) then Done
    else then_make (calls.SetAttribute extended_name extended_value)
    (only (calls.SetExpires (pos 3)))
extend_script view event = Done
