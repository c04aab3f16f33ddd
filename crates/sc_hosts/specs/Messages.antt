-- The messages that a host makes (RFC 3261 sections 8, 9.1, 12.2, 16.6 and 17.1.1.3).
use Rattle.std.specs.Prelude.{ℕ, ◌-◌, List, [], ◌∷◌, Bool, ◌&&◌, ◌||◌, Option, None, Some, option_map, unwrap_or, nat_lt, if◌then◌else◌, codes, map, slice_get, drop}
use Rattle.sc_value.specs.declared.ids.AppId.{AppId}
use Rattle.sc_value.specs.declared.parts.Address.{Address}
use Rattle.sc_value.specs.declared.parts.Contact.{Contact}
use Rattle.sc_value.specs.declared.parts.Contact.TheVariants.{At}
use Rattle.sc_value.specs.declared.parts.SipUri.{SipUri}
use Rattle.sc_value.specs.declared.parts.Uri.{Uri}
use Rattle.sc_value.specs.declared.parts.Uri.TheVariants.{Sip}
use Rattle.sc_value.specs.declared.parts.Via.{Via}
use Rattle.sc_value.specs.declared.message.Request.{Request}
use Rattle.sc_value.specs.declared.message.Response.{Response}
use Rattle.sc_tokens.specs.Names.{same_bytes}
use Rattle.sc_value.specs.Params.{branch_name}
use Rattle.sc_terms.specs.declared.settings.Config.{Config}
use Rattle.sc_terms.specs.declared.calls.Answer.{Answer}
use Rattle.sc_terms.specs.declared.calls.Ask.{Ask}
use Rattle.sc_value.specs.declared.answerable.Answerable.{Answerable}
use Rattle.sc_terms.specs.declared.views.View.{View}
use Rattle.sc_tokens.specs.Bytes.{Bytes}
use Rattle.sc_model.specs.Dialogs.{sets_target, subscribe}
use Rattle.sc_model.specs.Names.{branch_text, session_uri, edge_tag}
use Rattle.sc_model.specs.Records.{ip_text}
use Rattle.sc_model.specs.Responses.{address_with_tag, address_without_tag, kept_field, response_to, with_tag}
use Rattle.sc_model.specs.SessionStates.{invite, ack}
use Rattle.sc_hosts.specs.Words.{bad_request}
use Rattle.sc_model.specs.DialogRequests.{cancel}

-- ## The container's own marks

-- the transport of each own Via
unfoldable pub tcp : Bytes
tcp = codes "TCP"

-- the Via of a branch (RFC 3261 section 8.1.1.7)
unfoldable pub own_via : Config → ℕ → AppId → ℕ → Via
own_via config epoch app branch = record {
  transport = tcp;
  host = ip_text config.listen.0;
  port = Some config.listen.1;
  params =
      record { name = branch_name; value = Some (branch_text config.salt epoch app branch) } ∷ [];
}

-- the address of a URI, without display name and parameters
unfoldable pub plain : SipUri → Address
plain uri = record { display = None; uri = Sip uri; params = [] }

-- the Record-Route and Contact of an application session
unfoldable pub own_address : Config → ℕ → AppId → Address
own_address config epoch app =
    plain (session_uri (ip_text config.listen.0) config.listen.1 epoch app)

-- the request with this Via on top
abbrev pub with_via : Via → Request → Request
with_via via request =
    record request { head = record request.head { via = via ∷ request.head.via } }

-- the request as it is sent on this branch
unfoldable pub on_branch : Config → View → ℕ → Request → Request
on_branch config view branch request = with_via (own_via config view.epoch view.app branch) request

-- the request with these Contacts in place of its own
abbrev pub with_contact : List Contact → Request → Request
with_contact contacts request = record request { head = record request.head { contact = contacts } }

-- a request that an application makes has the own Contact where it sets the target of a dialog
unfoldable pub from_here : Config → View → Request → Request
from_here config view request =
    if sets_target request.method
    then with_contact (At (own_address config view.epoch view.app) ∷ []) request
    else request

-- ## Initial requests

-- a request of one's own, with these names (RFC 3261 section 8.1.1)
unfoldable pub asked_request : Bytes → Bytes → Ask → Request
asked_request call_id tag ask = record {
  method = ask.method;
  uri = ask.uri;
  hops = 70;
  head = record {
    via = [];
    route = [];
    record_route = [];
    from = address_with_tag tag ask.from;
    to = address_without_tag ask.to;
    call_id = call_id;
    cseq = record { number = 1; method = ask.method };
    contact = ask.contact;
    others = map kept_field ask.fields;
    body = ask.body;
  };
}

-- the second leg of a back-to-back agent (JSR 289 section 12.3): what the application didn't change
-- is that of the first
unfoldable pub leg_request : Bytes → Bytes → Option Uri → Request → Request
leg_request call_id tag uri request = record {
  method = request.method;
  uri = unwrap_or uri request.uri;
  hops = request.hops - 1;
  head = record {
    via = [];
    route = request.head.route;
    record_route = [];
    from = address_with_tag tag request.head.from;
    to = address_without_tag request.head.to;
    call_id = call_id;
    cseq = record { number = 1; method = request.method };
    contact = [];
    others = request.head.others;
    body = request.head.body;
  };
}

-- a proxied request (RFC 3261 section 16.6): the target, one hop less, and the own Record-Route on
-- top where the application stays on the path
unfoldable pub proxied_request : Config → View → Bool → Uri → Request → Request
proxied_request config view record_route target request = record request {
  uri = target;
  hops = request.hops - 1;
  head = record request.head {
    record_route =
        if record_route then own_address config view.epoch view.app ∷ request.head.record_route
        else request.head.record_route;
  };
}

-- a later request on a proxied dialog
unfoldable pub passed_request : Request → Request
passed_request request = record request { hops = request.hops - 1 }

-- ## Responses

-- a 101 to 299
abbrev pub makes_dialog : ℕ → Bool
makes_dialog code = nat_lt 100 code && nat_lt code 300

-- the request begins a dialog where it is accepted
abbrev pub begins_dialog : Request → Bool
begins_dialog request = same_bytes request.method invite || same_bytes request.method subscribe

-- the Record-Route list goes back in the answer that makes the dialog (RFC 3261 section 12.1.1)
unfoldable pub with_routes : Bool → Request → Response → Response
with_routes initial request response =
    if initial && begins_dialog request && makes_dialog response.code
    then
    record response { head = record response.head { record_route = request.head.record_route } }
    else response

-- an answer that sets the target of a dialog has the own Contact
unfoldable pub answered_here : Config → View → Request → Response → Response
answered_here config view request response =
    if sets_target request.method && makes_dialog response.code
    then
    record response {
      head = record response.head { contact = At (own_address config view.epoch view.app) ∷ [] };
    } else response

-- the response to a received request that an application gives
unfoldable pub given_response : Config → View → Bytes → Bool → Request → Answer → Response
given_response config view tag initial request answer =
    with_routes initial request (answered_here config view request (response_to tag request answer))

-- an answer of code and reason alone
unfoldable pub bare_answer : ℕ → Bytes → Answer
bare_answer code reason =
    record { code = code; reason = reason; fields = []; contact = []; body = [] }

-- a response that the container gives by itself
unfoldable pub own_response : Bytes → ℕ → Bytes → Request → Response
own_response tag code reason request = response_to tag request (bare_answer code reason)

-- 100 has no tag (RFC 3261 section 8.2.6.1)
unfoldable pub trying_response : Bytes → Request → Response
trying_response reason request = record (response_to [] request (bare_answer 100 reason)) {
  head = record (response_to [] request (bare_answer 100 reason)).head { to = request.head.to };
}

-- the answer to a text that isn't a message
unfoldable pub bad_response : Bytes → Answerable → Response
bad_response salt heads = record {
  code = 400;
  reason = bad_request;
  head = record {
    via = heads.via;
    route = [];
    record_route = [];
    from = heads.from;
    to = with_tag (edge_tag salt) heads.to;
    call_id = heads.call_id;
    cseq = heads.cseq;
    contact = [];
    others = [];
    body = [];
  };
}

-- a response without its top Via
unfoldable pub without_via : Response → Response
without_via response =
    record response { head = record response.head { via = drop 1 response.head.via } }

-- ## CANCEL, and the ACK to another final response than 2xx (RFC 3261 sections 9.1 and 17.1.1.3)

-- with the top Via, Request-URI, Route, From, Call-ID and CSeq number of the INVITE, and with this
-- To
unfoldable pub kin : Bytes → Address → Request → Request
kin method to request = record {
  method = method;
  uri = request.uri;
  hops = 70;
  head = record {
    via = unwrap_or (option_map (λ via. via ∷ []) (slice_get request.head.via 0)) [];
    route = request.head.route;
    record_route = [];
    from = request.head.from;
    to = to;
    call_id = request.head.call_id;
    cseq = record request.head.cseq { method = method };
    contact = [];
    others = [];
    body = [];
  };
}

-- the CANCEL of a request that was sent (RFC 3261 section 9.1)
unfoldable pub cancel_of : Request → Request
cancel_of request = kin cancel request.head.to request

-- the ACK to a response other than 2xx, with the response's To (RFC 3261 section 17.1.1.3)
unfoldable pub ack_of : Request → Response → Request
ack_of request response = kin ack response.head.to request
