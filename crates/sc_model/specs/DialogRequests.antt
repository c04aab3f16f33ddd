-- The requests that are made in a dialog (RFC 3261 sections 12.2.1.1 and 13.2.2.4).
use Rattle.std.specs.Prelude.{ℕ, ◌+◌, List, [], Bool, not, ◌&&◌, ◌||◌, codes, map}
use Rattle.std.specs.List.{list_all}
use Rattle.sc_value.specs.declared.parts.Field.{Field}
use Rattle.sc_value.specs.declared.message.Head.{Head}
use Rattle.sc_value.specs.declared.message.Request.{Request}
use Rattle.sc_tokens.specs.HeaderNames.{is_system_name}
use Rattle.sc_tokens.specs.Names.{same_bytes}
use Rattle.sc_tokens.specs.Tokens.{is_token, is_value}
use Rattle.sc_terms.specs.declared.inside.Inside.{Inside}
use Rattle.sc_tokens.specs.Bytes.{Bytes}
use Rattle.sc_model.specs.Dialogs.{DialogState}
use Rattle.sc_model.specs.Responses.{kept_field}
use Rattle.sc_model.specs.SessionStates.{ack}

-- the method that ends an INVITE which has no final response (RFC 3261 section 9)
unfoldable pub cancel : Bytes
cancel = codes "CANCEL"

-- a method that an application may ask for: ACK and CANCEL have calls of their own
unfoldable pub is_asked_method : Bytes → Bool
is_asked_method method =
    is_token method && not (same_bytes method ack) && not (same_bytes method cancel)

-- the field's name is no token, or its value no header value
unfoldable pub is_bad_field : Field → Bool
is_bad_field field = not (is_token field.name) || not (is_value field.value)

-- the field is no header that the container sets itself, and is in form
unfoldable pub is_asked_field : Field → Bool
is_asked_field field = not (is_system_name field.name) && not (is_bad_field field)

-- what an application may ask for in a dialog
unfoldable pub is_askable : Inside → Bool
is_askable ask = is_asked_method ask.method && list_all is_asked_field ask.fields

-- the head of a request in a dialog. Via and Contact are added by the host that sends it
unfoldable pub later_head : DialogState → ℕ → Bytes → List Field → Bytes → Head
later_head dialog number method fields body = record {
  via = [];
  route = dialog.route_set;
  record_route = [];
  from = dialog.local;
  to = dialog.remote;
  call_id = dialog.call_id;
  cseq = record { number = number; method = method };
  contact = [];
  others = fields;
  body = body;
}

-- a request in a dialog: it goes to the target by the route set
unfoldable pub later_request : DialogState → ℕ → Bytes → List Field → Bytes → Request
later_request dialog number method fields body = record {
  method = method;
  uri = dialog.target;
  hops = 70;
  head = later_head dialog number method fields body;
}

-- the next request, numbered one above the greatest sent
unfoldable pub next_request : DialogState → Inside → Request
next_request dialog ask =
    later_request dialog (dialog.sent + 1) ask.method (map kept_field ask.fields) ask.body

-- the ACK to a 2xx, numbered as the INVITE
unfoldable pub ack_request : DialogState → ℕ → Bytes → Request
ack_request dialog number body = later_request dialog number ack [] body
