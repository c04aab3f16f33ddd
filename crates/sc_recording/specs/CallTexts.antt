-- The calls of a turn as text: a line for each call, its name, its arguments and what it answered.
-- The form is this project's own.
use Rattle.std.specs.Prelude.{ℕ, ℤ, pos, negsuc, ◌+◌, List, [], ◌∷◌, ◌++◌, Bool, true, false, Option, None, Some, codes, decimal, length}
use Rattle.std.specs.List.{flat_map}
use Rattle.sc_value.specs.declared.ids.ReqId.{ReqId}
use Rattle.sc_value.specs.declared.ids.Directive.{Directive}
use Rattle.sc_value.specs.declared.ids.Directive.TheVariants as directives
use Rattle.sc_value.specs.declared.parts.Uri.{Uri}
use Rattle.sc_value.specs.declared.parts.Contact.{Contact}
use Rattle.sc_value.specs.declared.parts.Field.{Field}
use Rattle.sc_terms.specs.declared.views.State.{State}
use Rattle.sc_terms.specs.declared.views.State.TheVariants as states
use Rattle.sc_terms.specs.declared.views.Period.{Period}
use Rattle.sc_terms.specs.declared.views.Period.TheVariants as periods
use Rattle.sc_terms.specs.declared.inside.Inside.{Inside}
use Rattle.sc_terms.specs.declared.calls.Answer.{Answer}
use Rattle.sc_terms.specs.declared.calls.Ask.{Ask}
use Rattle.sc_terms.specs.declared.calls.ProxyOptions.{ProxyOptions}
use Rattle.sc_terms.specs.declared.calls.Target.{Target}
use Rattle.sc_terms.specs.declared.calls.Target.TheVariants as targets
use Rattle.sc_terms.specs.declared.calls.Call.{Call}
use Rattle.sc_terms.specs.declared.calls.Call.TheVariants as calls
use Rattle.sc_terms.specs.declared.calls.Refusal.{Refusal}
use Rattle.sc_terms.specs.declared.calls.Refusal.TheVariants as refusals
use Rattle.sc_terms.specs.declared.calls.CallAnswer.{CallAnswer}
use Rattle.sc_terms.specs.declared.calls.CallAnswer.TheVariants as answers
use Rattle.sc_terms.specs.declared.calls.CallRecord.{CallRecord}
use Rattle.sc_tokens.specs.Bytes.{Bytes}
use Rattle.sc_grammar.specs.Written.{address_text, contact_text, uri_text}
use Rattle.sc_tokens.specs.Signs.{line_feed, space}

-- ## Longer words

-- the name of the call that makes an initial request
unfoldable pub create_request_word : Bytes
create_request_word = codes "create_request"

-- the name of the call that makes a request in a dialog
unfoldable pub create_in_dialog_word : Bytes
create_in_dialog_word = codes "create_in_dialog"

-- the name of the call that answers the request of a SipSession
unfoldable pub b2b_respond_word : Bytes
b2b_respond_word = codes "b2b_respond"

-- the name of the call that sets an attribute
unfoldable pub set_attribute_word : Bytes
set_attribute_word = codes "set_attribute"

-- the name of the call that sets a flag
unfoldable pub set_ready_flag_word : Bytes
set_ready_flag_word = codes "set_ready_flag"

-- the name of the call that ends a SipSession
unfoldable pub invalidate_session_word : Bytes
invalidate_session_word = codes "invalidate_session"

-- the name of the call that ends the application session
unfoldable pub invalidate_application_word : Bytes
invalidate_application_word = codes "invalidate_application"

-- a refusal for the state of a SipSession
unfoldable pub wrong_state_word : Bytes
wrong_state_word = codes "wrong_state"

-- ## The parts of a line, each behind a blank

-- a number
unfoldable pub decimal_text : ℕ → Bytes
decimal_text n = space ∷ decimal n

-- a number that may be missing
unfoldable pub numbered_or : Option ℕ → Bytes
numbered_or None = codes " -"
numbered_or (Some n) = decimal_text n

-- a number of either sign
unfoldable pub integer_text : ℤ → Bytes
integer_text (pos n) = decimal_text n
integer_text (negsuc n) = codes " -" ++ decimal (n + 1)

-- a text of any bytes: how many they are, a colon, and the bytes
unfoldable pub text_with_length : Bytes → Bytes
text_with_length text = decimal_text (length text) ++ codes ":" ++ text

-- a flag
unfoldable pub flag_text : Bool → Bytes
flag_text true = codes " yes"
flag_text false = codes " no"

-- a URI that may be missing
unfoldable pub uri_or : Option Uri → Bytes
uri_or None = codes " -"
uri_or (Some uri) = text_with_length (uri_text uri)

-- a URI
unfoldable pub uri_part : Uri → Bytes
uri_part uri = text_with_length (uri_text uri)

-- an item of a Contact
unfoldable pub contact_part : Contact → Bytes
contact_part contact = text_with_length (contact_text contact)

-- a header without structure
unfoldable pub field_part : Field → Bytes
field_part field = text_with_length field.name ++ text_with_length field.value

-- how many there are, and each of them
unfoldable pub uris_text : List Uri → Bytes
uris_text uris = decimal_text (length uris) ++ flat_map uri_part uris

-- how many there are, and each of them
unfoldable pub contacts_text : List Contact → Bytes
contacts_text contacts = decimal_text (length contacts) ++ flat_map contact_part contacts

-- how many there are, and each of them
unfoldable pub fields_text : List Field → Bytes
fields_text fields = decimal_text (length fields) ++ flat_map field_part fields

-- how the router goes on
unfoldable pub directive_text : Directive → Bytes
directive_text directives.New = codes " new"
directive_text directives.Continue = codes " continue"
directive_text directives.Reverse = codes " reverse"

-- when a timer fires again, in milliseconds
unfoldable pub period_text : Period → Bytes
period_text periods.Once = codes " once"
period_text (periods.Rate ms) = codes " rate" ++ decimal_text ms
period_text (periods.Delay ms) = codes " delay" ++ decimal_text ms

-- what a flag is set of
unfoldable pub target_text : Target → Bytes
target_text targets.Application = codes " application"
target_text (targets.Session sess) = codes " session" ++ decimal_text sess.0

-- whether all are tried at once, contacts of a 3xx are tried too, the application is told of
-- responses, and it stays on the path of later requests
unfoldable pub flags_text : ProxyOptions → Bytes
flags_text options =
    flag_text options.parallel ++ flag_text options.recurse ++ flag_text options.supervised
    ++ flag_text options.record_route

-- how a request is proxied: four flags, and the seconds of a branch
unfoldable pub options_text : ProxyOptions → Bytes
options_text options = flags_text options ++ decimal_text options.timeout

-- a response that is given: code, reason, fields, Contacts, body
unfoldable pub given_text : Answer → Bytes
given_text answer =
    decimal_text answer.code ++ text_with_length answer.reason ++ fields_text answer.fields
    ++ contacts_text answer.contact ++ text_with_length answer.body

-- the number of a request that may be missing
unfoldable pub number_or : Option ReqId → Option ℕ
number_or None = None
number_or (Some req) = Some req.0

-- the request from which the router goes on
unfoldable pub origin_of : Ask → Option ℕ
origin_of ask = number_or ask.origin

-- the addresses of a request that is made, and how the router goes on for it
unfoldable pub routed_text : Ask → Bytes
routed_text ask =
    text_with_length (uri_text ask.uri) ++ text_with_length (address_text ask.from)
    ++ text_with_length (address_text ask.to)
    ++ directive_text ask.directive ++ numbered_or (origin_of ask)

-- a request that is made: method, addresses, fields, Contacts, body
unfoldable pub ask_text : Ask → Bytes
ask_text ask =
    text_with_length ask.method ++ routed_text ask ++ fields_text ask.fields
    ++ contacts_text ask.contact
    ++ text_with_length ask.body

-- a request in a dialog: method, fields, body
unfoldable pub inside_text : Inside → Bytes
inside_text ask = text_with_length ask.method ++ fields_text ask.fields ++ text_with_length ask.body

-- ## The calls

-- the name of a call and the number of what it acts on
unfoldable pub acting_on : Bytes → ℕ → Bytes
acting_on name n = name ++ decimal_text n

-- a call with its arguments
unfoldable pub call_text : Call → Bytes
call_text (calls.Respond req answer) = acting_on (codes "respond") req.0 ++ given_text answer
call_text (calls.CreateRequest ask) = create_request_word ++ ask_text ask
call_text (calls.CreateInDialog sess ask) =
    acting_on create_in_dialog_word sess.0 ++ inside_text ask
call_text (calls.B2bCreate req uri) = acting_on (codes "b2b_create") req.0 ++ uri_or uri
call_text (calls.SetDirective draft directive origin) =
    acting_on (codes "set_directive") draft ++ directive_text directive
    ++ numbered_or (number_or origin)
call_text (calls.Send draft) = acting_on (codes "send") draft
call_text (calls.Discard draft) = acting_on (codes "discard") draft
call_text (calls.Ack sess body) = acting_on (codes "ack") sess.0 ++ text_with_length body
call_text (calls.Cancel req) = acting_on (codes "cancel") req.0
call_text (calls.ProxyTo req uris options) =
    acting_on (codes "proxy_to") req.0 ++ options_text options ++ uris_text uris
call_text (calls.ProxyCancel req) = acting_on (codes "proxy_cancel") req.0
call_text (calls.B2bRespond sess answer) = acting_on b2b_respond_word sess.0 ++ given_text answer
call_text (calls.Link a b) = acting_on (codes "link") a.0 ++ decimal_text b.0
call_text (calls.Unlink a) = acting_on (codes "unlink") a.0
call_text (calls.StartTimer delay period info) =
    acting_on (codes "start_timer") delay ++ period_text period ++ text_with_length info
call_text (calls.CancelTimer id) = acting_on (codes "cancel_timer") id.0
call_text (calls.SetAttribute name value) =
    set_attribute_word ++ text_with_length name ++ text_with_length value
call_text (calls.RemoveAttribute name) = codes "remove_attribute" ++ text_with_length name
call_text (calls.SetExpires minutes) = codes "set_expires" ++ integer_text minutes
call_text (calls.SetReadyFlag target flag) =
    set_ready_flag_word ++ target_text target ++ flag_text flag
call_text (calls.InvalidateSession sess) = acting_on invalidate_session_word sess.0
call_text calls.InvalidateApplication = invalidate_application_word

-- ## What they answered

-- the state of a SipSession
unfoldable pub state_text : State → Bytes
state_text states.Initial = codes " initial"
state_text states.Early = codes " early"
state_text states.Confirmed = codes " confirmed"
state_text states.Terminated = codes " terminated"

-- why a call was refused
unfoldable pub refusal_text : Refusal → Bytes
refusal_text refusals.NotYours = codes "not_yours"
refusal_text refusals.AlreadyAnswered = codes "already_answered"
refusal_text refusals.NotInitial = codes "not_initial"
refusal_text (refusals.WrongState state) = wrong_state_word ++ state_text state
refusal_text refusals.AlreadyProxy = codes "already_proxy"
refusal_text (refusals.AlreadyLinked sess) = acting_on (codes "already_linked") sess.0
refusal_text refusals.NotLinked = codes "not_linked"
refusal_text refusals.Invalidated = codes "invalidated"
refusal_text (refusals.Limit n) = acting_on (codes "limit") n
refusal_text refusals.SystemHeader = codes "system_header"
refusal_text (refusals.BadText n) = acting_on (codes "bad_text") n
refusal_text refusals.NoHops = codes "no_hops"
refusal_text refusals.NotSent = codes "not_sent"
refusal_text refusals.NoMemory = codes "no_memory"

-- what a call answered
unfoldable pub answer_text : CallAnswer → Bytes
answer_text answers.Fine = codes " = fine"
answer_text (answers.Number n) = acting_on (codes " =") n
answer_text (answers.Refused refusal) = codes " = refused " ++ refusal_text refusal

-- the line of a call
unfoldable pub call_line : CallRecord → Bytes
call_line made = call_text made.call ++ answer_text made.answer ++ line_feed ∷ []

-- the lines of all calls of a turn, in their order
unfoldable pub calls_text : List CallRecord → Bytes
calls_text calls = flat_map call_line calls
