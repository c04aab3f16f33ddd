-- What refusals of calls look at: the limits, which are this project's own, what a call names, and
-- its texts (RFC 3261 sections 7.3 and 25.1).
use Rattle.std.specs.Prelude.{ℕ, ◌+◌, ◌==◌, List, [], ◌∷◌, Bool, true, not, ◌||◌, ◌&&◌, Option, None, Some, is_none, option_map, nat_lt, nat_le, if◌then◌else◌, length, min, position}
use Rattle.std.specs.List.{find, list_any}
use Rattle.std.specs.Option.{option_or, option_map_or}
use Rattle.sc_value.specs.declared.ids.ReqId.{ReqId}
use Rattle.sc_value.specs.declared.ids.SessId.{SessId}
use Rattle.sc_value.specs.declared.parts.Field.{Field}
use Rattle.sc_tokens.specs.HeaderNames.{is_system_name}
use Rattle.sc_tokens.specs.Names.{same_bytes}
use Rattle.sc_tokens.specs.Tokens.{is_token, is_one_line}
use Rattle.sc_terms.specs.declared.views.View.{View}
use Rattle.sc_terms.specs.declared.calls.Answer.{Answer}
use Rattle.sc_terms.specs.declared.calls.Ask.{Ask}
use Rattle.sc_terms.specs.declared.calls.Call.{Call}
use Rattle.sc_terms.specs.declared.calls.Call.TheVariants as calls
use Rattle.sc_terms.specs.declared.calls.Target.TheVariants as targets
use Rattle.sc_terms.specs.declared.calls.Refusal.{Refusal}
use Rattle.sc_terms.specs.declared.calls.Refusal.TheVariants.{NotYours, Invalidated, BadText}
use Rattle.sc_state.specs.declared.working.Draft.{Draft}
use Rattle.sc_state.specs.declared.working.Play.{Play}
use Rattle.sc_tokens.specs.Bytes.{Bytes}
use Rattle.sc_hosts.specs.Looking.{is_gone_in, request_in, session_in}
use Rattle.sc_hosts.specs.Words.{register, options}
use Rattle.sc_model.specs.SessionStates.{ack}
use Rattle.sc_model.specs.DialogRequests.{cancel, is_bad_field}

-- ## Limits

-- the calls that a turn lists
abbrev pub MOST_CALLS : ℕ
MOST_CALLS = 256

-- the SipSessions that an application session has at a time
abbrev pub MOST_SESSIONS : ℕ
MOST_SESSIONS = 64

-- the targets that an application session proxies its request to, those of 3xx included
abbrev pub MOST_BRANCHES : ℕ
MOST_BRANCHES = 32

-- the servlet timers that are active at a time
abbrev pub MOST_TIMERS : ℕ
MOST_TIMERS = 64

-- the bytes of all attributes, their names and values
abbrev pub MOST_ATTRIBUTE_BYTES : ℕ
MOST_ATTRIBUTE_BYTES = 4096

-- the first test that holds gives the refusal
unfoldable pub first_of : List (Bool × Refusal) → Option Refusal
first_of [] = None
first_of ((test, refusal) ∷ rest) = if test then Some refusal else first_of rest

-- ## What a call names

-- the draft of this number, if it wasn't sent or dropped
abbrev pub draft_in : Play → ℕ → Option Draft
draft_in play number = find (λ draft. draft.number == number) play.drafts

-- the SipSession of a request or a draft, none where nothing has the number
unfoldable pub session_of_request : Play → ReqId → Option SessId
session_of_request play req = option_map (λ request. request.sess) (request_in play.view req)

-- the same for a draft
unfoldable pub session_of_draft : Play → ℕ → Option SessId
session_of_draft play number = option_map (λ draft. draft.sess) (draft_in play number)

-- the SipSession of this number, none where nothing has it
unfoldable pub known_session : Play → SessId → Option SessId
known_session play sess = option_map (λ session. session.id) (session_in play.view sess)

-- the SipSession of an origin, where the call has one
unfoldable pub of_origin : Play → Option ReqId → List (Option SessId)
of_origin play None = []
of_origin play (Some req) = session_of_request play req ∷ []

-- the SipSessions that the call names by themselves, by a request or by a draft
unfoldable pub sessions_in_call : Play → Call → List (Option SessId)
sessions_in_call play (calls.Respond req answer) = session_of_request play req ∷ []
sessions_in_call play (calls.CreateRequest ask) = of_origin play ask.origin
sessions_in_call play (calls.CreateInDialog sess ask) = known_session play sess ∷ []
sessions_in_call play (calls.B2bCreate req uri) = session_of_request play req ∷ []
sessions_in_call play (calls.SetDirective draft directive origin) =
    session_of_draft play draft ∷ of_origin play origin
sessions_in_call play (calls.Send draft) = session_of_draft play draft ∷ []
sessions_in_call play (calls.Discard draft) = session_of_draft play draft ∷ []
sessions_in_call play (calls.Ack sess body) = known_session play sess ∷ []
sessions_in_call play (calls.Cancel req) = session_of_request play req ∷ []
sessions_in_call play (calls.ProxyTo req uris how) = session_of_request play req ∷ []
sessions_in_call play (calls.ProxyCancel req) = session_of_request play req ∷ []
sessions_in_call play (calls.B2bRespond sess answer) = known_session play sess ∷ []
sessions_in_call play (calls.Link a b) = known_session play a ∷ known_session play b ∷ []
sessions_in_call play (calls.Unlink a) = known_session play a ∷ []
sessions_in_call play (calls.StartTimer delay period info) = []
sessions_in_call play (calls.CancelTimer id) = []
sessions_in_call play (calls.SetAttribute name value) = []
sessions_in_call play (calls.RemoveAttribute name) = []
sessions_in_call play (calls.SetExpires minutes) = []
sessions_in_call play (calls.SetReadyFlag (targets.Session sess) flag) =
    known_session play sess ∷ []
sessions_in_call play (calls.SetReadyFlag targets.Application flag) = []
sessions_in_call play (calls.InvalidateSession sess) = known_session play sess ∷ []
sessions_in_call play calls.InvalidateApplication = []

-- some number names nothing, and then some SipSession that is named is gone
unfoldable pub name_refusal : View → List (Option SessId) → Option Refusal
name_refusal view names =
    if list_any is_none names then Some NotYours
    else
    (if list_any (λ name. option_map_or (is_gone_in view) name true) names then Some Invalidated
    else None)

-- ## Texts (RFC 3261 sections 7.3 and 25.1)

-- the number of the first field out of form: 2 and more by its place
unfoldable pub bad_field : List Field → Option Refusal
bad_field fields = option_map (λ i. BadText (min (i + 2) 4294967295)) (position is_bad_field fields)

-- some field is a header that the container sets itself
unfoldable pub has_system_name : List Field → Bool
has_system_name fields = list_any (λ field. is_system_name field.name) fields

-- a code outside 101 to 699, then a reason of more than one line, then a field
unfoldable pub answer_text : Answer → Option Refusal
answer_text answer =
    option_or
    (first_of
    ((nat_lt answer.code 101 || nat_lt 699 answer.code, BadText 0)
    ∷ (not (is_one_line answer.reason), BadText 1) ∷ [])) (bad_field answer.fields)

-- a method that is no token, or is ACK or CANCEL
unfoldable pub is_bad_method : Bytes → Bool
is_bad_method method = not (is_token method) || same_bytes method ack || same_bytes method cancel

-- a faulty text of a request that is asked for: its method, then its fields
unfoldable pub asked_text : Bytes → List Field → Option Refusal
asked_text method fields =
    option_or (first_of ((is_bad_method method, BadText 0) ∷ [])) (bad_field fields)

-- an answer may carry a Contact of its own where it is a 3xx, a 485, a 200 to OPTIONS, or answers a
-- REGISTER (RFC 3261 sections 10.3, 11.2 and 21)
unfoldable pub may_have_contact : Bytes → ℕ → Bool
may_have_contact method code =
    (nat_le 300 code && nat_lt code 400) || code == 485
    || (code == 200 && same_bytes method options) || same_bytes method register

-- an answer with a header of the container's own, or with a Contact that it may not have
unfoldable pub has_system_answer : Bytes → Answer → Bool
has_system_answer method answer =
    has_system_name answer.fields
    || (not (length answer.contact == 0) && not (may_have_contact method answer.code))

-- a request with a header of the container's own, or with a Contact that isn't a REGISTER
unfoldable pub has_system_ask : Ask → Bool
has_system_ask ask =
    has_system_name ask.fields
    || (not (length ask.contact == 0) && not (same_bytes ask.method register))
