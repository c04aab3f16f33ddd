-- The size of a journal in bytes, by which its limit counts. This project's own.
use Rattle.std.specs.Prelude.{◌≡◌, ℕ, ◌+◌, ◌<◌, ◌⊎◌, List, Option, None, Some, length, sum_by}
use Rattle.sc_value.specs.declared.parts.Param.{Param}
use Rattle.sc_value.specs.declared.parts.SipUri.{SipUri}
use Rattle.sc_value.specs.declared.parts.Uri.{Uri}
use Rattle.sc_value.specs.declared.parts.Uri.TheVariants.{Sip, Other}
use Rattle.sc_value.specs.declared.parts.Address.{Address}
use Rattle.sc_value.specs.declared.parts.Contact.{Contact}
use Rattle.sc_value.specs.declared.parts.Contact.TheVariants.{Star, At}
use Rattle.sc_value.specs.declared.parts.Field.{Field}
use Rattle.sc_terms.specs.declared.calls.Answer.{Answer}
use Rattle.sc_terms.specs.declared.calls.Ask.{Ask}
use Rattle.sc_terms.specs.declared.inside.Inside.{Inside}
use Rattle.sc_terms.specs.declared.calls.Call.{Call}
use Rattle.sc_terms.specs.declared.calls.Call.TheVariants as calls
use Rattle.sc_terms.specs.declared.calls.CallRecord.{CallRecord}
use Rattle.sc_terms.specs.declared.steps.Step.{Step}
use Rattle.sc_terms.specs.declared.steps.Step.TheVariants as steps
use Rattle.sc_tokens.specs.Bytes.{Bytes}
use Rattle.sc_grammar.specs.Written.{text_of_message}

-- the length of a text that may be absent, and then counts nothing
unfoldable pub option_size : Option Bytes → ℕ
option_size None = 0
option_size (Some text) = length text

-- the lengths of a parameter's name and value; its `;` and `=` count nothing
unfoldable pub param_size : Param → ℕ
param_size param = length param.name + option_size param.value

-- the lengths of the texts of a SIP URI; scheme, port and separators count nothing
unfoldable pub sip_uri_size : SipUri → ℕ
sip_uri_size uri =
    option_size uri.user + length uri.host + sum_by param_size uri.params + option_size uri.headers

-- the lengths of the texts of a URI; one of another scheme counts as its whole text
unfoldable pub uri_size : Uri → ℕ
uri_size (Sip uri) = sip_uri_size uri
uri_size (Other text) = length text

-- the lengths of display name, URI and parameters
unfoldable pub address_size : Address → ℕ
address_size address =
    option_size address.display + uri_size address.uri + sum_by param_size address.params

-- the size of a Contact; `*` counts nothing
unfoldable pub contact_size : Contact → ℕ
contact_size Star = 0
contact_size (At address) = address_size address

-- the lengths of a header's name and value
unfoldable pub field_size : Field → ℕ
field_size field = length field.name + length field.value

-- the lengths of all texts of an answer
unfoldable pub answer_size : Answer → ℕ
answer_size answer =
    length answer.reason + sum_by field_size answer.fields + sum_by contact_size answer.contact
    + length answer.body

-- the lengths of all texts of an initial request of one's own
unfoldable pub ask_size : Ask → ℕ
ask_size ask =
    length ask.method + uri_size ask.uri + address_size ask.from + address_size ask.to
    + sum_by field_size ask.fields + sum_by contact_size ask.contact + length ask.body

-- the lengths of all texts of a request in a dialog
unfoldable pub inside_size : Inside → ℕ
inside_size ask = length ask.method + sum_by field_size ask.fields + length ask.body

-- the size of a URI that may be absent, and then counts nothing
unfoldable pub option_uri_size : Option Uri → ℕ
option_uri_size None = 0
option_uri_size (Some uri) = uri_size uri

-- the lengths of all texts among the arguments of a call, at any depth
unfoldable pub call_size : Call → ℕ
call_size (calls.Respond req answer) = answer_size answer
call_size (calls.CreateRequest ask) = ask_size ask
call_size (calls.CreateInDialog sess ask) = inside_size ask
call_size (calls.B2bCreate req uri) = option_uri_size uri
call_size (calls.Ack sess body) = length body
call_size (calls.ProxyTo req targets options) = sum_by uri_size targets
call_size (calls.B2bRespond sess answer) = answer_size answer
call_size (calls.StartTimer delay period info) = length info
call_size (calls.SetAttribute name value) = length name + length value
call_size (calls.RemoveAttribute name) = length name
call_size call = 0

-- the bytes of a listed call, be it accepted or refused; its answer counts nothing
unfoldable pub record_size : CallRecord → ℕ
record_size made = call_size made.call

-- the bytes of a step: of a message its written text, of a turn all texts in its calls, of others
-- none
unfoldable pub step_size : Step → ℕ
step_size (steps.In place message) = length (text_of_message message)
step_size (steps.Turn end app event now calls) = sum_by record_size calls
step_size step = 0

-- the bytes of a journal: of all its steps
unfoldable pub journal_size : List Step → ℕ
journal_size journal = sum_by step_size journal

-- the journal has no room for the step: it stands at its limit of steps, or the step would pass its
-- limit of bytes
unfoldable pub HasNoRoom : ℕ → ℕ → List Step → ℕ → Type 0
HasNoRoom most_steps most_bytes journal size =
    (length journal ≡ most_steps) ⊎ (most_bytes < journal_size journal + size)
