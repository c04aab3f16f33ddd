-- The charters of servlets for reliable provisional responses (RFC 3262), session timers (RFC 4028)
-- and event notification (RFC 6665), as the calls that they make. What they remember stands in
-- attributes.
use Rattle.std.specs.Prelude.{ℕ, ◌==◌, List, [], Bool, not, ◌&&◌, ◌||◌, Option, None, Some, is_some, option_map, option_and_then, if◌then◌else◌, codes, decimal, length, map, nat_lt, slice_get, filter}
use Rattle.std.specs.List.{find, list_any}
use Rattle.sc_value.specs.declared.ids.ReqId.{ReqId}
use Rattle.sc_value.specs.declared.ids.SessId.{SessId}
use Rattle.sc_value.specs.declared.parts.Field.{Field}
use Rattle.sc_value.specs.declared.message.Request.{Request}
use Rattle.sc_tokens.specs.Names.{same_bytes, same_name}
use Rattle.sc_terms.specs.declared.views.View.{View}
use Rattle.sc_terms.specs.declared.calls.Call.{Call}
use Rattle.sc_terms.specs.declared.calls.Call.TheVariants as calls
use Rattle.sc_tokens.specs.Bytes.{Bytes}
use Rattle.sc_tokens.specs.Blanks.{without_blanks}
use Rattle.sc_tokens.specs.Cuts.{pieces}
use Rattle.sc_tokens.specs.Numbers.{number_of}
use Rattle.sc_hosts.specs.Scripting.{Done, Make, Script, attribute, is_refused, only, where_some, with_number}
use Rattle.sc_hosts.specs.Looking.{timer_in}
use Rattle.sc_tokens.specs.Signs.{comma, space, tab}

-- ## Texts

-- a decimal without leading zero
unfoldable pub strict_number : Bytes → Option ℕ
strict_number text =
    option_and_then (λ n. if same_bytes (decimal n) text then Some n else None) (number_of text)

-- the SipSession whose number of 32 bits the text is
unfoldable pub session_number : Bytes → Option SessId
session_number text =
    option_and_then (λ n. if nat_lt n 4294967296 then Some (record { 0 = n }) else None)
    (strict_number text)

-- the value of the first header of this name
unfoldable pub field_of : Bytes → Request → Option Bytes
field_of name request =
    option_map (λ field. field.value)
    (find (λ field. same_name field.name name) request.head.others)

-- the items between commas
unfoldable pub items_of : Bytes → List Bytes
items_of value = map without_blanks (pieces comma value)

-- the words between blanks
unfoldable pub words_of : Bytes → List Bytes
words_of value =
    filter (λ word. not (length word == 0))
    (pieces space (map (λ b. if b == tab then space else b) value))

-- the header of what a sender supports (RFC 3261 section 20.37)
unfoldable pub supported_word : Bytes
supported_word = codes "Supported"

-- the header of what a receiver has to support (RFC 3261 section 20.32)
unfoldable pub require_word : Bytes
require_word = codes "Require"

-- a Supported or Require header has this option (RFC 3261 sections 20.32 and 20.37)
unfoldable pub lists_option : Bytes → Request → Bool
lists_option option request =
    list_any
    (λ field.
    (same_name field.name supported_word || same_name field.name require_word)
    && list_any (same_name option) (items_of field.value)) request.head.others

-- ## Calls

-- `respond` with this code and reason and these headers, without Contact and body
unfoldable pub answer_with : ReqId → ℕ → Bytes → List Field → Call
answer_with req code reason fields =
    calls.Respond req
    (record { code = code; reason = reason; fields = fields; contact = []; body = [] })

-- a header
unfoldable pub field : Bytes → Bytes → Field
field name value = record { name = name; value = value }

-- the script goes on where the call was accepted
unfoldable pub accepted_then : Call → Script → Script
accepted_then call script = Make call (λ answer. if is_refused answer then Done else script)

-- a request is made in a dialog and sent; then the script goes on
unfoldable pub send_in : SessId → Bytes → List Field → Bytes → Script → Script
send_in sess method fields body script =
    Make (calls.CreateInDialog sess (record { method = method; fields = fields; body = body }))
    (with_number (λ draft. accepted_then (calls.Send draft) script))

-- what was answered is dropped where there is such an attribute
unfoldable pub remove_then : Bytes → View → Script → Script
remove_then name view script =
    if is_some (attribute name view) then accepted_then (calls.RemoveAttribute name) script
    else script

-- this timer is cancelled where it is active; then the script goes on
unfoldable pub cancel_then : ℕ → View → Script → Script
cancel_then timer view script =
    if is_some (timer_in view (record { 0 = timer }))
    then accepted_then (calls.CancelTimer (record { 0 = timer })) script
    else script

-- the first active timer is cancelled
unfoldable pub cancel_first_timer : View → Script
cancel_first_timer view =
    where_some (slice_get view.timers 0) (λ timer. only (calls.CancelTimer timer.id))
