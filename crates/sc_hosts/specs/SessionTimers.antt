-- The charter of a servlet for session timers (RFC 4028), as the calls that it makes. What it
-- remembers stands in attributes.
use Rattle.std.specs.Prelude.{ℕ, ◌-◌, ◌*◌, ◌/◌, ◌==◌, List, [], ◌∷◌, ◌++◌, Bool, true, false, not, ◌&&◌, ◌||◌, Option, None, Some, option_map, option_and_then, unwrap_or, if◌then◌else◌, codes, decimal, min, nat_lt, drop, slice_get}
use Rattle.std.specs.Char.{is_ascii_digit}
use Rattle.std.specs.List.{find, take_while, filter_map}
use Rattle.std.specs.Option.{option_map_or}
use Rattle.sc_value.specs.declared.ids.ReqId.{ReqId}
use Rattle.sc_value.specs.declared.ids.SessId.{SessId}
use Rattle.sc_value.specs.declared.ids.TimerId.{TimerId}
use Rattle.sc_value.specs.declared.parts.Field.{Field}
use Rattle.sc_value.specs.declared.message.Request.{Request}
use Rattle.sc_tokens.specs.Names.{same_bytes, same_name}
use Rattle.sc_terms.specs.declared.views.View.{View}
use Rattle.sc_terms.specs.declared.views.Period.TheVariants.{Once}
use Rattle.sc_terms.specs.declared.events.Event.{Event}
use Rattle.sc_terms.specs.declared.events.Event.TheVariants as events
use Rattle.sc_terms.specs.declared.calls.Call.TheVariants as calls
use Rattle.sc_tokens.specs.Bytes.{Bytes}
use Rattle.sc_tokens.specs.Blanks.{without_blanks}
use Rattle.sc_tokens.specs.Cuts.{before, after, pieces}
use Rattle.sc_tokens.specs.Numbers.{number_of}
use Rattle.sc_model.specs.Dialogs.{update}
use Rattle.sc_model.specs.SessionStates.{invite, bye}
use Rattle.sc_model.specs.Transactions.{is_success, is_failure}
use Rattle.sc_hosts.specs.Scripting.{Done, Make, Script, attribute, only, param_at, reply, small_number, then_make, where_some, with_number}
use Rattle.sc_hosts.specs.Charters.{reply_ok}
use Rattle.sc_hosts.specs.Words.{ok}
use Rattle.sc_hosts.specs.HelperParts.{strict_number, supported_word, require_word, lists_option, answer_with, field, accepted_then, send_in, remove_then, cancel_then, session_number}
use Rattle.sc_hosts.specs.Offers.{after_word}
use Rattle.sc_tokens.specs.Signs.{equal, semicolon, space}

-- what the called side grants: no session timer, 422, or an interval in seconds with who refreshes
pub data Granted : Type 0 where
  Off : Granted
  Too_small : Granted
  On : (seconds : ℕ) → (me : Bool) → Granted

-- the header of the interval (RFC 4028 section 4)
unfoldable pub session_expires : Bytes
session_expires = codes "Session-Expires"

-- the option of session timers (RFC 4028)
unfoldable pub timer_option : Bytes
timer_option = codes "timer"

-- the field is a Session-Expires, by its name or by the compact one `x`
unfoldable pub is_session_expires : Field → Bool
is_session_expires field = same_name field.name session_expires || same_name field.name (codes "x")

-- the value of the first Session-Expires
unfoldable pub interval_text : Request → Option Bytes
interval_text request =
    option_map (λ field. field.value) (find is_session_expires request.head.others)

-- the number with which a value begins
unfoldable pub leading_number : Bytes → Option ℕ
leading_number value = number_of (take_while is_ascii_digit value)

-- the first parameter `refresher` says that the called side refreshes
unfoldable pub is_refresher : Bytes → Bool
is_refresher param = same_name (without_blanks (before equal param)) (codes "refresher")

-- the value's parameter `refresher` is `uas`
unfoldable pub refreshes_uas : Bytes → Bool
refreshes_uas value =
    option_map_or
    (λ param.
    option_map_or (λ v. same_name (without_blanks v) (codes "uas")) (after equal param) false)
    (find is_refresher (drop 1 (pieces semicolon value))) false

-- by the interval asked for and the least one: a caller without support gets no 422, and doesn't
-- refresh; more than 4,000,000 s is none (RFC 4028 section 9)
unfoldable pub granted_by : Bool → ℕ → Bytes → Option ℕ → Granted
granted_by supports least value None = Off
granted_by supports least value (Some n) =
    if nat_lt 4000000 n then Off
    else (if nat_lt n least then (if supports then Too_small else Off)
    else On n (refreshes_uas value || not supports))

-- what is granted to a request; where it asks for nothing, nothing
unfoldable pub grant_to : Request → ℕ → Granted
grant_to request least =
    option_map_or
    (λ value. granted_by (lists_option timer_option request) least value (leading_number value))
    (interval_text request) Off

-- the headers of the 2xx (RFC 4028 section 9)
unfoldable pub granted_fields : Granted → List Field
granted_fields Off = []
granted_fields Too_small = []
granted_fields (On n true) = field session_expires (decimal n ++ codes ";refresher=uas") ∷ []
granted_fields (On n false) =
    field session_expires (decimal n ++ codes ";refresher=uac") ∷ field require_word timer_option
    ∷ []

-- in how many milliseconds something is due: half of the interval for the refresher; for the other
-- side a third, at most 32 seconds, before its end (RFC 4028 section 10)
unfoldable pub deadline : ℕ → Bool → ℕ
deadline n true = 500 * n
deadline n false = 1000 * (n - min 32 (n / 3))

-- the attribute of the session timer of a SipSession
unfoldable pub timed_name : SessId → Bytes
timed_name sess = codes "st" ++ decimal sess.0

-- who refreshes: the own side or the peer
unfoldable pub side_text : Bool → Bytes
side_text true = codes "me"
side_text false = codes "peer"

-- what the attribute remembers: the interval in seconds, who refreshes, and the timer that runs, 0
-- for none
unfoldable pub timed_text : ℕ → Bool → ℕ → Bytes
timed_text n me timer = decimal n ++ codes " " ++ side_text me ++ codes " " ++ decimal timer

-- the same, read
pub record Timed : Type 0 where
  pub seconds : ℕ
  pub me : Bool
  pub timer : ℕ

-- who refreshes, read
unfoldable pub side_of : Bytes → Option Bool
side_of word =
    if same_bytes word (codes "me") then Some true
    else (if same_bytes word (codes "peer") then Some false else None)

-- what an attribute remembers, read from its words
unfoldable pub timed_in : List Bytes → Option Timed
timed_in (n ∷ side ∷ t ∷ []) =
    option_and_then
    (λ seconds.
    if nat_lt 4000000 seconds then None
    else option_and_then
    (λ me.
    option_map (λ timer. record { seconds = seconds; me = me; timer = timer })
    (strict_number t)) (side_of side)) (strict_number n)
timed_in words = None

-- the same from its text
unfoldable pub timed_of : Bytes → Option Timed
timed_of text = timed_in (pieces space text)

-- the session timer ends: its servlet timer is cancelled, its attribute removed; then the script
-- goes on
unfoldable pub stop_then : SessId → View → Script → Script
stop_then sess view script =
    option_map_or
    (λ text.
    option_map_or
    (λ timed. cancel_then timed.timer view (remove_then (timed_name sess) view script))
    (timed_of text) (remove_then (timed_name sess) view script))
    (attribute (timed_name sess) view) script

-- the session timer begins anew, as granted
unfoldable pub begin_timed : SessId → View → Granted → Script
begin_timed sess view Off = stop_then sess view Done
begin_timed sess view Too_small = stop_then sess view Done
begin_timed sess view (On n me) =
    stop_then sess view
    (Make (calls.StartTimer (deadline n me) Once (timed_name sess))
    (with_number (λ t. only (calls.SetAttribute (timed_name sess) (timed_text n me t)))))

-- the reason phrase of a 422 (RFC 4028 section 6)
unfoldable pub too_small : Bytes
too_small = codes "Session Interval Too Small"

-- the least interval in seconds: the first parameter where it is 90 to 86,400, else 90 (RFC 4028
-- section 5)
unfoldable pub least_interval : View → ℕ
least_interval view =
    unwrap_or
    (option_and_then (λ n. if nat_lt n 90 || nat_lt 86400 n then None else Some n)
    (option_and_then small_number (param_at view 0))) 90

-- 422 with the least interval, or 200 with what is granted
unfoldable pub grant_by : View → ReqId → SessId → Granted → Script
grant_by view req sess Too_small =
    only
    (answer_with req 422 too_small (field (codes "Min-SE") (decimal (least_interval view)) ∷ []))
grant_by view req sess other =
    accepted_then (answer_with req 200 ok (granted_fields other)) (begin_timed sess view other)

-- the answer to an INVITE or UPDATE, by what it asks for
unfoldable pub grant : View → ReqId → SessId → Request → Script
grant view req sess request = grant_by view req sess (grant_to request (least_interval view))

-- the attribute that names the timer, with its session
pub record Named : Type 0 where
  pub sess : SessId
  pub timed : Timed

-- what an attribute remembers, where it names this timer
unfoldable pub named_timed : TimerId → Field → Option Named
named_timed id field =
    option_and_then
    (λ sess.
    option_and_then
    (λ timed.
    if timed.timer == id.0 then Some (record { sess = sess; timed = timed }) else None)
    (timed_of field.value))
    (option_and_then session_number (after_word (codes "st") field.name))

-- what is due: the refresher sends UPDATE, the other side BYE (RFC 4028 section 10)
unfoldable pub refresh_by : Named → Script
refresh_by named = refresh_as named.timed.me
  where
    refresh_as : Bool → Script
    refresh_as true =
        send_in named.sess update
        (field session_expires (decimal named.timed.seconds ++ codes ";refresher=uac")
        ∷ field supported_word timer_option ∷ []) []
        (only (calls.SetAttribute (timed_name named.sess) (timed_text named.timed.seconds true 0)))
    refresh_as false =
        send_in named.sess bye [] [] (only (calls.RemoveAttribute (timed_name named.sess)))

-- a refresh was answered: a 2xx begins the timer anew, and after a failure the session ends
unfoldable pub script_after_refresh : View → SessId → ℕ → Timed → Script
script_after_refresh view sess code timed =
    if not (timed.me && timed.timer == 0) then Done
    else (if is_success code then begin_timed sess view (On timed.seconds true)
    else
    (if is_failure code then send_in sess bye [] [] (only (calls.RemoveAttribute (timed_name sess)))
    else Done))

-- the request refreshes a session: an INVITE or an UPDATE (RFC 4028 section 7)
unfoldable pub is_granting : Request → Bool
is_granting request = same_bytes request.method invite || same_bytes request.method update

-- `timed`: sessions end where nobody refreshes them
unfoldable pub timed_script : View → Event → Script
timed_script view (events.Initial req sess region subscriber popped request) =
    if same_bytes request.method invite then grant view req sess request
    else only (reply req 200 ok)
timed_script view (events.Request req sess request) =
    if is_granting request then grant view req sess request
    else
    (if same_bytes request.method bye then then_make (reply req 200 ok) (stop_then sess view Done)
    else reply_ok req request)
timed_script view (events.Response req sess response) =
    if same_bytes response.head.cseq.method update
    then where_some (option_and_then timed_of (attribute (timed_name sess) view))
    (script_after_refresh view sess response.code)
    else Done
timed_script view (events.Branch req sess response) = Done
timed_script view (events.Cancelled req sess) = Done
timed_script view (events.Timer id info) =
    where_some (slice_get (filter_map (named_timed id) view.attributes) 0) refresh_by
timed_script view events.Expired = Done
timed_script view events.Ready = Done
