-- Only the request that begins a session is told as an initial one, under the number that is next.
use Rattle.std.proofs.Common.{◌≡◌, ℕ, ◌+◌, Bool, true, false, Option, None, Some, List, [], refl, subst}
use Rattle.std.specs.Prelude.{cond, is_none}
use Rattle.std.specs.List.{find}
use Rattle.sc_value.specs.declared.ids.ReqId.{ReqId}
use Rattle.sc_value.specs.declared.ids.SessId.{SessId}
use Rattle.sc_value.specs.declared.ids.Region.{Region}
use Rattle.sc_value.specs.declared.parts.Address.{Address}
use Rattle.sc_tokens.specs.Bytes.{Bytes}
use Rattle.sc_value.specs.declared.message.Request.{Request}
use Rattle.sc_value.specs.declared.message.Response.{Response}
use Rattle.sc_terms.specs.declared.events.Event.{Event}
use Rattle.sc_terms.specs.declared.events.Event.TheVariants as events
use Rattle.sc_terms.specs.declared.settings.Config.{Config}
use Rattle.sc_terms.specs.declared.views.RequestView.{RequestView}
use Rattle.sc_terms.specs.declared.views.SessionView.{SessionView}
use Rattle.sc_terms.specs.declared.views.TimerView.{TimerView}
use Rattle.sc_terms.specs.declared.views.View.{View}
use Rattle.sc_state.specs.declared.orders.Order.{Order}
use Rattle.sc_state.specs.declared.proxy.Proxy.{Proxy}
use Rattle.sc_state.specs.declared.queue.Queued.{Queued}
use Rattle.sc_state.specs.declared.queue.Queued.TheVariants as queued
use Rattle.sc_state.specs.declared.session.Invited.{Invited}
use Rattle.sc_state.specs.declared.session.Kept.{Kept}
use Rattle.sc_state.specs.declared.session.Session.{Session}
use Rattle.sc_state.specs.declared.working.Prepared.{Prepared}
use Rattle.sc_hosts.specs.Branches.{is_supervised}
use Rattle.sc_hosts.specs.Legs.{FIRST_SESSION, is_low, leg_of, session_for}
use Rattle.sc_hosts.specs.Looking.{is_gone_in, request_in, session_in, timer_in}
use Rattle.sc_hosts.specs.Preparing.{cancelled_proxy, cancelled_request, has_expired, is_invited, kept_of, prepared_session as prepared, prepared_branch_timer, prepared_cancel, prepared_expiry, prepared_for, prepared_timer, proxy_of, prepared_end as terminated}
use Rattle.sc_hosts.specs.PreparingRequests.{next_id, prepared_request, with_received_request as received, showing, showing_in, silent, prepared_for_request as taken, taken_in, too_low}
use Rattle.sc_hosts.specs.PreparingResponses.{accepts_invite, branch_placed, heard_in, is_watched, noted_final, session_of_response as placed, prepared_branch, prepared_own, prepared_response, responded_again, responded_in, shown_again, event_of_response as told}
use Rattle.sc_hosts.specs.Sessions.{Turn}
use Rattle.sc_walks.specs.Walks.{IsLate}
use Rattle.sc_remembered.specs.Acts.{shown_in}
use Rattle.sc_remembered.specs.Played.{event_in}

-- it isn't told as the request that begins a session
unfoldable pub NotFirst : Event → Type 0
NotFirst (events.Initial req sess region subscriber popped request) = ⊥
NotFirst event = Unit {0}

abbrev pub TellsLate : Prepared → Type 0
TellsLate shown = (told : Event) → shown.event ≡ Some told → NotFirst told

some-is : (e f : Event) → Some e ≡ Some f → e ≡ f
some-is e f is = cc

if-late : (b : Bool) (y z : Prepared) → TellsLate y → TellsLate z → TellsLate (cond b y z)
if-late true y z p q = p
if-late false y z p q = q

silent-late : (x : Session) (given : List Order) → TellsLate (silent x given)
unfolding silent
silent-late x given = λ told is. cc

showing-late : (x : Session) (event : Event) (req : Option ReqId) (given : List Order) → NotFirst event → TellsLate (showing x event req given)
unfolding showing
showing-late x event req given late = λ told is. subst NotFirst (some-is event told is) late

by-gone : (gone : Bool) (event told : Event) → cond gone None (Some event) ≡ Some told → NotFirst event → NotFirst told
by-gone true event told is late = cc
by-gone false event told is late = subst NotFirst (some-is event told is) late

in-late : (x : Session) (sess : SessId) (event : Event) (req : Option ReqId) (given : List Order) → NotFirst event → TellsLate (showing_in x sess event req given)
unfolding showing_in
in-late x sess event req given late = λ told is. by-gone (is_gone_in x.view sess) event told is late

-- ## Later requests

low-late : (x : Session) (number : ℕ) (sess : SessId) (request : Request) → TellsLate (too_low x number sess request)
unfolding too_low
low-late x number sess request = silent-late _ _

taken-late : (x : Session) (number : ℕ) (found : SessionView) (request : Request) → TellsLate (taken x number found request)
unfolding taken NotFirst
taken-late x number found request = showing-late _ _ _ [] tt

taken_in-late : (x : Session) (number : ℕ) (sess : SessId) (found : Option SessionView) (request : Request) → TellsLate (taken_in x number sess found request)
unfolding taken_in
taken_in-late x number sess None request = silent-late _ []
taken_in-late x number sess (Some found) request = if-late (is_low (leg_of x.known sess) request) (too_low x number sess request) (taken x number found request) (low-late x number sess request) (taken-late x number found request)

request-late : (x : Session) (number : ℕ) (request : Request) (sess : Option SessId) → TellsLate (prepared_request x number request sess)
unfolding prepared_request
request-late x number request None = silent-late _ _
request-late x number request (Some sess) = taken_in-late x number sess (session_in x.view sess) request

-- ## Responses

responded-late : (kept : Kept) (request : RequestView) (response : Response) (at : SessId × Session) → TellsLate (responded_in kept request response at)
unfolding responded_in NotFirst
responded-late kept request response (sess, y) = if-late (is_gone_in y.view sess) _ _ (silent-late (noted_final kept.id response.code y) []) (showing-late _ (events.Response kept.id sess response) None [] tt)

again-late : (kept : Kept) (request : RequestView) (response : Response) (at : SessId × Session) → TellsLate (responded_again kept request response at)
unfolding responded_again NotFirst
again-late kept request response (sess, y) = if-late (is_gone_in y.view sess) _ _ (silent-late y []) (showing-late _ (events.Response kept.id sess response) None [] tt)

own-late : (x : Session) (kept : Kept) (response : Response) (found : Option RequestView) → TellsLate (prepared_own x kept response found)
unfolding prepared_own
own-late x kept response None =
    if-late (accepts_invite kept response) _ (silent x [])
    (again-late kept (shown_again x.known kept response.code) response (placed x kept (shown_again x.known kept response.code) response (session_in x.view kept.sess))) (silent-late x [])
own-late x kept response (Some request) = responded-late kept request response (placed x kept request response (session_in x.view request.sess))

if-not : (b : Bool) (y z : Event) → NotFirst y → NotFirst z → NotFirst (cond b y z)
if-not true y z p q = p
if-not false y z p q = q

told-late : (proxy : Proxy) (branch : ℕ) (response : Response) (sess : SessId) → NotFirst (told proxy branch response sess)
unfolding told NotFirst
told-late proxy branch response sess = if-not _ (events.Response proxy.req sess response) (events.Branch proxy.req sess response) tt tt

heard-late : (proxy : Proxy) (branch : ℕ) (response : Response) (at : SessId × Session) → TellsLate (heard_in proxy branch response at)
unfolding heard_in
heard-late proxy branch response (sess, y) = if-late (is_watched y.known proxy) _ _ (in-late _ sess (told proxy branch response sess) None [] (told-late proxy branch response sess)) (silent-late _ [])

branch-late : (x : Session) (proxy : Proxy) (branch : ℕ) (response : Response) → TellsLate (prepared_branch x proxy branch response)
unfolding prepared_branch
branch-late x proxy branch response = if-late _ (silent x []) _ (silent-late x []) (heard-late proxy branch response (branch_placed x proxy response (session_in x.view proxy.sess)))

response-late : (x : Session) (branch : ℕ) (response : Response) (kept : Option Kept) (proxy : Option Proxy) → TellsLate (prepared_response x branch response kept proxy)
unfolding prepared_response
response-late x branch response (Some kept) proxy = own-late x kept response (request_in x.view kept.id)
response-late x branch response None (Some proxy) = branch-late x proxy branch response
response-late x branch response None None = silent-late x []

-- ## CANCEL and timers

terminated-late : (x : Session) (invited : Invited) (request : RequestView) (kept : Option Kept) → TellsLate (terminated x invited request kept)
unfolding terminated NotFirst
terminated-late x invited request None = in-late x invited.sess (events.Cancelled invited.req invited.sess) _ [] tt
terminated-late x invited request (Some kept) = in-late _ invited.sess (events.Cancelled invited.req invited.sess) _ _ tt

proxy-late : (x : Session) (invited : Invited) (proxy : Option Proxy) → TellsLate (cancelled_proxy x invited proxy)
unfolding cancelled_proxy NotFirst
proxy-late x invited None = in-late x invited.sess (events.Cancelled invited.req invited.sess) _ [] tt
proxy-late x invited (Some proxy) = if-late (is_supervised proxy) _ _ (in-late _ invited.sess (events.Cancelled invited.req invited.sess) _ [] tt) (silent-late _ [])

cancelled-late : (x : Session) (invited : Invited) (request : Option RequestView) → TellsLate (cancelled_request x invited request)
unfolding cancelled_request NotFirst
cancelled-late x invited None = in-late x invited.sess (events.Cancelled invited.req invited.sess) None [] tt
cancelled-late x invited (Some request) =
    if-late request.proxied (cancelled_proxy x invited (proxy_of x.known invited.req)) _ (proxy-late x invited (proxy_of x.known invited.req))
    (if-late (is_none request.answered) (terminated x invited request (kept_of x.known invited.req)) _ (terminated-late x invited request (kept_of x.known invited.req))
    (in-late x invited.sess (events.Cancelled invited.req invited.sess) (Some invited.req) [] tt))

cancel-late : (x : Session) (invited : Option Invited) → TellsLate (prepared_cancel x invited)
unfolding prepared_cancel
cancel-late x None = silent-late x []
cancel-late x (Some invited) = cancelled-late x invited (request_in x.view invited.req)

timer-late : (x : Session) (timer : Option TimerView) → TellsLate (prepared_timer x timer)
unfolding prepared_timer NotFirst
timer-late x None = silent-late x []
timer-late x (Some timer) = showing-late _ (events.Timer timer.id timer.info) None [] tt

expiry-late : (x : Session) → TellsLate (prepared_expiry x)
unfolding prepared_expiry NotFirst
expiry-late x = if-late (has_expired x.view) _ (silent x []) (showing-late x events.Expired None [] tt) (silent-late x [])

time-late : (config : Config) (ringing : List ℕ) (x : Session) (branch due : ℕ) (proxy : Option Proxy) → TellsLate (prepared_branch_timer config ringing x branch due proxy)
unfolding prepared_branch_timer
time-late config ringing x branch due None = silent-late x []
time-late config ringing x branch due (Some proxy) = if-late _ _ (silent x []) (silent-late _ []) (silent-late x [])

-- ## Each event

for-late : (config : Config) (ringing : List ℕ) (x : Session) (number : ℕ) (event : Queued) → IsLate event → TellsLate (prepared_for config ringing x number event)
unfolding prepared_for IsLate NotFirst
for-late config ringing x number (queued.Initial region subscriber popped request) late = absurd late
for-late config ringing x number (queued.Request request) late = request-late x number request (session_for x request)
for-late config ringing x number (queued.Response branch response) late = response-late x branch response _ _
for-late config ringing x number (queued.Cancelled event) late = cancel-late x (find (is_invited event) x.known.invited)
for-late config ringing x number (queued.Timer id) late = timer-late x (timer_in x.view id)
for-late config ringing x number (queued.BranchTimer branch due) late = time-late config ringing x branch due _
for-late config ringing x number queued.Expired late = expiry-late x
for-late config ringing x number queued.Ready late = showing-late x events.Ready None [] tt

-- a later event isn't told as a first one
pub later-told : (config : Config) (x : Session) (turn : Turn) (told : Event) → IsLate turn.waiting.event → event_in config x turn ≡ Some told → NotFirst told
unfolding prepared
later-told config x turn told late is = for-late config turn.ringing (record x { view = record x.view { now = turn.now } }) turn.waiting.number turn.waiting.event late told is

-- ## The number of a first one

-- an initial request is told under the number that is next, which is drawn
unfoldable pub IsNext : Session → View → Event → Type 0
IsNext x view (events.Initial req sess region subscriber popped request) = (req.0 ≡ x.view.next_request) × (view.next_request ≡ x.view.next_request + 1)
IsNext x view event = Unit {0}

not-next : (x : Session) (view : View) (told : Event) → NotFirst told → IsNext x view told
unfolding IsNext NotFirst
not-next x view (events.Initial req sess region subscriber popped request) late = absurd late
not-next x view (events.Request req sess request) late = tt
not-next x view (events.Response req sess response) late = tt
not-next x view (events.Branch req sess response) late = tt
not-next x view (events.Cancelled req sess) late = tt
not-next x view (events.Timer id info) late = tt
not-next x view events.Expired late = tt
not-next x view events.Ready late = tt

first-next : (config : Config) (ringing : List ℕ) (x : Session) (number : ℕ) (region : Region) (subscriber : Bytes) (popped : Option Address) (request : Request) (told : Event)
    → (prepared_for config ringing x number (queued.Initial region subscriber popped request)).event ≡ Some told
    → IsNext x (prepared_for config ringing x number (queued.Initial region subscriber popped request)).view told
unfolding prepared_for showing received IsNext
first-next config ringing x number region subscriber popped request told is =
    subst (IsNext x (received x number FIRST_SESSION true false request).view) (some-is (events.Initial (next_id x) FIRST_SESSION region subscriber popped request) told is) (refl, refl)

for-next : (config : Config) (ringing : List ℕ) (x : Session) (number : ℕ) (event : Queued) (told : Event) → (prepared_for config ringing x number event).event ≡ Some told
    → IsNext x (prepared_for config ringing x number event).view told
unfolding IsLate
for-next config ringing x number (queued.Initial region subscriber popped request) told is = first-next config ringing x number region subscriber popped request told is
for-next config ringing x number (queued.Request request) told is = not-next x _ told (for-late config ringing x number (queued.Request request) tt told is)
for-next config ringing x number (queued.Response branch response) told is = not-next x _ told (for-late config ringing x number (queued.Response branch response) tt told is)
for-next config ringing x number (queued.Cancelled event) told is = not-next x _ told (for-late config ringing x number (queued.Cancelled event) tt told is)
for-next config ringing x number (queued.Timer id) told is = not-next x _ told (for-late config ringing x number (queued.Timer id) tt told is)
for-next config ringing x number (queued.BranchTimer branch due) told is = not-next x _ told (for-late config ringing x number (queued.BranchTimer branch due) tt told is)
for-next config ringing x number queued.Expired told is = not-next x _ told (for-late config ringing x number queued.Expired tt told is)
for-next config ringing x number queued.Ready told is = not-next x _ told (for-late config ringing x number queued.Ready tt told is)

by-date : (x : Session) (now : ℕ) (view : View) (told : Event) → IsNext (record x { view = record x.view { now = now } }) view told → IsNext x view told
unfolding IsNext
by-date x now view (events.Initial req sess region subscriber popped request) next = next
by-date x now view (events.Request req sess request) next = tt
by-date x now view (events.Response req sess response) next = tt
by-date x now view (events.Branch req sess response) next = tt
by-date x now view (events.Cancelled req sess) next = tt
by-date x now view (events.Timer id info) next = tt
by-date x now view events.Expired next = tt
by-date x now view events.Ready next = tt

pub told-next : (config : Config) (x : Session) (turn : Turn) (told : Event) → event_in config x turn ≡ Some told → IsNext x (shown_in config x turn) told
unfolding prepared
told-next config x turn told is = by-date x turn.now _ told (for-next config turn.ringing (record x { view = record x.view { now = turn.now } }) turn.waiting.number turn.waiting.event told is)
