-- What a turn shows holds what is owed.
use Rattle.std.proofs.Common.{◌≡◌, ◌<◌, ℕ, ◌+◌, Bool, true, false, Option, None, Some, List, [], refl}
use Rattle.std.specs.Prelude.{◌&&◌, cond, is_none, is_some, length}
use Rattle.std.specs.List.{find}
use Rattle.sc_value.specs.declared.ids.ReqId.{ReqId}
use Rattle.sc_value.specs.declared.ids.SessId.{SessId}
use Rattle.sc_value.specs.declared.message.Request.{Request}
use Rattle.sc_value.specs.declared.message.Response.{Response}
use Rattle.sc_terms.specs.declared.settings.Config.{Config}
use Rattle.sc_terms.specs.declared.views.RequestView.{RequestView}
use Rattle.sc_terms.specs.declared.views.SessionView.{SessionView}
use Rattle.sc_terms.specs.declared.views.TimerView.{TimerView}
use Rattle.sc_state.specs.declared.proxy.Proxy.{Proxy}
use Rattle.sc_state.specs.declared.queue.Queued.{Queued}
use Rattle.sc_state.specs.declared.queue.Queued.TheVariants as queued
use Rattle.sc_state.specs.declared.queue.Waiting.{Waiting}
use Rattle.sc_state.specs.declared.session.Invited.{Invited}
use Rattle.sc_state.specs.declared.session.Kept.{Kept}
use Rattle.sc_state.specs.declared.session.Session.{Session}
use Rattle.sc_state.specs.declared.working.Prepared.{Prepared}
use Rattle.sc_model.specs.Dialogs.{tag_of}
use Rattle.sc_model.specs.Transactions.{is_failure}
use Rattle.sc_hosts.specs.Branches.{added_targets, is_supervised}
use Rattle.sc_hosts.specs.DerivedSessions.{Derives, Handling, In, Takes, handled_in, overtaken, without_derived}
use Rattle.sc_hosts.specs.Finishing.{lacks_final}
use Rattle.sc_hosts.specs.Legs.{FIRST_SESSION, change_leg, session_for}
use Rattle.sc_hosts.specs.Looking.{is_gone_in, is_request, request_in, session_in, timer_in}
use Rattle.sc_hosts.specs.Preparing.{cancelled_proxy, cancelled_request, after_timer as fired, has_expired, is_invited, kept_of, prepared_session as prepared, prepared_branch_timer, prepared_cancel, prepared_expiry, prepared_for, prepared_timer, proxy_of, prepared_end as terminated, timed_out}
use Rattle.sc_hosts.specs.PreparingRequests.{prepared_request, with_received_request as received, showing, showing_in, silent}
use Rattle.sc_hosts.specs.PreparingResponses.{accepts_invite, branch_placed, heard_in, is_first_success, is_sent_on, is_watched, noted_final, session_of_response as placed, prepared_branch, prepared_own, prepared_response, with_handled_response as responded, responded_again, responded_in, settled_legs, shown_again, insert_session, with_branches, with_request_again, with_success}
use Rattle.sc_hosts.specs.ViewChanges.{answered_in, with_answer as with_final}
use Rattle.sc_walked.proofs.WalkParts.{if-is}
use Rattle.sc_lasting.proofs.LaterRequests.{later-session}
use Rattle.sc_lasting.proofs.Parts.{all-found}
use Rattle.sc_replies.proofs.Owed.{Holds, IsAfter, IsBelow, after-same, again-holds, unacked-after, answered-holds, answered_in-holds, changed-holds, comes-holds, final-after, numbered-holds, still, tidy-holds}

abbrev pub Shown : Prepared → Type 0
Shown shown = Holds shown.view shown.known

abbrev pub At : Session → Type 0
At x = Holds x.view x.known

if-shown : (b : Bool) (y z : Prepared) → Shown y → Shown z → Shown (cond b y z)
if-shown true y z p q = p
if-shown false y z p q = q

silent-holds : (x : Session) (given : _) → At x → Shown (silent x given)
unfolding silent
silent-holds x given ok = ok

showing-holds : (x : Session) (event : _) (req : _) (given : _) → At x → Shown (showing x event req given)
unfolding showing
showing-holds x event req given ok = ok

showing_in-holds : (x : Session) (sess : SessId) (event : _) (req : _) (given : _) → At x → Shown (showing_in x sess event req given)
unfolding showing_in
showing_in-holds x sess event req given ok = ok

-- ## Requests

request-holds : (x : Session) (number : ℕ) (request : Request) (sess : Option SessId) → At x → Shown (prepared_request x number request sess)
request-holds x number request sess ok = later-session Holds x number request (numbered-holds x.view x.known ok) (λ s passed. comes-holds x number s false passed request ok)
    (λ came. answered-holds came 500) (λ view known legs ok. ok) sess

-- ## Responses

-- the same requests and what is kept of them
record IsStill (x y : Session) : Type 0 where
  requests : y.view.requests ≡ x.view.requests
  next : y.view.next_request ≡ x.view.next_request
  kept : y.known.kept ≡ x.known.kept

still-same : (x : Session) → IsStill x x
still-same x = record { requests = refl; next = refl; kept = refl }

if-still : (b : Bool) (x y z : Session) → IsStill x y → IsStill x z → IsStill x (cond b y z)
if-still true x y z p q = p
if-still false x y z p q = q

if-placed : (b : Bool) (x : Session) (y z : SessId × Session) → IsStill x y.1 → IsStill x z.1 → IsStill x (cond b y z).1
if-placed true x y z p q = p
if-placed false x y z p q = q

at-still : (x y : Session) → IsStill x y → At x → At y
at-still x y is ok = still x.view y.view x.known y.known is.next is.requests is.kept ok

handled-still : (x : Session) (req : ReqId) (original : SessionView) (came : Option Request) (how : Handling) → IsStill x (handled_in x req original came how).1
unfolding handled_in
handled-still x req original came (In at) = still-same x
handled-still x req original came (Takes tag) = record { requests = refl; next = refl; kept = refl }
handled-still x req original came (Derives tag) = record { requests = refl; next = refl; kept = refl }

placed-still : (x : Session) (kept : Kept) (request : RequestView) (response : Response) (original : Option SessionView) → IsStill x (placed x kept request response original).1
unfolding placed
placed-still x kept request response None = still-same x
placed-still x kept request response (Some original) = if-placed request.initial x _ (request.sess, x) (handled-still x request.id original None _) (still-same x)

branch-placed-still : (x : Session) (proxy : Proxy) (response : Response) (original : Option SessionView) → IsStill x (branch_placed x proxy response original).1
unfolding branch_placed
branch-placed-still x proxy response None = still-same x
branch-placed-still x proxy response (Some original) = if-placed (is_some proxy.options) x _ (proxy.sess, x) (handled-still x proxy.req original (Some proxy.request) _) (still-same x)

settled-still : (request : RequestView) (sess : SessId) (response : Response) (x : Session) → IsStill x (settled_legs request sess response x)
unfolding settled_legs overtaken without_derived
settled-still request sess response x =
    if-still (is_first_success request response) x (overtaken request.id sess x) (cond (request.initial && is_failure response.code) (without_derived request.id request.sess x) x) (record { requests = refl; next = refl; kept = refl })
    (if-still (request.initial && is_failure response.code) x (without_derived request.id request.sess x) x (record { requests = refl; next = refl; kept = refl }) (still-same x))

success-after : (sess : SessId) (response : Response) (r : RequestView) → IsAfter r (with_success sess response r)
unfolding with_success
success-after sess response r = if-is (IsAfter r) _ _ r (unacked-after (insert_session sess r.unacked) r) (after-same r)

responded-holds : (kept : Kept) (request : RequestView) (response : Response) (sess : SessId) (x : Session) → At x → At (responded kept request response sess x)
unfolding responded change_leg
responded-holds kept request response sess x ok =
    let settled : Session = settled_legs request sess response x in
    let told : _ = answered_in sess request (is_some (tag_of response.head.to)) response.code settled.view in
    tidy-holds _ settled.known (changed-holds request.id (with_success sess response) told settled.known (success-after sess response)
    (answered_in-holds sess request (is_some (tag_of response.head.to)) response.code settled.view settled.known (at-still x settled (settled-still request sess response x) ok)))

noted-holds : (req : ReqId) (code : ℕ) (x : Session) → At x → At (noted_final req code x)
unfolding noted_final
noted-holds req code x ok = tidy-holds _ x.known (changed-holds req (with_final code) x.view x.known (final-after code) ok)

responded_in-holds : (kept : Kept) (request : RequestView) (response : Response) (at : SessId × Session) → At at.1 → Shown (responded_in kept request response at)
unfolding responded_in
responded_in-holds kept request response (sess, y) ok =
    if-shown (is_gone_in y.view sess) (silent (noted_final kept.id response.code y) []) _ (silent-holds (noted_final kept.id response.code y) [] (noted-holds kept.id response.code y ok))
    (showing-holds (responded kept request response sess y) _ None [] (responded-holds kept request response sess y ok))

responded_again-holds : (x : Session) (kept : Kept) (request : RequestView) (response : Response) (at : SessId × Session) → IsStill x at.1 → request.received ≡ false
    → request.id.0 < x.view.next_request → find (is_request request.id) x.view.requests ≡ None → At x → Shown (responded_again kept request response at)
unfolding responded_again
responded_again-holds x kept request response (sess, y) is sent less none ok =
    let all : At y = at-still x y is ok in
    if-shown (is_gone_in y.view sess) (silent y []) _ (silent-holds y [] all)
    (showing-holds (responded kept request response sess (with_request_again request y)) _ None []
    (responded-holds kept request response sess (with_request_again request y) (again-holds request y.view y.known sent (rw (is.next) less) (rw (is.requests) none) all)))

own-holds : (x : Session) (test : Kept → Bool) (kept : Kept) (response : Response) (found : Option RequestView) → find test x.known.kept ≡ Some kept
    → find (is_request kept.id) x.view.requests ≡ found → At x → Shown (prepared_own x kept response found)
unfolding prepared_own silent shown_again
own-holds x test kept response None is none ok =
    let request : RequestView = shown_again x.known kept response.code in
    let at : SessId × Session = placed x kept request response (session_in x.view kept.sess) in
    if-shown (accepts_invite kept response) (responded_again kept request response at) (silent x [])
    (responded_again-holds x kept request response at (placed-still x kept request response (session_in x.view kept.sess)) refl (all-found (IsBelow x.view.next_request) test x.known.kept kept is ok.2) none ok) ok
own-holds x test kept response (Some request) is has ok =
    let at : SessId × Session = placed x kept request response (session_in x.view request.sess) in
    responded_in-holds kept request response at (at-still x at.1 (placed-still x kept request response (session_in x.view request.sess)) ok)

branches-after : (count : ℕ) (r : RequestView) → IsAfter r (record r { branches = count })
unfolding lacks_final
branches-after count r = record { id = refl; received = λ is. is; owed = λ is. is }

heard_in-holds : (proxy : Proxy) (branch : ℕ) (response : Response) (at : SessId × Session) → At at.1 → Shown (heard_in proxy branch response at)
unfolding heard_in with_branches change_leg silent showing_in
heard_in-holds proxy branch response (sess, y) ok =
    let all : Holds (with_branches proxy response y.view) y.known =
    changed-holds proxy.req (λ request. record request { branches = request.branches + length (added_targets proxy response) }) y.view y.known (λ r. branches-after _ r) ok in
    if-shown (is_watched y.known proxy) _ _ all all

branch-holds : (x : Session) (proxy : Proxy) (branch : ℕ) (response : Response) → At x → Shown (prepared_branch x proxy branch response)
unfolding prepared_branch
branch-holds x proxy branch response ok =
    let at : SessId × Session = branch_placed x proxy response (session_in x.view proxy.sess) in
    if-shown _ (silent x []) (heard_in proxy branch response at) (silent-holds x [] ok) (heard_in-holds proxy branch response at (at-still x at.1 (branch-placed-still x proxy response (session_in x.view proxy.sess)) ok))

response-holds : (x : Session) (branch : ℕ) (response : Response) (kept : Option Kept) (proxy : Option Proxy) → find (is_sent_on branch) x.known.kept ≡ kept → At x
    → Shown (prepared_response x branch response kept proxy)
unfolding prepared_response silent
response-holds x branch response (Some kept) proxy is ok = own-holds x (is_sent_on branch) kept response (request_in x.view kept.id) is refl ok
response-holds x branch response None (Some proxy) is ok = branch-holds x proxy branch response ok
response-holds x branch response None None is ok = ok

-- ## CANCEL and timers

terminated-holds : (x : Session) (invited : Invited) (request : RequestView) (kept : Option Kept) → At x → Shown (terminated x invited request kept)
unfolding terminated showing_in
terminated-holds x invited request None ok = ok
terminated-holds x invited request (Some kept) ok = answered-holds (Some request) 487 x.view x.known ok

cancelled_proxy-holds : (x : Session) (invited : Invited) (proxy : Option Proxy) → At x → Shown (cancelled_proxy x invited proxy)
unfolding cancelled_proxy showing_in silent
cancelled_proxy-holds x invited None ok = ok
cancelled_proxy-holds x invited (Some proxy) ok = if-shown (is_supervised proxy) _ _ ok ok

cancelled_request-holds : (x : Session) (invited : Invited) (request : Option RequestView) → At x → Shown (cancelled_request x invited request)
unfolding cancelled_request
cancelled_request-holds x invited None ok = showing_in-holds x invited.sess _ None [] ok
cancelled_request-holds x invited (Some request) ok =
    if-shown request.proxied (cancelled_proxy x invited (proxy_of x.known invited.req)) _ (cancelled_proxy-holds x invited (proxy_of x.known invited.req) ok)
    (if-shown (is_none request.answered) (terminated x invited request (kept_of x.known invited.req)) _ (terminated-holds x invited request (kept_of x.known invited.req) ok) (showing_in-holds x invited.sess _ (Some invited.req) [] ok))

cancel-holds : (x : Session) (invited : Option Invited) → At x → Shown (prepared_cancel x invited)
unfolding prepared_cancel silent
cancel-holds x None ok = ok
cancel-holds x (Some invited) ok = cancelled_request-holds x invited (request_in x.view invited.req) ok

fired-holds : (x : Session) (timer : TimerView) (due : Option ℕ) → At x → Holds (fired x.view timer due) x.known
unfolding fired
fired-holds x timer None ok = ok
fired-holds x timer (Some due) ok = ok

timer-holds : (x : Session) (timer : Option TimerView) → At x → Shown (prepared_timer x timer)
unfolding prepared_timer showing silent
timer-holds x None ok = ok
timer-holds x (Some timer) ok = fired-holds x timer _ ok

expiry-holds : (x : Session) → At x → Shown (prepared_expiry x)
unfolding prepared_expiry
expiry-holds x ok = if-shown (has_expired x.view) _ (silent x []) (showing-holds x _ None [] ok) (silent-holds x [] ok)

if-at : (b : Bool) (y z : Session) → At y → At z → At (cond b y z)
if-at true y z p q = p
if-at false y z p q = q

timed-holds : (config : Config) (x : Session) (proxy : Proxy) (branch : ℕ) (provisional : Bool) → At x → At (timed_out config x proxy branch provisional)
unfolding timed_out
timed-holds config x proxy branch provisional ok = if-at _ _ _ ok ok

branch-timer-holds : (config : Config) (ringing : List ℕ) (x : Session) (branch due : ℕ) (proxy : Option Proxy) → At x → Shown (prepared_branch_timer config ringing x branch due proxy)
unfolding prepared_branch_timer
branch-timer-holds config ringing x branch due None ok = silent-holds x [] ok
branch-timer-holds config ringing x branch due (Some proxy) ok = if-shown _ _ (silent x []) (silent-holds _ [] (timed-holds config x proxy branch _ ok)) (silent-holds x [] ok)

-- ## Each event

for-holds : (config : Config) (ringing : List ℕ) (x : Session) (number : ℕ) (event : Queued) → At x → Shown (prepared_for config ringing x number event)
unfolding prepared_for
for-holds config ringing x number (queued.Initial region subscriber popped request) ok =
    showing-holds (received x number FIRST_SESSION true false request) _ _ [] (comes-holds x number FIRST_SESSION true false request ok)
for-holds config ringing x number (queued.Request request) ok = request-holds x number request (session_for x request) ok
for-holds config ringing x number (queued.Response branch response) ok = response-holds x branch response _ _ refl ok
for-holds config ringing x number (queued.Cancelled event) ok = cancel-holds x (find (is_invited event) x.known.invited) ok
for-holds config ringing x number (queued.Timer id) ok = timer-holds x (timer_in x.view id) ok
for-holds config ringing x number (queued.BranchTimer branch due) ok = branch-timer-holds config ringing x branch due _ ok
for-holds config ringing x number queued.Expired ok = expiry-holds x ok
for-holds config ringing x number queued.Ready ok = showing-holds x _ None [] ok

pub prepared-holds : (config : Config) (ringing : List ℕ) (x : Session) (waiting : Waiting) (now : ℕ) → At x → Shown (prepared config ringing x waiting now)
unfolding prepared
prepared-holds config ringing x waiting now ok = for-holds config ringing (record x { view = record x.view { now = now } }) waiting.number waiting.event ok
