-- What comes of another SipSession has its cause in the list.
use Rattle.std.proofs.Common.{◌≡◌, ℕ, ◌++◌, Bool, true, false, Option, None, Some, List, [], ◌∷◌, refl, ◌∙◌, arith}
use Rattle.std.proofs.lemmas.Bool.Decides.{nat_tests}
use Rattle.std.proofs.lemmas.List.Folds.{list_any-append}
use Rattle.std.specs.Prelude.{◌==◌, ◌&&◌, ◌||◌, cond, filter, is_none, is_some, map, not, option_and_then}
use Rattle.std.specs.List.{find, fold, list_any}
use Rattle.std.specs.Option.{option_map_or}
use Rattle.sc_tokens.specs.Names.{same_bytes}
use Rattle.sc_value.specs.declared.ids.ReqId.{ReqId}
use Rattle.sc_value.specs.declared.ids.SessId.{SessId}
use Rattle.sc_value.specs.declared.message.Request.{Request}
use Rattle.sc_value.specs.declared.message.Response.{Response}
use Rattle.sc_terms.specs.declared.calls.Call.{Call}
use Rattle.sc_terms.specs.declared.calls.Call.TheVariants as calls
use Rattle.sc_terms.specs.declared.calls.CallRecord.{CallRecord}
use Rattle.sc_terms.specs.declared.calls.End.{End}
use Rattle.sc_terms.specs.declared.calls.End.TheVariants as ends
use Rattle.sc_terms.specs.declared.calls.Refusal.{Refusal}
use Rattle.sc_terms.specs.declared.settings.Config.{Config}
use Rattle.sc_terms.specs.declared.views.RequestView.{RequestView}
use Rattle.sc_terms.specs.declared.views.Role.{Role}
use Rattle.sc_terms.specs.declared.views.SessionView.{SessionView}
use Rattle.sc_terms.specs.declared.views.View.{View}
use Rattle.sc_state.specs.declared.proxy.Passing.{Passing}
use Rattle.sc_state.specs.declared.proxy.Proxy.{Proxy}
use Rattle.sc_state.specs.declared.queue.Queued.{Queued}
use Rattle.sc_state.specs.declared.queue.Queued.TheVariants as queued
use Rattle.sc_state.specs.declared.session.Invited.{Invited}
use Rattle.sc_state.specs.declared.session.Kept.{Kept}
use Rattle.sc_state.specs.declared.session.Known.{Known}
use Rattle.sc_state.specs.declared.session.Session.{Session}
use Rattle.sc_state.specs.declared.working.Play.{Play}
use Rattle.sc_state.specs.declared.working.Prepared.{Prepared}
use Rattle.sc_state.specs.declared.working.Working.{Working}
use Rattle.sc_model.specs.BestResponses.{best_response}
use Rattle.sc_model.specs.Dialogs.{tag_of}
use Rattle.sc_model.specs.SessionStates.{invite}
use Rattle.sc_model.specs.Transactions.{is_failure, is_success}
use Rattle.sc_hosts.specs.Acting.{acts, all_act, chooses, drafts_ended, after_fault as faulted, is_request_event, passes, proxy_now, sends_cancels, after_start as started}
use Rattle.sc_hosts.specs.Branches.{can_choose, can_pass, is_exhausted, starting}
use Rattle.sc_hosts.specs.DerivedSessions.{is_of}
use Rattle.sc_hosts.specs.Effects.{after_listed, first_play as begun}
use Rattle.sc_hosts.specs.Histories.{History, session_after}
use Rattle.sc_hosts.specs.Legs.{is_low, leg_of}
use Rattle.sc_hosts.specs.Looking.{is_gone, is_session, request_in, same_session, session_in}
use Rattle.sc_hosts.specs.Preparing.{kept_of, prepared_session as prepared}
use Rattle.sc_hosts.specs.PreparingResponses.{accepts_invite, is_first_success, is_invalid, shown_again}
use Rattle.sc_hosts.specs.Refusals.{refusal}
use Rattle.sc_hosts.specs.Sessions.{Turn}
use Rattle.sc_hosts.specs.ViewChanges.{is_owed}
use Rattle.sc_hosts.specs.Working.{worked_all}
use Rattle.sc_lasting.specs.Lasting.{All}
use Rattle.sc_answered.proofs.Standing.{found-passes}
use Rattle.sc_answered.specs.StateOf.{Asked, Exhausted, Happening, Overtaken, Response as Responded, Undone}
use Rattle.sc_answered.specs.Happened.{Happened, by_proxy as acted, acted_by, acted_from, acted_last, acted_next, all_acted, called_by, ended_by, shown_by, answer_to, asked_of, at_moment, best_passed, came_in, by_cancel as cancelled, cancelled_in, by_choice as chosen, by_exhaustion as exhausted, exhausted_by, by_turn_end as failed, failed_at, by_forwarding as forwarded, forwarded_to, by_calls as given, given_by, given_if, by_response as got, got_in, got_own, happened_after, happened_by, happened_of, by_event as heard, in_each, initial_of, overtaken_by, by_passing as passed, response_in, settled_by, by_stop as stopped, stopped_at, stopped_of, too_low, too_low_in, undone_by}
use Rattle.sc_answered.specs.Needed.{takes_call}
use Rattle.sc_answered.specs.Causes.{HaveCauses, fails_first, is_caused, takes_elsewhere}

-- ## Longer lists

or-left : (a b : Bool) → a ≡ true → (a || b) ≡ true
or-left true b is = refl
or-left false b is = cc

or-right : (a b : Bool) → b ≡ true → (a || b) ≡ true
or-right true b is = refl
or-right false b is = is

any-front : (test : Happened → Bool) (more all : List Happened) → list_any test all ≡ true → list_any test (more ++ all) ≡ true
any-front test more all is = list_any-append test more all ∙ or-right (list_any test more) (list_any test all) is

any-back : (test : Happened → Bool) (all more : List Happened) → list_any test all ≡ true → list_any test (all ++ more) ≡ true
any-back test all more is = list_any-append test all more ∙ or-left (list_any test all) (list_any test more) is

caused-front : (more all : List Happened) (sess : SessId) (what : Happening) → is_caused all sess what ≡ true → is_caused (more ++ all) sess what ≡ true
unfolding is_caused
caused-front more all sess (Responded role asked tagged code) is = refl
caused-front more all sess Overtaken is = any-front (takes_elsewhere sess) more all is
caused-front more all sess Undone is = any-front (λ one. fails_first one.what) more all is
caused-front more all sess (Exhausted derived) is = refl

caused-back : (all more : List Happened) (sess : SessId) (what : Happening) → is_caused all sess what ≡ true → is_caused (all ++ more) sess what ≡ true
unfolding is_caused
caused-back all more sess (Responded role asked tagged code) is = refl
caused-back all more sess Overtaken is = any-back (takes_elsewhere sess) all more is
caused-back all more sess Undone is = any-back (λ one. fails_first one.what) all more is
caused-back all more sess (Exhausted derived) is = refl

front-all : (happened more all : List Happened) → HaveCauses all happened → HaveCauses (more ++ all) happened
unfolding All
front-all [] more all have = tt
front-all (one ∷ happened) more all have = (caused-front more all one.sess one.what have.0, front-all happened more all have.1)

back-all : (happened all more : List Happened) → HaveCauses all happened → HaveCauses (all ++ more) happened
unfolding All
back-all [] all more have = tt
back-all (one ∷ happened) all more have = (caused-back all more one.sess one.what have.0, back-all happened all more have.1)

join-all : (first then all : List Happened) → HaveCauses all first → HaveCauses all then → HaveCauses all (first ++ then)
unfolding All
join-all [] then all p q = q
join-all (one ∷ first) then all p q = (p.0, join-all first then all p.1 q)

-- each has its cause among them
abbrev Caused : List Happened → Type 0
Caused happened = HaveCauses happened happened

none : Caused []
unfolding All
none = tt

joined : (first then : List Happened) → Caused first → Caused then → Caused (first ++ then)
joined first then p q = join-all first then (first ++ then) (back-all first first then p) (front-all then first then q)

if-caused : (b : Bool) (x y : List Happened) → Caused x → Caused y → Caused (cond b x y)
if-caused true x y p q = p
if-caused false x y p q = q

-- ## Responses have none to have

response-caused : (found : Option SessionView) (asked : Asked) (tagged : Bool) (code : ℕ) → Caused (response_in found asked tagged code)
unfolding response_in All is_caused
response-caused None asked tagged code = tt
response-caused (Some session) asked tagged code = (refl, tt)

answer-caused : (view : View) (request : Option RequestView) (code : ℕ) → Caused (answer_to view request code)
unfolding answer_to
answer-caused view None code = none
answer-caused view (Some request) code = response-caused (session_in view request.sess) (asked_of request) true code

each-exhausted : (test : SessionView → Bool) (derived : SessionView → Bool) (sessions : List SessionView) (all : List Happened)
    → HaveCauses all (in_each test (λ session. Exhausted (derived session)) sessions)
unfolding in_each All is_caused
each-exhausted test derived [] all = tt
each-exhausted test derived (s ∷ sessions) all = by-test (test s) (each-exhausted test derived sessions all)
  where
    by-test : (b : Bool) → HaveCauses all (map (λ (session : SessionView). record { sess = session.id; what = Exhausted (derived session) }) (filter test sessions))
        → HaveCauses all (map (λ (session : SessionView). record { sess = session.id; what = Exhausted (derived session) }) (cond b (s ∷ filter test sessions) (filter test sessions)))
    by-test true later = (refl, later)
    by-test false later = later

exhausted-by-caused : (known : Known) (req : ReqId) (original : SessId) (sessions : List SessionView) → Caused (exhausted_by known req original sessions)
unfolding exhausted_by
exhausted-by-caused known req original sessions =
    each-exhausted (is_of known req) (λ session. not (same_session session.id original)) sessions (exhausted_by known req original sessions)

-- ## A response and what it is to the others

and-first : (a b : Bool) → (a && b) ≡ true → a ≡ true
and-first true b is = refl
and-first false b is = cc

and-second : (a b : Bool) → (a && b) ≡ true → b ≡ true
and-second true b is = is
and-second false b is = cc

is-not : (b : Bool) → not b ≡ true → b ≡ false
is-not true is = cc
is-not false is = refl

apart : (a b c : ℕ) → (a == b) ≡ true → (c == b) ≡ false → (a == c) ≡ false
apart a b c is not = grind (arith, nat_tests, is, not)

-- where each SipSession that passes has its cause
each-caused : (test : SessionView → Bool) (what : Happening) (sessions : List SessionView) (all : List Happened)
    → ((s : SessionView) → test s ≡ true → is_caused all s.id what ≡ true) → HaveCauses all (in_each test (λ session. what) sessions)
unfolding in_each All
each-caused test what [] all each = tt
each-caused test what (s ∷ sessions) all each = by-test (test s) refl (each-caused test what sessions all each)
  where
    by-test : (b : Bool) → test s ≡ b → HaveCauses all (map (λ (session : SessionView). record { sess = session.id; what = what }) (filter test sessions))
        → HaveCauses all (map (λ (session : SessionView). record { sess = session.id; what = what }) (cond b (s ∷ filter test sessions) (filter test sessions)))
    by-test true is later = (each s is, later)
    by-test false is later = later

first-takes : (role : Role) (request : RequestView) (response : Response) (tagged : Bool) → is_first_success request response ≡ true
    → takes_call (Responded role (asked_of request) tagged response.code) ≡ true
unfolding is_first_success takes_call
first-takes role request response tagged is =
    let three = and-first (request.initial && same_bytes request.method invite && is_success response.code) (not (option_map_or is_success request.answered false)) is in
    let two = and-first (request.initial && same_bytes request.method invite) (is_success response.code) three in
    rw (
      and-first request.initial (same_bytes request.method invite) two,
      and-second request.initial (same_bytes request.method invite) two,
      and-second (request.initial && same_bytes request.method invite) (is_success response.code) three,
    ) refl

-- the 2xx stands before those that it overtakes
over-caused : (s : SessionView) (request : RequestView) (response : Response) (tagged : Bool) (sess : SessId) (x : Session)
    → (s.id.0 == sess.0) ≡ true → is_first_success request response ≡ true
    → Caused (record { sess = s.id; what = Responded s.role (asked_of request) tagged response.code } ∷ overtaken_by request.id sess x)
unfolding overtaken_by All is_caused
over-caused s request response tagged sess x at is = (
  refl,
  each-caused (λ other. is_of x.known request.id other && not other.gone && not (same_session other.id sess)) Overtaken x.view.sessions
      (record { sess = s.id; what = Responded s.role (asked_of request) tagged response.code } ∷ overtaken_by request.id sess x)
      (λ other test. or-left (takes_call (Responded s.role (asked_of request) tagged response.code) && not (s.id.0 == other.id.0)) _
      (both (first-takes s.role request response tagged is)
      (apart s.id.0 sess.0 other.id.0 at
      (is-not (other.id.0 == sess.0) (and-second (is_of x.known request.id other && not other.gone) (not (other.id.0 == sess.0)) test))))),
)
  where
    both : {a b : Bool} → a ≡ true → b ≡ false → (a && not b) ≡ true
    both p q = rw (p, q) refl

-- the failure stands before those that it undoes
undone-caused : (s : SessionView) (request : RequestView) (response : Response) (tagged : Bool) (x : Session)
    → (request.initial && is_failure response.code) ≡ true
    → Caused (record { sess = s.id; what = Responded s.role (asked_of request) tagged response.code } ∷ undone_by request.id request.sess x)
unfolding undone_by All is_caused fails_first
undone-caused s request response tagged x is = (
  refl,
  each-caused (λ other. is_of x.known request.id other && not (same_session other.id request.sess)) Undone x.view.sessions
      (record { sess = s.id; what = Responded s.role (asked_of request) tagged response.code } ∷ undone_by request.id request.sess x)
      (λ other test. or-left (request.initial && is_failure response.code) _ is),
)

settled-caused : (s : SessionView) (request : RequestView) (response : Response) (tagged : Bool) (sess : SessId) (x : Session) (a b : Bool)
    → (s.id.0 == sess.0) ≡ true → is_first_success request response ≡ a → (request.initial && is_failure response.code) ≡ b
    → Caused (record { sess = s.id; what = Responded s.role (asked_of request) tagged response.code } ∷ cond a (overtaken_by request.id sess x) (cond b (undone_by request.id request.sess x) []))
unfolding All is_caused
settled-caused s request response tagged sess x true b at first failed = over-caused s request response tagged sess x at first
settled-caused s request response tagged sess x false true at first failed = undone-caused s request response tagged x failed
settled-caused s request response tagged sess x false false at first failed = (refl, tt)

at-caused : (request : RequestView) (response : Response) (sess : SessId) (x : Session) (found : Option SessionView) → find (is_session sess) x.view.sessions ≡ found
    → Caused (cond (is_gone found) [] (response_in found (asked_of request) (is_some (tag_of response.head.to)) response.code ++ settled_by request sess response x))
unfolding is_gone response_in settled_by
at-caused request response sess x None is = none
at-caused request response sess x (Some s) is =
    if-caused s.gone [] _ none (settled-caused s request response (is_some (tag_of response.head.to)) sess x _ _ (found-passes x.view.sessions sess s is) refl refl)

got-caused : (request : RequestView) (response : Response) (at : SessId × Session) → Caused (got_in request response at)
unfolding got_in
got-caused request response (sess, x) = at-caused request response sess x (session_in x.view sess) refl

own-caused : (x : Session) (kept : Kept) (response : Response) (found : Option RequestView) → Caused (got_own x kept response found)
unfolding got_own
own-caused x kept response None = if-caused (accepts_invite kept response) _ [] (got-caused (shown_again x.known kept response.code) response _) none
own-caused x kept response (Some request) = got-caused request response _

response-event : (x : Session) (response : Response) (kept : Option Kept) → Caused (got x response kept)
unfolding got
response-event x response None = none
response-event x response (Some kept) = own-caused x kept response (request_in x.view kept.id)

-- ## Everything else

low-caused : (x : Session) (number : ℕ) (sess : SessId) (found : Option SessionView) (request : Request) → Caused (too_low_in x number sess found request)
unfolding too_low_in
low-caused x number sess None request = none
low-caused x number sess (Some found) request = if-caused (is_low (leg_of x.known sess) request) _ [] (answer-caused _ _ 500) none

request-caused : (x : Session) (number : ℕ) (request : Request) (sess : Option SessId) → Caused (too_low x number request sess)
unfolding too_low
request-caused x number request None = none
request-caused x number request (Some sess) = low-caused x number sess (session_in x.view sess) request

cancelled-in-caused : (x : Session) (kept : Option Kept) (request : Option RequestView) → Caused (cancelled_in x kept request)
unfolding cancelled_in
cancelled-in-caused x None request = none
cancelled-in-caused x (Some kept) None = none
cancelled-in-caused x (Some kept) (Some request) =
    if-caused request.proxied [] _ none (if-caused (is_none request.answered) (answer_to x.view (Some request) 487) [] (answer-caused x.view (Some request) 487) none)

cancel-caused : (x : Session) (invited : Option Invited) → Caused (cancelled x invited)
unfolding cancelled
cancel-caused x None = none
cancel-caused x (Some invited) = cancelled-in-caused x (kept_of x.known invited.req) (request_in x.view invited.req)

heard-caused : (x : Session) (number : ℕ) (event : Queued) → Caused (heard x number event)
unfolding heard
heard-caused x number (queued.Initial region subscriber popped request) = none
heard-caused x number (queued.Request request) = request-caused x number request _
heard-caused x number (queued.Response branch response) = response-event x response _
heard-caused x number (queued.Cancelled of) = cancel-caused x _
heard-caused x number (queued.Timer id) = none
heard-caused x number (queued.BranchTimer branch due) = none
heard-caused x number queued.Expired = none
heard-caused x number queued.Ready = none

call-caused : (play : Play) (call : Call) → Caused (given_by play call)
unfolding given_by
call-caused play (calls.Respond req answer) = answer-caused play.view _ answer.code
call-caused play (calls.B2bRespond sess answer) = answer-caused play.view _ answer.code
call-caused play (calls.CreateRequest ask) = none
call-caused play (calls.CreateInDialog sess ask) = none
call-caused play (calls.B2bCreate req uri) = none
call-caused play (calls.SetDirective draft directive origin) = none
call-caused play (calls.Send draft) = none
call-caused play (calls.Discard draft) = none
call-caused play (calls.Ack sess body) = none
call-caused play (calls.Cancel req) = none
call-caused play (calls.ProxyTo req uris how) = none
call-caused play (calls.ProxyCancel req) = none
call-caused play (calls.Link a b) = none
call-caused play (calls.Unlink a) = none
call-caused play (calls.StartTimer delay period info) = none
call-caused play (calls.CancelTimer id) = none
call-caused play (calls.SetAttribute name value) = none
call-caused play (calls.RemoveAttribute name) = none
call-caused play (calls.SetExpires minutes) = none
call-caused play (calls.SetReadyFlag target flag) = none
call-caused play (calls.InvalidateSession sess) = none
call-caused play calls.InvalidateApplication = none

if-call-caused : (play : Play) (call : Call) (found : Option Refusal) → Caused (given_if play call found)
unfolding given_if
if-call-caused play call None = call-caused play call
if-call-caused play call (Some refused) = none

given-caused : (made : List CallRecord) (play : Play) → Caused (given play made)
unfolding given
given-caused [] play = none
given-caused (m ∷ made) play = joined (given (after_listed play m.call) made) (given_if play m.call (refusal play m.call)) (given-caused made (after_listed play m.call)) (if-call-caused play m.call (refusal play m.call))

failed-at-caused : (view : View) (request : Option RequestView) → Caused (failed_at view request)
unfolding failed_at
failed-at-caused view None = none
failed-at-caused view (Some request) = if-caused (is_owed request && not request.proxied) (answer_to view (Some request) 500) [] (answer-caused view (Some request) 500) none

failed-caused : (req : Option ReqId) (end : End) (view : View) → Caused (failed req end view)
unfolding failed
failed-caused req ends.Fine view = none
failed-caused req ends.Fault view = failed-at-caused view (option_and_then (request_in view) req)
failed-caused req ends.Starved view = none

to-caused : (proxy : Proxy) (sess : SessId) (request : Option RequestView) (response : Response) (view : View) → Caused (forwarded_to proxy sess request response view)
unfolding forwarded_to
to-caused proxy sess None response view = if-caused (is_some proxy.options) (came_in view sess (initial_of proxy) response) [] (response-caused (session_in view sess) (initial_of proxy) _ response.code) none
to-caused proxy sess (Some request) response view = response-caused (session_in view sess) (asked_of request) _ response.code

passed-caused : (proxy : Proxy) (passing : Option Passing) (working : Working) → Caused (passed proxy passing working)
unfolding passed
passed-caused proxy None working = none
passed-caused proxy (Some passing) working =
    if-caused (can_pass proxy passing.response) (forwarded proxy passing.sess passing.response working) [] (to-caused proxy passing.sess _ passing.response working.play.view) none

best-caused : (proxy : Proxy) (response : Option Response) (working : Working) → Caused (best_passed proxy response working)
unfolding best_passed
best-caused proxy None working = none
best-caused proxy (Some response) working = to-caused proxy proxy.sess _ response working.play.view

chosen-caused : (proxy : Proxy) (working : Working) → Caused (chosen proxy working)
unfolding chosen
chosen-caused proxy working = if-caused (can_choose proxy) (best_passed proxy (best_response proxy.candidates) working) [] (best-caused proxy (best_response proxy.candidates) working) none

exhausted-caused : (proxy : Proxy) (working : Working) → Caused (exhausted proxy working)
unfolding exhausted
exhausted-caused proxy working =
    if-caused (is_exhausted proxy && is_some proxy.options) (exhausted_by working.known proxy.req proxy.sess working.play.view.sessions) [] (exhausted-by-caused working.known proxy.req proxy.sess working.play.view.sessions) none

last-caused : (proxy : Proxy) (working : Working) → Caused (acted_last proxy working)
unfolding acted_last
last-caused proxy working = exhausted-caused (proxy_now proxy working) (sends_cancels proxy working)

next-caused : (proxy : Proxy) (working : Working) → Caused (acted_next proxy working)
unfolding acted_next
next-caused proxy working =
    joined (acted_last proxy (chooses (proxy_now proxy working) working)) (chosen (proxy_now proxy working) working) (last-caused proxy (chooses (proxy_now proxy working) working)) (chosen-caused (proxy_now proxy working) working)

from-caused : (proxy : Proxy) (working : Working) → Caused (acted_from proxy working)
unfolding acted_from
from-caused proxy working =
    joined (acted_next proxy (passes (proxy_now proxy working) proxy.passing working)) (passed (proxy_now proxy working) proxy.passing working)
    (next-caused proxy (passes (proxy_now proxy working) proxy.passing working)) (passed-caused (proxy_now proxy working) proxy.passing working)

acted-caused : (config : Config) (proxy : Proxy) (working : Working) → Caused (acted config proxy working)
unfolding acted
acted-caused config proxy working = from-caused proxy (fold (started config proxy) working (starting proxy))

acted-by-caused : (config : Config) (proxy : Proxy) (working : Working) → Caused (acted_by config proxy working)
unfolding acted_by
acted-by-caused config proxy working = if-caused (is_invalid working.known proxy.sess) [] (acted config proxy working) none (acted-caused config proxy working)

all-acted-caused : (proxies : List Proxy) (config : Config) (working : Working) → Caused (all_acted config proxies working)
unfolding all_acted
all-acted-caused [] config working = none
all-acted-caused (proxy ∷ proxies) config working =
    joined (all_acted config proxies (acts config working proxy)) (acted_by config proxy working) (all-acted-caused proxies config (acts config working proxy)) (acted-by-caused config proxy working)

stopped-at-caused : (working : Working) (request : RequestView) (kept : Option Kept) → Caused (stopped_at working request kept)
unfolding stopped_at
stopped-at-caused working request None = none
stopped-at-caused working request (Some kept) =
    if-caused (request.initial || not request.proxied || is_invalid working.known request.sess) [] _ none
    (if-caused (request.hops == 0) _ [] (if-caused (is_owed request) (answer_to working.play.view (Some request) 483) [] (answer-caused working.play.view (Some request) 483) none) none)

stopped-of-caused : (working : Working) (request : Option RequestView) → Caused (stopped_of working request)
unfolding stopped_of
stopped-of-caused working None = none
stopped-of-caused working (Some request) = stopped-at-caused working request (kept_of working.known request.id)

stopped-caused : (event : Queued) (req : Option ReqId) (working : Working) → Caused (stopped event req working)
unfolding stopped
stopped-caused event req working =
    if-caused (is_request_event event) (stopped_of working (option_and_then (request_in working.play.view) req)) [] (stopped-of-caused working (option_and_then (request_in working.play.view) req)) none

ended-caused : (config : Config) (event : Queued) (req : Option ReqId) (working : Working) → Caused (ended_by config event req working)
unfolding ended_by
ended-caused config event req working =
    joined (stopped event req (all_act config working)) (all_acted config working.known.proxies working) (stopped-caused event req (all_act config working)) (all-acted-caused working.known.proxies config working)

called-caused : (config : Config) (event : Queued) (req : Option ReqId) (end : End) (working : Working) → Caused (called_by config event req end working)
unfolding called_by
called-caused config event req end working =
    joined (ended_by config event req (faulted config req end working)) (failed req end working.play.view) (ended-caused config event req (faulted config req end working)) (failed-caused req end working.play.view)

shown-caused : (config : Config) (turn : Turn) (shown : Prepared) → Caused (shown_by config turn shown)
unfolding shown_by
shown-caused config turn shown =
    joined (called_by config turn.waiting.event shown.req turn.end (drafts_ended (worked_all config shown turn.calls))) (given (begun shown.view) turn.calls)
    (called-caused config turn.waiting.event shown.req turn.end (drafts_ended (worked_all config shown turn.calls))) (given-caused turn.calls (begun shown.view))

turn-caused : (config : Config) (x : Session) (turn : Turn) → Caused (happened_by config x turn)
unfolding happened_by
turn-caused config x turn =
    joined (shown_by config turn (prepared config turn.ringing x turn.waiting turn.now)) (heard (at_moment turn.now x) turn.waiting.number turn.waiting.event)
    (shown-caused config turn (prepared config turn.ringing x turn.waiting turn.now)) (heard-caused (at_moment turn.now x) turn.waiting.number turn.waiting.event)

turns-caused : (turns : List Turn) (config : Config) (history : History) → Caused (happened_after config history turns)
unfolding happened_after
turns-caused [] config history = none
turns-caused (turn ∷ earlier) config history =
    joined (happened_by config (session_after config history earlier) turn) (happened_after config history earlier) (turn-caused config (session_after config history earlier) turn) (turns-caused earlier config history)

pub histories-caused : (config : Config) (history : History) → HaveCauses (happened_of config history) (happened_of config history)
histories-caused config history = turns-caused history.turns config history
