-- What the event of a turn makes of what a session proxies: nothing, or one thing of one of them.
use Rattle.std.proofs.Common.{◌≡◌, ℕ, Bool, true, false, Option, None, Some, List, [], ◌∷◌, inl, inr, refl, sym, ap, subst, ◌∙◌}
use Rattle.std.specs.Prelude.{◌==◌, ◌&&◌, cond, is_none, is_some, not}
use Rattle.std.specs.List.{find, list_any}
use Rattle.std.specs.Option.{option_map_or}
use Rattle.sc_value.specs.Lists.{change_first}
use Rattle.sc_value.specs.declared.ids.ReqId.{ReqId}
use Rattle.sc_value.specs.declared.ids.SessId.{SessId}
use Rattle.sc_value.specs.declared.message.Request.{Request}
use Rattle.sc_value.specs.declared.message.Response.{Response}
use Rattle.sc_terms.specs.declared.events.Event.TheVariants as events
use Rattle.sc_terms.specs.declared.settings.Config.{Config}
use Rattle.sc_terms.specs.declared.views.RequestView.{RequestView}
use Rattle.sc_terms.specs.declared.views.SessionView.{SessionView}
use Rattle.sc_state.specs.declared.proxy.Branch.{Branch}
use Rattle.sc_state.specs.declared.proxy.Proxy.{Proxy}
use Rattle.sc_state.specs.declared.queue.Queued.{Queued}
use Rattle.sc_state.specs.declared.queue.Queued.TheVariants as queued
use Rattle.sc_state.specs.declared.session.Invited.{Invited}
use Rattle.sc_state.specs.declared.session.Kept.{Kept}
use Rattle.sc_state.specs.declared.session.Known.{Known}
use Rattle.sc_state.specs.declared.session.Session.{Session}
use Rattle.sc_state.specs.declared.working.Prepared.{Prepared}
use Rattle.sc_model.specs.Names.{edge_tag}
use Rattle.sc_model.specs.Responses.{response_to}
use Rattle.sc_hosts.specs.Branches.{branch_in, ended_by, has_branch, proxy_after_response as heard, is_invite, is_open, is_supervised, is_timed_out, without_search as stopped, to_cancel}
use Rattle.sc_hosts.specs.DerivedSessions.{Derives, Handling, In, Takes, handled_in, handling}
use Rattle.sc_hosts.specs.Legs.{change_leg, with_answer}
use Rattle.sc_hosts.specs.Looking.{session_in}
use Rattle.sc_hosts.specs.Messages.{bare_answer, own_response}
use Rattle.sc_hosts.specs.Preparing.{cancelled_proxy, cancelled_request, is_invited, kept_of, prepared_branch_timer, prepared_cancel, prepared_for, proxy_of, prepared_end as terminated, timed_out}
use Rattle.sc_hosts.specs.PreparingRequests.{showing, showing_in, silent}
use Rattle.sc_hosts.specs.PreparingResponses.{branch_placed, change_proxy, heard_in, is_invalid, is_watched, prepared_branch, prepared_response, event_of_response as told, with_branches}
use Rattle.sc_hosts.specs.Words.{request_timeout}
use Rattle.sc_proxied.specs.ProxyLists.{Expired, Heard, ProxyEvent, Stopped, TimedOut, happens, is_open_in, proxy_after}
use Rattle.sc_proxied.proofs.Lists.{equal, number-itself}
use Rattle.sc_walked.specs.SessionWalks.{Each}
use Rattle.sc_walked.proofs.WalkParts.{each-same}
use Rattle.sc_lasting.proofs.Began.{test-found}
use Rattle.sc_lasting.proofs.ShownProxies.{branch-same, expiry-same, if-same, known-of, own-same, received-same, request-same, terminated-same, timer-same}
use Rattle.sc_proxying.specs.Proxying.{IsOfEvent, IsTimeUp, is_cancel_of}
use Rattle.sc_proxying.proofs.Runs.{IsRun, IsStep, up-same}
use Rattle.sc_proxying.proofs.Places.{AreSingle, each-found, found-same, is_at, same-found}

-- ## How a proxied request has gone on

-- by these events, of which this is known; no branch was started
pub record HasCome (Of : Proxy → List ProxyEvent → Type 0) (before after : Proxy) : Type 0 where
  pub came : List ProxyEvent
  pub is : after ≡ proxy_after before came
  pub run : (n : ℕ) → IsRun n before came n
  pub of : Of before came

-- what is known of them, by the event of the turn
abbrev pub Comes : Session → Queued → Proxy → Proxy → Type 0
Comes x event before after = HasCome (λ (p : Proxy) (came : List ProxyEvent). IsOfEvent x.known x.view.now p event came) before after

none-of : (known : Known) (now : ℕ) (p : Proxy) (event : Queued) → IsOfEvent known now p event []
unfolding IsOfEvent
none-of known now p (queued.Initial region subscriber popped request) = refl
none-of known now p (queued.Request request) = refl
none-of known now p (queued.Response branch response) = inl refl
none-of known now p (queued.Cancelled number) = inl refl
none-of known now p (queued.Timer id) = refl
none-of known now p (queued.BranchTimer branch due) = inl refl
none-of known now p queued.Expired = refl
none-of known now p queued.Ready = refl

comes-none : (x : Session) (event : Queued) (p : Proxy) → Comes x event p p
unfolding proxy_after IsRun
comes-none x event p = record { came = []; is = refl; run = λ n. up-same n; of = none-of x.known x.view.now p event }

all-none : (x : Session) (event : Queued) (after : List Proxy) → after ≡ x.known.proxies → Each (Comes x event) x.known.proxies after
all-none x event after same = subst (λ (ps : List Proxy). Each (Comes x event) x.known.proxies ps) (sym same) (each-same (Comes x event) x.known.proxies (comes-none x event))

-- ## A response on a branch

handled-now : (x : Session) (req : ReqId) (original : SessionView) (came : Option Request) (how : Handling)
    → (handled_in x req original came how).1.view.now ≡ x.view.now
unfolding handled_in
handled-now x req original came (In at) = refl
handled-now x req original came (Takes tag) = refl
handled-now x req original came (Derives tag) = refl

heard-one : (x : Session) (branch : ℕ) (response : Response) (sess : SessId) (now : ℕ) (p : Proxy) → has_branch branch p ≡ true → now ≡ x.view.now
    → Comes x (queued.Response branch response) p (heard branch sess response now p)
unfolding proxy_after happens IsRun IsStep IsOfEvent
heard-one x branch response sess now p on is = record {
  came = Heard branch sess response now ∷ [];
  is = refl;
  run = λ n. (n, up-same n, up-same n);
  of = inr (sess, on, ap (λ (m : ℕ). Heard branch sess response m ∷ []) is);
}

heard-all : (x : Session) (branch : ℕ) (response : Response) (sess : SessId) (now : ℕ) (proxy : Proxy) → AreSingle x.known.proxies
    → find (has_branch branch) x.known.proxies ≡ Some proxy → now ≡ x.view.now
    → Each (Comes x (queued.Response branch response)) x.known.proxies (change_first (is_at proxy.req) (heard branch sess response now) x.known.proxies)
heard-all x branch response sess now proxy single found is =
    each-found (Comes x (queued.Response branch response)) (is_at proxy.req) (heard branch sess response now) x.known.proxies (comes-none x (queued.Response branch response))
    (λ p has. heard-one x branch response sess now p
    (subst (λ (q : Proxy). has_branch branch q ≡ true) (same-found (is_at proxy.req) x.known.proxies proxy p (found-same (has_branch branch) x.known.proxies proxy single found) has) (test-found (has_branch branch) x.known.proxies proxy found)) is)

heard_in-same : (proxy : Proxy) (branch : ℕ) (response : Response) (sess : SessId) (y : Session)
    → (heard_in proxy branch response (sess, y)).known.proxies ≡ change_first (is_at proxy.req) (heard branch sess response y.view.now) y.known.proxies
unfolding heard_in showing_in silent change_leg
heard_in-same proxy branch response sess y =
    let after : Session = record {
      view = with_branches proxy response y.view;
      known = change_proxy proxy.req (heard branch sess response y.view.now) (change_leg sess (with_answer proxy.request response) y.known);
    } in
    if-same known-of (is_watched y.known proxy) (showing_in after sess (told proxy branch response sess) None []) (silent after []) (change_first (is_at proxy.req) (heard branch sess response y.view.now) y.known.proxies) refl refl

heard-comes : (x : Session) (proxy : Proxy) (branch : ℕ) (response : Response) (at : SessId × Session) → AreSingle x.known.proxies
    → find (has_branch branch) x.known.proxies ≡ Some proxy → at.1.known.proxies ≡ x.known.proxies → at.1.view.now ≡ x.view.now
    → Each (Comes x (queued.Response branch response)) x.known.proxies (heard_in proxy branch response at).known.proxies
heard-comes x proxy branch response (sess, y) single found same now =
    subst (λ (ps : List Proxy). Each (Comes x (queued.Response branch response)) x.known.proxies ps)
    (sym (heard_in-same proxy branch response sess y ∙ ap (change_first (is_at proxy.req) (heard branch sess response y.view.now)) same))
    (heard-all x branch response sess y.view.now proxy single found now)

branch-now : (x : Session) (proxy : Proxy) (response : Response) (original : Option SessionView) → (branch_placed x proxy response original).1.view.now ≡ x.view.now
unfolding branch_placed
branch-now x proxy response None = refl
branch-now x proxy response (Some original) =
    if-same (λ (at : SessId × Session). at.1.view.now) (is_some proxy.options) (handled_in x proxy.req original (Some proxy.request) (handling x proxy.req original proxy.request response)) (proxy.sess, x) x.view.now
    (handled-now x proxy.req original (Some proxy.request) (handling x proxy.req original proxy.request response)) refl

if-each : (Same : Proxy → Proxy → Type 0) (xs : List Proxy) (b : Bool) (y z : Prepared) → Each Same xs y.known.proxies → Each Same xs z.known.proxies
    → Each Same xs (cond b y z).known.proxies
if-each Same xs true y z p q = p
if-each Same xs false y z p q = q

branch-comes : (x : Session) (proxy : Proxy) (branch : ℕ) (response : Response) → AreSingle x.known.proxies → find (has_branch branch) x.known.proxies ≡ Some proxy
    → Each (Comes x (queued.Response branch response)) x.known.proxies (prepared_branch x proxy branch response).known.proxies
unfolding prepared_branch silent
branch-comes x proxy branch response single found =
    let at : SessId × Session = branch_placed x proxy response (session_in x.view proxy.sess) in
    if-each (Comes x (queued.Response branch response)) x.known.proxies (is_invalid x.known proxy.sess) (silent x []) (heard_in proxy branch response at)
    (all-none x (queued.Response branch response) x.known.proxies refl)
    (heard-comes x proxy branch response at single found (branch-same x proxy response (session_in x.view proxy.sess)) (branch-now x proxy response (session_in x.view proxy.sess)))

response-comes : (x : Session) (branch : ℕ) (response : Response) (kept : Option Kept) (proxy : Option Proxy) → AreSingle x.known.proxies
    → find (has_branch branch) x.known.proxies ≡ proxy
    → Each (Comes x (queued.Response branch response)) x.known.proxies (prepared_response x branch response kept proxy).known.proxies
unfolding prepared_response silent
response-comes x branch response (Some kept) proxy single found = all-none x (queued.Response branch response) _ (own-same x kept response _)
response-comes x branch response None (Some proxy) single found = branch-comes x proxy branch response single found
response-comes x branch response None None single found = all-none x (queued.Response branch response) x.known.proxies refl

-- ## A CANCEL

stopped-one : (x : Session) (event : ℕ) (p : Proxy) → is_cancel_of x.known p event ≡ true → Comes x (queued.Cancelled event) p (stopped p)
unfolding proxy_after happens IsRun IsStep IsOfEvent
stopped-one x event p of = record { came = Stopped ∷ []; is = refl; run = λ n. (n, up-same n, up-same n); of = inr (of, refl) }

cancel-of : (x : Session) (event : ℕ) (invited : Invited) (proxy p : Proxy) → find (is_invited event) x.known.invited ≡ Some invited
    → (proxy.req.0 == invited.req.0) ≡ true → (p.req.0 == proxy.req.0) ≡ true → is_cancel_of x.known p event ≡ true
unfolding is_cancel_of
cancel-of x event invited proxy p found one two =
    rw found (rw (equal p.req.0 proxy.req.0 two, equal proxy.req.0 invited.req.0 one) (number-itself invited.req.0))

stopped-all : (x : Session) (event : ℕ) (invited : Invited) (proxy : Proxy) → find (is_invited event) x.known.invited ≡ Some invited
    → proxy_of x.known invited.req ≡ Some proxy → Each (Comes x (queued.Cancelled event)) x.known.proxies (change_first (is_at proxy.req) stopped x.known.proxies)
unfolding proxy_of
stopped-all x event invited proxy came found =
    each-found (Comes x (queued.Cancelled event)) (is_at proxy.req) stopped x.known.proxies (comes-none x (queued.Cancelled event))
    (λ p has. stopped-one x event p (cancel-of x event invited proxy p came (test-found (is_at invited.req) x.known.proxies proxy found) (test-found (is_at proxy.req) x.known.proxies p has)))

cancelled_proxy-comes : (x : Session) (event : ℕ) (invited : Invited) (proxy : Option Proxy) → find (is_invited event) x.known.invited ≡ Some invited
    → proxy_of x.known invited.req ≡ proxy → Each (Comes x (queued.Cancelled event)) x.known.proxies (cancelled_proxy x invited proxy).known.proxies
unfolding cancelled_proxy showing_in silent
cancelled_proxy-comes x event invited None came found = all-none x (queued.Cancelled event) x.known.proxies refl
cancelled_proxy-comes x event invited (Some proxy) came found =
    let after : Session = record x { known = change_proxy proxy.req stopped x.known } in
    if-each (Comes x (queued.Cancelled event)) x.known.proxies (is_supervised proxy) (showing_in after invited.sess (events.Cancelled invited.req invited.sess) (Some invited.req) []) (silent after [])
    (stopped-all x event invited proxy came found) (stopped-all x event invited proxy came found)

cancelled_request-comes : (x : Session) (event : ℕ) (invited : Invited) (request : Option RequestView) → find (is_invited event) x.known.invited ≡ Some invited
    → Each (Comes x (queued.Cancelled event)) x.known.proxies (cancelled_request x invited request).known.proxies
unfolding cancelled_request showing_in
cancelled_request-comes x event invited None came = all-none x (queued.Cancelled event) x.known.proxies refl
cancelled_request-comes x event invited (Some request) came =
    let shown : Prepared = showing_in x invited.sess (events.Cancelled invited.req invited.sess) (Some invited.req) [] in
    let ended : Prepared = terminated x invited request (kept_of x.known invited.req) in
    if-each (Comes x (queued.Cancelled event)) x.known.proxies request.proxied (cancelled_proxy x invited (proxy_of x.known invited.req)) (cond (is_none request.answered) ended shown)
    (cancelled_proxy-comes x event invited (proxy_of x.known invited.req) came refl)
    (if-each (Comes x (queued.Cancelled event)) x.known.proxies (is_none request.answered) ended shown
    (all-none x (queued.Cancelled event) _ (terminated-same x invited request (kept_of x.known invited.req))) (all-none x (queued.Cancelled event) x.known.proxies refl))

cancel-comes : (x : Session) (event : ℕ) (invited : Option Invited) → find (is_invited event) x.known.invited ≡ invited
    → Each (Comes x (queued.Cancelled event)) x.known.proxies (prepared_cancel x invited).known.proxies
unfolding prepared_cancel silent
cancel-comes x event None came = all-none x (queued.Cancelled event) x.known.proxies refl
cancel-comes x event (Some invited) came = cancelled_request-comes x event invited _ came

-- ## Timers

and-first : (a b : Bool) → (a && b) ≡ true → a ≡ true
and-first true b is = refl
and-first false b is = cc

-- a branch whose time is up is open
open-in : (branch due : ℕ) (proxy : Proxy) → is_timed_out branch due proxy ≡ true → is_open_in branch proxy ≡ true
unfolding is_timed_out
open-in branch due proxy is = by (branch_in proxy branch) is
  where
    by : (found : Option Branch) → option_map_or (λ (b : Branch). is_open b && option_map_or (λ d. d == due) b.due false) found false ≡ true → option_map_or is_open found false ≡ true
    by None is = cc
    by (Some b) is = and-first (is_open b) _ is

expired-one : (x : Session) (branch due : ℕ) (p : Proxy) → has_branch branch p ≡ true → is_open_in branch p ≡ true
    → Comes x (queued.BranchTimer branch due) p (to_cancel branch p)
unfolding proxy_after happens IsRun IsStep IsOfEvent IsTimeUp
expired-one x branch due p on running = record { came = Expired branch ∷ []; is = rw running refl; run = λ n. (n, up-same n, up-same n); of = inr (on, inl refl) }

ended-one : (x : Session) (branch due : ℕ) (sess : SessId) (response : Response) (p : Proxy) → has_branch branch p ≡ true → is_open_in branch p ≡ true → response.code ≡ 408
    → Comes x (queued.BranchTimer branch due) p (ended_by branch sess response p)
unfolding proxy_after happens IsRun IsStep IsOfEvent IsTimeUp
ended-one x branch due sess response p on running code =
    record { came = TimedOut branch sess response ∷ []; is = rw running refl; run = λ n. (n, up-same n, up-same n); of = inr (on, inr (sess, response, code, refl)) }

-- the branch is of the one that is found, and is open there
record IsDue (branch : ℕ) (p : Proxy) : Type 0 where
  on : has_branch branch p ≡ true
  running : is_open_in branch p ≡ true

due-found : (x : Session) (branch due : ℕ) (proxy p : Proxy) → AreSingle x.known.proxies → find (has_branch branch) x.known.proxies ≡ Some proxy
    → is_timed_out branch due proxy ≡ true → find (is_at proxy.req) x.known.proxies ≡ Some p → IsDue branch p
due-found x branch due proxy p single found is has =
    subst (IsDue branch) (same-found (is_at proxy.req) x.known.proxies proxy p (found-same (has_branch branch) x.known.proxies proxy single found) has)
    (record { on = test-found (has_branch branch) x.known.proxies proxy found; running = open-in branch due proxy is })

if-timed : (Same : Proxy → Proxy → Type 0) (xs : List Proxy) (b : Bool) (y z : Session) → Each Same xs y.known.proxies → Each Same xs z.known.proxies
    → Each Same xs (cond b y z).known.proxies
if-timed Same xs true y z p q = p
if-timed Same xs false y z p q = q

own-code : (tag : _) (reason : _) (request : Request) → (own_response tag 408 reason request).code ≡ 408
unfolding own_response response_to bare_answer
own-code tag reason request = refl

timed_out-comes : (config : Config) (x : Session) (proxy : Proxy) (branch due : ℕ) (provisional : Bool) → AreSingle x.known.proxies
    → find (has_branch branch) x.known.proxies ≡ Some proxy → is_timed_out branch due proxy ≡ true
    → Each (Comes x (queued.BranchTimer branch due)) x.known.proxies (timed_out config x proxy branch provisional).known.proxies
unfolding timed_out
timed_out-comes config x proxy branch due provisional single found is =
    let response : Response = own_response (edge_tag config.salt) 408 request_timeout proxy.request in
    if-timed (Comes x (queued.BranchTimer branch due)) x.known.proxies (is_invite proxy && provisional) (record x { known = change_proxy proxy.req (to_cancel branch) x.known })
    (record x { known = change_proxy proxy.req (ended_by branch proxy.sess response) x.known })
    (each-found (Comes x (queued.BranchTimer branch due)) (is_at proxy.req) (to_cancel branch) x.known.proxies (comes-none x (queued.BranchTimer branch due))
    (λ p has. let up = due-found x branch due proxy p single found is has in expired-one x branch due p up.on up.running))
    (each-found (Comes x (queued.BranchTimer branch due)) (is_at proxy.req) (ended_by branch proxy.sess response) x.known.proxies (comes-none x (queued.BranchTimer branch due))
    (λ p has. let up = due-found x branch due proxy p single found is has in ended-one x branch due proxy.sess response p up.on up.running (own-code _ _ proxy.request)))

if-due : (Same : Proxy → Proxy → Type 0) (xs : List Proxy) (b : Bool) (y z : Prepared) → (b ≡ true → Each Same xs y.known.proxies) → Each Same xs z.known.proxies
    → Each Same xs (cond b y z).known.proxies
if-due Same xs true y z p q = p refl
if-due Same xs false y z p q = q

branch_timer-comes : (config : Config) (ringing : List ℕ) (x : Session) (branch due : ℕ) (proxy : Option Proxy) → AreSingle x.known.proxies
    → find (has_branch branch) x.known.proxies ≡ proxy
    → Each (Comes x (queued.BranchTimer branch due)) x.known.proxies (prepared_branch_timer config ringing x branch due proxy).known.proxies
unfolding prepared_branch_timer silent
branch_timer-comes config ringing x branch due None single found = all-none x (queued.BranchTimer branch due) x.known.proxies refl
branch_timer-comes config ringing x branch due (Some proxy) single found =
    if-due (Comes x (queued.BranchTimer branch due)) x.known.proxies (is_timed_out branch due proxy && not (is_invalid x.known proxy.sess)) (silent (timed_out config x proxy branch (list_any (λ k. k == branch) ringing)) []) (silent x [])
    (λ is. timed_out-comes config x proxy branch due (list_any (λ k. k == branch) ringing) single found (and-first (is_timed_out branch due proxy) (not (is_invalid x.known proxy.sess)) is))
    (all-none x (queued.BranchTimer branch due) x.known.proxies refl)

-- ## Each event

pub event-comes : (config : Config) (ringing : List ℕ) (x : Session) (number : ℕ) (event : Queued) → AreSingle x.known.proxies
    → Each (Comes x event) x.known.proxies (prepared_for config ringing x number event).known.proxies
unfolding prepared_for showing
event-comes config ringing x number (queued.Initial region subscriber popped request) single = all-none x (queued.Initial region subscriber popped request) _ (received-same x number _ true false request)
event-comes config ringing x number (queued.Request request) single = all-none x (queued.Request request) _ (request-same x number request _)
event-comes config ringing x number (queued.Response branch response) single = response-comes x branch response _ _ single refl
event-comes config ringing x number (queued.Cancelled of) single = cancel-comes x of _ refl
event-comes config ringing x number (queued.Timer id) single = all-none x (queued.Timer id) _ (timer-same x _)
event-comes config ringing x number (queued.BranchTimer branch due) single = branch_timer-comes config ringing x branch due _ single refl
event-comes config ringing x number queued.Expired single = all-none x queued.Expired _ (expiry-same x)
event-comes config ringing x number queued.Ready single = all-none x queued.Ready _ refl
