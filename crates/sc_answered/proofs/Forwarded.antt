-- What drafts that were left, a fault and what proxies forward make of the states of SipSessions.
use Rattle.std.proofs.Common.{◌≡◌, Bool, true, false, Option, None, Some, List, [], ◌∷◌, refl, sym, subst}
use Rattle.std.specs.Prelude.{◌&&◌, cond, is_none, is_some, not, option_and_then}
use Rattle.std.specs.List.{fold}
use Rattle.sc_tokens.specs.Names.{same_bytes}
use Rattle.sc_value.specs.Lists.{change_first}
use Rattle.sc_value.specs.declared.ids.ReqId.{ReqId}
use Rattle.sc_value.specs.declared.ids.SessId.{SessId}
use Rattle.sc_value.specs.declared.message.Response.{Response}
use Rattle.sc_value.specs.declared.parts.Uri.{Uri}
use Rattle.sc_terms.specs.declared.calls.End.{End}
use Rattle.sc_terms.specs.declared.calls.End.TheVariants as ends
use Rattle.sc_terms.specs.declared.settings.Config.{Config}
use Rattle.sc_terms.specs.declared.views.RequestView.{RequestView}
use Rattle.sc_terms.specs.declared.views.SessionView.{SessionView}
use Rattle.sc_terms.specs.declared.views.State.{State}
use Rattle.sc_terms.specs.declared.views.View.{View}
use Rattle.sc_tokens.specs.Bytes.{Bytes}
use Rattle.sc_state.specs.declared.proxy.Passing.{Passing}
use Rattle.sc_state.specs.declared.proxy.Proxy.{Proxy}
use Rattle.sc_state.specs.declared.session.Session.{Session}
use Rattle.sc_state.specs.declared.working.Draft.{Draft}
use Rattle.sc_state.specs.declared.working.Working.{Working}
use Rattle.sc_model.specs.BestResponses.{best_response, server_error}
use Rattle.sc_model.specs.Dialogs.{subscribe, tag_of}
use Rattle.sc_model.specs.Transactions.{is_success}
use Rattle.sc_hosts.specs.Acting.{chooses, drafts_ended, fault_at, after_fault as faulted, forwarded_view, forwards, forwards_best, in_view, moved_on, passes, after_start as started, subscribed_tag, with_subscribed, without_left}
use Rattle.sc_hosts.specs.Branches.{can_choose, can_pass}
use Rattle.sc_hosts.specs.Giving.{answering}
use Rattle.sc_hosts.specs.Looking.{in_state, is_session, without_sip_session as removed, request_in}
use Rattle.sc_hosts.specs.Messages.{bare_answer}
use Rattle.sc_hosts.specs.States.{after_initial}
use Rattle.sc_hosts.specs.ViewChanges.{view_with_answer as answered, answered_in, is_owed, tidy}
use Rattle.sc_walked.specs.SessionWalks.{Each}
use Rattle.sc_walked.proofs.WalkParts.{each-first, each-same, if-is}
use Rattle.sc_answered.specs.StateOf.{Response as Responded, meaning}
use Rattle.sc_answered.specs.Happened.{Happened, answer_to, asked_of, best_passed, came_in, by_choice as chosen, by_turn_end as failed, failed_at, by_forwarding as forwarded, forwarded_to, initial_of, by_passing as passed}
use Rattle.sc_answered.proofs.StateAfter.{after-first, state_after}
use Rattle.sc_answered.proofs.Standing.{Comes, IsKept, IsSided, comes-each, comes-next, comes-response, comes-same, if-comes, if-still, response-same}
use Rattle.sc_answered.proofs.Shown.{comes-answer, comes-responded, kept, sided}
use Rattle.sc_answered.proofs.Called.{comes-removed}

abbrev pub views_of : View → List SessionView
views_of view = view.sessions

abbrev pub sessions_at : Working → List SessionView
sessions_at working = working.play.view.sessions

abbrev pub sessions_in : Session → List SessionView
sessions_in session = session.view.sessions

-- what happens between two moments of a turn
abbrev pub Goes : List Happened → Working → Working → Type 0
Goes new x y = Comes new x.play.view.sessions y.play.view.sessions

-- ## Drafts, and a fault

left-comes : (drafts : List Draft) (view : View) → Comes [] view.sessions (fold without_left view drafts).sessions
unfolding without_left
left-comes [] view = comes-same view.sessions
left-comes (draft ∷ drafts) view =
    let next : View = cond draft.initial (removed draft.sess view) view in
    comes-next [] view.sessions next.sessions (fold without_left next drafts).sessions
    (if-still views_of draft.initial view.sessions (removed draft.sess view) view (comes-removed draft.sess view) (comes-same view.sessions)) (left-comes drafts next)

pub drafts-come : (working : Working) → Goes [] working (drafts_ended working)
unfolding drafts_ended tidy
drafts-come working = left-comes working.play.drafts working.play.view

failed-at-comes : (config : Config) (request : Option RequestView) (working : Working)
    → Goes (failed_at working.play.view request) working (fault_at config request working)
unfolding failed_at fault_at
failed-at-comes config None working = comes-same working.play.view.sessions
failed-at-comes config (Some request) working =
    if-comes sessions_at (is_owed request && not request.proxied) working.play.view.sessions (answer_to working.play.view (Some request) 500) []
    (in_view (answered (Some request) 500 working.play.view) (answering config (Some request) (bare_answer 500 server_error) working)) working
    (comes-answer working.play.view (Some request) 500) (comes-same working.play.view.sessions)

pub failed-comes : (config : Config) (req : Option ReqId) (end : End) (working : Working)
    → Goes (failed req end working.play.view) working (faulted config req end working)
unfolding failed faulted
failed-comes config req ends.Fine working = comes-same working.play.view.sessions
failed-comes config req ends.Fault working = failed-at-comes config (option_and_then (request_in working.play.view) req) working
failed-comes config req ends.Starved working = comes-same working.play.view.sessions

-- ## Proxies

pub started-comes : (config : Config) (proxy : Proxy) (uris : List Uri) (working : Working)
    → Goes [] working (fold (started config proxy) working uris)
unfolding started
started-comes config proxy [] working = comes-same working.play.view.sessions
started-comes config proxy (uri ∷ uris) working = started-comes config proxy uris (started config proxy working uri)

tag-kept : (tag : Option Bytes) (s : SessionView) → IsKept s (subscribed_tag tag s)
unfolding subscribed_tag
tag-kept tag s = if-is (IsKept s) (is_none s.peer_tag) (record s { peer_tag = tag }) s (record { id = refl; state = refl }) (kept s)

tag-sided : (tag : Option Bytes) (s : SessionView) → IsSided s (subscribed_tag tag s)
unfolding subscribed_tag
tag-sided tag s = if-is (IsSided s) (is_none s.peer_tag) (record s { peer_tag = tag }) s (record { id = refl; role = refl }) (sided s)

if-each : (Same : SessionView → SessionView → Type 0) (b : Bool) (xs : List SessionView) (y z : View) → Each Same xs y.sessions → Each Same xs z.sessions
    → Each Same xs (cond b y z).sessions
if-each Same true xs y z p q = p
if-each Same false xs y z p q = q

subscribed-each : (Same : SessionView → SessionView → Type 0) (proxy : Proxy) (sess : SessId) (response : Response) (view : View)
    → ((s : SessionView) → Same s s) → ((tag : Option Bytes) (s : SessionView) → Same s (subscribed_tag tag s))
    → Each Same view.sessions (with_subscribed proxy sess response view).sessions
unfolding with_subscribed
subscribed-each Same proxy sess response view keep tagged =
    if-each Same (is_some proxy.options && same_bytes proxy.request.method subscribe && is_success response.code) view.sessions _ view
    (each-first Same view.sessions (is_session sess) (subscribed_tag (tag_of response.head.to)) keep (tagged (tag_of response.head.to))) (each-same Same view.sessions keep)

-- to an initial request that no view shows
initial-state : (proxy : Proxy) (response : Response) (s : SessionView) → is_some proxy.options ≡ true
    → (moved_on proxy response s).state ≡ state_after (meaning (Responded s.role (initial_of proxy) (is_some (tag_of response.head.to)) response.code)) s.state
unfolding moved_on in_state meaning
initial-state proxy response s is = rw is (sym (after-first s.role proxy.request.method (is_some (tag_of response.head.to)) response.code s.state))

moved-id : (b : Bool) (s : SessionView) (state : State) → (cond b (in_state state s) s).id ≡ s.id
unfolding in_state
moved-id true s state = refl
moved-id false s state = refl

initial-id : (proxy : Proxy) (response : Response) (s : SessionView) → (moved_on proxy response s).id ≡ s.id
unfolding moved_on
initial-id proxy response s =
    moved-id (is_some proxy.options) s (after_initial s.role proxy.request.method (is_some (tag_of response.head.to)) s.state response.code)

unmoved : (proxy : Proxy) (response : Response) (s : SessionView) → is_some proxy.options ≡ false → IsKept s (moved_on proxy response s)
unfolding moved_on
unmoved proxy response s is = rw is (kept s)

initial-comes : (b : Bool) (proxy : Proxy) (sess : SessId) (response : Response) (view : View) → is_some proxy.options ≡ b
    → Comes (cond b (came_in view sess (initial_of proxy) response) []) view.sessions (change_first (is_session sess) (moved_on proxy response) view.sessions)
initial-comes true proxy sess response view is =
    comes-response sess (initial_of proxy) (is_some (tag_of response.head.to)) response.code (moved_on proxy response) view.sessions (initial-id proxy response) (λ s. initial-state proxy response s is)
initial-comes false proxy sess response view is =
    comes-each view.sessions _ (each-first IsKept view.sessions (is_session sess) (moved_on proxy response) kept (λ s. unmoved proxy response s is))

view-comes : (proxy : Proxy) (sess : SessId) (request : Option RequestView) (response : Response) (view : View)
    → Comes (forwarded_to proxy sess request response view) view.sessions (forwarded_view proxy sess request response view).sessions
unfolding forwarded_to forwarded_view answered_in tidy
view-comes proxy sess None response view = initial-comes (is_some proxy.options) proxy sess response view refl
view-comes proxy sess (Some request) response view = comes-responded sess request (is_some (tag_of response.head.to)) response.code view.sessions

-- it tells the same of a view with another tag
if-told : (b : Bool) (x y : List Happened) → x ≡ y → cond b x [] ≡ cond b y []
if-told true x y same = same
if-told false x y same = refl

forwarded-same : (proxy : Proxy) (sess : SessId) (request : Option RequestView) (response : Response) (v w : View) → Each IsSided v.sessions w.sessions
    → forwarded_to proxy sess request response w ≡ forwarded_to proxy sess request response v
unfolding forwarded_to
forwarded-same proxy sess None response v w each =
    if-told (is_some proxy.options) _ _ (response-same v.sessions w.sessions sess (initial_of proxy) (is_some (tag_of response.head.to)) response.code each)
forwarded-same proxy sess (Some request) response v w each =
    response-same v.sessions w.sessions sess (asked_of request) (is_some (tag_of response.head.to)) response.code each

forwards-come : (proxy : Proxy) (sess : SessId) (response : Response) (working : Working)
    → Goes (forwarded proxy sess response working) working (forwards proxy sess response working)
unfolding forwards
forwards-come proxy sess response working =
    let view : View = working.play.view in
    let request : Option RequestView = request_in view proxy.req in
    let tagged : View = with_subscribed proxy sess response view in
    let after : View = forwarded_view proxy sess request response tagged in
    subst (λ (new : List Happened). Comes new view.sessions after.sessions)
    (forwarded-same proxy sess request response view tagged (subscribed-each IsSided proxy sess response view sided tag-sided))
    (comes-next (forwarded_to proxy sess request response tagged) view.sessions tagged.sessions after.sessions
    (comes-each view.sessions tagged.sessions (subscribed-each IsKept proxy sess response view kept tag-kept)) (view-comes proxy sess request response tagged))

pub passed-comes : (proxy : Proxy) (passing : Option Passing) (working : Working) → Goes (passed proxy passing working) working (passes proxy passing working)
unfolding passed passes
passed-comes proxy None working = comes-same working.play.view.sessions
passed-comes proxy (Some passing) working =
    if-comes sessions_at (can_pass proxy passing.response) working.play.view.sessions (forwarded proxy passing.sess passing.response working) [] (forwards proxy passing.sess passing.response working) working
    (forwards-come proxy passing.sess passing.response working) (comes-same working.play.view.sessions)

best-comes : (proxy : Proxy) (response : Option Response) (working : Working) → Goes (best_passed proxy response working) working (forwards_best proxy response working)
unfolding best_passed forwards_best
best-comes proxy None working = comes-same working.play.view.sessions
best-comes proxy (Some response) working = forwards-come proxy proxy.sess response working

pub chosen-comes : (proxy : Proxy) (working : Working) → Goes (chosen proxy working) working (chooses proxy working)
unfolding chosen chooses
chosen-comes proxy working =
    if-comes sessions_at (can_choose proxy) working.play.view.sessions (best_passed proxy (best_response proxy.candidates) working) [] (forwards_best proxy (best_response proxy.candidates) working) working
    (best-comes proxy (best_response proxy.candidates) working) (comes-same working.play.view.sessions)
