-- The answers that follow from the calls of a turn are given to send: after a fault, by proxies, and where a request goes no further.
use Rattle.std.proofs.Common.{◌≡◌, ℕ, ◌==◌, ◌++◌, Bool, true, false, Option, None, Some, List, [], ◌∷◌, refl, subst, sym}
use Rattle.std.specs.Prelude.{◌&&◌, ◌||◌, cond, filter, is_none, is_some, map, not, option_and_then}
use Rattle.std.specs.List.{find, fold}
use Rattle.std.proofs.lemmas.Bool.{and_from, and_parts}
use Rattle.sc_tokens.specs.Names.{same_bytes}
use Rattle.sc_value.specs.declared.ids.ReqId.{ReqId}
use Rattle.sc_value.specs.declared.ids.SessId.{SessId}
use Rattle.sc_value.specs.declared.message.Response.{Response}
use Rattle.sc_value.specs.declared.parts.Uri.{Uri}
use Rattle.sc_terms.specs.declared.calls.Answer.{Answer}
use Rattle.sc_terms.specs.declared.calls.End.{End}
use Rattle.sc_terms.specs.declared.calls.End.TheVariants as ends
use Rattle.sc_terms.specs.declared.settings.Config.{Config}
use Rattle.sc_terms.specs.declared.views.RequestView.{RequestView}
use Rattle.sc_terms.specs.declared.views.SessionView.{SessionView}
use Rattle.sc_terms.specs.declared.views.View.{View}
use Rattle.sc_state.specs.declared.orders.Order.{Order}
use Rattle.sc_state.specs.declared.orders.Order.TheVariants as orders
use Rattle.sc_state.specs.declared.proxy.Passing.{Passing}
use Rattle.sc_state.specs.declared.proxy.Proxy.{Proxy}
use Rattle.sc_state.specs.declared.queue.Queued.{Queued}
use Rattle.sc_state.specs.declared.session.Kept.{Kept}
use Rattle.sc_state.specs.declared.session.Known.{Known}
use Rattle.sc_state.specs.declared.working.Working.{Working}
use Rattle.sc_model.specs.BestResponses.{best_response, server_error}
use Rattle.sc_model.specs.Dialogs.{tag_of}
use Rattle.sc_model.specs.SessionStates.{ack}
use Rattle.sc_hosts.specs.Acting.{after_proxy as proxy_acted, acts, all_act, chooses, closes, drafts_ended, fault_at, after_fault as faulted, forwards, forwards_best, hops_spent, in_proxy, in_view, is_request_event, passed_later, passed_on, passed_request_of, passes, passes_later, proxy_now, at_rest as rested, sends_cancels, after_start as started}
use Rattle.sc_hosts.specs.Branches.{can_choose, can_pass, is_exhausted, starting}
use Rattle.sc_hosts.specs.DerivedSessions.{is_of}
use Rattle.sc_hosts.specs.Finishing.{lacks_final}
use Rattle.sc_hosts.specs.Giving.{answering}
use Rattle.sc_hosts.specs.Looking.{is_request, request_in, same_session, session_in}
use Rattle.sc_hosts.specs.Messages.{bare_answer}
use Rattle.sc_hosts.specs.Preparing.{kept_of}
use Rattle.sc_hosts.specs.PreparingResponses.{is_invalid}
use Rattle.sc_hosts.specs.ViewChanges.{view_with_answer as answered, is_owed}
use Rattle.sc_hosts.specs.Words.{too_many_hops}
use Rattle.sc_answered.specs.StateOf.{Exhausted}
use Rattle.sc_answered.specs.Happened.{Happened, by_proxy as acted, acted_by, acted_from, acted_last, acted_next, all_acted, answer_to, asked_of, best_passed, called_by, by_choice as chosen, ended_by, by_exhaustion as exhausted, exhausted_by, by_turn_end as failed, failed_at, by_forwarding as forwarded, forwarded_to, in_each, initial_of, by_passing as passed, by_stop as stopped, stopped_at, stopped_of}
use Rattle.sc_lasting.specs.Lasting.{All}
use Rattle.sc_lasting.proofs.Began.{same-number, test-found}
use Rattle.sc_replies.specs.Came.{Came, brought_by}
use Rattle.sc_replies.specs.Replies.{AreGiven, replies, reply_in}
use Rattle.sc_lasting.proofs.Parts.{all-found}
use Rattle.sc_replies.proofs.Brought.{GoesBy}
use Rattle.sc_replies.proofs.Fine.{FineIn, acted-fine, brought-is, drafts-fine, faulted-fine}
use Rattle.sc_replies.proofs.ShownCame.{HasCome, IsCome}
use Rattle.sc_replies.proofs.BroughtProxies.{AreBrought, IsBrought, acts-brought, all-brought, goes-by, now-brought, pass-brought, start-brought}
use Rattle.sc_replies.proofs.Owed.{IsKept}
use Rattle.sc_replies.proofs.OwedCalls.{InTurn}
use Rattle.sc_replies.proofs.OwedEnds.{all-hold, drafts-hold, faulted-holds}
use Rattle.sc_replies.proofs.Sent.{Sends, answering-sends, if-sends, one-given, sends-next, sends-none, sends-same, sends-still, sends-then}
use Rattle.sc_replies.proofs.SentCalls.{found-held, owed-kept}

abbrev orders_at : Working → List Order
orders_at working = working.orders

-- ## After a fault

-- what is owed is kept
owed-is : (came : List Came) (test : RequestView → Bool) (working : Working) (request : RequestView) → find test working.play.view.requests ≡ Some request → is_owed request ≡ true → InTurn working → FineIn came working
    → IsKept working.known.kept request.id × HasCome came request.id.0
unfolding is_owed lacks_final
owed-is came test working request is owed ok fine =
    let open_one = (and_parts (request.received && is_none request.answered) (not (same_bytes request.method ack)) owed).0 in (
      owed-kept working.known.kept request (found-held test working request is ok) (and_parts request.received (is_none request.answered) open_one).0
          (and_from (is_none request.answered) (not (same_bytes request.method ack)) (and_parts request.received (is_none request.answered) open_one).1
          (and_parts (request.received && is_none request.answered) (not (same_bytes request.method ack)) owed).1),
      all-found (IsCome came) test working.play.view.requests request is fine.1 (and_parts request.received (is_none request.answered) open_one).0,
    )

answered-sends : (came : List Came) (config : Config) (request : RequestView) (code : ℕ) (answer : Answer) (working : Working) → answer.code ≡ code → IsKept working.known.kept request.id × HasCome came request.id.0 → FineIn came working
    → Sends came (answer_to working.play.view (Some request) code) working.orders (in_view (answered (Some request) code working.play.view) (answering config (Some request) answer working)).orders
answered-sends came config request code answer working is kept fit = rw (sym is) (answering-sends came config request answer working kept.0 kept.1 fit)

bare-code : (code : ℕ) (reason : _) → (bare_answer code reason).code ≡ code
unfolding bare_answer
bare-code code reason = refl

fault-sends : (came : List Came) (config : Config) (test : RequestView → Bool) (found : Option RequestView) (working : Working) → find test working.play.view.requests ≡ found → InTurn working → FineIn came working
    → Sends came (failed_at working.play.view found) working.orders (fault_at config found working).orders
unfolding failed_at fault_at
fault-sends came config test None working is ok fit = sends-same came working.orders
fault-sends came config test (Some request) working is ok fit =
    if-sends came orders_at (is_owed request && not request.proxied) working.orders (answer_to working.play.view (Some request) 500) []
    (in_view (answered (Some request) 500 working.play.view) (answering config (Some request) (bare_answer 500 server_error) working)) working
    (λ owed. answered-sends came config request 500 (bare_answer 500 server_error) working (bare-code 500 server_error) (owed-is came test working request is (and_parts (is_owed request) _ owed).0 ok fit) fit)
    (λ not. sends-same came working.orders)

event-sends : (came : List Came) (config : Config) (req : Option ReqId) (working : Working) → InTurn working → FineIn came working
    → Sends came (failed_at working.play.view (option_and_then (request_in working.play.view) req)) working.orders (fault_at config (option_and_then (request_in working.play.view) req) working).orders
unfolding failed_at fault_at
event-sends came config None working ok fit = sends-same came working.orders
event-sends came config (Some req) working ok fit = fault-sends came config (is_request req) (request_in working.play.view req) working refl ok fit

failed-sends : (came : List Came) (config : Config) (req : Option ReqId) (end : End) (working : Working) → InTurn working → FineIn came working
    → Sends came (failed req end working.play.view) working.orders (faulted config req end working).orders
unfolding failed faulted
failed-sends came config req ends.Fine working ok fit = sends-same came working.orders
failed-sends came config req ends.Fault working ok fit = event-sends came config req working ok fit
failed-sends came config req ends.Starved working ok fit = sends-same came working.orders

-- ## Proxies

start-sends : (came : List Came) (config : Config) (proxy : Proxy) (uris : List Uri) (working : Working) → Sends came [] working.orders (fold (started config proxy) working uris).orders
unfolding started
start-sends came config proxy [] working = sends-same came working.orders
start-sends came config proxy (uri ∷ uris) working =
    sends-still came [] working.orders (started config proxy working uri).orders (fold (started config proxy) (started config proxy working uri) uris).orders
    (sends-none came working.orders _) (start-sends came config proxy uris (started config proxy working uri))

if-given : (came : List Came) (b : Bool) (new : List Happened) (given : List Order) → AreGiven came (replies new) given → AreGiven came (replies (cond b new [])) given
unfolding AreGiven
if-given came true new given all = all
if-given came false new given all = tt

-- under a number that is the same
pub found-brought : (came : List Came) (req other : ReqId) (event : ℕ) → req.0 ≡ other.0 → GoesBy came req event → HasCome came req.0 → brought_by came other ≡ Some event
found-brought came req other event is by has =
    brought-is came other event (subst (λ (n : ℕ). All (λ (one : Came). one.id.0 ≡ n → one.event ≡ event) came) is by) (subst (HasCome came) is has)

forwarded-given : (came : List Came) (proxy : Proxy) (sess : SessId) (found : Option RequestView) (response : Response) (view : View) → request_in view proxy.req ≡ found → IsBrought came proxy
    → AreGiven came (replies (forwarded_to proxy sess found response view)) (orders.Respond proxy.event response ∷ [])
unfolding forwarded_to
forwarded-given came proxy sess None response view is by =
    if-given came (is_some proxy.options) _ (orders.Respond proxy.event response ∷ [])
    (one-given came (session_in view sess) (initial_of proxy) (is_some (tag_of response.head.to)) response.code proxy.event response refl refl
    (brought-is came proxy.req proxy.event (goes-by came proxy by) by.1))
forwarded-given came proxy sess (Some request) response view is by =
    one-given came (session_in view sess) (asked_of request) (is_some (tag_of response.head.to)) response.code proxy.event response refl refl
    (found-brought came proxy.req request.id proxy.event (sym (same-number request.id.0 proxy.req.0 (test-found (is_request proxy.req) view.requests request is))) (goes-by came proxy by) by.1)

forward-sends : (came : List Came) (proxy : Proxy) (sess : SessId) (response : Response) (working : Working) → IsBrought came proxy → Sends came (forwarded proxy sess response working) working.orders (forwards proxy sess response working).orders
unfolding forwards
forward-sends came proxy sess response working by = record {
  more = orders.Respond proxy.event response ∷ [];
  is = refl;
  given = forwarded-given came proxy sess (request_in working.play.view proxy.req) response working.play.view refl by;
}

pass-sends : (came : List Came) (proxy : Proxy) (passing : Option Passing) (working : Working) → IsBrought came proxy → Sends came (passed proxy passing working) working.orders (passes proxy passing working).orders
unfolding passed passes
pass-sends came proxy None working by = sends-same came working.orders
pass-sends came proxy (Some passing) working by =
    if-sends came orders_at (can_pass proxy passing.response) working.orders (forwarded proxy passing.sess passing.response working) [] (forwards proxy passing.sess passing.response working) working
    (λ can. forward-sends came proxy passing.sess passing.response working by) (λ not. sends-same came working.orders)

best-sends : (came : List Came) (proxy : Proxy) (response : Option Response) (working : Working) → IsBrought came proxy → Sends came (best_passed proxy response working) working.orders (forwards_best proxy response working).orders
unfolding best_passed forwards_best
best-sends came proxy None working by = sends-same came working.orders
best-sends came proxy (Some response) working by = forward-sends came proxy proxy.sess response working by

choose-sends : (came : List Came) (proxy : Proxy) (working : Working) → IsBrought came proxy → Sends came (chosen proxy working) working.orders (chooses proxy working).orders
unfolding chosen chooses
choose-sends came proxy working by =
    if-sends came orders_at (can_choose proxy) working.orders (best_passed proxy (best_response proxy.candidates) working) [] (forwards_best proxy (best_response proxy.candidates) working) working
    (λ can. best-sends came proxy (best_response proxy.candidates) working by) (λ not. sends-same came working.orders)

-- the end of a search is no answer
none-replies : (came : List Came) (original : SessId) (sessions : List SessionView) (given : List Order)
    → AreGiven came (replies (map (λ (session : SessionView). record { sess = session.id; what = Exhausted (not (same_session session.id original)) }) sessions)) given
unfolding reply_in AreGiven
none-replies came original [] given = tt
none-replies came original (session ∷ sessions) given = none-replies came original sessions given

over-given : (came : List Came) (known : Known) (req : ReqId) (original : SessId) (sessions : List SessionView) (given : List Order) → AreGiven came (replies (exhausted_by known req original sessions)) given
unfolding exhausted_by in_each
over-given came known req original sessions given = none-replies came original (filter (is_of known req) sessions) given

exhausted-given : (came : List Came) (proxy : Proxy) (working : Working) (given : List Order) → AreGiven came (replies (exhausted proxy working)) given
unfolding exhausted
exhausted-given came proxy working given =
    if-given came (is_exhausted proxy && is_some proxy.options) (exhausted_by working.known proxy.req proxy.sess working.play.view.sessions) given
    (over-given came working.known proxy.req proxy.sess working.play.view.sessions given)

if-orders : (b : Bool) (os : List Order) (y z : Working) → y.orders ≡ os → z.orders ≡ os → (cond b y z).orders ≡ os
if-orders true os y z p q = p
if-orders false os y z p q = q

close-orders : (proxy : Proxy) (working : Working) → (closes proxy working).orders ≡ working.orders
unfolding closes
close-orders proxy working = if-orders (is_exhausted proxy && is_some proxy.options) working.orders _ working refl refl

sends-cancelled : (came : List Came) (new : List Happened) → ((given : List Order) → AreGiven came (replies new) given) → (proxy : Proxy) (working : Working) → Sends came new working.orders (sends_cancels proxy working).orders
unfolding sends_cancels
sends-cancelled came new all proxy working = record { more = _; is = refl; given = all _ }

cancels-sent : (came : List Came) (now proxy : Proxy) (working : Working) → Sends came (exhausted now (sends_cancels proxy working)) working.orders (sends_cancels proxy working).orders
cancels-sent came now proxy working =
    sends-cancelled came (exhausted now (sends_cancels proxy working)) (exhausted-given came now (sends_cancels proxy working)) proxy working

last-sends : (came : List Came) (proxy : Proxy) (working : Working)
    → Sends came (acted_last proxy working) working.orders (in_proxy proxy.req rested (closes (proxy_now proxy working) (sends_cancels proxy working))).orders
unfolding acted_last
last-sends came proxy working =
    let told : Working = sends_cancels proxy working in
    subst (λ (after : List Order). Sends came (exhausted (proxy_now proxy working) told) working.orders after) (sym (close-orders (proxy_now proxy working) told)) (cancels-sent came (proxy_now proxy working) proxy working)

next-sends : (came : List Came) (proxy : Proxy) (working : Working) → IsBrought came proxy → AreBrought came working.known
    → Sends came (acted_next proxy working) working.orders (in_proxy proxy.req rested (closes (proxy_now proxy (chooses (proxy_now proxy working) working)) (sends_cancels proxy (chooses (proxy_now proxy working) working)))).orders
unfolding acted_next
next-sends came proxy working by all =
    let chosen_by : Working = chooses (proxy_now proxy working) working in
    sends-then came (chosen (proxy_now proxy working) working) (acted_last proxy chosen_by) working.orders chosen_by.orders
    (in_proxy proxy.req rested (closes (proxy_now proxy chosen_by) (sends_cancels proxy chosen_by))).orders (choose-sends came (proxy_now proxy working) working (now-brought came proxy working by all)) (last-sends came proxy chosen_by)

acted-sends : (came : List Came) (config : Config) (proxy : Proxy) (working : Working) → IsBrought came proxy → AreBrought came working.known → Sends came (acted config proxy working) working.orders (proxy_acted config proxy working).orders
unfolding acted acted_from proxy_acted
acted-sends came config proxy working by all =
    let begun : Working = fold (started config proxy) working (starting proxy) in
    let all_begun : AreBrought came begun.known = start-brought came config proxy (starting proxy) working all in
    let forwarded : Working = passes (proxy_now proxy begun) proxy.passing begun in
    let chosen_by : Working = chooses (proxy_now proxy forwarded) forwarded in
    let after : Working = in_proxy proxy.req rested (closes (proxy_now proxy chosen_by) (sends_cancels proxy chosen_by)) in
    sends-next came (acted_next proxy forwarded ++ passed (proxy_now proxy begun) proxy.passing begun) working.orders begun.orders after.orders (start-sends came config proxy (starting proxy) working)
    (sends-then came (passed (proxy_now proxy begun) proxy.passing begun) (acted_next proxy forwarded) begun.orders forwarded.orders after.orders
    (pass-sends came (proxy_now proxy begun) proxy.passing begun (now-brought came proxy begun by all_begun))
    (next-sends came proxy forwarded by (pass-brought came (proxy_now proxy begun) proxy.passing begun all_begun)))

acts-sends : (came : List Came) (config : Config) (proxy : Proxy) (working : Working) → IsBrought came proxy → AreBrought came working.known → Sends came (acted_by config proxy working) working.orders (acts config working proxy).orders
unfolding acted_by acts
acts-sends came config proxy working by all =
    if-sends came orders_at (is_invalid working.known proxy.sess) working.orders [] (acted config proxy working) working (proxy_acted config proxy working)
    (λ invalid. sends-same came working.orders) (λ not. acted-sends came config proxy working by all)

proxies-send : (came : List Came) (proxies : List Proxy) (config : Config) (working : Working) → All (IsBrought came) proxies → AreBrought came working.known → Sends came (all_acted config proxies working) working.orders (fold (acts config) working proxies).orders
unfolding all_acted All
proxies-send came [] config working each all = sends-same came working.orders
proxies-send came (proxy ∷ proxies) config working each all =
    let next : Working = acts config working proxy in
    sends-then came (acted_by config proxy working) (all_acted config proxies next) working.orders next.orders (fold (acts config) next proxies).orders
    (acts-sends came config proxy working each.0 all) (proxies-send came proxies config next each.1 (acts-brought came config working proxy all))

all-send : (came : List Came) (config : Config) (working : Working) → FineIn came working → Sends came (all_acted config working.known.proxies working) working.orders (all_act config working).orders
unfolding all_act
all-send came config working fit = proxies-send came working.known.proxies config working (all-brought came working fit.0 fit.2) (all-brought came working fit.0 fit.2)

-- ## A later request that goes no further

spent-sends : (came : List Came) (config : Config) (test : RequestView → Bool) (request : RequestView) (working : Working) → find test working.play.view.requests ≡ Some request → InTurn working → FineIn came working
    → Sends came (cond (is_owed request) (answer_to working.play.view (Some request) 483) []) working.orders (hops_spent config request working).orders
unfolding hops_spent
spent-sends came config test request working is ok fit =
    if-sends came orders_at (is_owed request) working.orders (answer_to working.play.view (Some request) 483) []
    (in_view (answered (Some request) 483 working.play.view) (answering config (Some request) (bare_answer 483 too_many_hops) working)) working
    (λ owed. answered-sends came config request 483 (bare_answer 483 too_many_hops) working (bare-code 483 too_many_hops) (owed-is came test working request is owed ok fit) fit)
    (λ not. sends-same came working.orders)

if-none : (came : List Came) (b : Bool) (xs : List Order) (y z : Working) → Sends came [] xs y.orders → Sends came [] xs z.orders → Sends came [] xs (cond b y z).orders
if-none came true xs y z p q = p
if-none came false xs y z p q = q

on-sends : (came : List Came) (config : Config) (kept : Kept) (working : Working) → Sends came [] working.orders (passed_on config kept working).orders
unfolding passed_on
on-sends came config kept working = if-none came (same_bytes kept.request.method ack) working.orders _ _ (sends-none came working.orders _) (sends-none came working.orders _)

later-sends : (came : List Came) (config : Config) (test : RequestView → Bool) (request : RequestView) (kept : Option Kept) (working : Working) → find test working.play.view.requests ≡ Some request → InTurn working → FineIn came working
    → Sends came (stopped_at working request kept) working.orders (passed_later config request kept working).orders
unfolding stopped_at passed_later
later-sends came config test request None working is ok fit = sends-same came working.orders
later-sends came config test request (Some kept) working is ok fit =
    if-sends came orders_at (request.initial || not request.proxied || is_invalid working.known request.sess) working.orders []
    (cond (request.hops == 0) (cond (is_owed request) (answer_to working.play.view (Some request) 483) []) []) working
    (cond (request.hops == 0) (hops_spent config request working) (passed_on config kept working)) (λ left. sends-same came working.orders)
    (λ goes. if-sends came orders_at (request.hops == 0) working.orders (cond (is_owed request) (answer_to working.play.view (Some request) 483) []) []
    (hops_spent config request working) (passed_on config kept working) (λ spent. spent-sends came config test request working is ok fit) (λ on. on-sends came config kept working))

of-sends : (came : List Came) (config : Config) (test : RequestView → Bool) (found : Option RequestView) (working : Working) → find test working.play.view.requests ≡ found → InTurn working → FineIn came working
    → Sends came (stopped_of working found) working.orders (passed_request_of config found working).orders
unfolding stopped_of passed_request_of
of-sends came config test None working is ok fit = sends-same came working.orders
of-sends came config test (Some request) working is ok fit = later-sends came config test request (kept_of working.known request.id) working is ok fit

req-sends : (came : List Came) (config : Config) (req : Option ReqId) (working : Working) → InTurn working → FineIn came working
    → Sends came (stopped_of working (option_and_then (request_in working.play.view) req)) working.orders (passed_request_of config (option_and_then (request_in working.play.view) req) working).orders
unfolding stopped_of passed_request_of
req-sends came config None working ok fit = sends-same came working.orders
req-sends came config (Some req) working ok fit = of-sends came config (is_request req) (request_in working.play.view req) working refl ok fit

stopped-sends : (came : List Came) (config : Config) (event : Queued) (req : Option ReqId) (working : Working) → InTurn working → FineIn came working
    → Sends came (stopped event req working) working.orders (passes_later config event req working).orders
unfolding stopped passes_later
stopped-sends came config event req working ok fit =
    if-sends came orders_at (is_request_event event) working.orders (stopped_of working (option_and_then (request_in working.play.view) req)) []
    (passed_request_of config (option_and_then (request_in working.play.view) req) working) working (λ later. req-sends came config req working ok fit) (λ not. sends-same came working.orders)

-- ## All that follows

ended-sends : (came : List Came) (config : Config) (event : Queued) (req : Option ReqId) (working : Working) → InTurn working → FineIn came working
    → Sends came (ended_by config event req working) working.orders (passes_later config event req (all_act config working)).orders
unfolding ended_by
ended-sends came config event req working ok fit =
    sends-then came (all_acted config working.known.proxies working) (stopped event req (all_act config working)) working.orders (all_act config working).orders
    (passes_later config event req (all_act config working)).orders (all-send came config working fit)
    (stopped-sends came config event req (all_act config working) (all-hold config working ok) (acted-fine came config working fit))

same-orders : (working : Working) → (drafts_ended working).orders ≡ working.orders
unfolding drafts_ended
same-orders working = refl

left-sends : (came : List Came) (config : Config) (req : Option ReqId) (end : End) (working : Working) → InTurn (drafts_ended working) → FineIn came (drafts_ended working)
    → Sends came (failed req end (drafts_ended working).play.view) working.orders (faulted config req end (drafts_ended working)).orders
left-sends came config req end working ok fit =
    subst (λ (before : List Order). Sends came (failed req end (drafts_ended working).play.view) before (faulted config req end (drafts_ended working)).orders) (same-orders working) (failed-sends came config req end (drafts_ended working) ok fit)

-- after the calls, once drafts that were left are gone
pub called-sends : (came : List Came) (config : Config) (event : Queued) (req : Option ReqId) (end : End) (working : Working) → InTurn working → FineIn came working
    → Sends came (called_by config event req end (drafts_ended working)) working.orders (passes_later config event req (all_act config (faulted config req end (drafts_ended working)))).orders
unfolding called_by
called-sends came config event req end working ok fit =
    let left : Working = drafts_ended working in
    let told : Working = faulted config req end left in
    let fits : FineIn came left = drafts-fine came working fit in
    sends-then came (failed req end left.play.view) (ended_by config event req told) working.orders told.orders (passes_later config event req (all_act config told)).orders
    (left-sends came config req end working (drafts-hold working ok) fits)
    (ended-sends came config event req told (faulted-holds config req end left (drafts-hold working ok)) (faulted-fine came config req end left fits))
