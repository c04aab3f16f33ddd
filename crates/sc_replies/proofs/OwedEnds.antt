-- The end of a turn holds what is owed; and so a whole life does.
use Rattle.std.proofs.Common.{◌≡◌, ℕ, ◌==◌, Bool, true, false, Option, None, Some, List, [], ◌∷◌, refl, sym, ap, subst, ◌∙◌}
use Rattle.std.specs.Prelude.{◌&&◌, ◌||◌, cond, filter, is_some, not, option_and_then}
use Rattle.std.specs.List.{find, fold}
use Rattle.sc_tokens.specs.Names.{same_bytes}
use Rattle.sc_value.specs.declared.ids.ReqId.{ReqId}
use Rattle.sc_value.specs.declared.ids.SessId.{SessId}
use Rattle.sc_value.specs.declared.message.Response.{Response}
use Rattle.sc_value.specs.declared.parts.Uri.{Uri}
use Rattle.sc_terms.specs.declared.calls.CallRecord.{CallRecord}
use Rattle.sc_terms.specs.declared.calls.End.{End}
use Rattle.sc_terms.specs.declared.calls.End.TheVariants as ends
use Rattle.sc_terms.specs.declared.settings.Config.{Config}
use Rattle.sc_terms.specs.declared.views.RequestView.{RequestView}
use Rattle.sc_terms.specs.declared.views.SessionView.{SessionView}
use Rattle.sc_terms.specs.declared.views.View.{View}
use Rattle.sc_state.specs.declared.proxy.Passing.{Passing}
use Rattle.sc_state.specs.declared.proxy.Proxy.{Proxy}
use Rattle.sc_state.specs.declared.queue.Queued.{Queued}
use Rattle.sc_state.specs.declared.session.Kept.{Kept}
use Rattle.sc_state.specs.declared.session.Known.{Known}
use Rattle.sc_state.specs.declared.session.Leg.{Leg}
use Rattle.sc_state.specs.declared.session.Session.{Session}
use Rattle.sc_state.specs.declared.session.Way.{Way}
use Rattle.sc_state.specs.declared.session.Way.TheVariants.{Received}
use Rattle.sc_state.specs.declared.working.Draft.{Draft}
use Rattle.sc_state.specs.declared.working.Prepared.{Prepared}
use Rattle.sc_state.specs.declared.working.Working.{Working}
use Rattle.sc_model.specs.BestResponses.{best_response}
use Rattle.sc_model.specs.Dialogs.{subscribe, tag_of}
use Rattle.sc_model.specs.SessionStates.{ack}
use Rattle.sc_model.specs.Transactions.{is_success}
use Rattle.sc_hosts.specs.Acting.{after_proxy as acted, acts, all_act, chooses, closes, drafts_ended, with_next_branch as drawn, fault_at, after_fault as faulted, forwarded_view, forwards, forwards_best, hops_spent, in_view, is_request_event, passed_later, passed_on, passed_request_of, passes, passes_later, proxy_now, sends_cancels, after_start as started, subscribed_tag, with_subscribed, without_left}
use Rattle.sc_hosts.specs.Branches.{can_choose, can_pass, is_exhausted, starting}
use Rattle.sc_hosts.specs.Effects.{first_play as begun}
use Rattle.sc_hosts.specs.Finishing.{after_all_calls as finished, is_ended, is_needed, is_session_ready, lacks_final, without_unneeded as lightened, outcome, outcome_of, session_in_play, swept, swept_one, without_acks}
use Rattle.sc_hosts.specs.Giving.{answering}
use Rattle.sc_hosts.specs.Histories.{History, after_turn, session_after}
use Rattle.sc_hosts.specs.Legs.{first_known, first_view, fresh, leg_of}
use Rattle.sc_hosts.specs.Looking.{change_session, is_request, without_sip_session as removed, request_in, same_request}
use Rattle.sc_hosts.specs.Messages.{bare_answer}
use Rattle.sc_hosts.specs.Preparing.{kept_of, prepared_session as prepared}
use Rattle.sc_hosts.specs.PreparingResponses.{is_invalid}
use Rattle.sc_hosts.specs.Sessions.{Turn}
use Rattle.sc_hosts.specs.ViewChanges.{view_with_answer as answered, answered_in, is_owed}
use Rattle.sc_hosts.specs.Words.{too_many_hops}
use Rattle.sc_model.specs.BestResponses.{server_error}
use Rattle.sc_hosts.specs.Working.{starts, worked_all}
use Rattle.sc_walked.proofs.WalkCalls.{answering-known}
use Rattle.sc_lasting.specs.Lasting.{All}
use Rattle.sc_lasting.proofs.Began.{same-number, test-found}
use Rattle.sc_lasting.proofs.Parts.{all-filter}
use Rattle.sc_lasting.proofs.Shared.{all-two}
use Rattle.sc_replies.proofs.Owed.{Apart, Differs, Holds, IsBelow, IsFine, IsHeld, IsKept, answered-holds, answered_in-holds, dropped, own-number, tidy-holds, turned-round}
use Rattle.sc_replies.proofs.OwedShown.{At, prepared-holds}
use Rattle.sc_replies.proofs.OwedCalls.{InTurn, calls-hold, removed-holds}

if-turn : (b : Bool) (y z : Working) → InTurn y → InTurn z → InTurn (cond b y z)
if-turn true y z p q = p
if-turn false y z p q = q

if-view : (b : Bool) (known : Known) (v w : View) → Holds v known → Holds w known → Holds (cond b v w) known
if-view true known v w p q = p
if-view false known v w p q = q

-- ## Drafts, and a fault

left-hold : (drafts : List Draft) (view : View) (known : Known) → Holds view known → Holds (fold without_left view drafts) known
unfolding without_left
left-hold [] view known ok = ok
left-hold (draft ∷ drafts) view known ok =
    left-hold drafts (without_left view draft) known (if-view draft.initial known (removed draft.sess view) view (removed-holds draft.sess view known ok) ok)

pub drafts-hold : (working : Working) → InTurn working → InTurn (drafts_ended working)
unfolding drafts_ended
drafts-hold working ok =
    tidy-holds (fold without_left working.play.view working.play.drafts) working.known (left-hold working.play.drafts working.play.view working.known ok)

answer-holds : (config : Config) (request : RequestView) (code : ℕ) (answer : _) (working : Working) → InTurn working
    → InTurn (in_view (answered (Some request) code working.play.view) (answering config (Some request) answer working))
answer-holds config request code answer working ok = rw (answering-known config (Some request) answer working) (answered-holds (Some request) code working.play.view working.known ok)

fault-holds : (config : Config) (request : Option RequestView) (working : Working) → InTurn working → InTurn (fault_at config request working)
unfolding fault_at
fault-holds config None working ok = ok
fault-holds config (Some request) working ok =
    if-turn (is_owed request && not request.proxied) _ working (answer-holds config request 500 (bare_answer 500 server_error) working ok) ok

pub faulted-holds : (config : Config) (req : Option ReqId) (end : End) (working : Working) → InTurn working → InTurn (faulted config req end working)
unfolding faulted
faulted-holds config req ends.Fine working ok = ok
faulted-holds config req ends.Fault working ok = fault-holds config (option_and_then (request_in working.play.view) req) working ok
faulted-holds config req ends.Starved working ok = ok

-- ## Proxies act

start-holds : (config : Config) (proxy : Proxy) (uris : List Uri) (working : Working) → InTurn working → InTurn (fold (started config proxy) working uris)
unfolding started
start-holds config proxy [] working ok = ok
start-holds config proxy (uri ∷ uris) working ok = start-holds config proxy uris (started config proxy working uri) ok

subscribed-holds : (proxy : Proxy) (sess : SessId) (response : Response) (view : View) (known : Known) → Holds view known → Holds (with_subscribed proxy sess response view) known
unfolding with_subscribed
subscribed-holds proxy sess response view known ok =
    if-view (is_some proxy.options && same_bytes proxy.request.method subscribe && is_success response.code) known (change_session sess (subscribed_tag (tag_of response.head.to)) view) view ok ok

forwarded-holds : (proxy : Proxy) (sess : SessId) (request : Option RequestView) (response : Response) (view : View) (known : Known) → Holds view known
    → Holds (forwarded_view proxy sess request response view) known
unfolding forwarded_view
forwarded-holds proxy sess None response view known ok = ok
forwarded-holds proxy sess (Some request) response view known ok =
    tidy-holds (answered_in sess request (is_some (tag_of response.head.to)) response.code view) known (answered_in-holds sess request (is_some (tag_of response.head.to)) response.code view known ok)

forward-holds : (proxy : Proxy) (sess : SessId) (response : Response) (working : Working) → InTurn working → InTurn (forwards proxy sess response working)
unfolding forwards
forward-holds proxy sess response working ok =
    forwarded-holds proxy sess (request_in working.play.view proxy.req) response (with_subscribed proxy sess response working.play.view) working.known (subscribed-holds proxy sess response working.play.view working.known ok)

pass-holds : (proxy : Proxy) (passing : Option Passing) (working : Working) → InTurn working → InTurn (passes proxy passing working)
unfolding passes
pass-holds proxy None working ok = ok
pass-holds proxy (Some passing) working ok =
    if-turn (can_pass proxy passing.response) (forwards proxy passing.sess passing.response working) working (forward-holds proxy passing.sess passing.response working ok) ok

best-holds : (proxy : Proxy) (response : Option Response) (working : Working) → InTurn working → InTurn (forwards_best proxy response working)
unfolding forwards_best
best-holds proxy None working ok = ok
best-holds proxy (Some response) working ok = forward-holds proxy proxy.sess response working ok

choose-holds : (proxy : Proxy) (working : Working) → InTurn working → InTurn (chooses proxy working)
unfolding chooses
choose-holds proxy working ok = if-turn (can_choose proxy) (forwards_best proxy (best_response proxy.candidates) working) working (best-holds proxy (best_response proxy.candidates) working ok) ok

close-holds : (proxy : Proxy) (working : Working) → InTurn working → InTurn (closes proxy working)
unfolding closes
close-holds proxy working ok = if-turn (is_exhausted proxy && is_some proxy.options) _ working ok ok

acted-holds : (config : Config) (proxy : Proxy) (working : Working) → InTurn working → InTurn (acted config proxy working)
unfolding acted sends_cancels
acted-holds config proxy working ok =
    let begun : Working = fold (started config proxy) working (starting proxy) in
    let passed : Working = passes (proxy_now proxy begun) proxy.passing begun in
    let chosen : Working = chooses (proxy_now proxy passed) passed in
    close-holds (proxy_now proxy chosen) (sends_cancels proxy chosen)
    (choose-holds (proxy_now proxy passed) passed (pass-holds (proxy_now proxy begun) proxy.passing begun (start-holds config proxy (starting proxy) working ok)))

acts-holds : (config : Config) (working : Working) (proxy : Proxy) → InTurn working → InTurn (acts config working proxy)
unfolding acts
acts-holds config working proxy ok = if-turn (is_invalid working.known proxy.sess) working (acted config proxy working) ok (acted-holds config proxy working ok)

proxies-hold : (proxies : List Proxy) (config : Config) (working : Working) → InTurn working → InTurn (fold (acts config) working proxies)
proxies-hold [] config working ok = ok
proxies-hold (proxy ∷ proxies) config working ok = proxies-hold proxies config (acts config working proxy) (acts-holds config working proxy ok)

pub all-hold : (config : Config) (working : Working) → InTurn working → InTurn (all_act config working)
unfolding all_act
all-hold config working ok = proxies-hold working.known.proxies config working ok

-- ## A later request is passed on

if-drawn : (b : Bool) (view : View) (y z : Working) → Holds view y.known → Holds view z.known → Holds view (cond b y z).known
if-drawn true view y z p q = p
if-drawn false view y z p q = q

on-holds : (config : Config) (kept : Kept) (working : Working) → InTurn working → InTurn (passed_on config kept working)
unfolding passed_on
on-holds config kept working ok = if-drawn (same_bytes kept.request.method ack) (drawn working.play.view) _ _ ok ok

spent-holds : (config : Config) (request : RequestView) (working : Working) → InTurn working → InTurn (hops_spent config request working)
unfolding hops_spent
spent-holds config request working ok = if-turn (is_owed request) _ working (answer-holds config request 483 (bare_answer 483 too_many_hops) working ok) ok

later-holds : (config : Config) (request : RequestView) (kept : Option Kept) (working : Working) → InTurn working → InTurn (passed_later config request kept working)
unfolding passed_later
later-holds config request None working ok = ok
later-holds config request (Some kept) working ok =
    if-turn (request.initial || not request.proxied || is_invalid working.known request.sess) working (cond (request.hops == 0) (hops_spent config request working) (passed_on config kept working)) ok
    (if-turn (request.hops == 0) (hops_spent config request working) (passed_on config kept working) (spent-holds config request working ok) (on-holds config kept working ok))

of-holds : (config : Config) (request : Option RequestView) (working : Working) → InTurn working → InTurn (passed_request_of config request working)
unfolding passed_request_of
of-holds config None working ok = ok
of-holds config (Some request) working ok = later-holds config request (kept_of working.known request.id) working ok

pass-later-holds : (config : Config) (event : Queued) (req : Option ReqId) (working : Working) → InTurn working → InTurn (passes_later config event req working)
unfolding passes_later
pass-later-holds config event req working ok =
    if-turn (is_request_event event) (passed_request_of config (option_and_then (request_in working.play.view) req) working) working (of-holds config (option_and_then (request_in working.play.view) req) working ok) ok

pub finished-holds : (config : Config) (event : Queued) (req : Option ReqId) (end : End) (working : Working) → InTurn working → InTurn (finished config event req end working)
unfolding finished
finished-holds config event req end working ok =
    pass-later-holds config event req (all_act config (faulted config req end (drafts_ended working)))
    (all-hold config (faulted config req end (drafts_ended working)) (faulted-holds config req end (drafts_ended working) (drafts-hold working ok)))

-- ## What goes away

swept-holds : (sessions : List SessionView) (known : Known) (before view : View) → Holds view known → Holds (fold (swept_one known before) view sessions) known
unfolding swept_one
swept-holds [] known before view ok = ok
swept-holds (s ∷ sessions) known before view ok =
    swept-holds sessions known before (swept_one known before view s)
    (if-view (s.ready_flag && not s.gone && is_session_ready known before s) known (removed s.id view) view (removed-holds s.id view known ok) ok)

sweep-holds : (x : Session) → At x → At (swept x)
unfolding swept
sweep-holds x ok = tidy-holds (fold (swept_one x.known x.view) x.view x.view.sessions) x.known (swept-holds x.view.sessions x.known x.view x.view ok)

found-kept : (b : Bool) (test keep : Kept → Bool) (k kept : Kept) (kepts : List Kept) (c : Bool) → test k ≡ b → keep k ≡ c → cond b (Some k) (find test kepts) ≡ Some kept → keep kept ≡ true
    → (find test kepts ≡ Some kept → find test (filter keep kepts) ≡ Some kept) → find test (cond c (k ∷ filter keep kepts) (filter keep kepts)) ≡ Some kept
found-kept true test keep k kept kepts true has keeps is needed later = rw has is
found-kept true test keep k kept kepts false has keeps is needed later = absurd (both (keep kept) (ap keep (sym (same-some k kept is)) ∙ keeps) needed)
  where
    same-some : (y x : Kept) → Some y ≡ Some x → y ≡ x
    same-some y x is = cc

    both : (d : Bool) → d ≡ false → d ≡ true → ⊥
    both true p q = cc
    both false p q = cc
found-kept false test keep k kept kepts true has keeps is needed later = rw has (later is)
found-kept false test keep k kept kepts false has keeps is needed later = later is

find-filter : (test keep : Kept → Bool) (kepts : List Kept) (kept : Kept) → find test kepts ≡ Some kept → keep kept ≡ true → find test (filter keep kepts) ≡ Some kept
find-filter test keep [] kept is needed = cc
find-filter test keep (k ∷ kepts) kept is needed = found-kept (test k) test keep k kept kepts (keep k) refl refl is needed (λ later. find-filter test keep kepts kept later needed)

-- what is kept of a request that lacks its final response is needed
needed-received : (view : View) (leg : Option Leg) (kept : Kept) (event : ℕ) (r : RequestView) → request_in view kept.id ≡ Some r → lacks_final r ≡ true → is_needed view leg kept (Received event) ≡ true
unfolding is_needed
needed-received view leg kept event r is owed = rw is owed

first-alone : (r : RequestView) (rs : List RequestView) → (r.id.0 == r.id.0) ≡ true → find (is_request r.id) (r ∷ rs) ≡ Some r
first-alone r rs is = rw is refl

abbrev Keeping : Session → Kept → Bool
Keeping x kept = is_needed x.view (leg_of x.known kept.sess) kept kept.way

light-one : (x : Session) (r : RequestView) → find (is_request r.id) x.view.requests ≡ Some r → IsHeld x.known.kept r → IsHeld (filter (Keeping x) x.known.kept) r
unfolding IsHeld
light-one x r own held = λ received owed.
    let is : IsKept x.known.kept r.id = held received owed in
    let number : is.kept.id.0 ≡ r.id.0 = same-number is.kept.id.0 r.id.0 (test-found (λ (k : Kept). same_request k.id r.id) x.known.kept is.kept is.found) in
    record {
      kept = is.kept;
      event = is.event;
      found = find-filter (λ (k : Kept). same_request k.id r.id) (Keeping x) x.known.kept is.kept is.found
          (subst (λ (way : Way). is_needed x.view (leg_of x.known is.kept.sess) is.kept way ≡ true) (sym is.way)
          (needed-received x.view (leg_of x.known is.kept.sess) is.kept is.event r (under-number is.kept.id r.id number x.view.requests r own) owed));
      way = is.way;
    }
  where
    under-number : (a b : ReqId) → a.0 ≡ b.0 → (rs : List RequestView) (r : RequestView) → find (is_request b) rs ≡ Some r → find (is_request a) rs ≡ Some r
    under-number a b same rs r is = rw same is

-- each request is the one under its number
abbrev IsOwn : List RequestView → RequestView → Type 0
IsOwn rs r = find (is_request r.id) rs ≡ Some r

own-later : (r q : RequestView) (rs : List RequestView) → Differs r.id q → IsOwn rs q → IsOwn (r ∷ rs) q
own-later r q rs differs own = rw (turned-round q.id.0 r.id.0 differs) own

each-own : (rs : List RequestView) → Apart rs → All (IsOwn rs) rs
unfolding Apart All
each-own [] apart = tt
each-own (r ∷ rs) apart = (
  first-alone r rs (own-number r.id.0 r.id.0 refl),
  all-two (Differs r.id) (IsOwn rs) (IsOwn (r ∷ rs)) rs (λ q differs own. own-later r q rs differs own) apart.0 (each-own rs apart.1),
)

light-holds : (x : Session) → At x → At (lightened x)
unfolding lightened
light-holds x ok = (
  all-two (IsFine x.view.next_request x.known.kept) (IsOwn x.view.requests) (IsFine x.view.next_request (filter (Keeping x) x.known.kept)) x.view.requests
      (λ r fine own. (fine.0, light-one x r own fine.1)) ok.0 (each-own x.view.requests ok.1),
  ok.1,
  all-filter (IsBelow x.view.next_request) (Keeping x) x.known.kept ok.2,
)

in-play-holds : (working : Working) → InTurn working → At (session_in_play working)
unfolding session_in_play without_acks
in-play-holds working ok = dropped _ working.play.view working.known ok

if-at : (b : Bool) (y z : Session) → At y → At z → At (cond b y z)
if-at true y z p q = p
if-at false y z p q = q

outcome-holds : (event : Queued) (working : Working) → InTurn working → At (outcome_of event working).session
unfolding outcome_of
outcome-holds event working ok =
    let x : Session = session_in_play working in
    light-holds (cond (is_ended event working) x (swept x)) (if-at (is_ended event working) x (swept x) (in-play-holds working ok) (sweep-holds x (in-play-holds working ok)))

-- ## A whole life

pub started-holds : (config : Config) (turn : Turn) (x : Session) → At x → InTurn (starts (prepared config turn.ringing x turn.waiting turn.now))
unfolding starts begun
started-holds config turn x ok = prepared-holds config turn.ringing x turn.waiting turn.now ok

worked-all-holds : (config : Config) (shown : Prepared) (made : List CallRecord) → InTurn (starts shown) → InTurn (worked_all config shown made)
unfolding worked_all
worked-all-holds config shown made ok = calls-hold made config (starts shown) ok

turn-holds : (config : Config) (turn : Turn) (x : Session) → At x → At (after_turn config turn x)
unfolding after_turn outcome
turn-holds config turn x ok =
    let shown : Prepared = prepared config turn.ringing x turn.waiting turn.now in
    let worked : Working = worked_all config shown turn.calls in
    outcome-holds turn.waiting.event (finished config turn.waiting.event shown.req turn.end worked)
    (finished-holds config turn.waiting.event shown.req turn.end worked (worked-all-holds config shown turn.calls (started-holds config turn x ok)))

pub lives-hold : (turns : List Turn) (config : Config) (history : History) → At (session_after config history turns)
unfolding session_after fresh first_view first_known All Apart
lives-hold [] config history = (tt, tt, tt)
lives-hold (turn ∷ earlier) config history = turn-holds config turn (session_after config history earlier) (lives-hold earlier config history)
