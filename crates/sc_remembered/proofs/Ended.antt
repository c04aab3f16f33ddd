-- What follows the calls of a turn leaves the attributes.
use Rattle.std.proofs.Common.{◌≡◌, ℕ, Bool, true, false, Option, None, Some, List, [], ◌∷◌, refl, ap, ◌∙◌}
use Rattle.std.specs.Prelude.{◌==◌, ◌&&◌, ◌||◌, cond, is_some, map, not, option_and_then}
use Rattle.std.specs.List.{fold}
use Rattle.sc_tokens.specs.Names.{same_bytes}
use Rattle.sc_value.specs.declared.ids.ReqId.{ReqId}
use Rattle.sc_value.specs.declared.ids.SessId.{SessId}
use Rattle.sc_value.specs.declared.message.Response.{Response}
use Rattle.sc_value.specs.declared.parts.Uri.{Uri}
use Rattle.sc_terms.specs.declared.calls.CallRecord.{CallRecord}
use Rattle.sc_terms.specs.declared.calls.End.{End}
use Rattle.sc_terms.specs.declared.calls.End.TheVariants as ends
use Rattle.sc_terms.specs.declared.settings.Config.{Config}
use Rattle.sc_terms.specs.declared.views.RequestView.{RequestView}
use Rattle.sc_terms.specs.declared.views.SessionView.{SessionView}
use Rattle.sc_terms.specs.declared.views.View.{View}
use Rattle.sc_state.specs.declared.proxy.Passing.{Passing}
use Rattle.sc_state.specs.declared.proxy.Proxy.{Proxy}
use Rattle.sc_state.specs.declared.queue.Queued.{Queued}
use Rattle.sc_state.specs.declared.queue.Waiting.{Waiting}
use Rattle.sc_state.specs.declared.session.Kept.{Kept}
use Rattle.sc_state.specs.declared.session.Known.{Known}
use Rattle.sc_state.specs.declared.session.Session.{Session}
use Rattle.sc_state.specs.declared.working.Draft.{Draft}
use Rattle.sc_state.specs.declared.working.Play.{Play}
use Rattle.sc_state.specs.declared.working.Prepared.{Prepared}
use Rattle.sc_state.specs.declared.working.Working.{Working}
use Rattle.sc_model.specs.BestResponses.{best_response, server_error}
use Rattle.sc_model.specs.Dialogs.{subscribe, tag_of}
use Rattle.sc_model.specs.Transactions.{is_success}
use Rattle.sc_hosts.specs.Acting.{after_proxy as acted, acts, all_act, chooses, closed_session, closes, drafts_ended, fault_at, after_fault as faulted, forwarded_view, forwards, forwards_best, hops_spent, in_view, is_request_event, passed_later, passed_on, passed_request_of, passes, passes_later, proxy_now, sends_cancels, after_start as started, subscribed_tag, with_subscribed, without_left}
use Rattle.sc_hosts.specs.Branches.{can_choose, can_pass, is_exhausted, starting}
use Rattle.sc_hosts.specs.Effects.{after_calls, after_listed}
use Rattle.sc_hosts.specs.Finishing.{after_all_calls as finished, is_ended, without_unneeded as lightened, outcome, outcome_of, session_in_play, swept, swept_one, without_acks}
use Rattle.sc_hosts.specs.Giving.{answering}
use Rattle.sc_hosts.specs.Looking.{change_session, without_sip_session as removed, request_in}
use Rattle.sc_hosts.specs.Messages.{bare_answer}
use Rattle.sc_hosts.specs.Preparing.{prepared_session as prepared}
use Rattle.sc_hosts.specs.PreparingResponses.{is_invalid}
use Rattle.sc_hosts.specs.ViewChanges.{view_with_answer as answered, answered_in, is_owed, tidy}
use Rattle.sc_hosts.specs.Words.{too_many_hops}
use Rattle.sc_hosts.specs.Working.{starts, after_one_call as worked, worked_all}
use Rattle.sc_lasting.proofs.ShownProxies.{if-same}
use Rattle.sc_remembered.proofs.Parts.{Rest, answered-rest, removed-rest, rest-of}

abbrev fields-of : Working → Rest
fields-of working = rest-of working.play.view

-- ## Drafts, and a fault

left-kept : (view : View) (draft : Draft) → rest-of (without_left view draft) ≡ rest-of view
unfolding without_left
left-kept view draft = if-same rest-of draft.initial (removed draft.sess view) view (rest-of view) (removed-rest draft.sess view) refl

lefts-kept : (drafts : List Draft) (view : View) → rest-of (fold without_left view drafts) ≡ rest-of view
lefts-kept [] view = refl
lefts-kept (draft ∷ drafts) view = lefts-kept drafts (without_left view draft) ∙ left-kept view draft

drafts-kept : (working : Working) → fields-of (drafts_ended working) ≡ fields-of working
unfolding drafts_ended tidy
drafts-kept working = lefts-kept working.play.drafts working.play.view

fault_at-kept : (config : Config) (request : Option RequestView) (working : Working) → fields-of (fault_at config request working) ≡ fields-of working
unfolding fault_at
fault_at-kept config None working = refl
fault_at-kept config (Some request) working =
    if-same fields-of (is_owed request && not request.proxied) (in_view (answered (Some request) 500 working.play.view) (answering config (Some request) (bare_answer 500 server_error) working)) working (fields-of working)
    (answered-rest (Some request) 500 working.play.view) refl

faulted-kept : (config : Config) (req : Option ReqId) (end : End) (working : Working) → fields-of (faulted config req end working) ≡ fields-of working
unfolding faulted
faulted-kept config req ends.Fine working = refl
faulted-kept config req ends.Fault working = fault_at-kept config (option_and_then (request_in working.play.view) req) working
faulted-kept config req ends.Starved working = refl

-- ## Proxies act

started-kept : (config : Config) (proxy : Proxy) (working : Working) (uri : Uri) → fields-of (started config proxy working uri) ≡ fields-of working
unfolding started
started-kept config proxy working uri = refl

fold-kept : {A : Type 0} (items : List A) (act : Working → A → Working) → ((working : Working) (a : A) → fields-of (act working a) ≡ fields-of working) → (working : Working)
    → fields-of (fold act working items) ≡ fields-of working
fold-kept [] act each working = refl
fold-kept (a ∷ items) act each working = fold-kept items act each (act working a) ∙ each working a

forwarded-kept : (proxy : Proxy) (sess : SessId) (request : Option RequestView) (response : Response) (view : View)
    → rest-of (forwarded_view proxy sess request response view) ≡ rest-of view
unfolding forwarded_view answered_in tidy
forwarded-kept proxy sess None response view = refl
forwarded-kept proxy sess (Some request) response view = refl

subscribed-kept : (proxy : Proxy) (sess : SessId) (response : Response) (view : View) → rest-of (with_subscribed proxy sess response view) ≡ rest-of view
unfolding with_subscribed
subscribed-kept proxy sess response view =
    if-same rest-of (is_some proxy.options && same_bytes proxy.request.method subscribe && is_success response.code) (change_session sess (subscribed_tag (tag_of response.head.to)) view) view (rest-of view) refl refl

forwards-kept : (proxy : Proxy) (sess : SessId) (response : Response) (working : Working) → fields-of (forwards proxy sess response working) ≡ fields-of working
unfolding forwards
forwards-kept proxy sess response working =
    forwarded-kept proxy sess (request_in working.play.view proxy.req) response (with_subscribed proxy sess response working.play.view) ∙ subscribed-kept proxy sess response working.play.view

passes-kept : (proxy : Proxy) (passing : Option Passing) (working : Working) → fields-of (passes proxy passing working) ≡ fields-of working
unfolding passes
passes-kept proxy None working = refl
passes-kept proxy (Some passing) working =
    if-same fields-of (can_pass proxy passing.response) (forwards proxy passing.sess passing.response working) working (fields-of working) (forwards-kept proxy passing.sess passing.response working) refl

best-kept : (proxy : Proxy) (response : Option Response) (working : Working) → fields-of (forwards_best proxy response working) ≡ fields-of working
unfolding forwards_best
best-kept proxy None working = refl
best-kept proxy (Some response) working = forwards-kept proxy proxy.sess response working

chooses-kept : (proxy : Proxy) (working : Working) → fields-of (chooses proxy working) ≡ fields-of working
unfolding chooses
chooses-kept proxy working =
    if-same fields-of (can_choose proxy) (forwards_best proxy (best_response proxy.candidates) working) working (fields-of working) (best-kept proxy (best_response proxy.candidates) working) refl

closes-kept : (proxy : Proxy) (working : Working) → fields-of (closes proxy working) ≡ fields-of working
unfolding closes
closes-kept proxy working =
    if-same fields-of (is_exhausted proxy && is_some proxy.options) (in_view (record working.play.view { sessions = map (closed_session working.known proxy.req proxy.sess) working.play.view.sessions }) working) working (fields-of working) refl refl

acted-kept : (config : Config) (proxy : Proxy) (working : Working) → fields-of (acted config proxy working) ≡ fields-of working
unfolding acted sends_cancels
acted-kept config proxy working =
    let begun : Working = fold (started config proxy) working (starting proxy) in
    let passed : Working = passes (proxy_now proxy begun) proxy.passing begun in
    let chosen : Working = chooses (proxy_now proxy passed) passed in
    closes-kept (proxy_now proxy chosen) (sends_cancels proxy chosen) ∙ chooses-kept (proxy_now proxy passed) passed ∙ passes-kept (proxy_now proxy begun) proxy.passing begun
    ∙ fold-kept (starting proxy) (started config proxy) (started-kept config proxy) working

acts-kept : (config : Config) (working : Working) (proxy : Proxy) → fields-of (acts config working proxy) ≡ fields-of working
unfolding acts
acts-kept config working proxy =
    if-same fields-of (is_invalid working.known proxy.sess) working (acted config proxy working) (fields-of working) refl (acted-kept config proxy working)

all_act-kept : (config : Config) (working : Working) → fields-of (all_act config working) ≡ fields-of working
unfolding all_act
all_act-kept config working = fold-kept working.known.proxies (acts config) (acts-kept config) working

-- ## A later request is passed on

hops-kept : (config : Config) (request : RequestView) (working : Working) → fields-of (hops_spent config request working) ≡ fields-of working
unfolding hops_spent
hops-kept config request working =
    if-same fields-of (is_owed request) (in_view (answered (Some request) 483 working.play.view) (answering config (Some request) (bare_answer 483 too_many_hops) working)) working (fields-of working)
    (answered-rest (Some request) 483 working.play.view) refl

passed_on-kept : (config : Config) (kept : Kept) (working : Working) → fields-of (passed_on config kept working) ≡ fields-of working
unfolding passed_on
passed_on-kept config kept working = refl

passed_later-kept : (config : Config) (request : RequestView) (kept : Option Kept) (working : Working) → fields-of (passed_later config request kept working) ≡ fields-of working
unfolding passed_later
passed_later-kept config request None working = refl
passed_later-kept config request (Some kept) working =
    if-same fields-of (request.initial || not request.proxied || is_invalid working.known request.sess) working (cond (request.hops == 0) (hops_spent config request working) (passed_on config kept working)) (fields-of working) refl
    (if-same fields-of (request.hops == 0) (hops_spent config request working) (passed_on config kept working) (fields-of working) (hops-kept config request working) (passed_on-kept config kept working))

request_of-kept : (config : Config) (request : Option RequestView) (working : Working) → fields-of (passed_request_of config request working) ≡ fields-of working
unfolding passed_request_of
request_of-kept config None working = refl
request_of-kept config (Some request) working = passed_later-kept config request _ working

later-kept : (config : Config) (event : Queued) (req : Option ReqId) (working : Working) → fields-of (passes_later config event req working) ≡ fields-of working
unfolding passes_later
later-kept config event req working =
    if-same fields-of (is_request_event event) (passed_request_of config (option_and_then (request_in working.play.view) req) working) working (fields-of working)
    (request_of-kept config (option_and_then (request_in working.play.view) req) working) refl

finished-kept : (config : Config) (event : Queued) (req : Option ReqId) (end : End) (working : Working) → fields-of (finished config event req end working) ≡ fields-of working
unfolding finished
finished-kept config event req end working =
    later-kept config event req (all_act config (faulted config req end (drafts_ended working))) ∙ all_act-kept config (faulted config req end (drafts_ended working))
    ∙ faulted-kept config req end (drafts_ended working) ∙ drafts-kept working

-- ## What goes away

swept_one-kept : (known : Known) (before view : View) (session : SessionView) → rest-of (swept_one known before view session) ≡ rest-of view
unfolding swept_one
swept_one-kept known before view session = by _
  where
    by : (b : Bool) → rest-of (cond b (removed session.id view) view) ≡ rest-of view
    by true = removed-rest session.id view
    by false = refl

all-swept : (sessions : List SessionView) (known : Known) (before view : View) → rest-of (fold (swept_one known before) view sessions) ≡ rest-of view
all-swept [] known before view = refl
all-swept (session ∷ sessions) known before view = all-swept sessions known before (swept_one known before view session) ∙ swept_one-kept known before view session

swept-kept : (x : Session) → rest-of (swept x).view ≡ rest-of x.view
unfolding swept tidy
swept-kept x = all-swept x.view.sessions x.known x.view x.view

play-kept : (working : Working) → rest-of (session_in_play working).view ≡ fields-of working
unfolding session_in_play without_acks
play-kept working = refl

outcome_of-kept : (event : Queued) (working : Working) → rest-of (outcome_of event working).session.view ≡ fields-of working
unfolding outcome_of lightened
outcome_of-kept event working =
    if-same (λ (s : Session). rest-of s.view) (is_ended event working) (session_in_play working) (swept (session_in_play working)) (fields-of working) (play-kept working)
    (swept-kept (session_in_play working) ∙ play-kept working)

-- ## The calls

calls-play : (made : List CallRecord) (config : Config) (working : Working)
    → (fold (λ working made. worked config working made.call) working made).play ≡ fold (λ play made. after_listed play made.call) working.play made
unfolding worked
calls-play [] config working = refl
calls-play (m ∷ made) config working = calls-play made config (worked config working m.call)

pub worked-play : (config : Config) (shown : Prepared) (made : List CallRecord) → (worked_all config shown made).play ≡ after_calls shown.view made
unfolding worked_all starts after_calls
worked-play config shown made = calls-play made config (starts shown)

played-fields : (config : Config) (shown : Prepared) (made : List CallRecord) → fields-of (worked_all config shown made) ≡ rest-of (after_calls shown.view made).view
played-fields config shown made = ap (λ (play : Play). rest-of play.view) (worked-play config shown made)

-- what follows from the calls of a turn leaves attributes, timers and numbers as they left them
pub outcome-rest : (config : Config) (ringing : List ℕ) (x : Session) (waiting : Waiting) (now : ℕ) (made : List CallRecord) (end : End)
    → rest-of (outcome config ringing x waiting now made end).session.view ≡ rest-of (after_calls (prepared config ringing x waiting now).view made).view
unfolding outcome
outcome-rest config ringing x waiting now made end =
    let shown : Prepared = prepared config ringing x waiting now in
    let working : Working = worked_all config shown made in
    outcome_of-kept waiting.event (finished config waiting.event shown.req end working) ∙ finished-kept config waiting.event shown.req end working
    ∙ played-fields config shown made

pub outcome-kept : (config : Config) (ringing : List ℕ) (x : Session) (waiting : Waiting) (now : ℕ) (made : List CallRecord) (end : End)
    → (outcome config ringing x waiting now made end).session.view.attributes ≡ (after_calls (prepared config ringing x waiting now).view made).view.attributes
outcome-kept config ringing x waiting now made end = ap (λ (rest : Rest). rest.attributes) (outcome-rest config ringing x waiting now made end)
