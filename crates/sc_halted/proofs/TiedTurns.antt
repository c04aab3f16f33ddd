-- The same over the calls of a turn and what follows them, and over a whole life; and which calls end a SipSession.
use Rattle.std.proofs.Common.{◌+◌, ◌∷◌, ◌≡◌, Bool, List, None, Option, Some, [], cond, false, length, refl, subst, sym, true, ℕ}
use Rattle.std.specs.List.{find, fold}
use Rattle.std.specs.Prelude.{◌&&◌, ◌==◌, ◌||◌, is_none, is_some, map, not, option_and_then, option_map}
use Rattle.sc_value.specs.declared.ids.ReqId.{ReqId}
use Rattle.sc_value.specs.declared.ids.SessId.{SessId}
use Rattle.sc_value.specs.declared.message.Response.{Response}
use Rattle.sc_value.specs.declared.parts.Uri.{Uri}
use Rattle.sc_tokens.specs.Names.{same_bytes}
use Rattle.sc_terms.specs.declared.calls.Answer.{Answer}
use Rattle.sc_terms.specs.declared.calls.Call.{Call}
use Rattle.sc_terms.specs.declared.calls.Call.TheVariants as calls
use Rattle.sc_terms.specs.declared.calls.CallRecord.{CallRecord}
use Rattle.sc_terms.specs.declared.calls.End.{End}
use Rattle.sc_terms.specs.declared.calls.End.TheVariants as ends
use Rattle.sc_terms.specs.declared.calls.ProxyOptions.{ProxyOptions}
use Rattle.sc_terms.specs.declared.calls.Refusal.{Refusal}
use Rattle.sc_terms.specs.declared.calls.Target.{Target}
use Rattle.sc_terms.specs.declared.calls.Target.TheVariants as targets
use Rattle.sc_terms.specs.declared.inside.Inside.{Inside}
use Rattle.sc_terms.specs.declared.settings.Config.{Config}
use Rattle.sc_terms.specs.declared.views.RequestView.{RequestView}
use Rattle.sc_terms.specs.declared.views.SessionView.{SessionView}
use Rattle.sc_terms.specs.declared.views.State.TheVariants.{Terminated}
use Rattle.sc_terms.specs.declared.views.View.{View}
use Rattle.sc_state.specs.declared.proxy.Passing.{Passing}
use Rattle.sc_state.specs.declared.proxy.Proxy.{Proxy}
use Rattle.sc_state.specs.declared.queue.Queued.{Queued}
use Rattle.sc_state.specs.declared.session.Kept.{Kept}
use Rattle.sc_state.specs.declared.session.Known.{Known}
use Rattle.sc_state.specs.declared.session.Leg.{Leg}
use Rattle.sc_state.specs.declared.session.Session.{Session}
use Rattle.sc_state.specs.declared.working.Asked.{Asked}
use Rattle.sc_state.specs.declared.working.Asked.TheVariants as asked
use Rattle.sc_state.specs.declared.working.Draft.{Draft}
use Rattle.sc_state.specs.declared.working.Play.{Play}
use Rattle.sc_state.specs.declared.working.Prepared.{Prepared}
use Rattle.sc_state.specs.declared.working.Working.{Working}
use Rattle.sc_state.specs.declared.working.Written.{Written}
use Rattle.sc_tokens.specs.Bytes.{Bytes}
use Rattle.sc_model.specs.BestResponses.{best_response, server_error}
use Rattle.sc_model.specs.Dialogs.{DialogState, Passed, tag_of}
use Rattle.sc_model.specs.SessionStates.{ack}
use Rattle.sc_hosts.specs.Acting.{after_proxy as acted, acts, all_act, chooses, closed_session, closes, drafts_ended, with_next_branch as drawn, fault_at, after_fault as faulted, forwarded_view, forwards, forwards_best, hops_spent, in_view, is_request_event, moved_on, passed_later, passed_on, passed_request_of, passes, passes_later, proxy_now, sends_cancels, after_start as started, subscribed_tag, with_subscribed, without_left}
use Rattle.sc_hosts.specs.Branches.{can_choose, can_pass, is_exhausted, starting, with_targets}
use Rattle.sc_hosts.specs.Effects.{view_with_ack as acked, after_call, after_listed, first_play as begun, play_with_initial as created, created_later, created_leg, play_without_draft as discarded, with_invalidation_flag as flagged, played_by, view_with_targets as proxied, proxied_request, proxying, play_with_request as sent, with_draft, with_timer}
use Rattle.sc_hosts.specs.Finishing.{after_all_calls as finished, is_ended, is_session_ready, without_unneeded as lightened, outcome, outcome_of, session_in_play, swept, swept_one, without_acks}
use Rattle.sc_hosts.specs.Giving.{answering, directs, drafts_later, drafts_leg, drafts_own, forgets, is_written, writes}
use Rattle.sc_hosts.specs.Histories.{History, after_turn, session_after}
use Rattle.sc_hosts.specs.Legs.{change_leg, first_known, first_leg, first_session, first_view, fresh, in_dialog, new_leg}
use Rattle.sc_hosts.specs.Looking.{change_request, change_session, in_state, is_proxy, without_sip_session as removed, request_in, session_in, without_link as unlinked}
use Rattle.sc_hosts.specs.Messages.{bare_answer}
use Rattle.sc_hosts.specs.Preparing.{kept_of, prepared_session as prepared, proxy_of}
use Rattle.sc_hosts.specs.PreparingResponses.{change_proxy, is_invalid}
use Rattle.sc_hosts.specs.RefusalParts.{draft_in, known_session, name_refusal, sessions_in_call as named}
use Rattle.sc_hosts.specs.Refusals.{begun_by, own_refusal, refusal}
use Rattle.sc_hosts.specs.Sessions.{Turn}
use Rattle.sc_hosts.specs.ViewChanges.{view_with_answer as answered, view_without as invalidated, is_owed, with_link as linked, new_session, own_session, settled_requests, tidy, with_own_session}
use Rattle.sc_hosts.specs.Words.{too_many_hops}
use Rattle.sc_hosts.specs.Working.{ack_with, acknowledges, cancels, dialog_in, effects_of_call as does, does_by, invalidates, keeps_sent, proxies, proxies_first, sends, sends_in, sends_initial, sends_later, sends_written, starts, after_one_call as worked, worked_all}
use Rattle.sc_walked.proofs.WalkParts.{each-map}
use Rattle.sc_lasting.proofs.Began.{or-left, or-right}
use Rattle.sc_lasting.proofs.Parts.{linked-each, unlinked-each}
use Rattle.sc_halted.proofs.Tied.{Calm, Soft, Tied, TiedIn, TiedShown, answered-tied, answered_in-tied, changed-tied, ending, find-soft, first-tied, gone-soft, if-soft, if-tied, keep-soft, last-number, leg-tied, link-soft, more-legs, more-sessions, prepared-tied, removed-tied, state-soft, then-soft, tied-ends, tied-soft}

-- what is known of a turn
abbrev pub TiedOf : Working → Type 0
TiedOf working = Tied working.play.view.sessions working.known.legs

-- ## What the calls leave of the view

own-number : (view : View) → (own_session view).id.0 ≡ 1 + length view.sessions
unfolding own_session
own-number view = last-number (length view.sessions)

own-tied : (view : View) (legs : List Leg) → Tied view.sessions legs → Tied (with_own_session view).sessions legs
unfolding with_own_session
own-tied view legs tied = more-sessions view.sessions legs (own_session view) (own-number view) tied

linked-tied : (a b : SessId) (view : View) (legs : List Leg) → Tied view.sessions legs → Tied (linked a b view).sessions legs
linked-tied a b view legs tied = tied-soft view.sessions _ legs (linked-each Soft keep-soft then-soft link-soft gone-soft a b view) tied

unlinked-tied : (a : SessId) (view : View) (legs : List Leg) → Tied view.sessions legs → Tied (unlinked a view).sessions legs
unlinked-tied a view legs tied = tied-soft view.sessions _ legs (unlinked-each Soft keep-soft then-soft link-soft gone-soft a view) tied

leg-created : (found : Option RequestView) (play : Play) (legs : List Leg) → Tied play.view.sessions legs → Tied (created_leg found play).view.sessions legs
unfolding created_leg with_draft
leg-created None play legs tied = tied
leg-created (Some request) play legs tied = linked-tied request.sess (new_session play.view) (with_own_session play.view) legs (own-tied play.view legs tied)

sent-tied : (draft : ℕ) (found : Option Draft) (play : Play) (legs : List Leg) → Tied play.view.sessions legs → Tied (sent draft found play).view.sessions legs
unfolding sent
sent-tied draft None play legs tied = tied
sent-tied draft (Some one) play legs tied = tied

if-play : (b : Bool) (x y : Play) (legs : List Leg) → Tied x.view.sessions legs → Tied y.view.sessions legs → Tied (cond b x y).view.sessions legs
if-play true x y legs p q = p
if-play false x y legs p q = q

discarded-tied : (draft : ℕ) (found : Option Draft) (play : Play) (legs : List Leg) → Tied play.view.sessions legs → Tied (discarded draft found play).view.sessions legs
unfolding discarded tidy
discarded-tied draft None play legs tied = tied
discarded-tied draft (Some one) play legs tied =
    if-play one.initial (record play { view = tidy (removed one.sess play.view) }) play legs (removed-tied one.sess play.view legs tied) tied

acked-tied : (sess : SessId) (view : View) (legs : List Leg) → Tied view.sessions legs → Tied (acked sess view).sessions legs
unfolding acked tidy
acked-tied sess view legs tied = tied

proxying-soft : (s : SessionView) → Soft s (proxying s)
unfolding proxying
proxying-soft s = if-soft (is_proxy s.role) s s _ (keep-soft s) (refl, λ gone. gone)

proxied-tied : (found : Option RequestView) (count : ℕ) (view : View) (legs : List Leg) → Tied view.sessions legs → Tied (proxied found count view).sessions legs
unfolding proxied
proxied-tied None count view legs tied = tied
proxied-tied (Some request) count view legs tied = changed-tied request.sess proxying (change_request request.id (proxied_request count) view) legs proxying-soft tied

flag-soft : (flag : Bool) (s : SessionView) → Soft s (record s { ready_flag = flag })
flag-soft flag s = (refl, λ gone. gone)

flagged-tied : (target : Target) (flag : Bool) (view : View) (legs : List Leg) → Tied view.sessions legs → Tied (flagged target flag view).sessions legs
unfolding flagged
flagged-tied targets.Application flag view legs tied = tied
flagged-tied (targets.Session sess) flag view legs tied = changed-tied sess (λ s. record s { ready_flag = flag }) view legs (flag-soft flag) tied

-- ## What they do to the legs

answering-tied : (config : Config) (found : Option RequestView) (answer : Answer) (working : Working) (ss : List SessionView) → Tied ss working.known.legs → Tied ss (answering config found answer working).known.legs
unfolding answering
answering-tied config None answer working ss tied = tied
answering-tied config (Some r) answer working ss tied = tied

pub new-false : (sess : SessId) (first : Option ReqId) → (new_leg sess first).invalidated ≡ false
unfolding new_leg
new-false sess first = refl

leg-drafted : (req : ReqId) (uri : Option Uri) (kept : Option Kept) (working : Working) (ss : List SessionView) → Tied ss working.known.legs → Tied ss (drafts_leg req uri kept working).known.legs
unfolding drafts_leg writes
leg-drafted req uri None working ss tied = tied
leg-drafted req uri (Some kept) working ss tied = more-legs ss working.known.legs (new_leg (new_session working.play.view) None) (new-false (new_session working.play.view) None) tied

pub dialog-calm : (passed : Passed) (leg : Leg) → Calm leg (in_dialog passed leg)
unfolding in_dialog
dialog-calm passed leg = (refl, refl)

sent-in : (config : Config) (s : SessId) (ask : Inside) (dialog : Option DialogState) (working : Working) (ss : List SessionView) → Tied ss working.known.legs → Tied ss (sends_in config s ask dialog working).known.legs
unfolding sends_in sends_later keeps_sent
sent-in config s ask None working ss tied = tied
sent-in config s ask (Some dialog) working ss tied = leg-tied s (in_dialog _) ss working.known (dialog-calm _) tied

written-tied : (config : Config) (draft : Written) (s : SessId) (what : Asked) (working : Working) (ss : List SessionView) → Tied ss working.known.legs → Tied ss (sends_written config draft s what working).known.legs
unfolding sends_written sends_initial keeps_sent
written-tied config draft s (asked.Initial request) working ss tied = leg-tied s (λ leg. record leg { first = Some (record { 0 = working.play.view.next_request }) }) ss working.known (λ leg. (refl, refl)) tied
written-tied config draft s (asked.Later ask) working ss tied = sent-in config s ask (dialog_in working.known s) working ss tied

sends-tied : (config : Config) (draft : ℕ) (written : Option Written) (found : Option Draft) (working : Working) (ss : List SessionView) → Tied ss working.known.legs → Tied ss (sends config draft written found working).known.legs
unfolding sends forgets
sends-tied config draft (Some written) (Some found) working ss tied = written-tied config written found.sess written.asked working ss tied
sends-tied config draft (Some written) None working ss tied = tied
sends-tied config draft None found working ss tied = tied

ack_with-tied : (config : Config) (body : Bytes) (dialog : Option DialogState) (kept : Option Kept) (working : Working) (ss : List SessionView) → Tied ss working.known.legs → Tied ss (ack_with config body dialog kept working).known.legs
unfolding ack_with
ack_with-tied config body (Some dialog) (Some kept) working ss tied = tied
ack_with-tied config body (Some dialog) None working ss tied = tied
ack_with-tied config body None kept working ss tied = tied

acks-tied : (config : Config) (s : SessId) (body : Bytes) (found : Option RequestView) (working : Working) (ss : List SessionView) → Tied ss working.known.legs → Tied ss (acknowledges config s body found working).known.legs
unfolding acknowledges
acks-tied config s body None working ss tied = tied
acks-tied config s body (Some r) working ss tied = ack_with-tied config body _ _ working ss tied

if-known : (b : Bool) (x y : Known) (ss : List SessionView) → Tied ss x.legs → Tied ss y.legs → Tied ss (cond b x y).legs
if-known true x y ss p q = p
if-known false x y ss p q = q

first-proxied : (req : ReqId) (uris : List Uri) (how : ProxyOptions) (kept : Option Kept) (known : Known) (ss : List SessionView) → Tied ss known.legs → Tied ss (proxies_first req uris how kept known).legs
unfolding proxies_first
first-proxied req uris how None known ss tied = tied
first-proxied req uris how (Some kept) known ss tied = tied

proxies-tied : (req : ReqId) (uris : List Uri) (how : ProxyOptions) (known : Known) (ss : List SessionView) → Tied ss known.legs → Tied ss (proxies req uris how known).legs
unfolding proxies
proxies-tied req uris how known ss tied =
    if-known (is_some (proxy_of known req)) (change_proxy req (with_targets uris) known) (proxies_first req uris how (kept_of known req) known) ss tied (first-proxied req uris how (kept_of known req) known ss tied)

-- ## A call that ends a SipSession

name-there : (view : View) (found : Option SessionView) → name_refusal view (option_map (λ (s : SessionView). s.id) found ∷ []) ≡ None → (one : SessionView) × (found ≡ Some one)
unfolding name_refusal
name-there view None is = cc
name-there view (Some one) is = (one, refl)

-- it names one that is there
pub ends-there : (play : Play) (sess : SessId) → refusal play (calls.InvalidateSession sess) ≡ None → (found : SessionView) × (session_in play.view sess ≡ Some found)
unfolding refusal named known_session
ends-there play sess is =
    name-there play.view (session_in play.view sess) (or-left (name_refusal play.view (known_session play sess ∷ [])) (own_refusal play (calls.InvalidateSession sess)) (or-right _ _ is))

invalid-tied : (sess : SessId) (view : View) (known : Known) (found : SessionView) → session_in view sess ≡ Some found → Tied view.sessions known.legs
    → Tied (invalidated sess view).sessions (change_leg sess ending known).legs
unfolding invalidated settled_requests tidy removed change_leg
invalid-tied sess view known found is tied =
    let between : View = settled_requests sess 500 view in
    let each = unlinked-each Soft keep-soft then-soft link-soft gone-soft sess between in
    let other = find-soft view.sessions (unlinked sess between).sessions sess found each is in
    tied-ends (unlinked sess between).sessions known.legs sess other.0 other.1 (tied-soft view.sessions (unlinked sess between).sessions known.legs each tied)

-- ## Each call

call-tied : (config : Config) (working : Working) (call : Call) → refusal working.play call ≡ None → TiedOf working → Tied (after_call working.play call).view.sessions (does config working call).known.legs
unfolding after_call does created created_later with_draft drafts_own drafts_later writes directs forgets cancels invalidates with_timer
call-tied config working (calls.Respond req answer) is tied =
    answering-tied config (request_in working.play.view req) answer working _ (answered-tied (request_in working.play.view req) answer.code working.play.view working.known.legs tied)
call-tied config working (calls.CreateRequest ask) is tied = more-legs _ working.known.legs (new_leg (new_session working.play.view) None) (new-false (new_session working.play.view) None) (own-tied working.play.view working.known.legs tied)
call-tied config working (calls.CreateInDialog sess ask) is tied = tied
call-tied config working (calls.B2bCreate req uri) is tied =
    leg-drafted req uri (kept_of working.known req) working _ (leg-created (request_in working.play.view req) working.play working.known.legs tied)
call-tied config working (calls.SetDirective draft directive origin) is tied = tied
call-tied config working (calls.Send draft) is tied =
    sends-tied config draft (find (is_written draft) working.written) (draft_in working.play draft) working _ (sent-tied draft (draft_in working.play draft) working.play working.known.legs tied)
call-tied config working (calls.Discard draft) is tied = discarded-tied draft (draft_in working.play draft) working.play working.known.legs tied
call-tied config working (calls.Ack sess body) is tied = acks-tied config sess body _ working _ (acked-tied sess working.play.view working.known.legs tied)
call-tied config working (calls.Cancel req) is tied = tied
call-tied config working (calls.ProxyTo req uris how) is tied = proxies-tied req uris how working.known _ (proxied-tied (request_in working.play.view req) (length uris) working.play.view working.known.legs tied)
call-tied config working (calls.ProxyCancel req) is tied = tied
call-tied config working (calls.B2bRespond sess answer) is tied =
    answering-tied config (begun_by working.play.view sess) answer working _ (answered-tied (begun_by working.play.view sess) answer.code working.play.view working.known.legs tied)
call-tied config working (calls.Link a b) is tied = linked-tied a b working.play.view working.known.legs tied
call-tied config working (calls.Unlink a) is tied = unlinked-tied a working.play.view working.known.legs tied
call-tied config working (calls.StartTimer delay period info) is tied = tied
call-tied config working (calls.CancelTimer id) is tied = tied
call-tied config working (calls.SetAttribute name value) is tied = tied
call-tied config working (calls.RemoveAttribute name) is tied = tied
call-tied config working (calls.SetExpires minutes) is tied = tied
call-tied config working (calls.SetReadyFlag target flag) is tied = flagged-tied target flag working.play.view working.known.legs tied
call-tied config working (calls.InvalidateSession sess) is tied =
    let there = ends-there working.play sess is in
    invalid-tied sess working.play.view working.known there.0 there.1 tied
call-tied config working calls.InvalidateApplication is tied = tied

by-refusal : (config : Config) (working : Working) (call : Call) (found : Option Refusal) → refusal working.play call ≡ found → TiedOf working
    → Tied (played_by working.play call found).view.sessions (does_by config working call found).known.legs
unfolding played_by does_by
by-refusal config working call None is tied = call-tied config working call is tied
by-refusal config working call (Some refused) is tied = tied

pub worked-tied : (config : Config) (working : Working) (call : Call) → TiedOf working → TiedOf (worked config working call)
unfolding worked after_listed
worked-tied config working call tied = by-refusal config working call (refusal working.play call) refl tied

abbrev Calls : Config → Working → List CallRecord → Working
Calls config working made = fold (λ (w : Working) (m : CallRecord). worked config w m.call) working made

calls-tied : (made : List CallRecord) (config : Config) (working : Working) → TiedOf working → TiedOf (Calls config working made)
calls-tied [] config working tied = tied
calls-tied (m ∷ made) config working tied = calls-tied made config (worked config working m.call) (worked-tied config working m.call tied)

-- ## What follows

lefts-tied : (drafts : List Draft) (view : View) (legs : List Leg) → Tied view.sessions legs → Tied (fold without_left view drafts).sessions legs
unfolding without_left
lefts-tied [] view legs tied = tied
lefts-tied (draft ∷ drafts) view legs tied =
    lefts-tied drafts (cond draft.initial (removed draft.sess view) view) legs (if-tied draft.initial (removed draft.sess view) view legs (removed-tied draft.sess view legs tied) tied)

drafts-tied : (working : Working) → TiedOf working → TiedOf (drafts_ended working)
unfolding drafts_ended tidy
drafts-tied working tied = lefts-tied working.play.drafts working.play.view working.known.legs tied

if-of : (b : Bool) (x y : Working) → TiedOf x → TiedOf y → TiedOf (cond b x y)
if-of true x y p q = p
if-of false x y p q = q

fault-tied : (config : Config) (found : Option RequestView) (working : Working) → TiedOf working → TiedOf (fault_at config found working)
unfolding fault_at
fault-tied config None working tied = tied
fault-tied config (Some r) working tied =
    if-of (is_owed r && not r.proxied) (in_view (answered (Some r) 500 working.play.view) (answering config (Some r) (bare_answer 500 server_error) working)) working
    (answering-tied config (Some r) (bare_answer 500 server_error) working _ (answered-tied (Some r) 500 working.play.view working.known.legs tied)) tied

faulted-tied : (config : Config) (req : Option ReqId) (end : End) (working : Working) → TiedOf working → TiedOf (faulted config req end working)
unfolding faulted
faulted-tied config req ends.Fine working tied = tied
faulted-tied config req ends.Fault working tied = fault-tied config _ working tied
faulted-tied config req ends.Starved working tied = tied

fold-tied : {A : Type 0} (items : List A) (act : Working → A → Working) → ((working : Working) (a : A) → TiedOf working → TiedOf (act working a)) → (working : Working) → TiedOf working → TiedOf (fold act working items)
fold-tied [] act each working tied = tied
fold-tied (a ∷ items) act each working tied = fold-tied items act each (act working a) (each working a tied)

started-tied : (config : Config) (proxy : Proxy) (working : Working) (uri : Uri) → TiedOf working → TiedOf (started config proxy working uri)
unfolding started
started-tied config proxy working uri tied = tied

moved-soft : (proxy : Proxy) (response : Response) (s : SessionView) → Soft s (moved_on proxy response s)
unfolding moved_on
moved-soft proxy response s = if-soft (is_some proxy.options) s _ s (state-soft _ s) (keep-soft s)

tag-soft : (tag : Option Bytes) (s : SessionView) → Soft s (subscribed_tag tag s)
unfolding subscribed_tag
tag-soft tag s = if-soft (is_none s.peer_tag) s (record s { peer_tag = tag }) s (refl, λ gone. gone) (keep-soft s)

subscribed-tied : (proxy : Proxy) (sess : SessId) (response : Response) (view : View) (legs : List Leg) → Tied view.sessions legs → Tied (with_subscribed proxy sess response view).sessions legs
unfolding with_subscribed
subscribed-tied proxy sess response view legs tied =
    if-tied _ (change_session sess (subscribed_tag (tag_of response.head.to)) view) view legs (changed-tied sess (subscribed_tag (tag_of response.head.to)) view legs (tag-soft (tag_of response.head.to)) tied) tied

forwarded-tied : (proxy : Proxy) (sess : SessId) (found : Option RequestView) (response : Response) (view : View) (legs : List Leg) → Tied view.sessions legs → Tied (forwarded_view proxy sess found response view).sessions legs
unfolding forwarded_view tidy
forwarded-tied proxy sess None response view legs tied = changed-tied sess (moved_on proxy response) view legs (moved-soft proxy response) tied
forwarded-tied proxy sess (Some request) response view legs tied = answered_in-tied sess request (is_some (tag_of response.head.to)) response.code view legs tied

forwards-tied : (proxy : Proxy) (sess : SessId) (response : Response) (working : Working) → TiedOf working → TiedOf (forwards proxy sess response working)
unfolding forwards
forwards-tied proxy sess response working tied =
    forwarded-tied proxy sess (request_in working.play.view proxy.req) response (with_subscribed proxy sess response working.play.view) working.known.legs (subscribed-tied proxy sess response working.play.view working.known.legs tied)

passes-tied : (proxy : Proxy) (passing : Option Passing) (working : Working) → TiedOf working → TiedOf (passes proxy passing working)
unfolding passes
passes-tied proxy None working tied = tied
passes-tied proxy (Some passing) working tied = if-of (can_pass proxy passing.response) (forwards proxy passing.sess passing.response working) working (forwards-tied proxy passing.sess passing.response working tied) tied

best-tied : (proxy : Proxy) (response : Option Response) (working : Working) → TiedOf working → TiedOf (forwards_best proxy response working)
unfolding forwards_best
best-tied proxy None working tied = tied
best-tied proxy (Some response) working tied = forwards-tied proxy proxy.sess response working tied

chooses-tied : (proxy : Proxy) (working : Working) → TiedOf working → TiedOf (chooses proxy working)
unfolding chooses
chooses-tied proxy working tied = if-of (can_choose proxy) (forwards_best proxy (best_response proxy.candidates) working) working (best-tied proxy (best_response proxy.candidates) working tied) tied

closed-soft : (known : Known) (req : ReqId) (original : SessId) (s : SessionView) → Soft s (closed_session known req original s)
unfolding closed_session
closed-soft known req original s = if-soft _ s (in_state Terminated s) s (state-soft Terminated s) (keep-soft s)

closes-tied : (proxy : Proxy) (working : Working) → TiedOf working → TiedOf (closes proxy working)
unfolding closes
closes-tied proxy working tied =
    if-of (is_exhausted proxy && is_some proxy.options)
    (in_view (record working.play.view { sessions = map (closed_session working.known proxy.req proxy.sess) working.play.view.sessions }) working) working
    (tied-soft working.play.view.sessions _ working.known.legs (each-map Soft working.play.view.sessions (closed_session working.known proxy.req proxy.sess) (closed-soft working.known proxy.req proxy.sess)) tied) tied

cancels-tied : (proxy : Proxy) (working : Working) → TiedOf working → TiedOf (sends_cancels proxy working)
unfolding sends_cancels
cancels-tied proxy working tied = tied

acted-tied : (config : Config) (proxy : Proxy) (working : Working) → TiedOf working → TiedOf (acted config proxy working)
unfolding acted
acted-tied config proxy working tied =
    let begun : Working = fold (started config proxy) working (starting proxy) in
    let one = fold-tied (starting proxy) (started config proxy) (started-tied config proxy) working tied in
    let passed : Working = passes (proxy_now proxy begun) proxy.passing begun in
    let two = passes-tied (proxy_now proxy begun) proxy.passing begun one in
    let chosen : Working = chooses (proxy_now proxy passed) passed in
    closes-tied (proxy_now proxy chosen) (sends_cancels proxy chosen) (cancels-tied proxy chosen (chooses-tied (proxy_now proxy passed) passed two))

acts-tied : (config : Config) (working : Working) (proxy : Proxy) → TiedOf working → TiedOf (acts config working proxy)
unfolding acts
acts-tied config working proxy tied = if-of (is_invalid working.known proxy.sess) working (acted config proxy working) tied (acted-tied config proxy working tied)

all-tied : (config : Config) (working : Working) → TiedOf working → TiedOf (all_act config working)
unfolding all_act
all-tied config working tied = fold-tied working.known.proxies (acts config) (acts-tied config) working tied

spent-tied : (config : Config) (request : RequestView) (working : Working) → TiedOf working → TiedOf (hops_spent config request working)
unfolding hops_spent
spent-tied config request working tied =
    if-of (is_owed request) (in_view (answered (Some request) 483 working.play.view) (answering config (Some request) (bare_answer 483 too_many_hops) working)) working
    (answering-tied config (Some request) (bare_answer 483 too_many_hops) working _ (answered-tied (Some request) 483 working.play.view working.known.legs tied)) tied

passed-tied : (b : Bool) (view : View) (x y : Working) (legs : List Leg) → Tied view.sessions legs → x.known.legs ≡ legs → y.known.legs ≡ legs → TiedOf (in_view view (cond b x y))
passed-tied true view x y legs tied p q = subst (λ (ls : List Leg). Tied view.sessions ls) (sym p) tied
passed-tied false view x y legs tied p q = subst (λ (ls : List Leg). Tied view.sessions ls) (sym q) tied

on-tied : (config : Config) (kept : Kept) (working : Working) → TiedOf working → TiedOf (passed_on config kept working)
unfolding passed_on
on-tied config kept working tied = passed-tied (same_bytes kept.request.method ack) (drawn working.play.view) _ _ working.known.legs tied refl refl

later-tied : (config : Config) (request : RequestView) (kept : Option Kept) (working : Working) → TiedOf working → TiedOf (passed_later config request kept working)
unfolding passed_later
later-tied config request None working tied = tied
later-tied config request (Some kept) working tied =
    if-of (request.initial || not request.proxied || is_invalid working.known request.sess) working (cond (request.hops == 0) (hops_spent config request working) (passed_on config kept working)) tied
    (if-of (request.hops == 0) (hops_spent config request working) (passed_on config kept working) (spent-tied config request working tied) (on-tied config kept working tied))

found-tied : (config : Config) (found : Option RequestView) (working : Working) → TiedOf working → TiedOf (passed_request_of config found working)
unfolding passed_request_of
found-tied config None working tied = tied
found-tied config (Some request) working tied = later-tied config request _ working tied

passes_later-tied : (config : Config) (event : Queued) (req : Option ReqId) (working : Working) → TiedOf working → TiedOf (passes_later config event req working)
unfolding passes_later
passes_later-tied config event req working tied =
    if-of (is_request_event event) (passed_request_of config (option_and_then (request_in working.play.view) req) working) working
    (found-tied config (option_and_then (request_in working.play.view) req) working tied) tied

finished-tied : (config : Config) (event : Queued) (req : Option ReqId) (end : End) (working : Working) → TiedOf working → TiedOf (finished config event req end working)
unfolding finished
finished-tied config event req end working tied =
    passes_later-tied config event req _ (all-tied config _ (faulted-tied config req end _ (drafts-tied working tied)))

sweeps-tied : (sessions : List SessionView) (known : Known) (before view : View) (legs : List Leg) → Tied view.sessions legs → Tied (fold (swept_one known before) view sessions).sessions legs
unfolding swept_one
sweeps-tied [] known before view legs tied = tied
sweeps-tied (s ∷ sessions) known before view legs tied =
    sweeps-tied sessions known before (cond (s.ready_flag && not s.gone && is_session_ready known before s) (removed s.id view) view) legs
    (if-tied (s.ready_flag && not s.gone && is_session_ready known before s) (removed s.id view) view legs (removed-tied s.id view legs tied) tied)

swept-tied : (x : Session) → TiedIn x.view x.known → TiedIn (swept x).view (swept x).known
unfolding swept tidy
swept-tied x tied = sweeps-tied x.view.sessions x.known x.view x.view x.known.legs tied

if-session : (b : Bool) (x y : Session) → TiedIn x.view x.known → TiedIn y.view y.known → TiedIn (cond b x y).view (cond b x y).known
if-session true x y p q = p
if-session false x y p q = q

left-tied : (event : Queued) (working : Working) → TiedOf working → TiedIn (outcome_of event working).session.view (outcome_of event working).session.known
unfolding outcome_of lightened session_in_play without_acks
left-tied event working tied =
    if-session (is_ended event working) (session_in_play working) (swept (session_in_play working)) tied (swept-tied (session_in_play working) tied)

-- ## A whole life

pub starts-tied : (shown : Prepared) → TiedShown shown → TiedOf (starts shown)
unfolding starts begun
starts-tied shown tied = tied

pub worked_all-tied : (config : Config) (shown : Prepared) (made : List CallRecord) → TiedShown shown → TiedOf (worked_all config shown made)
unfolding worked_all
worked_all-tied config shown made tied = calls-tied made config (starts shown) (starts-tied shown tied)

turn-tied : (config : Config) (turn : Turn) (x : Session) → TiedIn x.view x.known → TiedIn (after_turn config turn x).view (after_turn config turn x).known
unfolding after_turn outcome
turn-tied config turn x tied =
    let shown : Prepared = prepared config turn.ringing x turn.waiting turn.now in
    left-tied turn.waiting.event _ (finished-tied config turn.waiting.event shown.req turn.end (worked_all config shown turn.calls) (worked_all-tied config shown turn.calls (prepared-tied config turn.ringing x turn.waiting turn.now tied)))

pub life-tied : (config : Config) (history : History) (turns : List Turn) → TiedIn (session_after config history turns).view (session_after config history turns).known
unfolding session_after fresh first_view first_known first_session first_leg
life-tied config history [] = first-tied _ _ refl refl
life-tied config history (turn ∷ earlier) = turn-tied config turn (session_after config history earlier) (life-tied config history earlier)
