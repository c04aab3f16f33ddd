-- The calls of a turn hold what is owed.
use Rattle.std.proofs.Common.{◌≡◌, ℕ, ◌+◌, ◌++◌, Bool, true, false, Option, None, Some, List, [], ◌∷◌, refl}
use Rattle.std.specs.Prelude.{cond, length, map}
use Rattle.std.specs.List.{find, fold}
use Rattle.sc_value.specs.declared.ids.ReqId.{ReqId}
use Rattle.sc_value.specs.declared.ids.SessId.{SessId}
use Rattle.sc_value.specs.declared.parts.Uri.{Uri}
use Rattle.sc_value.specs.Lists.{change_first}
use Rattle.sc_terms.specs.declared.calls.Call.{Call}
use Rattle.sc_terms.specs.declared.calls.Call.TheVariants as calls
use Rattle.sc_terms.specs.declared.calls.CallRecord.{CallRecord}
use Rattle.sc_terms.specs.declared.calls.Refusal.{Refusal}
use Rattle.sc_terms.specs.declared.calls.Target.{Target}
use Rattle.sc_terms.specs.declared.calls.Target.TheVariants as targets
use Rattle.sc_terms.specs.declared.inside.Inside.{Inside}
use Rattle.sc_terms.specs.declared.settings.Config.{Config}
use Rattle.sc_terms.specs.declared.views.RequestView.{RequestView}
use Rattle.sc_terms.specs.declared.views.View.{View}
use Rattle.sc_state.specs.declared.session.Kept.{Kept}
use Rattle.sc_state.specs.declared.session.Known.{Known}
use Rattle.sc_state.specs.declared.working.Asked.{Asked}
use Rattle.sc_state.specs.declared.working.Asked.TheVariants as asked
use Rattle.sc_state.specs.declared.working.Draft.{Draft}
use Rattle.sc_state.specs.declared.working.Play.{Play}
use Rattle.sc_state.specs.declared.working.Working.{Working}
use Rattle.sc_state.specs.declared.working.Written.{Written}
use Rattle.sc_tokens.specs.Bytes.{Bytes}
use Rattle.sc_model.specs.Dialogs.{DialogState}
use Rattle.sc_hosts.specs.Effects.{view_with_ack as acked, after_call, after_listed, play_with_initial as created, created_later, created_leg, play_without_draft as discarded, with_invalidation_flag as flagged, played_by, view_with_targets as proxied, proxied_request, play_with_request as sent, sent_view, with_draft, with_timer, without_session}
use Rattle.sc_hosts.specs.Giving.{answering, directs, drafts_later, drafts_leg, drafts_own, forgets, writes}
use Rattle.sc_hosts.specs.Legs.{change_leg}
use Rattle.sc_hosts.specs.Looking.{without_sip_session as removed, request_in, without_link as unlinked}
use Rattle.sc_hosts.specs.Preparing.{kept_of}
use Rattle.sc_hosts.specs.RefusalParts.{draft_in}
use Rattle.sc_hosts.specs.Refusals.{awaits_ack, begun_by, refusal}
use Rattle.sc_hosts.specs.ViewChanges.{view_with_answer as answered, view_without as invalidated, with_link as linked, settled_request, settled_requests, tidy, with_own_session}
use Rattle.sc_hosts.specs.Working.{acknowledges, cancels, dialog_in, effects_of_call as does, does_by, invalidates, keeps_sent, proxies, sends, sends_in, sends_initial, sends_later, sends_written, after_one_call as worked}
use Rattle.sc_hosts.specs.Finishing.{lacks_final}
use Rattle.sc_walked.specs.SessionWalks.{sent_kept}
use Rattle.sc_walked.proofs.WalkCalls.{answering-known, acknowledges-known}
use Rattle.sc_walked.proofs.WalkParts.{each-first, each-map, if-is}
use Rattle.sc_lasting.proofs.Numbers.{proxies-kept}
use Rattle.sc_lasting.proofs.Parts.{removed-only, unlinked-only}
use Rattle.sc_lasting.proofs.Began.{sent-number, sent-own}
use Rattle.sc_replies.proofs.Owed.{Holds, IsAfter, after-answer, after-same, answered-holds, appended, appended-alone, changed-holds, renewed, sent-held, shown-holds, still, tidy-holds}

-- within a turn
abbrev pub InTurn : Working → Type 0
InTurn working = Holds working.play.view working.known

-- what is kept is the same
known-same : (view : View) (known after : Known) → after.kept ≡ known.kept → Holds view known → Holds view after
known-same view known after is ok = still view view known after refl refl is ok

answering-holds : (view : View) (config : Config) (found : Option RequestView) (answer : _) (working : Working) → Holds view working.known → Holds view (answering config found answer working).known
answering-holds view config found answer working ok = rw (answering-known config found answer working) ok

-- ## Requests and their SipSessions

without-after : (sess : SessId) (r : RequestView) → IsAfter r (without_session sess r)
unfolding without_session lacks_final
without-after sess r = record { id = refl; received = λ is. is; owed = λ is. is }

settled-after : (sess : SessId) (code : ℕ) (r : RequestView) → IsAfter r (settled_request sess code r)
unfolding settled_request
settled-after sess code r = if-is (IsAfter r) _ (record r { answered = Some code }) r (after-answer code r) (after-same r)

proxied-after : (count : ℕ) (r : RequestView) → IsAfter r (proxied_request count r)
unfolding proxied_request lacks_final
proxied-after count r = record { id = refl; received = λ is. is; owed = λ is. is }

pub removed-holds : (sess : SessId) (view : View) (known : Known) → Holds view known → Holds (removed sess view) known
removed-holds sess view known ok = shown-holds view (removed sess view) known (removed-only sess view) ok

acked-holds : (sess : SessId) (view : View) (known : Known) → Holds view known → Holds (acked sess view) known
unfolding acked
acked-holds sess view known ok =
    let next : View = record view { requests = change_first (awaits_ack sess) (without_session sess) view.requests; counter = view.counter + 1 } in
    tidy-holds next known (renewed view next known known refl refl (each-first IsAfter view.requests (awaits_ack sess) (without_session sess) after-same (without-after sess)) ok)

invalidated-holds : (sess : SessId) (view : View) (known : Known) → Holds view known → Holds (invalidated sess view) known
unfolding invalidated settled_requests
invalidated-holds sess view known ok =
    let settled : View = record view { requests = map (settled_request sess 500) view.requests } in
    tidy-holds (removed sess settled) known (removed-holds sess settled known (renewed view settled known known refl refl (each-map IsAfter view.requests (settled_request sess 500) (settled-after sess 500)) ok))

proxied-holds : (request : Option RequestView) (count : ℕ) (view : View) (known : Known) → Holds view known → Holds (proxied request count view) known
unfolding proxied
proxied-holds None count view known ok = ok
proxied-holds (Some request) count view known ok = changed-holds request.id (proxied_request count) view known (proxied-after count) ok

flagged-holds : (target : Target) (flag : Bool) (view : View) (known : Known) → Holds view known → Holds (flagged target flag view) known
unfolding flagged
flagged-holds targets.Application flag view known ok = ok
flagged-holds (targets.Session sess) flag view known ok = ok

if-play : (b : Bool) (known : Known) (p q : Play) → Holds p.view known → Holds q.view known → Holds (cond b p q).view known
if-play true known p q a b = a
if-play false known p q a b = b

discarded-holds : (number : ℕ) (draft : Option Draft) (play : Play) (known : Known) → Holds play.view known → Holds (discarded number draft play).view known
unfolding discarded
discarded-holds number None play known ok = ok
discarded-holds number (Some draft) play known ok =
    if-play draft.initial known (record play { view = tidy (removed draft.sess play.view) }) play (tidy-holds (removed draft.sess play.view) known (removed-holds draft.sess play.view known ok)) ok

leg-holds : (request : Option RequestView) (req : ReqId) (uri : Option Uri) (kept : Option Kept) (working : Working) → InTurn working
    → Holds (created_leg request working.play).view (drafts_leg req uri kept working).known
unfolding created_leg drafts_leg with_draft linked with_own_session writes
leg-holds None req uri None working ok = ok
leg-holds None req uri (Some kept) working ok = ok
leg-holds (Some request) req uri None working ok = ok
leg-holds (Some request) req uri (Some kept) working ok = ok

own-holds : (view : View) (known : Known) → Holds view known → Holds (with_own_session view) known
unfolding with_own_session
own-holds view known ok = ok

links-hold : (a b : SessId) (view : View) (known : Known) → Holds view known → Holds (linked a b view) known
unfolding linked
links-hold a b view known ok = ok

-- ## Sending

-- the view once a draft is sent
abbrev after_sent : View → Draft → View
after_sent view draft = record view { requests = view.requests ++ sent_view view draft ∷ []; next_request = view.next_request + 1; counter = view.counter + 1 }

sent-alone : (view : View) (draft : Draft) (known : Known) → Holds view known → Holds (after_sent view draft) known
sent-alone view draft known ok = appended-alone view (after_sent view draft) known (sent_view view draft) refl refl (sent-number view draft) (sent-held known.kept (sent_view view draft) (sent-own view draft)) ok

sent-with : (view : View) (draft : Draft) (known after : Known) (kept : Kept) → after.kept ≡ known.kept ++ kept ∷ [] → kept.id.0 ≡ view.next_request → Holds view known → Holds (after_sent view draft) after
sent-with view draft known after kept kepts own ok =
    appended view (after_sent view draft) known after (sent_view view draft) kept refl refl kepts (sent-number view draft) own (sent-held (known.kept ++ kept ∷ []) (sent_view view draft) (sent-own view draft)) ok

sends_in-holds : (config : Config) (draft : Draft) (ask : Inside) (dialog : Option DialogState) (working : Working) → InTurn working
    → Holds (after_sent working.play.view draft) (sends_in config draft.sess ask dialog working).known
unfolding sends_in sends_later keeps_sent change_leg
sends_in-holds config draft ask None working ok = sent-alone working.play.view draft working.known ok
sends_in-holds config draft ask (Some dialog) working ok = sent-with working.play.view draft working.known (sends_in config draft.sess ask (Some dialog) working).known (sent_kept working.play.view draft _) refl refl ok

sends_written-holds : (config : Config) (written : Written) (draft : Draft) (what : Asked) (working : Working) → InTurn working
    → Holds (after_sent working.play.view draft) (sends_written config written draft.sess what working).known
unfolding sends_written sends_initial keeps_sent change_leg
sends_written-holds config written draft (asked.Initial request) working ok =
    sent-with working.play.view draft working.known (sends_written config written draft.sess (asked.Initial request) working).known (sent_kept working.play.view draft _) refl refl ok
sends_written-holds config written draft (asked.Later ask) working ok = sends_in-holds config draft ask (dialog_in working.known draft.sess) working ok

sends-hold : (config : Config) (number : ℕ) (written : Option Written) (draft : Option Draft) (working : Working) → InTurn working
    → Holds (sent number draft working.play).view (sends config number written draft working).known
unfolding sends forgets sent
sends-hold config number (Some written) (Some draft) working ok = sends_written-holds config written draft written.asked working ok
sends-hold config number (Some written) None working ok = ok
sends-hold config number None None working ok = ok
sends-hold config number None (Some draft) working ok = sent-alone working.play.view draft working.known ok

-- ## Each call

acks-hold : (view : View) (config : Config) (sess : SessId) (body : Bytes) (request : Option RequestView) (working : Working) → Holds view working.known → Holds view (acknowledges config sess body request working).known
acks-hold view config sess body request working ok = rw (acknowledges-known config sess body request working) ok

accepted-holds : (config : Config) (working : Working) (call : Call) → InTurn working → Holds (after_call working.play call).view (does config working call).known
unfolding does after_call created created_later with_draft drafts_own drafts_later writes directs forgets cancels with_timer invalidates change_leg
accepted-holds config working (calls.Respond req answer) ok =
    answering-holds (answered (request_in working.play.view req) answer.code working.play.view) config (request_in working.play.view req) answer working (answered-holds (request_in working.play.view req) answer.code working.play.view working.known ok)
accepted-holds config working (calls.CreateRequest ask) ok = own-holds working.play.view working.known ok
accepted-holds config working (calls.CreateInDialog sess ask) ok = ok
accepted-holds config working (calls.B2bCreate req uri) ok = leg-holds (request_in working.play.view req) req uri (kept_of working.known req) working ok
accepted-holds config working (calls.SetDirective draft directive origin) ok = ok
accepted-holds config working (calls.Send draft) ok = sends-hold config draft _ (draft_in working.play draft) working ok
accepted-holds config working (calls.Discard draft) ok = discarded-holds draft (draft_in working.play draft) working.play working.known ok
accepted-holds config working (calls.Ack sess body) ok =
    acks-hold (acked sess working.play.view) config sess body (find (awaits_ack sess) working.play.view.requests) working (acked-holds sess working.play.view working.known ok)
accepted-holds config working (calls.Cancel req) ok = ok
accepted-holds config working (calls.ProxyTo req uris how) ok =
    known-same (proxied (request_in working.play.view req) (length uris) working.play.view) working.known (proxies req uris how working.known) (proxies-kept req uris how working.known)
    (proxied-holds (request_in working.play.view req) (length uris) working.play.view working.known ok)
accepted-holds config working (calls.ProxyCancel req) ok = ok
accepted-holds config working (calls.B2bRespond sess answer) ok =
    answering-holds (answered (begun_by working.play.view sess) answer.code working.play.view) config (begun_by working.play.view sess) answer working (answered-holds (begun_by working.play.view sess) answer.code working.play.view working.known ok)
accepted-holds config working (calls.Link a b) ok = links-hold a b working.play.view working.known ok
accepted-holds config working (calls.Unlink a) ok = shown-holds working.play.view (unlinked a working.play.view) working.known (unlinked-only a working.play.view) ok
accepted-holds config working (calls.StartTimer delay period info) ok = ok
accepted-holds config working (calls.CancelTimer id) ok = ok
accepted-holds config working (calls.SetAttribute name value) ok = ok
accepted-holds config working (calls.RemoveAttribute name) ok = ok
accepted-holds config working (calls.SetExpires minutes) ok = ok
accepted-holds config working (calls.SetReadyFlag target flag) ok = flagged-holds target flag working.play.view working.known ok
accepted-holds config working (calls.InvalidateSession sess) ok = invalidated-holds sess working.play.view working.known ok
accepted-holds config working calls.InvalidateApplication ok = ok

worked-by : (config : Config) (working : Working) (call : Call) (found : Option Refusal) → InTurn working → Holds (played_by working.play call found).view (does_by config working call found).known
unfolding does_by played_by
worked-by config working call None ok = accepted-holds config working call ok
worked-by config working call (Some refused) ok = ok

pub worked-holds : (config : Config) (working : Working) (call : Call) → InTurn working → InTurn (worked config working call)
unfolding worked after_listed
worked-holds config working call ok = worked-by config working call (refusal working.play call) ok

pub calls-hold : (made : List CallRecord) (config : Config) (working : Working) → InTurn working → InTurn (fold (λ working made. worked config working made.call) working made)
calls-hold [] config working ok = ok
calls-hold (m ∷ made) config working ok = calls-hold made config (worked config working m.call) (worked-holds config working m.call ok)
