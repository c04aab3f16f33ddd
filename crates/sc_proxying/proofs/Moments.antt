-- The moment that a turn shows stays what it is, through its calls and up to what proxies do.
use Rattle.std.proofs.Common.{◌≡◌, ℕ, Bool, true, false, Option, None, Some, List, [], ◌∷◌, refl, ap, ◌∙◌}
use Rattle.std.specs.Prelude.{cond, not, ◌&&◌}
use Rattle.std.specs.List.{fold}
use Rattle.sc_value.specs.declared.ids.ReqId.{ReqId}
use Rattle.sc_value.specs.declared.ids.SessId.{SessId}
use Rattle.sc_terms.specs.declared.calls.Call.{Call}
use Rattle.sc_terms.specs.declared.calls.Call.TheVariants as calls
use Rattle.sc_terms.specs.declared.calls.CallRecord.{CallRecord}
use Rattle.sc_terms.specs.declared.calls.End.{End}
use Rattle.sc_terms.specs.declared.calls.End.TheVariants as ends
use Rattle.sc_terms.specs.declared.calls.Refusal.{Refusal}
use Rattle.sc_terms.specs.declared.calls.Target.{Target}
use Rattle.sc_terms.specs.declared.calls.Target.TheVariants as targets
use Rattle.sc_terms.specs.declared.settings.Config.{Config}
use Rattle.sc_terms.specs.declared.views.RequestView.{RequestView}
use Rattle.sc_terms.specs.declared.views.View.{View}
use Rattle.sc_state.specs.declared.proxy.Proxy.{Proxy}
use Rattle.sc_state.specs.declared.session.Known.{Known}
use Rattle.sc_state.specs.declared.working.Draft.{Draft}
use Rattle.sc_state.specs.declared.working.Play.{Play}
use Rattle.sc_state.specs.declared.working.Prepared.{Prepared}
use Rattle.sc_state.specs.declared.working.Working.{Working}
use Rattle.sc_model.specs.BestResponses.{server_error}
use Rattle.sc_hosts.specs.Acting.{drafts_ended, fault_at, after_fault as faulted, in_view, without_left}
use Rattle.sc_hosts.specs.Effects.{view_with_ack as acked, after_call, after_listed, first_play as begun, play_with_initial as created, created_later, created_leg, play_without_draft as discarded, with_invalidation_flag as flagged, played_by, view_with_targets as proxied, play_with_request as sent, with_draft, with_timer}
use Rattle.sc_hosts.specs.Giving.{answering}
use Rattle.sc_hosts.specs.Looking.{without_sip_session as removed, without_link as unlinked}
use Rattle.sc_hosts.specs.Messages.{bare_answer}
use Rattle.sc_hosts.specs.Refusals.{refusal}
use Rattle.sc_hosts.specs.ViewChanges.{view_with_answer as answered, answered_in, view_without as invalidated, is_owed, with_link as linked, settled_requests, tidy, with_own_session}
use Rattle.sc_hosts.specs.Working.{starts, after_one_call as worked, worked_all}
use Rattle.sc_walked.proofs.WalkCalls.{answering-known}
use Rattle.sc_lasting.proofs.Parts.{removed-only, unlinked-only}

unlinked-now : (sess : SessId) (view : View) → (unlinked sess view).now ≡ view.now
unlinked-now sess view = ap (λ (v : View). v.now) (unlinked-only sess view)

removed-now : (sess : SessId) (view : View) → (removed sess view).now ≡ view.now
removed-now sess view = ap (λ (v : View). v.now) (removed-only sess view)

answered-now : (request : Option RequestView) (code : ℕ) (view : View) → (answered request code view).now ≡ view.now
unfolding answered answered_in tidy
answered-now None code view = refl
answered-now (Some request) code view = refl

proxied-now : (request : Option RequestView) (count : ℕ) (view : View) → (proxied request count view).now ≡ view.now
unfolding proxied
proxied-now None count view = refl
proxied-now (Some request) count view = refl

flagged-now : (target : Target) (flag : Bool) (view : View) → (flagged target flag view).now ≡ view.now
unfolding flagged
flagged-now targets.Application flag view = refl
flagged-now (targets.Session sess) flag view = refl

ended-now : (sess : SessId) (view : View) → (invalidated sess view).now ≡ view.now
unfolding invalidated settled_requests tidy
ended-now sess view = removed-now sess (settled_requests sess 500 view)

leg-now : (request : Option RequestView) (play : Play) → (created_leg request play).view.now ≡ play.view.now
unfolding created_leg with_draft linked with_own_session
leg-now None play = refl
leg-now (Some request) play = refl

sent-now : (number : ℕ) (draft : Option Draft) (play : Play) → (sent number draft play).view.now ≡ play.view.now
unfolding sent
sent-now number None play = refl
sent-now number (Some draft) play = refl

discarded-now : (number : ℕ) (draft : Option Draft) (play : Play) → (discarded number draft play).view.now ≡ play.view.now
unfolding discarded tidy
discarded-now number None play = refl
discarded-now number (Some draft) play = by draft.initial
  where
    by : (b : Bool) → (cond b (record play { view = tidy (removed draft.sess play.view) }) play).view.now ≡ play.view.now
    by true = removed-now draft.sess play.view
    by false = refl

call-now : (play : Play) (call : Call) → (after_call play call).view.now ≡ play.view.now
unfolding after_call created created_later with_draft with_own_session with_timer linked acked tidy
call-now play (calls.Respond req answer) = answered-now _ answer.code play.view
call-now play (calls.CreateRequest ask) = refl
call-now play (calls.CreateInDialog sess ask) = refl
call-now play (calls.B2bCreate req uri) = leg-now _ play
call-now play (calls.SetDirective draft directive origin) = refl
call-now play (calls.Send draft) = sent-now draft _ play
call-now play (calls.Discard draft) = discarded-now draft _ play
call-now play (calls.Ack sess body) = refl
call-now play (calls.Cancel req) = refl
call-now play (calls.ProxyTo req uris how) = proxied-now _ _ play.view
call-now play (calls.ProxyCancel req) = refl
call-now play (calls.B2bRespond sess answer) = answered-now _ answer.code play.view
call-now play (calls.Link a b) = refl
call-now play (calls.Unlink a) = unlinked-now a play.view
call-now play (calls.StartTimer delay period info) = refl
call-now play (calls.CancelTimer id) = refl
call-now play (calls.SetAttribute name value) = refl
call-now play (calls.RemoveAttribute name) = refl
call-now play (calls.SetExpires minutes) = refl
call-now play (calls.SetReadyFlag target flag) = flagged-now target flag play.view
call-now play (calls.InvalidateSession sess) = ended-now sess play.view
call-now play calls.InvalidateApplication = refl

played-now : (play : Play) (call : Call) (found : Option Refusal) → (played_by play call found).view.now ≡ play.view.now
unfolding played_by
played-now play call None = call-now play call
played-now play call (Some refused) = refl

worked-now : (config : Config) (working : Working) (call : Call) → (worked config working call).play.view.now ≡ working.play.view.now
unfolding worked after_listed
worked-now config working call = played-now working.play call (refusal working.play call)

calls-now : (made : List CallRecord) (config : Config) (working : Working)
    → (fold (λ working made. worked config working made.call) working made).play.view.now ≡ working.play.view.now
calls-now [] config working = refl
calls-now (m ∷ made) config working = calls-now made config (worked config working m.call) ∙ worked-now config working m.call

given-now : (config : Config) (shown : Prepared) (made : List CallRecord) → (worked_all config shown made).play.view.now ≡ shown.view.now
unfolding worked_all starts begun
given-now config shown made = calls-now made config (starts shown)

-- ## What follows the calls

left-now : (view : View) (draft : Draft) → (without_left view draft).now ≡ view.now
unfolding without_left
left-now view draft = by draft.initial
  where
    by : (b : Bool) → (cond b (removed draft.sess view) view).now ≡ view.now
    by true = removed-now draft.sess view
    by false = refl

lefts-now : (drafts : List Draft) (view : View) → (fold without_left view drafts).now ≡ view.now
lefts-now [] view = refl
lefts-now (draft ∷ drafts) view = lefts-now drafts (without_left view draft) ∙ left-now view draft

drafts-now : (working : Working) → (drafts_ended working).play.view.now ≡ working.play.view.now
unfolding drafts_ended tidy
drafts-now working = lefts-now working.play.drafts working.play.view

if-now : (b : Bool) (x y : Working) (now : ℕ) → x.play.view.now ≡ now → y.play.view.now ≡ now → (cond b x y).play.view.now ≡ now
if-now true x y now p q = p
if-now false x y now p q = q

fault_at-now : (config : Config) (request : Option RequestView) (working : Working) → (fault_at config request working).play.view.now ≡ working.play.view.now
unfolding fault_at
fault_at-now config None working = refl
fault_at-now config (Some request) working =
    if-now (is_owed request && not request.proxied) (in_view (answered (Some request) 500 working.play.view) (answering config (Some request) (bare_answer 500 server_error) working)) working working.play.view.now
    (answered-now (Some request) 500 working.play.view) refl

faulted-now : (config : Config) (req : Option ReqId) (end : End) (working : Working) → (faulted config req end working).play.view.now ≡ working.play.view.now
unfolding faulted
faulted-now config req ends.Fine working = refl
faulted-now config req ends.Fault working = fault_at-now config _ working
faulted-now config req ends.Starved working = refl

-- as proxies begin to act
pub acting-now : (config : Config) (shown : Prepared) (made : List CallRecord) (req : Option ReqId) (end : End)
    → (faulted config req end (drafts_ended (worked_all config shown made))).play.view.now ≡ shown.view.now
acting-now config shown made req end =
    faulted-now config req end (drafts_ended (worked_all config shown made)) ∙ drafts-now (worked_all config shown made) ∙ given-now config shown made

-- ## What is proxied stays so until proxies act

if-proxies : (b : Bool) (x y : Working) (all : List Proxy) → x.known.proxies ≡ all → y.known.proxies ≡ all → (cond b x y).known.proxies ≡ all
if-proxies true x y all p q = p
if-proxies false x y all p q = q

fault_at-same : (config : Config) (request : Option RequestView) (working : Working) → (fault_at config request working).known.proxies ≡ working.known.proxies
unfolding fault_at
fault_at-same config None working = refl
fault_at-same config (Some request) working =
    if-proxies (is_owed request && not request.proxied) (in_view (answered (Some request) 500 working.play.view) (answering config (Some request) (bare_answer 500 server_error) working)) working working.known.proxies
    (ap (λ (known : Known). known.proxies) (answering-known config (Some request) (bare_answer 500 server_error) working)) refl

pub acting-same : (config : Config) (req : Option ReqId) (end : End) (working : Working)
    → (faulted config req end (drafts_ended working)).known.proxies ≡ working.known.proxies
unfolding faulted drafts_ended
acting-same config req ends.Fine working = refl
acting-same config req ends.Fault working = fault_at-same config _ (drafts_ended working)
acting-same config req ends.Starved working = refl
