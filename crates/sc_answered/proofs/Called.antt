-- What the calls of a turn make of the states of SipSessions, by the answers that they give.
use Rattle.std.proofs.Common.{ℕ, Bool, true, Option, None, Some, List, [], ◌∷◌, refl, ◌∙◌}
use Rattle.std.specs.Prelude.{length}
use Rattle.std.specs.List.{fold}
use Rattle.sc_value.specs.declared.ids.SessId.{SessId}
use Rattle.sc_terms.specs.declared.calls.Call.{Call}
use Rattle.sc_terms.specs.declared.calls.Call.TheVariants as calls
use Rattle.sc_terms.specs.declared.calls.CallRecord.{CallRecord}
use Rattle.sc_terms.specs.declared.calls.Refusal.{Refusal}
use Rattle.sc_terms.specs.declared.calls.Target.{Target}
use Rattle.sc_terms.specs.declared.calls.Target.TheVariants as targets
use Rattle.sc_terms.specs.declared.settings.Config.{Config}
use Rattle.sc_terms.specs.declared.views.RequestView.{RequestView}
use Rattle.sc_terms.specs.declared.views.SessionView.{SessionView}
use Rattle.sc_terms.specs.declared.views.Role.TheVariants as roles
use Rattle.sc_terms.specs.declared.views.View.{View}
use Rattle.sc_state.specs.declared.working.Draft.{Draft}
use Rattle.sc_state.specs.declared.working.Play.{Play}
use Rattle.sc_state.specs.declared.working.Prepared.{Prepared}
use Rattle.sc_state.specs.declared.working.Working.{Working}
use Rattle.sc_hosts.specs.Effects.{view_with_ack as acked, after_call, after_listed, first_play as begun, play_with_initial as created, created_later, created_leg, play_without_draft as discarded, with_invalidation_flag as flagged, played_by, view_with_targets as proxied, proxying, play_with_request as sent, with_draft, with_timer}
use Rattle.sc_hosts.specs.Looking.{is_proxy, is_session, linked_to, without_sip_session as removed, request_in, without_link as unlinked}
use Rattle.sc_hosts.specs.RefusalParts.{draft_in}
use Rattle.sc_hosts.specs.Refusals.{begun_by, refusal}
use Rattle.sc_hosts.specs.ViewChanges.{view_without as invalidated, with_link as linked, new_session, own_session, settled_requests, tidy, with_own_session}
use Rattle.sc_hosts.specs.Working.{starts, after_one_call as worked, worked_all}
use Rattle.sc_walked.proofs.WalkParts.{each-first, if-is}
use Rattle.sc_lasting.proofs.Parts.{linked-each, removed-each, unlinked-each}
use Rattle.sc_answered.specs.Happened.{by_calls as given, given_by, given_if}
use Rattle.sc_answered.proofs.Standing.{Comes, IsKept, comes-each, comes-more, comes-next, comes-same, comes-then, if-still}
use Rattle.sc_answered.proofs.Shown.{comes-answer, kept}

-- ## SipSessions that are kept

kept-then : (r s t : SessionView) → IsKept r s → IsKept s t → IsKept r t
kept-then r s t p q = record { id = q.id ∙ p.id; state = q.state ∙ p.state }

kept-links : (other : Option SessId) (s : SessionView) → IsKept s (linked_to other s)
unfolding linked_to
kept-links other s = record { id = refl; state = refl }

kept-goes : (s : SessionView) → IsKept s (record s { gone = true })
kept-goes s = record { id = refl; state = refl }

kept-proxying : (s : SessionView) → IsKept s (proxying s)
unfolding proxying
kept-proxying s = if-is (IsKept s) (is_proxy s.role) s (record s { role = roles.Proxy; peer_tag = None }) (kept s) (record { id = refl; state = refl })

pub comes-removed : (sess : SessId) (view : View) → Comes [] view.sessions (removed sess view).sessions
comes-removed sess view = comes-each view.sessions (removed sess view).sessions (removed-each IsKept kept kept-then kept-links kept-goes sess view)

comes-unlinked : (sess : SessId) (view : View) → Comes [] view.sessions (unlinked sess view).sessions
comes-unlinked sess view = comes-each view.sessions (unlinked sess view).sessions (unlinked-each IsKept kept kept-then kept-links kept-goes sess view)

comes-linked : (a b : SessId) (view : View) → Comes [] view.sessions (linked a b view).sessions
comes-linked a b view = comes-each view.sessions (linked a b view).sessions (linked-each IsKept kept kept-then kept-links kept-goes a b view)

comes-own : (view : View) → Comes [] view.sessions (with_own_session view).sessions
unfolding with_own_session own_session
comes-own view = comes-more view.sessions (own_session view) refl refl

-- ## Each call

leg-comes : (request : Option RequestView) (play : Play) → Comes [] play.view.sessions (created_leg request play).view.sessions
unfolding created_leg with_draft
leg-comes None play = comes-same play.view.sessions
leg-comes (Some request) play =
    let own : View = with_own_session play.view in
    comes-next [] play.view.sessions own.sessions (linked request.sess (new_session play.view) own).sessions (comes-own play.view) (comes-linked request.sess (new_session play.view) own)

sent-comes : (number : ℕ) (draft : Option Draft) (play : Play) → Comes [] play.view.sessions (sent number draft play).view.sessions
unfolding sent
sent-comes number None play = comes-same play.view.sessions
sent-comes number (Some draft) play = comes-same play.view.sessions

discarded-comes : (number : ℕ) (draft : Option Draft) (play : Play) → Comes [] play.view.sessions (discarded number draft play).view.sessions
unfolding discarded tidy
discarded-comes number None play = comes-same play.view.sessions
discarded-comes number (Some draft) play =
    if-still (λ (p : Play). p.view.sessions) draft.initial play.view.sessions (record play { view = tidy (removed draft.sess play.view) }) play (comes-removed draft.sess play.view) (comes-same play.view.sessions)

proxied-comes : (request : Option RequestView) (count : ℕ) (view : View) → Comes [] view.sessions (proxied request count view).sessions
unfolding proxied
proxied-comes None count view = comes-same view.sessions
proxied-comes (Some request) count view = comes-each view.sessions _ (each-first IsKept view.sessions (is_session request.sess) proxying kept kept-proxying)

flagged-comes : (target : Target) (flag : Bool) (view : View) → Comes [] view.sessions (flagged target flag view).sessions
unfolding flagged
flagged-comes targets.Application flag view = comes-same view.sessions
flagged-comes (targets.Session sess) flag view =
    comes-each view.sessions _ (each-first IsKept view.sessions (is_session sess) (λ s. record s { ready_flag = flag }) kept (λ s. record { id = refl; state = refl }))

invalidated-comes : (sess : SessId) (view : View) → Comes [] view.sessions (invalidated sess view).sessions
unfolding invalidated settled_requests tidy
invalidated-comes sess view = comes-removed sess (settled_requests sess 500 view)

accepted-comes : (play : Play) (call : Call) → Comes (given_by play call) play.view.sessions (after_call play call).view.sessions
unfolding given_by after_call created created_later with_draft acked tidy with_timer
accepted-comes play (calls.Respond req answer) = comes-answer play.view (request_in play.view req) answer.code
accepted-comes play (calls.CreateRequest ask) = comes-own play.view
accepted-comes play (calls.CreateInDialog sess ask) = comes-same play.view.sessions
accepted-comes play (calls.B2bCreate req uri) = leg-comes (request_in play.view req) play
accepted-comes play (calls.SetDirective draft directive origin) = comes-same play.view.sessions
accepted-comes play (calls.Send draft) = sent-comes draft (draft_in play draft) play
accepted-comes play (calls.Discard draft) = discarded-comes draft (draft_in play draft) play
accepted-comes play (calls.Ack sess body) = comes-same play.view.sessions
accepted-comes play (calls.Cancel req) = comes-same play.view.sessions
accepted-comes play (calls.ProxyTo req uris how) = proxied-comes (request_in play.view req) (length uris) play.view
accepted-comes play (calls.ProxyCancel req) = comes-same play.view.sessions
accepted-comes play (calls.B2bRespond sess answer) = comes-answer play.view (begun_by play.view sess) answer.code
accepted-comes play (calls.Link a b) = comes-linked a b play.view
accepted-comes play (calls.Unlink a) = comes-unlinked a play.view
accepted-comes play (calls.StartTimer delay period info) = comes-same play.view.sessions
accepted-comes play (calls.CancelTimer id) = comes-same play.view.sessions
accepted-comes play (calls.SetAttribute name value) = comes-same play.view.sessions
accepted-comes play (calls.RemoveAttribute name) = comes-same play.view.sessions
accepted-comes play (calls.SetExpires minutes) = comes-same play.view.sessions
accepted-comes play (calls.SetReadyFlag target flag) = flagged-comes target flag play.view
accepted-comes play (calls.InvalidateSession sess) = invalidated-comes sess play.view
accepted-comes play calls.InvalidateApplication = comes-same play.view.sessions

listed-by : (play : Play) (call : Call) (found : Option Refusal) → Comes (given_if play call found) play.view.sessions (played_by play call found).view.sessions
unfolding given_if played_by
listed-by play call None = accepted-comes play call
listed-by play call (Some refused) = comes-same play.view.sessions

listed-comes : (play : Play) (call : Call) → Comes (given_if play call (refusal play call)) play.view.sessions (after_listed play call).view.sessions
unfolding after_listed
listed-comes play call = listed-by play call (refusal play call)

calls-come : (made : List CallRecord) (config : Config) (working : Working)
    → Comes (given working.play made) working.play.view.sessions (fold (λ working made. worked config working made.call) working made).play.view.sessions
unfolding given worked
calls-come [] config working = comes-same working.play.view.sessions
calls-come (m ∷ made) config working =
    let next : Working = worked config working m.call in
    comes-then (given_if working.play m.call (refusal working.play m.call)) (given (after_listed working.play m.call) made) working.play.view.sessions (after_listed working.play m.call).view.sessions
    (fold (λ working made. worked config working made.call) next made).play.view.sessions (listed-comes working.play m.call) (calls-come made config next)

-- all calls of a turn
pub worked-comes : (config : Config) (shown : Prepared) (made : List CallRecord)
    → Comes (given (begun shown.view) made) shown.view.sessions (worked_all config shown made).play.view.sessions
unfolding worked_all starts begun
worked-comes config shown made = calls-come made config (starts shown)
