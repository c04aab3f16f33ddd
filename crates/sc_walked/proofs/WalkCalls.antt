-- The calls of a turn keep each relation with the laws.
use Rattle.std.proofs.Common.{◌≡◌, ℕ, ◌+◌, Bool, true, false, Option, None, Some, List, [], ◌∷◌, refl}
use Rattle.std.specs.Prelude.{cond}
use Rattle.std.specs.List.{fold}
use Rattle.sc_value.specs.Lists.{change_first}
use Rattle.sc_value.specs.declared.ids.ReqId.{ReqId}
use Rattle.sc_value.specs.declared.ids.SessId.{SessId}
use Rattle.sc_value.specs.declared.message.Message.TheVariants as messages
use Rattle.sc_value.specs.declared.message.Request.{Request}
use Rattle.sc_value.specs.declared.parts.Uri.{Uri}
use Rattle.sc_terms.specs.declared.calls.Answer.{Answer}
use Rattle.sc_terms.specs.declared.calls.Call.{Call}
use Rattle.sc_terms.specs.declared.calls.Call.TheVariants as calls
use Rattle.sc_terms.specs.declared.calls.CallRecord.{CallRecord}
use Rattle.sc_terms.specs.declared.calls.Refusal.{Refusal}
use Rattle.sc_terms.specs.declared.calls.Target.{Target}
use Rattle.sc_terms.specs.declared.calls.Target.TheVariants as targets
use Rattle.sc_terms.specs.declared.inside.Inside.{Inside}
use Rattle.sc_terms.specs.declared.settings.Config.{Config}
use Rattle.sc_terms.specs.declared.views.RequestView.{RequestView}
use Rattle.sc_terms.specs.declared.views.View.{View}
use Rattle.sc_state.specs.declared.queue.Queued.{Queued}
use Rattle.sc_state.specs.declared.session.Kept.{Kept}
use Rattle.sc_state.specs.declared.session.Known.{Known}
use Rattle.sc_state.specs.declared.session.Leg.{Leg}
use Rattle.sc_state.specs.declared.session.Session.{Session}
use Rattle.sc_state.specs.declared.working.Asked.{Asked}
use Rattle.sc_state.specs.declared.working.Asked.TheVariants as asked
use Rattle.sc_state.specs.declared.working.Draft.{Draft}
use Rattle.sc_state.specs.declared.working.Play.{Play}
use Rattle.sc_state.specs.declared.working.Prepared.{Prepared}
use Rattle.sc_state.specs.declared.working.Working.{Working}
use Rattle.sc_state.specs.declared.working.Written.{Written}
use Rattle.sc_tokens.specs.Bytes.{Bytes}
use Rattle.sc_model.specs.Dialogs.{DialogState, By_self}
use Rattle.sc_hosts.specs.Branches.{without_search as stopped}
use Rattle.sc_hosts.specs.Effects.{first_play as begun, after_call, after_listed, played_by, play_with_initial as created, created_later, with_draft, play_with_request as sent, play_without_draft as discarded, view_with_ack as acked, without_session, with_timer, with_invalidation_flag as flagged}
use Rattle.sc_hosts.specs.Giving.{answering, writes, drafts_own, drafts_later, drafts_leg, directs, forgets}
use Rattle.sc_hosts.specs.Legs.{change_leg, in_dialog}
use Rattle.sc_hosts.specs.Looking.{without_sip_session as removed, request_in}
use Rattle.sc_hosts.specs.Preparing.{kept_of}
use Rattle.sc_hosts.specs.Refusals.{refusal, awaits_ack}
use Rattle.sc_hosts.specs.ViewChanges.{tidy, view_without as invalidated, settled_request, settled_requests}
use Rattle.sc_hosts.specs.Working.{starts, keeps_sent, sends_initial, sends_later, sends_in, sends_written, sends, ack_with, acknowledges, cancels, invalidates, effects_of_call as does, does_by, after_one_call as worked, worked_all}
use Rattle.sc_walked.proofs.WalkParts.{each-first, each-map, follow-same, if-is, same-request, session-walks, leg-walks, proxy-walks, tidy-walks, answered-walks}
use Rattle.sc_walked.proofs.WalkShown.{stopped-kept}
use Rattle.sc_walked.specs.SessionWalks.{AreDone, IsSameRequest, IsSameLeg, SessionLaws, with_legs, after_sent}

-- the session within a turn
abbrev pub session_at : Working → Session
session_at working = record { view = working.play.view; known = working.known }

without-same : (sess : SessId) (r : RequestView) → IsSameRequest r (without_session sess r)
unfolding without_session
without-same sess r = record { id = refl; sess = refl; method = refl; received = refl; initial = refl; proxied = refl }

settled-same : (sess : SessId) (code : ℕ) (r : RequestView) → IsSameRequest r (settled_request sess code r)
unfolding settled_request
settled-same sess code r =
    if-is (IsSameRequest r) _ (record r { answered = Some code }) r (record { id = refl; sess = refl; method = refl; received = refl; initial = refl; proxied = refl }) (same-request r)

dialog-leg : (request : Request) (leg : Leg) → IsSameLeg leg (in_dialog (By_self (messages.Request request)) leg)
unfolding in_dialog
dialog-leg request leg = record { id = refl; caller = refl }

pub answering-known : (config : Config) (found : Option RequestView) (answer : Answer) (working : Working)
    → (answering config found answer working).known ≡ working.known
unfolding answering
answering-known config None answer working = refl
answering-known config (Some request) answer working = refl

pub ack_with-known : (config : Config) (body : Bytes) (dialog : Option DialogState) (kept : Option Kept) (working : Working)
    → (ack_with config body dialog kept working).known ≡ working.known
unfolding ack_with
ack_with-known config body (Some dialog) (Some kept) working = refl
ack_with-known config body (Some dialog) None working = refl
ack_with-known config body None kept working = refl

pub acknowledges-known : (config : Config) (sess : SessId) (body : Bytes) (request : Option RequestView) (working : Working)
    → (acknowledges config sess body request working).known ≡ working.known
unfolding acknowledges
acknowledges-known config sess body None working = refl
acknowledges-known config sess body (Some request) working = ack_with-known config body _ _ working

drafts_leg-known : (req : ReqId) (uri : Option Uri) (kept : Option Kept) (working : Working)
    → (drafts_leg req uri kept working).known ≡ with_legs working.play.view kept working.known
unfolding drafts_leg writes with_legs
drafts_leg-known req uri None working = refl
drafts_leg-known req uri (Some kept) working = refl

module _ (event : Queued) (Does : Call → Type 0) (Q : Session → Session → Type 0) (law : SessionLaws event Does Q) where
  -- what is known is the same
  with-known : (x : Session) (view : View) (known : Known) → known ≡ x.known → Q x (record x { view = view })
      → Q x (record { view = view; known = known })
  with-known x view known same p = rw (same) p

  acked-walks : (x : Session) (sess : SessId) → Q x (record x { view = acked sess x.view })
  unfolding acked
  acked-walks x sess =
      let one : Session = record x { view = record x.view { counter = x.view.counter + 1 } } in
      let two : Session = record one { view = record one.view { requests = change_first (awaits_ack sess) (without_session sess) one.view.requests } } in
      law.after x one _ (law.counts x) (law.after one two _ (law.renews one _ (each-first IsSameRequest one.view.requests (awaits_ack sess) (without_session sess) same-request (without-same sess))) (tidy-walks event Does Q law two))

  removed-walks : (x : Session) (sess : SessId) → Q x (record x { view = tidy (removed sess x.view) })
  removed-walks x sess = law.after x (record x { view = removed sess x.view }) _ (law.removes x sess) (tidy-walks event Does Q law (record x { view = removed sess x.view }))

  if-play : (b : Bool) (x : Session) (p q : Play) → Q x (record x { view = p.view }) → Q x (record x { view = q.view })
      → Q x (record x { view = (cond b p q).view })
  if-play true x p q a b = a
  if-play false x p q a b = b

  discarded-walks : (number : ℕ) (draft : Option Draft) (working : Working)
      → Q (session_at working) (record (session_at working) { view = (discarded number draft working.play).view })
  unfolding discarded
  discarded-walks number None working = law.same (session_at working)
  discarded-walks number (Some draft) working =
      if-play draft.initial (session_at working) (record working.play { view = tidy (removed draft.sess working.play.view) }) working.play (removed-walks (session_at working) draft.sess) (law.same (session_at working))

  flagged-walks : (x : Session) (target : Target) (flag : Bool) → Q x (record x { view = flagged target flag x.view })
  unfolding flagged
  flagged-walks x targets.Application flag = law.flags x flag
  flagged-walks x (targets.Session sess) flag =
      session-walks event Does Q law x sess (λ s. record s { ready_flag = flag }) (λ s. record { id = refl; role = refl; call_id = refl; own_tag = refl; linked = refl; gone = refl; state = follow-same s.role s.state })

  invalidates-walks : (config : Config) (sess : SessId) (working : Working)
      → Q (session_at working) (record { view = invalidated sess working.play.view; known = (invalidates config sess working).known })
  unfolding invalidates invalidated settled_requests
  invalidates-walks config sess working =
      let x : Session = session_at working in
      let y : Session = record x { known = change_leg sess (λ leg. record leg { invalidated = true }) x.known } in
      let z : Session = record y { view = settled_requests sess 500 y.view } in
      law.after x y _ (leg-walks event Does Q law x sess (λ leg. record leg { invalidated = true }) (λ leg. record { id = refl; caller = refl }))
      (law.after y z _ (law.renews y _ (each-map IsSameRequest y.view.requests (settled_request sess 500) (settled-same sess 500))) (removed-walks z sess))

  -- ## Sending

  sends_in-walks : (config : Config) (draft : Draft) (ask : Inside) (dialog : Option DialogState) (working : Working)
      → Q (session_at working) (record { view = after_sent working.play.view draft; known = (sends_in config draft.sess ask dialog working).known })
  unfolding sends_in sends_later keeps_sent
  sends_in-walks config draft ask None working = law.sends_none (session_at working) draft
  sends_in-walks config draft ask (Some dialog) working =
      law.after (session_at working) _ _ (leg-walks event Does Q law (session_at working) draft.sess (in_dialog (By_self (messages.Request _))) (dialog-leg _)) (law.sends _ draft _)

  sends_written-walks : (config : Config) (written : Written) (draft : Draft) (what : Asked) (working : Working)
      → Q (session_at working) (record { view = after_sent working.play.view draft; known = (sends_written config written draft.sess what working).known })
  unfolding sends_written sends_initial keeps_sent
  sends_written-walks config written draft (asked.Initial request) working =
      let x : Session = session_at working in
      let y : Session = record x { known = change_leg draft.sess (λ leg. record leg { first = Some (record { 0 = working.play.view.next_request }) }) x.known } in
      law.after x y _ (leg-walks event Does Q law x draft.sess (λ leg. record leg { first = Some (record { 0 = working.play.view.next_request }) }) (λ leg. record { id = refl; caller = refl })) (law.sends y draft _)
  sends_written-walks config written draft (asked.Later ask) working = sends_in-walks config draft ask _ working

  sends-walks : (config : Config) (number : ℕ) (written : Option Written) (draft : Option Draft) (working : Working)
      → Q (session_at working) (record { view = (sent number draft working.play).view; known = (sends config number written draft working).known })
  unfolding sends forgets sent
  sends-walks config number (Some written) (Some draft) working = sends_written-walks config written draft written.asked working
  sends-walks config number (Some written) None working = law.same (session_at working)
  sends-walks config number None None working = law.same (session_at working)
  sends-walks config number None (Some draft) working = law.sends_none (session_at working) draft

  -- ## Each call

  accepted-walks : (config : Config) (working : Working) (call : Call) → refusal working.play call ≡ None → Does call
      → Q (session_at working) (record { view = (after_call working.play call).view; known = (does config working call).known })
  unfolding does after_call created created_later with_draft drafts_own drafts_later writes directs forgets cancels with_timer
  accepted-walks config working (calls.Respond req answer) is ok =
      with-known (session_at working) _ _ (answering-known config _ answer working) (answered-walks event Does Q law (session_at working) _ answer.code)
  accepted-walks config working (calls.CreateRequest ask) is ok = law.begins (session_at working)
  accepted-walks config working (calls.CreateInDialog sess ask) is ok = law.same (session_at working)
  accepted-walks config working (calls.B2bCreate req uri) is ok =
      leg-known _ _ _ (drafts_leg-known req uri (kept_of working.known req) working) (law.begins_leg working.play working.known req uri (request_in working.play.view req) (kept_of working.known req) is ok refl refl)
    where
      leg-known : (view : View) (known after : Known) → after ≡ known
          → Q (session_at working) (record { view = view; known = known })
          → Q (session_at working) (record { view = view; known = after })
      leg-known view known after same p = rw (same) p
  accepted-walks config working (calls.SetDirective draft directive origin) is ok = law.same (session_at working)
  accepted-walks config working (calls.Send draft) is ok = sends-walks config draft _ _ working
  accepted-walks config working (calls.Discard draft) is ok = discarded-walks draft _ working
  accepted-walks config working (calls.Ack sess body) is ok = with-known (session_at working) _ _ (acknowledges-known config sess body _ working) (acked-walks (session_at working) sess)
  accepted-walks config working (calls.Cancel req) is ok = law.same (session_at working)
  accepted-walks config working (calls.ProxyTo req uris how) is ok = law.turns working.play working.known req uris how _ is ok refl
  accepted-walks config working (calls.ProxyCancel req) is ok = proxy-walks event Does Q law (session_at working) req stopped stopped-kept
  accepted-walks config working (calls.B2bRespond sess answer) is ok =
      with-known (session_at working) _ _ (answering-known config _ answer working) (answered-walks event Does Q law (session_at working) _ answer.code)
  accepted-walks config working (calls.Link a b) is ok = law.links working.play working.known a b is ok
  accepted-walks config working (calls.Unlink a) is ok = law.unlinks (session_at working) a ok
  accepted-walks config working (calls.StartTimer delay period info) is ok = law.times (session_at working) _ _
  accepted-walks config working (calls.CancelTimer id) is ok = law.times (session_at working) _ working.play.view.next_timer
  accepted-walks config working (calls.SetAttribute name value) is ok = law.attributes (session_at working) _
  accepted-walks config working (calls.RemoveAttribute name) is ok = law.attributes (session_at working) _
  accepted-walks config working (calls.SetExpires minutes) is ok = law.expires (session_at working) _
  accepted-walks config working (calls.SetReadyFlag target flag) is ok = flagged-walks (session_at working) target flag
  accepted-walks config working (calls.InvalidateSession sess) is ok = invalidates-walks config sess working
  accepted-walks config working calls.InvalidateApplication is ok = law.same (session_at working)

  worked-by : (config : Config) (working : Working) (call : Call) (found : Option Refusal)
      → refusal working.play call ≡ found → (refusal working.play call ≡ None → Does call)
      → Q (session_at working) (record { view = (played_by working.play call found).view; known = (does_by config working call found).known })
  unfolding does_by played_by
  worked-by config working call None is ok = accepted-walks config working call is (ok is)
  worked-by config working call (Some refused) is ok = law.same (session_at working)

  worked-walks : (config : Config) (working : Working) (call : Call) → (refusal working.play call ≡ None → Does call)
      → Q (session_at working) (session_at (worked config working call))
  unfolding worked after_listed
  worked-walks config working call ok = worked-by config working call _ refl ok

  done-rest : (config : Config) (working : Working) (m : CallRecord) (made : List CallRecord)
      → AreDone Does working.play (m ∷ made) → AreDone Does (worked config working m.call).play made
  unfolding AreDone worked
  done-rest config working m made done = done.1

  done-first : (working : Working) (m : CallRecord) (made : List CallRecord) → AreDone Does working.play (m ∷ made)
      → refusal working.play m.call ≡ None → Does m.call
  unfolding AreDone
  done-first working m made done = done.0

  calls-walk : (made : List CallRecord) (config : Config) (x : Session) (working : Working)
      → AreDone Does working.play made → Q x (session_at working)
      → Q x (session_at (fold (λ working made. worked config working made.call) working made))
  calls-walk [] config x working done p = p
  calls-walk (m ∷ made) config x working done p = calls-walk made config x (worked config working m.call) (done-rest config working m made done) (law.after x (session_at working) _ p (worked-walks config working m.call (done-first working m made done)))

  pub worked_all-walks : (config : Config) (x : Session) (shown : Prepared) (made : List CallRecord)
      → AreDone Does (begun shown.view) made → Q x (record { view = shown.view; known = shown.known })
      → Q x (session_at (worked_all config shown made))
  unfolding worked_all starts begun
  worked_all-walks config x shown made done p = calls-walk made config x (starts shown) done p
