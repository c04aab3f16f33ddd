-- What a session proxies came, under its number.
use Rattle.std.proofs.Common.{◌≡◌, ℕ, ◌+◌, ◌==◌, Bool, true, false, Option, None, Some, List, [], ◌∷◌, refl, sym, subst, ◌∙◌}
use Rattle.std.specs.Prelude.{◌&&◌, ◌||◌, cond, is_none, is_some, length, not, option_and_then}
use Rattle.std.specs.List.{find, fold, list_any}
use Rattle.sc_tokens.specs.Names.{same_bytes}
use Rattle.sc_value.specs.declared.ids.ReqId.{ReqId}
use Rattle.sc_value.specs.declared.ids.SessId.{SessId}
use Rattle.sc_value.specs.declared.message.Response.{Response}
use Rattle.sc_value.specs.declared.parts.Uri.{Uri}
use Rattle.sc_value.specs.Lists.{change_first}
use Rattle.sc_terms.specs.declared.calls.Answer.{Answer}
use Rattle.sc_terms.specs.declared.calls.Call.{Call}
use Rattle.sc_terms.specs.declared.calls.Call.TheVariants as calls
use Rattle.sc_terms.specs.declared.calls.CallRecord.{CallRecord}
use Rattle.sc_terms.specs.declared.calls.End.{End}
use Rattle.sc_terms.specs.declared.calls.End.TheVariants as ends
use Rattle.sc_terms.specs.declared.calls.ProxyOptions.{ProxyOptions}
use Rattle.sc_terms.specs.declared.calls.Refusal.{Refusal}
use Rattle.sc_terms.specs.declared.inside.Inside.{Inside}
use Rattle.sc_terms.specs.declared.settings.Config.{Config}
use Rattle.sc_terms.specs.declared.views.RequestView.{RequestView}
use Rattle.sc_state.specs.declared.proxy.Proxy.{Proxy}
use Rattle.sc_state.specs.declared.queue.Queued.{Queued}
use Rattle.sc_state.specs.declared.queue.Queued.TheVariants as queued
use Rattle.sc_state.specs.declared.queue.Waiting.{Waiting}
use Rattle.sc_state.specs.declared.session.Invited.{Invited}
use Rattle.sc_state.specs.declared.session.Kept.{Kept}
use Rattle.sc_state.specs.declared.session.Known.{Known}
use Rattle.sc_state.specs.declared.session.Session.{Session}
use Rattle.sc_state.specs.declared.working.Asked.{Asked}
use Rattle.sc_state.specs.declared.working.Asked.TheVariants as asked
use Rattle.sc_state.specs.declared.working.Draft.{Draft}
use Rattle.sc_state.specs.declared.working.Play.{Play}
use Rattle.sc_state.specs.declared.working.Prepared.{Prepared}
use Rattle.sc_state.specs.declared.working.Working.{Working}
use Rattle.sc_state.specs.declared.working.Written.{Written}
use Rattle.sc_tokens.specs.Bytes.{Bytes}
use Rattle.sc_model.specs.Dialogs.{DialogState}
use Rattle.sc_model.specs.SessionStates.{ack, is_final}
use Rattle.sc_model.specs.Transactions.{is_success}
use Rattle.sc_hosts.specs.Acting.{after_fault as faulted, fault_at, hops_spent, is_request_event, passed_later, passed_on, passed_request_of, passes_later, sent_proxy}
use Rattle.sc_hosts.specs.Branches.{added_targets, after_end, ended_branch, ended_by, proxy_after_response as heard, is_invite, is_supervised, new_proxy, passing_on, after_ringing as rung, without_search as stopped, to_cancel, with_candidate, with_targets}
use Rattle.sc_hosts.specs.Finishing.{is_ended, without_unneeded as lightened, outcome_of, session_in_play, swept}
use Rattle.sc_hosts.specs.Giving.{answering, directs, drafts_later, drafts_leg, drafts_own, forgets, is_written, writes}
use Rattle.sc_hosts.specs.Legs.{FIRST_SESSION, change_leg, session_for}
use Rattle.sc_hosts.specs.Looking.{is_request, request_in, same_request, session_in, timer_in}
use Rattle.sc_hosts.specs.Preparing.{cancelled_proxy, cancelled_request, is_invited, kept_of, prepared_session as prepared, prepared_branch_timer, prepared_cancel, prepared_for, proxy_of, prepared_end as terminated, timed_out}
use Rattle.sc_hosts.specs.PreparingRequests.{showing, showing_in, silent}
use Rattle.sc_hosts.specs.PreparingResponses.{branch_placed, change_proxy, heard_in, prepared_branch, prepared_response}
use Rattle.sc_hosts.specs.RefusalParts.{draft_in}
use Rattle.sc_hosts.specs.Refusals.{awaits_ack, begun_by, refusal}
use Rattle.sc_hosts.specs.ViewChanges.{is_owed}
use Rattle.sc_hosts.specs.Working.{ack_with, acknowledges, cancels, dialog_in, effects_of_call as does, does_by, event_of, invalidates, keeps_sent, proxies, proxies_first, sends, sends_in, sends_initial, sends_later, sends_written, after_one_call as worked}
use Rattle.sc_walked.proofs.WalkCalls.{answering-known}
use Rattle.sc_lasting.specs.Lasting.{All}
use Rattle.sc_lasting.proofs.ShownProxies.{branch-same, expiry-same, own-same, received-same, request-same, terminated-same, timer-same}
use Rattle.sc_lasting.proofs.Began.{none-proxied, proxied-first, proxied-is, same-number, test-found}
use Rattle.sc_lasting.proofs.Parts.{all-append, all-first, all-found}
use Rattle.sc_replies.specs.Came.{Came}
use Rattle.sc_replies.proofs.ShownCame.{AllCame, HasCome, IsCome}

-- ## A proxied request keeps its number

if-req : (b : Bool) (p q : Proxy) (req : ReqId) → p.req ≡ req → q.req ≡ req → (cond b p q).req ≡ req
if-req true p q req a b = a
if-req false p q req a b = b

stopped-req : (p : Proxy) → (stopped p).req ≡ p.req
unfolding stopped
stopped-req p = refl

cancel-req : (branch : ℕ) (p : Proxy) → (to_cancel branch p).req ≡ p.req
unfolding to_cancel
cancel-req branch p = refl

targets-req : (uris : List Uri) (p : Proxy) → (with_targets uris p).req ≡ p.req
unfolding with_targets
targets-req uris p = refl

candidate-req : (response : Response) (p : Proxy) → (with_candidate response p).req ≡ p.req
unfolding with_candidate
candidate-req response p = if-req (is_success response.code || not (length (added_targets p response) == 0)) p _ p.req refl refl

branch-req : (branch code : ℕ) (p : Proxy) → (ended_branch branch code p).req ≡ p.req
unfolding ended_branch
branch-req branch code p = refl

passing-req : (sess : SessId) (response : Response) (p : Proxy) → (passing_on sess response p).req ≡ p.req
unfolding passing_on
passing-req sess response p = refl

ended-req : (branch : ℕ) (sess : SessId) (response : Response) (p : Proxy) → (ended_by branch sess response p).req ≡ p.req
unfolding ended_by
ended-req branch sess response p =
    let two : Proxy = with_candidate response (ended_branch branch response.code p) in
    let ended : Proxy = with_targets (added_targets p response) two in
    let is : ended.req ≡ p.req = targets-req (added_targets p response) two ∙ candidate-req response (ended_branch branch response.code p) ∙ branch-req branch response.code p in
    if-req (is_success response.code) _ _ p.req (passing-req sess response (stopped ended) ∙ stopped-req ended ∙ is) (if-req _ (stopped ended) ended p.req (stopped-req ended ∙ is) is)

after-req : (sess : SessId) (response : Response) (p : Proxy) → (after_end sess response p).req ≡ p.req
unfolding after_end
after-req sess response p = if-req (is_success response.code) _ p p.req (passing-req sess response (stopped p) ∙ stopped-req p) refl

rung-req : (branch now : ℕ) (p : Proxy) → (rung branch now p).req ≡ p.req
unfolding rung
rung-req branch now p = refl

heard-req : (branch : ℕ) (sess : SessId) (response : Response) (now : ℕ) (p : Proxy) → (heard branch sess response now p).req ≡ p.req
unfolding heard
heard-req branch sess response now p =
    if-req _ (after_end sess response p) _ p.req (after-req sess response p)
    (if-req (is_final response.code) (ended_by branch sess response p) (passing_on sess response (rung branch now p)) p.req (ended-req branch sess response p) (passing-req sess response (rung branch now p) ∙ rung-req branch now p))

-- ## All of them came

-- it came
abbrev pub ProxyCame : List Came → Proxy → Type 0
ProxyCame came proxy = HasCome came proxy.req.0

abbrev pub ProxiesCame : List Came → Known → Type 0
ProxiesCame came known = All (ProxyCame came) known.proxies

module _ (came : List Came) where
  same-came : (p q : Proxy) → q.req ≡ p.req → ProxyCame came p → ProxyCame came q
  same-came p q is has = subst (λ (req : ReqId). HasCome came req.0) (sym is) has

  change-came : (req : ReqId) (change : Proxy → Proxy) (all : List Proxy) → ((p : Proxy) → (change p).req ≡ p.req) → All (ProxyCame came) all
      → All (ProxyCame came) (change_first (λ p. same_request p.req req) change all)
  change-came req change all each has = all-first (ProxyCame came) (λ p. same_request p.req req) change all (λ p found. same-came p (change p) (each p)) has

  by-same : (xs ys : List Proxy) → ys ≡ xs → All (ProxyCame came) xs → All (ProxyCame came) ys
  by-same xs ys is has = subst (λ (ps : List Proxy). All (ProxyCame came) ps) (sym is) has

  -- ## What an event makes of them

  if-shown : (b : Bool) (y z : Prepared) → ProxiesCame came y.known → ProxiesCame came z.known → ProxiesCame came (cond b y z).known
  if-shown true y z p q = p
  if-shown false y z p q = q

  heard_in-came : (proxy : Proxy) (branch : ℕ) (response : Response) (at : SessId × Session) → ProxiesCame came at.1.known → ProxiesCame came (heard_in proxy branch response at).known
  unfolding heard_in showing_in silent change_leg
  heard_in-came proxy branch response (sess, y) has =
      let after = change-came proxy.req (heard branch sess response y.view.now) y.known.proxies (heard-req branch sess response y.view.now) has in
      if-shown _ _ _ after after

  branch-came : (x : Session) (proxy : Proxy) (branch : ℕ) (response : Response) → ProxiesCame came x.known → ProxiesCame came (prepared_branch x proxy branch response).known
  unfolding prepared_branch silent
  branch-came x proxy branch response has =
      let at : SessId × Session = branch_placed x proxy response (session_in x.view proxy.sess) in
      if-shown _ _ (heard_in proxy branch response at) has (heard_in-came proxy branch response at (by-same x.known.proxies at.1.known.proxies (branch-same x proxy response (session_in x.view proxy.sess)) has))

  response-came : (x : Session) (branch : ℕ) (response : Response) (kept : Option Kept) (proxy : Option Proxy) → ProxiesCame came x.known
      → ProxiesCame came (prepared_response x branch response kept proxy).known
  unfolding prepared_response silent
  response-came x branch response (Some kept) proxy has = by-same x.known.proxies _ (own-same x kept response (request_in x.view kept.id)) has
  response-came x branch response None (Some proxy) has = branch-came x proxy branch response has
  response-came x branch response None None has = has

  stop-came : (x : Session) (invited : Invited) (proxy : Option Proxy) → ProxiesCame came x.known → ProxiesCame came (cancelled_proxy x invited proxy).known
  unfolding cancelled_proxy showing_in silent
  stop-came x invited None has = has
  stop-came x invited (Some proxy) has =
      let after = change-came proxy.req stopped x.known.proxies stopped-req has in
      if-shown (is_supervised proxy) _ _ after after

  cancelled-came : (x : Session) (invited : Invited) (request : Option RequestView) → ProxiesCame came x.known → ProxiesCame came (cancelled_request x invited request).known
  unfolding cancelled_request showing_in
  cancelled-came x invited None has = has
  cancelled-came x invited (Some request) has =
      if-shown request.proxied (cancelled_proxy x invited (proxy_of x.known invited.req)) _ (stop-came x invited (proxy_of x.known invited.req) has)
      (if-shown (is_none request.answered) (terminated x invited request (kept_of x.known invited.req)) _ (by-same x.known.proxies _ (terminated-same x invited request (kept_of x.known invited.req)) has) has)

  cancel-came : (x : Session) (invited : Option Invited) → ProxiesCame came x.known → ProxiesCame came (prepared_cancel x invited).known
  unfolding prepared_cancel silent
  cancel-came x None has = has
  cancel-came x (Some invited) has = cancelled-came x invited (request_in x.view invited.req) has

  if-at : (b : Bool) (y z : Session) → ProxiesCame came y.known → ProxiesCame came z.known → ProxiesCame came (cond b y z).known
  if-at true y z p q = p
  if-at false y z p q = q

  timed-came : (config : Config) (x : Session) (proxy : Proxy) (branch : ℕ) (provisional : Bool) → ProxiesCame came x.known → ProxiesCame came (timed_out config x proxy branch provisional).known
  unfolding timed_out
  timed-came config x proxy branch provisional has =
      if-at (is_invite proxy && provisional) _ _ (change-came proxy.req (to_cancel branch) x.known.proxies (cancel-req branch) has) (change-came proxy.req _ x.known.proxies (ended-req branch proxy.sess _) has)

  branch-timer-came : (config : Config) (ringing : List ℕ) (x : Session) (branch due : ℕ) (proxy : Option Proxy) → ProxiesCame came x.known
      → ProxiesCame came (prepared_branch_timer config ringing x branch due proxy).known
  unfolding prepared_branch_timer silent
  branch-timer-came config ringing x branch due None has = has
  branch-timer-came config ringing x branch due (Some proxy) has = if-shown _ _ _ (timed-came config x proxy branch (list_any (λ k. k == branch) ringing) has) has

  for-came : (config : Config) (ringing : List ℕ) (x : Session) (number : ℕ) (event : Queued) → ProxiesCame came x.known → ProxiesCame came (prepared_for config ringing x number event).known
  unfolding prepared_for showing
  for-came config ringing x number (queued.Initial region subscriber popped request) has = by-same x.known.proxies _ (received-same x number FIRST_SESSION true false request) has
  for-came config ringing x number (queued.Request request) has = by-same x.known.proxies _ (request-same x number request (session_for x request)) has
  for-came config ringing x number (queued.Response branch response) has = response-came x branch response _ _ has
  for-came config ringing x number (queued.Cancelled event) has = cancel-came x (find (is_invited event) x.known.invited) has
  for-came config ringing x number (queued.Timer id) has = by-same x.known.proxies _ (timer-same x (timer_in x.view id)) has
  for-came config ringing x number (queued.BranchTimer branch due) has = branch-timer-came config ringing x branch due _ has
  for-came config ringing x number queued.Expired has = by-same x.known.proxies _ (expiry-same x) has
  for-came config ringing x number queued.Ready has = has

  pub prepared-came : (config : Config) (ringing : List ℕ) (x : Session) (waiting : Waiting) (now : ℕ) → ProxiesCame came x.known → ProxiesCame came (prepared config ringing x waiting now).known
  unfolding prepared
  prepared-came config ringing x waiting now has = for-came config ringing (record x { view = record x.view { now = now } }) waiting.number waiting.event has

  -- ## What calls make of them

  if-known : (b : Bool) (y z : Known) → ProxiesCame came y → ProxiesCame came z → ProxiesCame came (cond b y z)
  if-known true y z p q = p
  if-known false y z p q = q

  turned-has : (play : Play) (req : ReqId) (uris : List Uri) (how : ProxyOptions) (request : Option RequestView) → refusal play (calls.ProxyTo req uris how) ≡ None
      → request_in play.view req ≡ request → AllCame came play.view → HasCome came req.0
  turned-has play req uris how None is found come = absurd (none-proxied play (length uris) how (proxied-is play req uris how None is found))
  turned-has play req uris how (Some r) is found come =
      let first = proxied-first play r (length uris) how (proxied-is play req uris how (Some r) is found) in
      subst (HasCome came) (same-number r.id.0 req.0 (test-found (is_request req) play.view.requests r found)) (all-found (IsCome came) (is_request req) play.view.requests r found come first.0)

  first-came : (req : ReqId) (uris : List Uri) (how : ProxyOptions) (kept : Option Kept) (known : Known) → HasCome came req.0 → ProxiesCame came known → ProxiesCame came (proxies_first req uris how kept known)
  unfolding proxies_first with_targets new_proxy
  first-came req uris how None known one has = has
  first-came req uris how (Some kept) known one has = all-append (ProxyCame came) known.proxies (with_targets uris (new_proxy req kept.sess (event_of kept.way) kept.request (Some how))) has one

  turned-came : (req : ReqId) (uris : List Uri) (how : ProxyOptions) (known : Known) → HasCome came req.0 → ProxiesCame came known → ProxiesCame came (proxies req uris how known)
  unfolding proxies
  turned-came req uris how known one has =
      if-known (is_some (proxy_of known req)) (change_proxy req (with_targets uris) known) (proxies_first req uris how (kept_of known req) known)
      (change-came req (with_targets uris) known.proxies (targets-req uris) has) (first-came req uris how (kept_of known req) known one has)

  leg-came : (req : ReqId) (uri : Option Uri) (kept : Option Kept) (working : Working) → ProxiesCame came working.known → ProxiesCame came (drafts_leg req uri kept working).known
  unfolding drafts_leg writes
  leg-came req uri None working has = has
  leg-came req uri (Some kept) working has = has

  in-came : (config : Config) (sess : SessId) (ask : Inside) (dialog : Option DialogState) (working : Working) → ProxiesCame came working.known → ProxiesCame came (sends_in config sess ask dialog working).known
  unfolding sends_in sends_later keeps_sent change_leg
  in-came config sess ask None working has = has
  in-came config sess ask (Some dialog) working has = has

  written-came : (config : Config) (written : Written) (sess : SessId) (what : Asked) (working : Working) → ProxiesCame came working.known → ProxiesCame came (sends_written config written sess what working).known
  unfolding sends_written sends_initial keeps_sent change_leg
  written-came config written sess (asked.Initial request) working has = has
  written-came config written sess (asked.Later ask) working has = in-came config sess ask (dialog_in working.known sess) working has

  sends-came : (config : Config) (number : ℕ) (written : Option Written) (draft : Option Draft) (working : Working) → ProxiesCame came working.known → ProxiesCame came (sends config number written draft working).known
  unfolding sends forgets
  sends-came config number (Some written) (Some draft) working has = written-came config written draft.sess written.asked working has
  sends-came config number (Some written) None working has = has
  sends-came config number None draft working has = has

  ack-came : (config : Config) (body : Bytes) (dialog : Option DialogState) (kept : Option Kept) (working : Working) → ProxiesCame came working.known → ProxiesCame came (ack_with config body dialog kept working).known
  unfolding ack_with
  ack-came config body (Some dialog) (Some kept) working has = has
  ack-came config body (Some dialog) None working has = has
  ack-came config body None kept working has = has

  acks-came : (config : Config) (sess : SessId) (body : Bytes) (request : Option RequestView) (working : Working) → ProxiesCame came working.known → ProxiesCame came (acknowledges config sess body request working).known
  unfolding acknowledges
  acks-came config sess body None working has = has
  acks-came config sess body (Some request) working has = ack-came config body (dialog_in working.known sess) (kept_of working.known request.id) working has

  answer-came : (config : Config) (found : Option RequestView) (answer : Answer) (working : Working) → ProxiesCame came working.known → ProxiesCame came (answering config found answer working).known
  answer-came config found answer working has = rw (answering-known config found answer working) has

  does-came : (config : Config) (working : Working) (call : Call) → refusal working.play call ≡ None → AllCame came working.play.view → ProxiesCame came working.known → ProxiesCame came (does config working call).known
  unfolding does drafts_own drafts_later writes directs forgets cancels invalidates change_leg
  does-came config working (calls.Respond req answer) is come has = answer-came config (request_in working.play.view req) answer working has
  does-came config working (calls.CreateRequest ask) is come has = has
  does-came config working (calls.CreateInDialog sess ask) is come has = has
  does-came config working (calls.B2bCreate req uri) is come has = leg-came req uri (kept_of working.known req) working has
  does-came config working (calls.SetDirective draft directive origin) is come has = has
  does-came config working (calls.Send draft) is come has = sends-came config draft (find (is_written draft) working.written) (draft_in working.play draft) working has
  does-came config working (calls.Discard draft) is come has = has
  does-came config working (calls.Ack sess body) is come has = acks-came config sess body (find (awaits_ack sess) working.play.view.requests) working has
  does-came config working (calls.Cancel req) is come has = has
  does-came config working (calls.ProxyTo req uris how) is come has = turned-came req uris how working.known (turned-has working.play req uris how (request_in working.play.view req) is refl come) has
  does-came config working (calls.ProxyCancel req) is come has = change-came req stopped working.known.proxies stopped-req has
  does-came config working (calls.B2bRespond sess answer) is come has = answer-came config (begun_by working.play.view sess) answer working has
  does-came config working (calls.Link a b) is come has = has
  does-came config working (calls.Unlink a) is come has = has
  does-came config working (calls.StartTimer delay period info) is come has = has
  does-came config working (calls.CancelTimer id) is come has = has
  does-came config working (calls.SetAttribute name value) is come has = has
  does-came config working (calls.RemoveAttribute name) is come has = has
  does-came config working (calls.SetExpires minutes) is come has = has
  does-came config working (calls.SetReadyFlag target flag) is come has = has
  does-came config working (calls.InvalidateSession sess) is come has = has
  does-came config working calls.InvalidateApplication is come has = has

  by-came : (config : Config) (working : Working) (call : Call) (found : Option Refusal) → refusal working.play call ≡ found → AllCame came working.play.view → ProxiesCame came working.known
      → ProxiesCame came (does_by config working call found).known
  unfolding does_by
  by-came config working call None is come has = does-came config working call is come has
  by-came config working call (Some refused) is come has = has

  worked-came : (config : Config) (working : Working) (call : Call) → AllCame came working.play.view → ProxiesCame came working.known → ProxiesCame came (worked config working call).known
  unfolding worked
  worked-came config working call come has = by-came config working call (refusal working.play call) refl come has

  pub calls-came : (made : List CallRecord) (config : Config) (working : Working)
      → ((more : List CallRecord) → AllCame came (fold (λ working made. worked config working made.call) working more).play.view) → ProxiesCame came working.known
      → ProxiesCame came (fold (λ working made. worked config working made.call) working made).known
  calls-came [] config working come has = has
  calls-came (m ∷ made) config working come has = calls-came made config (worked config working m.call) (λ more. come (m ∷ more)) (worked-came config working m.call (come []) has)

  -- ## What follows the calls

  if-in : (b : Bool) (y z : Working) → ProxiesCame came y.known → ProxiesCame came z.known → ProxiesCame came (cond b y z).known
  if-in true y z p q = p
  if-in false y z p q = q

  fault-came : (config : Config) (request : Option RequestView) (working : Working) → ProxiesCame came working.known → ProxiesCame came (fault_at config request working).known
  unfolding fault_at
  fault-came config None working has = has
  fault-came config (Some request) working has = if-in (is_owed request && not request.proxied) _ working (answer-came config (Some request) _ working has) has

  pub faulted-came : (config : Config) (req : Option ReqId) (end : End) (working : Working) → ProxiesCame came working.known → ProxiesCame came (faulted config req end working).known
  unfolding faulted
  faulted-came config req ends.Fine working has = has
  faulted-came config req ends.Fault working has = fault-came config _ working has
  faulted-came config req ends.Starved working has = has

  spent-came : (config : Config) (request : RequestView) (working : Working) → ProxiesCame came working.known → ProxiesCame came (hops_spent config request working).known
  unfolding hops_spent
  spent-came config request working has = if-in (is_owed request) _ working (answer-came config (Some request) _ working has) has

  on-came : (config : Config) (kept : Kept) (working : Working) → HasCome came kept.id.0 → ProxiesCame came working.known → ProxiesCame came (passed_on config kept working).known
  unfolding passed_on sent_proxy new_proxy
  on-came config kept working one has =
      if-in (same_bytes kept.request.method ack) _ _ has (all-append (ProxyCame came) working.known.proxies (sent_proxy kept (working.play.view.counter + 1)) has one)

  later-came : (config : Config) (request : RequestView) (kept : Option Kept) (working : Working) → kept_of working.known request.id ≡ kept → HasCome came request.id.0 → ProxiesCame came working.known
      → ProxiesCame came (passed_later config request kept working).known
  unfolding passed_later
  later-came config request None working is one has = has
  later-came config request (Some kept) working is one has =
      let number = same-number kept.id.0 request.id.0 (test-found (λ k. same_request k.id request.id) working.known.kept kept is) in
      if-in _ working _ has (if-in _ (hops_spent config request working) (passed_on config kept working) (spent-came config request working has) (on-came config kept working (subst (HasCome came) (sym number) one) has))

  request-came : (config : Config) (req : ReqId) (request : Option RequestView) (working : Working) → request_in working.play.view req ≡ request → HasCome came req.0 → ProxiesCame came working.known
      → ProxiesCame came (passed_request_of config request working).known
  unfolding passed_request_of
  request-came config req None working is one has = has
  request-came config req (Some request) working is one has =
      later-came config request (kept_of working.known request.id) working refl (subst (HasCome came) (sym (same-number request.id.0 req.0 (test-found (is_request req) working.play.view.requests request is))) one) has

  of-came : (config : Config) (req : Option ReqId) (working : Working) → ((r : ReqId) → req ≡ Some r → HasCome came r.0) → ProxiesCame came working.known
      → ProxiesCame came (passed_request_of config (option_and_then (request_in working.play.view) req) working).known
  unfolding passed_request_of
  of-came config None working one has = has
  of-came config (Some req) working one has = request-came config req (request_in working.play.view req) working refl (one req refl) has

  if-later : (b : Bool) (y z : Working) → (b ≡ true → ProxiesCame came y.known) → ProxiesCame came z.known → ProxiesCame came (cond b y z).known
  if-later true y z p q = p refl
  if-later false y z p q = q

  pub passes-came : (config : Config) (event : Queued) (req : Option ReqId) (working : Working) → (is_request_event event ≡ true → (r : ReqId) → req ≡ Some r → HasCome came r.0) → ProxiesCame came working.known
      → ProxiesCame came (passes_later config event req working).known
  unfolding passes_later
  passes-came config event req working one has = if-later (is_request_event event) _ working (λ is. of-came config req working (one is) has) has

  pub left-came : (event : Queued) (working : Working) → ProxiesCame came working.known → ProxiesCame came (outcome_of event working).session.known
  unfolding outcome_of lightened session_in_play swept
  left-came event working has = by (is_ended event working)
    where
      by : (b : Bool) → ProxiesCame came (lightened (cond b (session_in_play working) (swept (session_in_play working)))).known
      by true = has
      by false = has
