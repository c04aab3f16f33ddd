-- Each response that a turn gives to send, but for those that proxies forward, answers the request that its event brought.
use Rattle.std.proofs.Common.{◌≡◌, ◌⊎◌, inl, inr, ℕ, ◌++◌, ◌==◌, Bool, true, false, Option, None, Some, List, [], ◌∷◌, refl, sym, subst}
use Rattle.std.specs.Prelude.{◌&&◌, ◌||◌, cond, filter, is_none, is_some, map, not, option_and_then, unwrap_or}
use Rattle.std.specs.List.{find, flat_map, fold}
use Rattle.std.specs.Option.{option_map_or}
use Rattle.std.proofs.lemmas.Bool.{and_parts}
use Rattle.sc_tokens.specs.Names.{same_bytes}
use Rattle.sc_value.specs.declared.ids.ReqId.{ReqId}
use Rattle.sc_value.specs.declared.ids.SessId.{SessId}
use Rattle.sc_value.specs.declared.message.Response.{Response}
use Rattle.sc_value.specs.declared.parts.Uri.{Uri}
use Rattle.sc_terms.specs.declared.calls.Answer.{Answer}
use Rattle.sc_terms.specs.declared.calls.Call.{Call}
use Rattle.sc_terms.specs.declared.calls.Call.TheVariants as calls
use Rattle.sc_terms.specs.declared.calls.CallRecord.{CallRecord}
use Rattle.sc_terms.specs.declared.calls.End.{End}
use Rattle.sc_terms.specs.declared.calls.End.TheVariants as ends
use Rattle.sc_terms.specs.declared.calls.Refusal.{Refusal}
use Rattle.sc_terms.specs.declared.calls.Refusal.TheVariants.{NotYours}
use Rattle.sc_terms.specs.declared.inside.Inside.{Inside}
use Rattle.sc_terms.specs.declared.settings.Config.{Config}
use Rattle.sc_terms.specs.declared.views.RequestView.{RequestView}
use Rattle.sc_terms.specs.declared.views.View.{View}
use Rattle.sc_state.specs.declared.orders.Order.{Order}
use Rattle.sc_state.specs.declared.orders.Order.TheVariants as orders
use Rattle.sc_state.specs.declared.proxy.Passing.{Passing}
use Rattle.sc_state.specs.declared.proxy.Proxy.{Proxy}
use Rattle.sc_state.specs.declared.queue.Queued.{Queued}
use Rattle.sc_state.specs.declared.session.Kept.{Kept}
use Rattle.sc_state.specs.declared.session.Known.{Known}
use Rattle.sc_state.specs.declared.session.Way.{Way}
use Rattle.sc_state.specs.declared.session.Way.TheVariants.{Received, Sent}
use Rattle.sc_state.specs.declared.working.Asked.{Asked}
use Rattle.sc_state.specs.declared.working.Asked.TheVariants as asked
use Rattle.sc_state.specs.declared.working.Draft.{Draft}
use Rattle.sc_state.specs.declared.working.Working.{Working}
use Rattle.sc_state.specs.declared.working.Written.{Written}
use Rattle.sc_tokens.specs.Bytes.{Bytes}
use Rattle.sc_model.specs.BestResponses.{best_response, server_error}
use Rattle.sc_model.specs.Dialogs.{DialogState}
use Rattle.sc_model.specs.SessionStates.{ack, is_final}
use Rattle.sc_hosts.specs.Acting.{after_proxy as acted, acts, all_act, chooses, closes, drafts_ended, fault_at, after_fault as faulted, forwards, forwards_best, hops_spent, in_view, is_request_event, passed_later, passed_on, passed_request_of, passes, passes_later, proxy_now, at_rest as rested, sends_cancels, after_start as started, with_forwarded}
use Rattle.sc_hosts.specs.Branches.{can_choose, can_pass, cancelled_now, is_exhausted, starting}
use Rattle.sc_hosts.specs.Finishing.{after_all_calls as finished}
use Rattle.sc_hosts.specs.Giving.{answer_order, answering, answers, directs, drafts_later, drafts_leg, drafts_own, forgets, is_written, writes}
use Rattle.sc_hosts.specs.Looking.{is_request, request_in, same_request}
use Rattle.sc_hosts.specs.Messages.{bare_answer}
use Rattle.sc_hosts.specs.Preparing.{kept_of, own_tag_of, proxy_of}
use Rattle.sc_hosts.specs.PreparingResponses.{change_proxy, is_invalid}
use Rattle.sc_hosts.specs.RefusalParts.{draft_in}
use Rattle.sc_hosts.specs.Refusals.{awaits_ack, begun_by, refusal, respond_refusal}
use Rattle.sc_hosts.specs.ViewChanges.{view_with_answer as answered, is_owed}
use Rattle.sc_hosts.specs.Words.{too_many_hops}
use Rattle.sc_hosts.specs.Working.{ack_with, acknowledges, cancels, dialog_in, effects_of_call as does, does_by, goodbyes, in_order, invalidates, invite_branches, keeps_sent, owed_answer, sends, sends_in, sends_initial, sends_later, sends_written, sent_branch, after_one_call as worked}
use Rattle.sc_lasting.specs.Lasting.{All}
use Rattle.sc_lasting.proofs.Began.{same-number, test-found}
use Rattle.sc_lasting.proofs.Parts.{all-both, all-first, all-found}
use Rattle.sc_replies.specs.Fields.{Incoming, IsAnswerTo}
use Rattle.sc_replies.proofs.AnswerEvents.{AllShown, AreOf, ShownOf}
use Rattle.sc_replies.proofs.AnswerFields.{given-answers}
use Rattle.sc_replies.proofs.SentCalls.{b2b-passed, respond-owed, respond-passed}

-- what an order responds answers what its event brought, or is forwarded by that event
unfoldable pub Gives : (ℕ → Incoming → Type 0) → (ℕ → Type 0) → Order → Type 0
Gives By Passed (orders.Respond number response) = ((came : Incoming) × By number came × IsAnswerTo came response) ⊎ Passed number
Gives By Passed order = Unit {0}

owed-received : (request : RequestView) → is_owed request ≡ true → request.received ≡ true
unfolding is_owed
owed-received request owed =
    (and_parts request.received (is_none request.answered) (and_parts (request.received && is_none request.answered) (not (same_bytes request.method ack)) owed).0).0

module _ (By : ℕ → Incoming → Type 0) (Passed : ℕ → Type 0) where
  abbrev pub AllGive : List Order → Type 0
  AllGive given = All (Gives By Passed) given

  abbrev pub OfIn : Working → Type 0
  OfIn working = AreOf By working.play.view working.known

  -- ## One answer

  way-gives : (config : Config) (view : View) (initial : Bool) (answer : Answer) (kept : Kept) (way : Way)
      → ((event : ℕ) → way ≡ Received event → By event (record { initial = initial; request = kept.request })) → AllGive (answer_order config view initial answer kept way)
  unfolding answer_order Gives All
  way-gives config view initial answer kept (Received event) by =
      (inl (record { initial = initial; request = kept.request }, by event refl, given-answers config view (own_tag_of view kept.sess) initial kept.request answer), tt)
  way-gives config view initial answer kept (Sent branch) by = tt

  found-gives : (config : Config) (answer : Answer) (view : View) (r : RequestView) (kepts : List Kept) (found : Option Kept) → find (λ (kept : Kept). same_request kept.id r.id) kepts ≡ found
      → r.received ≡ true → All (ShownOf By r) kepts → AllGive (answers config answer view found r.initial)
  unfolding answers All
  found-gives config answer view r kepts None is received of = tt
  found-gives config answer view r kepts (Some kept) is received of =
      let test : Kept → Bool = λ k. same_request k.id r.id in
      way-gives config view r.initial answer kept kept.way
      (λ event way. all-found (ShownOf By r) test kepts kept is of received (same-number kept.id.0 r.id.0 (test-found test kepts kept is)) event way)

  kept-gives : (config : Config) (answer : Answer) (view : View) (known : Known) (r : RequestView) → r.received ≡ true → All (ShownOf By r) known.kept
      → AllGive (answers config answer view (kept_of known r.id) r.initial)
  kept-gives config answer view known r received of = found-gives config answer view r known.kept (kept_of known r.id) refl received of

  pub answering-gives : (config : Config) (request : RequestView) (answer : Answer) (working : Working) → request.received ≡ true → All (ShownOf By request) working.known.kept → AllGive working.orders
      → AllGive (answering config (Some request) answer working).orders
  unfolding answering
  answering-gives config request answer working received of all =
      all-both (Gives By Passed) working.orders _ all (kept-gives config answer working.play.view working.known request received of)

  -- what is shown goes by its event
  shown-of : (test : RequestView → Bool) (working : Working) (request : RequestView) → find test working.play.view.requests ≡ Some request → OfIn working → All (ShownOf By request) working.known.kept
  shown-of test working request is ok = all-found (AllShown By working.known.kept) test working.play.view.requests request is ok.3

  -- ## What calls answer

  respond-gives : (config : Config) (answer : Answer) (test : RequestView → Bool) (working : Working) (found : Option RequestView) → find test working.play.view.requests ≡ found
      → option_map_or (λ (r : RequestView). respond_refusal r answer) found (Some NotYours) ≡ None → OfIn working → AllGive working.orders → AllGive (answering config found answer working).orders
  unfolding answering
  respond-gives config answer test working None is accepted ok all = cc
  respond-gives config answer test working (Some request) is accepted ok all =
      answering-gives config request answer working (respond-owed request answer accepted).received (shown-of test working request is ok) all

  begun-gives : (config : Config) (answer : Answer) (sess : SessId) (working : Working) → option_map_or (λ (r : RequestView). respond_refusal r answer) (begun_by working.play.view sess) (Some NotYours) ≡ None
      → OfIn working → AllGive working.orders → AllGive (answering config (begun_by working.play.view sess) answer working).orders
  unfolding begun_by
  begun-gives config answer sess working accepted ok all = respond-gives config answer _ working _ refl accepted ok all

  if-owed : (b : Bool) (act : RequestView → List Order) (r : RequestView) (rs : List RequestView) → (b ≡ true → AllGive (act r)) → AllGive (flat_map act rs) → AllGive (flat_map act (cond b (r ∷ rs) rs))
  if-owed true act r rs one all = all-both (Gives By Passed) (act r) (flat_map act rs) (one refl) all
  if-owed false act r rs one all = all

  owed-give : (config : Config) (view : View) (known : Known) (test : RequestView → Bool) (rs : List RequestView) → ((r : RequestView) → test r ≡ true → r.received ≡ true) → All (AllShown By known.kept) rs
      → AllGive (flat_map (owed_answer config view known) (filter test rs))
  unfolding owed_answer All
  owed-give config view known test [] received of = tt
  owed-give config view known test (r ∷ rs) received of =
      if-owed (test r) (owed_answer config view known) r (filter test rs) (λ is. kept-gives config _ view known r (received r is) of.0) (owed-give config view known test rs received of.1)

  ended-give : (branches : List ℕ) → AllGive (map (λ branch. orders.CancelNow branch) branches)
  unfolding Gives All
  ended-give [] = tt
  ended-give (branch ∷ branches) = (tt, ended-give branches)

  pub goodbyes-give : (config : Config) (view : View) (known : Known) (test : SessId → Bool) → All (AllShown By known.kept) view.requests → AllGive (goodbyes config view known test)
  unfolding goodbyes
  goodbyes-give config view known test of =
      all-both (Gives By Passed) (flat_map (owed_answer config view known) (filter (λ (r : RequestView). test r.sess && is_owed r) view.requests)) _
      (owed-give config view known (λ (r : RequestView). test r.sess && is_owed r) view.requests (λ r is. owed-received r (and_parts (test r.sess) (is_owed r) is).1) of)
      (ended-give (in_order (invite_branches test known)))

  -- ## Other calls respond nothing

  leg-gives : (req : ReqId) (uri : Option Uri) (kept : Option Kept) (working : Working) → AllGive working.orders → AllGive (drafts_leg req uri kept working).orders
  unfolding drafts_leg writes
  leg-gives req uri None working all = all
  leg-gives req uri (Some kept) working all = all

  one-more : (given : List Order) (order : Order) → AllGive given → Gives By Passed order → AllGive (given ++ order ∷ [])
  unfolding All
  one-more given order all one = all-both (Gives By Passed) given (order ∷ []) all (one, tt)

  in-gives : (config : Config) (sess : SessId) (ask : Inside) (dialog : Option DialogState) (working : Working) → AllGive working.orders → AllGive (sends_in config sess ask dialog working).orders
  unfolding sends_in sends_later keeps_sent Gives
  in-gives config sess ask None working all = all
  in-gives config sess ask (Some dialog) working all = one-more working.orders _ all tt

  written-gives : (config : Config) (written : Written) (sess : SessId) (what : Asked) (working : Working) → AllGive working.orders → AllGive (sends_written config written sess what working).orders
  unfolding sends_written sends_initial keeps_sent Gives
  written-gives config written sess (asked.Initial request) working all = one-more working.orders _ all tt
  written-gives config written sess (asked.Later ask) working all = in-gives config sess ask (dialog_in working.known sess) working all

  sends-give : (config : Config) (number : ℕ) (written : Option Written) (draft : Option Draft) (working : Working) → AllGive working.orders → AllGive (sends config number written draft working).orders
  unfolding sends forgets
  sends-give config number (Some written) (Some draft) working all = written-gives config written draft.sess written.asked working all
  sends-give config number (Some written) None working all = all
  sends-give config number None draft working all = all

  ack-gives : (config : Config) (body : Bytes) (dialog : Option DialogState) (kept : Option Kept) (working : Working) → AllGive working.orders → AllGive (ack_with config body dialog kept working).orders
  unfolding ack_with Gives
  ack-gives config body (Some dialog) (Some kept) working all = one-more working.orders _ all tt
  ack-gives config body (Some dialog) None working all = all
  ack-gives config body None kept working all = all

  acks-give : (config : Config) (sess : SessId) (body : Bytes) (request : Option RequestView) (working : Working) → AllGive working.orders → AllGive (acknowledges config sess body request working).orders
  unfolding acknowledges
  acks-give config sess body None working all = all
  acks-give config sess body (Some request) working all = ack-gives config body (dialog_in working.known sess) (kept_of working.known request.id) working all

  cancels-give : (branches : List ℕ) → AllGive (map (λ branch. orders.Cancel branch) branches)
  unfolding Gives All
  cancels-give [] = tt
  cancels-give (branch ∷ branches) = (tt, cancels-give branches)

  -- ## Each call

  call-gives : (config : Config) (working : Working) (call : Call) → refusal working.play call ≡ None → OfIn working → AllGive working.orders → AllGive (does config working call).orders
  unfolding does drafts_own drafts_later writes directs forgets cancels invalidates
  call-gives config working (calls.Respond req answer) is ok all =
      respond-gives config answer (is_request req) working (request_in working.play.view req) refl (respond-passed working.play req answer is) ok all
  call-gives config working (calls.CreateRequest ask) is ok all = all
  call-gives config working (calls.CreateInDialog sess ask) is ok all = all
  call-gives config working (calls.B2bCreate req uri) is ok all = leg-gives req uri (kept_of working.known req) working all
  call-gives config working (calls.SetDirective draft directive origin) is ok all = all
  call-gives config working (calls.Send draft) is ok all = sends-give config draft (find (is_written draft) working.written) (draft_in working.play draft) working all
  call-gives config working (calls.Discard draft) is ok all = all
  call-gives config working (calls.Ack sess body) is ok all = acks-give config sess body (find (awaits_ack sess) working.play.view.requests) working all
  call-gives config working (calls.Cancel req) is ok all =
      all-both (Gives By Passed) working.orders (map (λ branch. orders.Cancel branch) (sent_branch (kept_of working.known req))) all (cancels-give (sent_branch (kept_of working.known req)))
  call-gives config working (calls.ProxyTo req uris how) is ok all = all
  call-gives config working (calls.ProxyCancel req) is ok all = all
  call-gives config working (calls.B2bRespond sess answer) is ok all = begun-gives config answer sess working (b2b-passed working.play sess answer is) ok all
  call-gives config working (calls.Link a b) is ok all = all
  call-gives config working (calls.Unlink a) is ok all = all
  call-gives config working (calls.StartTimer delay period info) is ok all = all
  call-gives config working (calls.CancelTimer id) is ok all = all
  call-gives config working (calls.SetAttribute name value) is ok all = all
  call-gives config working (calls.RemoveAttribute name) is ok all = all
  call-gives config working (calls.SetExpires minutes) is ok all = all
  call-gives config working (calls.SetReadyFlag target flag) is ok all = all
  call-gives config working (calls.InvalidateSession sess) is ok all =
      all-both (Gives By Passed) working.orders (goodbyes config working.play.view working.known _) all (goodbyes-give config working.play.view working.known _ ok.3)
  call-gives config working calls.InvalidateApplication is ok all = all

  by-gives : (config : Config) (working : Working) (call : Call) (found : Option Refusal) → refusal working.play call ≡ found → OfIn working → AllGive working.orders
      → AllGive (does_by config working call found).orders
  unfolding does_by
  by-gives config working call None is ok all = call-gives config working call is ok all
  by-gives config working call (Some refused) is ok all = all

  worked-gives : (config : Config) (working : Working) (call : Call) → OfIn working → AllGive working.orders → AllGive (worked config working call).orders
  unfolding worked
  worked-gives config working call ok all = by-gives config working call (refusal working.play call) refl ok all

  pub calls-give : (made : List CallRecord) (config : Config) (working : Working) → ((more : List CallRecord) → OfIn (fold (λ working made. worked config working made.call) working more))
      → AllGive working.orders → AllGive (fold (λ working made. worked config working made.call) working made).orders
  calls-give [] config working ok all = all
  calls-give (m ∷ made) config working ok all = calls-give made config (worked config working m.call) (λ more. ok (m ∷ more)) (worked-gives config working m.call (ok []) all)

  -- ## After a fault

  if-gives : (b : Bool) (y z : Working) → (b ≡ true → AllGive y.orders) → (b ≡ false → AllGive z.orders) → AllGive (cond b y z).orders
  if-gives true y z p q = p refl
  if-gives false y z p q = q refl

  view-gives : (view : View) (working : Working) → AllGive working.orders → AllGive (in_view view working).orders
  view-gives view working all = all

  fault-gives : (config : Config) (test : RequestView → Bool) (found : Option RequestView) (working : Working) → find test working.play.view.requests ≡ found → OfIn working → AllGive working.orders
      → AllGive (fault_at config found working).orders
  unfolding fault_at
  fault-gives config test None working is ok all = all
  fault-gives config test (Some request) working is ok all =
      if-gives (is_owed request && not request.proxied) (in_view (answered (Some request) 500 working.play.view) (answering config (Some request) (bare_answer 500 server_error) working)) working
      (λ owed. answering-gives config request (bare_answer 500 server_error) working (owed-received request (and_parts (is_owed request) (not request.proxied) owed).0) (shown-of test working request is ok) all)
      (λ not. all)

  event-gives : (config : Config) (req : Option ReqId) (working : Working) → OfIn working → AllGive working.orders → AllGive (fault_at config (option_and_then (request_in working.play.view) req) working).orders
  unfolding fault_at
  event-gives config None working ok all = all
  event-gives config (Some req) working ok all = fault-gives config (is_request req) (request_in working.play.view req) working refl ok all

  pub faulted-gives : (config : Config) (req : Option ReqId) (end : End) (working : Working) → OfIn working → AllGive working.orders → AllGive (faulted config req end working).orders
  unfolding faulted
  faulted-gives config req ends.Fine working ok all = all
  faulted-gives config req ends.Fault working ok all = event-gives config req working ok all
  faulted-gives config req ends.Starved working ok all = all

  -- ## Proxies

  abbrev pub IsPassed : Proxy → Type 0
  IsPassed proxy = Passed proxy.event

  -- it gives such orders, and all that it proxies may be forwarded
  abbrev pub ActsSo : Working → Type 0
  ActsSo working = AllGive working.orders × All IsPassed working.known.proxies

  if-so : (b : Bool) (y z : Working) → ActsSo y → ActsSo z → ActsSo (cond b y z)
  if-so true y z p q = p
  if-so false y z p q = q

  changed-so : (req : ReqId) (change : Proxy → Proxy) (known : Known) → ((p : Proxy) → (change p).event ≡ p.event) → All IsPassed known.proxies → All IsPassed (change_proxy req change known).proxies
  changed-so req change known same all = all-first IsPassed (λ p. same_request p.req req) change known.proxies (λ p found passed. subst Passed (sym (same p)) passed) all

  found-so : (proxy : Proxy) (known : Known) (found : Option Proxy) → proxy_of known proxy.req ≡ found → IsPassed proxy → All IsPassed known.proxies → IsPassed (unwrap_or found proxy)
  unfolding proxy_of
  found-so proxy known None is passed all = passed
  found-so proxy known (Some other) is passed all = all-found IsPassed (λ p. same_request p.req proxy.req) known.proxies other is all

  now-so : (proxy : Proxy) (working : Working) → IsPassed proxy → All IsPassed working.known.proxies → IsPassed (proxy_now proxy working)
  unfolding proxy_now
  now-so proxy working passed all = found-so proxy working.known (proxy_of working.known proxy.req) refl passed all

  one-so : (config : Config) (proxy : Proxy) (working : Working) (uri : Uri) → ActsSo working → ActsSo (started config proxy working uri)
  unfolding started Gives
  one-so config proxy working uri so = (one-more working.orders _ so.0 tt, changed-so proxy.req _ working.known (λ p. refl) so.1)

  start-so : (config : Config) (proxy : Proxy) (uris : List Uri) (working : Working) → ActsSo working → ActsSo (fold (started config proxy) working uris)
  start-so config proxy [] working so = so
  start-so config proxy (uri ∷ uris) working so = start-so config proxy uris (started config proxy working uri) (one-so config proxy working uri so)

  if-event : (b : Bool) (p q : Proxy) (event : ℕ) → p.event ≡ event → q.event ≡ event → (cond b p q).event ≡ event
  if-event true p q event a b = a
  if-event false p q event a b = b

  code-event : (code : ℕ) (p : Proxy) → (with_forwarded code p).event ≡ p.event
  unfolding with_forwarded
  code-event code p = if-event (is_final code && is_none p.forwarded) (record p { forwarded = Some code }) p p.event refl refl

  forward-so : (proxy : Proxy) (sess : SessId) (response : Response) (working : Working) → IsPassed proxy → ActsSo working → ActsSo (forwards proxy sess response working)
  unfolding forwards Gives
  forward-so proxy sess response working passed so =
      (one-more working.orders (orders.Respond proxy.event response) so.0 (inr passed), changed-so proxy.req (with_forwarded response.code) working.known (code-event response.code) so.1)

  pass-so : (proxy : Proxy) (passing : Option Passing) (working : Working) → IsPassed proxy → ActsSo working → ActsSo (passes proxy passing working)
  unfolding passes
  pass-so proxy None working passed so = so
  pass-so proxy (Some passing) working passed so =
      if-so (can_pass proxy passing.response) (forwards proxy passing.sess passing.response working) working (forward-so proxy passing.sess passing.response working passed so) so

  best-so : (proxy : Proxy) (response : Option Response) (working : Working) → IsPassed proxy → ActsSo working → ActsSo (forwards_best proxy response working)
  unfolding forwards_best
  best-so proxy None working passed so = so
  best-so proxy (Some response) working passed so = forward-so proxy proxy.sess response working passed so

  choose-so : (proxy : Proxy) (working : Working) → IsPassed proxy → ActsSo working → ActsSo (chooses proxy working)
  unfolding chooses
  choose-so proxy working passed so =
      if-so (can_choose proxy) (forwards_best proxy (best_response proxy.candidates) working) working (best-so proxy (best_response proxy.candidates) working passed so) so

  cancels-so : (proxy : Proxy) (working : Working) → ActsSo working → ActsSo (sends_cancels proxy working)
  unfolding sends_cancels
  cancels-so proxy working so =
      (all-both (Gives By Passed) working.orders (map (λ branch. orders.Cancel branch) (cancelled_now (proxy_now proxy working))) so.0 (cancels-give (cancelled_now (proxy_now proxy working))), so.1)

  close-so : (proxy : Proxy) (working : Working) → ActsSo working → ActsSo (closes proxy working)
  unfolding closes
  close-so proxy working so = if-so (is_exhausted proxy && is_some proxy.options) _ working so so

  rest-so : (req : ReqId) (working : Working) → ActsSo working → ActsSo (record working { known = change_proxy req rested working.known })
  unfolding rested
  rest-so req working so = (so.0, changed-so req rested working.known (λ p. refl) so.1)

  acted-so : (config : Config) (proxy : Proxy) (working : Working) → IsPassed proxy → ActsSo working → ActsSo (acted config proxy working)
  unfolding acted
  acted-so config proxy working passed so =
      let begun : Working = fold (started config proxy) working (starting proxy) in
      let forwarded : Working = passes (proxy_now proxy begun) proxy.passing begun in
      let chosen : Working = chooses (proxy_now proxy forwarded) forwarded in
      let one : ActsSo begun = start-so config proxy (starting proxy) working so in
      let two : ActsSo forwarded = pass-so (proxy_now proxy begun) proxy.passing begun (now-so proxy begun passed one.1) one in
      let three : ActsSo chosen = choose-so (proxy_now proxy forwarded) forwarded (now-so proxy forwarded passed two.1) two in
      rest-so proxy.req (closes (proxy_now proxy chosen) (sends_cancels proxy chosen)) (close-so (proxy_now proxy chosen) (sends_cancels proxy chosen) (cancels-so proxy chosen three))

  acts-so : (config : Config) (working : Working) (proxy : Proxy) → IsPassed proxy → ActsSo working → ActsSo (acts config working proxy)
  unfolding acts
  acts-so config working proxy passed so = if-so (is_invalid working.known proxy.sess) working (acted config proxy working) so (acted-so config proxy working passed so)

  proxies-so : (proxies : List Proxy) (config : Config) (working : Working) → All IsPassed proxies → ActsSo working → ActsSo (fold (acts config) working proxies)
  unfolding All
  proxies-so [] config working passed so = so
  proxies-so (proxy ∷ proxies) config working passed so = proxies-so proxies config (acts config working proxy) passed.1 (acts-so config working proxy passed.0 so)

  pub all-so : (config : Config) (working : Working) → ActsSo working → ActsSo (all_act config working)
  unfolding all_act
  all-so config working so = proxies-so working.known.proxies config working so.1 so

  -- ## A later request is passed on, or goes no further

  spent-gives : (config : Config) (test : RequestView → Bool) (request : RequestView) (working : Working) → find test working.play.view.requests ≡ Some request → OfIn working → AllGive working.orders
      → AllGive (hops_spent config request working).orders
  unfolding hops_spent
  spent-gives config test request working is ok all =
      if-gives (is_owed request) (in_view (answered (Some request) 483 working.play.view) (answering config (Some request) (bare_answer 483 too_many_hops) working)) working
      (λ owed. answering-gives config request (bare_answer 483 too_many_hops) working (owed-received request owed) (shown-of test working request is ok) all) (λ not. all)

  on-gives : (config : Config) (kept : Kept) (working : Working) → AllGive working.orders → AllGive (passed_on config kept working).orders
  unfolding passed_on Gives
  on-gives config kept working all = if-gives (same_bytes kept.request.method ack) _ _ (λ is. one-more working.orders _ all tt) (λ not. one-more working.orders _ all tt)

  later-gives : (config : Config) (test : RequestView → Bool) (request : RequestView) (kept : Option Kept) (working : Working) → find test working.play.view.requests ≡ Some request → OfIn working
      → AllGive working.orders → AllGive (passed_later config request kept working).orders
  unfolding passed_later
  later-gives config test request None working is ok all = all
  later-gives config test request (Some kept) working is ok all =
      if-gives (request.initial || not request.proxied || is_invalid working.known request.sess) working (cond (request.hops == 0) (hops_spent config request working) (passed_on config kept working)) (λ left. all)
      (λ goes. if-gives (request.hops == 0) (hops_spent config request working) (passed_on config kept working) (λ spent. spent-gives config test request working is ok all) (λ on. on-gives config kept working all))

  of-gives : (config : Config) (test : RequestView → Bool) (found : Option RequestView) (working : Working) → find test working.play.view.requests ≡ found → OfIn working → AllGive working.orders
      → AllGive (passed_request_of config found working).orders
  unfolding passed_request_of
  of-gives config test None working is ok all = all
  of-gives config test (Some request) working is ok all = later-gives config test request (kept_of working.known request.id) working is ok all

  req-gives : (config : Config) (req : Option ReqId) (working : Working) → OfIn working → AllGive working.orders → AllGive (passed_request_of config (option_and_then (request_in working.play.view) req) working).orders
  unfolding passed_request_of
  req-gives config None working ok all = all
  req-gives config (Some req) working ok all = of-gives config (is_request req) (request_in working.play.view req) working refl ok all

  pub later-request-gives : (config : Config) (event : Queued) (req : Option ReqId) (working : Working) → OfIn working → AllGive working.orders → AllGive (passes_later config event req working).orders
  unfolding passes_later
  later-request-gives config event req working ok all =
      if-gives (is_request_event event) (passed_request_of config (option_and_then (request_in working.play.view) req) working) working (λ later. req-gives config req working ok all) (λ not. all)

  same-orders : (working : Working) → AllGive working.orders → AllGive (drafts_ended working).orders
  unfolding drafts_ended
  same-orders working all = all

  -- ## All that follows the calls

  pub finished-gives : (config : Config) (event : Queued) (req : Option ReqId) (end : End) (working : Working) → OfIn (drafts_ended working)
      → OfIn (all_act config (faulted config req end (drafts_ended working))) → All IsPassed (faulted config req end (drafts_ended working)).known.proxies → AllGive working.orders
      → AllGive (finished config event req end working).orders
  unfolding finished
  finished-gives config event req end working ok acted passed all =
      let told : Working = faulted config req end (drafts_ended working) in
      later-request-gives config event req (all_act config told) acted (all-so config told (faulted-gives config req end (drafts_ended working) ok (same-orders working all), passed)).0
