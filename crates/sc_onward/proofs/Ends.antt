-- The turn of a later request of a proxied dialog ends: the request is passed on, or answered where it may go no further.
use Rattle.std.proofs.Common.{◌≡◌, ◌<◌, inl, inr, ℕ, zero, suc, ◌+◌, ◌++◌, Bool, true, false, Option, None, Some, List, [], ◌∷◌, refl, sym, ap, subst, ◌∙◌, arith}
use Rattle.std.proofs.lemmas.Bool.Decides.{nat_tests}
use Rattle.std.specs.Prelude.{cond, is_none, is_some, map, not, unwrap_or, ◌==◌, ◌&&◌, ◌||◌}
use Rattle.std.specs.List.{find, fold}
use Rattle.std.specs.Option.{option_map_or}
use Rattle.sc_value.specs.declared.ids.ReqId.{ReqId}
use Rattle.sc_value.specs.declared.ids.SessId.{SessId}
use Rattle.sc_value.specs.declared.message.Request.{Request}
use Rattle.sc_value.specs.declared.message.Response.{Response}
use Rattle.sc_value.specs.Lists.{change_first}
use Rattle.sc_value.specs.declared.parts.Contact.TheVariants.{At}
use Rattle.sc_value.specs.declared.parts.Uri.{Uri}
use Rattle.sc_tokens.specs.Names.{same_bytes}
use Rattle.sc_terms.specs.declared.calls.Answer.{Answer}
use Rattle.sc_terms.specs.declared.calls.CallRecord.{CallRecord}
use Rattle.sc_terms.specs.declared.calls.End.{End}
use Rattle.sc_terms.specs.declared.calls.End.TheVariants as ends
use Rattle.sc_terms.specs.declared.settings.Config.{Config}
use Rattle.sc_terms.specs.declared.views.RequestView.{RequestView}
use Rattle.sc_terms.specs.declared.views.SessionView.{SessionView}
use Rattle.sc_terms.specs.declared.views.View.{View}
use Rattle.sc_state.specs.declared.orders.Order.{Order}
use Rattle.sc_state.specs.declared.orders.Order.TheVariants as orders
use Rattle.sc_state.specs.declared.proxy.Passing.{Passing}
use Rattle.sc_state.specs.declared.proxy.Proxy.{Proxy}
use Rattle.sc_state.specs.declared.queue.Queued.TheVariants as queued
use Rattle.sc_state.specs.declared.queue.Waiting.{Waiting}
use Rattle.sc_state.specs.declared.session.Kept.{Kept}
use Rattle.sc_state.specs.declared.session.Known.{Known}
use Rattle.sc_state.specs.declared.session.Leg.{Leg}
use Rattle.sc_state.specs.declared.session.Session.{Session}
use Rattle.sc_state.specs.declared.session.Way.TheVariants.{Received}
use Rattle.sc_state.specs.declared.working.Draft.{Draft}
use Rattle.sc_state.specs.declared.working.Prepared.{Prepared}
use Rattle.sc_state.specs.declared.working.Working.{Working}
use Rattle.sc_tokens.specs.Bytes.{Bytes}
use Rattle.sc_model.specs.BestResponses.{best_response, server_error}
use Rattle.sc_model.specs.SessionStates.{ack}
use Rattle.sc_hosts.specs.Acting.{after_proxy as acted, acts, all_act, chooses, closed_session, closes, drafts_ended, with_next_branch as drawn, fault_at, after_fault as faulted, forwarded_view, forwards, forwards_best, hops_spent, in_view, passed_later, passed_on, passed_request_of, passes, passes_later, is_request_event, proxy_now, at_rest as rested, sends_cancels, sent_proxy, after_start as started, with_forwarded, with_subscribed, without_left}
use Rattle.sc_hosts.specs.Branches.{is_exhausted, starting}
use Rattle.sc_hosts.specs.Effects.{first_play as begun}
use Rattle.sc_hosts.specs.Finishing.{after_all_calls as finished, outcome, outcome_of}
use Rattle.sc_hosts.specs.Giving.{answer_order, answering, answers, giving}
use Rattle.sc_hosts.specs.Legs.{change_leg, is_leg_of, is_low, leg_of, session_for}
use Rattle.sc_hosts.specs.Looking.{is_proxy, is_request, without_sip_session as removed, request_in, same_request, session_in}
use Rattle.sc_hosts.specs.Messages.{answered_here, bare_answer, given_response, on_branch, own_address, passed_request, with_routes}
use Rattle.sc_hosts.specs.Preparing.{kept_of, own_tag_of, prepared_session as prepared, prepared_for, proxy_of}
use Rattle.sc_hosts.specs.PreparingRequests.{next_id, prepared_request, request_view, showing, prepared_for_request as taken, taken_in}
use Rattle.sc_hosts.specs.PreparingResponses.{is_invalid}
use Rattle.sc_hosts.specs.ViewChanges.{view_with_answer as answered, is_owed}
use Rattle.sc_hosts.specs.Words.{too_many_hops}
use Rattle.sc_hosts.specs.Working.{next_branch, starts, worked_all}
use Rattle.sc_model.specs.Responses.{response_to}
use Rattle.sc_lasting.specs.Lasting.{All}
use Rattle.sc_lasting.proofs.Began.{same-number, test-found}
use Rattle.sc_lasting.proofs.Parts.{all-append, all-first, all-found, all-map, received-holds}
use Rattle.sc_hops.specs.Hops.{Is_ack, Is_send}
use Rattle.sc_onward.specs.Onward.{AnswersLast, AreCounted, ComesToProxy, IsLeftAlone, PassesLast}
use Rattle.sc_onward.proofs.Kept.{Keeps, KeepsAt, Knows, Leaves, Other, ShownAt, all-hold, answering-knows, keeps-last}
use Rattle.sc_onward.proofs.Stays.{Fine, Has, RightAt, answered-shown, answered_in-shown, clash, fine-found, has-last, removed-shown, tidy-shown}

one-up : (n : ℕ) → n < n + 1
one-up n = omega arith

not-self : (a n : ℕ) → a < n → a ≡ n → ⊥
not-self a n less is = omega (arith, less, is)

pub zero-suc : (n : ℕ) → zero ≡ suc n → ⊥
zero-suc n is = omega (arith, is)

pub hops-more : (n : ℕ) → (n == 0) ≡ false → (h : ℕ) × (n ≡ suc h)
hops-more zero is = absurd (self-not 0 is)
  where
    self-not : (n : ℕ) → (n == n) ≡ false → ⊥
    self-not n is = grind (arith, nat_tests, is)
hops-more (suc h) is = (h, refl)

some-is : {A : Type 0} (x y : A) → Some x ≡ Some y → x ≡ y
some-is x y is = cc

same-test : (a b : ℕ) → a ≡ b → (a == b) ≡ true
same-test a b is = grind (arith, nat_tests, is)

module _ (number : ℕ) (sess : SessId) (event : ℕ) (request : Request) where
  abbrev pub View-at : View → Type 0
  View-at view = ShownAt number sess event request view

  abbrev pub Known-at : Known → Type 0
  Known-at known = Knows number sess event request known

  -- the SipSession was not ended by a call
  abbrev pub Valid : List Leg → Type 0
  Valid legs = option_map_or (λ leg. leg.invalidated) (find (is_leg_of sess) legs) false ≡ false

  pub record Stays (working : Working) : Type 0 where
    pub view : View-at working.play.view
    pub known : Known-at working.known
    pub legs : Valid working.known.legs

  if-stays : (b : Bool) (x y : Working) → Stays x → Stays y → Stays (cond b x y)
  if-stays true x y p q = p
  if-stays false x y p q = q

  if-shown : (b : Bool) (x y : View) → View-at x → View-at y → View-at (cond b x y)
  if-shown true x y p q = p
  if-shown false x y p q = q

  fold-stays : {A : Type 0} (items : List A) (act : Working → A → Working) → ((working : Working) (a : A) → Stays working → Stays (act working a)) → (working : Working) → Stays working
      → Stays (fold act working items)
  fold-stays [] act each working stays = stays
  fold-stays (a ∷ items) act each working stays = fold-stays items act each (act working a) (each working a stays)

  -- ## Drafts and faults

  left-shown : (view : View) (draft : Draft) → View-at view → View-at (without_left view draft)
  unfolding without_left
  left-shown view draft ok = if-shown draft.initial (removed draft.sess view) view (removed-shown number sess request.hops request.method draft.sess view ok) ok

  lefts-shown : (drafts : List Draft) (view : View) → View-at view → View-at (fold without_left view drafts)
  lefts-shown [] view ok = ok
  lefts-shown (draft ∷ drafts) view ok = lefts-shown drafts (without_left view draft) (left-shown view draft ok)

  drafts-stay : (working : Working) → View-at working.play.view → Known-at working.known → Valid working.known.legs → Stays (drafts_ended working)
  unfolding drafts_ended
  drafts-stay working shown known legs = record {
    view = tidy-shown number sess request.hops request.method _ (lefts-shown working.play.drafts working.play.view shown);
    known = known;
    legs = legs;
  }

  answering-legs : (config : Config) (found : Option RequestView) (answer : Answer) (working : Working) → Valid working.known.legs → Valid (answering config found answer working).known.legs
  unfolding answering
  answering-legs config None answer working ok = ok
  answering-legs config (Some r) answer working ok = ok

  fault-stays : (config : Config) (req : ReqId) (found : Option RequestView) (working : Working) → request_in working.play.view req ≡ found → Stays working → Stays (fault_at config found working)
  unfolding fault_at
  fault-stays config req None working at stays = stays
  fault-stays config req (Some r) working at stays = by (is_owed r) r.proxied refl
    where
      by : (a b : Bool) → r.proxied ≡ b → Stays (cond (a && not b) (in_view (answered (Some r) 500 working.play.view) (answering config (Some r) (bare_answer 500 server_error) working)) working)
      by true true is = stays
      by true false is = record {
        view = answered-shown number sess request.hops request.method (Some r) 500 working.play.view
            (λ x same here. clash r.proxied (fine-found number sess request.hops request.method working.play.view req r stays.view at (subst (λ (y : RequestView). ◌≡◌ {A = ℕ} y.id.0 number) (sym (some-is r x same)) here)).1 is) stays.view;
        known = answering-knows number sess event request config (Some r) (bare_answer 500 server_error) working stays.known;
        legs = answering-legs config (Some r) (bare_answer 500 server_error) working stays.legs;
      }
      by false b is = stays

  faulted-stays : (config : Config) (req : Option ReqId) (end : End) (working : Working) → Stays working → Stays (faulted config req end working)
  unfolding faulted fault_at
  faulted-stays config req ends.Fine working stays = stays
  faulted-stays config None ends.Fault working stays = stays
  faulted-stays config (Some req) ends.Fault working stays = fault-stays config req (request_in working.play.view req) working refl stays
  faulted-stays config req ends.Starved working stays = stays

  -- ## Proxies act

  started-stays : (config : Config) (proxy : Proxy) (working : Working) (uri : Uri) → Stays working → Stays (started config proxy working uri)
  unfolding started
  started-stays config proxy working uri stays = record {
    view = stays.view;
    known = (stays.known.0, stays.known.1, all-first (Other number sess event request) (λ (p : Proxy). same_request p.req proxy.req) _ working.known.proxies (λ p found other. other) stays.known.2);
    legs = stays.legs;
  }

  forwarded-other : (code : ℕ) (p : Proxy) → Other number sess event request p → Other number sess event request (with_forwarded code p)
  unfolding with_forwarded
  forwarded-other code p other = by _
    where
      by : (b : Bool) → Other number sess event request (cond b (record p { forwarded = Some code }) p)
      by true = other
      by false = other

  subscribed-shown : (proxy : Proxy) (s : SessId) (response : Response) (view : View) → View-at view → View-at (with_subscribed proxy s response view)
  unfolding with_subscribed
  subscribed-shown proxy s response view ok = if-shown _ _ view ok ok

  forwarded-shown : (proxy : Proxy) (s : SessId) (found : Option RequestView) (response : Response) (view : View) → ((r : RequestView) → found ≡ Some r → ◌≡◌ {A = ℕ} r.id.0 number → ⊥) → View-at view
      → View-at (forwarded_view proxy s found response view)
  unfolding forwarded_view
  forwarded-shown proxy s None response view other ok = ok
  forwarded-shown proxy s (Some r) response view other ok =
      tidy-shown number sess request.hops request.method _ (answered_in-shown number sess request.hops request.method s r _ response.code view (other r refl) ok)

  found-other : (proxy : Proxy) (view : View) (r : RequestView) → Other number sess event request proxy → request_in view proxy.req ≡ Some r → ◌≡◌ {A = ℕ} r.id.0 number → ⊥
  found-other proxy view r other found same = other (sym (same-number r.id.0 proxy.req.0 (test-found (is_request proxy.req) view.requests r found)) ∙ same)

  forwards-stays : (proxy : Proxy) (s : SessId) (response : Response) (working : Working) → Other number sess event request proxy → Stays working → Stays (forwards proxy s response working)
  unfolding forwards
  forwards-stays proxy s response working other stays = record {
    view = forwarded-shown proxy s (request_in working.play.view proxy.req) response (with_subscribed proxy s response working.play.view)
        (λ r found same. found-other proxy working.play.view r other found same) (subscribed-shown proxy s response working.play.view stays.view);
    known = (stays.known.0, stays.known.1, all-first (Other number sess event request) (λ (p : Proxy). same_request p.req proxy.req) (with_forwarded response.code) working.known.proxies (λ p found o. forwarded-other response.code p o) stays.known.2);
    legs = stays.legs;
  }

  passes-stays : (proxy : Proxy) (passing : Option Passing) (working : Working) → Other number sess event request proxy → Stays working → Stays (passes proxy passing working)
  unfolding passes
  passes-stays proxy None working other stays = stays
  passes-stays proxy (Some passing) working other stays = if-stays _ _ working (forwards-stays proxy passing.sess passing.response working other stays) stays

  best-stays : (proxy : Proxy) (response : Option Response) (working : Working) → Other number sess event request proxy → Stays working → Stays (forwards_best proxy response working)
  unfolding forwards_best
  best-stays proxy None working other stays = stays
  best-stays proxy (Some response) working other stays = forwards-stays proxy proxy.sess response working other stays

  chooses-stays : (proxy : Proxy) (working : Working) → Other number sess event request proxy → Stays working → Stays (chooses proxy working)
  unfolding chooses
  chooses-stays proxy working other stays = if-stays _ _ working (best-stays proxy (best_response proxy.candidates) working other stays) stays

  closes-stays : (proxy : Proxy) (working : Working) → Stays working → Stays (closes proxy working)
  unfolding closes
  closes-stays proxy working stays =
      if-stays (is_exhausted proxy && is_some proxy.options)
      (in_view (record working.play.view { sessions = map (closed_session working.known proxy.req proxy.sess) working.play.view.sessions }) working) working
      (record { view = stays.view; known = stays.known; legs = stays.legs }) stays

  cancels-stays : (proxy : Proxy) (working : Working) → Stays working → Stays (sends_cancels proxy working)
  unfolding sends_cancels
  cancels-stays proxy working stays = record { view = stays.view; known = stays.known; legs = stays.legs }

  now-by : (proxy : Proxy) (found : Option Proxy) → ((p : Proxy) → found ≡ Some p → Other number sess event request p) → Other number sess event request proxy → Other number sess event request (unwrap_or found proxy)
  now-by proxy None each other = other
  now-by proxy (Some p) each other = each p refl

  now-other : (proxy : Proxy) (working : Working) → Other number sess event request proxy → Stays working → Other number sess event request (proxy_now proxy working)
  unfolding proxy_now proxy_of
  now-other proxy working other stays =
      now-by proxy _ (λ p found. all-found (Other number sess event request) (λ (q : Proxy). same_request q.req proxy.req) working.known.proxies p found stays.known.2) other

  rested-other : (p : Proxy) → Other number sess event request p → Other number sess event request (rested p)
  unfolding rested
  rested-other p other = other

  rests : (req : ReqId) (working : Working) → Stays working → All (Other number sess event request) (change_first (λ (p : Proxy). same_request p.req req) rested working.known.proxies)
  rests req working stays = all-first (Other number sess event request) (λ (p : Proxy). same_request p.req req) rested working.known.proxies (λ p found other. rested-other p other) stays.known.2

  acted-stays : (config : Config) (proxy : Proxy) (working : Working) → Other number sess event request proxy → Stays working → Stays (acted config proxy working)
  unfolding acted
  acted-stays config proxy working other stays =
      let begun = fold (started config proxy) working (starting proxy) in
      let one = fold-stays (starting proxy) (started config proxy) (started-stays config proxy) working stays in
      let passed = passes (proxy_now proxy begun) proxy.passing begun in
      let two = passes-stays (proxy_now proxy begun) proxy.passing begun (now-other proxy begun other one) one in
      let chosen = chooses (proxy_now proxy passed) passed in
      let three = chooses-stays (proxy_now proxy passed) passed (now-other proxy passed other two) two in
      let four = closes-stays (proxy_now proxy chosen) (sends_cancels proxy chosen) (cancels-stays proxy chosen three) in
      record { view = four.view; known = (four.known.0, four.known.1, rests proxy.req (closes (proxy_now proxy chosen) (sends_cancels proxy chosen)) four); legs = four.legs }

  acts-stays : (config : Config) (working : Working) (proxy : Proxy) → Other number sess event request proxy → Stays working → Stays (acts config working proxy)
  unfolding acts
  acts-stays config working proxy other stays = if-stays _ working _ stays (acted-stays config proxy working other stays)

  all-stay : (proxies : List Proxy) (config : Config) (working : Working) → All (Other number sess event request) proxies → Stays working → Stays (fold (acts config) working proxies)
  unfolding All
  all-stay [] config working others stays = stays
  all-stay (p ∷ proxies) config working others stays = all-stay proxies config (acts config working p) others.1 (acts-stays config working p others.0 stays)

  all_act-stays : (config : Config) (working : Working) → Stays working → Stays (all_act config working)
  unfolding all_act
  all_act-stays config working stays = all-stay working.known.proxies config working stays.known.2 stays

  pub before-stays : (config : Config) (req : Option ReqId) (end : End) (working : Working) → View-at working.play.view → Known-at working.known → Valid working.known.legs
      → Stays (all_act config (faulted config req end (drafts_ended working)))
  before-stays config req end working shown known legs = all_act-stays config _ (faulted-stays config req end _ (drafts-stay working shown known legs))

  -- ## What is found in the end

  pub found-shown : (requests : List RequestView) → Has number sess request.hops request.method requests → (q : RequestView) × (find (is_request (record { 0 = number })) requests ≡ Some q)
  unfolding Has
  found-shown [] has = absurd has
  found-shown (x ∷ xs) (inl is) = by (x.id.0 == number) (same-test x.id.0 number is)
    where
      by : (b : Bool) → b ≡ true → (q : RequestView) × (cond b (Some x) (find (is_request (record { 0 = number })) xs) ≡ Some q)
      by true is = (x, refl)
      by false is = cc
  found-shown (x ∷ xs) (inr later) = by (x.id.0 == number) (found-shown xs later)
    where
      by : (b : Bool) → (q : RequestView) × (find (is_request (record { 0 = number })) xs ≡ Some q) → (q : RequestView) × (cond b (Some x) (find (is_request (record { 0 = number })) xs) ≡ Some q)
      by true rest = (x, refl)
      by false rest = rest

  pub found-kept : (id : ReqId) (all : List Kept) → id.0 ≡ number → Keeps number sess event request all → (k : Kept) × (find (λ (kept : Kept). same_request kept.id id) all ≡ Some k)
  unfolding Keeps
  found-kept id [] here has = absurd has
  found-kept id (x ∷ xs) here (inl is) = by (x.id.0 == id.0) (same-test x.id.0 id.0 (is ∙ sym here))
    where
      by : (b : Bool) → b ≡ true → (k : Kept) × (cond b (Some x) (find (λ (kept : Kept). same_request kept.id id) xs) ≡ Some k)
      by true is = (x, refl)
      by false is = cc
  found-kept id (x ∷ xs) here (inr later) = by (x.id.0 == id.0) (found-kept id xs here later)
    where
      by : (b : Bool) → (k : Kept) × (find (λ (kept : Kept). same_request kept.id id) xs ≡ Some k) → (k : Kept) × (cond b (Some x) (find (λ (kept : Kept). same_request kept.id id) xs) ≡ Some k)
      by true rest = (x, refl)
      by false rest = rest

  -- what the turn has of the request before it is passed on
  pub record HasAll (working : Working) : Type 0 where
    pub q : RequestView
    pub shown : request_in working.play.view (record { 0 = number }) ≡ Some q
    pub fine : Fine number sess request.hops request.method q
    pub k : Kept
    pub kept : kept_of working.known q.id ≡ Some k
    pub is : k.request ≡ request
    pub way : k.way ≡ Received event
    pub valid : is_invalid working.known q.sess ≡ false

  invalid-is : (known : Known) (s : SessId) → ◌≡◌ {A = SessId} s sess → Valid known.legs → is_invalid known s ≡ false
  unfolding is_invalid leg_of
  invalid-is known s same legs = subst (λ (x : SessId). option_map_or (λ leg. leg.invalidated) (find (is_leg_of x) known.legs) false ≡ false) (sym same) legs

  pub valid-is : (known : Known) → is_invalid known sess ≡ false → Valid known.legs
  unfolding is_invalid leg_of
  valid-is known is = is

  pub has-all : (working : Working) → Stays working → HasAll working
  has-all working stays =
      let found = found-shown working.play.view.requests stays.view.2 in
      let here : found.0.id.0 ≡ number = same-number found.0.id.0 number (test-found (is_request (record { 0 = number })) working.play.view.requests found.0 found.1) in
      let fine = all-found (RightAt number sess request.hops request.method) (is_request (record { 0 = number })) working.play.view.requests found.0 found.1 stays.view.1 here in
      let kept = found-kept found.0.id working.known.kept here stays.known.1 in
      let same = all-found (KeepsAt number sess event request) (λ (k : Kept). same_request k.id found.0.id) working.known.kept kept.0 kept.1 stays.known.0
      (same-number kept.0.id.0 found.0.id.0 (test-found (λ (k : Kept). same_request k.id found.0.id) working.known.kept kept.0 kept.1) ∙ here) in
      record {
        q = found.0;
        shown = found.1;
        fine = fine;
        k = kept.0;
        kept = kept.1;
        is = same.0;
        way = same.1;
        valid = invalid-is working.known found.0.sess fine.3 stays.legs;
      }

  -- ## It is passed on

  goes-by : (config : Config) (kept : Kept) (working known : Working) (view : View) (b : Bool) → kept.request ≡ request → known.orders ≡ working.orders
      → PassesLast config request (in_view view (cond b (giving (orders.Acknowledge (on_branch config working.play.view (next_branch working) (passed_request kept.request)) ∷ []) working)
      (giving (orders.Send (next_branch working) (on_branch config working.play.view (next_branch working) (passed_request kept.request)) ∷ []) known))).orders
  goes-by config kept working known view true same orders-same = record {
    before = working.orders;
    order = orders.Acknowledge (on_branch config working.play.view (next_branch working) (passed_request kept.request));
    is = refl;
    view = working.play.view;
    branch = next_branch working;
    sends = Is_ack (ap (λ (r : Request). orders.Acknowledge (on_branch config working.play.view (next_branch working) (passed_request r))) same);
  }
  goes-by config kept working known view false same orders-same = record {
    before = working.orders;
    order = orders.Send (next_branch working) (on_branch config working.play.view (next_branch working) (passed_request kept.request));
    is = ap (λ (given : List Order). given ++ orders.Send (next_branch working) (on_branch config working.play.view (next_branch working) (passed_request kept.request)) ∷ []) orders-same;
    view = working.play.view;
    branch = next_branch working;
    sends = Is_send (next_branch working) (ap (λ (r : Request). orders.Send (next_branch working) (on_branch config working.play.view (next_branch working) (passed_request r))) same);
  }

  pub passed_on-goes : (config : Config) (kept : Kept) (working : Working) → kept.request ≡ request → PassesLast config request (passed_on config kept working).orders
  unfolding passed_on
  passed_on-goes config kept working same =
      goes-by config kept working (record working { known = record working.known { proxies = working.known.proxies ++ sent_proxy kept (next_branch working) ∷ [] } }) (drawn working.play.view)
      (same_bytes kept.request.method ack) same refl

  -- whether it goes or not
  stops-not : (P : List Order → Type 0) (first proxied ended : Bool) → first ≡ false → proxied ≡ true → ended ≡ false → (x y : Working) → P y.orders → P (cond (first || not proxied || ended) x y).orders
  stops-not P false true false p q r x y ok = ok
  stops-not P true proxied ended p q r x y ok = cc
  stops-not P false false ended p q r x y ok = cc
  stops-not P false true true p q r x y ok = cc

  some-orders : (config : Config) (working : Working) (has : HasAll working) (P : List Order → Type 0) → ((h : ℕ) → request.hops ≡ suc h → P (passed_on config has.k working).orders)
      → (request.hops ≡ zero → P (hops_spent config has.q working).orders) → P (passed_later config has.q (Some has.k) working).orders
  unfolding passed_later
  some-orders config working has P goes stops =
      stops-not P has.q.initial has.q.proxied (is_invalid working.known has.q.sess) has.fine.0 has.fine.1 has.valid working
      (cond (has.q.hops == 0) (hops_spent config has.q working) (passed_on config has.k working)) (by (has.q.hops == 0) refl)
    where
      by : (b : Bool) → (has.q.hops == 0) ≡ b → P (cond b (hops_spent config has.q working) (passed_on config has.k working)).orders
      by true is = stops (sym has.fine.4 ∙ same-number has.q.hops 0 is)
      by false is = goes (hops-more request.hops (subst (λ (n : ℕ). (n == 0) ≡ false) has.fine.4 is)).0 (hops-more request.hops (subst (λ (n : ℕ). (n == 0) ≡ false) has.fine.4 is)).1

  chosen-orders : (config : Config) (working : Working) (has : HasAll working) (P : List Order → Type 0) → ((h : ℕ) → request.hops ≡ suc h → P (passed_on config has.k working).orders)
      → (request.hops ≡ zero → P (hops_spent config has.q working).orders) → P (passed_later config has.q (kept_of working.known has.q.id) working).orders
  chosen-orders config working has P goes stops =
      subst (λ (kept : Option Kept). P (passed_later config has.q kept working).orders) (sym has.kept) (some-orders config working has P goes stops)

  pub later-orders : (config : Config) (working : Working) (has : HasAll working) (P : List Order → Type 0) → ((h : ℕ) → request.hops ≡ suc h → P (passed_on config has.k working).orders)
      → (request.hops ≡ zero → P (hops_spent config has.q working).orders) → P (passes_later config (queued.Request request) (Some (record { 0 = number })) working).orders
  unfolding passes_later passed_request_of is_request_event
  later-orders config working has P goes stops = rw has.shown (chosen-orders config working has P goes stops)

  -- ## It is answered 483

  code-here : (config : Config) (view : View) (b : Bool) (response : Response) → (cond b (record response { head = record response.head { contact = At (own_address config view.epoch view.app) ∷ [] } }) response).code ≡ response.code
  code-here config view true response = refl
  code-here config view false response = refl

  code-routes : (b : Bool) (came : Request) (response : Response) → (cond b (record response { head = record response.head { record_route = came.head.record_route } }) response).code ≡ response.code
  code-routes true came response = refl
  code-routes false came response = refl

  pub given-code : (config : Config) (view : View) (tag : Bytes) (initial : Bool) (came : Request) (answer : Answer) → (given_response config view tag initial came answer).code ≡ answer.code
  unfolding given_response with_routes answered_here response_to
  given-code config view tag initial came answer = code-routes _ came _ ∙ code-here config view _ _

  pub answers-are : (config : Config) (view : View) (answer : Answer) (kept : Option Kept) (k : Kept) (initial : Bool) → kept ≡ Some k → k.way ≡ Received event
      → answers config answer view kept initial ≡ orders.Respond event (given_response config view (own_tag_of view k.sess) initial k.request answer) ∷ []
  unfolding answers answer_order
  answers-are config view answer kept k initial is way = rw (is, way) refl

  pub spent-orders : (config : Config) (working : Working) (has : HasAll working) → AnswersLast event 483 request (hops_spent config has.q working).orders
  unfolding hops_spent is_owed answering AnswersLast bare_answer
  spent-orders config working has = by (same_bytes has.q.method ack) refl
    where
      by : (b : Bool) → same_bytes has.q.method ack ≡ b → AnswersLast event 483 request (cond (has.q.received && is_none has.q.answered && not (same_bytes has.q.method ack))
          (in_view (answered (Some has.q) 483 working.play.view) (answering config (Some has.q) (bare_answer 483 too_many_hops) working)) working).orders
      by true is = inl (subst (λ (m : Bytes). same_bytes m ack ≡ true) has.fine.6 is)
      by false is = rw (has.fine.5, has.fine.2, is)
          (inr (
            working.orders,
            given_response config working.play.view (own_tag_of working.play.view has.k.sess) has.q.initial has.k.request (bare_answer 483 too_many_hops),
            given-code config working.play.view _ _ _ _,
            ap (λ (given : List Order). working.orders ++ given) (answers-are config working.play.view (bare_answer 483 too_many_hops) _ has.k has.q.initial has.kept has.way),
          ))

-- ## The whole turn

abbrev pub dated : Session → ℕ → Session
dated x now = record x { view = record x.view { now = now } }

requested : (y : Session) (event : ℕ) (sess : SessId) (found : SessionView) (request : Request) → session_in y.view sess ≡ Some found → is_low (leg_of y.known sess) request ≡ false
    → prepared_request y event request (Some sess) ≡ taken y event found request
unfolding prepared_request taken_in
requested y event sess found request there high = rw (there, high) refl

pub shown-is : (config : Config) (ringing : List ℕ) (x : Session) (event now : ℕ) (request : Request) (sess : SessId) (found : SessionView) → session_for x request ≡ Some sess
    → session_in x.view sess ≡ Some found → is_low (leg_of x.known sess) request ≡ false
    → prepared config ringing x (record { number = event; event = queued.Request request }) now ≡ taken (dated x now) event found request
unfolding prepared prepared_for session_for
shown-is config ringing x event now request sess found for there high =
    ap (λ (which : Option SessId). prepared_request (dated x now) event request which) for ∙ requested (dated x now) event sess found request there high

-- what is shown at first
pub taken-view : (x : Session) (event : ℕ) (found : SessionView) (request : Request) → AreCounted x → is_proxy found.role ≡ true
    → ShownAt x.view.next_request found.id event request (taken x event found request).view
unfolding taken showing request_view All
taken-view x event found request counted proxy =
    received-holds (λ v k. ShownAt x.view.next_request found.id event request v) x event found.id false (is_proxy found.role) request
    (λ invited. (
      one-up x.view.next_request,
      all-append (RightAt x.view.next_request found.id request.hops request.method) x.view.requests _
          (all-map (λ (r : RequestView). r.id.0 < x.view.next_request) (RightAt x.view.next_request found.id request.hops request.method) x.view.requests (λ r less is. absurd (not-self r.id.0 x.view.next_request less is)) counted.numbered.1)
          (λ is. (refl, proxy, refl, refl, refl, refl, refl)),
      has-last x.view.next_request found.id request.hops request.method x.view.requests _ refl,
    ))

pub taken-known : (x : Session) (event : ℕ) (found : SessionView) (request : Request) → AreCounted x
    → Knows x.view.next_request found.id event request (taken x event found request).known
unfolding taken showing change_leg
taken-known x event found request counted =
    received-holds (λ v k. Knows x.view.next_request found.id event request k) x event found.id false (is_proxy found.role) request
    (λ invited. (
      all-append (KeepsAt x.view.next_request found.id event request) x.known.kept _
          (all-map (λ (k : Kept). k.id.0 < x.view.next_request) (KeepsAt x.view.next_request found.id event request) x.known.kept (λ k less is. absurd (not-self k.id.0 x.view.next_request less is)) counted.numbered.0)
          (λ is. (refl, refl)),
      keeps-last x.view.next_request found.id event request x.known.kept _ refl,
      all-map (λ (p : Proxy). p.req.0 < x.view.next_request) (Other x.view.next_request found.id event request) x.known.proxies (λ p less is. not-self p.req.0 x.view.next_request less is) counted.proxied,
    ))

pub taken-req : (x : Session) (event : ℕ) (found : SessionView) (request : Request) → (taken x event found request).req ≡ Some (next_id x)
unfolding taken showing
taken-req x event found request = refl

-- once it was shown
shown-orders : (config : Config) (shown : Prepared) (x : Session) (event : ℕ) (found : SessionView) (request : Request) (made : List CallRecord) (end : End) → shown ≡ taken x event found request
    → AreCounted x → is_proxy found.role ≡ true → All (Leaves x.view.next_request found.id event request) made
    → is_invalid (worked_all config shown made).known found.id ≡ false → (P : List Order → Type 0)
    → ((working : Working) (has : HasAll x.view.next_request found.id event request working) (h : ℕ) → request.hops ≡ suc h → P (passed_on config has.k working).orders)
    → ((working : Working) (has : HasAll x.view.next_request found.id event request working) → request.hops ≡ zero → P (hops_spent config has.q working).orders)
    → P (finished config (queued.Request request) shown.req end (worked_all config shown made)).orders
unfolding finished worked_all starts begun
shown-orders config shown x event found request made end same counted proxy leaves valid P goes stops =
    let n : ℕ = x.view.next_request in
    let view : ShownAt n found.id event request shown.view = subst (λ (p : Prepared). ShownAt n found.id event request p.view) (sym same) (taken-view x event found request counted proxy) in
    let known : Knows n found.id event request shown.known = subst (λ (p : Prepared). Knows n found.id event request p.known) (sym same) (taken-known x event found request counted) in
    let worked = all-hold n found.id event request made config (starts shown) leaves view known in
    let stays = before-stays n found.id event request config shown.req end (worked_all config shown made) worked.0 worked.1 (valid-is n found.id event request (worked_all config shown made).known valid) in
    let acting : Working = all_act config (faulted config shown.req end (drafts_ended (worked_all config shown made))) in
    let has = has-all n found.id event request acting stays in
    subst (λ (req : Option ReqId). P (passes_later config (queued.Request request) req acting).orders) (sym (ap (λ (p : Prepared). p.req) same ∙ taken-req x event found request))
    (later-orders n found.id event request config acting has P (λ h is. goes acting has h is) (λ is. stops acting has is))

module _ (config : Config) (ringing : List ℕ) (x : Session) (event : ℕ) (request : Request) (now : ℕ) (made : List CallRecord) (end : End) (counted : AreCounted x) (comes : ComesToProxy x request)
    (alone : IsLeftAlone config ringing x event request now made comes.found.id) where
  abbrev Waits : Waiting
  Waits = record { number = event; event = queued.Request request }

  turn-orders : (P : List Order → Type 0)
      → ((working : Working) (has : HasAll x.view.next_request comes.found.id event request working) (h : ℕ) → request.hops ≡ suc h → P (passed_on config has.k working).orders)
      → ((working : Working) (has : HasAll x.view.next_request comes.found.id event request working) → request.hops ≡ zero → P (hops_spent config has.q working).orders)
      → P (outcome config ringing x Waits now made end).orders
  unfolding outcome outcome_of
  turn-orders P goes stops =
      shown-orders config (prepared config ringing x Waits now) (dated x now) event comes.found request made end
      (shown-is config ringing x event now request comes.sess comes.found comes.for comes.there comes.high) (record { numbered = counted.numbered; proxied = counted.proxied }) comes.proxy alone.calls alone.valid P goes stops

pub turn-passes : (config : Config) (ringing : List ℕ) (x : Session) (event : ℕ) (request : Request) (now : ℕ) (made : List CallRecord) (end : End) (hops : ℕ) → AreCounted x → (comes : ComesToProxy x request)
    → IsLeftAlone config ringing x event request now made comes.found.id → request.hops ≡ suc hops
    → PassesLast config request (outcome config ringing x (record { number = event; event = queued.Request request }) now made end).orders
turn-passes config ringing x event request now made end hops counted comes alone some =
    turn-orders config ringing x event request now made end counted comes alone (PassesLast config request)
    (λ working has h is. passed_on-goes x.view.next_request comes.found.id event request config has.k working has.is) (λ working has none. absurd (zero-suc hops (sym none ∙ some)))

pub turn-spends : (config : Config) (ringing : List ℕ) (x : Session) (event : ℕ) (request : Request) (now : ℕ) (made : List CallRecord) (end : End) → AreCounted x → (comes : ComesToProxy x request)
    → IsLeftAlone config ringing x event request now made comes.found.id → request.hops ≡ zero
    → AnswersLast event 483 request (outcome config ringing x (record { number = event; event = queued.Request request }) now made end).orders
turn-spends config ringing x event request now made end counted comes alone none =
    turn-orders config ringing x event request now made end counted comes alone (AnswersLast event 483 request)
    (λ working has h some. absurd (zero-suc h (sym none ∙ some))) (λ working has is. spent-orders x.view.next_request comes.found.id event request config working has)
