-- Of the later requests that a turn gives to send none has other Vias than the own one, but that which came to it as it is
-- passed on.
use Rattle.std.proofs.Common.{◌≡◌, ◌≤◌, ◌⊎◌, inl, inr, ℕ, ◌++◌, Bool, true, false, Option, None, Some, List, [], ◌∷◌, refl, sym, subst, ◌∙◌, arith}
use Rattle.std.specs.Prelude.{◌==◌, cond, is_some, length, option_and_then}
use Rattle.std.proofs.lemmas.Bool.Decides.{nat_tests}
use Rattle.sc_value.specs.declared.ids.ReqId.{ReqId}
use Rattle.sc_value.specs.declared.ids.SessId.{SessId}
use Rattle.sc_value.specs.declared.message.Request.{Request}
use Rattle.sc_terms.specs.declared.calls.CallRecord.{CallRecord}
use Rattle.sc_terms.specs.declared.calls.End.{End}
use Rattle.sc_terms.specs.declared.settings.Config.{Config}
use Rattle.sc_terms.specs.declared.views.RequestView.{RequestView}
use Rattle.sc_terms.specs.declared.views.SessionView.{SessionView}
use Rattle.sc_terms.specs.declared.views.View.{View}
use Rattle.sc_state.specs.declared.orders.Order.{Order}
use Rattle.sc_state.specs.declared.orders.Order.TheVariants as orders
use Rattle.sc_state.specs.declared.queue.Queued.{Queued}
use Rattle.sc_state.specs.declared.queue.Queued.TheVariants as queued
use Rattle.sc_state.specs.declared.session.Kept.{Kept}
use Rattle.sc_state.specs.declared.session.Session.{Session}
use Rattle.sc_state.specs.declared.working.Prepared.{Prepared}
use Rattle.sc_state.specs.declared.working.Working.{Working}
use Rattle.sc_tokens.specs.Names.{same_bytes}
use Rattle.sc_tokens.specs.Bytes.{Bytes}
use Rattle.sc_model.specs.Dialogs.{tag_of}
use Rattle.sc_model.specs.OwnHosts.{is_own}
use Rattle.sc_model.specs.SessionStates.{ack}
use Rattle.sc_hosts.specs.Acting.{all_act, drafts_ended, after_fault as faulted, passes_later}
use Rattle.sc_hosts.specs.Destinations.{next_uri}
use Rattle.sc_hosts.specs.Finishing.{after_all_calls as finished, outcome, outcome_of}
use Rattle.sc_hosts.specs.Legs.{change_leg, is_low, leg_of, session_for}
use Rattle.sc_hosts.specs.Looking.{is_proxy, is_request, request_in, same_request, session_in}
use Rattle.sc_hosts.specs.Messages.{on_branch, passed_request}
use Rattle.sc_hosts.specs.Preparing.{prepared_session as prepared, prepared_for}
use Rattle.sc_hosts.specs.PreparingRequests.{next_id, prepared_request, refusal_orders as refused, showing, silent, prepared_for_request as taken, taken_in, too_low}
use Rattle.sc_hosts.specs.Working.{next_branch, worked_all}
use Rattle.sc_walked.proofs.WalkCalls.{session_at, worked_all-walks}
use Rattle.sc_walked.proofs.WalkEnds.{all_act-goes, done-any, drafts_ended-goes, faulted-goes}
use Rattle.sc_lasting.specs.Lasting.{All, Numbered}
use Rattle.sc_lasting.proofs.Began.{test-found}
use Rattle.sc_lasting.proofs.Parts.{all-append, all-found}
use Rattle.sc_given.specs.Givings.{Ends, Given_end, IsPassed, Passed_end}
use Rattle.sc_given.proofs.GivenPassing.{passes_later-ends}
use Rattle.sc_hops.specs.Hops.{AreShort, IsAny, IsOrdered, IsPassedBy, IsPassedWay, IsShort, IsUntagged}
use Rattle.sc_hops.proofs.InTurn.{HasCome, KeepsAs, ShowsAs, come-law, received-come}
use Rattle.sc_hops.proofs.ShortTurns.{Brief, before-short, short-giving, short-none, worked_all-short}

equal : (a b : ℕ) → (a == b) ≡ true → a ≡ b
equal a b is = grind (arith, nat_tests, is)

-- ## What a turn shows of a later request

-- nothing is shown, or it is, in this SipSession
data Shown (session : Session) (request : Request) (shown : Prepared) : Type 0 where
  Nothing_shown : shown.req ≡ None → AreShort shown.orders → Shown session request shown
  Request_shown : (sess : SessId) (found : SessionView) → session_for session request ≡ Some sess → session_in session.view sess ≡ Some found
      → shown.req ≡ Some (next_id session) → AreShort shown.orders
      → HasCome session.view.next_request request (is_proxy found.role) (record { view = shown.view; known = shown.known }) → Shown session request shown

refused-short : (number code : ℕ) (reason : Bytes) (request : Request) → AreShort (refused number code reason request)
unfolding refused AreShort IsShort
refused-short number code reason request = by (same_bytes request.method ack) _ (tt, tt)
  where
    by : (b : Bool) (given : List Order) → AreShort given → AreShort (cond b [] given)
    by true given short = short-none
    by false given short = short

if-shown : (b : Bool) (session : Session) (request : Request) (x y : Prepared) → Shown session request x → Shown session request y → Shown session request (cond b x y)
if-shown true session request x y p q = p
if-shown false session request x y p q = q

taken-shown : (session : Session) (number : ℕ) (sess : SessId) (found : SessionView) (request : Request) → Numbered session → session_for session request ≡ Some sess
    → session_in session.view sess ≡ Some found → Shown session request (taken session number found request)
unfolding taken showing change_leg
taken-shown session number sess found request ok for there =
    Request_shown sess found for there refl short-none (received-come session number found.id (is_proxy found.role) request ok)

taken_in-shown : (session : Session) (number : ℕ) (sess : SessId) (found : Option SessionView) (request : Request) → Numbered session → session_for session request ≡ Some sess
    → session_in session.view sess ≡ found → Shown session request (taken_in session number sess found request)
unfolding taken_in too_low silent
taken_in-shown session number sess None request ok for there = Nothing_shown refl short-none
taken_in-shown session number sess (Some found) request ok for there =
    if-shown (is_low (leg_of session.known sess) request) session request _ (taken session number found request) (Nothing_shown refl (refused-short number 500 _ request))
    (taken-shown session number sess found request ok for there)

prepared_request-shown : (session : Session) (number : ℕ) (request : Request) (sess : Option SessId) → Numbered session → session_for session request ≡ sess
    → Shown session request (prepared_request session number request sess)
unfolding prepared_request silent
prepared_request-shown session number request None ok for = Nothing_shown refl (refused-short number 481 _ request)
prepared_request-shown session number request (Some sess) ok for = taken_in-shown session number sess _ request ok for refl

-- ## What it gives to send

abbrev Come : ℕ → Request → Bool → Session → Session → Type 0
Come number request passed x y = HasCome number request passed x → HasCome number request passed y

-- until a later request is passed on
come-before : (config : Config) (number : ℕ) (request : Request) (passed : Bool) (shown : Prepared) (req : Option ReqId) (made : List CallRecord) (end : End)
    → HasCome number request passed (record { view = shown.view; known = shown.known })
    → HasCome number request passed (session_at (all_act config (faulted config req end (drafts_ended (worked_all config shown made)))))
come-before config number request passed shown req made end ok =
    let first : Session = record { view = shown.view; known = shown.known } in
    let law = come-law number request passed in
    let done = worked_all-walks queued.Ready (λ call. Unit {0}) (Come number request passed) law config first shown made (done-any made (λ call. Unit {0}) (λ call. tt) _) (λ ok. ok) ok in
    let left = drafts_ended-goes queued.Ready (λ call. Unit {0}) (Come number request passed) law (worked_all config shown made) done in
    let fault = faulted-goes queued.Ready (λ call. Unit {0}) (Come number request passed) law config req end (drafts_ended (worked_all config shown made)) left in
    all_act-goes queued.Ready (λ call. Unit {0}) (Come number request passed) law config (faulted config req end (drafts_ended (worked_all config shown made))) fault

-- the kind of requests
two-one : (n : ℕ) → ◌≡◌ {A = ℕ} n 1 → 2 ≤ n → ⊥
two-one n one two = omega (arith, one, two)

clash : (b : Bool) → b ≡ true → b ≡ false → ⊥
clash b p q = cc

module _ (config : Config) (session : Session) (request : Request) where
  abbrev Way : Request → Type 0
  Way sent = IsPassedWay config session request sent

  short-ordered : (order : Order) → IsShort order → IsUntagged order → IsOrdered config Way IsAny order
  unfolding IsShort IsUntagged IsOrdered
  short-ordered (orders.Respond event response) short first = tt
  short-ordered (orders.Begin branch directive region state sent) short first = ((λ long tagged. absurd (clash (is_some (tag_of sent.head.to)) tagged first)), λ routes. tt)
  short-ordered (orders.Send branch sent) short first = (tt, λ own long tagged. absurd (two-one (length sent.head.via) short long))
  short-ordered (orders.Acknowledge sent) short first = λ own long tagged. absurd (two-one (length sent.head.via) short long)
  short-ordered (orders.Cancel branch) short first = tt
  short-ordered (orders.CancelNow branch) short first = tt

  shorts-ordered : (given : List Order) → AreShort given → All IsUntagged given → All (IsOrdered config Way IsAny) given
  unfolding AreShort All
  shorts-ordered [] short first = tt
  shorts-ordered (order ∷ given) short first = (short-ordered order short.0 first.0, shorts-ordered given short.1 first.1)

  front : (P : Order → Type 0) (xs ys : List Order) → All P (xs ++ ys) → All P xs
  unfolding All
  front P [] ys all = tt
  front P (x ∷ xs) ys all = (all.0, front P xs ys all.1)

  -- the one that is passed on
  abbrev As : View → ℕ → Request → Request
  As view branch came = on_branch config view branch (passed_request came)

  passed : (view : View) (branch : ℕ) (sent : Request) (sess : SessId) (found : SessionView) → session_for session request ≡ Some sess
      → session_in session.view sess ≡ Some found → is_proxy found.role ≡ true → sent ≡ As view branch request
      → is_own config (next_uri sent) ≡ true → Way sent
  passed view branch sent sess found for there proxy is own =
      λ long tagged. record { view = view; branch = branch; is = is; own = own; sess = sess; for = for; found = found; there = there; proxy = proxy }

  passed-ordered : (view : View) (branch : ℕ) (order : Order) (sess : SessId) (found : SessionView) → session_for session request ≡ Some sess
      → session_in session.view sess ≡ Some found → is_proxy found.role ≡ true
      → (◌≡◌ {A = Order} order (orders.Send branch (As view branch request))) ⊎ (◌≡◌ {A = Order} order (orders.Acknowledge (As view branch request)))
      → IsOrdered config Way IsAny order
  unfolding IsOrdered
  passed-ordered view branch order sess found for there proxy (inl is) = rw is (tt, λ own. passed view branch _ sess found for there proxy refl own)
  passed-ordered view branch order sess found for there proxy (inr is) = rw is (λ own. passed view branch _ sess found for there proxy refl own)

  kind-is : (working : Working) (kept : Kept) (order : Order) → kept.request ≡ request → IsPassed config kept working order
      → (◌≡◌ {A = Order} order (orders.Send (next_branch working) (As working.play.view (next_branch working) request)))
      ⊎ (◌≡◌ {A = Order} order (orders.Acknowledge (As working.play.view (next_branch working) request)))
  unfolding IsPassed
  kind-is working kept order same is =
      subst (λ (r : Request). (◌≡◌ {A = Order} order (orders.Send (next_branch working) (As working.play.view (next_branch working) r))) ⊎ (◌≡◌ {A = Order} order (orders.Acknowledge (As working.play.view (next_branch working) r)))) same is

  found-number : (number : ℕ) (r : RequestView) → r.id.0 ≡ number → (passed : Bool) → ShowsAs number passed r → r.proxied ≡ true → passed ≡ true
  unfolding ShowsAs
  found-number number r is passed shows proxied = (shows is).0 proxied

  kept-request : (number : ℕ) (kept : Kept) → kept.id.0 ≡ number → KeepsAs number request kept → kept.request ≡ request
  unfolding KeepsAs
  kept-request number kept is keeps = keeps is

  -- what it gives in all
  ends-ordered : (event : Queued) (shown : Prepared) (working after : Working) → Shown session request shown → Brief working
      → ((passed : Bool) → HasCome session.view.next_request request passed (record { view = shown.view; known = shown.known }) → HasCome session.view.next_request request passed (session_at working))
      → Ends AreShort config event shown.req working after → All IsUntagged after.orders → All (IsOrdered config Way IsAny) after.orders
  ends-ordered event shown working after shows brief comes (Given_end short) first = shorts-ordered after.orders short first
  ends-ordered event shown working after (Nothing_shown none short) brief comes (Passed_end r kept order later found has proxied is given) first = absurd (nothing shown.req none found)
    where
      nothing : (req : Option ReqId) → req ≡ None → option_and_then (request_in working.play.view) req ≡ Some r → ⊥
      nothing None none is = cc
      nothing (Some req) none is = cc
  ends-ordered event shown working after (Request_shown sess seen for there req short came) brief comes (Passed_end r kept order later found has proxied is given) first =
      let stays = comes (is_proxy seen.role) came in
      let at : request_in working.play.view (next_id session) ≡ Some r = subst (λ (req : Option ReqId). option_and_then (request_in working.play.view) req ≡ Some r) req found in
      let number : r.id.0 ≡ session.view.next_request = equal r.id.0 session.view.next_request (test-found (is_request (next_id session)) working.play.view.requests r at) in
      let kept-number : kept.id.0 ≡ session.view.next_request = equal kept.id.0 r.id.0 (test-found (λ kept. same_request kept.id r.id) working.known.kept kept has) ∙ number in
      let same : kept.request ≡ request = kept-request session.view.next_request kept kept-number (all-found (KeepsAs session.view.next_request request) (λ kept. same_request kept.id r.id) working.known.kept kept has stays.1) in
      let proxy : is_proxy seen.role ≡ true = found-number session.view.next_request r number (is_proxy seen.role) (all-found (ShowsAs session.view.next_request (is_proxy seen.role)) (is_request (next_id session)) working.play.view.requests r at stays.2) proxied in
      let all : All IsUntagged (working.orders ++ order ∷ []) = subst (λ (given : List Order). All IsUntagged given) given first in
      subst (λ (given : List Order). All (IsOrdered config Way IsAny) given) (sym given)
      (all-append (IsOrdered config Way IsAny) working.orders order (shorts-ordered working.orders brief (front IsUntagged working.orders (order ∷ []) all))
      (passed-ordered working.play.view (next_branch working) order sess seen for there proxy (kind-is working kept order same is)))

shown-short : (session : Session) (request : Request) (shown : Prepared) → Shown session request shown → AreShort shown.orders
shown-short session request shown (Nothing_shown none short) = short
shown-short session request shown (Request_shown sess found for there req short came) = short

dated-for : (session : Session) (now : ℕ) (request : Request) → session_for (record session { view = record session.view { now = now } }) request ≡ session_for session request
unfolding session_for
dated-for session now request = refl

pub dated-passed : (config : Config) (session : Session) (now : ℕ) (request sent : Request) → IsPassedBy config (record session { view = record session.view { now = now } }) request sent
    → IsPassedBy config session request sent
dated-passed config session now request sent p =
    record { view = p.view; branch = p.branch; is = p.is; own = p.own; sess = p.sess; for = sym (dated-for session now request) ∙ p.for; found = p.found; there = p.there; proxy = p.proxy }

-- of the orders of a whole turn, whose event is this request
pub turn-ordered : (config : Config) (ringing : List ℕ) (session : Session) (number : ℕ) (request : Request) (now : ℕ) (made : List CallRecord) (end : End) → Numbered session
    → All IsUntagged (outcome config ringing session (record { number = number; event = queued.Request request }) now made end).orders
    → All (IsOrdered config (IsPassedWay config (record session { view = record session.view { now = now } }) request) IsAny) (outcome config ringing session (record { number = number; event = queued.Request request }) now made end).orders
unfolding outcome outcome_of finished prepared prepared_for
turn-ordered config ringing session number request now made end ok first =
    let at : Session = record session { view = record session.view { now = now } } in
    let shown : Prepared = prepared_request at number request (session_for at request) in
    let shows = prepared_request-shown at number request (session_for at request) ok refl in
    let working : Working = worked_all config shown made in
    let brief : Brief working = worked_all-short config shown made (shown-short at request shown shows) in
    let ready : Working = all_act config (faulted config shown.req end (drafts_ended working)) in
    let short : Brief ready = before-short config shown.req end working brief in
    ends-ordered config at request (queued.Request request) shown ready (passes_later config (queued.Request request) shown.req ready) shows short
    (λ passed came. come-before config at.view.next_request request passed shown shown.req made end came)
    (passes_later-ends IsShort AreShort short-giving config (queued.Request request) shown.req ready short) first
