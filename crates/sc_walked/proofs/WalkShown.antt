-- What a turn shows keeps each relation with the laws.
use Rattle.std.proofs.Common.{◌≡◌, ℕ, ◌+◌, ◌++◌, Bool, true, false, Option, None, Some, List, [], ◌∷◌, refl, sym, ◌∙◌, ap, append_assoc, append-nil}
use Rattle.std.specs.Prelude.{cond, ◌&&◌, not, is_none, is_some, length, map}
use Rattle.std.specs.List.{find}
use Rattle.std.specs.Option.{option_map_or}
use Rattle.sc_value.specs.declared.ids.ReqId.{ReqId}
use Rattle.sc_value.specs.declared.ids.SessId.{SessId}
use Rattle.sc_value.specs.declared.ids.Region.{Region}
use Rattle.sc_value.specs.declared.parts.Address.{Address}
use Rattle.sc_value.specs.declared.parts.Uri.{Uri}
use Rattle.sc_value.specs.declared.message.Request.{Request}
use Rattle.sc_value.specs.declared.message.Response.{Response}
use Rattle.sc_terms.specs.declared.settings.Config.{Config}
use Rattle.sc_terms.specs.declared.events.Event.{Event}
use Rattle.sc_terms.specs.declared.events.Event.TheVariants as events
use Rattle.sc_terms.specs.declared.views.State.TheVariants.{Terminated}
use Rattle.sc_terms.specs.declared.calls.Call.{Call}
use Rattle.sc_terms.specs.declared.views.RequestView.{RequestView}
use Rattle.sc_terms.specs.declared.views.SessionView.{SessionView}
use Rattle.sc_terms.specs.declared.views.TimerView.{TimerView}
use Rattle.sc_state.specs.declared.orders.Order.{Order}
use Rattle.sc_state.specs.declared.proxy.Proxy.{Proxy}
use Rattle.sc_state.specs.declared.queue.Queued.{Queued}
use Rattle.sc_state.specs.declared.queue.Queued.TheVariants as queued
use Rattle.sc_state.specs.declared.queue.Waiting.{Waiting}
use Rattle.sc_state.specs.declared.session.Invited.{Invited}
use Rattle.sc_state.specs.declared.session.Kept.{Kept}
use Rattle.sc_state.specs.declared.session.Known.{Known}
use Rattle.sc_state.specs.declared.session.Leg.{Leg}
use Rattle.sc_state.specs.declared.session.Session.{Session}
use Rattle.sc_state.specs.declared.working.Prepared.{Prepared}
use Rattle.sc_tokens.specs.Bytes.{Bytes}
use Rattle.sc_model.specs.Transactions.{is_failure, is_success}
use Rattle.sc_model.specs.Dialogs.{tag_of, dialog_of, Calling, By_peer}
use Rattle.sc_value.specs.declared.message.Message.TheVariants as messages
use Rattle.sc_model.specs.Names.{edge_tag}
use Rattle.sc_model.specs.SessionStates.{is_final}
use Rattle.sc_hosts.specs.Branches.{is_supervised, without_search as stopped, to_cancel, ended_by, proxy_after_response as heard, after_end, ended_branch, with_candidate, with_targets, added_targets, passing_on, recurses, after_ringing as rung, is_global, branch_in, is_open}
use Rattle.sc_hosts.specs.DerivedSessions.{Handling, In, Takes, Derives, handled_in, is_overtaken, loses_tag, overtaken_session, overtaken_leg, overtaken, is_of, failed_session, without_derived}
use Rattle.sc_hosts.specs.Legs.{change_leg, FIRST_SESSION, in_dialog, with_request, with_answer, answered_leg, as_answer, makes_dialog_of}
use Rattle.sc_hosts.specs.Looking.{change_request, same_session, session_in, is_proxy, in_state}
use Rattle.sc_hosts.specs.Messages.{own_response}
use Rattle.sc_hosts.specs.PreparingRequests.{silent, showing, showing_in, with_received_request as received, too_low, prepared_for_request as taken, taken_in, prepared_request}
use Rattle.sc_hosts.specs.PreparingResponses.{is_sent_on, noted_final, shown_again, with_request_again, responded_again, accepts_invite, with_success, is_first_success, settled_legs, with_handled_response as responded, session_of_response as placed, responded_in, prepared_own, with_branches, heard_in, branch_placed, prepared_branch, prepared_response, change_proxy}
use Rattle.sc_hosts.specs.Preparing.{kept_of, proxy_of, prepared_end as terminated, cancelled_proxy, cancelled_request, prepared_cancel, after_timer as fired, prepared_timer, has_expired, prepared_expiry, timed_out, prepared_branch_timer, prepared_for, prepared_session as prepared}
use Rattle.sc_hosts.specs.ViewChanges.{tidy, answered_in, with_answer as with_final}
use Rattle.sc_hosts.specs.Words.{request_timeout}
use Rattle.sc_walked.proofs.WalkParts.{each-map, follow-ended, follow-same, if-is, moved, answer-same, same-request, same-leg, same-proxy, stays-on, session-walks, sessions-walk, request-walks, leg-walks, proxy-walks, tidy-walks, answered_in-walks, answered-walks, if-walks}
use Rattle.sc_walked.specs.SessionWalks.{IsMoved, IsSameRequest, IsSameLeg, IsSameProxy, IsKeptProxy, HasGoneOn, IsShownAgain, Brings, SessionLaws}

-- ## What a message makes of a SipSession, a request and a proxy leaves what it is

state-moved : (s : SessionView) → IsMoved s (in_state Terminated s)
unfolding in_state
state-moved s = record { id = refl; role = refl; call_id = refl; own_tag = refl; linked = refl; gone = refl; state = follow-ended s.role s.state }

overtaken-moved : (known : Known) (req : ReqId) (sess : SessId) (s : SessionView)
    → IsMoved s (overtaken_session known req sess s)
unfolding overtaken_session
overtaken-moved known req sess s = if-is (IsMoved s) (is_overtaken known req sess s) (in_state Terminated s) s (state-moved s) (moved s)

failed-moved : (known : Known) (req : ReqId) (original : SessId) (s : SessionView)
    → IsMoved s (failed_session known req original s)
unfolding failed_session
failed-moved known req original s = if-is (IsMoved s) (is_of known req s && not (same_session s.id original)) (in_state Terminated s) s (state-moved s) (moved s)

overtaken-leg : (session : Session) (req : ReqId) (sess : SessId) (leg : Leg) → IsSameLeg leg (overtaken_leg session req sess leg)
unfolding overtaken_leg
overtaken-leg session req sess leg = if-is (IsSameLeg leg) (loses_tag session req sess leg) (record leg { overtaken = true }) leg (record { id = refl; caller = refl }) (same-leg leg)

success-same : (sess : SessId) (response : Response) (r : RequestView) → IsSameRequest r (with_success sess response r)
unfolding with_success
success-same sess response r = if-is (IsSameRequest r) _ _ r (record { id = refl; sess = refl; method = refl; received = refl; initial = refl; proxied = refl }) (same-request r)

pub request-leg : (request : Request) (leg : Leg) → IsSameLeg leg (with_request request leg)
unfolding with_request in_dialog
request-leg request leg = record { id = refl; caller = refl }

answered-leg : (request : Request) (response : Response) (leg : Leg) → IsSameLeg leg (answered_leg request response leg)
unfolding answered_leg in_dialog
answered-leg request response leg =
    let made : Leg = record leg { dialog = Some (dialog_of (Calling request response) []) } in
    if-is (IsSameLeg leg) (is_some leg.dialog) (in_dialog (By_peer (messages.Response response)) leg) (cond (makes_dialog_of request response) made leg) (record { id = refl; caller = refl })
    (if-is (IsSameLeg leg) (makes_dialog_of request response) made leg (record { id = refl; caller = refl }) (same-leg leg))

answer-leg : (request : Request) (response : Response) (leg : Leg) → IsSameLeg leg (with_answer request response leg)
unfolding with_answer
answer-leg request response leg = answered-leg request (as_answer request response) leg

-- a proxied request goes on and on
pub gone-then : (x y z : Proxy) → HasGoneOn x y → HasGoneOn y z → HasGoneOn x z
gone-then x y z p q = record {
  more = p.more ++ q.more;
  tried = q.tried ∙ ap (λ us. us ++ q.more) p.tried ∙ append_assoc x.tried p.more q.more;
  settled = λ is. q.settled (p.settled is);
  forwarded = λ is. q.forwarded (ap (λ f. is_some f) (p.forwarded is) ∙ is) ∙ p.forwarded is;
}

pub stopped-same : (proxy : Proxy) → IsSameProxy proxy (stopped proxy)
unfolding stopped
stopped-same proxy = record {
  req = refl;
  sess = refl;
  event = refl;
  request = refl;
  options = refl;
  on = record { more = []; tried = sym (append-nil proxy.tried); settled = λ is. refl; forwarded = λ is. refl };
}

then-same : (x y z : Proxy) → IsSameProxy x y → IsSameProxy y z → IsSameProxy x z
then-same x y z p q = record { req = q.req ∙ p.req; sess = q.sess ∙ p.sess; event = q.event ∙ p.event; request = q.request ∙ p.request; options = q.options ∙ p.options; on = gone-then x y z p.on q.on }

candidate-same : (response : Response) (proxy : Proxy) → IsSameProxy proxy (with_candidate response proxy)
unfolding with_candidate
candidate-same response proxy =
    if-is (IsSameProxy proxy) _ proxy (record proxy { candidates = proxy.candidates ++ response ∷ [] }) (same-proxy proxy)
    (record { req = refl; sess = refl; event = refl; request = refl; options = refl; on = stays-on proxy (record proxy { candidates = proxy.candidates ++ response ∷ [] }) refl refl refl })

ended-branch-same : (number code : ℕ) (proxy : Proxy) → IsSameProxy proxy (ended_branch number code proxy)
unfolding ended_branch
ended-branch-same number code proxy =
    record { req = refl; sess = refl; event = refl; request = refl; options = refl; on = stays-on proxy (ended_branch number code proxy) refl refl refl }

pub targets-same : (uris : List Uri) (proxy : Proxy) → IsSameProxy proxy (with_targets uris proxy)
unfolding with_targets
targets-same uris proxy =
    record { req = refl; sess = refl; event = refl; request = refl; options = refl; on = record { more = uris; tried = refl; settled = λ is. is; forwarded = λ is. refl } }

passing-same : (sess : SessId) (response : Response) (proxy : Proxy)
    → IsSameProxy proxy (passing_on sess response proxy)
unfolding passing_on
passing-same sess response proxy =
    record { req = refl; sess = refl; event = refl; request = refl; options = refl; on = stays-on proxy (passing_on sess response proxy) refl refl refl }

ended_by-same : (number : ℕ) (sess : SessId) (response : Response) (proxy : Proxy)
    → IsSameProxy proxy (ended_by number sess response proxy)
unfolding ended_by
ended_by-same number sess response proxy =
    let one = ended_branch number response.code proxy in
    let two = with_candidate response one in
    let ended = with_targets (added_targets proxy response) two in
    let all = then-same proxy two ended (then-same proxy one two (ended-branch-same number response.code proxy) (candidate-same response one)) (targets-same (added_targets proxy response) two) in
    let stop = then-same proxy ended (stopped ended) all (stopped-same ended) in
    if-is (IsSameProxy proxy) (is_success response.code) (passing_on sess response (stopped ended)) (cond (is_global response.code) (stopped ended) ended)
    (then-same proxy (stopped ended) (passing_on sess response (stopped ended)) stop (passing-same sess response (stopped ended)))
    (if-is (IsSameProxy proxy) (is_global response.code) (stopped ended) ended stop all)

heard-same : (number : ℕ) (sess : SessId) (response : Response) (now : ℕ) (proxy : Proxy)
    → IsSameProxy proxy (heard number sess response now proxy)
unfolding heard after_end rung
heard-same number sess response now proxy =
    if-is (IsSameProxy proxy) (not (option_map_or is_open (branch_in proxy number) false)) (after_end sess response proxy) (cond (is_final response.code) (ended_by number sess response proxy) (passing_on sess response (rung number now proxy)))
    (if-is (IsSameProxy proxy) (is_success response.code) (passing_on sess response (stopped proxy)) proxy (then-same proxy (stopped proxy) (passing_on sess response (stopped proxy)) (stopped-same proxy) (passing-same sess response (stopped proxy))) (same-proxy proxy))
    (if-is (IsSameProxy proxy) (is_final response.code) (ended_by number sess response proxy) (passing_on sess response (rung number now proxy)) (ended_by-same number sess response proxy)
    (then-same proxy (rung number now proxy) (passing_on sess response (rung number now proxy))
    (record { req = refl; sess = refl; event = refl; request = refl; options = refl; on = stays-on proxy (rung number now proxy) refl refl refl }) (passing-same sess response (rung number now proxy))))

cancel-same : (branch : ℕ) (proxy : Proxy) → IsSameProxy proxy (to_cancel branch proxy)
unfolding to_cancel
cancel-same branch proxy =
    record { req = refl; sess = refl; event = refl; request = refl; options = refl; on = stays-on proxy (to_cancel branch proxy) refl refl refl }

-- ## Targets

both-none : (xs ys : List Uri) → xs ≡ [] → ys ≡ [] → xs ++ ys ≡ []
both-none xs ys p q = rw (p, q) refl

if-bare : (b : Bool) (x y : Proxy) → x.targets ≡ [] → y.targets ≡ [] → (cond b x y).targets ≡ []
if-bare true x y p q = p
if-bare false x y p q = q

none-if : (redirected unsettled : Bool) (uris : List Uri) → cond (redirected && false && unsettled) uris [] ≡ []
none-if true true uris = refl
none-if true false uris = refl
none-if false true uris = refl
none-if false false uris = refl

-- nothing is followed for a later request
added-none : (proxy : Proxy) (response : Response) → proxy.options ≡ None → added_targets proxy response ≡ []
unfolding added_targets recurses
added-none proxy response none = rw none (none-if _ _ _)

candidate-bare : (response : Response) (proxy : Proxy) → proxy.targets ≡ [] → (with_candidate response proxy).targets ≡ []
unfolding with_candidate
candidate-bare response proxy bare = if-bare _ proxy (record proxy { candidates = proxy.candidates ++ response ∷ [] }) bare bare

pub stopped-kept : (proxy : Proxy) → IsKeptProxy proxy (stopped proxy)
unfolding stopped
stopped-kept proxy = record { same = stopped-same proxy; bare = λ none bare. refl }

cancel-kept : (branch : ℕ) (proxy : Proxy) → IsKeptProxy proxy (to_cancel branch proxy)
unfolding to_cancel
cancel-kept branch proxy = record { same = cancel-same branch proxy; bare = λ none bare. bare }

ended_by-bare : (number : ℕ) (sess : SessId) (response : Response) (proxy : Proxy) → proxy.options ≡ None → proxy.targets ≡ [] → (ended_by number sess response proxy).targets ≡ []
unfolding ended_by ended_branch with_targets passing_on stopped
ended_by-bare number sess response proxy none bare =
    let two : Proxy = with_candidate response (ended_branch number response.code proxy) in
    let ended : Proxy = with_targets (added_targets proxy response) two in
    if-bare (is_success response.code) (passing_on sess response (stopped ended)) (cond (is_global response.code) (stopped ended) ended) refl
    (if-bare (is_global response.code) (stopped ended) ended refl
    (both-none two.targets (added_targets proxy response) (candidate-bare response (ended_branch number response.code proxy) bare) (added-none proxy response none)))

ended_by-kept : (number : ℕ) (sess : SessId) (response : Response) (proxy : Proxy) → IsKeptProxy proxy (ended_by number sess response proxy)
ended_by-kept number sess response proxy = record { same = ended_by-same number sess response proxy; bare = ended_by-bare number sess response proxy }

heard-bare : (number : ℕ) (sess : SessId) (response : Response) (now : ℕ) (proxy : Proxy) → proxy.options ≡ None → proxy.targets ≡ [] → (heard number sess response now proxy).targets ≡ []
unfolding heard after_end rung passing_on stopped
heard-bare number sess response now proxy none bare =
    if-bare (not (option_map_or is_open (branch_in proxy number) false)) (after_end sess response proxy) (cond (is_final response.code) (ended_by number sess response proxy) (passing_on sess response (rung number now proxy)))
    (if-bare (is_success response.code) (passing_on sess response (stopped proxy)) proxy refl bare)
    (if-bare (is_final response.code) (ended_by number sess response proxy) (passing_on sess response (rung number now proxy)) (ended_by-bare number sess response proxy none bare) bare)

heard-kept : (number : ℕ) (sess : SessId) (response : Response) (now : ℕ) (proxy : Proxy) → IsKeptProxy proxy (heard number sess response now proxy)
heard-kept number sess response now proxy = record { same = heard-same number sess response now proxy; bare = heard-bare number sess response now proxy }

brings-initial : (event : Queued) (region : Region) (subscriber : Bytes) (popped : Option Address) (request : Request) (x : Session)
    → event ≡ queued.Initial region subscriber popped request → Brings event x FIRST_SESSION true false request
unfolding Brings
brings-initial event region subscriber popped request x same = rw (same) (refl, refl, refl, refl)

brings-request : (event : Queued) (request : Request) (x : Session) → event ≡ queued.Request request
    → (at : SessId) (passed : Bool) → Brings event x at false passed request
unfolding Brings
brings-request event request x same at passed = rw (same) (refl, refl)

module _ (event : Queued) (Does : Call → Type 0) (Q : Session → Session → Type 0) (law : SessionLaws event Does Q) where
  -- what a turn shows
  abbrev Shows : Session → Prepared → Type 0
  Shows x shown = Q x (record { view = shown.view; known = shown.known })

  if-shown : (b : Bool) (x : Session) (y z : Prepared) → Shows x y → Shows x z → Shows x (cond b y z)
  if-shown true x y z p q = p
  if-shown false x y z p q = q

  silent-walks : (x y : Session) (given : List Order) → Q x y → Shows x (silent y given)
  unfolding silent
  silent-walks x y given p = p

  showing-walks : (x y : Session) (told : Event) (req : Option ReqId) (given : List Order) → Q x y
      → Shows x (showing y told req given)
  unfolding showing
  showing-walks x y told req given p = p

  showing_in-walks : (x y : Session) (sess : SessId) (told : Event) (req : Option ReqId) (given : List Order) → Q x y
      → Shows x (showing_in y sess told req given)
  unfolding showing_in
  showing_in-walks x y sess told req given p = p

  -- ## Requests

  too_low-walks : (x : Session) (number : ℕ) (sess : SessId) (request : Request)
      → Brings event x sess false false request → Shows x (too_low x number sess request)
  unfolding too_low silent
  too_low-walks x number sess request brings =
      law.after x (received x number sess false false request) _ (law.receives x number sess false false request brings) (answered-walks event Does Q law (received x number sess false false request) _ 500)

  taken-walks : (x : Session) (number : ℕ) (found : SessionView) (request : Request)
      → Brings event x found.id false (is_proxy found.role) request → Shows x (taken x number found request)
  unfolding taken showing
  taken-walks x number found request brings =
      law.after x (received x number found.id false (is_proxy found.role) request) _ (law.receives x number found.id false (is_proxy found.role) request brings)
      (leg-walks event Does Q law (received x number found.id false (is_proxy found.role) request) found.id (with_request request) (request-leg request))

  taken_in-walks : (x : Session) (number : ℕ) (sess : SessId) (found : Option SessionView) (request : Request)
      → ((at : SessId) (passed : Bool) → Brings event x at false passed request)
      → Shows x (taken_in x number sess found request)
  unfolding taken_in silent
  taken_in-walks x number sess None request brings = law.numbers x
  taken_in-walks x number sess (Some found) request brings = if-shown _ x _ _ (too_low-walks x number sess request (brings sess false)) (taken-walks x number found request (brings found.id (is_proxy found.role)))

  prepared_request-walks : (x : Session) (number : ℕ) (request : Request) (sess : Option SessId)
      → ((at : SessId) (passed : Bool) → Brings event x at false passed request)
      → Shows x (prepared_request x number request sess)
  unfolding prepared_request silent
  prepared_request-walks x number request None brings = law.numbers x
  prepared_request-walks x number request (Some sess) brings = taken_in-walks x number sess _ request brings

  -- ## Responses

  handled_in-walks : (x : Session) (req : ReqId) (sess : SessId) (original : SessionView) (came : Option Request) (how : Handling)
      → session_in x.view sess ≡ Some original → Q x (handled_in x req original came how).1
  unfolding handled_in
  handled_in-walks x req sess original came (In at) is = law.same x
  handled_in-walks x req sess original came (Takes tag) is =
      session-walks event Does Q law x original.id (λ s. record s { peer_tag = Some tag }) (λ s. record { id = refl; role = refl; call_id = refl; own_tag = refl; linked = refl; gone = refl; state = follow-same s.role s.state })
  handled_in-walks x req sess original came (Derives tag) is = law.derives x req sess original came tag is

  if-pair : (b : Bool) (x : Session) (y z : SessId × Session) → Q x y.1 → Q x z.1 → Q x (cond b y z).1
  if-pair true x y z p q = p
  if-pair false x y z p q = q

  placed-walks : (x : Session) (kept : Kept) (request : RequestView) (response : Response) (original : Option SessionView)
      → session_in x.view request.sess ≡ original → Q x (placed x kept request response original).1
  unfolding placed
  placed-walks x kept request response None is = law.same x
  placed-walks x kept request response (Some original) is = if-pair request.initial x _ (request.sess, x) (handled_in-walks x request.id request.sess original None _ is) (law.same x)

  overtaken-walks : (x : Session) (req : ReqId) (sess : SessId) → Q x (overtaken req sess x)
  unfolding overtaken
  overtaken-walks x req sess =
      law.after x (record x { view = record x.view { sessions = map (overtaken_session x.known req sess) x.view.sessions } }) _ (sessions-walk event Does Q law x (overtaken_session x.known req sess) (overtaken-moved x.known req sess))
      (law.same_legs (record x { view = record x.view { sessions = map (overtaken_session x.known req sess) x.view.sessions } }) _ (each-map IsSameLeg x.known.legs (overtaken_leg x req sess) (overtaken-leg x req sess)))

  without_derived-walks : (x : Session) (req : ReqId) (original : SessId) → Q x (without_derived req original x)
  unfolding without_derived
  without_derived-walks x req original = sessions-walk event Does Q law x (failed_session x.known req original) (failed-moved x.known req original)

  settled_legs-walks : (request : RequestView) (sess : SessId) (response : Response) (x : Session)
      → Q x (settled_legs request sess response x)
  unfolding settled_legs
  settled_legs-walks request sess response x =
      if-walks event Does Q law (is_first_success request response) x (overtaken request.id sess x) (cond (request.initial && is_failure response.code) (without_derived request.id request.sess x) x) (overtaken-walks x request.id sess)
      (if-walks event Does Q law (request.initial && is_failure response.code) x (without_derived request.id request.sess x) x (without_derived-walks x request.id request.sess) (law.same x))

  responded-walks : (kept : Kept) (request : RequestView) (response : Response) (sess : SessId) (x : Session)
      → Q x (responded kept request response sess x)
  unfolding responded
  responded-walks kept request response sess x =
      let settled = settled_legs request sess response x in
      let one : Session = record settled { view = answered_in sess request (is_some (tag_of response.head.to)) response.code settled.view } in
      let two : Session = record one { view = change_request request.id (with_success sess response) one.view } in
      let three : Session = record two { view = tidy two.view } in
      law.after x settled _ (settled_legs-walks request sess response x)
      (law.after settled one _ (answered_in-walks event Does Q law settled sess request (is_some (tag_of response.head.to)) response.code)
      (law.after one two _ (request-walks event Does Q law one request.id (with_success sess response) (success-same sess response))
      (law.after two three _ (tidy-walks event Does Q law two) (leg-walks event Does Q law three sess (with_answer kept.request response) (answer-leg kept.request response)))))

  noted_final-walks : (x : Session) (req : ReqId) (code : ℕ) → Q x (noted_final req code x)
  unfolding noted_final
  noted_final-walks x req code =
      let y : Session = record x { view = change_request req (with_final code) x.view } in
      law.after x y _ (request-walks event Does Q law x req (with_final code) (answer-same code)) (tidy-walks event Does Q law y)

  responded_in-walks : (x : Session) (kept : Kept) (request : RequestView) (response : Response) (at : SessId × Session)
      → Q x at.1 → Shows x (responded_in kept request response at)
  unfolding responded_in
  responded_in-walks x kept request response (sess, y) p =
      if-shown _ x _ _ (silent-walks x (noted_final kept.id response.code y) [] (law.after x y _ p (noted_final-walks y kept.id response.code)))
      (showing-walks x (responded kept request response sess y) _ None [] (law.after x y _ p (responded-walks kept request response sess y)))

  -- ## A 2xx that comes again

  if-kept : (b : Bool) (x : Session) (y z : SessId × Session) → y.1.known.kept ≡ x.known.kept
      → z.1.known.kept ≡ x.known.kept → (cond b y z).1.known.kept ≡ x.known.kept
  if-kept true x y z p q = p
  if-kept false x y z p q = q

  handled_in-kept : (x : Session) (req : ReqId) (original : SessionView) (came : Option Request) (how : Handling)
      → (handled_in x req original came how).1.known.kept ≡ x.known.kept
  unfolding handled_in
  handled_in-kept x req original came (In at) = refl
  handled_in-kept x req original came (Takes tag) = refl
  handled_in-kept x req original came (Derives tag) = refl

  placed-kept : (x : Session) (kept : Kept) (request : RequestView) (response : Response) (original : Option SessionView)
      → (placed x kept request response original).1.known.kept ≡ x.known.kept
  unfolding placed
  placed-kept x kept request response None = refl
  placed-kept x kept request response (Some original) = if-kept request.initial x _ (request.sess, x) (handled_in-kept x request.id original None _) refl

  responded_again-walks : (x : Session) (kept : Kept) (request : RequestView) (response : Response) (at : SessId × Session)
      → Q x at.1 → IsShownAgain at.1.known request → Shows x (responded_again kept request response at)
  unfolding responded_again
  responded_again-walks x kept request response (sess, y) p again =
      let z : Session = with_request_again request y in
      if-shown _ x _ _ (silent-walks x y [] p)
      (showing-walks x (responded kept request response sess z) _ None [] (law.after x y _ p (law.after y z _ (law.shows y request again) (responded-walks kept request response sess z))))

  shown_again-is : (known now : Known) (test : Kept → Bool) (kept : Kept) (code : ℕ) → now.kept ≡ known.kept
      → find test known.kept ≡ Some kept → IsShownAgain now (shown_again known kept code)
  unfolding shown_again
  shown_again-is known now test kept code same found = record { test = test; kept = kept; found = ap (find test) same ∙ found; id = refl; sess = refl; received = refl; proxied = refl }

  prepared_own-walks : (x : Session) (test : Kept → Bool) (kept : Kept) (response : Response) (found : Option RequestView)
      → find test x.known.kept ≡ Some kept → Shows x (prepared_own x kept response found)
  unfolding prepared_own silent shown_again
  prepared_own-walks x test kept response None is =
      let request : RequestView = shown_again x.known kept response.code in
      let at : SessId × Session = placed x kept request response (session_in x.view kept.sess) in
      if-shown (accepts_invite kept response) x (responded_again kept request response at) (silent x [])
      (responded_again-walks x kept request response at (placed-walks x kept request response _ refl) (shown_again-is x.known at.1.known test kept response.code (placed-kept x kept request response _) is)) (law.same x)
  prepared_own-walks x test kept response (Some request) is = responded_in-walks x kept request response _ (placed-walks x kept request response _ refl)

  heard_in-walks : (x : Session) (proxy : Proxy) (branch : ℕ) (response : Response) (at : SessId × Session) → Q x at.1
      → Shows x (heard_in proxy branch response at)
  unfolding heard_in with_branches
  heard_in-walks x proxy branch response (sess, y) p =
      let one : Session = record y { view = with_branches proxy response y.view } in
      let two : Session = record one { known = change_leg sess (with_answer proxy.request response) one.known } in
      let three : Session = record two { known = change_proxy proxy.req (heard branch sess response y.view.now) two.known } in
      let all = law.after x y three p
      (law.after y one three (request-walks event Does Q law y proxy.req (λ r. record r { branches = r.branches + length (added_targets proxy response) }) (λ r. record { id = refl; sess = refl; method = refl; received = refl; initial = refl; proxied = refl }))
      (law.after one two three (leg-walks event Does Q law one sess (with_answer proxy.request response) (answer-leg proxy.request response))
      (proxy-walks event Does Q law two proxy.req (heard branch sess response y.view.now) (heard-kept branch sess response y.view.now)))) in
      if-shown _ x _ _ (showing_in-walks x three sess _ None [] all) (silent-walks x three [] all)

  branch_placed-walks : (x : Session) (proxy : Proxy) (response : Response) (original : Option SessionView)
      → session_in x.view proxy.sess ≡ original → Q x (branch_placed x proxy response original).1
  unfolding branch_placed
  branch_placed-walks x proxy response None is = law.same x
  branch_placed-walks x proxy response (Some original) is = if-pair (is_some proxy.options) x _ (proxy.sess, x) (handled_in-walks x proxy.req proxy.sess original (Some proxy.request) _ is) (law.same x)

  prepared_branch-walks : (x : Session) (proxy : Proxy) (branch : ℕ) (response : Response)
      → Shows x (prepared_branch x proxy branch response)
  unfolding prepared_branch
  prepared_branch-walks x proxy branch response = if-shown _ x _ _ (silent-walks x x [] (law.same x)) (heard_in-walks x proxy branch response _ (branch_placed-walks x proxy response _ refl))

  prepared_response-walks : (x : Session) (branch : ℕ) (response : Response) (kept : Option Kept) (proxy : Option Proxy)
      → find (is_sent_on branch) x.known.kept ≡ kept → Shows x (prepared_response x branch response kept proxy)
  unfolding prepared_response silent
  prepared_response-walks x branch response (Some kept) proxy is = prepared_own-walks x (is_sent_on branch) kept response _ is
  prepared_response-walks x branch response None (Some proxy) is = prepared_branch-walks x proxy branch response
  prepared_response-walks x branch response None None is = law.same x

  -- ## CANCEL and timers

  terminated-walks : (x : Session) (invited : Invited) (request : RequestView) (kept : Option Kept)
      → Shows x (terminated x invited request kept)
  unfolding terminated showing_in
  terminated-walks x invited request None = law.same x
  terminated-walks x invited request (Some kept) = answered-walks event Does Q law x (Some request) 487

  cancelled_proxy-walks : (x : Session) (invited : Invited) (proxy : Option Proxy)
      → Shows x (cancelled_proxy x invited proxy)
  unfolding cancelled_proxy
  cancelled_proxy-walks x invited None = showing_in-walks x x _ _ _ [] (law.same x)
  cancelled_proxy-walks x invited (Some proxy) =
      let after : Session = record x { known = change_proxy proxy.req stopped x.known } in
      if-shown (is_supervised proxy) x (showing_in after invited.sess (events.Cancelled invited.req invited.sess) (Some invited.req) []) (silent after [])
      (showing_in-walks x after _ _ _ [] (proxy-walks event Does Q law x proxy.req stopped stopped-kept)) (silent-walks x after [] (proxy-walks event Does Q law x proxy.req stopped stopped-kept))

  cancelled_request-walks : (x : Session) (invited : Invited) (request : Option RequestView)
      → Shows x (cancelled_request x invited request)
  unfolding cancelled_request
  cancelled_request-walks x invited None = showing_in-walks x x _ _ _ [] (law.same x)
  cancelled_request-walks x invited (Some request) =
      let shown = showing_in x invited.sess (events.Cancelled invited.req invited.sess) (Some invited.req) [] in
      let ended = terminated x invited request (kept_of x.known invited.req) in
      if-shown request.proxied x (cancelled_proxy x invited (proxy_of x.known invited.req)) (cond (is_none request.answered) ended shown) (cancelled_proxy-walks x invited (proxy_of x.known invited.req))
      (if-shown (is_none request.answered) x ended shown (terminated-walks x invited request (kept_of x.known invited.req)) (showing_in-walks x x invited.sess (events.Cancelled invited.req invited.sess) (Some invited.req) [] (law.same x)))

  prepared_cancel-walks : (x : Session) (invited : Option Invited) → Shows x (prepared_cancel x invited)
  unfolding prepared_cancel silent
  prepared_cancel-walks x None = law.same x
  prepared_cancel-walks x (Some invited) = cancelled_request-walks x invited _

  fired-walks : (x : Session) (timer : TimerView) (due : Option ℕ) → Q x (record x { view = fired x.view timer due })
  unfolding fired
  fired-walks x timer None = law.times x _ x.view.next_timer
  fired-walks x timer (Some due) = law.times x _ x.view.next_timer

  prepared_timer-walks : (x : Session) (timer : Option TimerView) → Shows x (prepared_timer x timer)
  unfolding prepared_timer showing silent
  prepared_timer-walks x None = law.same x
  prepared_timer-walks x (Some timer) = fired-walks x timer _

  prepared_expiry-walks : (x : Session) → Shows x (prepared_expiry x)
  unfolding prepared_expiry
  prepared_expiry-walks x = if-shown (has_expired x.view) x (showing x events.Expired None []) (silent x []) (showing-walks x x _ None [] (law.same x)) (silent-walks x x [] (law.same x))

  timed_out-walks : (config : Config) (x : Session) (proxy : Proxy) (branch : ℕ) (provisional : Bool)
      → Q x (timed_out config x proxy branch provisional)
  unfolding timed_out
  timed_out-walks config x proxy branch provisional =
      if-walks event Does Q law _ x _ _ (proxy-walks event Does Q law x proxy.req (to_cancel branch) (cancel-kept branch))
      (proxy-walks event Does Q law x proxy.req (ended_by branch proxy.sess (own_response (edge_tag config.salt) 408 request_timeout proxy.request)) (ended_by-kept branch proxy.sess (own_response (edge_tag config.salt) 408 request_timeout proxy.request)))

  prepared_branch_timer-walks : (config : Config) (ringing : List ℕ) (x : Session) (branch due : ℕ) (proxy : Option Proxy)
      → Shows x (prepared_branch_timer config ringing x branch due proxy)
  unfolding prepared_branch_timer
  prepared_branch_timer-walks config ringing x branch due None = silent-walks x x [] (law.same x)
  prepared_branch_timer-walks config ringing x branch due (Some proxy) = if-shown _ x _ _ (silent-walks x _ [] (timed_out-walks config x proxy branch _)) (silent-walks x x [] (law.same x))

  -- ## Each event

  prepared_for-walks : (config : Config) (ringing : List ℕ) (x : Session) (number : ℕ) (is : Queued) → event ≡ is
      → Shows x (prepared_for config ringing x number is)
  unfolding prepared_for
  prepared_for-walks config ringing x number (queued.Initial region subscriber popped request) same = showing-walks x _ _ _ [] (law.receives x number FIRST_SESSION true false request (brings-initial event region subscriber popped request x same))
  prepared_for-walks config ringing x number (queued.Request request) same = prepared_request-walks x number request _ (brings-request event request x same)
  prepared_for-walks config ringing x number (queued.Response branch response) same = prepared_response-walks x branch response _ _ refl
  prepared_for-walks config ringing x number (queued.Cancelled of) same = prepared_cancel-walks x _
  prepared_for-walks config ringing x number (queued.Timer id) same = prepared_timer-walks x _
  prepared_for-walks config ringing x number (queued.BranchTimer branch due) same = prepared_branch_timer-walks config ringing x branch due _
  prepared_for-walks config ringing x number queued.Expired same = prepared_expiry-walks x
  prepared_for-walks config ringing x number queued.Ready same = showing-walks x x _ None [] (law.same x)

  pub prepared-walks : (config : Config) (ringing : List ℕ) (x : Session) (waiting : Waiting) (now : ℕ)
      → event ≡ waiting.event → Shows x (prepared config ringing x waiting now)
  unfolding prepared
  prepared-walks config ringing x waiting now same =
      law.after x (record x { view = record x.view { now = now } }) _ (law.dates x now) (prepared_for-walks config ringing (record x { view = record x.view { now = now } }) waiting.number waiting.event same)
