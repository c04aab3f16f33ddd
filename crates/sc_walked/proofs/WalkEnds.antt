-- The end of a turn keeps each relation with the laws; and so a whole turn does.
use Rattle.std.proofs.Common.{◌≡◌, ℕ, ◌++◌, Bool, true, false, Option, None, Some, List, [], ◌∷◌, refl, sym, ap, append-nil}
use Rattle.std.specs.Prelude.{cond, ◌&&◌, ◌||◌, ◌==◌, not, map, drop, is_some, is_none, option_and_then}
use Rattle.std.specs.List.{fold}
use Rattle.sc_tokens.specs.Names.{same_bytes}
use Rattle.sc_value.specs.declared.ids.ReqId.{ReqId}
use Rattle.sc_value.specs.declared.ids.SessId.{SessId}
use Rattle.sc_value.specs.declared.message.Request.{Request}
use Rattle.sc_value.specs.declared.message.Response.{Response}
use Rattle.sc_value.specs.declared.parts.Uri.{Uri}
use Rattle.sc_terms.specs.declared.calls.CallRecord.{CallRecord}
use Rattle.sc_terms.specs.declared.calls.End.{End}
use Rattle.sc_terms.specs.declared.calls.End.TheVariants as ends
use Rattle.sc_terms.specs.declared.settings.Config.{Config}
use Rattle.sc_terms.specs.declared.calls.Call.{Call}
use Rattle.sc_terms.specs.declared.views.RequestView.{RequestView}
use Rattle.sc_terms.specs.declared.views.SessionView.{SessionView}
use Rattle.sc_terms.specs.declared.views.State.TheVariants.{Terminated}
use Rattle.sc_terms.specs.declared.views.View.{View}
use Rattle.sc_state.specs.declared.orders.Order.TheVariants as orders
use Rattle.sc_state.specs.declared.proxy.Passing.{Passing}
use Rattle.sc_state.specs.declared.proxy.Proxy.{Proxy}
use Rattle.sc_state.specs.declared.queue.Queued.{Queued}
use Rattle.sc_state.specs.declared.queue.Waiting.{Waiting}
use Rattle.sc_state.specs.declared.session.Kept.{Kept}
use Rattle.sc_state.specs.declared.session.Known.{Known}
use Rattle.sc_state.specs.declared.session.Session.{Session}
use Rattle.sc_state.specs.declared.working.Draft.{Draft}
use Rattle.sc_state.specs.declared.working.Prepared.{Prepared}
use Rattle.sc_state.specs.declared.working.Working.{Working}
use Rattle.sc_model.specs.BestResponses.{best_response, server_error}
use Rattle.sc_model.specs.Dialogs.{tag_of, subscribe}
use Rattle.sc_model.specs.SessionStates.{is_final, ack}
use Rattle.sc_model.specs.Transactions.{is_success}
use Rattle.sc_hosts.specs.Acting.{in_view, with_next_branch as drawn, closed_session, is_over, moved_on, with_forwarded, subscribed_tag, sent_proxy, without_left, drafts_ended, fault_at, after_fault as faulted, after_start as started, forwarded_view, with_subscribed, forwards, passes, forwards_best, chooses, closes, proxy_now, sends_cancels, at_rest as rested, after_proxy as acted, acts, all_act, hops_spent, passed_on, passed_later, passed_request_of, is_request_event, passes_later}
use Rattle.sc_hosts.specs.Effects.{first_play as begun, after_listed}
use Rattle.sc_hosts.specs.Legs.{fresh}
use Rattle.sc_hosts.specs.Refusals.{refusal}
use Rattle.sc_state.specs.declared.working.Play.{Play}
use Rattle.sc_hosts.specs.Branches.{starting, is_exhausted, can_pass, can_choose, new_branch}
use Rattle.sc_hosts.specs.Finishing.{is_session_ready, swept_one, swept, without_acks, without_unneeded as lightened, session_in_play, is_ended, after_all_calls as finished, outcome_of, outcome}
use Rattle.sc_hosts.specs.Giving.{giving, answering}
use Rattle.sc_hosts.specs.Histories.{History, after_turn, session_after, session_of}
use Rattle.sc_hosts.specs.Looking.{change_session, without_sip_session as removed, request_in, in_state}
use Rattle.sc_hosts.specs.Messages.{bare_answer, on_branch, passed_request}
use Rattle.sc_hosts.specs.Preparing.{kept_of, prepared_session as prepared}
use Rattle.sc_hosts.specs.PreparingResponses.{change_proxy, is_invalid}
use Rattle.sc_hosts.specs.Sessions.{Turn}
use Rattle.sc_hosts.specs.ViewChanges.{view_with_answer as answered, answered_in, is_owed}
use Rattle.sc_hosts.specs.Working.{next_branch, worked_all}
use Rattle.sc_hosts.specs.Words.{too_many_hops}
use Rattle.sc_walked.proofs.WalkParts.{follow-ended, follow-initial, follow-same, if-is, moved, same-proxy, stays-on, session-walks, sessions-walk, proxy-walks, tidy-walks, answered_in-walks, answered-walks, if-walks, if-view, fold-walks}
use Rattle.sc_walked.proofs.WalkShown.{prepared-walks}
use Rattle.sc_walked.proofs.WalkCalls.{session_at, answering-known, worked_all-walks}
use Rattle.sc_walked.specs.SessionWalks.{AreDone, IsMoved, IsSameProxy, IsKeptProxy, SessionLaws}

over-moved : (known : Known) (req : ReqId) (original : SessId) (s : SessionView)
    → IsMoved s (closed_session known req original s)
unfolding closed_session in_state
over-moved known req original s =
    if-is (IsMoved s) (is_over known req original s) (record s { state = Terminated }) s
    (record { id = refl; role = refl; call_id = refl; own_tag = refl; linked = refl; gone = refl; state = follow-ended s.role s.state }) (moved s)

on-moved : (proxy : Proxy) (response : Response) (s : SessionView) → IsMoved s (moved_on proxy response s)
unfolding moved_on in_state
on-moved proxy response s =
    if-is (IsMoved s) (is_some proxy.options) _ s
    (record { id = refl; role = refl; call_id = refl; own_tag = refl; linked = refl; gone = refl; state = follow-initial s.role proxy.request.method _ s.state response.code }) (moved s)

tag-moved : (tag : _) (s : SessionView) → IsMoved s (subscribed_tag tag s)
unfolding subscribed_tag
tag-moved tag s = if-is (IsMoved s) (is_none s.peer_tag) (record s { peer_tag = tag }) s
    (record { id = refl; role = refl; call_id = refl; own_tag = refl; linked = refl; gone = refl; state = follow-same s.role s.state }) (moved s)

unforwarded : (f : Option ℕ) (code : ℕ) → f ≡ None → is_some f ≡ true → Some code ≡ f
unforwarded None code none is = cc
unforwarded (Some n) code none is = cc

forwarded-by : (code : ℕ) (proxy : Proxy) (final : Bool) (f : Option ℕ) → proxy.forwarded ≡ f
    → IsSameProxy proxy (cond (final && is_none f) (record proxy { forwarded = Some code }) proxy)
forwarded-by code proxy true None none = record {
  req = refl;
  sess = refl;
  event = refl;
  request = refl;
  options = refl;
  on = record { more = []; tried = sym (append-nil proxy.tried); settled = λ is. is; forwarded = λ is. unforwarded proxy.forwarded code none is };
}
forwarded-by code proxy true (Some n) at = same-proxy proxy
forwarded-by code proxy false f at = same-proxy proxy

forwarded-same : (code : ℕ) (proxy : Proxy) → IsSameProxy proxy (with_forwarded code proxy)
unfolding with_forwarded
forwarded-same code proxy = forwarded-by code proxy (is_final code) proxy.forwarded refl

rested-same : (proxy : Proxy) → IsSameProxy proxy (rested proxy)
unfolding rested
rested-same proxy = record { req = refl; sess = refl; event = refl; request = refl; options = refl; on = stays-on proxy (rested proxy) refl refl refl }

forwarded-kept : (code : ℕ) (proxy : Proxy) → IsKeptProxy proxy (with_forwarded code proxy)
unfolding with_forwarded
forwarded-kept code proxy = record {
  same = forwarded-same code proxy;
  bare = λ none bare. if-is (λ (p : Proxy). p.targets ≡ []) _ _ proxy bare bare;
}

rested-kept : (proxy : Proxy) → IsKeptProxy proxy (rested proxy)
unfolding rested
rested-kept proxy = record { same = rested-same proxy; bare = λ none bare. bare }

module _ (event : Queued) (Does : Call → Type 0) (Q : Session → Session → Type 0) (law : SessionLaws event Does Q) where
  -- between two moments of a turn
  abbrev pub Goes : Working → Working → Type 0
  Goes x y = Q (session_at x) (session_at y)

  goes : (x y z : Working) → Goes x y → Goes y z → Goes x z
  goes x y z p q = law.after (session_at x) (session_at y) (session_at z) p q

  stays : (x : Working) → Goes x x
  stays x = law.same (session_at x)

  if-goes : (b : Bool) (x y z : Working) → Goes x y → Goes x z → Goes x (cond b y z)
  if-goes true x y z p q = p
  if-goes false x y z p q = q

  fold-goes : {A : Type 0} (items : List A) (act : Working → A → Working) → ((x : Working) (a : A) → Goes x (act x a))
      → (x : Working) → Goes x (fold act x items)
  fold-goes [] act each x = stays x
  fold-goes (a ∷ items) act each x = goes x (act x a) (fold act (act x a) items) (each x a) (fold-goes items act each (act x a))

  -- ## Drafts, and a fault

  left-walks : (x : Session) (draft : Draft) → Q x (record x { view = without_left x.view draft })
  unfolding without_left
  left-walks x draft = if-view event Does Q law draft.initial x (removed draft.sess x.view) x.view (law.removes x draft.sess) (law.same x)

  pub drafts_ended-goes : (working : Working) → Goes working (drafts_ended working)
  unfolding drafts_ended
  drafts_ended-goes working =
      let x : Session = session_at working in
      let y : Session = record x { view = fold without_left x.view working.play.drafts } in
      law.after x y _ (fold-walks event Does Q law working.play.drafts without_left left-walks x) (tidy-walks event Does Q law y)

  -- answered by the container
  with-known : (x : Session) (view : View) (known : Known) → known ≡ x.known → Q x (record x { view = view })
      → Q x (record { view = view; known = known })
  with-known x view known same p = rw (same) p

  fault_at-goes : (config : Config) (request : Option RequestView) (working : Working)
      → Goes working (fault_at config request working)
  unfolding fault_at
  fault_at-goes config None working = stays working
  fault_at-goes config (Some request) working =
      let after : Working = in_view (answered (Some request) 500 working.play.view) (answering config (Some request) (bare_answer 500 server_error) working) in
      if-goes (is_owed request && not request.proxied) working after working
      (with-known (session_at working) _ _ (answering-known config (Some request) (bare_answer 500 server_error) working) (answered-walks event Does Q law (session_at working) (Some request) 500)) (stays working)

  pub faulted-goes : (config : Config) (req : Option ReqId) (end : End) (working : Working)
      → Goes working (faulted config req end working)
  unfolding faulted
  faulted-goes config req ends.Fine working = stays working
  faulted-goes config req ends.Fault working = fault_at-goes config _ working
  faulted-goes config req ends.Starved working = stays working

  -- ## Proxies act

  started-goes : (config : Config) (proxy : Proxy) (working : Working) (uri : Uri)
      → Goes working (started config proxy working uri)
  unfolding started
  started-goes config proxy working uri =
      let x : Session = session_at working in
      let y : Session = record x { view = drawn x.view } in
      let change : Proxy → Proxy = λ p. record p { branches = p.branches ++ new_branch proxy (next_branch working) working.play.view.now ∷ []; targets = drop 1 p.targets } in
      law.after x y _ (law.counts x) (proxy-walks event Does Q law y proxy.req change (λ p. record {
        same = record { req = refl; sess = refl; event = refl; request = refl; options = refl; on = stays-on p (change p) refl refl refl };
        bare = λ none bare. ap (λ (uris : List Uri). drop 1 uris) bare;
      }))

  subscribed-walks : (proxy : Proxy) (sess : SessId) (response : Response) (x : Session)
      → Q x (record x { view = with_subscribed proxy sess response x.view })
  unfolding with_subscribed
  subscribed-walks proxy sess response x =
      if-view event Does Q law (is_some proxy.options && same_bytes proxy.request.method subscribe && is_success response.code) x (change_session sess (subscribed_tag (tag_of response.head.to)) x.view) x.view
      (session-walks event Does Q law x sess (subscribed_tag (tag_of response.head.to)) (tag-moved (tag_of response.head.to))) (law.same x)

  forwarded-walks : (proxy : Proxy) (sess : SessId) (request : Option RequestView) (response : Response) (x : Session)
      → Q x (record x { view = forwarded_view proxy sess request response x.view })
  unfolding forwarded_view
  forwarded-walks proxy sess None response x = session-walks event Does Q law x sess (moved_on proxy response) (on-moved proxy response)
  forwarded-walks proxy sess (Some request) response x =
      let y : Session = record x { view = answered_in sess request (is_some (tag_of response.head.to)) response.code x.view } in
      law.after x y _ (answered_in-walks event Does Q law x sess request (is_some (tag_of response.head.to)) response.code) (tidy-walks event Does Q law y)

  forwards-goes : (proxy : Proxy) (sess : SessId) (response : Response) (working : Working)
      → Goes working (forwards proxy sess response working)
  unfolding forwards
  forwards-goes proxy sess response working =
      let x : Session = session_at working in
      let y : Session = record x { view = with_subscribed proxy sess response x.view } in
      let z : Session = record y { view = forwarded_view proxy sess (request_in working.play.view proxy.req) response y.view } in
      law.after x y _ (subscribed-walks proxy sess response x)
      (law.after y z _ (forwarded-walks proxy sess (request_in working.play.view proxy.req) response y) (proxy-walks event Does Q law z proxy.req (with_forwarded response.code) (forwarded-kept response.code)))

  passes-goes : (proxy : Proxy) (passing : Option Passing) (working : Working)
      → Goes working (passes proxy passing working)
  unfolding passes
  passes-goes proxy None working = stays working
  passes-goes proxy (Some passing) working =
      if-goes (can_pass proxy passing.response) working (forwards proxy passing.sess passing.response working) working (forwards-goes proxy passing.sess passing.response working) (stays working)

  forwards_best-goes : (proxy : Proxy) (response : Option Response) (working : Working)
      → Goes working (forwards_best proxy response working)
  unfolding forwards_best
  forwards_best-goes proxy None working = stays working
  forwards_best-goes proxy (Some response) working = forwards-goes proxy proxy.sess response working

  chooses-goes : (proxy : Proxy) (working : Working) → Goes working (chooses proxy working)
  unfolding chooses
  chooses-goes proxy working =
      if-goes (can_choose proxy) working (forwards_best proxy (best_response proxy.candidates) working) working (forwards_best-goes proxy (best_response proxy.candidates) working) (stays working)

  closes-goes : (proxy : Proxy) (working : Working) → Goes working (closes proxy working)
  unfolding closes
  closes-goes proxy working =
      let after : Working = in_view (record working.play.view { sessions = map (closed_session working.known proxy.req proxy.sess) working.play.view.sessions }) working in
      if-goes (is_exhausted proxy && is_some proxy.options) working after working
      (sessions-walk event Does Q law (session_at working) (closed_session working.known proxy.req proxy.sess) (over-moved working.known proxy.req proxy.sess)) (stays working)

  rested-goes : (req : ReqId) (working : Working)
      → Q (session_at working) (record (session_at working) { known = change_proxy req rested working.known })
  rested-goes req working = proxy-walks event Does Q law (session_at working) req rested rested-kept

  acted-goes : (config : Config) (proxy : Proxy) (working : Working) → Goes working (acted config proxy working)
  unfolding acted sends_cancels
  acted-goes config proxy working =
      let begun : Working = fold (started config proxy) working (starting proxy) in
      let passed : Working = passes (proxy_now proxy begun) proxy.passing begun in
      let chosen : Working = chooses (proxy_now proxy passed) passed in
      let told : Working = sends_cancels proxy chosen in
      let closed : Working = closes (proxy_now proxy chosen) told in
      let one = fold-goes (starting proxy) (started config proxy) (started-goes config proxy) working in
      let two = goes working begun passed one (passes-goes (proxy_now proxy begun) proxy.passing begun) in
      let three = goes working passed chosen two (chooses-goes (proxy_now proxy passed) passed) in
      let four = goes working told closed three (closes-goes (proxy_now proxy chosen) told) in
      law.after (session_at working) (session_at closed) _ four (rested-goes proxy.req closed)

  acts-goes : (config : Config) (working : Working) (proxy : Proxy) → Goes working (acts config working proxy)
  unfolding acts
  acts-goes config working proxy = if-goes (is_invalid working.known proxy.sess) working working (acted config proxy working) (stays working) (acted-goes config proxy working)

  pub all_act-goes : (config : Config) (working : Working) → Goes working (all_act config working)
  unfolding all_act
  all_act-goes config working = fold-goes working.known.proxies (acts config) (acts-goes config) working

  -- ## A later request is passed on

  hops_spent-goes : (config : Config) (request : RequestView) (working : Working)
      → Goes working (hops_spent config request working)
  unfolding hops_spent
  hops_spent-goes config request working =
      let after : Working = in_view (answered (Some request) 483 working.play.view) (answering config (Some request) (bare_answer 483 too_many_hops) working) in
      if-goes (is_owed request) working after working
      (with-known (session_at working) _ _ (answering-known config (Some request) (bare_answer 483 too_many_hops) working) (answered-walks event Does Q law (session_at working) (Some request) 483)) (stays working)

  if-drawn : (b : Bool) (x : Session) (y z : Working) (view : View) → Q x (record { view = view; known = y.known })
      → Q x (record { view = view; known = z.known }) → Q x (record { view = view; known = (cond b y z).known })
  if-drawn true x y z view p q = p
  if-drawn false x y z view p q = q

  passed_on-goes : (config : Config) (req : ReqId) (kept : Kept) (working : Working)
      → kept_of working.known req ≡ Some kept → Goes working (passed_on config kept working)
  unfolding passed_on
  passed_on-goes config req kept working is =
      let x : Session = session_at working in
      let sent : Request = on_branch config working.play.view (next_branch working) (passed_request kept.request) in
      let one : Working = giving (orders.Acknowledge sent ∷ []) working in
      let two : Working = giving (orders.Send (next_branch working) sent ∷ []) (record working { known = record working.known { proxies = working.known.proxies ++ sent_proxy kept (next_branch working) ∷ [] } }) in
      let y : Session = record x { known = two.known } in
      if-drawn (same_bytes kept.request.method ack) x one two (drawn working.play.view) (law.counts x) (law.after x y _ (law.passes x req kept is) (law.counts y))

  passed_later-goes : (config : Config) (request : RequestView) (kept : Option Kept) (working : Working)
      → kept_of working.known request.id ≡ kept → Goes working (passed_later config request kept working)
  unfolding passed_later
  passed_later-goes config request None working is = stays working
  passed_later-goes config request (Some kept) working is =
      if-goes (request.initial || not request.proxied || is_invalid working.known request.sess) working working (cond (request.hops == 0) (hops_spent config request working) (passed_on config kept working)) (stays working)
      (if-goes (request.hops == 0) working (hops_spent config request working) (passed_on config kept working) (hops_spent-goes config request working) (passed_on-goes config request.id kept working is))

  passed_request_of-goes : (config : Config) (request : Option RequestView) (working : Working)
      → Goes working (passed_request_of config request working)
  unfolding passed_request_of
  passed_request_of-goes config None working = stays working
  passed_request_of-goes config (Some request) working = passed_later-goes config request _ working refl

  passes_later-goes : (config : Config) (kind : Queued) (req : Option ReqId) (working : Working)
      → Goes working (passes_later config kind req working)
  unfolding passes_later
  passes_later-goes config kind req working =
      if-goes (is_request_event kind) working (passed_request_of config (option_and_then (request_in working.play.view) req) working) working (passed_request_of-goes config _ working) (stays working)

  finished-goes : (config : Config) (kind : Queued) (req : Option ReqId) (end : End) (working : Working)
      → Goes working (finished config kind req end working)
  unfolding finished
  finished-goes config kind req end working =
      let one : Working = drafts_ended working in
      let two : Working = faulted config req end one in
      let three : Working = all_act config two in
      goes working one (passes_later config kind req three) (drafts_ended-goes working)
      (goes one two (passes_later config kind req three) (faulted-goes config req end one)
      (goes two three (passes_later config kind req three) (all_act-goes config two) (passes_later-goes config kind req three)))

  -- ## What goes away

  swept_one-walks : (known : Known) (before : View) (x : Session) (session : SessionView)
      → Q x (record x { view = swept_one known before x.view session })
  unfolding swept_one
  swept_one-walks known before x session =
      if-view event Does Q law (session.ready_flag && not session.gone && is_session_ready known before session) x (removed session.id x.view) x.view (law.removes x session.id) (law.same x)

  swept-walks : (x : Session) → Q x (swept x)
  unfolding swept
  swept-walks x =
      let y : Session = record x { view = fold (swept_one x.known x.view) x.view x.view.sessions } in
      law.after x y _ (fold-walks event Does Q law x.view.sessions (swept_one x.known x.view) (swept_one-walks x.known x.view) x) (tidy-walks event Does Q law y)

  lightened-walks : (x : Session) → Q x (lightened x)
  unfolding lightened
  lightened-walks x = law.forgets x _

  in_play-walks : (working : Working) → Q (session_at working) (session_in_play working)
  unfolding session_in_play without_acks
  in_play-walks working = law.drops (session_at working) _

  outcome_of-walks : (kind : Queued) (working : Working) → Q (session_at working) (outcome_of kind working).session
  unfolding outcome_of
  outcome_of-walks kind working =
      let x : Session = session_at working in
      let y : Session = session_in_play working in
      let z : Session = cond (is_ended kind working) y (swept y) in
      law.after x z _ (law.after x y z (in_play-walks working) (if-walks event Does Q law (is_ended kind working) y y (swept y) (law.same y) (swept-walks y))) (lightened-walks z)

  -- a turn
  outcome-walks : (config : Config) (heard : List ℕ) (x : Session) (waiting : Waiting) (now : ℕ) (made : List CallRecord) (end : End)
      → event ≡ waiting.event → AreDone Does (begun (prepared config heard x waiting now).view) made
      → Q x (outcome config heard x waiting now made end).session
  unfolding outcome
  outcome-walks config heard x waiting now made end is done =
      let shown : Prepared = prepared config heard x waiting now in
      let worked : Working = worked_all config shown made in
      law.after x (session_at worked) _ (worked_all-walks event Does Q law config x shown made done (prepared-walks event Does Q law config heard x waiting now is))
      (law.after (session_at worked) (session_at (finished config waiting.event shown.req end worked)) _ (finished-goes config waiting.event shown.req end worked) (outcome_of-walks waiting.event (finished config waiting.event shown.req end worked)))

pub after_turn-walks : (Does : Call → Type 0) (Q : Session → Session → Type 0) (config : Config) (turn : Turn) (x : Session)
    → SessionLaws turn.waiting.event Does Q
    → AreDone Does (begun (prepared config turn.ringing x turn.waiting turn.now).view) turn.calls
    → Q x (after_turn config turn x)
unfolding after_turn
after_turn-walks Does Q config turn x law done = outcome-walks turn.waiting.event Does Q law config turn.ringing x turn.waiting turn.now turn.calls turn.end refl done

pub done-nothing : (Does : Call → Type 0) (play : Play) → AreDone Does play []
unfolding AreDone
done-nothing Does play = tt

pub done-more : (Does : Call → Type 0) (m : CallRecord) (made : List CallRecord) (play : Play)
    → (refusal play m.call ≡ None → Does m.call) → AreDone Does (after_listed play m.call) made → AreDone Does play (m ∷ made)
unfolding AreDone
done-more Does m made play one more = (one, more)

-- any calls
pub done-any : (made : List CallRecord) (Does : Call → Type 0) → ((call : Call) → Does call) → (play : Play)
    → AreDone Does play made
unfolding AreDone
done-any [] Does all play = tt
done-any (m ∷ made) Does all play = ((λ accepted. all m.call), done-any made Does all (after_listed play m.call))

-- an invariant, over a whole life with any calls, where each event of it is of this kind
unfoldable pub AreGood : (Queued → Type 0) → List Turn → Type 0
AreGood Good [] = Unit {0}
AreGood Good (turn ∷ turns) = Good turn.waiting.event × AreGood Good turns

pub lives-keep : (turns : List Turn) (Good : Queued → Type 0) (Holds : Session → Type 0) (config : Config) (history : History)
    → ((event : Queued) → Good event → SessionLaws event (λ call. Unit {0}) (λ x y. Holds x → Holds y))
    → AreGood Good turns
    → Holds (fresh config history.app history.epoch history.began history.noted history.request)
    → Holds (session_after config history turns)
unfolding session_after AreGood
lives-keep [] Good Holds config history laws good first = first
lives-keep (turn ∷ earlier) Good Holds config history laws good first =
    after_turn-walks (λ call. Unit {0}) (λ x y. Holds x → Holds y) config turn (session_after config history earlier) (laws turn.waiting.event good.0) (done-any turn.calls (λ call. Unit {0}) (λ call. tt) _)
    (lives-keep earlier Good Holds config history laws good.1 first)

pub life-keeps : (Holds : Session → Type 0) (config : Config) (history : History)
    → ((event : Queued) → SessionLaws event (λ call. Unit {0}) (λ x y. Holds x → Holds y))
    → Holds (fresh config history.app history.epoch history.began history.noted history.request)
    → Holds (session_of config history)
unfolding session_of AreGood
life-keeps Holds config history laws first = lives-keep history.turns (λ event. Unit {0}) Holds config history (λ event good. laws event) (all-good history.turns) first
  where
    all-good : (turns : List Turn) → AreGood (λ event. Unit {0}) turns
    all-good [] = tt
    all-good (turn ∷ turns) = (tt, all-good turns)
