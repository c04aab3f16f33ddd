-- Small changes of a session keep each relation with the laws.
use Rattle.std.proofs.Common.{◌≡◌, ℕ, Bool, true, false, Option, None, Some, List, [], ◌∷◌, refl, ◌∙◌, append-nil, sym}
use Rattle.std.specs.Prelude.{cond, map, not}
use Rattle.std.specs.List.{fold}
use Rattle.sc_value.specs.declared.ids.ReqId.{ReqId}
use Rattle.sc_value.specs.declared.ids.SessId.{SessId}
use Rattle.sc_value.specs.Lists.{change_first}
use Rattle.sc_terms.specs.declared.calls.Call.{Call}
use Rattle.sc_terms.specs.declared.views.RequestView.{RequestView}
use Rattle.sc_terms.specs.declared.views.Role.{Role}
use Rattle.sc_terms.specs.declared.views.Role.TheVariants as roles
use Rattle.sc_terms.specs.declared.views.SessionView.{SessionView}
use Rattle.sc_terms.specs.declared.views.State.{State}
use Rattle.sc_terms.specs.declared.views.State.TheVariants.{Initial, Early, Confirmed, Terminated}
use Rattle.sc_terms.specs.declared.views.View.{View}
use Rattle.sc_state.specs.declared.proxy.Proxy.{Proxy}
use Rattle.sc_state.specs.declared.queue.Queued.{Queued}
use Rattle.sc_state.specs.declared.session.Known.{Known}
use Rattle.sc_state.specs.declared.session.Leg.{Leg}
use Rattle.sc_state.specs.declared.session.Session.{Session}
use Rattle.sc_tokens.specs.Names.{same_bytes}
use Rattle.sc_tokens.specs.Bytes.{Bytes}
use Rattle.sc_model.specs.Dialogs.{subscribe}
use Rattle.sc_model.specs.SessionStates.{bye, ended_state, invite, is_final}
use Rattle.sc_model.specs.Transactions.{is_failure, is_success}
use Rattle.sc_hosts.specs.Legs.{change_leg, is_leg_of}
use Rattle.sc_hosts.specs.Looking.{change_request, change_session, is_session, is_request, is_uac}
use Rattle.sc_hosts.specs.PreparingResponses.{change_proxy}
use Rattle.sc_hosts.specs.States.{after_initial, after_later, after_response, failed_state, invited_state, subscribed_state, unsubscribed_state}
use Rattle.sc_hosts.specs.ViewChanges.{tidy, with_there, with_answer, with_response, answered_in, view_with_answer as answered, stands}
use Rattle.sc_walked.specs.SessionWalks.{Each, IsMoved, IsSameRequest, IsSameLeg, IsSameProxy, IsKeptProxy, HasGoneOn, SessionLaws, may_follow}

-- ## Item by item

pub each-same : {A : Type 0} (Same : A → A → Type 0) (xs : List A) → ((x : A) → Same x x) → Each Same xs xs
unfolding Each
each-same Same [] each = tt
each-same Same (x ∷ xs) each = (each x, each-same Same xs each)

pub each-map : {A : Type 0} (Same : A → A → Type 0) (xs : List A) (change : A → A) → ((x : A) → Same x (change x))
    → Each Same xs (map change xs)
unfolding Each
each-map Same [] change each = tt
each-map Same (x ∷ xs) change each = (each x, each-map Same xs change each)

if-first : {A : Type 0} (Same : A → A → Type 0) (b : Bool) (x y : A) (xs ys : List A) → Same x y → Same x x
    → Each Same xs xs → Each Same xs ys → Each Same (x ∷ xs) (cond b (y ∷ xs) (x ∷ ys))
unfolding Each
if-first Same true x y xs ys one keep all more = (one, all)
if-first Same false x y xs ys one keep all more = (keep, more)

pub each-first : {A : Type 0} (Same : A → A → Type 0) (xs : List A) (test : A → Bool) (change : A → A)
    → ((x : A) → Same x x) → ((x : A) → Same x (change x)) → Each Same xs (change_first test change xs)
unfolding Each change_first
each-first Same [] test change keep each = tt
each-first Same (x ∷ xs) test change keep each =
    if-first Same (test x) x (change x) xs (change_first test change xs) (each x) (keep x) (each-same Same xs keep) (each-first Same xs test change keep each)

-- ## The parts as they were

pub if-is : {A : Type 0} (P : A → Type 0) (b : Bool) (x y : A) → P x → P y → P (cond b x y)
if-is P true x y p q = p
if-is P false x y p q = q

-- ## States that may follow

pub follow-same : (role : Role) (state : State) → may_follow role state state ≡ true
unfolding may_follow
follow-same role Initial = refl
follow-same role Early = refl
follow-same role Confirmed = refl
follow-same role Terminated = refl

pub follow-ended : (role : Role) (state : State) → may_follow role state Terminated ≡ true
unfolding may_follow
follow-ended role Initial = refl
follow-ended role Early = refl
follow-ended role Confirmed = refl
follow-ended role Terminated = refl

pub if-follow : (b : Bool) (role : Role) (state x y : State) → may_follow role state x ≡ true → may_follow role state y ≡ true
    → may_follow role state (cond b x y) ≡ true
if-follow true role state x y p q = p
if-follow false role state x y p q = q

follow-failed : (role : Role) → may_follow role Early (failed_state role) ≡ true
unfolding may_follow failed_state is_uac
follow-failed roles.Uac = refl
follow-failed roles.Uas = refl
follow-failed roles.Proxy = refl

follow-invited : (role : Role) (tagged : Bool) (state : State) (code : ℕ)
    → may_follow role state (invited_state (failed_state role) tagged state code) ≡ true
unfolding may_follow invited_state
follow-invited role tagged Initial code = refl
follow-invited role tagged Early code =
    if-follow (is_failure code) role Early (failed_state role) _ (follow-failed role) (if-follow (is_success code) role Early Confirmed Early refl refl)
follow-invited role tagged Confirmed code = refl
follow-invited role tagged Terminated code = refl

follow-subscribed : (role : Role) (state : State) (code : ℕ) → may_follow role state (subscribed_state state code) ≡ true
unfolding may_follow subscribed_state
follow-subscribed role Initial code = refl
follow-subscribed role Early code = refl
follow-subscribed role Confirmed code = refl
follow-subscribed role Terminated code = refl

pub follow-initial : (role : Role) (method : Bytes) (tagged : Bool) (state : State) (code : ℕ)
    → may_follow role state (after_initial role method tagged state code) ≡ true
unfolding after_initial
follow-initial role method tagged state code =
    if-follow (same_bytes method invite) role state _ _ (follow-invited role tagged state code)
    (if-follow (same_bytes method subscribe) role state _ _ (follow-subscribed role state code)
    (if-follow (is_final code) role state Terminated state (follow-ended role state) (follow-same role state)))

follow-bye : (role : Role) (state : State) → may_follow role state (ended_state state) ≡ true
unfolding may_follow ended_state
follow-bye role Initial = refl
follow-bye role Early = refl
follow-bye role Confirmed = refl
follow-bye role Terminated = refl

follow-notify : (role : Role) (state : State) → may_follow role state (unsubscribed_state state) ≡ true
unfolding may_follow unsubscribed_state
follow-notify role Initial = refl
follow-notify role Early = refl
follow-notify role Confirmed = refl
follow-notify role Terminated = refl

follow-later : (role : Role) (method : Bytes) (ends : Bool) (state : State) (code : ℕ)
    → may_follow role state (after_later method ends state code) ≡ true
unfolding after_later
follow-later role method ends state code =
    if-follow (not (is_final code)) role state state _ (follow-same role state)
    (if-follow (same_bytes method bye) role state (ended_state state) _ (follow-bye role state)
    (if-follow ends role state (unsubscribed_state state) state (follow-notify role state) (follow-same role state)))

follow-response : (role : Role) (request : RequestView) (tagged : Bool) (state : State) (code : ℕ)
    → may_follow role state (after_response role request tagged state code) ≡ true
unfolding after_response
follow-response role request tagged state code =
    if-follow request.initial role state _ _ (follow-initial role request.method tagged state code) (follow-later role request.method request.ends state code)

pub moved : (s : SessionView) → IsMoved s s
moved s = record { id = refl; role = refl; call_id = refl; own_tag = refl; linked = refl; gone = refl; state = follow-same s.role s.state }

pub same-request : (r : RequestView) → IsSameRequest r r
same-request r = record { id = refl; sess = refl; method = refl; received = refl; initial = refl; proxied = refl }

pub same-leg : (leg : Leg) → IsSameLeg leg leg
same-leg leg = record { id = refl; caller = refl }

-- where none of it changed
pub stays-on : (before after : Proxy) → after.tried ≡ before.tried → after.settled ≡ before.settled → after.forwarded ≡ before.forwarded
    → HasGoneOn before after
stays-on before after tried settled forwarded = record {
  more = [];
  tried = tried ∙ sym (append-nil before.tried);
  settled = λ is. settled ∙ is;
  forwarded = λ is. forwarded;
}

pub same-proxy : (proxy : Proxy) → IsSameProxy proxy proxy
same-proxy proxy = record { req = refl; sess = refl; event = refl; request = refl; options = refl; on = stays-on proxy proxy refl refl refl }

pub kept-proxy : (proxy : Proxy) → IsKeptProxy proxy proxy
kept-proxy proxy = record { same = same-proxy proxy; bare = λ none bare. bare }

pub there-same : (view : View) (r : RequestView) → IsSameRequest r (with_there view r)
unfolding with_there
there-same view r = record { id = refl; sess = refl; method = refl; received = refl; initial = refl; proxied = refl }

pub answer-same : (code : ℕ) (r : RequestView) → IsSameRequest r (with_answer code r)
unfolding with_answer
answer-same code r = if-is (IsSameRequest r) _ (record r { answered = Some code }) r (record { id = refl; sess = refl; method = refl; received = refl; initial = refl; proxied = refl }) (same-request r)

pub response-moved : (request : RequestView) (tagged : Bool) (code : ℕ) (s : SessionView)
    → IsMoved s (with_response request tagged code s)
unfolding with_response
response-moved request tagged code s =
    record { id = refl; role = refl; call_id = refl; own_tag = refl; linked = refl; gone = refl; state = follow-response s.role request tagged s.state code }

module _ (event : Queued) (Does : Call → Type 0) (Q : Session → Session → Type 0) (law : SessionLaws event Does Q) where
  pub session-walks : (x : Session) (sess : SessId) (change : SessionView → SessionView)
      → ((s : SessionView) → IsMoved s (change s)) → Q x (record x { view = change_session sess change x.view })
  session-walks x sess change each = law.moves x _ (each-first IsMoved x.view.sessions (is_session sess) change moved each)

  pub sessions-walk : (x : Session) (change : SessionView → SessionView) → ((s : SessionView) → IsMoved s (change s))
      → Q x (record x { view = record x.view { sessions = map change x.view.sessions } })
  sessions-walk x change each = law.moves x _ (each-map IsMoved x.view.sessions change each)

  pub request-walks : (x : Session) (req : ReqId) (change : RequestView → RequestView)
      → ((r : RequestView) → IsSameRequest r (change r)) → Q x (record x { view = change_request req change x.view })
  request-walks x req change each = law.renews x _ (each-first IsSameRequest x.view.requests (is_request req) change same-request each)

  pub leg-walks : (x : Session) (sess : SessId) (change : Leg → Leg) → ((leg : Leg) → IsSameLeg leg (change leg))
      → Q x (record x { known = change_leg sess change x.known })
  unfolding change_leg
  leg-walks x sess change each = law.same_legs x _ (each-first IsSameLeg x.known.legs (is_leg_of sess) change same-leg each)

  pub proxy-walks : (x : Session) (req : ReqId) (change : Proxy → Proxy)
      → ((proxy : Proxy) → IsKeptProxy proxy (change proxy))
      → Q x (record x { known = change_proxy req change x.known })
  proxy-walks x req change each = law.same_proxies x _ (each-first IsKeptProxy x.known.proxies _ change kept-proxy each)

  pub tidy-walks : (x : Session) → Q x (record x { view = tidy x.view })
  unfolding tidy
  tidy-walks x =
      law.after x (record x { view = record x.view { requests = map (with_there x.view) x.view.requests } }) _ (law.renews x _ (each-map IsSameRequest x.view.requests (with_there x.view) (there-same x.view))) (law.drops _ (stands x.view))

  pub answered_in-walks : (x : Session) (sess : SessId) (request : RequestView) (tagged : Bool) (code : ℕ)
      → Q x (record x { view = answered_in sess request tagged code x.view })
  unfolding answered_in
  answered_in-walks x sess request tagged code =
      law.after x (record x { view = change_request request.id (with_answer code) x.view }) _ (request-walks x request.id (with_answer code) (answer-same code))
      (session-walks (record x { view = change_request request.id (with_answer code) x.view }) sess (with_response request tagged code) (response-moved request tagged code))

  pub answered-walks : (x : Session) (request : Option RequestView) (code : ℕ)
      → Q x (record x { view = answered request code x.view })
  unfolding answered
  answered-walks x None code = law.same x
  answered-walks x (Some request) code =
      law.after x (record x { view = answered_in request.sess request true code x.view }) _ (answered_in-walks x request.sess request true code) (tidy-walks (record x { view = answered_in request.sess request true code x.view }))

  pub if-walks : (b : Bool) (x y z : Session) → Q x y → Q x z → Q x (cond b y z)
  if-walks true x y z p q = p
  if-walks false x y z p q = q

  -- a view that a fold changes
  pub fold-walks : {A : Type 0} (items : List A) (act : View → A → View)
      → ((x : Session) (a : A) → Q x (record x { view = act x.view a })) → (x : Session)
      → Q x (record x { view = fold act x.view items })
  fold-walks [] act each x = law.same x
  fold-walks (a ∷ items) act each x = law.after x (record x { view = act x.view a }) _ (each x a) (fold-walks items act each (record x { view = act x.view a }))

  pub if-view : (b : Bool) (x : Session) (v w : View) → Q x (record x { view = v }) → Q x (record x { view = w })
      → Q x (record x { view = cond b v w })
  if-view true x v w p q = p
  if-view false x v w p q = q

  pub if-known : (b : Bool) (x : Session) (k l : Known) → Q x (record x { known = k }) → Q x (record x { known = l })
      → Q x (record x { known = cond b k l })
  if-known true x k l p q = p
  if-known false x k l p q = q
