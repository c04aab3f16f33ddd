-- A later request that a turn shows in a proxied dialog is shown until the turn ends: what calls leave of the view.
use Rattle.std.proofs.Common.{◌≡◌, ◌<◌, ◌⊎◌, inl, inr, ℕ, ◌+◌, ◌++◌, Bool, true, false, Option, None, Some, List, [], ◌∷◌, refl, sym, ap, subst, ◌∙◌, arith}
use Rattle.std.specs.Prelude.{cond, filter, map, ◌&&◌}
use Rattle.std.specs.Option.{option_map_or}
use Rattle.sc_value.specs.Lists.{change_first}
use Rattle.sc_value.specs.declared.ids.ReqId.{ReqId}
use Rattle.sc_value.specs.declared.ids.SessId.{SessId}
use Rattle.sc_terms.specs.declared.calls.Answer.{Answer}
use Rattle.sc_terms.specs.declared.calls.Call.{Call}
use Rattle.sc_terms.specs.declared.calls.Call.TheVariants as calls
use Rattle.sc_terms.specs.declared.calls.Refusal.{Refusal}
use Rattle.sc_terms.specs.declared.calls.Refusal.TheVariants.{NotYours}
use Rattle.sc_terms.specs.declared.calls.Target.TheVariants as targets
use Rattle.sc_terms.specs.declared.views.RequestView.{RequestView}
use Rattle.sc_terms.specs.declared.views.View.{View}
use Rattle.sc_state.specs.declared.working.Draft.{Draft}
use Rattle.sc_state.specs.declared.working.Play.{Play}
use Rattle.sc_tokens.specs.Bytes.{Bytes}
use Rattle.sc_hosts.specs.Effects.{view_with_ack as acked, after_call, after_listed, play_with_initial as created, created_later, created_leg, play_without_draft as discarded, with_invalidation_flag as flagged, played_by, view_with_targets as proxied, proxied_request, play_with_request as sent, sent_view, with_draft, with_timer, without_session}
use Rattle.sc_hosts.specs.Looking.{is_request, without_sip_session as removed, request_in, same_session, without_link as unlinked}
use Rattle.sc_hosts.specs.RefusalParts.{draft_in, name_refusal, sessions_in_call as named}
use Rattle.sc_hosts.specs.Refusals.{awaits_ack, begun_by, own_refusal, refusal, respond_refusal}
use Rattle.sc_hosts.specs.ViewChanges.{view_with_answer as answered, answered_in, view_without as invalidated, is_owed, with_link as linked, settled_request, settled_requests, stands, tidy, with_answer, with_own_session, with_there}
use Rattle.sc_lasting.specs.Lasting.{All}
use Rattle.sc_lasting.proofs.Began.{first-passed, or-left, or-right, same-number, test-found}
use Rattle.sc_lasting.proofs.Pairs.{same-sess}
use Rattle.sc_lasting.proofs.Parts.{all-append, all-filter, all-first, all-found, removed-only, unlinked-only}

pub clash : (b : Bool) → b ≡ true → b ≡ false → ⊥
clash b p q = cc

pub all-mapped : {A B : Type 0} (P : A → Type 0) (R : B → Type 0) (change : A → B) (xs : List A) → ((x : A) → P x → R (change x)) → All P xs → All R (map change xs)
unfolding All
all-mapped P R change [] each all = tt
all-mapped P R change (x ∷ xs) each all = (each x all.0, all-mapped P R change xs each all.1)

below-not : (a n : ℕ) → a < n → n ≡ a → ⊥
below-not a n less is = omega (arith, less, is)

below-more : (a n : ℕ) → a < n → a < n + 1
below-more a n less = omega (arith, less)

middle : (a b c : Bool) → (a && b && c) ≡ true → b ≡ true
middle true true c is = refl
middle true false c is = cc
middle false b c is = cc

-- ## What refused calls are

-- an accepted call has no refusal of its own
pub accepted-own : (play : Play) (call : Call) → refusal play call ≡ None → own_refusal play call ≡ None
unfolding refusal
accepted-own play call is = or-right (name_refusal play.view (named play call)) (own_refusal play call) (or-right _ _ is)

-- what may be answered isn't proxied
open-is : (request : RequestView) (answer : Answer) → respond_refusal request answer ≡ None → request.proxied ≡ false
unfolding respond_refusal
open-is request answer is =
    let one = first-passed _ _ _ (or-left _ _ is) in
    (first-passed request.proxied _ _ one.1).0

responds-open : (play : Play) (req : ReqId) (answer : Answer) (request : RequestView) → refusal play (calls.Respond req answer) ≡ None → request_in play.view req ≡ Some request
    → request.proxied ≡ false
unfolding own_refusal
responds-open play req answer request is found =
    open-is request answer (found-own request (subst (λ (r : Option RequestView). option_map_or (λ (r : RequestView). respond_refusal r answer) r (Some NotYours) ≡ None) found (accepted-own play (calls.Respond req answer) is)))
  where
    found-own : (r : RequestView) → option_map_or (λ (r : RequestView). respond_refusal r answer) (Some r) (Some NotYours) ≡ None → respond_refusal r answer ≡ None
    found-own r is = is

module _ (number : ℕ) (sess : SessId) (hops : ℕ) (method : Bytes) where
  -- as a later request of a proxied dialog is shown that has no final response
  abbrev pub Fine : RequestView → Type 0
  Fine q =
      (q.initial ≡ false) × (q.proxied ≡ true) × (◌≡◌ {A = Option ℕ} q.answered None) × (◌≡◌ {A = SessId} q.sess sess) × (◌≡◌ {A = ℕ} q.hops hops) × (q.received ≡ true)
      × (◌≡◌ {A = Bytes} q.method method)

  -- what has this number is shown so
  abbrev pub RightAt : RequestView → Type 0
  RightAt q = ◌≡◌ {A = ℕ} q.id.0 number → Fine q

  -- some request has this number
  unfoldable pub Has : List RequestView → Type 0
  Has [] = ⊥
  Has (q ∷ qs) = (◌≡◌ {A = ℕ} q.id.0 number) ⊎ Has qs

  abbrev pub Shown : View → Type 0
  Shown view = (number < view.next_request) × All RightAt view.requests × Has view.requests

  -- ## Lists

  pub has-append : (xs ys : List RequestView) → Has xs → Has (xs ++ ys)
  unfolding Has
  has-append [] ys has = absurd has
  has-append (x ∷ xs) ys (inl is) = inl is
  has-append (x ∷ xs) ys (inr later) = inr (has-append xs ys later)

  pub has-last : (xs : List RequestView) (x : RequestView) → ◌≡◌ {A = ℕ} x.id.0 number → Has (xs ++ x ∷ [])
  unfolding Has
  has-last [] x is = inl is
  has-last (y ∷ xs) x is = inr (has-last xs x is)

  has-map : (change : RequestView → RequestView) (xs : List RequestView) → ((x : RequestView) → (change x).id ≡ x.id) → Has xs → Has (map change xs)
  unfolding Has
  has-map change [] same has = absurd has
  has-map change (x ∷ xs) same (inl is) = inl (ap (λ (id : ReqId). id.0) (same x) ∙ is)
  has-map change (x ∷ xs) same (inr later) = inr (has-map change xs same later)

  if-has : (b : Bool) (x y : RequestView) (xs ys : List RequestView) → Has (x ∷ xs) → Has (y ∷ ys) → Has (cond b (x ∷ xs) (y ∷ ys))
  if-has true x y xs ys p q = p
  if-has false x y xs ys p q = q

  has-first : (test : RequestView → Bool) (change : RequestView → RequestView) (xs : List RequestView) → ((x : RequestView) → (change x).id ≡ x.id) → Has xs → Has (change_first test change xs)
  unfolding change_first Has
  has-first test change [] same has = absurd has
  has-first test change (x ∷ xs) same (inl is) = if-has (test x) (change x) x xs (change_first test change xs) (inl (ap (λ (id : ReqId). id.0) (same x) ∙ is)) (inl is)
  has-first test change (x ∷ xs) same (inr later) = if-has (test x) (change x) x xs (change_first test change xs) (inr later) (inr (has-first test change xs same later))

  kept-here : (b : Bool) (x : RequestView) (xs : List RequestView) → b ≡ true → ◌≡◌ {A = ℕ} x.id.0 number → Has (cond b (x ∷ xs) xs)
  unfolding Has
  kept-here true x xs p is = inl is
  kept-here false x xs p is = cc

  kept-later : (b : Bool) (x : RequestView) (xs : List RequestView) → Has xs → Has (cond b (x ∷ xs) xs)
  unfolding Has
  kept-later true x xs has = inr has
  kept-later false x xs has = has

  pub has-filter : (test : RequestView → Bool) (xs : List RequestView) → ((x : RequestView) → Fine x → test x ≡ true) → All RightAt xs → Has xs → Has (filter test xs)
  unfolding All Has
  has-filter test [] keeps all has = absurd has
  has-filter test (x ∷ xs) keeps all (inl is) = kept-here (test x) x (filter test xs) (keeps x (all.0 is)) is
  has-filter test (x ∷ xs) keeps all (inr later) = kept-later (test x) x (filter test xs) (has-filter test xs keeps all.1 later)

  -- ## Views

  stands-fine : (view : View) (q : RequestView) → Fine q → stands view q ≡ true
  unfolding stands
  stands-fine view q fine = rw (fine.0, fine.2) refl

  pub tidy-shown : (view : View) → Shown view → Shown (tidy view)
  unfolding tidy with_there
  tidy-shown view ok =
      let between : All RightAt (map (with_there view) view.requests) = all-mapped RightAt RightAt (with_there view) view.requests (λ q right. right) ok.1 in
      (ok.0, all-filter RightAt (stands view) (map (with_there view) view.requests) between, has-filter (stands view) (map (with_there view) view.requests) (stands-fine view) between (has-map (with_there view) view.requests (λ q. refl) ok.2))

  pub sessions-shown : (v w : View) → w ≡ record v { sessions = w.sessions } → Shown v → Shown w
  sessions-shown v w is ok = subst (λ (u : View). Shown u) (sym is) ok

  if-id : (b : Bool) (code : ℕ) (q : RequestView) → (cond b (record q { answered = Some code }) q).id ≡ q.id
  if-id true code q = refl
  if-id false code q = refl

  answer-id : (code : ℕ) (q : RequestView) → (with_answer code q).id ≡ q.id
  unfolding with_answer
  answer-id code q = if-id _ code q

  pub answered_in-shown : (at : SessId) (q : RequestView) (tagged : Bool) (code : ℕ) (view : View) → (◌≡◌ {A = ℕ} q.id.0 number → ⊥) → Shown view → Shown (answered_in at q tagged code view)
  unfolding answered_in
  answered_in-shown at q tagged code view other ok = (
    ok.0,
    all-first RightAt (is_request q.id) (with_answer code) view.requests
        (λ x found right is. absurd (other (sym (same-number x.id.0 q.id.0 (test-found (is_request q.id) view.requests x found)) ∙ sym (ap (λ (id : ReqId). id.0) (answer-id code x)) ∙ is))) ok.1,
    has-first (is_request q.id) (with_answer code) view.requests (answer-id code) ok.2,
  )

  pub answered-shown : (q : Option RequestView) (code : ℕ) (view : View) → ((r : RequestView) → q ≡ Some r → ◌≡◌ {A = ℕ} r.id.0 number → ⊥) → Shown view → Shown (answered q code view)
  unfolding answered
  answered-shown None code view other ok = ok
  answered-shown (Some r) code view other ok = tidy-shown _ (answered_in-shown r.sess r true code view (other r refl) ok)

  settled-right : (s : SessId) (code : ℕ) (q : RequestView) → same_session sess s ≡ false → RightAt q → RightAt (settled_request s code q)
  unfolding settled_request
  settled-right s code q other right = by (same_session q.sess s) (is_owed q) refl
    where
      by : (a b : Bool) → same_session q.sess s ≡ a → RightAt (cond (a && b) (record q { answered = Some code }) q)
      by true true is = λ same. absurd (clash (same_session q.sess s) is (subst (λ (x : SessId). same_session x s ≡ false) (sym (right same).3) other))
      by true false is = right
      by false b is = right

  settled-id : (s : SessId) (code : ℕ) (q : RequestView) → (settled_request s code q).id ≡ q.id
  unfolding settled_request
  settled-id s code q = if-id _ code q

  settled-shown : (s : SessId) (code : ℕ) (view : View) → same_session sess s ≡ false → Shown view → Shown (settled_requests s code view)
  unfolding settled_requests
  settled-shown s code view other ok = (
    ok.0,
    all-mapped RightAt RightAt (settled_request s code) view.requests (λ q right. settled-right s code q other right) ok.1,
    has-map (settled_request s code) view.requests (settled-id s code) ok.2,
  )

  pub removed-shown : (s : SessId) (view : View) → Shown view → Shown (removed s view)
  removed-shown s view ok = sessions-shown view (removed s view) (removed-only s view) ok

  invalidated-shown : (s : SessId) (view : View) → same_session sess s ≡ false → Shown view → Shown (invalidated s view)
  unfolding invalidated
  invalidated-shown s view other ok = tidy-shown _ (removed-shown s _ (settled-shown s 500 view other ok))

  -- ## Each call

  pub fine-found : (view : View) (req : ReqId) (q : RequestView) → Shown view → request_in view req ≡ Some q → ◌≡◌ {A = ℕ} q.id.0 number → Fine q
  fine-found view req q ok found is = all-found RightAt (is_request req) view.requests q found ok.1 is

  responds-shown : (play : Play) (req : ReqId) (answer : Answer) → refusal play (calls.Respond req answer) ≡ None → Shown play.view
      → Shown (answered (request_in play.view req) answer.code play.view)
  responds-shown play req answer is ok =
      answered-shown (request_in play.view req) answer.code play.view
      (λ r found same. clash r.proxied (fine-found play.view req r ok found same).1 (responds-open play req answer r is found)) ok

  begun-shown : (play : Play) (s : SessId) (code : ℕ) → Shown play.view → Shown (answered (begun_by play.view s) code play.view)
  unfolding begun_by
  begun-shown play s code ok =
      answered-shown (begun_by play.view s) code play.view
      (λ r found same. clash r.initial (middle r.received r.initial _ (test-found (λ (x : RequestView). x.received && x.initial && same_session x.sess s) play.view.requests r found))
      (all-found RightAt (λ (x : RequestView). x.received && x.initial && same_session x.sess s) play.view.requests r found ok.1 same).0) ok

  leg-shown : (play : Play) (request : Option RequestView) → Shown play.view → Shown (created_leg request play).view
  unfolding created_leg with_draft linked with_own_session
  leg-shown play None ok = ok
  leg-shown play (Some request) ok = ok

  sent-right : (view : View) (draft : Draft) → number < view.next_request → RightAt (sent_view view draft)
  unfolding sent_view
  sent-right view draft less = λ is. absurd (below-not number view.next_request less is)

  sent-shown : (draft : ℕ) (found : Option Draft) (play : Play) → Shown play.view → Shown (sent draft found play).view
  unfolding sent
  sent-shown draft None play ok = ok
  sent-shown draft (Some one) play ok = (
    below-more number play.view.next_request ok.0,
    all-append RightAt play.view.requests (sent_view play.view one) ok.1 (sent-right play.view one ok.0),
    has-append play.view.requests (sent_view play.view one ∷ []) ok.2,
  )

  if-view : (b : Bool) (x y : Play) → Shown x.view → Shown y.view → Shown (cond b x y).view
  if-view true x y p q = p
  if-view false x y p q = q

  discarded-shown : (draft : ℕ) (found : Option Draft) (play : Play) → Shown play.view → Shown (discarded draft found play).view
  unfolding discarded
  discarded-shown draft None play ok = ok
  discarded-shown draft (Some one) play ok =
      if-view one.initial (record play { view = tidy (removed one.sess play.view) }) play (tidy-shown _ (removed-shown one.sess play.view ok)) ok

  acked-shown : (s : SessId) (view : View) → Shown view → Shown (acked s view)
  unfolding acked without_session
  acked-shown s view ok = tidy-shown _ (
    ok.0,
    all-first RightAt (awaits_ack s) (without_session s) view.requests (λ x found right. right) ok.1,
    has-first (awaits_ack s) (without_session s) view.requests (λ x. refl) ok.2,
  )

  proxied-shown : (found : Option RequestView) (count : ℕ) (view : View) → Shown view → Shown (proxied found count view)
  unfolding proxied proxied_request
  proxied-shown None count view ok = ok
  proxied-shown (Some r) count view ok = (
    ok.0,
    all-first RightAt (is_request r.id) (proxied_request count) view.requests (λ x found right is. let was = right is in (was.0, refl, was.2, was.3, was.4, was.5, was.6)) ok.1,
    has-first (is_request r.id) (proxied_request count) view.requests (λ x. refl) ok.2,
  )

  unlinked-shown : (s : SessId) (view : View) → Shown view → Shown (unlinked s view)
  unlinked-shown s view ok = sessions-shown view (unlinked s view) (unlinked-only s view) ok

  other-session : (s : SessId) → (calls.InvalidateSession s ≡ calls.InvalidateSession sess → ⊥) → same_session sess s ≡ false
  other-session s other = by (same_session sess s) refl
    where
      by : (b : Bool) → same_session sess s ≡ b → b ≡ false
      by true is = absurd (other (ap (λ (x : SessId). calls.InvalidateSession x) (sym (same-sess sess s is))))
      by false is = refl

  call-shown : (play : Play) (call : Call) → refusal play call ≡ None → (call ≡ calls.InvalidateSession sess → ⊥) → Shown play.view → Shown (after_call play call).view
  unfolding after_call created created_later with_own_session with_draft linked flagged with_timer
  call-shown play (calls.Respond req answer) is keeps ok = responds-shown play req answer is ok
  call-shown play (calls.CreateRequest ask) is keeps ok = ok
  call-shown play (calls.CreateInDialog s ask) is keeps ok = ok
  call-shown play (calls.B2bCreate req uri) is keeps ok = leg-shown play (request_in play.view req) ok
  call-shown play (calls.SetDirective draft directive origin) is keeps ok = ok
  call-shown play (calls.Send draft) is keeps ok = sent-shown draft (draft_in play draft) play ok
  call-shown play (calls.Discard draft) is keeps ok = discarded-shown draft (draft_in play draft) play ok
  call-shown play (calls.Ack s body) is keeps ok = acked-shown s play.view ok
  call-shown play (calls.Cancel req) is keeps ok = ok
  call-shown play (calls.ProxyTo req uris how) is keeps ok = proxied-shown (request_in play.view req) _ play.view ok
  call-shown play (calls.ProxyCancel req) is keeps ok = ok
  call-shown play (calls.B2bRespond s answer) is keeps ok = begun-shown play s answer.code ok
  call-shown play (calls.Link a b) is keeps ok = ok
  call-shown play (calls.Unlink a) is keeps ok = unlinked-shown a play.view ok
  call-shown play (calls.StartTimer delay period info) is keeps ok = ok
  call-shown play (calls.CancelTimer id) is keeps ok = ok
  call-shown play (calls.SetAttribute name value) is keeps ok = ok
  call-shown play (calls.RemoveAttribute name) is keeps ok = ok
  call-shown play (calls.SetExpires minutes) is keeps ok = ok
  call-shown play (calls.SetReadyFlag targets.Application flag) is keeps ok = ok
  call-shown play (calls.SetReadyFlag (targets.Session s) flag) is keeps ok = ok
  call-shown play (calls.InvalidateSession s) is keeps ok = invalidated-shown s play.view (other-session s keeps) ok
  call-shown play calls.InvalidateApplication is keeps ok = ok

  played-shown : (play : Play) (call : Call) (refused : Option Refusal) → refusal play call ≡ refused → (call ≡ calls.InvalidateSession sess → ⊥) → Shown play.view → Shown (played_by play call refused).view
  unfolding played_by
  played-shown play call None is keeps ok = call-shown play call is keeps ok
  played-shown play call (Some refused) is keeps ok = ok

  pub listed-shown : (play : Play) (call : Call) → (call ≡ calls.InvalidateSession sess → ⊥) → Shown play.view → Shown (after_listed play call).view
  unfolding after_listed
  listed-shown play call keeps ok = played-shown play call (refusal play call) refl keeps ok
