-- A SipSession keeps its place, its Call-ID, its own tag and, where nothing is proxied, its role.
use Rattle.std.proofs.Common.{ℕ, ◌++◌, true, Option, None, Some, List, [], ◌∷◌, refl, ap, ◌∙◌}
use Rattle.sc_value.specs.declared.ids.SessId.{SessId}
use Rattle.sc_value.specs.declared.ids.ReqId.{ReqId}
use Rattle.sc_value.specs.declared.parts.Uri.{Uri}
use Rattle.sc_terms.specs.declared.calls.ProxyOptions.{ProxyOptions}
use Rattle.sc_state.specs.declared.queue.Queued.TheVariants as queued
use Rattle.sc_terms.specs.declared.calls.Call.{Call}
use Rattle.sc_terms.specs.declared.calls.Call.TheVariants as calls
use Rattle.sc_terms.specs.declared.settings.Config.{Config}
use Rattle.sc_terms.specs.declared.views.RequestView.{RequestView}
use Rattle.sc_terms.specs.declared.views.Role.TheVariants as roles
use Rattle.sc_terms.specs.declared.views.SessionView.{SessionView}
use Rattle.sc_terms.specs.declared.views.View.{View}
use Rattle.sc_state.specs.declared.queue.Queued.{Queued}
use Rattle.sc_state.specs.declared.session.Session.{Session}
use Rattle.sc_state.specs.declared.working.Play.{Play}
use Rattle.sc_hosts.specs.Effects.{created_leg, view_with_targets as proxied, proxying, with_draft}
use Rattle.sc_hosts.specs.Histories.{History, session_after, after_turn}
use Rattle.sc_hosts.specs.Legs.{fresh}
use Rattle.sc_hosts.specs.Looking.{is_proxy, is_session, linked_to, without_link as unlinked, without_sip_session as removed}
use Rattle.sc_hosts.specs.Sessions.{Turn}
use Rattle.sc_hosts.specs.ViewChanges.{with_link as linked, new_session, own_session, with_own_session}
use Rattle.sc_walked.specs.SessionWalks.{Each, IsMoved, SessionLaws}
use Rattle.sc_walked.proofs.WalkParts.{each-first, if-is}
use Rattle.sc_walked.proofs.WalkEnds.{after_turn-walks, done-any}
use Rattle.sc_lasting.specs.Lasting.{IsHeld, IsSteady, Continues, Directly, IsLife, IsSince}
use Rattle.sc_lasting.proofs.Parts.{unlinked-each, removed-each, linked-each, received-holds}

-- ## A whole life, for any laws

pub lives-hold : (turns : List Turn) (Good : Queued → Type 0) (Does : Call → Type 0) (Holds : Session → Type 0) (config : Config) (history : History)
    → ((event : Queued) → Good event → SessionLaws event Does (λ x y. Holds x → Holds y))
    → IsLife Good Does config history turns
    → Holds (fresh config history.app history.epoch history.began history.noted history.request)
    → Holds (session_after config history turns)
unfolding session_after IsLife
lives-hold [] Good Does Holds config history laws life first = first
lives-hold (turn ∷ earlier) Good Does Holds config history laws life first =
    after_turn-walks Does (λ x y. Holds x → Holds y) config turn (session_after config history earlier) (laws turn.waiting.event life.0) life.1 (lives-hold earlier Good Does Holds config history laws life.2 first)

-- what was and what is, these turns later
pub lives-relate : (later earlier : List Turn) (Good : Queued → Type 0) (Does : Call → Type 0) (Q : Session → Session → Type 0) (config : Config) (history : History)
    → ((x : Session) → Q x x) → ((x y z : Session) → Q x y → Q y z → Q x z)
    → ((event : Queued) → Good event → SessionLaws event Does Q) → IsSince Good Does config history earlier later
    → Q (session_after config history earlier) (session_after config history (later ++ earlier))
unfolding session_after IsSince
lives-relate [] earlier Good Does Q config history same trans laws life = same (session_after config history earlier)
lives-relate (turn ∷ later) earlier Good Does Q config history same trans laws life =
    trans (session_after config history earlier) (session_after config history (later ++ earlier)) (after_turn config turn (session_after config history (later ++ earlier)))
    (lives-relate later earlier Good Does Q config history same trans laws life.2)
    (after_turn-walks Does Q config turn (session_after config history (later ++ earlier)) (laws turn.waiting.event life.0) life.1)

pub any-since : (later earlier : List Turn) (config : Config) (history : History)
    → IsSince (λ event. Unit {0}) (λ call. Unit {0}) config history earlier later
unfolding IsSince
any-since [] earlier config history = tt
any-since (turn ∷ later) earlier config history = (tt, done-any turn.calls (λ call. Unit {0}) (λ call. tt) _, any-since later earlier config history)

pub any-life : (turns : List Turn) (config : Config) (history : History)
    → IsLife (λ event. Unit {0}) (λ call. Unit {0}) config history turns
unfolding IsLife
any-life [] config history = tt
any-life (turn ∷ earlier) config history = (tt, done-any turn.calls (λ call. Unit {0}) (λ call. tt) _, any-life earlier config history)

-- ## SipSessions continue

module _ (Does : Call → Type 0) (Same : SessionView → SessionView → Type 0) (keep : (s : SessionView) → Same s s) (trans : (r s t : SessionView) → Same r s → Same s t → Same r t)
    (links : (other : Option SessId) (s : SessionView) → Same s (linked_to other s)) (goes : (s : SessionView) → Same s (record s { gone = true }))
    (moves : (s t : SessionView) → IsMoved s t → Same s t) (turns : (req : ReqId) (uris : List Uri) (how : ProxyOptions) → Does (calls.ProxyTo req uris how) → (s : SessionView) → Same s (proxying s)) where
  on-each : (xs ys : List SessionView) → Each Same xs ys → Continues Same xs ys
  unfolding Each Continues
  on-each [] ys each = tt
  on-each (x ∷ xs) [] each = absurd each
  on-each (x ∷ xs) (y ∷ ys) each = (each.0, on-each xs ys each.1)

  on-moved : (xs ys : List SessionView) → Each IsMoved xs ys → Continues Same xs ys
  unfolding Each Continues
  on-moved [] ys each = tt
  on-moved (x ∷ xs) [] each = absurd each
  on-moved (x ∷ xs) (y ∷ ys) each = (moves x y each.0, on-moved xs ys each.1)

  on-same : (xs : List SessionView) → Continues Same xs xs
  unfolding Continues
  on-same [] = tt
  on-same (x ∷ xs) = (keep x, on-same xs)

  on-more : (xs : List SessionView) (new : SessionView) → Continues Same xs (xs ++ new ∷ [])
  unfolding Continues
  on-more [] new = tt
  on-more (x ∷ xs) new = (keep x, on-more xs new)

  on-then : (xs ys zs : List SessionView) → Continues Same xs ys → Continues Same ys zs → Continues Same xs zs
  unfolding Continues
  on-then [] ys zs p q = tt
  on-then (x ∷ xs) [] zs p q = absurd p
  on-then (x ∷ xs) (y ∷ ys) [] p q = absurd q
  on-then (x ∷ xs) (y ∷ ys) (z ∷ zs) p q = (trans x y z p.0 q.0, on-then xs ys zs p.1 q.1)

  abbrev Goes : Session → Session → Type 0
  Goes x y = Continues Same x.view.sessions y.view.sessions

  begins-on : (view : View) → Continues Same view.sessions (with_own_session view).sessions
  unfolding with_own_session
  begins-on view = on-more view.sessions (own_session view)

  leg-on : (request : Option RequestView) (play : Play)
      → Continues Same play.view.sessions (created_leg request play).view.sessions
  unfolding created_leg with_draft
  leg-on None play = on-same play.view.sessions
  leg-on (Some request) play =
      on-then play.view.sessions (with_own_session play.view).sessions (linked request.sess (new_session play.view) (with_own_session play.view)).sessions (begins-on play.view)
      (on-each (with_own_session play.view).sessions (linked request.sess (new_session play.view) (with_own_session play.view)).sessions (linked-each Same keep trans links goes request.sess (new_session play.view) (with_own_session play.view)))

  turns-on : (request : Option RequestView) (count : ℕ) (view : View) → ((s : SessionView) → Same s (proxying s))
      → Continues Same view.sessions (proxied request count view).sessions
  unfolding proxied
  turns-on None count view turn = on-same view.sessions
  turns-on (Some request) count view turn = on-each view.sessions _ (each-first Same view.sessions (is_session request.sess) proxying keep turn)

  pub continues-law : (event : Queued) → SessionLaws event Does Goes
  continues-law event = record {
    same = λ x. on-same x.view.sessions;
    after = λ x y z p q. on-then x.view.sessions y.view.sessions z.view.sessions p q;
    dates = λ x now. on-same x.view.sessions;
    expires = λ x due. on-same x.view.sessions;
    flags = λ x flag. on-same x.view.sessions;
    times = λ x timers next. on-same x.view.sessions;
    attributes = λ x fields. on-same x.view.sessions;
    counts = λ x. on-same x.view.sessions;
    numbers = λ x. on-same x.view.sessions;
    moves = λ x sessions same. on-moved x.view.sessions sessions same;
    renews = λ x requests same. on-same x.view.sessions;
    drops = λ x test. on-same x.view.sessions;
    same_legs = λ x legs same. on-same x.view.sessions;
    same_proxies = λ x all same. on-same x.view.sessions;
    forgets = λ x test. on-same x.view.sessions;
    unlinks = λ x sess does. on-each x.view.sessions (unlinked sess x.view).sessions (unlinked-each Same keep trans links goes sess x.view);
    removes = λ x sess. on-each x.view.sessions (removed sess x.view).sessions (removed-each Same keep trans links goes sess x.view);
    receives = λ x number sess initial passed request brings. received-holds (λ v k. Continues Same x.view.sessions v.sessions) x number sess initial passed request (λ invited. on-same x.view.sessions);
    shows = λ x request again. on-same x.view.sessions;
    sends = λ x draft request. on-same x.view.sessions;
    sends_none = λ x draft. on-same x.view.sessions;
    begins = λ x. begins-on x.view;
    derives = λ x req sess original came tag is. on-more x.view.sessions _;
    begins_leg = λ play known req uri request kept is does found has. leg-on request play;
    links = λ play known a b is does. on-each play.view.sessions (linked a b play.view).sessions (linked-each Same keep trans links goes a b play.view);
    turns = λ play known req uris how request is does found. turns-on request _ play.view (turns req uris how does);
    passes = λ x req kept is. on-same x.view.sessions;
  }

-- ## Whatever is called

held : (s : SessionView) → IsHeld s s
held s = record { id = refl; call_id = refl; own_tag = refl; gone = λ is. is; proxy = λ is. is }

held-then : (r s t : SessionView) → IsHeld r s → IsHeld s t → IsHeld r t
held-then r s t p q = record { id = q.id ∙ p.id; call_id = q.call_id ∙ p.call_id; own_tag = q.own_tag ∙ p.own_tag; gone = λ is. q.gone (p.gone is); proxy = λ is. q.proxy (p.proxy is) }

held-links : (other : Option SessId) (s : SessionView) → IsHeld s (linked_to other s)
unfolding linked_to
held-links other s = record { id = refl; call_id = refl; own_tag = refl; gone = λ is. is; proxy = λ is. is }

held-goes : (s : SessionView) → IsHeld s (record s { gone = true })
held-goes s = record { id = refl; call_id = refl; own_tag = refl; gone = λ is. refl; proxy = λ is. is }

held-moves : (s t : SessionView) → IsMoved s t → IsHeld s t
held-moves s t m = record { id = m.id; call_id = m.call_id; own_tag = m.own_tag; gone = λ is. m.gone ∙ is; proxy = λ is. ap is_proxy m.role ∙ is }

held-turns : (s : SessionView) → IsHeld s (proxying s)
unfolding proxying is_proxy
held-turns s = if-is (IsHeld s) (is_proxy s.role) s (record s { role = roles.Proxy; peer_tag = None }) (held s) (record { id = refl; call_id = refl; own_tag = refl; gone = λ is. is; proxy = λ is. refl })

-- a SipSession keeps its place, its Call-ID and its own tag, and one that is gone stays so
pub sessions-last : (config : Config) (history : History) (later earlier : List Turn)
    → Continues IsHeld (session_after config history earlier).view.sessions (session_after config history (later ++ earlier)).view.sessions
sessions-last config history later earlier =
    let law = continues-law (λ call. Unit {0}) IsHeld held held-then held-links held-goes held-moves (λ req uris how does. held-turns) in
    lives-relate later earlier (λ event. Unit {0}) (λ call. Unit {0}) (λ x y. Continues IsHeld x.view.sessions y.view.sessions) config history (law queued.Ready).same (law queued.Ready).after (λ event good. law event) (any-since later earlier config history)

-- ## Nothing is proxied

steady : (s : SessionView) → IsSteady s s
steady s = record { held = held s; role = refl }

steady-then : (r s t : SessionView) → IsSteady r s → IsSteady s t → IsSteady r t
steady-then r s t p q = record { held = held-then r s t p.held q.held; role = q.role ∙ p.role }

steady-links : (other : Option SessId) (s : SessionView) → IsSteady s (linked_to other s)
unfolding linked_to
steady-links other s = record { held = held-links other s; role = refl }

steady-goes : (s : SessionView) → IsSteady s (record s { gone = true })
steady-goes s = record { held = held-goes s; role = refl }

steady-moves : (s t : SessionView) → IsMoved s t → IsSteady s t
steady-moves s t m = record { held = held-moves s t m; role = m.role }

-- where no call proxies, a SipSession keeps its role too
pub roles-last : (config : Config) (history : History) (later earlier : List Turn)
    → IsSince (λ event. Unit {0}) Directly config history earlier later
    → Continues IsSteady (session_after config history earlier).view.sessions (session_after config history (later ++ earlier)).view.sessions
unfolding Directly
roles-last config history later earlier life =
    let law = continues-law Directly IsSteady steady steady-then steady-links steady-goes steady-moves (λ req uris how does s. absurd does) in
    lives-relate later earlier (λ event. Unit {0}) Directly (λ x y. Continues IsSteady x.view.sessions y.view.sessions) config history (law queued.Ready).same (law queued.Ready).after (λ event good. law event) life
