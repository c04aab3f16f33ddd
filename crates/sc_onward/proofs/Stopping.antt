-- In its turn a later request goes on to the next session of its way, or one of the named things stops it.
use Rattle.std.proofs.Common.{◌≡◌, ◌⊎◌, inl, inr, ℕ, zero, suc, Bool, true, false, Option, None, Some, List, [], ◌∷◌, refl, ap, subst, arith}
use Rattle.std.proofs.lemmas.Bool.Decides.{nat_tests}
use Rattle.std.specs.Prelude.{◌==◌, cond, option_map, slice_get}
use Rattle.std.specs.List.{find}
use Rattle.sc_value.specs.declared.ids.AppId.{AppId}
use Rattle.sc_value.specs.declared.ids.SessId.{SessId}
use Rattle.sc_terms.specs.declared.calls.Call.{Call}
use Rattle.sc_terms.specs.declared.calls.Call.TheVariants as calls
use Rattle.sc_terms.specs.declared.calls.CallRecord.{CallRecord}
use Rattle.sc_terms.specs.declared.steps.Step.{Step}
use Rattle.sc_terms.specs.declared.views.SessionView.{SessionView}
use Rattle.sc_parts.specs.declared.setup.Setup.{Setup}
use Rattle.sc_state.specs.declared.host.Live.{Live}
use Rattle.sc_state.specs.declared.queue.Queued.TheVariants as queued
use Rattle.sc_state.specs.declared.session.Known.{Known}
use Rattle.sc_state.specs.declared.session.Session.{Session}
use Rattle.sc_hosts.specs.Histories.{as_session}
use Rattle.sc_hosts.specs.Inboxes.{is_full}
use Rattle.sc_hosts.specs.Legs.{is_low, leg_of, session_for, takes_request}
use Rattle.sc_hosts.specs.Looking.{is_proxy, is_session, session_in}
use Rattle.sc_hosts.specs.Nets.{host_at}
use Rattle.sc_hosts.specs.Preparing.{prepared_session as prepared}
use Rattle.sc_hosts.specs.PreparingResponses.{is_invalid}
use Rattle.sc_hosts.specs.Runs.{IsLawful, net_from as chained}
use Rattle.sc_hosts.specs.Steps.{live_at, ringing_at}
use Rattle.sc_hosts.specs.Working.{worked_all}
use Rattle.sc_lasting.specs.Lasting.{All}
use Rattle.sc_lasting.proofs.Pairs.{same-sess}
use Rattle.sc_paths.specs.Moments.{Got, Moment, moments}
use Rattle.sc_ways.specs.Ways.{AreSmallDraws}
use Rattle.sc_onward.specs.Onward.{AreSmallNumbers, ComesNext, ComesToProxy, Ended, EndsIn, Full, Gone, Has_ended, IsLeftAlone, IsUnstopped, No_dialog, No_hops, Not_living, Not_proxied, Stops, Too_low, TurnsTo}
use Rattle.sc_onward.proofs.Whole.{hop}

-- ## Calls

not-self : (n : ℕ) → (n == n) ≡ false → ⊥
not-self n is = grind (arith, nat_tests, is)

same-call : (x y : SessId) → calls.InvalidateSession x ≡ calls.InvalidateSession y → x ≡ y
same-call x y is = cc

other-call : (x y : SessId) → (x.0 == y.0) ≡ false → calls.InvalidateSession x ≡ calls.InvalidateSession y → ⊥
other-call x y other is = not-self y.0 (subst (λ (z : SessId). (z.0 == y.0) ≡ false) (same-call x y is) other)

pub one-call : (sess : SessId) (call : Call) → (call ≡ calls.InvalidateSession sess) ⊎ (call ≡ calls.InvalidateSession sess → ⊥)
one-call sess (calls.InvalidateSession s) = by (s.0 == sess.0) refl
  where
    by : (b : Bool) → (s.0 == sess.0) ≡ b → (calls.InvalidateSession s ≡ calls.InvalidateSession sess) ⊎ (calls.InvalidateSession s ≡ calls.InvalidateSession sess → ⊥)
    by true is = inl (ap (λ (x : SessId). calls.InvalidateSession x) (same-sess s sess is))
    by false is = inr (λ same. other-call s sess is same)
one-call sess (calls.Respond req answer) = inr (λ is. cc)
one-call sess (calls.CreateRequest ask) = inr (λ is. cc)
one-call sess (calls.CreateInDialog s ask) = inr (λ is. cc)
one-call sess (calls.B2bCreate req uri) = inr (λ is. cc)
one-call sess (calls.SetDirective draft directive origin) = inr (λ is. cc)
one-call sess (calls.Send draft) = inr (λ is. cc)
one-call sess (calls.Discard draft) = inr (λ is. cc)
one-call sess (calls.Ack s body) = inr (λ is. cc)
one-call sess (calls.Cancel req) = inr (λ is. cc)
one-call sess (calls.ProxyTo req uris how) = inr (λ is. cc)
one-call sess (calls.ProxyCancel req) = inr (λ is. cc)
one-call sess (calls.B2bRespond s answer) = inr (λ is. cc)
one-call sess (calls.Link a b) = inr (λ is. cc)
one-call sess (calls.Unlink a) = inr (λ is. cc)
one-call sess (calls.StartTimer delay period info) = inr (λ is. cc)
one-call sess (calls.CancelTimer id) = inr (λ is. cc)
one-call sess (calls.SetAttribute name value) = inr (λ is. cc)
one-call sess (calls.RemoveAttribute name) = inr (λ is. cc)
one-call sess (calls.SetExpires minutes) = inr (λ is. cc)
one-call sess (calls.SetReadyFlag target flag) = inr (λ is. cc)
one-call sess calls.InvalidateApplication = inr (λ is. cc)

abbrev LeavesAlone : SessId → CallRecord → Type 0
LeavesAlone sess one = one.call ≡ calls.InvalidateSession sess → ⊥

more-calls : (sess : SessId) (one : CallRecord) (made : List CallRecord) → (one.call ≡ calls.InvalidateSession sess) ⊎ LeavesAlone sess one → EndsIn sess made ⊎ All (LeavesAlone sess) made
    → EndsIn sess (one ∷ made) ⊎ All (LeavesAlone sess) (one ∷ made)
unfolding EndsIn All
more-calls sess one made (inl is) rest = inl (inl is)
more-calls sess one made (inr none) (inl later) = inl (inr later)
more-calls sess one made (inr none) (inr all) = inr (none, all)

calls-end : (sess : SessId) (made : List CallRecord) → EndsIn sess made ⊎ All (LeavesAlone sess) made
unfolding EndsIn All
calls-end sess [] = inr tt
calls-end sess (one ∷ made) = more-calls sess one made (one-call sess one.call) (calls-end sess made)

-- ## The SipSession of a request is there

self-session : (s : SessionView) → is_session s.id s ≡ true
self-session s = by s.id.0
  where
    by : (n : ℕ) → (n == n) ≡ true
    by n = grind (arith, nat_tests)

clash : (b : Bool) → b ≡ true → b ≡ false → ⊥
clash b p q = cc

self-of : (x s : SessionView) → Some x ≡ Some s → is_session s.id x ≡ true
self-of x s is = subst (λ (y : SessionView). is_session y.id x ≡ true) (same x s is) (self-session x)
  where
    same : (x s : SessionView) → Some x ≡ Some s → x ≡ s
    same x s is = cc

pub found-again : (test : SessionView → Bool) (sessions : List SessionView) (s : SessionView) → find test sessions ≡ Some s → (found : SessionView) × (find (is_session s.id) sessions ≡ Some found)
found-again test [] s is = cc
found-again test (x ∷ xs) s is = by (test x) (is_session s.id x) refl is (found-again test xs s)
  where
    by : (b c : Bool) → is_session s.id x ≡ c → cond b (Some x) (find test xs) ≡ Some s
        → (find test xs ≡ Some s → (found : SessionView) × (find (is_session s.id) xs ≡ Some found)) → (found : SessionView) × (cond c (Some x) (find (is_session s.id) xs) ≡ Some found)
    by b true at is rest = (x, refl)
    by true false at is rest = absurd (clash (is_session s.id x) (self-of x s is) at)
    by false false at is rest = rest is

same : (a b : SessionView) → Some a ≡ Some b → a ≡ b
same a b is = cc

-- the one that is found by a name has it
pub named : (sess : SessId) (sessions : List SessionView) (found : SessionView) → find (is_session sess) sessions ≡ Some found → found.id ≡ sess
named sess [] found is = cc
named sess (x ∷ xs) found is = by (is_session sess x) refl is (named sess xs found)
  where
    by : (b : Bool) → is_session sess x ≡ b → cond b (Some x) (find (is_session sess) xs) ≡ Some found → (find (is_session sess) xs ≡ Some found → found.id ≡ sess) → found.id ≡ sess
    by true at p rest = subst (λ (s : SessionView). s.id ≡ sess) (same x found p) (same-sess x.id sess at)
    by false at p rest = rest p

-- ## A turn

module _ (setup : Setup) (moment : Moment) (got : Got) (to : AppId) (turn : TurnsTo setup moment got to) where
  abbrev pub Goal : Type 0
  Goal = ((un : IsUnstopped setup moment got) × (un.to ≡ to)) ⊎ Stops setup moment got to turn

  abbrev Alone : SessionView → Type 0
  Alone found = IsLeftAlone setup.config (ringing_at got.app (host_at got.app.host moment.before)) turn.live.session got.waiting.number turn.request turn.now turn.made found.id

  unstopped : (comes : ComesToProxy turn.live.session turn.request) → Alone comes.found → (hops : ℕ) → turn.request.hops ≡ suc hops → (was last : Live Session) → live_at to moment.before ≡ Some was
      → live_at to moment.after ≡ Some last → is_full last ≡ false → IsUnstopped setup moment got
  unstopped comes alone hops some was last there ends room = record {
    event = turn.event;
    now = turn.now;
    made = turn.made;
    end = turn.end;
    step = turn.step;
    request = turn.request;
    is = turn.is;
    no_cancel = turn.no_cancel;
    tagged = turn.tagged;
    live = turn.live;
    lives = turn.lives;
    first = turn.first;
    comes = comes;
    alone = alone;
    hops = hops;
    some = some;
    to = to;
    own = turn.own;
    named = turn.named;
    was = was;
    there = there;
    last = last;
    ends = ends;
    room = room;
  }

  by-room : (comes : ComesToProxy turn.live.session turn.request) → Alone comes.found → (hops : ℕ) → turn.request.hops ≡ suc hops → (was last : Live Session) → live_at to moment.before ≡ Some was
      → live_at to moment.after ≡ Some last → (b : Bool) → is_full last ≡ b → Goal
  unfolding unstopped
  by-room comes alone hops some was last there ends true full = inr (Full last ends full)
  by-room comes alone hops some was last there ends false room = inl (unstopped comes alone hops some was last there ends room, refl)

  by-end : (comes : ComesToProxy turn.live.session turn.request) → Alone comes.found → (hops : ℕ) → turn.request.hops ≡ suc hops → (was : Live Session) → live_at to moment.before ≡ Some was
      → (found : Option (Live Session)) → live_at to moment.after ≡ found → Goal
  by-end comes alone hops some was there None gone = inr (Gone gone)
  by-end comes alone hops some was there (Some last) ends = by-room comes alone hops some was last there ends (is_full last) refl

  by-start : (comes : ComesToProxy turn.live.session turn.request) → Alone comes.found → (hops : ℕ) → turn.request.hops ≡ suc hops → (found : Option (Live Session)) → live_at to moment.before ≡ found → Goal
  by-start comes alone hops some None gone = inr (Not_living gone)
  by-start comes alone hops some (Some was) there = by-end comes alone hops some was there (live_at to moment.after) refl

  by-hops : (comes : ComesToProxy turn.live.session turn.request) → Alone comes.found → (hops : ℕ) → turn.request.hops ≡ hops → Goal
  by-hops comes alone zero none = inr (No_hops none)
  by-hops comes alone (suc hops) some = by-start comes alone hops some (live_at to moment.before) refl

  abbrev Worked : Known
  Worked =
      (worked_all setup.config
      (prepared setup.config (ringing_at got.app (host_at got.app.host moment.before)) turn.live.session (record { number = got.waiting.number; event = queued.Request turn.request }) turn.now) turn.made).known

  its-name : (comes : ComesToProxy turn.live.session turn.request) → comes.found.id ≡ comes.sess
  its-name comes = named comes.sess turn.live.session.view.sessions comes.found comes.there

  by-valid : (comes : ComesToProxy turn.live.session turn.request) → All (LeavesAlone comes.found.id) turn.made → (b : Bool) → is_invalid Worked comes.found.id ≡ b → Goal
  by-valid comes left true ended = inr (Has_ended comes.sess comes.for (subst (λ (s : SessId). is_invalid Worked s ≡ true) (its-name comes) ended))
  by-valid comes left false valid = by-hops comes (record { calls = left; valid = valid }) turn.request.hops refl

  by-calls : (comes : ComesToProxy turn.live.session turn.request) → EndsIn comes.found.id turn.made ⊎ All (LeavesAlone comes.found.id) turn.made → Goal
  by-calls comes (inl ends) = inr (Ended comes.sess comes.for (subst (λ (s : SessId). EndsIn s turn.made) (its-name comes) ends))
  by-calls comes (inr left) = by-valid comes left (is_invalid Worked comes.found.id) refl

  by-low : (sess : SessId) (found : SessionView) → session_for turn.live.session turn.request ≡ Some sess → session_in turn.live.session.view sess ≡ Some found → is_proxy found.role ≡ true → (b : Bool)
      → is_low (leg_of turn.live.session.known sess) turn.request ≡ b → Goal
  by-low sess found for there proxy true low = inr (Too_low sess for low)
  by-low sess found for there proxy false high =
      by-calls (record { sess = sess; for = for; found = found; there = there; proxy = proxy; high = high }) (calls-end found.id turn.made)

  by-role : (sess : SessId) (found : SessionView) → session_for turn.live.session turn.request ≡ Some sess → session_in turn.live.session.view sess ≡ Some found → (b : Bool) → is_proxy found.role ≡ b → Goal
  by-role sess found for there true proxy = by-low sess found for there proxy (is_low (leg_of turn.live.session.known sess) turn.request) refl
  by-role sess found for there false other = inr (Not_proxied sess found for there other)

  by-found : (which : Option SessionView) → find (takes_request turn.live.session.known turn.request) turn.live.session.view.sessions ≡ which → Goal
  unfolding session_for
  by-found None none = inr (No_dialog (ap (λ (s : Option SessionView). option_map (λ x. x.id) s) none))
  by-found (Some s) is =
      let there = found-again (takes_request turn.live.session.known turn.request) turn.live.session.view.sessions s is in
      by-role s.id there.0 (ap (λ (x : Option SessionView). option_map (λ y. y.id) x) is) there.1 (is_proxy there.0.role) refl

  pub goes-or-stops : Goal
  goes-or-stops = by-found (find (takes_request turn.live.session.known turn.request) turn.live.session.view.sessions) refl

-- in a lawful run
pub goes-on-or-stops : (setup : Setup) (epoch began : ℕ) (journal : List Step) → IsLawful as_session setup epoch began journal
    → AreSmallNumbers setup epoch (chained as_session setup epoch began journal) → AreSmallDraws setup (moments setup epoch began journal) → (place : ℕ) (moment : Moment) (got : Got) (to : AppId)
    → slice_get (moments setup epoch began journal) place ≡ Some moment → (turn : TurnsTo setup moment got to) → ComesNext moment got to ⊎ Stops setup moment got to turn
goes-on-or-stops setup epoch began journal lawful numbers drawn place moment got to at turn = by (goes-or-stops setup moment got to turn)
  where
    by : ((un : IsUnstopped setup moment got) × (un.to ≡ to)) ⊎ Stops setup moment got to turn → ComesNext moment got to ⊎ Stops setup moment got to turn
    by (inl un) = inl (subst (λ (a : AppId). ComesNext moment got a) un.1 (hop setup epoch began journal lawful numbers drawn place moment got at un.0))
    by (inr stops) = inr stops
