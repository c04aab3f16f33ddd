-- What one turn tells of each request that a session proxies.
use Rattle.std.proofs.Common.{◌≡◌, ◌≤◌, ◌<◌, ◌⊎◌, ℕ, ◌+◌, ◌++◌, Bool, true, false, Some, List, [], ◌∷◌, inl, inr, refl, sym, ap, subst, ◌∙◌, arith}
use Rattle.std.specs.Prelude.{◌==◌, cond}
use Rattle.std.specs.List.{fold, list_any}
use Rattle.std.proofs.lemmas.Bool.Decides.{nat_tests}
use Rattle.sc_value.specs.declared.ids.ReqId.{ReqId}
use Rattle.sc_value.specs.declared.message.Request.{Request}
use Rattle.sc_terms.specs.declared.settings.Config.{Config}
use Rattle.sc_terms.specs.declared.views.SessionView.{SessionView}
use Rattle.sc_terms.specs.declared.views.View.{View}
use Rattle.sc_state.specs.declared.proxy.Proxy.{Proxy}
use Rattle.sc_state.specs.declared.queue.Queued.{Queued}
use Rattle.sc_state.specs.declared.queue.Queued.TheVariants as queued
use Rattle.sc_state.specs.declared.session.Kept.{Kept}
use Rattle.sc_state.specs.declared.session.Known.{Known}
use Rattle.sc_state.specs.declared.session.Session.{Session}
use Rattle.sc_state.specs.declared.working.Prepared.{Prepared}
use Rattle.sc_state.specs.declared.working.Working.{Working}
use Rattle.sc_hosts.specs.Acting.{all_act, drafts_ended, after_fault as faulted, is_request_event, passes_later, sent_proxy}
use Rattle.sc_hosts.specs.Branches.{new_proxy}
use Rattle.sc_hosts.specs.Effects.{first_play as begun}
use Rattle.sc_hosts.specs.Finishing.{after_all_calls as finished, is_ended, without_unneeded as lightened, outcome, outcome_of, session_in_play, swept, swept_one, without_acks}
use Rattle.sc_hosts.specs.Histories.{after_turn}
use Rattle.sc_hosts.specs.Looking.{without_sip_session as removed}
use Rattle.sc_hosts.specs.Preparing.{prepared_session as prepared, prepared_for}
use Rattle.sc_hosts.specs.Sessions.{Turn}
use Rattle.sc_hosts.specs.ViewChanges.{tidy}
use Rattle.sc_hosts.specs.Working.{worked_all}
use Rattle.sc_proxied.specs.ProxyLists.{PassedOn, ProxyEvent, happens, proxy_after}
use Rattle.sc_proxied.proofs.Lists.{NumbersApart}
use Rattle.sc_walked.specs.SessionWalks.{Each, SessionLaws}
use Rattle.sc_walked.proofs.WalkCalls.{session_at, worked_all-walks}
use Rattle.sc_walked.proofs.WalkEnds.{all_act-goes, done-any, drafts_ended-goes, faulted-goes}
use Rattle.sc_walked.proofs.WalkShown.{prepared-walks}
use Rattle.sc_lasting.specs.Lasting.{All}
use Rattle.sc_lasting.proofs.Parts.{each-weaker, removed-only}
use Rattle.sc_remembered.proofs.Shown.{shown-now}
use Rattle.sc_proxying.specs.Proxying.{IsBegun, IsOfEnd, IsOfEvent, IsOfTurn, IsPassed, as_begun, given_of}
use Rattle.sc_proxying.proofs.Runs.{IsRun, IsStep, after-append, after-begun, after-req, run-higher, run-then, up-same, up-then}
use Rattle.sc_proxying.proofs.Places.{AreSingle, Grows, IsFree, each-grows, grows-append, grows-both, grows-then, grows-weaker, numbers_of, other-free, same-numbers, single-more}
use Rattle.sc_proxying.proofs.Came.{Comes, event-comes}
use Rattle.sc_proxying.proofs.Given.{HasBegun, SaidAll, turn-given}
use Rattle.sc_proxying.proofs.Rising.{IsNumbered, IsUnder, Rises, rising-law}
use Rattle.sc_proxying.proofs.Later.{IsOther, StaysClear, clear-law, next-clear}
use Rattle.sc_proxying.proofs.Moments.{acting-now, acting-same}
use Rattle.sc_proxying.proofs.Ended.{Ends, all-end}
use Rattle.sc_proxying.proofs.Passed.{Passes, later-passes, shown-next}
use Rattle.sc_proxying.proofs.Requests.{GoesOnKeeping, Keeps, keeping-law, shown-keeps-it}

-- what a turn told of one that was proxied before, where branches are numbered up to this one after it
pub record OldTurn (config : Config) (turn : Turn) (x : Session) (high : ℕ) (p q : Proxy) : Type 0 where
  pub own : List ProxyEvent
  pub is : q ≡ proxy_after p own
  pub run : IsRun x.view.counter p own high
  pub told : IsOfTurn config x turn p own

-- and of one that began to be proxied, as this
pub record NewTurnAs (config : Config) (turn : Turn) (x : Session) (high : ℕ) (q first : Proxy) : Type 0 where
  pub own : List ProxyEvent
  pub is : q ≡ proxy_after first own
  pub run : IsRun x.view.counter first own high
  pub told : IsBegun config x turn first own ⊎ IsPassed turn.waiting.event first own

abbrev pub NewTurn : Config → Turn → Session → ℕ → Proxy → Type 0
NewTurn config turn x high q = NewTurnAs config turn x high q (as_begun q)

old-higher : (config : Config) (turn : Turn) (x : Session) (mid high : ℕ) → mid ≤ high → (p q : Proxy) → OldTurn config turn x mid p q → OldTurn config turn x high p q
old-higher config turn x mid high up p q old = record { own = old.own; is = old.is; run = run-higher x.view.counter mid high p old.own up old.run; told = old.told }

new-higher : (config : Config) (turn : Turn) (x : Session) (mid high : ℕ) → mid ≤ high → (q : Proxy) → NewTurn config turn x mid q → NewTurn config turn x high q
new-higher config turn x mid high up q new = record { own = new.own; is = new.is; run = run-higher x.view.counter mid high (as_begun q) new.own up new.run; told = new.told }

-- what is left of the turn
record Turned (config : Config) (turn : Turn) (x : Session) (high : ℕ) (after : List Proxy) : Type 0 where
  grows : Grows (OldTurn config turn x high) (NewTurn config turn x high) x.known.proxies after
  single : AreSingle after

turned-higher : (config : Config) (turn : Turn) (x : Session) (mid high : ℕ) (after : List Proxy) → mid ≤ high → Turned config turn x mid after → Turned config turn x high after
turned-higher config turn x mid high after up turned = record {
  grows = grows-weaker (OldTurn config turn x mid) (OldTurn config turn x high) (NewTurn config turn x mid) (NewTurn config turn x high) x.known.proxies after (old-higher config turn x mid high up) (new-higher config turn x mid high up) turned.grows;
  single = turned.single;
}

single-same : (xs ys : List Proxy) → Each (λ (p q : Proxy). q.req ≡ p.req) xs ys → AreSingle xs → AreSingle ys
single-same xs ys each single = subst NumbersApart (sym (same-numbers xs ys each)) single

under-other : (a n : ℕ) → a < n → (a == n) ≡ false
under-other a n less = grind (arith, nat_tests, less)

less-one : (n : ℕ) → n < n + 1
less-one n = omega arith

module _ (config : Config) (turn : Turn) (x : Session) where
  abbrev dated : Session
  dated = record x { view = record x.view { now = turn.now } }

  abbrev shown : Prepared
  shown = prepared config turn.ringing x turn.waiting turn.now

  abbrev played : Working
  played = worked_all config shown turn.calls

  abbrev acting : Working
  acting = faulted config shown.req turn.end (drafts_ended played)

  -- each relation that a turn keeps is kept until proxies act
  pub acting-walks : (event : Queued) (Q : Session → Session → Type 0) → SessionLaws event (λ call. Unit {0}) Q → event ≡ turn.waiting.event → Q x (session_at acting)
  acting-walks event Q law is =
      law.after x (session_at played) (session_at acting)
      (worked_all-walks event (λ call. Unit {0}) Q law config x shown turn.calls (done-any turn.calls (λ call. Unit {0}) (λ call. tt) (begun shown.view))
      (prepared-walks event (λ call. Unit {0}) Q law config turn.ringing x turn.waiting turn.now is))
      (law.after (session_at played) (session_at (drafts_ended played)) (session_at acting) (drafts_ended-goes event (λ call. Unit {0}) Q law played)
      (faulted-goes event (λ call. Unit {0}) Q law config shown.req turn.end (drafts_ended played)))

  -- ## The event and the calls

  comes : AreSingle x.known.proxies → Each (Comes dated turn.waiting.event) x.known.proxies shown.known.proxies
  unfolding prepared
  comes single = event-comes config turn.ringing dated turn.waiting.number turn.waiting.event single

  came-single : AreSingle x.known.proxies → AreSingle shown.known.proxies
  came-single single =
      single-same x.known.proxies shown.known.proxies (each-weaker (Comes dated turn.waiting.event) (λ (p q : Proxy). q.req ≡ p.req) x.known.proxies shown.known.proxies
      (λ p q come. ap (λ (r : Proxy). r.req) come.is ∙ after-req come.came p) (comes single)) single

  record Middle (p q : Proxy) : Type 0 where
    came : List ProxyEvent
    is : q ≡ proxy_after p (given_of p.req (begun shown.view) turn.calls ++ came)
    run : (n : ℕ) → IsRun n p (given_of p.req (begun shown.view) turn.calls ++ came) n
    of : IsOfEvent x.known turn.now p turn.waiting.event came

  came-then : ((n : ℕ) (req : ReqId) (p : Proxy) → IsRun n p (given_of req (begun shown.view) turn.calls) n) → (p q r : Proxy) → Comes dated turn.waiting.event p q
      → SaidAll (begun shown.view) turn.calls q r → Middle p r
  came-then run p q r come said = record {
    came = come.came;
    is = said ∙ ap (λ (req : ReqId). proxy_after q (given_of req (begun shown.view) turn.calls)) (ap (λ (s : Proxy). s.req) come.is ∙ after-req come.came p)
        ∙ ap (λ (s : Proxy). proxy_after s (given_of p.req (begun shown.view) turn.calls)) come.is ∙ sym (after-append (given_of p.req (begun shown.view) turn.calls) come.came p);
    run = λ n. run-then n n n p (given_of p.req (begun shown.view) turn.calls) come.came (come.run n) (run n p.req (proxy_after p come.came));
    of = come.of;
  }

  record Given : Type 0 where
    grows : Grows Middle (HasBegun (begun shown.view) turn.calls) x.known.proxies played.known.proxies
    single : AreSingle played.known.proxies

  given : AreSingle x.known.proxies → Given
  given single =
      let says = turn-given config shown turn.calls (came-single single) in record {
        grows = grows-then (Comes dated turn.waiting.event) (SaidAll (begun shown.view) turn.calls) Middle (λ (q : Proxy). ⊥) (HasBegun (begun shown.view) turn.calls) (HasBegun (begun shown.view) turn.calls)
            (came-then says.run) (λ q r none said. absurd none) (λ r new. new) x.known.proxies shown.known.proxies played.known.proxies
            (each-grows (Comes dated turn.waiting.event) (λ (q : Proxy). ⊥) x.known.proxies shown.known.proxies (comes single)) says.grows;
        single = says.single;
      }

  -- ## The end

  same : acting.known.proxies ≡ played.known.proxies
  same = acting-same config shown.req turn.end played

  rising : Rises x (session_at acting)
  rising = acting-walks turn.waiting.event Rises (rising-law turn.waiting.event) refl

  old-ends : (high : ℕ) (p q r : Proxy) → Middle p q → Ends acting.play.view.counter high turn.now q r → OldTurn config turn x high p r
  old-ends high p q r middle ends =
      let first : List ProxyEvent = given_of p.req (begun shown.view) turn.calls ++ middle.came in record {
        own = ends.ended ++ first;
        is = ends.is ∙ ap (λ (s : Proxy). proxy_after s ends.ended) middle.is ∙ sym (after-append ends.ended first p);
        run = run-then x.view.counter acting.play.view.counter high p ends.ended first (run-higher x.view.counter x.view.counter acting.play.view.counter p first rising.up (middle.run x.view.counter))
            (subst (λ (s : Proxy). IsRun acting.play.view.counter s ends.ended high) middle.is ends.run);
        told = record { came = middle.came; ended = ends.ended; own_is = refl; of_event = middle.of; of_end = subst (λ (s : Proxy). IsOfEnd turn.now s ends.ended) middle.is ends.of_end };
      }

  new-ends : (high : ℕ) (q r : Proxy) → HasBegun (begun shown.view) turn.calls q → Ends acting.play.view.counter high turn.now q r → NewTurn config turn x high r
  new-ends high q r new ends =
      subst (NewTurnAs config turn x high r) (sym (ap (λ (s : Proxy). as_begun s) ends.is ∙ after-begun ends.ended q)) (record {
        own = ends.ended ++ new.given;
        is = ends.is ∙ ap (λ (s : Proxy). proxy_after s ends.ended) new.is ∙ sym (after-append ends.ended new.given (as_begun q));
        run = run-then x.view.counter acting.play.view.counter high (as_begun q) ends.ended new.given
            (run-higher x.view.counter x.view.counter acting.play.view.counter (as_begun q) new.given rising.up (new.run x.view.counter))
            (subst (λ (s : Proxy). IsRun acting.play.view.counter s ends.ended high) new.is ends.run);
        told = inl (record { given = new.given; ended = ends.ended; own_is = refl; of_calls = new.by; of_end = subst (λ (s : Proxy). IsOfEnd turn.now s ends.ended) new.is ends.of_end });
      })

  abbrev acted : Working
  acted = all_act config acting

  record Acted : Type 0 where
    turned : Turned config turn x acted.play.view.counter acted.known.proxies
    up : x.view.counter ≤ acted.play.view.counter
    numbers : numbers_of acted.known.proxies ≡ numbers_of played.known.proxies

  all-turned : AreSingle x.known.proxies → Acted
  all-turned single =
      let middle = given single in
      let ends = all-end config acting acting.play.view.counter turn.now (subst (λ (ps : List Proxy). AreSingle ps) (sym same) middle.single) (up-same acting.play.view.counter) (acting-now config shown turn.calls shown.req turn.end ∙ shown-now config turn.ringing x turn.waiting turn.now) in
      let high : ℕ = acted.play.view.counter in
      let each : Each (Ends acting.play.view.counter high turn.now) played.known.proxies acted.known.proxies =
      subst (λ (ps : List Proxy). Each (Ends acting.play.view.counter high turn.now) played.known.proxies ps) (sym ends.is)
      (subst (λ (ps : List Proxy). Each (Ends acting.play.view.counter high turn.now) ps ends.after) same ends.each) in
      let named : Each (λ (p q : Proxy). q.req ≡ p.req) played.known.proxies acted.known.proxies =
      each-weaker (Ends acting.play.view.counter high turn.now) (λ (p q : Proxy). q.req ≡ p.req) played.known.proxies acted.known.proxies (λ p q end. ap (λ (r : Proxy). r.req) end.is ∙ after-req end.ended p) each in
      record {
        turned = record {
          grows = grows-then Middle (Ends acting.play.view.counter high turn.now) (OldTurn config turn x high) (HasBegun (begun shown.view) turn.calls) (λ (q : Proxy). ⊥) (NewTurn config turn x high)
              (old-ends high) (new-ends high) (λ r none. absurd none) x.known.proxies played.known.proxies acted.known.proxies middle.grows
              (each-grows (Ends acting.play.view.counter high turn.now) (λ (q : Proxy). ⊥) played.known.proxies acted.known.proxies each);
          single = single-same played.known.proxies acted.known.proxies named middle.single;
        };
        up = up-then x.view.counter acting.play.view.counter high rising.up ends.up;
        numbers = same-numbers played.known.proxies acted.known.proxies named;
      }

  -- ## A later request is passed on

  pub shown-req : (request : Request) → turn.waiting.event ≡ queued.Request request → (r : ReqId) → shown.req ≡ Some r → r.0 ≡ x.view.next_request
  unfolding prepared
  shown-req request is r =
      subst (λ (event : Queued). (prepared_for config turn.ringing dated turn.waiting.number event).req ≡ Some r → r.0 ≡ x.view.next_request) (sym is)
      (shown-next config turn.ringing dated turn.waiting.number request r)

  -- none that was proxied is of its number
  none-next : (request : Request) → turn.waiting.event ≡ queued.Request request → AreSingle x.known.proxies → IsNumbered x → IsFree x.view.next_request played.known.proxies
  unfolding IsOther
  none-next request is single numbered =
      let clear = acting-walks (queued.Request request) (StaysClear x.view.next_request) (clear-law x.view.next_request request) (sym is) (next-clear x numbered) in
      other-free x.view.next_request played.known.proxies
      (grows-both Middle (HasBegun (begun shown.view) turn.calls) (IsUnder x.view.next_request) (IsOther x.view.next_request) (λ (q : Proxy). (q.req.0 == x.view.next_request) ≡ false) x.known.proxies played.known.proxies
      (λ p q middle under other. under-other q.req.0 x.view.next_request (subst (λ (req : ReqId). req.0 < x.view.next_request) (sym (ap (λ (r : Proxy). r.req) middle.is ∙ after-req _ p)) under))
      (λ q new other. other new.options) (given single).grows numbered.proxied (subst (λ (ps : List Proxy). All (IsOther x.view.next_request) ps) same clear.1))

  -- what is kept under its number is that request
  pub keeps-it : (request : Request) → turn.waiting.event ≡ queued.Request request → IsNumbered x → Keeps x.view.next_request request acted.play.view acted.known
  unfolding prepared
  keeps-it request is numbered =
      let number : ℕ = x.view.next_request in
      let event : Queued = queued.Request request in
      let law = keeping-law number request event in
      let first : Keeps number request shown.view shown.known = subst (λ (e : Queued). Keeps number request (prepared_for config turn.ringing dated turn.waiting.number e).view (prepared_for config turn.ringing dated turn.waiting.number e).known) (sym is)
      (shown-keeps-it config turn.ringing dated turn.waiting.number request (record { requests = numbered.requests; proxied = numbered.proxied })) in
      let begins : Session = record { view = shown.view; known = shown.known } in
      all_act-goes event (λ call. Unit {0}) (GoesOnKeeping number request) law config acting
      (faulted-goes event (λ call. Unit {0}) (GoesOnKeeping number request) law config shown.req turn.end (drafts_ended played)
      (drafts_ended-goes event (λ call. Unit {0}) (GoesOnKeeping number request) law played
      (worked_all-walks event (λ call. Unit {0}) (GoesOnKeeping number request) law config begins shown turn.calls (done-any turn.calls (λ call. Unit {0}) (λ call. tt) (begun shown.view)) (law.same begins) first)))

  new-passed : (request : Request) → turn.waiting.event ≡ queued.Request request → (kept : Kept) (low high : ℕ) → kept.request ≡ request → x.view.counter ≤ low → low + 1 ≤ high
      → NewTurn config turn x high (sent_proxy kept (low + 1))
  unfolding sent_proxy new_proxy happens proxy_after IsRun IsStep IsPassed
  new-passed request is kept low high came up room = record {
    own = PassedOn (low + 1) ∷ [];
    is = refl;
    run = (low, up, (less-one low, room));
    told = inr (rw is (came, refl, (low + 1, refl)));
  }

  sent-req : (kept : Kept) (branch : ℕ) → (sent_proxy kept branch).req ≡ kept.id
  unfolding sent_proxy new_proxy
  sent-req kept branch = refl

  request-turned : (request : Request) → turn.waiting.event ≡ queued.Request request → AreSingle x.known.proxies → IsNumbered x → (after : Working)
      → Passes x.view.next_request request acted after → Turned config turn x after.play.view.counter after.known.proxies
  request-turned request is single numbered after passes = by passes.what
    where
      act : Acted
      act = all-turned single

      higher : Turned config turn x after.play.view.counter acted.known.proxies
      higher = turned-higher config turn x acted.play.view.counter after.play.view.counter acted.known.proxies passes.up act.turned

      free : IsFree x.view.next_request acted.known.proxies
      free = subst (λ (ns : List ℕ). list_any (λ n. n == x.view.next_request) ns ≡ false) (sym act.numbers) (none-next request is single numbered)

      more : (kept : Kept) → kept.id.0 ≡ x.view.next_request → kept.request ≡ request → acted.play.view.counter + 1 ≤ after.play.view.counter
          → Turned config turn x after.play.view.counter (acted.known.proxies ++ sent_proxy kept (acted.play.view.counter + 1) ∷ [])
      more kept number came room = record {
        grows = grows-append (OldTurn config turn x after.play.view.counter) (NewTurn config turn x after.play.view.counter) x.known.proxies acted.known.proxies (sent_proxy kept (acted.play.view.counter + 1)) higher.grows
            (new-passed request is kept acted.play.view.counter after.play.view.counter came act.up room);
        single = single-more acted.known.proxies (sent_proxy kept (acted.play.view.counter + 1)) act.turned.single
            (subst (λ (n : ℕ). IsFree n acted.known.proxies) (sym (ap (λ (req : ReqId). req.0) (sent-req kept (acted.play.view.counter + 1)) ∙ number)) free);
      }

      by : (after.known.proxies ≡ acted.known.proxies)
          ⊎ ((kept : Kept) × (kept.id.0 ≡ x.view.next_request) × (kept.request ≡ request) × (after.known.proxies ≡ acted.known.proxies ++ sent_proxy kept (acted.play.view.counter + 1) ∷ [])
          × (acted.play.view.counter + 1 ≤ after.play.view.counter))
          → Turned config turn x after.play.view.counter after.known.proxies
      by (inl same) = subst (Turned config turn x after.play.view.counter) (sym same) higher
      by (inr one) = subst (Turned config turn x after.play.view.counter) (sym one.3) (more one.0 one.1 one.2 one.4)

  last-turned : (event : Queued) → turn.waiting.event ≡ event → AreSingle x.known.proxies → IsNumbered x
      → Turned config turn x (passes_later config event shown.req acted).play.view.counter (passes_later config event shown.req acted).known.proxies
  unfolding passes_later is_request_event
  last-turned (queued.Initial region subscriber popped request) is single numbered = (all-turned single).turned
  last-turned (queued.Request request) is single numbered =
      request-turned request is single numbered (passes_later config (queued.Request request) shown.req acted) (later-passes config x.view.next_request request shown.req acted (keeps-it request is numbered).1 (shown-req request is))
  last-turned (queued.Response branch response) is single numbered = (all-turned single).turned
  last-turned (queued.Cancelled number) is single numbered = (all-turned single).turned
  last-turned (queued.Timer id) is single numbered = (all-turned single).turned
  last-turned (queued.BranchTimer branch due) is single numbered = (all-turned single).turned
  last-turned queued.Expired is single numbered = (all-turned single).turned
  last-turned queued.Ready is single numbered = (all-turned single).turned

-- ## What goes away

swept-counter : (known : Known) (before view : View) (session : SessionView) → (swept_one known before view session).counter ≡ view.counter
unfolding swept_one
swept-counter known before view session = by _
  where
    by : (b : Bool) → (cond b (removed session.id view) view).counter ≡ view.counter
    by true = ap (λ (v : View). v.counter) (removed-only session.id view)
    by false = refl

all-swept : (sessions : List SessionView) (known : Known) (before view : View) → (fold (swept_one known before) view sessions).counter ≡ view.counter
all-swept [] known before view = refl
all-swept (session ∷ sessions) known before view = all-swept sessions known before (swept_one known before view session) ∙ swept-counter known before view session

in-play-same : (w : Working) → (lightened (session_in_play w)).known.proxies ≡ w.known.proxies
unfolding lightened session_in_play
in-play-same w = refl

in-play-swept : (w : Working) → (lightened (swept (session_in_play w))).known.proxies ≡ w.known.proxies
unfolding lightened session_in_play swept
in-play-swept w = refl

in-play-counter : (w : Working) → (lightened (session_in_play w)).view.counter ≡ w.play.view.counter
unfolding lightened session_in_play without_acks
in-play-counter w = refl

swept-play-counter : (w : Working) → (lightened (swept (session_in_play w))).view.counter ≡ w.play.view.counter
unfolding lightened session_in_play swept tidy without_acks
swept-play-counter w =
    let s : Session = session_in_play w in all-swept s.view.sessions s.known s.view s.view

outcome-same : (event : Queued) (w : Working) → (outcome_of event w).session.known.proxies ≡ w.known.proxies
unfolding outcome_of
outcome-same event w = by (is_ended event w)
  where
    by : (b : Bool) → (lightened (cond b (session_in_play w) (swept (session_in_play w)))).known.proxies ≡ w.known.proxies
    by true = in-play-same w
    by false = in-play-swept w

outcome-counter : (event : Queued) (w : Working) → (outcome_of event w).session.view.counter ≡ w.play.view.counter
unfolding outcome_of
outcome-counter event w = by (is_ended event w)
  where
    by : (b : Bool) → (lightened (cond b (session_in_play w) (swept (session_in_play w)))).view.counter ≡ w.play.view.counter
    by true = in-play-counter w
    by false = swept-play-counter w

-- a turn
pub record IsTurned (config : Config) (turn : Turn) (x after : Session) : Type 0 where
  pub grows : Grows (OldTurn config turn x after.view.counter) (NewTurn config turn x after.view.counter) x.known.proxies after.known.proxies
  pub single : AreSingle after.known.proxies

turned-is : (config : Config) (turn : Turn) (x after : Session) (high : ℕ) (proxies : List Proxy) → after.known.proxies ≡ proxies → after.view.counter ≡ high → Turned config turn x high proxies
    → IsTurned config turn x after
turned-is config turn x after high proxies same counter turned = record {
  grows = subst (λ (ps : List Proxy). Grows (OldTurn config turn x after.view.counter) (NewTurn config turn x after.view.counter) x.known.proxies ps) (sym same)
      (subst (λ (n : ℕ). Grows (OldTurn config turn x n) (NewTurn config turn x n) x.known.proxies proxies) (sym counter) turned.grows);
  single = subst (λ (ps : List Proxy). AreSingle ps) (sym same) turned.single;
}

pub turn-tells : (config : Config) (turn : Turn) (x : Session) → AreSingle x.known.proxies → IsNumbered x → IsTurned config turn x (after_turn config turn x)
unfolding after_turn outcome finished
turn-tells config turn x single numbered =
    let last : Working = passes_later config turn.waiting.event (shown config turn x).req (acted config turn x) in
    turned-is config turn x _ last.play.view.counter last.known.proxies (outcome-same turn.waiting.event last) (outcome-counter turn.waiting.event last) (last-turned config turn x turn.waiting.event refl single numbered)
