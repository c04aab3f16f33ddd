-- An event waits in its session until that turns to it, or it never does.
use Rattle.std.proofs.Common.{◌≡◌, ◌≤◌, ◌<◌, ℕ, ◌++◌, Bool, true, false, Option, None, Some, List, [], ◌∷◌, refl, sym, ap, subst, ◌∙◌, append_assoc, arith}
use Rattle.std.specs.Prelude.{◌==◌, ◌&&◌, cond, drop, is_some, map, slice_get}
use Rattle.std.proofs.lemmas.Bool.Decides.{nat_tests}
use Rattle.std.proofs.lemmas.List.{map-append}
use Rattle.sc_value.specs.Lists.{change_first}
use Rattle.sc_value.specs.declared.ids.AppId.{AppId}
use Rattle.sc_terms.specs.declared.calls.CallRecord.{CallRecord}
use Rattle.sc_terms.specs.declared.calls.End.{End}
use Rattle.sc_terms.specs.declared.steps.Step.{Step}
use Rattle.sc_terms.specs.declared.steps.Step.TheVariants as steps
use Rattle.sc_parts.specs.declared.setup.Setup.{Setup}
use Rattle.sc_state.specs.Hosts.{Host}
use Rattle.sc_state.specs.declared.host.Live.{Live}
use Rattle.sc_state.specs.declared.net.Net.{Net}
use Rattle.sc_state.specs.declared.orders.Outcome.{Outcome}
use Rattle.sc_state.specs.declared.queue.Waiting.{Waiting}
use Rattle.sc_state.specs.declared.session.Session.{Session}
use Rattle.sc_hosts.specs.EventLists.{waiting_in}
use Rattle.sc_hosts.specs.Finishing.{goodbye}
use Rattle.sc_hosts.specs.Inboxes.{is_live}
use Rattle.sc_hosts.specs.Nets.{change_host, host_at, after_orders as obeyed}
use Rattle.sc_hosts.specs.Runs.{IsAllowed, MayTurn, after_step, after_delivery as delivered}
use Rattle.sc_hosts.specs.Sessions.{Form, Turn}
use Rattle.sc_hosts.specs.Steps.{closed_turn, inbox_of, without_application as invalidated, live_at, outcome_by, before_delivery as stepped, turn_of, net_after_turn as turned, turned_live, turns, turns_first, withdrawn, without_live}
use Rattle.sc_hosts.specs.Transacting.{is_same_app}
use Rattle.sc_lasting.specs.Lasting.{All}
use Rattle.sc_lives.specs.Numbers.{AreNumbered}
use Rattle.sc_lives.proofs.NumberedNets.{change_host-numbered, obeyed-numbered}
use Rattle.sc_lives.proofs.Serials.{change-rising}
use Rattle.sc_walks.proofs.WalkNets.{delivered-walks, obeyed-walks}
use Rattle.sc_once.specs.Growing.{GoneIn, IsBetween, KnownIn, NetGrows, HostGrows}
use Rattle.sc_once.proofs.Bounds.{bounds-rise}
use Rattle.sc_once.proofs.GrowingHosts.{grow-hosts}
use Rattle.sc_once.proofs.GrowingNets.{grow-nets}
use Rattle.sc_once.proofs.OwnTurns.{changed-known, gone-dead, gone-quiet, live-known, without-gone}
use Rattle.sc_once.proofs.StepParts.{handled_in, parts, same-app}
use Rattle.sc_waits.specs.Growing.{Follows, Grows, IsElsewhere, events_in}
use Rattle.sc_waits.proofs.Steps.{step-grows, turn-follows}

-- ## Numbers

-- no number is this one
abbrev pub AreOthers : ℕ → List ℕ → Type 0
AreOthers n numbers = All (λ (m : ℕ). m ≡ n → ⊥) numbers

others-both : (n : ℕ) (ms ks : List ℕ) → AreOthers n ms → AreOthers n ks → AreOthers n (ms ++ ks)
unfolding All
others-both n [] ks p q = q
others-both n (m ∷ ms) ks p q = (p.0, others-both n ms ks p.1 q)

others-back : (n : ℕ) (ms ks : List ℕ) → AreOthers n (ms ++ ks) → AreOthers n ks
unfolding All
others-back n [] ks all = all
others-back n (m ∷ ms) ks all = others-back n ms ks all.1

above-other : (m n low : ℕ) → n ≤ low → low < m → m ≡ n → ⊥
above-other m n low under above same = omega (arith, under, above, same)

above-others : (ms : List ℕ) (n low high : ℕ) → n ≤ low → IsBetween ms low high → AreOthers n ms
unfolding IsBetween All
above-others [] n low high under between = tt
above-others (m ∷ ms) n low high under between = (above-other m n low under between.0, above-others ms n m high (omega (arith, under, between.0)) between.1)

middle-under : (ms : List ℕ) (n : ℕ) (ks : List ℕ) (low high : ℕ) → IsBetween (ms ++ n ∷ ks) low high → n ≤ high
unfolding IsBetween
middle-under [] n ks low high between = bounds-rise ks n high between.1
middle-under (m ∷ ms) n ks low high between = middle-under ms n ks m high between.1

middle-above : (ms : List ℕ) (n : ℕ) (ks : List ℕ) (low high : ℕ) → IsBetween (ms ++ n ∷ ks) low high → low < n
unfolding IsBetween
middle-above [] n ks low high between = between.0
middle-above (m ∷ ms) n ks low high between = omega (arith, between.0, middle-above ms n ks m high between.1)

left-others : (n low later : ℕ) (rest queued : List ℕ) (ends : Bool) → n ≤ low → AreOthers n rest → IsBetween queued low later → AreOthers n (cond ends [] (rest ++ queued))
unfolding All
left-others n low later rest queued true under others between = tt
left-others n low later rest queued false under others between = others-both n rest queued others (above-others queued n low later under between)

-- ## What waits

-- the event is among those that wait
pub record IsHeld {S : Type 0} (app : AppId) (waiting : Waiting) (net : Net S) : Type 0 where
  pub first : List Waiting
  pub rest : List Waiting
  pub is : events_in app net ≡ first ++ waiting ∷ rest

-- its number was given, and nothing waits under it
pub record IsPast {S : Type 0} (app : AppId) (number : ℕ) (net : Net S) : Type 0 where
  pub given : number ≤ net.count
  pub others : AreOthers number (waiting_in app net)

pub data Waits {S : Type 0} (app : AppId) (waiting : Waiting) (net : Net S) : Type 0 where
  Held : IsHeld app waiting net → Waits app waiting net
  Past : IsPast app waiting.number net → Waits app waiting net

-- a turn of this session to another event, or any other step
unfoldable pub IsNotTurn : AppId → ℕ → Step → Type 0
IsNotTurn app number (steps.Turn end other event now made) = (is_same_app other app && event == number) ≡ false
IsNotTurn app number step = Unit {0}

pub events-live : {S : Type 0} (app : AppId) (net : Net S) (live : Live S) → live_at app net ≡ Some live → events_in app net ≡ live.inbox
unfolding events_in
events-live app net live is = rw is refl

numbers-live : {S : Type 0} (app : AppId) (net : Net S) (live : Live S) → live_at app net ≡ Some live → waiting_in app net ≡ map (λ w. w.number) live.inbox
unfolding waiting_in
numbers-live app net live is = rw is refl

numbers-dead : {S : Type 0} (app : AppId) (net : Net S) → live_at app net ≡ None → events_in app net ≡ []
unfolding events_in
numbers-dead app net is = rw is refl

numbers-by : {S : Type 0} (app : AppId) (net : Net S) (found : Option (Live S)) → live_at app net ≡ found → waiting_in app net ≡ map (λ w. w.number) (events_in app net)
unfolding waiting_in events_in
numbers-by app net None is = rw is refl
numbers-by app net (Some live) is = rw is refl

held-numbers : {S : Type 0} (app : AppId) (waiting : Waiting) (net : Net S) → (held : IsHeld app waiting net)
    → waiting_in app net ≡ map (λ w. w.number) held.first ++ waiting.number ∷ map (λ w. w.number) held.rest
held-numbers app waiting net held =
    numbers-by app net _ refl ∙ (ap (map (λ (w : Waiting). w.number)) held.is ∙ map-append (λ (w : Waiting). w.number) held.first (waiting ∷ held.rest))

flipped : (a b c d : ℕ) (x : Bool) → (a == b && c == d) ≡ x → (b == a && d == c) ≡ x
flipped a b c d x is = grind (arith, nat_tests, is)

own-number : (n : ℕ) → (n == n) ≡ true
own-number n = grind (arith, nat_tests)

both-true : (a b : Bool) → a ≡ true → b ≡ true → (a && b) ≡ false → ⊥
both-true a b p q is = cc

module _ {S : Type 0} (form : Form S) (setup : Setup) (app : AppId) where
  -- ## The session ends

  delivers : (net : Net S) → NetGrows app net (delivered form setup net)
  delivers net = delivered-walks (λ number now. HostGrows {S = S} app.serial) (NetGrows app) (grow-hosts app.serial) (grow-nets app) form tt setup net

  obeys : (given : _) (net : Net S) → NetGrows app net (obeyed setup app given net)
  obeys given net = obeyed-walks (λ number now. HostGrows {S = S} app.serial) (NetGrows app) (grow-hosts app.serial) (grow-nets app) setup app given net

  goes : (session : Session) (inbox : List Waiting) (net : Net S) → AreNumbered net → KnownIn app.serial (host_at app.host net)
      → GoneIn app.serial (host_at app.host (delivered form setup (invalidated setup app session inbox net)))
  unfolding invalidated
  goes session inbox net numbered known =
      let left : Net S = obeyed setup app (goodbye setup.config session inbox) net in
      (delivers (without_live app left)).gone (without-gone app left (obeyed-numbered setup app _ net numbered) ((obeys (goodbye setup.config session inbox) net).known known))

  closed-gone : (done : Outcome) (ends : Bool) (net : Net S) → ends ≡ true → AreNumbered net → KnownIn app.serial (host_at app.host net)
      → GoneIn app.serial (host_at app.host (delivered form setup (closed_turn setup app done ends net)))
  unfolding closed_turn
  closed-gone done true net is numbered known = goes done.session (inbox_of (live_at app net)) net numbered known
  closed-gone done false net is numbered known = cc

  turn-gone : (net : Net S) (live : Live S) (waiting : Waiting) (event now : ℕ) (made : List CallRecord) (end : End) → AreNumbered net → live_at app net ≡ Some live
      → slice_get live.inbox 0 ≡ Some waiting
      → (outcome_by form setup.config live.session (turn_of (record net { sent = [] }) app waiting now made end)).ends ≡ true
      → GoneIn app.serial (host_at app.host (after_step form setup net (steps.Turn end app event now made)))
  unfolding after_step stepped turns turns_first turned turned_live
  turn-gone net live waiting event now made end numbered lives first is =
      let start : Net S = record net { sent = [] } in
      let turn : Turn = turn_of start app waiting now made end in
      let done : Outcome = outcome_by form setup.config live.session turn in
      let change : Host S → Host S = λ host. record host { sessions = change_first (is_live app.serial) (turned_live form setup.config net.moment turn done) host.sessions } in
      let changed : Net S = change_host app.host change start in
      rw (lives, first)
      (closed-gone done done.ends (obeyed setup app done.orders changed) is
      (obeyed-numbered setup app done.orders changed (change_host-numbered app.host change start (λ host whole. change-rising host.sessions 0 host.last (is_live app.serial) _ (λ live. refl) whole) numbered))
      ((obeys done.orders changed).known (changed-known app change start (λ host. refl) (live-known app net live numbered lives))))

  withdrawal-gone : (net : Net S) (found : Option (Live S)) → live_at app net ≡ found → is_some found ≡ true → AreNumbered net
      → GoneIn app.serial (host_at app.host (after_step form setup net (steps.Withdraw app)))
  unfolding after_step stepped withdrawn
  withdrawal-gone net None is some numbered = cc
  withdrawal-gone net (Some live) is some numbered = rw is (goes _ live.inbox (record net { sent = [] }) numbered (live-known app net live numbered is))

  -- ## Each step

  module _ (waiting : Waiting) (net : Net S) (numbered : AreNumbered net) (within : IsBetween (waiting_in app net) 0 net.count) where
    gone-past : (after : Net S) → waiting.number ≤ net.count → net.count ≤ after.count → GoneIn app.serial (host_at app.host after) → Waits app waiting after
    unfolding All
    gone-past after given rises gone =
        Past (record { given = omega (arith, given, rises); others = rw (gone-quiet app after (gone-dead app after gone)) tt })

    past-step : (step : Step) → IsAllowed form setup net step → IsPast app waiting.number net → IsPast app waiting.number (after_step form setup net step)
    past-step step allowed past =
        let part = parts form setup app 0 net step numbered within allowed in record {
          given = omega (arith, past.given, bounds-rise _ net.count _ part.between);
          others = rw (part.left) (left-others waiting.number net.count _ part.rest _ part.ends past.given (others-back waiting.number (handled_in _) part.rest (subst (λ (ns : List ℕ). AreOthers waiting.number ns) part.before past.others)) part.between);
        }

    held-given : IsHeld app waiting net → waiting.number ≤ net.count
    held-given held = middle-under (map (λ w. w.number) held.first) waiting.number (map (λ w. w.number) held.rest) 0 net.count (subst (λ (ns : List ℕ). IsBetween ns 0 net.count) (held-numbers app waiting net held) within)

    grown : (after : Net S) → Grows app net after → IsHeld app waiting net → IsHeld app waiting after
    grown after grows held = record { first = held.first; rest = held.rest ++ grows.new; is = grows.waits ∙ (ap (λ (ws : List Waiting). ws ++ grows.new) held.is ∙ append_assoc held.first (waiting ∷ held.rest) grows.new) }

    followed-by : (first : List Waiting) (rest : List Waiting) (front : Waiting) (after : Net S) → events_in app net ≡ first ++ waiting ∷ rest
        → slice_get (events_in app net) 0 ≡ Some front → (front.number ≡ waiting.number → ⊥) → Follows app net after → IsHeld app waiting after
    followed-by [] rest front after is at other follows =
        let same : waiting ≡ front = first-is (events_in app net) is at in absurd (other (ap (λ (w : Waiting). w.number) (sym same)))
      where
        first-is : (ws : List Waiting) → ws ≡ waiting ∷ rest → slice_get ws 0 ≡ Some front → waiting ≡ front
        first-is ws is at = cc
    followed-by (f ∷ first) rest front after is at other follows = record {
      first = first;
      rest = rest ++ follows.new;
      is = follows.waits ∙ (ap (λ (ws : List Waiting). drop 1 ws ++ follows.new) is ∙ append_assoc first (waiting ∷ rest) follows.new);
    }

    turned-by : (ends : Bool) (live : Live S) (front : Waiting) (event now : ℕ) (made : List CallRecord) (end : End) → live_at app net ≡ Some live → slice_get live.inbox 0 ≡ Some front
        → (outcome_by form setup.config live.session (turn_of (record net { sent = [] }) app front now made end)).ends ≡ ends → (front.number ≡ waiting.number → ⊥)
        → net.count ≤ (after_step form setup net (steps.Turn end app event now made)).count → IsHeld app waiting net
        → Waits app waiting (after_step form setup net (steps.Turn end app event now made))
    turned-by true live front event now made end lives first is other rises held =
        gone-past _ (held-given held) rises (turn-gone net live front event now made end numbered lives first is)
    turned-by false live front event now made end lives first is other rises held =
        Held (followed-by held.first held.rest front _ held.is (rw (events-live app net live lives) first) other (turn-follows form setup app net live front event now made end lives first is))

    rises : (step : Step) → IsAllowed form setup net step → net.count ≤ (after_step form setup net step).count
    rises step allowed = bounds-rise _ net.count _ (parts form setup app 0 net step numbered within allowed).between

    elsewhere : (step : Step) → IsElsewhere app step → IsHeld app waiting net → Waits app waiting (after_step form setup net step)
    elsewhere step away held = Held (grown _ (step-grows form setup app net step away) held)

    own-turn : (event now : ℕ) (made : List CallRecord) (end : End) → MayTurn form setup net app event now made end → (event ≡ waiting.number → ⊥)
        → net.count ≤ (after_step form setup net (steps.Turn end app event now made)).count → IsHeld app waiting net
        → Waits app waiting (after_step form setup net (steps.Turn end app event now made))
    own-turn event now made end may other more held =
        turned-by _ may.live may.waiting event now made end may.live_is may.waiting_is refl (λ same. other (sym may.event_is ∙ same)) more held

    turn-step : (other : AppId) (b : Bool) → is_same_app other app ≡ b → (event now : ℕ) (made : List CallRecord) (end : End) → MayTurn form setup net other event now made end
        → (b && event == waiting.number) ≡ false → net.count ≤ (after_step form setup net (steps.Turn end other event now made)).count → IsHeld app waiting net
        → Waits app waiting (after_step form setup net (steps.Turn end other event now made))
    unfolding IsElsewhere
    turn-step other false is event now made end may not_turn more held = elsewhere (steps.Turn end other event now made) is held
    turn-step other true is event now made end may not_turn more held =
        let same : other ≡ app = same-app form setup app other (flipped other.host app.host other.serial app.serial true is) in
        let apart : event ≡ waiting.number → ⊥ = λ equal. both-true true (event == waiting.number) refl (rw equal (own-number waiting.number)) not_turn in
        subst (λ (a : AppId). Waits app waiting (after_step form setup net (steps.Turn end a event now made))) (sym same)
        (own-turn event now made end (subst (λ (a : AppId). MayTurn form setup net a event now made end) same may) apart
        (subst (λ (a : AppId). net.count ≤ (after_step form setup net (steps.Turn end a event now made)).count) same more) held)

    withdraw-step : (other : AppId) (b : Bool) → is_same_app other app ≡ b → is_some (live_at other net) ≡ true → net.count ≤ (after_step form setup net (steps.Withdraw other)).count
        → IsHeld app waiting net → Waits app waiting (after_step form setup net (steps.Withdraw other))
    unfolding IsElsewhere
    withdraw-step other false is lives more held = elsewhere (steps.Withdraw other) is held
    withdraw-step other true is lives more held =
        let same : other ≡ app = same-app form setup app other (flipped other.host app.host other.serial app.serial true is) in
        subst (λ (a : AppId). Waits app waiting (after_step form setup net (steps.Withdraw a))) (sym same)
        (gone-past _ (held-given held) (subst (λ (a : AppId). net.count ≤ (after_step form setup net (steps.Withdraw a)).count) same more)
        (withdrawal-gone net _ refl (subst (λ (a : AppId). is_some (live_at a net) ≡ true) same lives) numbered))

    held-step : (step : Step) → IsAllowed form setup net step → IsNotTurn app waiting.number step → net.count ≤ (after_step form setup net step).count → IsHeld app waiting net
        → Waits app waiting (after_step form setup net step)
    unfolding IsAllowed IsNotTurn IsElsewhere
    held-step (steps.In from message) allowed other more held = elsewhere (steps.In from message) tt held
    held-step (steps.Bad from bad) allowed other more held = elsewhere (steps.Bad from bad) tt held
    held-step (steps.Lost place) allowed other more held = elsewhere (steps.Lost place) tt held
    held-step (steps.Tick now) allowed other more held = elsewhere (steps.Tick now) tt held
    held-step (steps.Turn end at event now made) allowed other more held = turn-step at _ refl event now made end allowed other more held
    held-step (steps.Withdraw at) allowed other more held = withdraw-step at _ refl allowed more held

    -- over a step that isn't its turn
    pub wait-step : (step : Step) → IsAllowed form setup net step → IsNotTurn app waiting.number step → Waits app waiting net
        → Waits app waiting (after_step form setup net step)
    wait-step step allowed other (Held held) = held-step step allowed other (rises step allowed) held
    wait-step step allowed other (Past past) = Past (past-step step allowed past)

    -- ## Its turn

    front-by : (first rest : List Waiting) (front : Waiting) → events_in app net ≡ first ++ waiting ∷ rest → slice_get (events_in app net) 0 ≡ Some front → front.number ≡ waiting.number
        → IsBetween (map (λ w. w.number) (first ++ waiting ∷ rest)) 0 net.count → front ≡ waiting
    unfolding IsBetween
    front-by [] rest front is at same between = front-is (events_in app net) is at
      where
        front-is : (ws : List Waiting) → ws ≡ waiting ∷ rest → slice_get ws 0 ≡ Some front → front ≡ waiting
        front-is ws is at = cc
    front-by (f ∷ first) rest front is at same between =
        let here : f ≡ front = front-is (events_in app net) is at in
        let later : IsBetween (map (λ w. w.number) first ++ waiting.number ∷ map (λ w. w.number) rest) f.number net.count = subst (λ (ns : List ℕ). IsBetween ns f.number net.count) (map-append (λ (w : Waiting). w.number) first (waiting ∷ rest)) between.1 in
        absurd (too-low f.number waiting.number (middle-above _ waiting.number _ f.number net.count later) (ap (λ (w : Waiting). w.number) here ∙ same))
      where
        front-is : (ws : List Waiting) → ws ≡ f ∷ (first ++ waiting ∷ rest) → slice_get ws 0 ≡ Some front → f ≡ front
        front-is ws is at = cc

        too-low : (a b : ℕ) → a < b → a ≡ b → ⊥
        too-low a b less same = omega (arith, less, same)

    first-other : (numbers : List ℕ) (event : ℕ) (more : List ℕ) → numbers ≡ event ∷ more → AreOthers event numbers → ⊥
    unfolding All
    first-other [] event more is others = cc
    first-other (n ∷ numbers) event more is others = others.0 (head-is n event is)
      where
        head-is : (n event : ℕ) → n ∷ numbers ≡ event ∷ more → n ≡ event
        head-is n event is = cc

    first-numbers : (inbox : List Waiting) (front : Waiting) → slice_get inbox 0 ≡ Some front → map (λ w. w.number) inbox ≡ front.number ∷ map (λ w. w.number) (drop 1 inbox)
    first-numbers [] front is = cc
    first-numbers (w ∷ ws) front is = let same : w ≡ front = cc in rw same refl

    -- the turn to an event of this number is that to this event
    pub turn-is : (event now : ℕ) (made : List CallRecord) (end : End) → (may : MayTurn form setup net app event now made end) → event ≡ waiting.number → Waits app waiting net
        → may.waiting ≡ waiting
    turn-is event now made end may same (Held held) =
        front-by held.first held.rest may.waiting held.is (rw (events-live app net may.live may.live_is) may.waiting_is) (may.event_is ∙ same)
        (subst (λ (ns : List ℕ). IsBetween ns 0 net.count) (numbers-by app net _ refl ∙ ap (map (λ (w : Waiting). w.number)) held.is) within)
    turn-is event now made end may same (Past past) =
        absurd (first-other (waiting_in app net) waiting.number _ (numbers-live app net may.live may.live_is ∙ (first-numbers may.live.inbox may.waiting may.waiting_is ∙ ap (λ (n : ℕ). n ∷ map (λ w. w.number) (drop 1 may.live.inbox)) (may.event_is ∙ same))) past.others)
