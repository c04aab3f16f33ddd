-- What each step that is allowed makes of what waits in an application session.
use Rattle.std.proofs.Common.{◌≡◌, ◌≤◌, ℕ, ◌++◌, Bool, true, false, Option, None, Some, List, [], ◌∷◌, refl, sym, ap, subst, ◌∙◌, arith, append_assoc}
use Rattle.std.specs.Prelude.{◌==◌, ◌&&◌, cond, is_some, slice_get, drop, map}
use Rattle.std.proofs.lemmas.Bool.Decides.{nat_tests}
use Rattle.std.proofs.lemmas.List.{append-nil}
use Rattle.sc_value.specs.Lists.{change_first}
use Rattle.sc_value.specs.declared.ids.AppId.{AppId}
use Rattle.sc_terms.specs.declared.calls.CallRecord.{CallRecord}
use Rattle.sc_terms.specs.declared.calls.End.{End}
use Rattle.sc_terms.specs.declared.steps.Step.{Step}
use Rattle.sc_terms.specs.declared.steps.Step.TheVariants as steps
use Rattle.sc_parts.specs.declared.setup.Setup.{Setup}
use Rattle.sc_state.specs.Hosts.{Host}
use Rattle.sc_state.specs.declared.host.Live.{Live}
use Rattle.sc_state.specs.declared.net.Net.{Net}
use Rattle.sc_state.specs.declared.orders.Order.{Order}
use Rattle.sc_state.specs.declared.orders.Outcome.{Outcome}
use Rattle.sc_state.specs.declared.queue.Waiting.{Waiting}
use Rattle.sc_state.specs.declared.session.Session.{Session}
use Rattle.sc_hosts.specs.EventLists.{waiting_in, above, after_sending as opened, opened_first, opened_by, before_end, queued_by, handled_by, purged_by}
use Rattle.sc_hosts.specs.Finishing.{goodbye}
use Rattle.sc_hosts.specs.Inboxes.{is_live}
use Rattle.sc_hosts.specs.Nets.{host_at, change_host, after_orders as obeyed}
use Rattle.sc_hosts.specs.Runs.{after_delivery as delivered, after_step, IsAllowed, MayTurn}
use Rattle.sc_hosts.specs.Sessions.{Form, Turn}
use Rattle.sc_hosts.specs.Steps.{live_at, inbox_of, outcome_by, turned_live, turn_of, without_live, with_ready, without_application as invalidated, closed_turn, net_after_turn as turned, turns_first, turns, withdrawn, before_delivery as stepped}
use Rattle.sc_hosts.specs.Transacting.{is_same_app}
use Rattle.sc_lives.specs.Numbers.{AreNumbered}
use Rattle.sc_lives.proofs.NumberedNets.{change_host-numbered, obeyed-numbered}
use Rattle.sc_lives.proofs.Serials.{change-rising}
use Rattle.sc_once.proofs.Bounds.{bounds-rise, to-higher, between-append, none-between}
use Rattle.sc_once.proofs.GrowingHosts.{grow-hosts}
use Rattle.sc_once.proofs.GrowingNets.{grow-nets, tick-grows}
use Rattle.sc_once.proofs.Lists.{above-later, queued-grown, dropped-none, dropped-held}
use Rattle.sc_once.proofs.OtherTurns.{turns-grow, withdrawn-grows}
use Rattle.sc_once.proofs.OwnTurns.{turned-waits, changed-known, without-gone, gone-dead, gone-quiet, live-known}
use Rattle.sc_once.specs.Growing.{IsBetween, numbers_of, GoneIn, KnownIn, HostGrows, NetGrows}
use Rattle.sc_walks.proofs.WalkNets.{obeyed-walks, delivered-walks}
use Rattle.sc_walks.proofs.WalkSteps.{arrived-walks, bad_by-walks, lost-walks, ticked-walks, with_ready-walks}

-- what it handles comes off the front; what it queues stands at the end, unless the session ends
pub record StepParts {S : Type 0} (app : AppId) (net after : Net S) (handled queued purged : List ℕ) : Type 0 where
  pub rest : List ℕ
  pub before : waiting_in app net ≡ handled ++ rest
  pub ends : Bool
  pub left : waiting_in app after ≡ cond ends [] (rest ++ queued)
  pub dropped : purged ≡ cond ends (rest ++ queued) []
  pub between : IsBetween queued net.count after.count
  pub known : KnownIn app.serial (host_at app.host net) → KnownIn app.serial (host_at app.host after)
  pub gone : GoneIn app.serial (host_at app.host net) → GoneIn app.serial (host_at app.host after)

-- the handled number of a step, as a list
unfoldable pub handled_in : Option ℕ → List ℕ
handled_in None = []
handled_in (Some n) = n ∷ []

dead-quiet : {S : Type 0} (app : AppId) (net : Net S) (b : Bool) → is_some (live_at app net) ≡ b → b ≡ false → waiting_in app net ≡ []
unfolding waiting_in
dead-quiet app net b is none = quiet-by (live_at app net) (is ∙ none)
  where
    quiet-by : {S : Type 0} (live : Option (Live S)) → is_some live ≡ false → numbers_of live ≡ []
    quiet-by None is = refl
    quiet-by (Some live) is = cc

pub not-both : {A : Type 0} (found : Option A) (a : A) → found ≡ None → found ≡ Some a → ⊥
not-both found a none some = cc

known-gone : {S : Type 0} (serial : ℕ) (host : Option (Host S)) → GoneIn serial host → KnownIn serial host
unfolding GoneIn KnownIn
known-gone serial None gone = tt
known-gone serial (Some host) gone = gone.0

module _ {S : Type 0} (form : Form S) (setup : Setup) (app : AppId) where
  delivers : (net : Net S) → NetGrows app net (delivered form setup net)
  delivers net = delivered-walks (λ number now. HostGrows {S = S} app.serial) (NetGrows app) (grow-hosts app.serial) (grow-nets app) form tt setup net

  obeys : (given : List Order) (net : Net S) → NetGrows app net (obeyed setup app given net)
  obeys given net = obeyed-walks (λ number now. HostGrows {S = S} app.serial) (NetGrows app) (grow-hosts app.serial) (grow-nets app) setup app given net

  readies : (done : Outcome) (live : Option (Live S)) (net : Net S) → NetGrows app net (with_ready app done live net)
  readies done live net = with_ready-walks (λ number now. HostGrows {S = S} app.serial) (NetGrows app) (grow-hosts app.serial) (grow-nets app) app done live net

  joined : (x y z : Net S) → NetGrows app x y → NetGrows app y z → NetGrows app x z
  joined x y z p q = (grow-nets app).after x y z p q

  -- ## A step that lets what waits grow

  -- the net with nothing sent is the same to it
  grown : (low : ℕ) (net after : Net S) (step : Step) → after ≡ after_step form setup net step → before_end form setup app net step ≡ net → IsBetween (waiting_in app net) low net.count
      → NetGrows app (record net { sent = [] }) after → StepParts app net after [] (queued_by form setup app net step) (purged_by form setup app net step)
  unfolding queued_by purged_by waiting_in
  grown low net after step is before_is within grows =
      let new : queued_by form setup app net step ≡ grows.new =
      rw (← is, before_is) (queued-grown low net.count after.count (waiting_in app net) [] grows.new within grows.between (is_some (live_at app after)) (waiting_in app after) (waiting_in app net)
      grows.waits (sym (append-nil _)) (dead-quiet app after (is_some (live_at app after)) refl)) in record {
        rest = waiting_in app net;
        before = refl;
        ends = false;
        left = rw new grows.waits;
        dropped = rw (← is, before_is) (dropped-none (waiting_in app net) grows.new (is_some (live_at app after)) (waiting_in app after) (waiting_in app net) grows.waits refl (dead-quiet app after (is_some (live_at app after)) refl));
        between = rw new grows.between;
        known = grows.known;
        gone = grows.gone;
      }

  -- ## A turn of the session itself

  first-number : (inbox : List Waiting) (waiting : Waiting) → slice_get inbox 0 ≡ Some waiting → map (λ w. w.number) inbox ≡ waiting.number ∷ drop 1 (map (λ w. w.number) inbox)
  first-number [] waiting is = cc
  first-number (w ∷ ws) waiting is = let same : w ≡ waiting = cc in rw same refl

  first-waits : (net : Net S) (live : Live S) (waiting : Waiting) → live_at app net ≡ Some live → slice_get live.inbox 0 ≡ Some waiting → waiting_in app net ≡ waiting.number ∷ drop 1 (waiting_in app net)
  unfolding waiting_in
  first-waits net live waiting is first = rw is (first-number live.inbox waiting first)

  -- what it sends is sent
  opens : (turn : Turn) (done : Outcome) (net : Net S) → (new : List ℕ) × (waiting_in app (opened form setup app turn done net) ≡ drop 1 (waiting_in app net) ++ new) × IsBetween new net.count (opened form setup app turn done net).count
      × (KnownIn app.serial (host_at app.host net) → KnownIn app.serial (host_at app.host (opened form setup app turn done net)))
  unfolding opened
  opens turn done net =
      let change : Host S → Host S = λ host. record host { sessions = change_first (is_live app.serial) (turned_live form setup.config net.moment turn done) host.sessions } in
      let given = obeys done.orders (change_host app.host change net) in
      (given.new, given.waits ∙ ap (λ ns. ns ++ given.new) (turned-waits app form setup net.moment turn done net), given.between, λ k. given.known (changed-known app change net (λ host. refl) k))

  opened-numbered : (turn : Turn) (done : Outcome) (net : Net S) → AreNumbered net → AreNumbered (opened form setup app turn done net)
  unfolding opened turned_live
  opened-numbered turn done net numbered =
      obeyed-numbered setup app done.orders _ (change_host-numbered app.host _ net (λ host whole. change-rising host.sessions 0 host.last (is_live app.serial) _ (λ live. refl) whole) numbered)

  -- the session goes
  record Gone (net after : Net S) : Type 0 where
    count : net.count ≤ after.count
    gone : GoneIn app.serial (host_at app.host after)

  goes : (session : Session) (inbox : List Waiting) (net : Net S) → AreNumbered net → KnownIn app.serial (host_at app.host net) → Gone net (delivered form setup (invalidated setup app session inbox net))
  unfolding invalidated without_live
  goes session inbox net numbered k =
      let said = obeys (goodbye setup.config session inbox) net in
      let left : Net S = obeyed setup app (goodbye setup.config session inbox) net in
      let last = delivers (without_live app left) in record {
        count = omega (arith, bounds-rise said.new net.count left.count said.between, bounds-rise last.new left.count _ last.between);
        gone = last.gone (without-gone app left (obeyed-numbered setup app _ net numbered) (said.known k));
      }

  -- the first event leaves
  front : (low : ℕ) (n : ℕ) (ws : List ℕ) (net : Net S) → waiting_in app net ≡ n ∷ ws → IsBetween (waiting_in app net) low net.count → IsBetween ws n net.count
  unfolding IsBetween
  front low n ws net is within = (subst (λ (ns : List ℕ). IsBetween ns low net.count) is within).1

  ended : (low n : ℕ) (net held after : Net S) (ws first : List ℕ) → waiting_in app net ≡ n ∷ ws → IsBetween ws n net.count → waiting_in app held ≡ ws ++ first → IsBetween first net.count held.count
      → held.count ≤ after.count → GoneIn app.serial (host_at app.host after) → StepParts app net after (n ∷ []) (cond (is_some (live_at app after)) (above net.count (waiting_in app after)) (above net.count (waiting_in app held))) (cond (is_some (live_at app after)) [] (waiting_in app held))
  ended low n net held after ws first is within waits new under gone =
      let dead : live_at app after ≡ None = gone-dead app after gone in
      let queued : above net.count (waiting_in app held) ≡ first = rw waits (above-later ws first n net.count held.count within new) in record {
        rest = ws;
        before = is;
        ends = true;
        left = gone-quiet app after dead;
        dropped = rw (dead, queued) waits;
        between = rw (dead, queued) (to-higher first net.count held.count after.count under new);
        known = λ k. known-gone app.serial (host_at app.host after) gone;
        gone = λ g. gone;
      }

  self-same : (app : AppId) → is_same_app app app ≡ true
  self-same app = both app.host app.serial
    where
      both : (a b : ℕ) → (a == a && b == b) ≡ true
      both a b = grind (arith, nat_tests)

  closed : (low event : ℕ) (net held : Net S) (done : Outcome) (ws first : List ℕ) → waiting_in app net ≡ event ∷ ws → IsBetween ws event net.count → waiting_in app held ≡ ws ++ first → IsBetween first net.count held.count
      → AreNumbered held → (KnownIn app.serial (host_at app.host net) → KnownIn app.serial (host_at app.host held)) → KnownIn app.serial (host_at app.host net) → (GoneIn app.serial (host_at app.host net) → ⊥) → (b : Bool)
      → (let after : Net S = delivered form setup (closed_turn setup app done b held) in
      StepParts app net after (event ∷ []) (cond (is_some (live_at app after)) (above net.count (waiting_in app after)) (above net.count (waiting_in app held))) (cond (is_some (live_at app after)) [] (waiting_in app held)))
  unfolding closed_turn
  closed low event net held done ws first is within waits new numbered known k lives true =
      let gone = goes done.session (inbox_of (live_at app held)) held numbered (known k) in
      ended low event net held (delivered form setup (invalidated setup app done.session (inbox_of (live_at app held)) held)) ws first is within waits new gone.count gone.gone
  closed low event net held done ws first is within waits new numbered known k lives false =
      let after : Net S = delivered form setup (with_ready app done (live_at app held) held) in
      let more = joined _ _ _ (readies done (live_at app held) held) (delivers (with_ready app done (live_at app held) held)) in
      let all : waiting_in app after ≡ ws ++ (first ++ more.new) = more.waits ∙ (ap (λ ns. ns ++ more.new) waits ∙ append_assoc ws first more.new) in
      let between : IsBetween (first ++ more.new) net.count after.count = between-append first more.new net.count held.count after.count new more.between in
      let queued : cond (is_some (live_at app after)) (above net.count (waiting_in app after)) (above net.count (waiting_in app held)) ≡ first ++ more.new =
      queued-grown event net.count after.count ws first more.new within between (is_some (live_at app after)) (waiting_in app after) (waiting_in app held) all waits (dead-quiet app after (is_some (live_at app after)) refl) in record {
        rest = ws;
        before = is;
        ends = false;
        left = rw queued all;
        dropped = dropped-held ws first more.new (is_some (live_at app after)) (waiting_in app after) (waiting_in app held) all waits (dead-quiet app after (is_some (live_at app after)) refl);
        between = rw queued between;
        known = λ k. more.known (known k);
        gone = λ g. absurd (lives g);
      }

  own : (low : ℕ) (net : Net S) (event now : ℕ) (made : List CallRecord) (end : End) → AreNumbered net → IsBetween (waiting_in app net) low net.count → MayTurn form setup net app event now made end
      → StepParts app net (after_step form setup net (steps.Turn end app event now made)) (event ∷ []) (queued_by form setup app net (steps.Turn end app event now made)) (purged_by form setup app net (steps.Turn end app event now made))
  unfolding queued_by purged_by before_end opened_by opened_first after_step stepped turns turns_first turned opened waiting_in
  own low net event now made end numbered within may =
      let turn : Turn = turn_of (record net { sent = [] }) app may.waiting now made end in
      let done : Outcome = outcome_by form setup.config may.live.session turn in
      let ws : List ℕ = drop 1 (waiting_in app net) in
      let is : waiting_in app net ≡ event ∷ ws = rw (← may.event_is) (first-waits net may.live may.waiting may.live_is may.waiting_is) in
      let given = opens turn done (record net { sent = [] }) in
      let result = closed low event net (opened form setup app turn done (record net { sent = [] })) done ws given.0 is (front low event ws net is within) given.1 given.2
      (opened-numbered turn done (record net { sent = [] }) numbered) given.3 (live-known app net may.live numbered may.live_is) (λ g. not-both (live_at app net) may.live (gone-dead app net g) may.live_is) done.ends in
      rw (self-same app, may.live_is, may.waiting_is) result

  -- ## Withdrawn

  gone-parts : (low : ℕ) (net after : Net S) → IsBetween (waiting_in app net) low net.count → Gone net after
      → StepParts app net after [] (cond (is_some (live_at app after)) (above net.count (waiting_in app after)) (above net.count (waiting_in app net))) (cond (is_some (live_at app after)) [] (waiting_in app net))
  gone-parts low net after within gone =
      let dead : live_at app after ≡ None = gone-dead app after gone.gone in
      let none : above net.count (waiting_in app net) ≡ [] = rw (← append-nil (waiting_in app net)) (above-later (waiting_in app net) [] low net.count net.count within (none-between net.count)) in record {
        rest = waiting_in app net;
        before = refl;
        ends = true;
        left = gone-quiet app after dead;
        dropped = rw (dead, none) (sym (append-nil _));
        between = rw (dead, none) (to-higher [] net.count net.count after.count gone.count (none-between net.count));
        known = λ k. known-gone app.serial (host_at app.host after) gone.gone;
        gone = λ g. gone.gone;
      }

  after-withdrawn : (net : Net S) (live : Live S) → live_at app net ≡ Some live
      → after_step form setup net (steps.Withdraw app) ≡ delivered form setup (invalidated setup app (form.read live.session) live.inbox (record net { sent = [] }))
  unfolding after_step stepped withdrawn
  after-withdrawn net live is = rw is refl

  own-withdrawn : (low : ℕ) (net : Net S) (live : Live S) → AreNumbered net → IsBetween (waiting_in app net) low net.count → live_at app net ≡ Some live
      → StepParts app net (after_step form setup net (steps.Withdraw app)) [] (queued_by form setup app net (steps.Withdraw app)) (purged_by form setup app net (steps.Withdraw app))
  unfolding queued_by purged_by before_end
  own-withdrawn low net live numbered within is =
      let went = goes (form.read live.session) live.inbox (record net { sent = [] }) numbered (live-known app net live numbered is) in
      subst (λ (after : Net S). StepParts app net after [] (cond (is_some (live_at app after)) (above net.count (waiting_in app after)) (above net.count (waiting_in app net))) (cond (is_some (live_at app after)) [] (waiting_in app net)))
      (sym (after-withdrawn net live is))
      (gone-parts low net (delivered form setup (invalidated setup app (form.read live.session) live.inbox (record net { sent = [] }))) within (record { count = went.count; gone = went.gone }))

  withdrawn-by : (low : ℕ) (net : Net S) (found : Option (Live S)) → live_at app net ≡ found → AreNumbered net → IsBetween (waiting_in app net) low net.count → is_some found ≡ true
      → StepParts app net (after_step form setup net (steps.Withdraw app)) [] (queued_by form setup app net (steps.Withdraw app)) (purged_by form setup app net (steps.Withdraw app))
  withdrawn-by low net None is numbered within some = cc
  withdrawn-by low net (Some live) is numbered within some = own-withdrawn low net live numbered within is

  -- ## Each step

  flipped : (a b c d : ℕ) (x : Bool) → (a == b && c == d) ≡ x → (b == a && d == c) ≡ x
  flipped a b c d x is = grind (arith, nat_tests, is)

  pub same-app : (other : AppId) → is_same_app app other ≡ true → other ≡ app
  same-app other is = ap (λ (p : ℕ × ℕ). record { host = p.0; serial = p.1 }) (pair (first app.host other.host _ is) (second app.serial other.serial _ is))
    where
      pair : {a b c d : ℕ} → a ≡ b → c ≡ d → ◌≡◌ {A = ℕ × ℕ} (a, c) (b, d)
      pair p q = rw (p, q) refl

      first : (a b : ℕ) (x : Bool) → (a == b && x) ≡ true → b ≡ a
      first a b x is = grind (arith, nat_tests, is)

      second : (c d : ℕ) (x : Bool) → (x && c == d) ≡ true → d ≡ c
      second c d x is = grind (arith, nat_tests, is)

  own-by : (other : AppId) → other ≡ app → (low : ℕ) (net : Net S) (event now : ℕ) (made : List CallRecord) (end : End) → AreNumbered net → IsBetween (waiting_in app net) low net.count
      → MayTurn form setup net other event now made end
      → StepParts app net (after_step form setup net (steps.Turn end other event now made)) (event ∷ []) (queued_by form setup app net (steps.Turn end other event now made)) (purged_by form setup app net (steps.Turn end other event now made))
  own-by other same low net event now made end numbered within may =
      rw same (own low net event now made end numbered within (subst (λ (other : AppId). MayTurn form setup net other event now made end) same may))

  passed-over : (other : AppId) (event now : ℕ) (made : List CallRecord) (end : End) (net : Net S) → is_same_app app other ≡ false → before_end form setup app net (steps.Turn end other event now made) ≡ net
  unfolding before_end
  passed-over other event now made end net is = rw is refl

  stepping : (step : Step) (net : Net S) → NetGrows app (record net { sent = [] }) (stepped form setup step (record net { sent = [] })) → NetGrows app (record net { sent = [] }) (after_step form setup net step)
  unfolding after_step
  stepping step net grows = joined _ _ _ grows (delivers _)

  others-step : (other : AppId) (event now : ℕ) (made : List CallRecord) (end : End) (net : Net S) → is_same_app other app ≡ false
      → NetGrows app (record net { sent = [] }) (after_step form setup net (steps.Turn end other event now made))
  unfolding stepped
  others-step other event now made end net is =
      stepping (steps.Turn end other event now made) net (turns-grow app other is form setup (live_at other (record net { sent = [] })) now made end (record net { sent = [] }))

  turn-by : (other : AppId) (b : Bool) → is_same_app app other ≡ b → (low : ℕ) (net : Net S) (event now : ℕ) (made : List CallRecord) (end : End) → AreNumbered net → IsBetween (waiting_in app net) low net.count
      → MayTurn form setup net other event now made end
      → StepParts app net (after_step form setup net (steps.Turn end other event now made)) (handled_in (cond b (Some event) None)) (queued_by form setup app net (steps.Turn end other event now made)) (purged_by form setup app net (steps.Turn end other event now made))
  unfolding handled_in
  turn-by other true is low net event now made end numbered within may = own-by other (same-app other is) low net event now made end numbered within may
  turn-by other false is low net event now made end numbered within may =
      grown low net (after_step form setup net (steps.Turn end other event now made)) (steps.Turn end other event now made) refl (passed-over other event now made end net is) within
      (others-step other event now made end net (flipped app.host other.host app.serial other.serial false is))

  withdraw-by : (other : AppId) (b : Bool) → is_same_app app other ≡ b → (low : ℕ) (net : Net S) → AreNumbered net → IsBetween (waiting_in app net) low net.count → is_some (live_at other net) ≡ true
      → StepParts app net (after_step form setup net (steps.Withdraw other)) [] (queued_by form setup app net (steps.Withdraw other)) (purged_by form setup app net (steps.Withdraw other))
  unfolding before_end stepped
  withdraw-by other true is low net numbered within lives =
      let same : other ≡ app = same-app other is in
      rw same (withdrawn-by low net (live_at app net) refl numbered within (subst (λ (other : AppId). is_some (live_at other net) ≡ true) same lives))
  withdraw-by other false is low net numbered within lives =
      grown low net (after_step form setup net (steps.Withdraw other)) (steps.Withdraw other) refl refl within
      (stepping (steps.Withdraw other) net (withdrawn-grows app other (flipped app.host other.host app.serial other.serial false is) form setup (live_at other (record net { sent = [] })) (record net { sent = [] })))

  abbrev H : ℕ → ℕ → ℕ → Host S → ℕ → Host S → Type 0
  H number now = HostGrows app.serial

  -- ## Any step

  pub parts : (low : ℕ) (net : Net S) (step : Step) → AreNumbered net → IsBetween (waiting_in app net) low net.count → IsAllowed form setup net step
      → StepParts app net (after_step form setup net step) (handled_in (handled_by app step)) (queued_by form setup app net step) (purged_by form setup app net step)
  unfolding IsAllowed handled_by handled_in before_end stepped
  parts low net (steps.In from message) numbered within allowed =
      grown low net _ (steps.In from message) refl refl within
      (stepping (steps.In from message) net (arrived-walks H (NetGrows app) (grow-hosts app.serial) (grow-nets app) form tt setup from message (record net { sent = [] })))
  parts low net (steps.Bad from bad) numbered within allowed =
      grown low net _ (steps.Bad from bad) refl refl within
      (stepping (steps.Bad from bad) net (bad_by-walks H (NetGrows app) (grow-hosts app.serial) (grow-nets app) setup.config from bad.heads (record net { sent = [] })))
  parts low net (steps.Lost place) numbered within allowed =
      grown low net _ (steps.Lost place) refl refl within
      (stepping (steps.Lost place) net (lost-walks H (NetGrows app) (grow-hosts app.serial) (grow-nets app) setup.config place (record net { sent = [] })))
  parts low net (steps.Tick now) numbered within allowed =
      grown low net _ (steps.Tick now) refl refl within
      (stepping (steps.Tick now) net (ticked-walks H (NetGrows app) (grow-hosts app.serial) (grow-nets app) (tick-grows app) form setup.config now (record net { sent = [] })))
  parts low net (steps.Turn end other event now made) numbered within allowed = turn-by other (is_same_app app other) refl low net event now made end numbered within allowed
  parts low net (steps.Withdraw other) numbered within allowed = withdraw-by other (is_same_app app other) refl low net numbered within allowed
