-- What holds at each moment of a lawful run.
use Rattle.std.proofs.Common.{◌≡◌, ◌≤◌, ◌<◌, ℕ, zero, suc, ◌+◌, ◌++◌, ◌^◌, Bool, true, false, Option, None, Some, List, [], ◌∷◌, refl, sym, ap, subst, ◌∙◌, append_assoc, arith}
use Rattle.std.proofs.lemmas.List.Elements.{All-nil, All-cons}
use Rattle.std.specs.Option.{option_map_or}
use Rattle.std.specs.Prelude.{◌==◌, drop, length, map, not, slice_get}
use Rattle.std.proofs.lemmas.Bool.Decides.{nat_tests}
use Rattle.sc_value.specs.declared.ids.AppId.{AppId}
use Rattle.sc_terms.specs.declared.settings.AppEntry.{AppEntry}
use Rattle.sc_terms.specs.declared.steps.Step.{Step}
use Rattle.sc_terms.specs.declared.steps.Step.TheVariants as steps
use Rattle.sc_parts.specs.declared.setup.Setup.{Setup}
use Rattle.sc_state.specs.Hosts.{Host}
use Rattle.sc_state.specs.declared.host.Live.{Live}
use Rattle.sc_state.specs.declared.net.Entry.{Entry}
use Rattle.sc_state.specs.declared.net.Net.{Net}
use Rattle.sc_state.specs.declared.orders.Order.{Order}
use Rattle.sc_state.specs.declared.queue.Waiting.{Waiting}
use Rattle.sc_state.specs.declared.session.Session.{Session}
use Rattle.sc_hosts.proofs.Deliveries.{wire-ends-empty}
use Rattle.sc_hosts.specs.EventLists.{turns_of as handled, waiting, waiting_in}
use Rattle.sc_hosts.specs.Histories.{as_session}
use Rattle.sc_hosts.specs.Nets.{host_at, is_busy}
use Rattle.sc_hosts.specs.Runs.{IsLawful, IsLawfulFrom, after_step, net_from as chained, chained_from, quiet_host, start}
use Rattle.sc_hosts.specs.Steps.{live_at, outcome_by, ringing_at, turn_of}
use Rattle.sc_lives.proofs.HostCounts.{chained-hosts}
use Rattle.sc_lives.specs.Numbers.{AreNumbered, IsNumbered, IsRising}
use Rattle.sc_once.specs.Growing.{IsBetween}
use Rattle.sc_once.proofs.Bounds.{from-lower}
use Rattle.sc_lives.proofs.NumberedNets.{after_step-numbered}
use Rattle.sc_once.proofs.History.{one-history}
use Rattle.sc_once.proofs.Lists.{back-between, top}
use Rattle.sc_lasting.specs.Lasting.{All, Numbered}
use Rattle.sc_lasting.proofs.Lives.{live-is}
use Rattle.sc_lasting.proofs.Numbers.{numbers-hold}
use Rattle.sc_reached.specs.Reached.{AllSmall}
use Rattle.sc_ways.proofs.Counts.{AreWithin, run-rises, small-net, step-rises}
use Rattle.sc_paths.specs.Moments.{Moment, moments, moments_from, orders_by}
use Rattle.sc_hops.specs.Hops.{IsUntagged}
use Rattle.sc_begun.proofs.FirstTurns.{given-first}
use Rattle.sc_ways.proofs.Epochs.{step-epoch}
use Rattle.sc_ways.proofs.OneHop.{IsFine}

-- ## Beginnings of a journal

chained-next : (before : List Step) (setup : Setup) (net : Net Session) (step : Step) → chained_from as_session setup net (before ++ step ∷ []) ≡ after_step as_session setup (chained_from as_session setup net before) step
unfolding chained_from
chained-next [] setup net step = refl
chained-next (first ∷ before) setup net step = chained-next before setup (after_step as_session setup net first) step

lawful-front : (before later : List Step) (setup : Setup) (net : Net Session) → IsLawfulFrom as_session setup net (before ++ later) → IsLawfulFrom as_session setup net before
unfolding IsLawfulFrom
lawful-front [] later setup net lawful = tt
lawful-front (step ∷ before) later setup net lawful = (lawful.0, lawful-front before later setup (after_step as_session setup net step) lawful.1)

-- ## What stands

record Base (epoch : ℕ) (net : Net Session) : Type 0 where
  numbered : AreNumbered net
  quiet : net.wire ≡ []
  at : net.epoch ≡ epoch
  within : AreWithin net

quiet-numbered : (apps : List AppEntry) → AreNumbered (record { hosts = map (λ app. quiet_host {S = Session}) apps; wire = []; epoch = 0; moment = 0; count = 0; sent = [] })
unfolding quiet_host IsRising
quiet-numbered [] = All-nil IsNumbered
quiet-numbered (app ∷ apps) = All-cons IsNumbered _ _ (omega arith) (quiet-numbered apps)

pub quiet-last : (apps : List AppEntry) (number : ℕ) (host : Host Session) → slice_get (map (λ app. quiet_host {S = Session}) apps) number ≡ Some host → host.last ≤ 0
unfolding quiet_host
quiet-last [] number host at = cc
quiet-last (app ∷ apps) zero host at = subst (λ (h : Host Session). h.last ≤ 0) (some-is (quiet_host {S = Session}) host at) (omega arith)
  where
    some-is : (x y : Host Session) → Some x ≡ Some y → x ≡ y
    some-is x y is = cc
quiet-last (app ∷ apps) (suc number) host at = quiet-last apps number host at

start-base : (setup : Setup) (epoch began : ℕ) → Base epoch (start {S = Session} setup epoch began)
unfolding start
start-base setup epoch began = record { numbered = quiet-numbered setup.config.app; quiet = refl; at = refl; within = λ number host at. quiet-last setup.config.app number host at }

some-busy : (n : ℕ) → not (suc n == 0) ≡ false → ⊥
some-busy n is = by (suc n == 0) none is
  where
    none : (suc n == 0) ≡ false
    none = grind (arith, nat_tests)

    by : (b : Bool) → b ≡ false → not b ≡ false → ⊥
    by true p q = cc
    by false p q = cc

idle-wire : (net : Net Session) → is_busy net ≡ false → net.wire ≡ []
unfolding is_busy
idle-wire net idle = by net.wire idle
  where
    by : (wire : List Entry) → is_busy (record net { wire = wire }) ≡ false → wire ≡ []
    by [] is = refl
    by (entry ∷ wire) is = absurd (some-busy (length wire) is)

after-quiet : (setup : Setup) (net : Net Session) (step : Step) → (after_step as_session setup net step).wire ≡ []
unfolding after_step
after-quiet setup net step = idle-wire _ (wire-ends-empty as_session setup _)

step-base : (setup : Setup) (epoch : ℕ) (net : Net Session) (step : Step) → Base epoch net → Base epoch (after_step as_session setup net step)
step-base setup epoch net step base = record {
  numbered = after_step-numbered as_session setup net step base.numbered;
  quiet = after-quiet setup net step;
  at = step-epoch as_session setup net step ∙ base.at;
  within = (step-rises as_session setup net step).within base.within;
}

between-zero : (first rest : List ℕ) (high : ℕ) → IsBetween (first ++ rest) 0 high → IsBetween rest 0 high
between-zero first rest high between = from-lower rest 0 (top 0 first) high (omega arith) (back-between first rest 0 high between)

-- what waits after a lawful beginning has numbers up to the count
within-after : (setup : Setup) (epoch began : ℕ) (before : List Step) (app : AppId) → IsLawful as_session setup epoch began before
    → IsBetween (waiting_in app (chained as_session setup epoch began before)) 0 (chained as_session setup epoch began before).count
unfolding waiting
within-after setup epoch began before app lawful = between-zero (handled app before) _ _ (one-history as_session setup epoch began before app lawful).in_order

numbered-after : (setup : Setup) (epoch began : ℕ) (before : List Step) (app : AppId) (live : Live Session) → live_at app (chained as_session setup epoch began before) ≡ Some live → Numbered live.session
numbered-after setup epoch began before app live is = live-is Numbered setup (λ history. numbers-hold setup.config history) epoch began before app live is

-- no initial request that a turn gives has a To tag
none-given : All IsUntagged []
unfolding All
none-given = tt

of-waiting : (found : Option Waiting) (give : Waiting → List Order) → ((waiting : Waiting) → found ≡ Some waiting → All IsUntagged (give waiting)) → All IsUntagged (option_map_or give found [])
of-waiting None give each = none-given
of-waiting (Some waiting) give each = each waiting refl

of-live : (found : Option (Live Session)) (give : Live Session → List Order) → ((live : Live Session) → found ≡ Some live → All IsUntagged (give live)) → All IsUntagged (option_map_or give found [])
of-live None give each = none-given
of-live (Some live) give each = each live refl

initial-given : (setup : Setup) (epoch began : ℕ) (before : List Step) (step : Step) → IsLawful as_session setup epoch began before → All IsUntagged (orders_by setup (chained as_session setup epoch began before) step)
unfolding orders_by outcome_by as_session turn_of
initial-given setup epoch began before (steps.Turn end app event now made) lawful =
    let net : Net Session = chained as_session setup epoch began before in
    of-live (live_at app net) _
    (λ live is. of-waiting (slice_get live.inbox 0) (λ waiting. (outcome_by as_session setup.config live.session (turn_of net app waiting now made end)).orders)
    (λ waiting at. given-first setup epoch began before app live waiting (ringing_at app (host_at app.host net)) now made end lawful is at))
initial-given setup epoch began before (steps.In from message) lawful = none-given
initial-given setup epoch began before (steps.Bad from bad) lawful = none-given
initial-given setup epoch began before (steps.Lost place) lawful = none-given
initial-given setup epoch began before (steps.Tick now) lawful = none-given
initial-given setup epoch began before (steps.Withdraw app) lawful = none-given

under : (a b : ℕ) → a ≤ b → b < 2 ^ 64 → a < 2 ^ 64
under a b p q = omega (arith, p, q)

module _ (setup : Setup) (epoch began : ℕ) (journal : List Step) (lawful : IsLawful as_session setup epoch began journal) where
  abbrev Run : List Step → Net Session
  Run before = chained as_session setup epoch began before

  lawful-before : (before later : List Step) → before ++ later ≡ journal → IsLawful as_session setup epoch began before
  unfolding IsLawful
  lawful-before before later is =
      lawful-front before later setup (start setup epoch began) (subst (λ (steps : List Step). IsLawfulFrom as_session setup (start setup epoch began) steps) (sym is) lawful)

  pub run-next : (before : List Step) (step : Step) → Run (before ++ step ∷ []) ≡ after_step as_session setup (Run before) step
  unfolding chained
  run-next before step = chained-next before setup (start setup epoch began) step

  module _ (apps : length setup.config.app ≤ 2 ^ 64) where
    few-hosts : (before : List Step) (step : Step) → length (after_step as_session setup (Run before) step).hosts ≤ 2 ^ 64
    few-hosts before step =
        subst (λ (net : Net Session). length net.hosts ≤ 2 ^ 64) (run-next before step)
        (subst (λ (n : ℕ). n ≤ 2 ^ 64) (sym (chained-hosts as_session setup epoch began (before ++ step ∷ []))) apps)

    few-before : (before : List Step) → length (Run before).hosts ≤ 2 ^ 64
    few-before before = subst (λ (n : ℕ). n ≤ 2 ^ 64) (sym (chained-hosts as_session setup epoch began before)) apps

    small-after : (before : List Step) (step : Step) (later : List Step) → Base epoch (Run before) → (chained_from as_session setup (after_step as_session setup (Run before) step) later).count < 2 ^ 64
        → AllSmall (after_step as_session setup (Run before) step).hosts
    small-after before step later base few =
        let after : Net Session = after_step as_session setup (Run before) step in
        let next = step-base setup epoch (Run before) step base in
        small-net after next.numbered next.within (under after.count _ (run-rises as_session setup later after) few)

    fine-from : (later before : List Step) → before ++ later ≡ journal → Base epoch (Run before) → IsLawfulFrom as_session setup (Run before) later
        → (chained_from as_session setup (Run before) later).count < 2 ^ 64
        → All (IsFine setup epoch) (moments_from setup (Run before) later)
    unfolding moments_from IsLawfulFrom All chained_from
    fine-from [] before is base allowed few = tt
    fine-from (step ∷ later) before is base allowed few =
        let next : Run (before ++ step ∷ []) ≡ after_step as_session setup (Run before) step = run-next before step in (
          record {
            numbered = base.numbered;
            within = λ app. within-after setup epoch began before app (lawful-before before (step ∷ later) is);
            quiet = base.quiet;
            at = base.at;
            sessions = λ app live at. numbered-after setup epoch began before app live at;
            untagged = initial-given setup epoch began before step (lawful-before before (step ∷ later) is);
            few = few-hosts before step;
            small = small-after before step later base few;
            few_before = few-before before;
            small_before = small-net (Run before) base.numbered base.within (under (Run before).count _ (run-rises as_session setup (step ∷ later) (Run before)) few);
            lasts_after = λ number host at. under host.last _ ((step-base setup epoch (Run before) step base).within number host at) (under (after_step as_session setup (Run before) step).count _ (run-rises as_session setup later (after_step as_session setup (Run before) step)) few);
            lasts = λ number host at. under host.last _ (base.within number host at) (under (Run before).count _ (run-rises as_session setup (step ∷ later) (Run before)) few);
            allowed = allowed.0;
          },
          subst (λ (net : Net Session). All (IsFine setup epoch) (moments_from setup net later)) next
              (fine-from later (before ++ step ∷ []) (append_assoc before (step ∷ []) later ∙ is) (subst (λ (net : Net Session). Base epoch net) (sym next) (step-base setup epoch (Run before) step base))
              (subst (λ (net : Net Session). IsLawfulFrom as_session setup net later) (sym next) allowed.1)
              (subst (λ (net : Net Session). (chained_from as_session setup net later).count < 2 ^ 64) (sym next) few)),
        )

    -- each moment of the run is fine
    pub run-fine : (chained as_session setup epoch began journal).count < 2 ^ 64 → All (IsFine setup epoch) (moments setup epoch began journal)
    unfolding moments IsLawful chained chained_from
    run-fine few = fine-from journal [] refl (start-base setup epoch began) lawful few

  each-from : (P : Moment → Type 0) → ((before : List Step) (step : Step) (later : List Step) → before ++ step ∷ later ≡ journal
      → P (record { before = Run before; step = step; after = after_step as_session setup (Run before) step }))
      → (later before : List Step) → before ++ later ≡ journal → All P (moments_from setup (Run before) later)
  unfolding moments_from All
  each-from P each [] before is = tt
  each-from P each (step ∷ later) before is =
      (each before step later is, subst (λ (net : Net Session). All P (moments_from setup net later)) (run-next before step) (each-from P each later (before ++ step ∷ []) (append_assoc before (step ∷ []) later ∙ is)))

  -- what holds after each beginning
  pub run-each : (P : Moment → Type 0) → ((before : List Step) (step : Step) (later : List Step) → before ++ step ∷ later ≡ journal → IsLawful as_session setup epoch began before
      → P (record { before = Run before; step = step; after = after_step as_session setup (Run before) step }))
      → All P (moments setup epoch began journal)
  unfolding moments chained chained_from
  run-each P each = each-from P (λ before step later is. each before step later is (lawful-before before (step ∷ later) is)) journal [] refl

-- ## One moment and those behind it

-- the moment at this place, and the steps behind it
pub record IsCut (setup : Setup) (run : List Moment) (place : ℕ) (moment : Moment) : Type 0 where
  pub net : Net Session
  pub step : Step
  pub later : List Step
  pub is : ◌≡◌ {A = Moment} moment (record { before = net; step = step; after = after_step as_session setup net step })
  pub rest : drop (place + 1) run ≡ moments_from setup (after_step as_session setup net step) later

drop-next : (n : ℕ) (x : Moment) (xs : List Moment) → drop (suc n + 1) (x ∷ xs) ≡ drop (n + 1) xs
drop-next n x xs = ap (λ (k : ℕ). drop k (x ∷ xs)) (next n)
  where
    next : (n : ℕ) → ◌≡◌ {A = ℕ} (suc n + 1) (suc (n + 1))
    next n = omega arith

pub cut-at : (given : List Step) (setup : Setup) (net : Net Session) (place : ℕ) (moment : Moment) → slice_get (moments_from setup net given) place ≡ Some moment
    → IsCut setup (moments_from setup net given) place moment
unfolding moments_from
cut-at [] setup net place moment at = cc
cut-at (step ∷ given) setup net zero moment at =
    record { net = net; step = step; later = given; is = sym (some-is (record { before = net; step = step; after = after_step as_session setup net step }) moment at); rest = refl }
  where
    some-is : (x y : Moment) → Some x ≡ Some y → x ≡ y
    some-is x y is = cc
cut-at (step ∷ given) setup net (suc place) moment at =
    let cut = cut-at given setup (after_step as_session setup net step) place moment at in
    record { net = cut.net; step = cut.step; later = cut.later; is = cut.is; rest = drop-next place _ (moments_from setup (after_step as_session setup net step) given) ∙ cut.rest }

pub all-behind : {A : Type 0} (P : A → Type 0) (n : ℕ) (xs : List A) → All P xs → All P (drop n xs)
unfolding All
all-behind P zero xs all = all
all-behind P (suc n) [] all = tt
all-behind P (suc n) (x ∷ xs) all = all-behind P n xs all.1
