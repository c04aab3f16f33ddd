-- The serials that hosts give are no more than the events that are counted.
use Rattle.std.proofs.Common.{◌≡◌, ◌≤◌, ◌<◌, ℕ, zero, suc, ◌+◌, ◌^◌, Bool, true, false, Option, None, Some, List, [], ◌∷◌, refl, sym, ap, subst, ◌∙◌, arith}
use Rattle.std.specs.Prelude.{◌==◌, cond, is_some, option_map, slice_get}
use Rattle.std.proofs.lemmas.Bool.Decides.{nat_tests}
use Rattle.sc_value.specs.Lists.{change_nth}
use Rattle.sc_value.proofs.ListFacts.{slice_get-change_nth}
use Rattle.sc_value.specs.declared.ids.AppId.{AppId}
use Rattle.sc_terms.specs.declared.steps.Step.{Step}
use Rattle.sc_parts.specs.declared.setup.Setup.{Setup}
use Rattle.sc_state.specs.Hosts.{Host}
use Rattle.sc_state.specs.declared.host.Live.{Live}
use Rattle.sc_state.specs.declared.host.Taken.{Taken}
use Rattle.sc_state.specs.declared.net.Net.{Net}
use Rattle.sc_state.specs.declared.orders.Outcome.{Outcome}
use Rattle.sc_state.specs.declared.queue.Queued.{Queued}
use Rattle.sc_model.specs.Timers.{DueEntry}
use Rattle.sc_hosts.specs.Inboxes.{live_in, queue, without_answer as quiet}
use Rattle.sc_hosts.specs.Nets.{change_host, host_at}
use Rattle.sc_hosts.specs.Runs.{after_step, chained_from}
use Rattle.sc_hosts.specs.Sessions.{Form}
use Rattle.sc_hosts.specs.Steps.{closed_turn}
use Rattle.sc_hosts.specs.Ticks.{mark_fired}
use Rattle.sc_lives.specs.Numbers.{AreNumbered, IsNumberedAt, IsRising}
use Rattle.sc_lives.proofs.NumberedNets.{host_at-numbered}
use Rattle.sc_once.proofs.Finding.{slice_get-other}
use Rattle.sc_walks.specs.Walks.{HostLaws, NetLaws, TurnLaws}
use Rattle.sc_walks.proofs.WalkNets.{change_host-walks}
use Rattle.sc_walks.proofs.WalkTurns.{after_step-walks, closed_turn-walks}
use Rattle.sc_reached.specs.Reached.{AllSmall, AreSmall}

equal : (a b : ℕ) → (a == b) ≡ true → a ≡ b
equal a b is = grind (arith, nat_tests, is)

differ : (a b : ℕ) → (a == b) ≡ false → b ≡ a → ⊥
differ a b at same = grind (arith, nat_tests, at, same)

over : (a b c : ℕ) → a ≤ b → b ≤ c → a ≤ c
over a b c p q = omega (arith, p, q)

under : (a b c : ℕ) → a ≤ b → b < c → a < c
under a b c p q = omega (arith, p, q)

-- ## Of a host

-- the count doesn't fall, and the last serial is within it where it was
abbrev pub Keeps : {S : Type 0} → ℕ → Host S → ℕ → Host S → Type 0
Keeps count host later changed = (count ≤ later) × (host.last ≤ count → changed.last ≤ later)

least : (n : ℕ) → n ≤ n
least n = omega arith

rise : (n : ℕ) → n ≤ n + 1
rise n = omega arith

both-rise : (m n : ℕ) → m ≤ n → m + 1 ≤ n + 1
both-rise m n p = omega (arith, p)

to-next : (m n : ℕ) → m ≤ n → m ≤ n + 1
to-next m n p = omega (arith, p)

module _ {S : Type 0} where
  taken-by : (b : Bool) (count : ℕ) (host : Host S) (x y : Taken S) → Keeps count host x.count x.host → Keeps count host y.count y.host → Keeps count host (cond b x y).count (cond b x y).host
  taken-by true count host x y p q = p
  taken-by false count host x y p q = q

  queue-keeps : (serial now : ℕ) (event : Queued) (count : ℕ) (host : Host S) → Keeps count host (queue serial now event count host).count (queue serial now event count host).host
  unfolding queue quiet
  queue-keeps serial now event count host =
      taken-by (is_some (live_in serial host)) count host _ (quiet host count) (rise count, λ under. to-next host.last count under) (least count, λ under. under)

  marked : (entry : DueEntry) (host : Host S) → (mark_fired entry host).last ≡ host.last
  unfolding mark_fired
  marked entry host = refl

  abbrev pub H : ℕ → ℕ → ℕ → Host S → ℕ → Host S → Type 0
  H number now count host later changed = Keeps count host later changed

  pub hosts : (number now : ℕ) → HostLaws {S = S} (λ form. Unit {0}) number now (H number now)
  hosts number now = record {
    same = λ count host. (least count, λ under. under);
    after = λ c d e x y z p q. (over c d e p.0 q.0, λ under. q.1 (p.1 under));
    passes = λ count host clients servers. (least count, λ under. under);
    queues = λ serial event late count host. queue-keeps serial now event count host;
    begins = λ form good config epoch noted request count host. (rise count, λ under. both-rise host.last count under);
    marks = λ entry count host. (least count, λ under. rw (marked entry host) under);
  }

  -- ## Of a net

  abbrev pub AreWithin : Net S → Type 0
  AreWithin net = (number : ℕ) (host : Host S) → host_at number net ≡ Some host → host.last ≤ net.count

  -- the count doesn't fall, and the last serials are within it where they were
  pub record Rises (net changed : Net S) : Type 0 where
    pub count : net.count ≤ changed.count
    pub within : AreWithin net → AreWithin changed

  found-is : (changed : Host S) (found : Option (Host S)) (host : Host S) → option_map (λ (h : Host S). changed) found ≡ Some host → changed ≡ host
  found-is changed None host is = cc
  found-is changed (Some h) host is = some-is changed host is
    where
      some-is : (x y : Host S) → Some x ≡ Some y → x ≡ y
      some-is x y is = cc

  placed-by : (number count : ℕ) (host changed : Host S) (net : Net S) → host_at number net ≡ Some host → Keeps net.count host count changed → AreWithin net
      → (n : ℕ) (h : Host S) (b : Bool) → (n == number) ≡ b → slice_get (change_nth number (λ (x : Host S). changed) net.hosts) n ≡ Some h → h.last ≤ count
  placed-by number count host changed net at keeps within n h true here is =
      let found : option_map (λ (x : Host S). changed) (host_at number net) ≡ Some h =
      sym (slice_get-change_nth number (λ (x : Host S). changed) net.hosts) ∙ subst (λ (m : ℕ). slice_get (change_nth number (λ (x : Host S). changed) net.hosts) m ≡ Some h) (equal n number here) is in
      subst (λ (x : Host S). x.last ≤ count) (found-is changed (host_at number net) h found) (keeps.1 (within number host at))
  placed-by number count host changed net at keeps within n h false here is =
      over h.last net.count count (within n h (sym (slice_get-other net.hosts number n (λ (x : Host S). changed) (differ n number here)) ∙ is)) keeps.0

  pub joined : (x y z : Net S) → Rises x y → Rises y z → Rises x z
  joined x y z p q = record { count = over x.count y.count z.count p.count q.count; within = λ within. q.within (p.within within) }

  still : (net changed : Net S) → changed.count ≡ net.count → changed.hosts ≡ net.hosts → Rises net changed
  still net changed count all = record {
    count = rw count (least net.count);
    within = λ within number host at. rw count (within number host (sym (ap (λ (hosts : List (Host S)). slice_get hosts number) all) ∙ at));
  }

  pub nets : NetLaws {S = S} H Rises
  nets = record {
    same = λ net. still net net refl refl;
    after = λ x y z p q. joined x y z p q;
    posts = λ net wire sent. still net (record net { wire = wire; sent = sent }) refl refl;
    places = λ number count host changed net at keeps. record { count = keeps.0; within = λ within n h is. placed-by number count host changed net at keeps within n h (n == number) refl is };
  }

  pub same-last : (number : ℕ) (change : Host S → Host S) (net : Net S) → ((host : Host S) → (change host).last ≡ host.last) → Rises net (change_host number change net)
  same-last number change net same = change_host-walks H Rises hosts nets number change net (λ host. (least net.count, λ under. rw (same host) under))

  -- ## Of a step

  turn-laws : (number now : ℕ) → TurnLaws now (H number now)
  turn-laws number now = record {
    turns = λ form config serial turn done count host. (least count, λ under. under);
    goes = λ serial count host. (least count, λ under. under);
  }

  module _ (form : Form S) (setup : Setup) where
    pub closed_turn-rises : (app : AppId) (done : Outcome) (ends : Bool) (net : Net S) → Rises net (closed_turn setup app done ends net)
    closed_turn-rises app done ends net = closed_turn-walks H Rises hosts nets turn-laws setup app done ends net

    pub step-rises : (net : Net S) (step : Step) → Rises net (after_step form setup net step)
    step-rises net step = after_step-walks H Rises hosts nets turn-laws (λ net now. still net (record net { moment = now }) refl refl) form tt setup net step

    pub run-rises : (later : List Step) (net : Net S) → net.count ≤ (chained_from form setup net later).count
    unfolding chained_from
    run-rises [] net = least net.count
    run-rises (step ∷ later) net = over net.count (after_step form setup net step).count _ (step-rises net step).count (run-rises later (after_step form setup net step))

  -- ## Names have 64 bits

  rising-top : (lives : List (Live S)) (low last : ℕ) → IsRising lives low last → low ≤ last
  unfolding IsRising
  rising-top [] low last rising = rising
  rising-top (live ∷ lives) low last rising = omega (arith, rising.0, rising-top lives live.serial last rising.1)

  small-lives : (lives : List (Live S)) (low last : ℕ) → IsRising lives low last → last < 2 ^ 64 → AreSmall lives
  unfolding IsRising
  small-lives [] low last rising small = tt
  small-lives (live ∷ lives) low last rising small = (under live.serial last _ (rising-top lives live.serial last rising.1) small, small-lives lives live.serial last rising.1 small)

  small-hosts : (all : List (Host S)) → ((number : ℕ) (host : Host S) → slice_get all number ≡ Some host → AreSmall host.sessions) → AllSmall all
  small-hosts [] each = tt
  small-hosts (host ∷ all) each = (each zero host refl, small-hosts all (λ number h at. each (suc number) h at))

  numbered-at : (host : Host S) (found : Option (Host S)) → found ≡ Some host → IsNumberedAt found → IsRising host.sessions 0 host.last
  numbered-at host found is numbered = subst IsNumberedAt is numbered

  pub small-net : (net : Net S) → AreNumbered net → AreWithin net → net.count < 2 ^ 64 → AllSmall net.hosts
  small-net net numbered within few =
      small-hosts net.hosts (λ number host at. small-lives host.sessions 0 host.last (numbered-at host (host_at number net) at (host_at-numbered number net numbered)) (under host.last net.count _ (within number host at) few))
