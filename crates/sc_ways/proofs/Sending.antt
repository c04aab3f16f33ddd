-- A later request that a turn sends, on a branch of its own: the one event that it may bring in that step.
use Rattle.std.proofs.Common.{◌≡◌, ◌≤◌, ◌<◌, ℕ, ◌^◌, Bool, true, false, Option, None, Some, List, [], ◌∷◌, refl, sym, ap, subst, ◌∙◌, arith}
use Rattle.std.specs.Prelude.{◌&&◌, length, option_and_then, option_map, slice_get}
use Rattle.std.specs.List.{find}
use Rattle.sc_value.specs.declared.ids.AppId.{AppId}
use Rattle.sc_value.specs.declared.message.Message.TheVariants as messages
use Rattle.sc_value.specs.declared.message.Request.{Request}
use Rattle.sc_value.specs.declared.parts.Via.{Via}
use Rattle.sc_terms.specs.declared.calls.CallRecord.{CallRecord}
use Rattle.sc_terms.specs.declared.calls.End.{End}
use Rattle.sc_terms.specs.declared.steps.Step.{Step}
use Rattle.sc_terms.specs.declared.steps.Step.TheVariants as steps
use Rattle.sc_parts.specs.declared.setup.Setup.{Setup}
use Rattle.sc_state.specs.declared.host.Peer.TheVariants as peers
use Rattle.sc_state.specs.declared.net.Net.{Net}
use Rattle.sc_state.specs.declared.orders.Order.{Order}
use Rattle.sc_state.specs.declared.orders.Order.TheVariants as orders
use Rattle.sc_state.specs.declared.queue.Queued.{Queued}
use Rattle.sc_state.specs.declared.queue.Queued.TheVariants as queued
use Rattle.sc_state.specs.declared.session.Session.{Session}
use Rattle.sc_hosts.specs.Transacting.{same_top, same_via}
use Rattle.sc_lasting.proofs.Began.{test-found}
use Rattle.sc_lasting.proofs.Shared.{found-behind}
use Rattle.sc_paths.specs.LaterRequests.{SetOut, has_vias, later_in, set_out_by}
use Rattle.sc_paths.specs.Moments.{Got, Moment, given_in, got_in, same_vias}
use Rattle.sc_hops.specs.Hops.{AreOtherBranches, GoesAs, HasBranchOf, HasNoClient, Is_ack, Is_send, Sends}
use Rattle.sc_hops.proofs.Carried.{FitsIn}
use Rattle.sc_hops.proofs.OneTurn.{unrouted-vias}
use Rattle.sc_hops.proofs.OwnBranch.{branch-turn}
use Rattle.sc_ways.proofs.Got.{queued-got}
use Rattle.sc_ways.proofs.OneHop.{IsFine, IsFirst, allowed-turn, fit-request, later-of-by, long-same, moment, orders-are}

-- ## Its branch

first-same : (a b : Bool) → (a && b) ≡ true → a ≡ true
first-same true b is = refl
first-same false b is = cc

top-same : (a b : List Via) → 1 ≤ length a → same_vias a b ≡ true → same_top a b ≡ true
unfolding same_top same_vias
top-same [] b some is = absurd (nothing some)
  where
    nothing : 1 ≤ 0 → ⊥
    nothing some = omega (arith, some)
top-same (x ∷ a) [] some is = cc
top-same (x ∷ a) (y ∷ b) some is = first-same (same_via x y) _ is

as-long : (n m : ℕ) → 1 ≤ n → ◌≡◌ {A = ℕ} n m → 1 ≤ m
as-long n m some same = subst (λ (k : ℕ). 1 ≤ k) same some

-- ## What sets out

-- one of the orders sends it
record IsOrderedOut (setup : Setup) (moment : Moment) (place : ℕ) (request : Request) : Type 0 where
  order : Order
  at : slice_get (given_in setup moment) place ≡ Some order
  sends : Sends request order

pub sends-by : (order : Order) (request : Request) → later_in order ≡ Some request → Sends request order
unfolding later_in
sends-by (orders.Send branch sent) request is = Is_send branch (ap (λ (r : Request). orders.Send branch r) (some-is sent request is))
  where
    some-is : (x y : Request) → Some x ≡ Some y → x ≡ y
    some-is x y is = cc
sends-by (orders.Acknowledge sent) request is = Is_ack (ap (λ (r : Request). orders.Acknowledge r) (some-is sent request is))
  where
    some-is : (x y : Request) → Some x ≡ Some y → x ≡ y
    some-is x y is = cc
sends-by (orders.Respond event response) request is = cc
sends-by (orders.Begin branch directive region state sent) request is = cc
sends-by (orders.Cancel branch) request is = cc
sends-by (orders.CancelNow branch) request is = cc

-- a turn sends it
pub record IsBySession (setup : Setup) (moment : Moment) (step : Step) (place : ℕ) (out : SetOut) : Type 0 where
  pub app : AppId
  pub event : ℕ
  pub now : ℕ
  pub made : List CallRecord
  pub end : End
  pub request : Request
  pub step_is : step ≡ steps.Turn end app event now made
  pub out_is : out ≡ record { moment = moment; sender = peers.Inside app.host; request = request }
  pub ordered : option_and_then later_in (slice_get (given_in setup moment) place) ≡ Some request

mapped : (moment : Moment) (app : AppId) (found : Option Request) (out : SetOut) → option_map (λ request. record { moment = moment; sender = peers.Inside app.host; request = request }) found ≡ Some out
    → (request : Request) × (found ≡ Some request) × (out ≡ record { moment = moment; sender = peers.Inside app.host; request = request })
mapped moment app None out is = cc
mapped moment app (Some request) out is = (request, refl, sym (some-is (record { moment = moment; sender = peers.Inside app.host; request = request }) out is))
  where
    some-is : (x y : SetOut) → Some x ≡ Some y → x ≡ y
    some-is x y is = cc

pub session-by : (setup : Setup) (moment : Moment) (step : Step) (place : ℕ) (out : SetOut) → set_out_by setup moment step (Some place) ≡ Some out → IsBySession setup moment step place out
unfolding set_out_by
session-by setup moment (steps.Turn end app event now made) place out is =
    let found = mapped moment app _ out is in
    record { app = app; event = event; now = now; made = made; end = end; request = found.0; step_is = refl; out_is = found.2; ordered = found.1 }
session-by setup moment (steps.In from (messages.Request request)) place out is = cc
session-by setup moment (steps.In from (messages.Response response)) place out is = cc
session-by setup moment (steps.Bad from bad) place out is = cc
session-by setup moment (steps.Lost from) place out is = cc
session-by setup moment (steps.Tick now) place out is = cc
session-by setup moment (steps.Withdraw app) place out is = cc

ordered-out : (setup : Setup) (moment : Moment) (place : ℕ) (request : Request) → option_and_then later_in (slice_get (given_in setup moment) place) ≡ Some request → IsOrderedOut setup moment place request
ordered-out setup moment place request is =
    let found = found-behind later_in (slice_get (given_in setup moment) place) request is in
    record { order = found.0; at = found.1; sends = sends-by found.0 request found.2 }

-- ## The event that it brings

-- what goes its way as it came to the first session
pub record IsSentFirst (setup : Setup) (request : Request) (epoch : ℕ) (after : Net Session) (got : Got) : Type 0 where
  pub sent : Request
  pub goes : GoesAs request sent
  pub first : IsFirst setup sent epoch after got
  pub vias : 1 ≤ length sent.head.via

module _ (setup : Setup) (net : Net Session) (app : AppId) (event now : ℕ) (made : List CallRecord) (end : End) where
  abbrev At : Moment
  At = moment setup net app event now made end

  first-by : (place : ℕ) (request : Request) (got : Got) → IsOrderedOut setup At place request → net.epoch < 2 ^ 64 → IsFine setup net.epoch At → 1 ≤ length request.head.via
      → AreOtherBranches request (given_in setup At) place → HasNoClient request net → find (has_vias 0 request.head.via) (got_in At) ≡ Some got
      → IsSentFirst setup request net.epoch At.after got
  first-by place request got out small fine some others none found =
      let may = allowed-turn setup net app event now made end fine.allowed in
      let same = orders-are setup net app event now made end may.live may.waiting may.live_is may.waiting_is in
      let holds = branch-turn setup net app may.live may.waiting event now made end place request out.order (record { quiet = fine.quiet; numbered = fine.numbered; within = fine.within }) may.live_is may.waiting_is
      (subst (λ (given : List Order). slice_get given place ≡ Some out.order) same out.at) out.sends (subst (λ (given : List Order). AreOtherBranches request given place) same others) none in
      let Fits : AppId → Queued → Type 0 = FitsIn (HasBranchOf request) (GoesAs request) setup net.epoch in
      let one = queued-got Fits net.epoch net.count small At.after fine.few fine.small (λ number host at. (holds.hosts number host at).0) At (has_vias 0 request.head.via) got refl refl found in
      let later = later-of-by 0 request.head.via got (test-found (has_vias 0 request.head.via) (got_in At) got found) in
      let brought = fit-request (HasBranchOf request) (GoesAs request) setup net.epoch got.app got.waiting.event later.later later.is (one.0.fits one.1) (top-same request.head.via later.later.head.via some later.same) in
      let long : 1 ≤ length later.later.head.via = as-long (length request.head.via) (length later.later.head.via) some (long-same request.head.via later.later.head.via later.same) in
      record {
        sent = brought.sent;
        goes = brought.is;
        first = record {
          is = later.is ∙ ap (λ (r : Request). queued.Request r) brought.popped;
          uri = brought.uri;
          way = brought.by;
          named = brought.named;
          held = one.0.held;
          names = one.0.names;
          tagged = brought.tagged;
          no_cancel = brought.no_cancel;
        };
        vias = subst (λ (v : List Via). 1 ≤ length v) (unrouted-vias setup.config brought.sent) (subst (λ (r : Request). 1 ≤ length r.head.via) brought.popped long);
      }

  pub sent-first : (epoch place : ℕ) (request : Request) (got : Got) → option_and_then later_in (slice_get (given_in setup At) place) ≡ Some request → epoch < 2 ^ 64 → IsFine setup epoch At → 1 ≤ length request.head.via
      → AreOtherBranches request (given_in setup At) place → HasNoClient request net → find (has_vias 0 request.head.via) (got_in At) ≡ Some got
      → IsSentFirst setup request epoch At.after got
  sent-first epoch place request got ordered small fine some others none found =
      subst (λ (e : ℕ). IsSentFirst setup request e At.after got) fine.at
      (first-by place request got (ordered-out setup At place request ordered) (subst (λ (e : ℕ). e < 2 ^ 64) (sym fine.at) small) (subst (λ (e : ℕ). IsFine setup e At) (sym fine.at) fine) some others none found)
