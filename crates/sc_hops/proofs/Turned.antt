-- A turn queues no later requests of a kind but those that it gives to send.
use Rattle.std.proofs.Common.{◌≡◌, ◌<◌, ℕ, Bool, true, false, Option, None, Some, List, []}
use Rattle.std.specs.Prelude.{cond, slice_get}
use Rattle.sc_value.specs.declared.ids.AppId.{AppId}
use Rattle.sc_value.specs.declared.message.Request.{Request}
use Rattle.sc_terms.specs.declared.calls.CallRecord.{CallRecord}
use Rattle.sc_terms.specs.declared.calls.End.{End}
use Rattle.sc_terms.specs.declared.steps.Step.TheVariants as steps
use Rattle.sc_parts.specs.declared.setup.Setup.{Setup}
use Rattle.sc_state.specs.declared.host.Client.{Client}
use Rattle.sc_state.specs.Hosts.{Host}
use Rattle.sc_state.specs.declared.host.Live.{Live}
use Rattle.sc_state.specs.declared.net.Net.{Net}
use Rattle.sc_state.specs.declared.orders.Order.{Order}
use Rattle.sc_state.specs.declared.orders.Outcome.{Outcome}
use Rattle.sc_state.specs.declared.queue.Queued.TheVariants as queued
use Rattle.sc_state.specs.declared.queue.Waiting.{Waiting}
use Rattle.sc_state.specs.declared.session.Session.{Session}
use Rattle.sc_state.specs.declared.session.Way.{Way}
use Rattle.sc_hosts.specs.Inboxes.{is_live}
use Rattle.sc_hosts.specs.Nets.{change_host, after_orders as obeyed}
use Rattle.sc_hosts.specs.Runs.{after_step}
use Rattle.sc_hosts.specs.Sessions.{Form, Turn}
use Rattle.sc_hosts.specs.Steps.{closed_turn, without_application as invalidated, live_at, outcome_by, before_delivery as stepped, turn_of, net_after_turn as turned, turned_live, turns, turns_first, with_ready, without_live}
use Rattle.sc_hosts.specs.Transacting.{without_ended}
use Rattle.sc_lasting.specs.Lasting.{All}
use Rattle.sc_lasting.proofs.Parts.{all-filter, all-first, all-removed}
use Rattle.sc_lasting.proofs.Shared.{all-rest}
use Rattle.sc_given.proofs.GivenCalls.{all-given}
use Rattle.sc_given.proofs.GivenGoodbyes.{goodbye-kind}
use Rattle.sc_hops.specs.Hops.{AreFit, AreKinds, IsOrdered, IsPlain}
use Rattle.sc_hops.proofs.Carried.{FitsIn, Holds, changes, delivered-holds, obeyed-holds, queue_for-holds}

-- ## Lists of events

module _ {S : Type 0} (Way Sound Told Sent : Request → Type 0) (setup : Setup) (epoch base : ℕ) (kinds : AreKinds Way Sound Told Sent) where
  abbrev Holding : Net S → Type 0
  Holding net = Holds {S = S} Way Sound Told Sent setup epoch base kinds net

  abbrev Good : ℕ → Host S → Type 0
  Good number host = AreFit {S = S} (FitsIn Told Sent setup epoch) base number host.sessions × All (λ (client : Client). Sound client.request) host.clients

  abbrev Right : ℕ → Live S → Type 0
  Right number live = All (λ (waiting : Waiting). base < waiting.number → FitsIn Told Sent setup epoch (record { host = number; serial = live.serial }) waiting.event) live.inbox

  turned_live-right : (form : Form S) (now number : ℕ) (turn : Turn) (done : Outcome) (live : Live S) → Right number live
      → Right number (turned_live form setup.config now turn done live)
  unfolding turned_live
  turned_live-right form now number turn done live right =
      all-rest (λ (waiting : Waiting). base < waiting.number → FitsIn Told Sent setup epoch (record { host = number; serial = live.serial }) waiting.event) live.inbox right

  changed-holds : (number : ℕ) (change : Host S → Host S) (net : Net S) → ((host : Host S) → Good number host → Good number (change host)) → Holding net
      → Holding (change_host number change net)
  changed-holds number change net keeps holds = changes {S = S} Way Sound Told Sent setup epoch base kinds number change net (λ host at good. keeps host good) holds

  without_live-holds : (app : AppId) (net : Net S) → Holding net → Holding (without_live app net)
  unfolding without_live without_ended
  without_live-holds app net holds = changed-holds app.host _ net (λ host good. (all-removed (Right app.host) (is_live app.serial) host.sessions good.0, all-filter (λ (client : Client). Sound client.request) _ host.clients good.1)) holds

  obeys : (app : AppId) (given : List Order) (net : Net S) → All (IsOrdered setup.config Way Sound) given → Holding net → Holding (obeyed setup app given net)
  obeys app given net ok holds = obeyed-holds {S = S} Way Sound Told Sent setup epoch base kinds given app net ok holds

  invalidated-holds : (app : AppId) (session : Session) (inbox : List Waiting) (net : Net S) → Holding net
      → Holding (invalidated setup app session inbox net)
  unfolding invalidated IsOrdered
  invalidated-holds app session inbox net holds =
      let law = all-given (IsOrdered setup.config Way Sound) (λ event response. tt) (λ branch. tt) (λ branch. tt) in
      without_live-holds app _ (obeys app _ net (goodbye-kind (IsOrdered setup.config Way Sound) law setup.config session inbox) holds)

  if-holds : (b : Bool) (x y : Net S) → Holding x → Holding y → Holding (cond b x y)
  if-holds true x y p q = p
  if-holds false x y p q = q

  with_ready-holds : (app : AppId) (done : Outcome) (live : Option (Live S)) (net : Net S) → Holding net → Holding (with_ready app done live net)
  unfolding with_ready IsPlain
  with_ready-holds app done None net holds = holds
  with_ready-holds app done (Some live) net holds = if-holds _ _ net (queue_for-holds {S = S} Way Sound Told Sent setup epoch base kinds app queued.Ready tt net holds) holds

  closed_turn-holds : (app : AppId) (done : Outcome) (ends : Bool) (net : Net S) → Holding net → Holding (closed_turn setup app done ends net)
  unfolding closed_turn
  closed_turn-holds app done true net holds = invalidated-holds app done.session _ net holds
  closed_turn-holds app done false net holds = with_ready-holds app done _ net holds

  turned-holds : (form : Form S) (app : AppId) (turn : Turn) (done : Outcome) (net : Net S) → All (IsOrdered setup.config Way Sound) done.orders → Holding net
      → Holding (turned form setup app turn done net)
  unfolding turned
  turned-holds form app turn done net ok holds =
      closed_turn-holds app done done.ends _ (obeys app done.orders _ ok
      (changed-holds app.host _ net (λ host good. (all-first (Right app.host) (is_live app.serial) (turned_live form setup.config net.moment turn done) host.sessions (λ live found right. turned_live-right form net.moment app.host turn done live right) good.0, good.1)) holds))

  -- a whole turn
  pub turn-holds : (form : Form S) (app : AppId) (net : Net S) (live : Live S) (waiting : Waiting) (event now : ℕ) (made : List CallRecord) (end : End)
      → live_at app net ≡ Some live → slice_get live.inbox 0 ≡ Some waiting
      → All (IsOrdered setup.config Way Sound) (outcome_by form setup.config live.session (turn_of (record net { sent = [] }) app waiting now made end)).orders
      → Holding (record net { sent = [] }) → Holding (after_step form setup net (steps.Turn end app event now made))
  unfolding after_step stepped turns turns_first
  turn-holds form app net live waiting event now made end lives first ok holds =
      let start : Net S = record net { sent = [] } in
      let turn : Turn = turn_of start app waiting now made end in
      let done : Outcome = outcome_by form setup.config live.session turn in
      rw (lives, first) (delivered-holds {S = S} Way Sound Told Sent setup epoch base kinds form (turned form setup app turn done start) (turned-holds form app turn done start ok holds))
