-- Each step leaves the requests of client transactions fit for their session and branch, where what a turn gives to send is.
use Rattle.std.proofs.Common.{◌≡◌, ℕ, Bool, true, false, Option, None, Some, List, [], ◌∷◌, ◌++◌, refl}
use Rattle.std.specs.Prelude.{cond, slice_get}
use Rattle.std.specs.List.{fold}
use Rattle.sc_value.specs.Lists.{change_first}
use Rattle.sc_value.specs.declared.answerable.Answerable.{Answerable}
use Rattle.sc_value.specs.declared.ids.AppId.{AppId}
use Rattle.sc_value.specs.declared.ids.Place.{Place}
use Rattle.sc_value.specs.declared.message.Message.{Message}
use Rattle.sc_value.specs.declared.message.Message.TheVariants as messages
use Rattle.sc_value.specs.declared.message.Request.{Request}
use Rattle.sc_value.specs.declared.message.Response.{Response}
use Rattle.sc_value.specs.declared.parts.Address.{Address}
use Rattle.sc_terms.specs.declared.calls.CallRecord.{CallRecord}
use Rattle.sc_terms.specs.declared.calls.End.{End}
use Rattle.sc_terms.specs.declared.settings.Config.{Config}
use Rattle.sc_terms.specs.declared.steps.Step.{Step}
use Rattle.sc_terms.specs.declared.steps.Step.TheVariants as steps
use Rattle.sc_parts.specs.declared.choice.Choice.{Choice}
use Rattle.sc_parts.specs.declared.choice.Choice.TheVariants as choices
use Rattle.sc_parts.specs.declared.setup.Setup.{Setup}
use Rattle.sc_parts.specs.declared.transactions.ClientItem.{ClientItem}
use Rattle.sc_parts.specs.declared.transactions.ClientItem.TheVariants as client_items
use Rattle.sc_parts.specs.declared.transactions.ServerItem.TheVariants as server_items
use Rattle.sc_state.specs.Hosts.{Host}
use Rattle.sc_state.specs.Standing.{is_cancel_client}
use Rattle.sc_state.specs.declared.host.Client.{Client}
use Rattle.sc_state.specs.declared.host.Live.{Live}
use Rattle.sc_state.specs.declared.host.Peer.TheVariants as peers
use Rattle.sc_state.specs.declared.net.Net.{Net}
use Rattle.sc_state.specs.declared.net.Note.{Note}
use Rattle.sc_state.specs.declared.orders.Order.{Order}
use Rattle.sc_state.specs.declared.orders.Outcome.{Outcome}
use Rattle.sc_state.specs.declared.queue.Queued.TheVariants as queued
use Rattle.sc_state.specs.declared.queue.Waiting.{Waiting}
use Rattle.sc_state.specs.declared.session.Session.{Session}
use Rattle.sc_tokens.specs.Bytes.{Bytes}
use Rattle.sc_model.specs.Timers.{DueEntry}
use Rattle.sc_hosts.proofs.EachSort.{arrives-each}
use Rattle.sc_hosts.specs.Arrivals.{host_takes, taken_at, edge_answer, begins_by, initial_arrives, response_by, after_arrival as arrived, bad_by}
use Rattle.sc_hosts.specs.Inboxes.{is_live}
use Rattle.sc_hosts.specs.Nets.{change_host, host_at}
use Rattle.sc_hosts.specs.Routes.{unrouted_initial, popped_route}
use Rattle.sc_hosts.specs.Runs.{after_step}
use Rattle.sc_hosts.specs.Sessions.{Form, Turn}
use Rattle.sc_hosts.specs.Steps.{closed_turn, without_application as invalidated, live_at, outcome_by, before_delivery as stepped, turn_of, net_after_turn as turned, turned_live, turns, turns_first, with_ready, withdrawn, without_live}
use Rattle.sc_hosts.specs.Taking.{takes}
use Rattle.sc_hosts.specs.Ticks.{told_at, passes, clients_to, net_after_loss as lost, Dated, DueItem, Of_session, Of_client, Of_server, mark_fired, fires, due_items, net_after_tick as ticked}
use Rattle.sc_hosts.specs.Transacting.{without_ended}
use Rattle.sc_hosts.specs.Words.{unavailable}
use Rattle.sc_lasting.specs.Lasting.{All}
use Rattle.sc_lasting.proofs.Parts.{all-filter, all-first, all-removed}
use Rattle.sc_given.proofs.GivenCalls.{all-given}
use Rattle.sc_given.proofs.GivenGoodbyes.{goodbye-kind}
use Rattle.sc_vias.proofs.HostVias.{AreKinds, Good, IsNamed, pass_server-good, takes-good}
use Rattle.sc_vias.proofs.NetVias.{Holds, OrderFits, changes, delivered-holds, if-holds, obeyed-holds, passed-holds, placed-holds, put-holds, queue_for-holds}

module _ {S : Type 0} (form : Form S) (epoch : ℕ) (Named : AppId → S → Type 0) (Fits : AppId → ℕ → Request → Type 0) (kinds : AreKinds form epoch Named Fits) (setup : Setup) where
  -- the net is so
  abbrev Kept : Net S → Type 0
  Kept net = Holds form epoch Named Fits kinds net

  -- the host of this number is so
  abbrev Right : ℕ → Host S → Type 0
  Right number host = Good form epoch Named Fits kinds number host

  -- the request of an order of this session is fit
  abbrev pub Ordered : AppId → Order → Type 0
  Ordered app order = OrderFits form epoch Named Fits kinds app order

  if-kept : (b : Bool) (x y : Net S) → Kept x → Kept y → Kept (cond b x y)
  if-kept b x y p q = if-holds form epoch Named Fits kinds b x y p q

  fold-kept : {A : Type 0} (items : List A) (act : Net S → A → Net S) → ((net : Net S) (a : A) → Kept net → Kept (act net a)) → (net : Net S)
      → Kept net → Kept (fold act net items)
  fold-kept [] act each net kept = kept
  fold-kept (a ∷ items) act each net kept = fold-kept items act each (act net a) (each net a kept)

  change-kept : (number : ℕ) (change : Host S → Host S) (net : Net S) → ((host : Host S) → Right number host → Right number (change host)) → Kept net
      → Kept (change_host number change net)
  change-kept number change net keeps kept = changes form epoch Named Fits kinds number change net (λ host at good. keeps host good) kept

  -- ## A message or a text comes from outside

  host_takes-kept : (from : Place) (noted : Option Note) (message : Message) (number : ℕ) (found : Option (Host S)) (net : Net S)
      → host_at number net ≡ found → Kept net → Kept (host_takes form setup from noted message number found net)
  unfolding host_takes
  host_takes-kept from noted message number None net is kept = kept
  host_takes-kept from noted message number (Some host) net is kept =
      let took : Right number (takes form setup.config (record { host = number; epoch = net.epoch; from = peers.Outside from; now = net.moment; count = net.count }) noted message host).host
      = rw (kept.same) (takes-good form epoch Named Fits kinds number setup.config (peers.Outside from) net.moment noted message net.count host (kept.hosts number host is)) in
      placed-holds form epoch Named Fits kinds number _ net took kept

  taken_at-kept : (from : Place) (noted : Option Note) (message : Message) (number : ℕ) (net : Net S) → Kept net
      → Kept (taken_at form setup from noted message number net)
  unfolding taken_at
  taken_at-kept from noted message number net kept = host_takes-kept from noted message number _ net refl kept

  edge_answer-kept : (config : Config) (from : Place) (code : ℕ) (reason : Bytes) (request : Request) (net : Net S) → Kept net
      → Kept (edge_answer config from code reason request net)
  unfolding edge_answer
  edge_answer-kept config from code reason request net kept =
      if-kept _ net _ kept (put-holds form epoch Named Fits kinds 0 (peers.Outside from) _ None net kept)

  begins_by-kept : (from : Place) (request : Request) (popped : Option Address) (choice : Choice) (net : Net S) → Kept net
      → Kept (begins_by form setup from request popped choice net)
  unfolding begins_by
  begins_by-kept from request popped (choices.App host order region subscriber route) net kept = taken_at-kept from _ _ host net kept
  begins_by-kept from request popped (choices.Send routes) net kept = edge_answer-kept setup.config from 404 _ request net kept
  begins_by-kept from request popped choices.Onward net kept = edge_answer-kept setup.config from 404 _ request net kept
  begins_by-kept from request popped choices.NotFound net kept = edge_answer-kept setup.config from 404 _ request net kept

  initial_arrives-kept : (from : Place) (request : Request) (net : Net S) → Kept net → Kept (initial_arrives form setup from request net)
  unfolding initial_arrives
  initial_arrives-kept from request net kept =
      if-kept _ net _ kept
      (begins_by-kept from (unrouted_initial setup.config request) (popped_route setup.config request) _ net kept)

  response_by-kept : (from : Place) (response : Response) (number : Option ℕ) (net : Net S) → Kept net
      → Kept (response_by form setup from response number net)
  unfolding response_by
  response_by-kept from response None net kept = kept
  response_by-kept from response (Some number) net kept = taken_at-kept from None _ number net kept

  arrived-kept : (from : Place) (message : Message) (net : Net S) → Kept net → Kept (arrived form setup from message net)
  unfolding arrived
  arrived-kept from (messages.Request request) net kept =
      arrives-each Kept form setup from request net (λ number. taken_at-kept from None _ number net kept)
      (λ untagged. initial_arrives-kept from request net kept) (edge_answer-kept setup.config from 481 _ request net kept)
  arrived-kept from (messages.Response response) net kept = response_by-kept from response _ net kept

  bad_by-kept : (config : Config) (from : Place) (heads : Option Answerable) (net : Net S) → Kept net → Kept (bad_by config from heads net)
  unfolding bad_by
  bad_by-kept config from None net kept = kept
  bad_by-kept config from (Some heads) net kept = if-kept _ net _ kept (put-holds form epoch Named Fits kinds 0 (peers.Outside from) _ None net kept)

  -- ## A place is lost, and time passes

  told_at-kept : (config : Config) (client : Client) (reason : Bytes) (code : Option ℕ) (net : Net S) → Kept net
      → Kept (told_at config client reason code net)
  unfolding told_at
  told_at-kept config client reason None net kept = kept
  told_at-kept config client reason (Some code) net kept = if-kept _ net _ kept (queue_for-holds form epoch Named Fits kinds client.app _ net kept)

  passes-kept : (config : Config) (item : ClientItem) (reason : Bytes) (net : Net S) (client : Client) → Kept net → Kept (passes config item reason net client)
  unfolding passes
  passes-kept config item reason net client kept =
      told_at-kept config client reason _ _ (passed-holds form epoch Named Fits kinds client.app client.branch (is_cancel_client client) item net kept)

  lost-kept : (config : Config) (place : Place) (net : Net S) → Kept net → Kept (lost config place net)
  unfolding lost
  lost-kept config place net kept =
      fold-kept (clients_to place net) (passes config client_items.PlaceLost unavailable) (λ n client k. passes-kept config client_items.PlaceLost unavailable n client k) net kept

  fires-kept : (config : Config) (now : ℕ) (net : Net S) (entry : DueEntry) (item : DueItem) → Kept net → Kept (fires config now net entry item)
  unfolding fires mark_fired
  fires-kept config now net entry (Of_session app event) kept =
      queue_for-holds form epoch Named Fits kinds app event _
      (change-kept app.host (mark_fired entry) net
      (λ host good. (all-first (IsNamed form epoch Named Fits kinds app.host) (is_live entry.app.serial) (λ live. record live { fired = live.fired ++ record { due = entry.due; timer = entry.timer } ∷ [] }) host.sessions (λ live found named. named) good.0, good.1)) kept)
  fires-kept config now net entry (Of_client client) kept = passes-kept config (client_items.MomentCame now) _ net client kept
  fires-kept config now net entry (Of_server server) kept =
      change-kept server.app.host _ net (λ host good. pass_server-good form epoch Named Fits kinds server.app.host server.event (server_items.MomentCame now) host good) kept

  ticked-kept : (config : Config) (now : ℕ) (net : Net S) → Kept net → Kept (ticked form config now net)
  unfolding ticked
  ticked-kept config now net kept =
      fold-kept (due_items form now net) (λ n (d : Dated). fires config now n d.entry d.item) (λ n d k. fires-kept config now n d.entry d.item k) (record net { moment = now })
      (record { same = kept.same; hosts = kept.hosts })

  -- ## Turns

  without_live-kept : (app : AppId) (net : Net S) → Kept net → Kept (without_live app net)
  unfolding without_live without_ended
  without_live-kept app net kept =
      change-kept app.host _ net
      (λ host good. (all-removed (IsNamed form epoch Named Fits kinds app.host) (is_live app.serial) host.sessions good.0, all-filter (λ (client : Client). Fits client.app client.branch client.request) _ host.clients good.1)) kept

  invalidated-kept : (app : AppId) (session : Session) (inbox : List Waiting) (net : Net S) → Kept net → Kept (invalidated setup app session inbox net)
  unfolding invalidated OrderFits
  invalidated-kept app session inbox net kept =
      let law = all-given (Ordered app) (λ event response. tt) (λ branch. tt) (λ branch. tt) in
      without_live-kept app _ (obeyed-holds form epoch Named Fits kinds _ setup app net (goodbye-kind (Ordered app) law setup.config session inbox) kept)

  with_ready-kept : (app : AppId) (done : Outcome) (live : Option (Live S)) (net : Net S) → Kept net → Kept (with_ready app done live net)
  unfolding with_ready
  with_ready-kept app done None net kept = kept
  with_ready-kept app done (Some live) net kept = if-kept _ _ net (queue_for-holds form epoch Named Fits kinds app queued.Ready net kept) kept

  closed_turn-kept : (app : AppId) (done : Outcome) (ends : Bool) (net : Net S) → Kept net → Kept (closed_turn setup app done ends net)
  unfolding closed_turn
  closed_turn-kept app done true net kept = invalidated-kept app done.session _ net kept
  closed_turn-kept app done false net kept = with_ready-kept app done _ net kept

  turned-kept : (app : AppId) (turn : Turn) (done : Outcome) (net : Net S) → All (Ordered app) done.orders → Kept net → Kept (turned form setup app turn done net)
  unfolding turned turned_live
  turned-kept app turn done net fits kept =
      closed_turn-kept app done done.ends _ (obeyed-holds form epoch Named Fits kinds done.orders setup app _ fits
      (change-kept app.host (λ host. record host { sessions = change_first (is_live app.serial) (turned_live form setup.config net.moment turn done) host.sessions }) net
      (λ host good. (
        all-first (IsNamed form epoch Named Fits kinds app.host) (is_live app.serial) (turned_live form setup.config net.moment turn done) host.sessions
            (λ live found named. kinds.turned setup.config (record { host = app.host; serial = live.serial }) turn live.session named) good.0,
        good.1,
      )) kept))

  -- what the turn of a step gives to send is fit
  unfoldable pub StepFits : Net S → Step → Type 0
  StepFits net (steps.Turn end app event now made) =
      (live : Live S) (waiting : Waiting) → live_at app net ≡ Some live → slice_get live.inbox 0 ≡ Some waiting
      → All (Ordered app) (outcome_by form setup.config live.session (turn_of net app waiting now made end)).orders
  StepFits net step = Unit {0}

  turns_first-kept : (app : AppId) (live : Live S) (waiting : Option Waiting) (now : ℕ) (made : List CallRecord) (end : End) (net : Net S)
      → ((first : Waiting) → waiting ≡ Some first → All (Ordered app) (outcome_by form setup.config live.session (turn_of net app first now made end)).orders)
      → Kept net → Kept (turns_first form setup app live waiting now made end net)
  unfolding turns_first
  turns_first-kept app live None now made end net fits kept = kept
  turns_first-kept app live (Some waiting) now made end net fits kept = turned-kept app _ _ net (fits waiting refl) kept

  turns-kept : (app : AppId) (found : Option (Live S)) (now : ℕ) (made : List CallRecord) (end : End) (net : Net S)
      → ((live : Live S) (first : Waiting) → found ≡ Some live → slice_get live.inbox 0 ≡ Some first → All (Ordered app) (outcome_by form setup.config live.session (turn_of net app first now made end)).orders)
      → Kept net → Kept (turns form setup app found now made end net)
  unfolding turns
  turns-kept app None now made end net fits kept = kept
  turns-kept app (Some live) now made end net fits kept = turns_first-kept app live (slice_get live.inbox 0) now made end net (λ first is. fits live first refl is) kept

  withdrawn-kept : (app : AppId) (live : Option (Live S)) (net : Net S) → Kept net → Kept (withdrawn form setup app live net)
  unfolding withdrawn
  withdrawn-kept app None net kept = kept
  withdrawn-kept app (Some live) net kept = invalidated-kept app _ live.inbox net kept

  -- ## Each step

  stepped-kept : (step : Step) (net : Net S) → StepFits net step → Kept net → Kept (stepped form setup step net)
  unfolding stepped StepFits
  stepped-kept (steps.In from message) net fits kept = arrived-kept from message net kept
  stepped-kept (steps.Bad from bad) net fits kept = bad_by-kept setup.config from bad.heads net kept
  stepped-kept (steps.Lost place) net fits kept = lost-kept setup.config place net kept
  stepped-kept (steps.Tick now) net fits kept = ticked-kept setup.config now net kept
  stepped-kept (steps.Turn end app event now made) net fits kept = turns-kept app _ now made end net fits kept
  stepped-kept (steps.Withdraw app) net fits kept = withdrawn-kept app _ net kept

  pub step-kept : (step : Step) (net : Net S) → StepFits (record net { sent = [] }) step → Kept net → Kept (after_step form setup net step)
  unfolding after_step
  step-kept step net fits kept =
      delivered-holds form epoch Named Fits kinds setup _ (stepped-kept step (record net { sent = [] }) fits (record { same = kept.same; hosts = kept.hosts }))
