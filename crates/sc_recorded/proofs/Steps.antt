-- Each step keeps what stands of one session's beginning and of requests between hosts, where what a turn gives to send is of the kind.
use Rattle.std.proofs.Common.{◌≡◌, ◌≤◌, ◌<◌, ℕ, Bool, true, false, Option, None, Some, List, [], ◌∷◌, ◌++◌, refl, sym, subst, arith}
use Rattle.std.specs.Prelude.{cond, length, option_and_then, slice_get}
use Rattle.std.specs.List.{fold}
use Rattle.sc_value.specs.Lists.{change_first}
use Rattle.sc_value.specs.declared.answerable.Answerable.{Answerable}
use Rattle.sc_value.specs.declared.ids.AppId.{AppId}
use Rattle.sc_value.specs.declared.ids.Place.{Place}
use Rattle.sc_value.specs.declared.message.Message.{Message}
use Rattle.sc_value.specs.declared.message.Message.TheVariants as messages
use Rattle.sc_value.specs.declared.message.Request.{Request}
use Rattle.sc_value.specs.declared.message.Response.{Response}
use Rattle.sc_value.specs.declared.parts.Address.{Address}
use Rattle.sc_value.specs.declared.parts.Via.{Via}
use Rattle.sc_terms.specs.declared.calls.CallRecord.{CallRecord}
use Rattle.sc_terms.specs.declared.calls.End.{End}
use Rattle.sc_terms.specs.declared.settings.Config.{Config}
use Rattle.sc_terms.specs.declared.steps.Step.{Step}
use Rattle.sc_terms.specs.declared.steps.Step.TheVariants as steps
use Rattle.sc_parts.specs.declared.choice.Choice.{Choice}
use Rattle.sc_parts.specs.declared.choice.Choice.TheVariants as choices
use Rattle.sc_parts.specs.declared.setup.Setup.{Setup}
use Rattle.sc_parts.specs.declared.transactions.ClientItem.{ClientItem}
use Rattle.sc_parts.specs.declared.transactions.ClientItem.TheVariants as client_items
use Rattle.sc_parts.specs.declared.transactions.ServerItem.TheVariants as server_items
use Rattle.sc_state.specs.Hosts.{Host}
use Rattle.sc_state.specs.Standing.{is_cancel_client}
use Rattle.sc_state.specs.declared.host.Client.{Client}
use Rattle.sc_state.specs.declared.host.Live.{Live}
use Rattle.sc_state.specs.declared.host.Peer.TheVariants as peers
use Rattle.sc_state.specs.declared.net.Net.{Net}
use Rattle.sc_state.specs.declared.net.Note.{Note}
use Rattle.sc_state.specs.declared.orders.Order.{Order}
use Rattle.sc_state.specs.declared.orders.Outcome.{Outcome}
use Rattle.sc_state.specs.declared.queue.Queued.TheVariants as queued
use Rattle.sc_state.specs.declared.queue.Waiting.{Waiting}
use Rattle.sc_state.specs.declared.session.Session.{Session}
use Rattle.sc_tokens.specs.Bytes.{Bytes}
use Rattle.sc_model.specs.Timers.{DueEntry}
use Rattle.sc_hosts.proofs.EachSort.{arrives-each}
use Rattle.sc_hosts.specs.Arrivals.{host_takes, taken_at, edge_answer, begins_by, initial_arrives, response_by, after_arrival as arrived, bad_by}
use Rattle.sc_hosts.specs.Inboxes.{is_live, live_in}
use Rattle.sc_hosts.specs.Nets.{change_host, host_at, with_message as put}
use Rattle.sc_hosts.specs.Routes.{unrouted_initial, popped_route, without_top}
use Rattle.sc_hosts.specs.Runs.{HasVia, IsAllowed, after_step}
use Rattle.sc_hosts.specs.Sessions.{Form, Turn}
use Rattle.sc_hosts.specs.Steps.{closed_turn, without_application as invalidated, live_at, outcome_by, before_delivery as stepped, turn_of, net_after_turn as turned, turned_live, turns, turns_first, with_ready, withdrawn, without_live}
use Rattle.sc_hosts.specs.Ticks.{told_at, passes, clients_to, net_after_loss as lost, Dated, DueItem, Of_session, Of_client, Of_server, mark_fired, fires, due_items, net_after_tick as ticked}
use Rattle.sc_hosts.specs.Transacting.{without_ended}
use Rattle.sc_hosts.specs.Words.{unavailable}
use Rattle.sc_lasting.specs.Lasting.{All}
use Rattle.sc_lasting.proofs.Parts.{all-filter, all-first, all-found, all-removed}
use Rattle.sc_lasting.proofs.Shared.{all-rest, all-at}
use Rattle.sc_given.proofs.GivenCalls.{all-given}
use Rattle.sc_given.proofs.GivenGoodbyes.{goodbye-kind}
use Rattle.sc_walks.proofs.DueEvents.{AreGood, IsGoodItem, due-good}
use Rattle.sc_recorded.specs.Recorded.{IsInner, IsTaggedEvent}
use Rattle.sc_recorded.proofs.Hosts.{AreKinds, Good, IsLiveAs, IsSent, IsServed, MessageComes, pass_server-good, takes-began}
use Rattle.sc_recorded.proofs.Nets.{Goes, Holds, OrderFits, answer-holds, changes, delivered-goes, goes, goes-then, if-goes, if-holds, obeyed-holds, passed-holds, placed-goes, queue_for-holds}

some-via : (vias : List Via) → 0 < length vias → 1 ≤ length vias
some-via vias some = omega (arith, some)

routed-vias : (route : Option Address) (request : Request) → (without_top route request).head.via ≡ request.head.via
unfolding without_top
routed-vias None request = refl
routed-vias (Some route) request = refl

initial-vias : (config : Config) (request : Request) → 1 ≤ length request.head.via → 1 ≤ length (unrouted_initial config request).head.via
unfolding unrouted_initial
initial-vias config request some = rw (routed-vias (popped_route config request) request) some

module _ {S : Type 0} (form : Form S) (app : AppId) (request_of : S → Request) (Lives : S → Type 0) (Sound : Option Request → Request → Type 0) (kinds : AreKinds form request_of Lives Sound) (setup : Setup) where
  -- the net is so
  abbrev Kept : Option Request → Net S → Type 0
  Kept known net = Holds form app request_of Lives Sound kinds known net

  -- it is so with what is known then
  abbrev Goes-on : Option Request → Net S → Type 0
  Goes-on known net = Goes form app request_of Lives Sound kinds known net

  -- the host of this number is so
  abbrev Right : Option Request → ℕ → Host S → Type 0
  Right known number host = Good form app request_of Lives Sound kinds known number host

  -- the request of an order is of the kind
  abbrev pub Ordered : Option Request → Order → Type 0
  Ordered known order = OrderFits form app request_of Lives Sound kinds known order

  stays : (known : Option Request) (net : Net S) → Kept known net → Goes-on known net
  stays known net kept = goes form app request_of Lives Sound kinds known net kept

  if-kept : (known : Option Request) (b : Bool) (x y : Net S) → Kept known x → Kept known y → Kept known (cond b x y)
  if-kept known b x y p q = if-holds form app request_of Lives Sound kinds known b x y p q

  if-on : (known : Option Request) (b : Bool) (x y : Net S) → Goes-on known x → Goes-on known y → Goes-on known (cond b x y)
  if-on known b x y p q = if-goes form app request_of Lives Sound kinds known b x y p q

  fold-kept : {A : Type 0} (items : List A) (act : Net S → A → Net S) (P : A → Type 0) (known : Option Request) → ((net : Net S) (a : A) → P a → Kept known net → Kept known (act net a))
      → All P items → (net : Net S) → Kept known net → Kept known (fold act net items)
  unfolding All
  fold-kept [] act P known each all net kept = kept
  fold-kept (a ∷ items) act P known each all net kept = fold-kept items act P known each all.1 (act net a) (each net a all.0 kept)

  change-kept : (known : Option Request) (number : ℕ) (change : Host S → Host S) (net : Net S) → ((host : Host S) → Right known number host → Right known number (change host)) → Kept known net
      → Kept known (change_host number change net)
  change-kept known number change net keeps kept = changes form app request_of Lives Sound kinds known number change net (λ host at good. keeps host good) kept

  answered : (known : Option Request) (from : Place) (response : Response) (net : Net S) → Kept known net → Kept known (put 0 (peers.Outside from) (messages.Response response) None net)
  answered known from response net kept = answer-holds form app request_of Lives Sound kinds known 0 (peers.Outside from) response net kept

  -- ## A message or a text comes from outside

  -- it has a Via where it is a request
  unfoldable IsCome : Message → Type 0
  IsCome (messages.Request request) = 1 ≤ length request.head.via
  IsCome (messages.Response response) = Unit {0}

  outside-comes : (known : Option Request) (from : Place) (number : ℕ) (message : Message) → IsCome message
      → MessageComes form app request_of Lives Sound kinds number known (peers.Outside from) message
  unfolding MessageComes IsCome IsInner
  outside-comes known from number (messages.Request request) come = (come, λ inner. absurd inner)
  outside-comes known from number (messages.Response response) come = tt

  host_takes-goes : (known : Option Request) (from : Place) (noted : Option Note) (message : Message) (number : ℕ) (found : Option (Host S)) (net : Net S)
      → host_at number net ≡ found → IsCome message → Kept known net → Goes-on known (host_takes form setup from noted message number found net)
  unfolding host_takes
  host_takes-goes known from noted message number None net is come kept = stays known net kept
  host_takes-goes known from noted message number (Some host) net is come kept =
      placed-goes form app request_of Lives Sound kinds known number _ net
      (takes-began form app request_of Lives Sound kinds number known setup.config net.epoch (peers.Outside from) net.moment noted message net.count host
      (outside-comes known from number message come) (kept.hosts number host is)) kept

  taken_at-goes : (known : Option Request) (from : Place) (noted : Option Note) (message : Message) (number : ℕ) (net : Net S) → IsCome message → Kept known net
      → Goes-on known (taken_at form setup from noted message number net)
  unfolding taken_at
  taken_at-goes known from noted message number net come kept = host_takes-goes known from noted message number _ net refl come kept

  edge_answer-kept : (known : Option Request) (config : Config) (from : Place) (code : ℕ) (reason : Bytes) (request : Request) (net : Net S) → Kept known net
      → Kept known (edge_answer config from code reason request net)
  unfolding edge_answer
  edge_answer-kept known config from code reason request net kept = if-kept known _ net _ kept (answered known from _ net kept)

  edge_answer-goes : (known : Option Request) (config : Config) (from : Place) (code : ℕ) (reason : Bytes) (request : Request) (net : Net S) → Kept known net
      → Goes-on known (edge_answer config from code reason request net)
  edge_answer-goes known config from code reason request net kept = stays known _ (edge_answer-kept known config from code reason request net kept)

  request-come : (request : Request) → 1 ≤ length request.head.via → IsCome (messages.Request request)
  unfolding IsCome
  request-come request some = some

  begins_by-goes : (known : Option Request) (from : Place) (request : Request) (popped : Option Address) (choice : Choice) (net : Net S) → 1 ≤ length request.head.via → Kept known net
      → Goes-on known (begins_by form setup from request popped choice net)
  unfolding begins_by
  begins_by-goes known from request popped (choices.App host order region subscriber route) net some kept = taken_at-goes known from _ (messages.Request request) host net (request-come request some) kept
  begins_by-goes known from request popped (choices.Send routes) net some kept = edge_answer-goes known setup.config from 404 _ request net kept
  begins_by-goes known from request popped choices.Onward net some kept = edge_answer-goes known setup.config from 404 _ request net kept
  begins_by-goes known from request popped choices.NotFound net some kept = edge_answer-goes known setup.config from 404 _ request net kept

  initial_arrives-goes : (known : Option Request) (from : Place) (request : Request) (net : Net S) → 1 ≤ length request.head.via → Kept known net
      → Goes-on known (initial_arrives form setup from request net)
  unfolding initial_arrives
  initial_arrives-goes known from request net some kept =
      if-on known _ net _ (stays known net kept)
      (begins_by-goes known from (unrouted_initial setup.config request) (popped_route setup.config request) _ net (initial-vias setup.config request some) kept)

  response-come : (response : Response) → IsCome (messages.Response response)
  unfolding IsCome
  response-come response = tt

  response_by-goes : (known : Option Request) (from : Place) (response : Response) (number : Option ℕ) (net : Net S) → Kept known net
      → Goes-on known (response_by form setup from response number net)
  unfolding response_by
  response_by-goes known from response None net kept = stays known net kept
  response_by-goes known from response (Some number) net kept = taken_at-goes known from None _ number net (response-come response) kept

  arrived-goes : (known : Option Request) (from : Place) (message : Message) (net : Net S) → HasVia message → Kept known net → Goes-on known (arrived form setup from message net)
  unfolding arrived HasVia
  arrived-goes known from (messages.Request request) net some kept =
      let vias : 1 ≤ length request.head.via = some-via request.head.via some in
      arrives-each (Goes-on known) form setup from request net (λ number. taken_at-goes known from None _ number net (request-come request vias) kept)
      (λ untagged. initial_arrives-goes known from request net vias kept) (edge_answer-goes known setup.config from 481 _ request net kept)
  arrived-goes known from (messages.Response response) net some kept = response_by-goes known from response _ net kept

  bad_by-kept : (known : Option Request) (config : Config) (from : Place) (heads : Option Answerable) (net : Net S) → Kept known net → Kept known (bad_by config from heads net)
  unfolding bad_by
  bad_by-kept known config from None net kept = kept
  bad_by-kept known config from (Some heads) net kept = if-kept known _ net _ kept (answered known from _ net kept)

  -- ## A place is lost, and time passes

  told_at-kept : (known : Option Request) (config : Config) (client : Client) (reason : Bytes) (code : Option ℕ) (net : Net S) → Kept known net
      → Kept known (told_at config client reason code net)
  unfolding told_at IsTaggedEvent
  told_at-kept known config client reason None net kept = kept
  told_at-kept known config client reason (Some code) net kept = if-kept known _ net _ kept (queue_for-holds form app request_of Lives Sound kinds known client.app _ net tt kept)

  passes-kept : (known : Option Request) (config : Config) (item : ClientItem) (reason : Bytes) (net : Net S) (client : Client) → Kept known net → Kept known (passes config item reason net client)
  unfolding passes
  passes-kept known config item reason net client kept =
      told_at-kept known config client reason _ _ (passed-holds form app request_of Lives Sound kinds known client.app client.branch (is_cancel_client client) item net kept)

  any-all : {A : Type 0} (xs : List A) → All (λ (a : A). Unit {0}) xs
  unfolding All
  any-all [] = tt
  any-all (x ∷ xs) = (tt, any-all xs)

  lost-kept : (known : Option Request) (config : Config) (place : Place) (net : Net S) → Kept known net → Kept known (lost config place net)
  unfolding lost
  lost-kept known config place net kept =
      fold-kept (clients_to place net) (passes config client_items.PlaceLost unavailable) (λ client. Unit {0}) known
      (λ n client any k. passes-kept known config client_items.PlaceLost unavailable n client k) (any-all (clients_to place net)) net kept

  fires-kept : (known : Option Request) (config : Config) (now : ℕ) (net : Net S) (entry : DueEntry) (item : DueItem) → IsGoodItem IsTaggedEvent item → Kept known net → Kept known (fires config now net entry item)
  unfolding fires mark_fired IsGoodItem
  fires-kept known config now net entry (Of_session of event) none kept =
      queue_for-holds form app request_of Lives Sound kinds known of event _ none
      (change-kept known of.host (mark_fired entry) net
      (λ host good. record {
        sessions = all-first (IsLiveAs form app request_of Lives Sound kinds known of.host) (is_live entry.app.serial)
            (λ live. record live { fired = live.fired ++ record { due = entry.due; timer = entry.timer } ∷ [] }) host.sessions (λ live found ok. ok) good.sessions;
        servers = good.servers;
        clients = good.clients;
        last = good.last;
      }) kept)
  fires-kept known config now net entry (Of_client client) none kept = passes-kept known config (client_items.MomentCame now) _ net client kept
  fires-kept known config now net entry (Of_server server) none kept =
      change-kept known server.app.host _ net (λ host good. pass_server-good form app request_of Lives Sound kinds server.app.host known server.event (server_items.MomentCame now) host good) kept

  fire-all : (due : List Dated) (known : Option Request) (config : Config) (now : ℕ) (net : Net S) → AreGood IsTaggedEvent due → Kept known net
      → Kept known (fold (λ n (d : Dated). fires config now n d.entry d.item) net due)
  unfolding AreGood
  fire-all [] known config now net none kept = kept
  fire-all (d ∷ due) known config now net none kept = fire-all due known config now (fires config now net d.entry d.item) none.1 (fires-kept known config now net d.entry d.item none.0 kept)

  ticked-kept : (known : Option Request) (config : Config) (now : ℕ) (net : Net S) → Kept known net → Kept known (ticked form config now net)
  unfolding ticked IsTaggedEvent
  ticked-kept known config now net kept =
      fire-all (due_items form now net) known config now (record net { moment = now }) (due-good IsTaggedEvent tt (λ id. tt) (λ number due. tt) form now net) (record { hosts = kept.hosts; wire = kept.wire })

  -- ## Turns

  without_live-kept : (known : Option Request) (of : AppId) (net : Net S) → Kept known net → Kept known (without_live of net)
  unfolding without_live without_ended
  without_live-kept known of net kept =
      change-kept known of.host _ net
      (λ host good. record {
        sessions = all-removed (IsLiveAs form app request_of Lives Sound kinds known of.host) (is_live of.serial) host.sessions good.sessions;
        servers = all-filter (IsServed form app request_of Lives Sound kinds known) _ host.servers good.servers;
        clients = all-filter (IsSent form app request_of Lives Sound kinds known) _ host.clients good.clients;
        last = good.last;
      }) kept

  invalidated-kept : (known : Option Request) (of : AppId) (session : Session) (inbox : List Waiting) (net : Net S) → Kept known net → Kept known (invalidated setup of session inbox net)
  unfolding invalidated OrderFits
  invalidated-kept known of session inbox net kept =
      let law = all-given (Ordered known) (λ event response. tt) (λ branch. tt) (λ branch. tt) in
      without_live-kept known of _ (obeyed-holds form app request_of Lives Sound kinds _ known setup of net (goodbye-kind (Ordered known) law setup.config session inbox) kept)

  with_ready-kept : (known : Option Request) (of : AppId) (done : Outcome) (live : Option (Live S)) (net : Net S) → Kept known net → Kept known (with_ready of done live net)
  unfolding with_ready IsTaggedEvent
  with_ready-kept known of done None net kept = kept
  with_ready-kept known of done (Some live) net kept = if-kept known _ _ net (queue_for-holds form app request_of Lives Sound kinds known of queued.Ready net tt kept) kept

  closed_turn-kept : (known : Option Request) (of : AppId) (done : Outcome) (ends : Bool) (net : Net S) → Kept known net → Kept known (closed_turn setup of done ends net)
  unfolding closed_turn
  closed_turn-kept known of done true net kept = invalidated-kept known of done.session _ net kept
  closed_turn-kept known of done false net kept = with_ready-kept known of done _ net kept

  turned-as : (known : Option Request) (number now : ℕ) (turn : Turn) (done : Outcome) (live : Live S) → IsTaggedEvent turn.waiting.event → IsLiveAs form app request_of Lives Sound kinds known number live
      → IsLiveAs form app request_of Lives Sound kinds known number (turned_live form setup.config now turn done live)
  unfolding turned_live
  turned-as known number now turn done live tagged ok =
      let same : request_of (form.turned setup.config turn live.session) ≡ request_of live.session = kinds.turned_of setup.config turn live.session in (
        subst (λ (r : Request). 1 ≤ length r.head.via) (sym same) ok.0,
        λ here. subst (λ (r : Request). known ≡ Some r) (sym same) (ok.1 here),
        kinds.turned setup.config turn live.session tagged ok.2,
        all-rest (λ (waiting : Waiting). IsTaggedEvent waiting.event) live.inbox ok.3,
      )

  turned-kept : (known : Option Request) (of : AppId) (turn : Turn) (done : Outcome) (net : Net S) → IsTaggedEvent turn.waiting.event → All (Ordered known) done.orders → Kept known net
      → Kept known (turned form setup of turn done net)
  unfolding turned
  turned-kept known of turn done net tagged fits kept =
      closed_turn-kept known of done done.ends _ (obeyed-holds form app request_of Lives Sound kinds done.orders known setup of _ fits
      (change-kept known of.host (λ host. record host { sessions = change_first (is_live of.serial) (turned_live form setup.config net.moment turn done) host.sessions }) net
      (λ host good. record {
        sessions = all-first (IsLiveAs form app request_of Lives Sound kinds known of.host) (is_live of.serial) (turned_live form setup.config net.moment turn done) host.sessions
            (λ live found ok. turned-as known of.host net.moment turn done live tagged ok) good.sessions;
        servers = good.servers;
        clients = good.clients;
        last = good.last;
      }) kept))

  -- what the turn of a step gives to send is of the kind
  unfoldable pub StepFits : Option Request → Net S → Step → Type 0
  StepFits known net (steps.Turn end of event now made) =
      (live : Live S) (waiting : Waiting) → live_at of net ≡ Some live → slice_get live.inbox 0 ≡ Some waiting
      → All (Ordered known) (outcome_by form setup.config live.session (turn_of net of waiting now made end)).orders
  StepFits known net step = Unit {0}

  -- what a live session is known by
  live-by : (known : Option Request) (of : AppId) (found : Option (Host S)) (net : Net S) (live : Live S) → host_at of.host net ≡ found → option_and_then (live_in of.serial) found ≡ Some live
      → Kept known net → IsLiveAs form app request_of Lives Sound kinds known of.host live
  live-by known of None net live at is kept = cc
  live-by known of (Some host) net live at is kept = all-found (IsLiveAs form app request_of Lives Sound kinds known of.host) (is_live of.serial) host.sessions live is (kept.hosts of.host host at).sessions

  pub live-as : (known : Option Request) (of : AppId) (net : Net S) (live : Live S) → live_at of net ≡ Some live → Kept known net → IsLiveAs form app request_of Lives Sound kinds known of.host live
  live-as known of net live is kept = live-by known of (host_at of.host net) net live refl is kept

  turns_first-kept : (known : Option Request) (of : AppId) (live : Live S) (waiting : Option Waiting) (now : ℕ) (made : List CallRecord) (end : End) (net : Net S)
      → ((first : Waiting) → waiting ≡ Some first → IsTaggedEvent first.event)
      → ((first : Waiting) → waiting ≡ Some first → All (Ordered known) (outcome_by form setup.config live.session (turn_of net of first now made end)).orders)
      → Kept known net → Kept known (turns_first form setup of live waiting now made end net)
  unfolding turns_first turn_of
  turns_first-kept known of live None now made end net tagged fits kept = kept
  turns_first-kept known of live (Some waiting) now made end net tagged fits kept = turned-kept known of _ _ net (tagged waiting refl) (fits waiting refl) kept

  turns-kept : (known : Option Request) (of : AppId) (found : Option (Live S)) (now : ℕ) (made : List CallRecord) (end : End) (net : Net S) → live_at of net ≡ found
      → ((live : Live S) (first : Waiting) → found ≡ Some live → slice_get live.inbox 0 ≡ Some first → All (Ordered known) (outcome_by form setup.config live.session (turn_of net of first now made end)).orders)
      → Kept known net → Kept known (turns form setup of found now made end net)
  unfolding turns
  turns-kept known of None now made end net at fits kept = kept
  turns-kept known of (Some live) now made end net at fits kept =
      turns_first-kept known of live (slice_get live.inbox 0) now made end net
      (λ first is. all-at (λ (waiting : Waiting). IsTaggedEvent waiting.event) live.inbox 0 first is (live-as known of net live at kept).3) (λ first is. fits live first refl is) kept

  withdrawn-kept : (known : Option Request) (of : AppId) (live : Option (Live S)) (net : Net S) → Kept known net → Kept known (withdrawn form setup of live net)
  unfolding withdrawn
  withdrawn-kept known of None net kept = kept
  withdrawn-kept known of (Some live) net kept = invalidated-kept known of _ live.inbox net kept

  -- ## Each step

  stepped-goes : (known : Option Request) (step : Step) (origin net : Net S) → IsAllowed form setup origin step → StepFits known net step → Kept known net → Goes-on known (stepped form setup step net)
  unfolding stepped StepFits IsAllowed
  stepped-goes known (steps.In from message) origin net may fits kept = arrived-goes known from message net may kept
  stepped-goes known (steps.Bad from bad) origin net may fits kept = stays known _ (bad_by-kept known setup.config from bad.heads net kept)
  stepped-goes known (steps.Lost place) origin net may fits kept = stays known _ (lost-kept known setup.config place net kept)
  stepped-goes known (steps.Tick now) origin net may fits kept = stays known _ (ticked-kept known setup.config now net kept)
  stepped-goes known (steps.Turn end of event now made) origin net may fits kept = stays known _ (turns-kept known of _ now made end net refl fits kept)
  stepped-goes known (steps.Withdraw of) origin net may fits kept = stays known _ (withdrawn-kept known of _ net kept)

  pub step-goes : (known : Option Request) (step : Step) (net : Net S) → IsAllowed form setup net step → StepFits known (record net { sent = [] }) step → Kept known net
      → Goes-on known (after_step form setup net step)
  unfolding after_step
  step-goes known step net may fits kept =
      goes-then form app request_of Lives Sound kinds known (stepped form setup step (record net { sent = [] })) _
      (stepped-goes known step net (record net { sent = [] }) may fits (record { hosts = kept.hosts; wire = kept.wire }))
      (λ middle held. delivered-goes form app request_of Lives Sound kinds middle setup _ held)
