-- Each step keeps what a net has of requests that came.
use Rattle.std.proofs.Common.{◌≡◌, ℕ, ◌++◌, Bool, true, false, Option, None, Some, List, [], ◌∷◌, refl, sym, subst}
use Rattle.std.specs.Prelude.{cond, option_and_then, slice_get}
use Rattle.std.specs.List.{fold}
use Rattle.sc_value.specs.Lists.{change_first}
use Rattle.sc_value.specs.declared.answerable.Answerable.{Answerable}
use Rattle.sc_value.specs.declared.ids.AppId.{AppId}
use Rattle.sc_value.specs.declared.ids.Place.{Place}
use Rattle.sc_value.specs.declared.message.Message.{Message}
use Rattle.sc_value.specs.declared.message.Message.TheVariants as messages
use Rattle.sc_value.specs.declared.message.Request.{Request}
use Rattle.sc_value.specs.declared.message.Response.{Response}
use Rattle.sc_value.specs.declared.parts.Address.{Address}
use Rattle.sc_terms.specs.declared.calls.CallRecord.{CallRecord}
use Rattle.sc_terms.specs.declared.calls.End.{End}
use Rattle.sc_terms.specs.declared.settings.Config.{Config}
use Rattle.sc_terms.specs.declared.steps.Step.{Step}
use Rattle.sc_terms.specs.declared.steps.Step.TheVariants as steps
use Rattle.sc_parts.specs.declared.choice.Choice.{Choice}
use Rattle.sc_parts.specs.declared.choice.Choice.TheVariants as choices
use Rattle.sc_parts.specs.declared.setup.Setup.{Setup}
use Rattle.sc_parts.specs.declared.transactions.ClientItem.{ClientItem}
use Rattle.sc_parts.specs.declared.transactions.ClientItem.TheVariants as client_items
use Rattle.sc_parts.specs.declared.transactions.ServerItem.TheVariants as server_items
use Rattle.sc_state.specs.Hosts.{Host}
use Rattle.sc_state.specs.Standing.{is_cancel_client}
use Rattle.sc_state.specs.declared.host.Client.{Client}
use Rattle.sc_state.specs.declared.host.Live.{Live}
use Rattle.sc_state.specs.declared.host.Peer.TheVariants as peers
use Rattle.sc_state.specs.declared.net.Net.{Net}
use Rattle.sc_state.specs.declared.net.Note.{Note}
use Rattle.sc_state.specs.declared.orders.Outcome.{Outcome}
use Rattle.sc_state.specs.declared.queue.Queued.{Queued}
use Rattle.sc_state.specs.declared.queue.Queued.TheVariants as queued
use Rattle.sc_state.specs.declared.queue.Waiting.{Waiting}
use Rattle.sc_state.specs.declared.session.Session.{Session}
use Rattle.sc_tokens.specs.Bytes.{Bytes}
use Rattle.sc_model.specs.Timers.{DueEntry}
use Rattle.sc_hosts.proofs.EachSort.{arrives-each}
use Rattle.sc_hosts.specs.Arrivals.{host_takes, taken_at, edge_answer, begins_by, initial_arrives, response_by, after_arrival as arrived, bad_by}
use Rattle.sc_hosts.specs.Inboxes.{is_live, live_in}
use Rattle.sc_hosts.specs.Nets.{change_host, host_at, with_message as put}
use Rattle.sc_hosts.specs.Routes.{unrouted_initial, popped_route}
use Rattle.sc_hosts.specs.Runs.{after_step}
use Rattle.sc_hosts.specs.Sessions.{Form, Turn}
use Rattle.sc_hosts.specs.Steps.{closed_turn, without_application as invalidated, live_at, before_delivery as stepped, turn_of, net_after_turn as turned, turned_live, turns, turns_first, with_ready, withdrawn, without_live}
use Rattle.sc_hosts.specs.Ticks.{told_at, passes, clients_to, net_after_loss as lost, Dated, DueItem, Of_session, Of_client, Of_server, mark_fired, fires, due_items, net_after_tick as ticked}
use Rattle.sc_hosts.specs.Transacting.{without_ended}
use Rattle.sc_hosts.specs.Words.{unavailable}
use Rattle.sc_lasting.specs.Lasting.{All}
use Rattle.sc_lasting.proofs.Began.{same-number, test-found}
use Rattle.sc_lasting.proofs.Parts.{all-filter, all-first, all-found, all-removed}
use Rattle.sc_lasting.proofs.Shared.{all-rest, all-at}
use Rattle.sc_walks.proofs.DueEvents.{AreGood, IsGoodItem, due-good}
use Rattle.sc_replies.specs.Fields.{incoming}
use Rattle.sc_returned.proofs.ArrivalHosts.{AreKept, Arrival, HostIn, LiveIn, Noted, ServerIn, pass_server-good, takes-began}
use Rattle.sc_returned.proofs.ArrivalNets.{Goes, Holds, changes, delivered-goes, goes, goes-then, if-goes, if-holds, obeyed-holds, passed-holds, placed-goes, put-holds, queue_for-holds}

-- it brings no request
unfoldable IsQuiet : Queued → Type 0
IsQuiet event = incoming event ≡ None

module _ {S : Type 0} (form : Form S) (Lives : List Arrival → AppId → S → Type 0) (kept : AreKept form Lives) (setup : Setup) where
  -- the net is so
  abbrev Keeps : List Arrival → Net S → Type 0
  Keeps arrivals net = Holds form Lives kept arrivals net

  abbrev Goes-on : List Arrival → Net S → Type 0
  Goes-on arrivals net = Goes form Lives kept arrivals net

  abbrev Right : List Arrival → ℕ → Host S → Type 0
  Right arrivals number host = HostIn form Lives kept arrivals number host

  stays : (arrivals : List Arrival) (net : Net S) → Keeps arrivals net → Goes-on arrivals net
  stays arrivals net holds = goes form Lives kept arrivals net holds

  if-kept : (arrivals : List Arrival) (b : Bool) (x y : Net S) → Keeps arrivals x → Keeps arrivals y → Keeps arrivals (cond b x y)
  if-kept arrivals b x y p q = if-holds form Lives kept arrivals b x y p q

  if-on : (arrivals : List Arrival) (b : Bool) (x y : Net S) → Goes-on arrivals x → Goes-on arrivals y → Goes-on arrivals (cond b x y)
  if-on arrivals b x y p q = if-goes form Lives kept arrivals b x y p q

  change-kept : (arrivals : List Arrival) (number : ℕ) (change : Host S → Host S) (net : Net S) → ((host : Host S) → Right arrivals number host → Right arrivals number (change host)) → Keeps arrivals net
      → Keeps arrivals (change_host number change net)
  change-kept arrivals number change net keeps holds = changes form Lives kept arrivals number change net keeps holds

  answered : (arrivals : List Arrival) (from : Place) (response : Response) (net : Net S) → Keeps arrivals net → Keeps arrivals (put 0 (peers.Outside from) (messages.Response response) None net)
  answered arrivals from response net holds = put-holds form Lives kept arrivals 0 (peers.Outside from) (messages.Response response) None net holds

  -- ## A message or a text comes from outside

  host_takes-goes : (arrivals : List Arrival) (from : Place) (noted : Option Note) (message : Message) (number : ℕ) (found : Option (Host S)) (net : Net S) → host_at number net ≡ found → Keeps arrivals net
      → Goes-on arrivals (host_takes form setup from noted message number found net)
  unfolding host_takes
  host_takes-goes arrivals from noted message number None net is holds = stays arrivals net holds
  host_takes-goes arrivals from noted message number (Some host) net is holds =
      placed-goes form Lives kept arrivals number _ net
      (takes-began form Lives kept number arrivals setup.config net.epoch (peers.Outside from) net.moment noted message net.count host (holds.hosts number host is)) holds

  taken_at-goes : (arrivals : List Arrival) (from : Place) (noted : Option Note) (message : Message) (number : ℕ) (net : Net S) → Keeps arrivals net
      → Goes-on arrivals (taken_at form setup from noted message number net)
  unfolding taken_at
  taken_at-goes arrivals from noted message number net holds = host_takes-goes arrivals from noted message number _ net refl holds

  edge_answer-goes : (arrivals : List Arrival) (config : Config) (from : Place) (code : ℕ) (reason : Bytes) (request : Request) (net : Net S) → Keeps arrivals net
      → Goes-on arrivals (edge_answer config from code reason request net)
  unfolding edge_answer
  edge_answer-goes arrivals config from code reason request net holds = stays arrivals _ (if-kept arrivals _ net _ holds (answered arrivals from _ net holds))

  begins_by-goes : (arrivals : List Arrival) (from : Place) (request : Request) (popped : Option Address) (choice : Choice) (net : Net S) → Keeps arrivals net
      → Goes-on arrivals (begins_by form setup from request popped choice net)
  unfolding begins_by
  begins_by-goes arrivals from request popped (choices.App host order region subscriber route) net holds = taken_at-goes arrivals from _ (messages.Request request) host net holds
  begins_by-goes arrivals from request popped (choices.Send routes) net holds = edge_answer-goes arrivals setup.config from 404 _ request net holds
  begins_by-goes arrivals from request popped choices.Onward net holds = edge_answer-goes arrivals setup.config from 404 _ request net holds
  begins_by-goes arrivals from request popped choices.NotFound net holds = edge_answer-goes arrivals setup.config from 404 _ request net holds

  initial_arrives-goes : (arrivals : List Arrival) (from : Place) (request : Request) (net : Net S) → Keeps arrivals net → Goes-on arrivals (initial_arrives form setup from request net)
  unfolding initial_arrives
  initial_arrives-goes arrivals from request net holds =
      if-on arrivals _ net _ (stays arrivals net holds)
      (begins_by-goes arrivals from (unrouted_initial setup.config request) (popped_route setup.config request) _ net holds)

  response_by-goes : (arrivals : List Arrival) (from : Place) (response : Response) (number : Option ℕ) (net : Net S) → Keeps arrivals net
      → Goes-on arrivals (response_by form setup from response number net)
  unfolding response_by
  response_by-goes arrivals from response None net holds = stays arrivals net holds
  response_by-goes arrivals from response (Some number) net holds = taken_at-goes arrivals from None _ number net holds

  arrived-goes : (arrivals : List Arrival) (from : Place) (message : Message) (net : Net S) → Keeps arrivals net → Goes-on arrivals (arrived form setup from message net)
  unfolding arrived
  arrived-goes arrivals from (messages.Request request) net holds =
      arrives-each (Goes-on arrivals) form setup from request net (λ number. taken_at-goes arrivals from None _ number net holds)
      (λ untagged. initial_arrives-goes arrivals from request net holds) (edge_answer-goes arrivals setup.config from 481 _ request net holds)
  arrived-goes arrivals from (messages.Response response) net holds = response_by-goes arrivals from response _ net holds

  bad_by-kept : (arrivals : List Arrival) (config : Config) (from : Place) (heads : Option Answerable) (net : Net S) → Keeps arrivals net → Keeps arrivals (bad_by config from heads net)
  unfolding bad_by
  bad_by-kept arrivals config from None net holds = holds
  bad_by-kept arrivals config from (Some heads) net holds = if-kept arrivals _ net _ holds (answered arrivals from _ net holds)

  -- ## A place is lost, and time passes

  told_at-kept : (arrivals : List Arrival) (config : Config) (client : Client) (reason : Bytes) (code : Option ℕ) (net : Net S) → Keeps arrivals net
      → Keeps arrivals (told_at config client reason code net)
  unfolding told_at incoming
  told_at-kept arrivals config client reason None net holds = holds
  told_at-kept arrivals config client reason (Some code) net holds = if-kept arrivals _ net _ holds (queue_for-holds form Lives kept arrivals client.app _ net refl holds)

  passes-kept : (arrivals : List Arrival) (config : Config) (item : ClientItem) (reason : Bytes) (net : Net S) (client : Client) → Keeps arrivals net → Keeps arrivals (passes config item reason net client)
  unfolding passes
  passes-kept arrivals config item reason net client holds =
      told_at-kept arrivals config client reason _ _ (passed-holds form Lives kept arrivals client.app client.branch (is_cancel_client client) item net holds)

  lost-all : (clients : List Client) (arrivals : List Arrival) (config : Config) (net : Net S) → Keeps arrivals net → Keeps arrivals (fold (passes config client_items.PlaceLost unavailable) net clients)
  lost-all [] arrivals config net holds = holds
  lost-all (client ∷ clients) arrivals config net holds =
      lost-all clients arrivals config (passes config client_items.PlaceLost unavailable net client) (passes-kept arrivals config client_items.PlaceLost unavailable net client holds)

  lost-kept : (arrivals : List Arrival) (config : Config) (place : Place) (net : Net S) → Keeps arrivals net → Keeps arrivals (lost config place net)
  unfolding lost
  lost-kept arrivals config place net holds = lost-all (clients_to place net) arrivals config net holds

  fires-kept : (arrivals : List Arrival) (config : Config) (now : ℕ) (net : Net S) (entry : DueEntry) (item : DueItem) → IsGoodItem IsQuiet item → Keeps arrivals net
      → Keeps arrivals (fires config now net entry item)
  unfolding fires mark_fired IsGoodItem IsQuiet
  fires-kept arrivals config now net entry (Of_session of event) none holds =
      queue_for-holds form Lives kept arrivals of event _ none
      (change-kept arrivals of.host (mark_fired entry) net
      (λ host good. record {
        sessions = all-first (LiveIn form Lives kept arrivals of.host) (is_live entry.app.serial)
            (λ live. record live { fired = live.fired ++ record { due = entry.due; timer = entry.timer } ∷ [] }) host.sessions (λ live found ok. ok) good.sessions;
        servers = good.servers;
      }) holds)
  fires-kept arrivals config now net entry (Of_client client) none holds = passes-kept arrivals config (client_items.MomentCame now) _ net client holds
  fires-kept arrivals config now net entry (Of_server server) none holds =
      change-kept arrivals server.app.host _ net (λ host good. pass_server-good form Lives kept server.app.host arrivals server.event (server_items.MomentCame now) host good) holds

  fire-all : (due : List Dated) (arrivals : List Arrival) (config : Config) (now : ℕ) (net : Net S) → AreGood IsQuiet due → Keeps arrivals net
      → Keeps arrivals (fold (λ n (d : Dated). fires config now n d.entry d.item) net due)
  unfolding AreGood
  fire-all [] arrivals config now net none holds = holds
  fire-all (d ∷ due) arrivals config now net none holds = fire-all due arrivals config now (fires config now net d.entry d.item) none.1 (fires-kept arrivals config now net d.entry d.item none.0 holds)

  ticked-kept : (arrivals : List Arrival) (config : Config) (now : ℕ) (net : Net S) → Keeps arrivals net → Keeps arrivals (ticked form config now net)
  unfolding ticked IsQuiet incoming
  ticked-kept arrivals config now net holds =
      fire-all (due_items form now net) arrivals config now (record net { moment = now }) (due-good IsQuiet refl (λ id. refl) (λ number due. refl) form now net)
      (record { below = holds.below; single = holds.single; come = holds.come; hosts = holds.hosts })

  -- ## Turns

  without_live-kept : (arrivals : List Arrival) (of : AppId) (net : Net S) → Keeps arrivals net → Keeps arrivals (without_live of net)
  unfolding without_live without_ended
  without_live-kept arrivals of net holds =
      change-kept arrivals of.host _ net
      (λ host good. record {
        sessions = all-removed (LiveIn form Lives kept arrivals of.host) (is_live of.serial) host.sessions good.sessions;
        servers = all-filter (ServerIn arrivals) _ host.servers good.servers;
      }) holds

  invalidated-kept : (arrivals : List Arrival) (of : AppId) (session : Session) (inbox : List Waiting) (net : Net S) → Keeps arrivals net → Keeps arrivals (invalidated setup of session inbox net)
  unfolding invalidated
  invalidated-kept arrivals of session inbox net holds = without_live-kept arrivals of _ (obeyed-holds form Lives kept _ arrivals setup of net holds)

  with_ready-kept : (arrivals : List Arrival) (of : AppId) (done : Outcome) (live : Option (Live S)) (net : Net S) → Keeps arrivals net → Keeps arrivals (with_ready of done live net)
  unfolding with_ready incoming
  with_ready-kept arrivals of done None net holds = holds
  with_ready-kept arrivals of done (Some live) net holds = if-kept arrivals _ _ net (queue_for-holds form Lives kept arrivals of queued.Ready net refl holds) holds

  closed_turn-kept : (arrivals : List Arrival) (of : AppId) (done : Outcome) (ends : Bool) (net : Net S) → Keeps arrivals net → Keeps arrivals (closed_turn setup of done ends net)
  unfolding closed_turn
  closed_turn-kept arrivals of done true net holds = invalidated-kept arrivals of done.session _ net holds
  closed_turn-kept arrivals of done false net holds = with_ready-kept arrivals of done _ net holds

  turned-in : (arrivals : List Arrival) (number now : ℕ) (turn : Turn) (done : Outcome) (live : Live S) → Noted arrivals (record { host = number; serial = live.serial }) turn.waiting
      → LiveIn form Lives kept arrivals number live → LiveIn form Lives kept arrivals number (turned_live form setup.config now turn done live)
  unfolding turned_live
  turned-in arrivals number now turn done live noted ok =
      let app : AppId = record { host = number; serial = live.serial } in
      (all-rest (Noted arrivals app) live.inbox ok.0, kept.turned arrivals app setup.config turn live.session noted ok.1)

  turned-kept : (arrivals : List Arrival) (of : AppId) (turn : Turn) (done : Outcome) (net : Net S) → Noted arrivals of turn.waiting → Keeps arrivals net → Keeps arrivals (turned form setup of turn done net)
  unfolding turned
  turned-kept arrivals of turn done net noted holds =
      closed_turn-kept arrivals of done done.ends _ (obeyed-holds form Lives kept done.orders arrivals setup of _
      (change-kept arrivals of.host (λ host. record host { sessions = change_first (is_live of.serial) (turned_live form setup.config net.moment turn done) host.sessions }) net
      (λ host good. record {
        sessions = all-first (LiveIn form Lives kept arrivals of.host) (is_live of.serial) (turned_live form setup.config net.moment turn done) host.sessions
            (λ live found ok. turned-in arrivals of.host net.moment turn done live
            (subst (λ (s : ℕ). Noted arrivals (record { host = of.host; serial = s }) turn.waiting) (sym (same-number live.serial of.serial (test-found (is_live of.serial) host.sessions live found))) noted) ok) good.sessions;
        servers = good.servers;
      }) holds))

  -- a live session's events are noted
  live-by : (arrivals : List Arrival) (of : AppId) (found : Option (Host S)) (net : Net S) (live : Live S) → host_at of.host net ≡ found → option_and_then (live_in of.serial) found ≡ Some live
      → Keeps arrivals net → All (Noted arrivals of) live.inbox × Lives arrivals of live.session
  live-by arrivals of None net live at is holds = cc
  live-by arrivals of (Some host) net live at is holds =
      subst (λ (s : ℕ). All (Noted arrivals (record { host = of.host; serial = s })) live.inbox × Lives arrivals (record { host = of.host; serial = s }) live.session)
      (same-number live.serial of.serial (test-found (is_live of.serial) host.sessions live is))
      (all-found (LiveIn form Lives kept arrivals of.host) (is_live of.serial) host.sessions live is (holds.hosts of.host host at).sessions)

  pub live-in : (arrivals : List Arrival) (of : AppId) (net : Net S) (live : Live S) → live_at of net ≡ Some live → Keeps arrivals net → All (Noted arrivals of) live.inbox × Lives arrivals of live.session
  live-in arrivals of net live is holds = live-by arrivals of (host_at of.host net) net live refl is holds

  turns_first-kept : (arrivals : List Arrival) (of : AppId) (live : Live S) (waiting : Option Waiting) (now : ℕ) (made : List CallRecord) (end : End) (net : Net S)
      → ((first : Waiting) → waiting ≡ Some first → Noted arrivals of first) → Keeps arrivals net → Keeps arrivals (turns_first form setup of live waiting now made end net)
  unfolding turns_first turn_of
  turns_first-kept arrivals of live None now made end net noted holds = holds
  turns_first-kept arrivals of live (Some waiting) now made end net noted holds = turned-kept arrivals of _ _ net (noted waiting refl) holds

  turns-kept : (arrivals : List Arrival) (of : AppId) (found : Option (Live S)) (now : ℕ) (made : List CallRecord) (end : End) (net : Net S) → live_at of net ≡ found → Keeps arrivals net
      → Keeps arrivals (turns form setup of found now made end net)
  unfolding turns
  turns-kept arrivals of None now made end net at holds = holds
  turns-kept arrivals of (Some live) now made end net at holds =
      turns_first-kept arrivals of live (slice_get live.inbox 0) now made end net (λ first is. all-at (Noted arrivals of) live.inbox 0 first is (live-in arrivals of net live at holds).0) holds

  withdrawn-kept : (arrivals : List Arrival) (of : AppId) (live : Option (Live S)) (net : Net S) → Keeps arrivals net → Keeps arrivals (withdrawn form setup of live net)
  unfolding withdrawn
  withdrawn-kept arrivals of None net holds = holds
  withdrawn-kept arrivals of (Some live) net holds = invalidated-kept arrivals of _ live.inbox net holds

  -- ## Each step

  stepped-goes : (arrivals : List Arrival) (step : Step) (net : Net S) → Keeps arrivals net → Goes-on arrivals (stepped form setup step net)
  unfolding stepped
  stepped-goes arrivals (steps.In from message) net holds = arrived-goes arrivals from message net holds
  stepped-goes arrivals (steps.Bad from bad) net holds = stays arrivals _ (bad_by-kept arrivals setup.config from bad.heads net holds)
  stepped-goes arrivals (steps.Lost place) net holds = stays arrivals _ (lost-kept arrivals setup.config place net holds)
  stepped-goes arrivals (steps.Tick now) net holds = stays arrivals _ (ticked-kept arrivals setup.config now net holds)
  stepped-goes arrivals (steps.Turn end of event now made) net holds = stays arrivals _ (turns-kept arrivals of _ now made end net refl holds)
  stepped-goes arrivals (steps.Withdraw of) net holds = stays arrivals _ (withdrawn-kept arrivals of _ net holds)

  pub step-goes : (arrivals : List Arrival) (step : Step) (net : Net S) → Keeps arrivals net → Goes-on arrivals (after_step form setup net step)
  unfolding after_step
  step-goes arrivals step net holds =
      goes-then form Lives kept arrivals (stepped form setup step (record net { sent = [] })) _
      (stepped-goes arrivals step (record net { sent = [] }) (record { below = holds.below; single = holds.single; come = holds.come; hosts = holds.hosts }))
      (λ middle held. delivered-goes form Lives kept middle setup _ held)
