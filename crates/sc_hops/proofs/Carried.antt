-- Within a step all later requests of a kind that are on their way, or are queued, are those that it began with.
use Rattle.std.proofs.Common.{◌≡◌, ℕ, zero, suc, Bool, true, false, Option, None, Some, List, [], ◌∷◌, refl, subst}
use Rattle.std.specs.Prelude.{◌==◌, cond, drop, is_some, slice_get}
use Rattle.sc_value.specs.declared.ids.AppId.{AppId}
use Rattle.sc_value.specs.declared.ids.Place.{Place}
use Rattle.sc_value.specs.declared.message.Message.{Message}
use Rattle.sc_value.specs.declared.message.Message.TheVariants as messages
use Rattle.sc_value.specs.declared.message.Request.{Request}
use Rattle.sc_value.specs.declared.message.Response.{Response}
use Rattle.sc_value.specs.declared.parts.Address.{Address}
use Rattle.sc_value.specs.declared.parts.Uri.{Uri}
use Rattle.sc_tokens.specs.Names.{same_bytes}
use Rattle.sc_terms.specs.declared.settings.Config.{Config}
use Rattle.sc_parts.specs.declared.choice.Choice.{Choice}
use Rattle.sc_parts.specs.declared.choice.Choice.TheVariants as choices
use Rattle.sc_parts.specs.declared.setup.Setup.{Setup}
use Rattle.sc_parts.specs.declared.transactions.ClientItem.{ClientItem}
use Rattle.sc_parts.specs.declared.transactions.ClientItem.TheVariants as client_items
use Rattle.sc_state.specs.declared.host.Client.{Client}
use Rattle.sc_state.specs.Hosts.{Host}
use Rattle.sc_state.specs.declared.host.Live.{Live}
use Rattle.sc_state.specs.declared.host.Peer.{Peer}
use Rattle.sc_state.specs.declared.host.Peer.TheVariants as peers
use Rattle.sc_state.specs.declared.host.Reply.{Reply}
use Rattle.sc_state.specs.declared.host.Server.{Server}
use Rattle.sc_state.specs.declared.host.Taken.{Taken}
use Rattle.sc_state.specs.declared.net.Entry.{Entry}
use Rattle.sc_state.specs.declared.net.Net.{Net}
use Rattle.sc_state.specs.declared.net.Note.{Note}
use Rattle.sc_state.specs.declared.orders.Order.{Order}
use Rattle.sc_state.specs.declared.orders.Order.TheVariants as orders
use Rattle.sc_state.specs.declared.queue.Queued.{Queued}
use Rattle.sc_state.specs.declared.queue.Queued.TheVariants as queued
use Rattle.sc_tokens.specs.Bytes.{Bytes}
use Rattle.sc_model.specs.Dialogs.{tag_of}
use Rattle.sc_model.specs.OwnHosts.{is_own}
use Rattle.sc_model.specs.DialogRequests.{cancel}
use Rattle.sc_hosts.specs.Destinations.{next_uri}
use Rattle.sc_hosts.specs.Messages.{cancel_of}
use Rattle.sc_hosts.specs.Nets.{host_at, change_host, with_message as put, put_reply, with_host_after as placed, queued_at, queue_for, tell_own, send_to, leave_for, leave, begin_by, client_at, named_host, with_routes, send_named, send_later, peer_of_host, peer_of_place, acknowledge, send_cancel, cancel_by, cancel_for, respond_by, obey, after_orders as obeyed, is_busy, deliver_at, deliver_entry, deliver_first, weight}
use Rattle.sc_hosts.specs.Runs.{after_delivery as delivered}
use Rattle.sc_hosts.specs.Sessions.{Form}
use Rattle.sc_hosts.specs.Settle.{steps, settle}
use Rattle.sc_hosts.specs.Taking.{named_live, is_named_live, names, own_uri, without_own_route as unrouted, takes}
use Rattle.sc_hosts.specs.TakingResponses.{cancelling}
use Rattle.sc_hosts.specs.Transacting.{is_client, without_ended, pass_client, with_client, method_of}
use Rattle.sc_lasting.specs.Lasting.{All}
use Rattle.sc_lasting.proofs.Began.{test-found}
use Rattle.sc_lasting.proofs.Parts.{all-append, all-filter, all-found}
use Rattle.sc_once.proofs.ChangedHosts.{changed_hosts}
use Rattle.sc_hops.specs.Hops.{AreFit, AreKinds, IsFit, IsOnWay, IsOrdered, IsPlain, IsReplied}
use Rattle.sc_hops.proofs.Taken.{Ok, pass_client-good, queue-ok, take_request-ok, take_response-ok}

pub plain-fit : (Told Sent : Request → Type 0) (config : Config) (epoch : ℕ) (app : AppId) (event : Queued) → IsPlain event
    → IsFit Told Sent config epoch app event
unfolding IsPlain IsFit
plain-fit Told Sent config epoch app (queued.Request request) plain = absurd plain
plain-fit Told Sent config epoch app (queued.Initial region subscriber popped request) plain = tt
plain-fit Told Sent config epoch app (queued.Response branch response) plain = tt
plain-fit Told Sent config epoch app (queued.Cancelled event) plain = tt
plain-fit Told Sent config epoch app (queued.Timer id) plain = tt
plain-fit Told Sent config epoch app (queued.BranchTimer branch due) plain = tt
plain-fit Told Sent config epoch app queued.Expired plain = tt
plain-fit Told Sent config epoch app queued.Ready plain = tt

abbrev pub FitsIn : (Request → Type 0) → (Request → Type 0) → Setup → ℕ → AppId → Queued → Type 0
FitsIn Told Sent setup epoch app event = IsFit Told Sent setup.config epoch app event

response-way : (Way : Request → Type 0) (response : Response) → IsOnWay Way (messages.Response response)
unfolding IsOnWay
response-way Way response = tt

request-way : (Way : Request → Type 0) (request : Request) → Way request → IsOnWay Way (messages.Request request)
unfolding IsOnWay
request-way Way request way = way

first-of : (P : Entry → Type 0) (wire : List Entry) (entry : Entry) → slice_get wire 0 ≡ Some entry → All P wire → P entry
unfolding All
first-of P [] entry is all = cc
first-of P (e ∷ wire) entry is all = let same : e ≡ entry = cc in subst P same all.0

rest-of : (P : Entry → Type 0) (wire : List Entry) → All P wire → All P (drop 1 wire)
unfolding All
rest-of P [] all = tt
rest-of P (e ∷ wire) all = all.1

module _ {S : Type 0} (Way Sound Told Sent : Request → Type 0) (setup : Setup) (epoch base : ℕ) (kinds : AreKinds Way Sound Told Sent) where
  abbrev Good : ℕ → Host S → Type 0
  Good number host = AreFit {S = S} (FitsIn Told Sent setup epoch) base number host.sessions × All (λ (client : Client). Sound client.request) host.clients

  -- all that is queued with a number above the first, and all that is on its way
  pub record Holds (net : Net S) : Type 0 where
    pub same : net.epoch ≡ epoch
    pub hosts : (number : ℕ) (host : Host S) → host_at number net ≡ Some host → Good number host
    pub wire : All (λ (entry : Entry). IsOnWay Way entry.message) net.wire

  abbrev Took : ℕ → ℕ → Taken S → Type 0
  Took number now taken = Ok {S = S} Way Sound (FitsIn Told Sent setup epoch) (plain-fit Told Sent setup.config epoch) base number now taken

  if-holds : (b : Bool) (x y : Net S) → Holds x → Holds y → Holds (cond b x y)
  if-holds true x y p q = p
  if-holds false x y p q = q

  -- ## A host changes

  pub changes : (number : ℕ) (change : Host S → Host S) (net : Net S) → ((host : Host S) → host_at number net ≡ Some host → Good number host → Good number (change host))
      → Holds net → Holds (change_host number change net)
  changes number change net keeps holds = record {
    same = holds.same;
    hosts = λ n host is. changed_hosts Good number change net keeps holds.hosts n host (n == number) refl is;
    wire = holds.wire;
  }

  -- ## Messages on their way

  put-holds : (sender : ℕ) (peer : Peer) (message : Message) (noted : Option Note) (net : Net S) → IsOnWay Way message → Holds net
      → Holds (put sender peer message noted net)
  unfolding put
  put-holds sender (peers.Outside place) message noted net way holds = record { same = holds.same; hosts = holds.hosts; wire = holds.wire }
  put-holds sender (peers.Inside host) message noted net way holds =
      record { same = holds.same; hosts = holds.hosts; wire = all-append (λ (entry : Entry). IsOnWay Way entry.message) net.wire _ holds.wire way }
  put-holds sender peers.Nowhere message noted net way holds = holds

  outside-holds : (sender : ℕ) (place : Place) (message : Message) (noted : Option Note) (net : Net S) → Holds net
      → Holds (put sender (peers.Outside place) message noted net)
  unfolding put
  outside-holds sender place message noted net holds = record { same = holds.same; hosts = holds.hosts; wire = holds.wire }

  put_reply-holds : (sender : ℕ) (reply : Option Reply) (net : Net S) → IsReplied Way reply → Holds net
      → Holds (put_reply sender reply net)
  unfolding put_reply IsReplied
  put_reply-holds sender None net bare holds = holds
  put_reply-holds sender (Some reply) net bare holds = put-holds sender reply.peer reply.message None net bare holds

  counted : (count : ℕ) (net : Net S) → Holds net → Holds (record net { count = count })
  counted count net holds = record { same = holds.same; hosts = holds.hosts; wire = holds.wire }

  pub placed-holds : (number : ℕ) (taken : Taken S) (net : Net S) → Good number taken.host → IsReplied Way taken.reply → Holds net
      → Holds (placed number taken net)
  unfolding placed
  placed-holds number taken net good bare holds =
      put_reply-holds number taken.reply _ bare (counted taken.count (change_host number (λ host. taken.host) net) (changes number (λ host. taken.host) net (λ host at was. good) holds))

  queued_at-holds : (app : AppId) (event : Queued) → IsPlain event → (found : Option (Host S)) (net : Net S) → host_at app.host net ≡ found → Holds net
      → Holds (queued_at app event found net)
  unfolding queued_at
  queued_at-holds app event is None net at holds = holds
  queued_at-holds app event is (Some host) net at holds =
      let took : Took app.host net.moment _ = queue-ok Way Sound (FitsIn Told Sent setup epoch) (plain-fit Told Sent setup.config epoch) base app.host net.moment app.serial event net.count host ((plain-fit Told Sent setup.config epoch) (record { host = app.host; serial = app.serial }) event is) (holds.hosts app.host host at) in
      placed-holds app.host _ net took.good took.way holds

  pub queue_for-holds : (app : AppId) (event : Queued) → IsPlain event → (net : Net S) → Holds net → Holds (queue_for app event net)
  unfolding queue_for
  queue_for-holds app event is net holds = queued_at-holds app event is _ net refl holds

  -- ## What a session gives to send

  tell_own-holds : (config : Config) (app : AppId) (branch code : ℕ) (reason : Bytes) (request : Request) (net : Net S) → Holds net
      → Holds (tell_own config app branch code reason request net)
  unfolding tell_own IsPlain
  tell_own-holds config app branch code reason request net holds = queue_for-holds app _ tt net holds

  with_client-holds : (number : ℕ) (client : Client) (net : Net S) → Sound client.request → Holds net → Holds (change_host number (with_client client) net)
  with_client-holds number client net sound holds =
      changes number (with_client client) net (λ host at good. (good.0, all-append (λ (client : Client). Sound client.request) host.clients client good.1 sound)) holds

  passed-holds : (app : AppId) (branch : ℕ) (cancelling : Bool) (item : ClientItem) (net : Net S) → Holds net
      → Holds (change_host app.host (pass_client app branch cancelling item) net)
  passed-holds app branch cancelling item net holds =
      changes app.host (pass_client app branch cancelling item) net (λ host at good. pass_client-good Way Sound (FitsIn Told Sent setup epoch) (plain-fit Told Sent setup.config epoch) base app.host net.moment app branch cancelling item host good) holds

  send_to-holds : (app : AppId) (branch : ℕ) (peer : Peer) (noted : Option Note) (request : Request) (net : Net S) → Way request
      → Holds net → Holds (send_to app branch peer noted request net)
  unfolding send_to
  send_to-holds app branch peer noted request net way holds = put-holds app.host peer _ noted _ (request-way Way request way) (with_client-holds app.host _ net (kinds.way_sound request way) holds)

  leave_for-holds : (config : Config) (app : AppId) (branch : ℕ) (request : Request) (place : Option Place) (net : Net S) → Sound request → Holds net
      → Holds (leave_for config app branch request place net)
  unfolding leave_for send_to
  leave_for-holds config app branch request None net sound holds = tell_own-holds config app branch 503 _ request net holds
  leave_for-holds config app branch request (Some place) net sound holds = outside-holds app.host place _ None _ (with_client-holds app.host _ net sound holds)

  leave-holds : (config : Config) (app : AppId) (branch : ℕ) (request : Request) (net : Net S) → Sound request → Holds net
      → Holds (leave config app branch request net)
  unfolding leave
  leave-holds config app branch request net sound holds = leave_for-holds config app branch request _ net sound holds

  begin_by-holds : (config : Config) (app : AppId) (branch : ℕ) (request : Request) (choice : Choice) (net : Net S) → Way request → ((routes : List Address) → Sound (with_routes routes request))
      → Holds net → Holds (begin_by config app branch request choice net)
  unfolding begin_by
  begin_by-holds config app branch request (choices.App host order region subscriber popped) net way routed holds = send_to-holds app branch (peers.Inside host) _ request net way holds
  begin_by-holds config app branch request (choices.Send routes) net way routed holds = leave-holds config app branch _ net (routed routes) holds
  begin_by-holds config app branch request choices.Onward net way routed holds = leave-holds config app branch request net (kinds.way_sound request way) holds
  begin_by-holds config app branch request choices.NotFound net way routed holds = tell_own-holds config app branch 404 _ request net holds

  send_named-holds : (config : Config) (app : AppId) (branch : ℕ) (request : Request) (number : Option ℕ) (net : Net S) → Way request
      → Holds net → Holds (send_named config app branch request number net)
  unfolding send_named
  send_named-holds config app branch request None net way holds = tell_own-holds config app branch 481 _ request net holds
  send_named-holds config app branch request (Some host) net way holds = send_to-holds app branch (peers.Inside host) None request net way holds

  own-by : (b : Bool) (x y : Net S) (own : Bool) → own ≡ b → (own ≡ true → Holds x) → Holds y → Holds (cond b x y)
  own-by true x y own is p q = p is
  own-by false x y own is p q = q

  send_later-holds : (config : Config) (app : AppId) (branch : ℕ) (request : Request) (net : Net S) → Sound request
      → (is_own config (next_uri request) ≡ true → Way request) → Holds net
      → Holds (send_later config app branch request net)
  unfolding send_later
  send_later-holds config app branch request net sound way holds =
      own-by (is_own config (next_uri request)) _ _ (is_own config (next_uri request)) refl (λ own. send_named-holds config app branch request _ net (way own) holds) (leave-holds config app branch request net sound holds)

  to-place : (sender : ℕ) (place : Option Place) (message : Message) (net : Net S) → Holds net
      → Holds (put sender (peer_of_place place) message None net)
  unfolding peer_of_place put
  to-place sender None message net holds = holds
  to-place sender (Some place) message net holds = outside-holds sender place message None net holds

  acknowledged-by : (b : Bool) (sender : ℕ) (number : Option ℕ) (place : Option Place) (message : Message) (net : Net S) (own : Bool) → own ≡ b
      → (own ≡ true → IsOnWay Way message) → Holds net
      → Holds (put sender (cond b (peer_of_host number) (peer_of_place place)) message None net)
  acknowledged-by true sender number place message net own is way holds = put-holds sender (peer_of_host number) message None net (way is) holds
  acknowledged-by false sender number place message net own is way holds = to-place sender place message net holds

  acknowledge-holds : (config : Config) (app : AppId) (request : Request) (net : Net S)
      → (is_own config (next_uri request) ≡ true → Way request) → Holds net
      → Holds (acknowledge config app request net)
  unfolding acknowledge
  acknowledge-holds config app request net way holds =
      acknowledged-by (is_own config (next_uri request)) app.host (named_host (next_uri request) net) _ (messages.Request request) net (is_own config (next_uri request)) refl (λ own. request-way Way request (way own)) holds

  send_cancel-holds : (app : AppId) (client : Client) (net : Net S) → Sound client.request → Holds net → Holds (send_cancel app client net)
  unfolding send_cancel cancelling cancel_of
  send_cancel-holds app client net sound holds =
      put-holds app.host client.peer _ None _ (request-way Way _ (kinds.kin_way _ _ client.request sound)) (with_client-holds app.host _ net (kinds.kin_sound _ _ client.request sound) holds)

  cancel_by-holds : (app : AppId) (branch : ℕ) (client : Client) (net : Net S) → Sound client.request → Holds net → Holds (cancel_by app branch client net)
  unfolding cancel_by
  cancel_by-holds app branch client net sound holds =
      let asked = passed-holds app branch false (client_items.CancelAsked net.moment) net holds in
      if-holds _ _ _ (send_cancel-holds app client _ sound asked) asked

  cancel_for-holds : (app : AppId) (branch : ℕ) (at_once : Bool) (client : Option Client) (net : Net S) → ((c : Client) → client ≡ Some c → Sound c.request) → Holds net
      → Holds (cancel_for app branch at_once client net)
  unfolding cancel_for
  cancel_for-holds app branch at_once None net sound holds = holds
  cancel_for-holds app branch at_once (Some client) net sound holds = if-holds _ _ net (cancel_by-holds app branch client net (sound client refl) holds) holds

  respond_by-holds : (number event : ℕ) (response : Response) (server : Option Server) (net : Net S) → Holds net
      → Holds (respond_by number event response server net)
  unfolding respond_by without_ended
  respond_by-holds number event response None net holds = holds
  respond_by-holds number event response (Some server) net holds =
      if-holds _ _ net (put-holds number server.peer _ None _ (response-way Way response) (changes number _ net (λ host at good. (good.0, all-filter (λ (client : Client). Sound client.request) _ host.clients good.1)) holds)) holds

  sound-at : (app : AppId) (branch : ℕ) (net : Net S) (found : Option (Host S)) → host_at app.host net ≡ found → Holds net → (c : Client) → client_at app branch found ≡ Some c → Sound c.request
  unfolding client_at
  sound-at app branch net None at holds c is = cc
  sound-at app branch net (Some host) at holds c is = all-found (λ (client : Client). Sound client.request) (is_client app branch false) host.clients c is (holds.hosts app.host host at).1

  obey-holds : (app : AppId) (net : Net S) (order : Order) → IsOrdered setup.config Way Sound order → Holds net → Holds (obey setup app net order)
  unfolding obey IsOrdered
  obey-holds app net (orders.Respond event response) ok holds = respond_by-holds app.host event response _ net holds
  obey-holds app net (orders.Begin branch directive region state request) ok holds = begin_by-holds setup.config app branch request _ net ok.0 ok.1 holds
  obey-holds app net (orders.Send branch request) ok holds = send_later-holds setup.config app branch request net ok.0 ok.1 holds
  obey-holds app net (orders.Acknowledge request) ok holds = acknowledge-holds setup.config app request net ok holds
  obey-holds app net (orders.Cancel branch) ok holds = cancel_for-holds app branch false _ net (sound-at app branch net _ refl holds) holds
  obey-holds app net (orders.CancelNow branch) ok holds = cancel_for-holds app branch true _ net (sound-at app branch net _ refl holds) holds

  -- what a session gives is sent
  pub obeyed-holds : (given : List Order) (app : AppId) (net : Net S) → All (IsOrdered setup.config Way Sound) given → Holds net
      → Holds (obeyed setup app given net)
  unfolding obeyed All
  obeyed-holds [] app net ok holds = holds
  obeyed-holds (order ∷ given) app net ok holds = obeyed-holds given app (obey setup app net order) ok.1 (obey-holds app net order ok.0 holds)

  -- ## Deliveries

  named-by : (number : ℕ) (uri : Uri) (host : Host S) (live : Live S) → named_live epoch number uri host ≡ Some live
      → names epoch (record { host = number; serial = live.serial }) uri ≡ true
  unfolding named_live is_named_live
  named-by number uri host live is = test-found (λ (live : Live S). names epoch (record { host = number; serial = live.serial }) uri) host.sessions live is

  -- a request that is on its way is right for the session to which it comes
  comes : (request : Request) → Way request → (number : ℕ) (host : Host S) → same_bytes (method_of request) cancel ≡ false → is_some (tag_of request.head.to) ≡ true
      → (uri : Uri) → own_uri setup.config request ≡ Some uri → (live : Live S) → named_live epoch number uri host ≡ Some live
      → (FitsIn Told Sent setup epoch) (record { host = number; serial = live.serial }) (queued.Request (unrouted setup.config request))
  unfolding IsFit
  comes request way number host no_cancel tagged uri by live is =
      λ told.
      record { sent = request; is = kinds.sent setup.config request way tagged told; popped = refl; uri = uri; by = by; named = named-by number uri host live is; tagged = tagged; no_cancel = no_cancel }

  takes-ok : (form : Form S) (from : Peer) (number now : ℕ) (noted : Option Note) (message : Message) (count : ℕ) (host : Host S) → IsOnWay Way message
      → Good number host → Took number now (takes form setup.config (record { host = number; epoch = epoch; from = from; now = now; count = count }) noted message host)
  unfolding takes IsOnWay
  takes-ok form from number now noted (messages.Request request) count host way good =
      take_request-ok Way Sound (FitsIn Told Sent setup epoch) (plain-fit Told Sent setup.config epoch) base number now form setup.config epoch from noted request count host (λ no_cancel tagged uri by live is. comes request way number host no_cancel tagged uri by live is) good
  takes-ok form from number now noted (messages.Response response) count host way good =
      take_response-ok Way Sound (FitsIn Told Sent setup epoch) (plain-fit Told Sent setup.config epoch) base number now kinds.kin_way kinds.kin_sound setup.config epoch from response count host good

  deliver_at-holds : (form : Form S) (entry : Entry) (found : Option (Host S)) (net : Net S) → host_at entry.receiver net ≡ found → IsOnWay Way entry.message
      → Holds net → Holds (deliver_at form setup entry found net)
  unfolding deliver_at
  deliver_at-holds form entry None net is way holds = holds
  deliver_at-holds form entry (Some host) net is way holds =
      let took : Took entry.receiver net.moment (takes form setup.config (record { host = entry.receiver; epoch = net.epoch; from = peers.Inside entry.sender; now = net.moment; count = net.count }) entry.note entry.message host)
      = rw (holds.same) (takes-ok form (peers.Inside entry.sender) entry.receiver net.moment entry.note entry.message net.count host way (holds.hosts entry.receiver host is)) in
      placed-holds entry.receiver _ net took.good took.way holds

  deliver_entry-holds : (form : Form S) (found : Option Entry) (net : Net S) → slice_get net.wire 0 ≡ found → Holds net
      → Holds (deliver_entry form setup found net)
  unfolding deliver_entry
  deliver_entry-holds form None net is holds = holds
  deliver_entry-holds form (Some entry) net is holds =
      deliver_at-holds form entry _ (record net { wire = drop 1 net.wire }) refl (first-of (λ (e : Entry). IsOnWay Way e.message) net.wire entry is holds.wire)
      (record { same = holds.same; hosts = holds.hosts; wire = rest-of (λ (e : Entry). IsOnWay Way e.message) net.wire holds.wire })

  deliver_first-holds : (form : Form S) (net : Net S) → Holds net → Holds (deliver_first form setup net)
  unfolding deliver_first
  deliver_first-holds form net holds = deliver_entry-holds form _ net refl holds

  steps-hold : (k : ℕ) (form : Form S) (net : Net S) (b : Bool) → is_busy net ≡ b → Holds net → Holds (steps is_busy (deliver_first form setup) k net)
  unfolding steps
  steps-hold zero form net b is holds = holds
  steps-hold (suc k) form net true is holds = rw (is, steps) (steps-hold k form (deliver_first form setup net) (is_busy (deliver_first form setup net)) refl (deliver_first-holds form net holds))
  steps-hold (suc k) form net false is holds = rw (is, steps) holds

  -- all is delivered
  pub delivered-holds : (form : Form S) (net : Net S) → Holds net → Holds (delivered form setup net)
  unfolding delivered settle
  delivered-holds form net holds = steps-hold (weight net) form net (is_busy net) refl holds
