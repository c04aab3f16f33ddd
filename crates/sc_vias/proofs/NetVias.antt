-- What a session gives to send, and what is delivered, leaves the requests of client transactions fit for their session and branch.
use Rattle.std.proofs.Common.{◌≡◌, ℕ, zero, suc, Bool, true, false, Option, None, Some, List, [], ◌∷◌, refl}
use Rattle.std.specs.Prelude.{◌==◌, cond, drop}
use Rattle.sc_value.specs.declared.ids.AppId.{AppId}
use Rattle.sc_value.specs.declared.ids.Place.{Place}
use Rattle.sc_value.specs.declared.message.Message.{Message}
use Rattle.sc_value.specs.declared.message.Request.{Request}
use Rattle.sc_value.specs.declared.message.Response.{Response}
use Rattle.sc_terms.specs.declared.settings.Config.{Config}
use Rattle.sc_parts.specs.declared.choice.Choice.{Choice}
use Rattle.sc_parts.specs.declared.choice.Choice.TheVariants as choices
use Rattle.sc_parts.specs.declared.setup.Setup.{Setup}
use Rattle.sc_parts.specs.declared.transactions.ClientItem.{ClientItem}
use Rattle.sc_parts.specs.declared.transactions.ClientItem.TheVariants as client_items
use Rattle.sc_state.specs.Hosts.{Host}
use Rattle.sc_state.specs.declared.host.Client.{Client}
use Rattle.sc_state.specs.declared.host.Peer.{Peer}
use Rattle.sc_state.specs.declared.host.Peer.TheVariants as peers
use Rattle.sc_state.specs.declared.host.Reply.{Reply}
use Rattle.sc_state.specs.declared.host.Server.{Server}
use Rattle.sc_state.specs.declared.host.Taken.{Taken}
use Rattle.sc_state.specs.declared.net.Entry.{Entry}
use Rattle.sc_state.specs.declared.net.Net.{Net}
use Rattle.sc_state.specs.declared.net.Note.{Note}
use Rattle.sc_state.specs.declared.orders.Order.{Order}
use Rattle.sc_state.specs.declared.orders.Order.TheVariants as orders
use Rattle.sc_state.specs.declared.queue.Queued.{Queued}
use Rattle.sc_tokens.specs.Bytes.{Bytes}
use Rattle.sc_hosts.specs.Messages.{cancel_of}
use Rattle.sc_hosts.specs.Nets.{host_at, change_host, with_message as put, put_reply, with_host_after as placed, queued_at, queue_for, tell_own, send_to, leave_for, leave, begin_by, client_at, send_named, send_later, acknowledge, send_cancel, cancel_by, cancel_for, respond_by, obey, after_orders as obeyed, is_busy, deliver_at, deliver_entry, deliver_first, weight}
use Rattle.sc_hosts.specs.Runs.{after_delivery as delivered}
use Rattle.sc_hosts.specs.Sessions.{Form}
use Rattle.sc_hosts.specs.Settle.{steps, settle}
use Rattle.sc_hosts.specs.Taking.{takes}
use Rattle.sc_hosts.specs.TakingResponses.{cancelling}
use Rattle.sc_hosts.specs.Transacting.{is_client, without_ended, pass_client, with_client}
use Rattle.sc_lasting.specs.Lasting.{All}
use Rattle.sc_lasting.proofs.Parts.{all-append, all-filter, all-found}
use Rattle.sc_once.proofs.ChangedHosts.{changed_hosts}
use Rattle.sc_vias.proofs.HostVias.{AreKinds, Good, pass_client-good, queue-good, takes-good}

module _ {S : Type 0} (form : Form S) (epoch : ℕ) (Named : AppId → S → Type 0) (Fits : AppId → ℕ → Request → Type 0) (kinds : AreKinds form epoch Named Fits) where
  -- the host of this number is so
  abbrev Right : ℕ → Host S → Type 0
  Right number host = Good form epoch Named Fits kinds number host

  -- the request of the client transaction is of its kind
  abbrev IsFit : Client → Type 0
  IsFit client = Fits client.app client.branch client.request

  -- so it is of each host, in a net of this epoch
  pub record Holds (net : Net S) : Type 0 where
    pub same : net.epoch ≡ epoch
    pub hosts : (number : ℕ) (host : Host S) → host_at number net ≡ Some host → Right number host

  pub if-holds : (b : Bool) (x y : Net S) → Holds x → Holds y → Holds (cond b x y)
  if-holds true x y p q = p
  if-holds false x y p q = q

  -- ## A host changes

  pub changes : (number : ℕ) (change : Host S → Host S) (net : Net S) → ((host : Host S) → host_at number net ≡ Some host → Right number host → Right number (change host))
      → Holds net → Holds (change_host number change net)
  changes number change net keeps holds = record {
    same = holds.same;
    hosts = λ n host is. changed_hosts Right number change net keeps holds.hosts n host (n == number) refl is;
  }

  -- ## Messages on their way

  pub put-holds : (sender : ℕ) (peer : Peer) (message : Message) (noted : Option Note) (net : Net S) → Holds net → Holds (put sender peer message noted net)
  unfolding put
  put-holds sender (peers.Outside place) message noted net holds = record { same = holds.same; hosts = holds.hosts }
  put-holds sender (peers.Inside host) message noted net holds = record { same = holds.same; hosts = holds.hosts }
  put-holds sender peers.Nowhere message noted net holds = holds

  put_reply-holds : (sender : ℕ) (reply : Option Reply) (net : Net S) → Holds net → Holds (put_reply sender reply net)
  unfolding put_reply
  put_reply-holds sender None net holds = holds
  put_reply-holds sender (Some reply) net holds = put-holds sender reply.peer reply.message None net holds

  counted : (count : ℕ) (net : Net S) → Holds net → Holds (record net { count = count })
  counted count net holds = record { same = holds.same; hosts = holds.hosts }

  pub placed-holds : (number : ℕ) (taken : Taken S) (net : Net S) → Right number taken.host → Holds net → Holds (placed number taken net)
  unfolding placed
  placed-holds number taken net good holds =
      put_reply-holds number taken.reply _ (counted taken.count (change_host number (λ host. taken.host) net) (changes number (λ host. taken.host) net (λ host at was. good) holds))

  queued_at-holds : (app : AppId) (event : Queued) (found : Option (Host S)) (net : Net S) → host_at app.host net ≡ found → Holds net
      → Holds (queued_at app event found net)
  unfolding queued_at
  queued_at-holds app event None net at holds = holds
  queued_at-holds app event (Some host) net at holds =
      placed-holds app.host _ net (queue-good form epoch Named Fits kinds app.host app.serial net.moment event net.count host (holds.hosts app.host host at)) holds

  pub queue_for-holds : (app : AppId) (event : Queued) (net : Net S) → Holds net → Holds (queue_for app event net)
  unfolding queue_for
  queue_for-holds app event net holds = queued_at-holds app event _ net refl holds

  -- ## What a session gives to send

  tell_own-holds : (config : Config) (app : AppId) (branch code : ℕ) (reason : Bytes) (request : Request) (net : Net S) → Holds net
      → Holds (tell_own config app branch code reason request net)
  unfolding tell_own
  tell_own-holds config app branch code reason request net holds = queue_for-holds app _ net holds

  with_client-holds : (number : ℕ) (client : Client) (net : Net S) → IsFit client → Holds net → Holds (change_host number (with_client client) net)
  with_client-holds number client net fits holds =
      changes number (with_client client) net (λ host at good. (good.0, all-append IsFit host.clients client good.1 fits)) holds

  pub passed-holds : (app : AppId) (branch : ℕ) (cancelling : Bool) (item : ClientItem) (net : Net S) → Holds net
      → Holds (change_host app.host (pass_client app branch cancelling item) net)
  passed-holds app branch cancelling item net holds =
      changes app.host (pass_client app branch cancelling item) net (λ host at good. pass_client-good form epoch Named Fits kinds app.host app branch cancelling item host good) holds

  send_to-holds : (app : AppId) (branch : ℕ) (peer : Peer) (noted : Option Note) (request : Request) (net : Net S) → Fits app branch request
      → Holds net → Holds (send_to app branch peer noted request net)
  unfolding send_to
  send_to-holds app branch peer noted request net fits holds = put-holds app.host peer _ noted _ (with_client-holds app.host _ net fits holds)

  leave_for-holds : (config : Config) (app : AppId) (branch : ℕ) (request : Request) (place : Option Place) (net : Net S) → Fits app branch request → Holds net
      → Holds (leave_for config app branch request place net)
  unfolding leave_for
  leave_for-holds config app branch request None net fits holds = tell_own-holds config app branch 503 _ request net holds
  leave_for-holds config app branch request (Some place) net fits holds = send_to-holds app branch (peers.Outside place) None request net fits holds

  leave-holds : (config : Config) (app : AppId) (branch : ℕ) (request : Request) (net : Net S) → Fits app branch request → Holds net
      → Holds (leave config app branch request net)
  unfolding leave
  leave-holds config app branch request net fits holds = leave_for-holds config app branch request _ net fits holds

  begin_by-holds : (config : Config) (app : AppId) (branch : ℕ) (request : Request) (choice : Choice) (net : Net S) → Fits app branch request → Holds net
      → Holds (begin_by config app branch request choice net)
  unfolding begin_by
  begin_by-holds config app branch request (choices.App host order region subscriber popped) net fits holds = send_to-holds app branch (peers.Inside host) _ request net fits holds
  begin_by-holds config app branch request (choices.Send routes) net fits holds = leave-holds config app branch _ net (kinds.routed app branch routes request fits) holds
  begin_by-holds config app branch request choices.Onward net fits holds = leave-holds config app branch request net fits holds
  begin_by-holds config app branch request choices.NotFound net fits holds = tell_own-holds config app branch 404 _ request net holds

  send_named-holds : (config : Config) (app : AppId) (branch : ℕ) (request : Request) (number : Option ℕ) (net : Net S) → Fits app branch request
      → Holds net → Holds (send_named config app branch request number net)
  unfolding send_named
  send_named-holds config app branch request None net fits holds = tell_own-holds config app branch 481 _ request net holds
  send_named-holds config app branch request (Some host) net fits holds = send_to-holds app branch (peers.Inside host) None request net fits holds

  send_later-holds : (config : Config) (app : AppId) (branch : ℕ) (request : Request) (net : Net S) → Fits app branch request → Holds net
      → Holds (send_later config app branch request net)
  unfolding send_later
  send_later-holds config app branch request net fits holds =
      if-holds _ _ _ (send_named-holds config app branch request _ net fits holds) (leave-holds config app branch request net fits holds)

  acknowledge-holds : (config : Config) (app : AppId) (request : Request) (net : Net S) → Holds net → Holds (acknowledge config app request net)
  unfolding acknowledge
  acknowledge-holds config app request net holds = put-holds app.host _ _ None net holds

  -- a CANCEL is of the session and branch of its INVITE
  send_cancel-holds : (app : AppId) (client : Client) (net : Net S) → IsFit client → Holds net → Holds (send_cancel app client net)
  unfolding send_cancel cancelling cancel_of
  send_cancel-holds app client net fits holds =
      put-holds app.host client.peer _ None _ (with_client-holds app.host _ net (kinds.kin_fits client.app client.branch _ _ client.request fits) holds)

  cancel_by-holds : (app : AppId) (branch : ℕ) (client : Client) (net : Net S) → IsFit client → Holds net → Holds (cancel_by app branch client net)
  unfolding cancel_by
  cancel_by-holds app branch client net fits holds =
      let asked = passed-holds app branch false (client_items.CancelAsked net.moment) net holds in
      if-holds _ _ _ (send_cancel-holds app client _ fits asked) asked

  cancel_for-holds : (app : AppId) (branch : ℕ) (at_once : Bool) (client : Option Client) (net : Net S) → ((c : Client) → client ≡ Some c → IsFit c) → Holds net
      → Holds (cancel_for app branch at_once client net)
  unfolding cancel_for
  cancel_for-holds app branch at_once None net fits holds = holds
  cancel_for-holds app branch at_once (Some client) net fits holds = if-holds _ _ net (cancel_by-holds app branch client net (fits client refl) holds) holds

  respond_by-holds : (number event : ℕ) (response : Response) (server : Option Server) (net : Net S) → Holds net
      → Holds (respond_by number event response server net)
  unfolding respond_by without_ended
  respond_by-holds number event response None net holds = holds
  respond_by-holds number event response (Some server) net holds =
      if-holds _ _ net (put-holds number server.peer _ None _ (changes number _ net (λ host at good. (good.0, all-filter IsFit _ host.clients good.1)) holds)) holds

  fits-at : (app : AppId) (branch : ℕ) (net : Net S) (found : Option (Host S)) → host_at app.host net ≡ found → Holds net → (c : Client) → client_at app branch found ≡ Some c
      → IsFit c
  unfolding client_at
  fits-at app branch net None at holds c is = cc
  fits-at app branch net (Some host) at holds c is = all-found IsFit (is_client app branch false) host.clients c is (holds.hosts app.host host at).1

  -- the request of an order that gets a client transaction is fit
  unfoldable pub OrderFits : AppId → Order → Type 0
  OrderFits app (orders.Begin branch directive region state request) = Fits app branch request
  OrderFits app (orders.Send branch request) = Fits app branch request
  OrderFits app order = Unit {0}

  obey-holds : (setup : Setup) (app : AppId) (net : Net S) (order : Order) → OrderFits app order → Holds net → Holds (obey setup app net order)
  unfolding obey OrderFits
  obey-holds setup app net (orders.Respond event response) fits holds = respond_by-holds app.host event response _ net holds
  obey-holds setup app net (orders.Begin branch directive region state request) fits holds = begin_by-holds setup.config app branch request _ net fits holds
  obey-holds setup app net (orders.Send branch request) fits holds = send_later-holds setup.config app branch request net fits holds
  obey-holds setup app net (orders.Acknowledge request) fits holds = acknowledge-holds setup.config app request net holds
  obey-holds setup app net (orders.Cancel branch) fits holds = cancel_for-holds app branch false _ net (fits-at app branch net _ refl holds) holds
  obey-holds setup app net (orders.CancelNow branch) fits holds = cancel_for-holds app branch true _ net (fits-at app branch net _ refl holds) holds

  -- what a session gives is sent
  pub obeyed-holds : (given : List Order) (setup : Setup) (app : AppId) (net : Net S) → All (OrderFits app) given → Holds net → Holds (obeyed setup app given net)
  unfolding obeyed All
  obeyed-holds [] setup app net fits holds = holds
  obeyed-holds (order ∷ given) setup app net fits holds = obeyed-holds given setup app (obey setup app net order) fits.1 (obey-holds setup app net order fits.0 holds)

  -- ## Deliveries

  deliver_at-holds : (setup : Setup) (entry : Entry) (found : Option (Host S)) (net : Net S) → host_at entry.receiver net ≡ found → Holds net
      → Holds (deliver_at form setup entry found net)
  unfolding deliver_at
  deliver_at-holds setup entry None net is holds = holds
  deliver_at-holds setup entry (Some host) net is holds =
      let took : Right entry.receiver (takes form setup.config (record { host = entry.receiver; epoch = net.epoch; from = peers.Inside entry.sender; now = net.moment; count = net.count }) entry.note entry.message host).host
      = rw (holds.same) (takes-good form epoch Named Fits kinds entry.receiver setup.config (peers.Inside entry.sender) net.moment entry.note entry.message net.count host (holds.hosts entry.receiver host is)) in
      placed-holds entry.receiver _ net took holds

  deliver_entry-holds : (setup : Setup) (found : Option Entry) (net : Net S) → Holds net → Holds (deliver_entry form setup found net)
  unfolding deliver_entry
  deliver_entry-holds setup None net holds = holds
  deliver_entry-holds setup (Some entry) net holds =
      deliver_at-holds setup entry _ (record net { wire = drop 1 net.wire }) refl (record { same = holds.same; hosts = holds.hosts })

  deliver_first-holds : (setup : Setup) (net : Net S) → Holds net → Holds (deliver_first form setup net)
  unfolding deliver_first
  deliver_first-holds setup net holds = deliver_entry-holds setup _ net holds

  steps-hold : (k : ℕ) (setup : Setup) (net : Net S) (b : Bool) → is_busy net ≡ b → Holds net → Holds (steps is_busy (deliver_first form setup) k net)
  unfolding steps
  steps-hold zero setup net b is holds = holds
  steps-hold (suc k) setup net true is holds = rw (is, steps) (steps-hold k setup (deliver_first form setup net) (is_busy (deliver_first form setup net)) refl (deliver_first-holds setup net holds))
  steps-hold (suc k) setup net false is holds = rw (is, steps) holds

  -- all is delivered
  pub delivered-holds : (setup : Setup) (net : Net S) → Holds net → Holds (delivered form setup net)
  unfolding delivered settle
  delivered-holds setup net holds = steps-hold (weight net) setup net (is_busy net) refl holds
