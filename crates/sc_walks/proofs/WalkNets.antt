-- What a session gives to send, and what is delivered, keeps each relation of nets with the laws.
use Rattle.std.proofs.Common.{◌≡◌, ℕ, zero, suc, Bool, true, false, Option, None, Some, List, [], ◌∷◌, refl, ap}
use Rattle.std.specs.Prelude.{cond, slice_get}
use Rattle.std.specs.List.{fold}
use Rattle.sc_value.specs.Lists.{change_nth}
use Rattle.sc_value.specs.declared.ids.AppId.{AppId}
use Rattle.sc_value.specs.declared.ids.Place.{Place}
use Rattle.sc_value.specs.declared.message.Message.{Message}
use Rattle.sc_value.specs.declared.message.Request.{Request}
use Rattle.sc_value.specs.declared.message.Response.{Response}
use Rattle.sc_terms.specs.declared.settings.Config.{Config}
use Rattle.sc_parts.specs.declared.choice.Choice.{Choice}
use Rattle.sc_parts.specs.declared.choice.Choice.TheVariants as choices
use Rattle.sc_parts.specs.declared.setup.Setup.{Setup}
use Rattle.sc_parts.specs.declared.transactions.ClientItem.{ClientItem}
use Rattle.sc_parts.specs.declared.transactions.ClientItem.TheVariants as client_items
use Rattle.sc_state.specs.declared.host.Client.{Client}
use Rattle.sc_state.specs.Hosts.{Host}
use Rattle.sc_state.specs.declared.host.Peer.{Peer}
use Rattle.sc_state.specs.declared.host.Peer.TheVariants as peers
use Rattle.sc_state.specs.declared.host.Reply.{Reply}
use Rattle.sc_state.specs.declared.host.Server.{Server}
use Rattle.sc_state.specs.declared.host.Taken.{Taken}
use Rattle.sc_state.specs.declared.net.Entry.{Entry}
use Rattle.sc_state.specs.declared.net.Net.{Net}
use Rattle.sc_state.specs.declared.net.Note.{Note}
use Rattle.sc_state.specs.declared.orders.Order.{Order}
use Rattle.sc_state.specs.declared.orders.Order.TheVariants as orders
use Rattle.sc_state.specs.declared.queue.Queued.{Queued}
use Rattle.sc_tokens.specs.Bytes.{Bytes}
use Rattle.sc_hosts.specs.Nets.{host_at, change_host, with_message as put, put_reply, with_host_after as placed, queued_at, queue_for, tell_own, send_to, leave_for, leave, begin_by, send_named, send_later, acknowledge, send_cancel, cancel_by, cancel_for, respond_by, obey, after_orders as obeyed, is_busy, deliver_at, deliver_entry, deliver_first, weight}
use Rattle.sc_hosts.specs.Runs.{after_delivery as delivered}
use Rattle.sc_hosts.specs.Sessions.{Form}
use Rattle.sc_hosts.specs.Settle.{steps, settle}
use Rattle.sc_hosts.specs.Transacting.{without_ended, pass_client, with_client}
use Rattle.sc_walks.proofs.WalkHosts.{takes-walks, pass_client-walks}
use Rattle.sc_walks.specs.Walks.{HostLaws, IsLate, NetLaws}

-- a change of the item that stands there
changed-at : {A : Type 0} (xs : List A) (place : ℕ) (change : A → A) (x : A) → slice_get xs place ≡ Some x → change_nth place change xs ≡ change_nth place (λ _. change x) xs
unfolding change_nth
changed-at [] place change x is = refl
changed-at (y ∷ xs) zero change x is = ap (λ z. z ∷ xs) (ap change (cc))
changed-at (y ∷ xs) (suc place) change x is = ap (λ ys. y ∷ ys) (changed-at xs place change x is)

kept-at : {A : Type 0} (xs : List A) (place : ℕ) (change : A → A) → slice_get xs place ≡ None → change_nth place change xs ≡ xs
unfolding change_nth
kept-at [] place change is = refl
kept-at (y ∷ xs) zero change is = cc
kept-at (y ∷ xs) (suc place) change is = ap (λ ys. y ∷ ys) (kept-at xs place change is)

module _ {S : Type 0} {Begins : Form S → Type 0} (H : ℕ → ℕ → ℕ → Host S → ℕ → Host S → Type 0) (P : Net S → Net S → Type 0)
    (hosts : (number now : ℕ) → HostLaws Begins number now (H number now)) (law : NetLaws H P) where
  -- either branch has it
  pub if-walks : (b : Bool) (net x y : Net S) → P net x → P net y → P net (cond b x y)
  if-walks true net x y p q = p
  if-walks false net x y p q = q

  -- what each turn of a fold keeps
  pub fold-walks : {A : Type 0} (given : List A) (act : Net S → A → Net S) → ((net : Net S) (a : A) → P net (act net a)) → (net : Net S) → P net (fold act net given)
  fold-walks [] act keeps net = law.same net
  fold-walks (a ∷ given) act keeps net = law.after _ _ _ (keeps net a) (fold-walks given act keeps (act net a))

  changed-walks : (number : ℕ) (change : Host S → Host S) (net : Net S) (found : Option (Host S)) → host_at number net ≡ found
      → ((host : Host S) → H number net.moment net.count host net.count (change host)) → P net (change_host number change net)
  changed-walks number change net None is keeps = rw (kept-at net.hosts number change is) (law.same net)
  changed-walks number change net (Some host) is keeps = rw (changed-at net.hosts number change host is) (law.places number net.count host (change host) net is (keeps host))

  -- a host is changed, and no event is counted
  pub change_host-walks : (number : ℕ) (change : Host S → Host S) (net : Net S) → ((host : Host S) → H number net.moment net.count host net.count (change host)) → P net (change_host number change net)
  change_host-walks number change net keeps = changed-walks number change net (host_at number net) refl keeps

  -- ## Messages on their way

  pub put-walks : (sender : ℕ) (peer : Peer) (message : Message) (noted : Option Note) (net : Net S) → P net (put sender peer message noted net)
  unfolding put
  put-walks sender (peers.Outside place) message noted net = law.posts net net.wire _
  put-walks sender (peers.Inside host) message noted net = law.posts net _ net.sent
  put-walks sender peers.Nowhere message noted net = law.same net

  put_reply-walks : (sender : ℕ) (reply : Option Reply) (net : Net S) → P net (put_reply sender reply net)
  unfolding put_reply
  put_reply-walks sender None net = law.same net
  put_reply-walks sender (Some reply) net = put-walks sender reply.peer reply.message None net

  pub placed-walks : (number : ℕ) (taken : Taken S) (host : Host S) (net : Net S) → host_at number net ≡ Some host → H number net.moment net.count host taken.count taken.host
      → P net (placed number taken net)
  unfolding placed
  placed-walks number taken host net is took = law.after _ _ _ (law.places number taken.count host taken.host net is took) (put_reply-walks number taken.reply _)

  queued_at-walks : (app : AppId) (event : Queued) → IsLate event → (found : Option (Host S)) (net : Net S) → host_at app.host net ≡ found → P net (queued_at app event found net)
  unfolding queued_at
  queued_at-walks app event late None net is = law.same net
  queued_at-walks app event late (Some host) net is = placed-walks app.host _ host net is ((hosts app.host net.moment).queues app.serial event late net.count host)

  pub queue_for-walks : (app : AppId) (event : Queued) → IsLate event → (net : Net S) → P net (queue_for app event net)
  unfolding queue_for
  queue_for-walks app event late net = queued_at-walks app event late _ net refl

  -- ## What a session gives to send

  tell_own-walks : (config : Config) (app : AppId) (branch code : ℕ) (reason : Bytes) (request : Request) (net : Net S) → P net (tell_own config app branch code reason request net)
  unfolding tell_own IsLate
  tell_own-walks config app branch code reason request net = queue_for-walks app _ tt net

  with_client-walks : (number : ℕ) (client : Client) (net : Net S) → P net (change_host number (with_client client) net)
  with_client-walks number client net = change_host-walks number (with_client client) net (λ host. (hosts number net.moment).passes net.count host _ host.servers)

  pub passed-walks : (app : AppId) (branch : ℕ) (cancelling : Bool) (item : ClientItem) (net : Net S) → P net (change_host app.host (pass_client app branch cancelling item) net)
  passed-walks app branch cancelling item net =
      change_host-walks app.host _ net (λ host. pass_client-walks app.host net.moment (H app.host net.moment) (hosts app.host net.moment) app branch cancelling item net.count host)

  send_to-walks : (app : AppId) (branch : ℕ) (peer : Peer) (noted : Option Note) (request : Request) (net : Net S) → P net (send_to app branch peer noted request net)
  unfolding send_to
  send_to-walks app branch peer noted request net = law.after _ _ _ (with_client-walks app.host _ net) (put-walks app.host peer _ noted _)

  leave_for-walks : (config : Config) (app : AppId) (branch : ℕ) (request : Request) (place : Option Place) (net : Net S) → P net (leave_for config app branch request place net)
  unfolding leave_for
  leave_for-walks config app branch request None net = tell_own-walks config app branch 503 _ request net
  leave_for-walks config app branch request (Some place) net = send_to-walks app branch (peers.Outside place) None request net

  leave-walks : (config : Config) (app : AppId) (branch : ℕ) (request : Request) (net : Net S) → P net (leave config app branch request net)
  unfolding leave
  leave-walks config app branch request net = leave_for-walks config app branch request _ net

  begin_by-walks : (config : Config) (app : AppId) (branch : ℕ) (request : Request) (choice : Choice) (net : Net S) → P net (begin_by config app branch request choice net)
  unfolding begin_by
  begin_by-walks config app branch request (choices.App host order region subscriber popped) net = send_to-walks app branch (peers.Inside host) _ request net
  begin_by-walks config app branch request (choices.Send routes) net = leave-walks config app branch _ net
  begin_by-walks config app branch request choices.Onward net = leave-walks config app branch request net
  begin_by-walks config app branch request choices.NotFound net = tell_own-walks config app branch 404 _ request net

  send_named-walks : (config : Config) (app : AppId) (branch : ℕ) (request : Request) (number : Option ℕ) (net : Net S) → P net (send_named config app branch request number net)
  unfolding send_named
  send_named-walks config app branch request None net = tell_own-walks config app branch 481 _ request net
  send_named-walks config app branch request (Some host) net = send_to-walks app branch (peers.Inside host) None request net

  send_later-walks : (config : Config) (app : AppId) (branch : ℕ) (request : Request) (net : Net S) → P net (send_later config app branch request net)
  unfolding send_later
  send_later-walks config app branch request net = if-walks _ net _ _ (send_named-walks config app branch request _ net) (leave-walks config app branch request net)

  acknowledge-walks : (config : Config) (app : AppId) (request : Request) (net : Net S) → P net (acknowledge config app request net)
  unfolding acknowledge
  acknowledge-walks config app request net = put-walks app.host _ _ None net

  send_cancel-walks : (app : AppId) (client : Client) (net : Net S) → P net (send_cancel app client net)
  unfolding send_cancel
  send_cancel-walks app client net = law.after _ _ _ (with_client-walks app.host _ net) (put-walks app.host client.peer _ None _)

  cancel_by-walks : (app : AppId) (branch : ℕ) (client : Client) (net : Net S) → P net (cancel_by app branch client net)
  unfolding cancel_by
  cancel_by-walks app branch client net =
      let asked = passed-walks app branch false (client_items.CancelAsked net.moment) net in
      if-walks _ net _ _ (law.after _ _ _ asked (send_cancel-walks app client _)) asked

  cancel_for-walks : (app : AppId) (branch : ℕ) (at_once : Bool) (client : Option Client) (net : Net S) → P net (cancel_for app branch at_once client net)
  unfolding cancel_for
  cancel_for-walks app branch at_once None net = law.same net
  cancel_for-walks app branch at_once (Some client) net = if-walks _ net _ net (cancel_by-walks app branch client net) (law.same net)

  respond_by-walks : (number event : ℕ) (response : Response) (server : Option Server) (net : Net S) → P net (respond_by number event response server net)
  unfolding respond_by without_ended
  respond_by-walks number event response None net = law.same net
  respond_by-walks number event response (Some server) net =
      if-walks _ net _ net (law.after _ _ _ (change_host-walks number _ net (λ host. (hosts number net.moment).passes net.count host _ _)) (put-walks number server.peer _ None _)) (law.same net)

  pub obey-walks : (setup : Setup) (app : AppId) (net : Net S) (order : Order) → P net (obey setup app net order)
  unfolding obey
  obey-walks setup app net (orders.Respond event response) = respond_by-walks app.host event response _ net
  obey-walks setup app net (orders.Begin branch directive region state request) = begin_by-walks setup.config app branch request _ net
  obey-walks setup app net (orders.Send branch request) = send_later-walks setup.config app branch request net
  obey-walks setup app net (orders.Acknowledge request) = acknowledge-walks setup.config app request net
  obey-walks setup app net (orders.Cancel branch) = cancel_for-walks app branch false _ net
  obey-walks setup app net (orders.CancelNow branch) = cancel_for-walks app branch true _ net

  pub obeyed-walks : (setup : Setup) (app : AppId) (given : List Order) (net : Net S) → P net (obeyed setup app given net)
  unfolding obeyed
  obeyed-walks setup app given net = fold-walks given (obey setup app) (obey-walks setup app) net

  -- ## Deliveries

  deliver_at-walks : (form : Form S) (good : Begins form) (setup : Setup) (entry : Entry) (found : Option (Host S)) (net : Net S) → host_at entry.receiver net ≡ found → P net (deliver_at form setup entry found net)
  unfolding deliver_at
  deliver_at-walks form good setup entry None net is = law.same net
  deliver_at-walks form good setup entry (Some host) net is =
      placed-walks entry.receiver _ host net is
      (takes-walks entry.receiver net.moment (H entry.receiver net.moment) (hosts entry.receiver net.moment) form good setup.config net.epoch (peers.Inside entry.sender) entry.note entry.message net.count host)

  deliver_entry-walks : (form : Form S) (good : Begins form) (setup : Setup) (entry : Option Entry) (net : Net S) → P net (deliver_entry form setup entry net)
  unfolding deliver_entry
  deliver_entry-walks form good setup None net = law.same net
  deliver_entry-walks form good setup (Some entry) net = law.after _ _ _ (law.posts net _ net.sent) (deliver_at-walks form good setup entry _ _ refl)

  pub deliver_first-walks : (form : Form S) (good : Begins form) (setup : Setup) (net : Net S) → P net (deliver_first form setup net)
  unfolding deliver_first
  deliver_first-walks form good setup net = deliver_entry-walks form good setup _ net

  steps-walk : (k : ℕ) (busy : Net S → Bool) (step : Net S → Net S) → ((net : Net S) → P net (step net)) → (net : Net S) (b : Bool) → busy net ≡ b → P net (steps busy step k net)
  unfolding steps
  steps-walk zero busy step keeps net b is = law.same net
  steps-walk (suc k) busy step keeps net true is = rw (is, steps) (law.after _ _ _ (keeps net) (steps-walk k busy step keeps (step net) (busy (step net)) refl))
  steps-walk (suc k) busy step keeps net false is = rw (is, steps) (law.same net)

  pub delivered-walks : (form : Form S) (good : Begins form) (setup : Setup) (net : Net S) → P net (delivered form setup net)
  unfolding delivered settle
  delivered-walks form good setup net = steps-walk (weight net) is_busy (deliver_first form setup) (deliver_first-walks form good setup) net (is_busy net) refl
