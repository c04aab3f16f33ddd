-- What a session gives to send, and what is delivered, keeps the keys of all transactions apart.
use Rattle.std.proofs.Common.{◌≡◌, ◌≤◌, ◌<◌, ℕ, ◌+◌, Bool, true, false, Option, None, Some, List, [], ◌∷◌, refl, sym, subst, ◌∙◌, arith}
use Rattle.std.specs.Prelude.{◌==◌, cond, option_map, slice_get}
use Rattle.std.specs.List.{find}
use Rattle.std.proofs.lemmas.Bool.Decides.{nat_tests}
use Rattle.sc_value.specs.Lists.{change_first}
use Rattle.sc_value.proofs.ListFacts.{change_nth-change_nth, slice_get-change_nth}
use Rattle.sc_value.specs.declared.ids.AppId.{AppId}
use Rattle.sc_value.specs.declared.ids.Place.{Place}
use Rattle.sc_value.specs.declared.message.Message.{Message}
use Rattle.sc_value.specs.declared.message.Message.TheVariants as messages
use Rattle.sc_value.specs.declared.message.Request.{Request}
use Rattle.sc_value.specs.declared.message.Response.{Response}
use Rattle.sc_terms.specs.declared.settings.Config.{Config}
use Rattle.sc_parts.specs.declared.choice.Choice.{Choice}
use Rattle.sc_parts.specs.declared.choice.Choice.TheVariants as choices
use Rattle.sc_parts.specs.declared.setup.Setup.{Setup}
use Rattle.sc_parts.specs.declared.transactions.ClientItem.{ClientItem}
use Rattle.sc_parts.specs.declared.transactions.ClientItem.TheVariants as client_items
use Rattle.sc_state.specs.Hosts.{Host}
use Rattle.sc_state.specs.Standing.{is_client, is_server}
use Rattle.sc_state.specs.declared.host.Client.{Client}
use Rattle.sc_state.specs.declared.host.Peer.{Peer}
use Rattle.sc_state.specs.declared.host.Peer.TheVariants as peers
use Rattle.sc_state.specs.declared.host.Reply.{Reply}
use Rattle.sc_state.specs.declared.host.Server.{Server}
use Rattle.sc_state.specs.declared.host.Taken.{Taken}
use Rattle.sc_state.specs.declared.net.Entry.{Entry}
use Rattle.sc_state.specs.declared.net.Net.{Net}
use Rattle.sc_state.specs.declared.net.Note.{Note}
use Rattle.sc_state.specs.declared.orders.Order.{Order}
use Rattle.sc_state.specs.declared.orders.Order.TheVariants as orders
use Rattle.sc_state.specs.declared.queue.Queued.{Queued}
use Rattle.sc_tokens.specs.Bytes.{Bytes}
use Rattle.sc_model.specs.Choices.{choice_of}
use Rattle.sc_hosts.specs.Inboxes.{is_live, queue, without_answer as quiet, with_event}
use Rattle.sc_hosts.specs.Nets.{host_at, change_host, with_message as put, put_reply, with_host_after as placed, queued_at, queue_for, tell_own, send_to, leave_for, leave, begin_by, send_named, send_later, acknowledge, send_cancel, cancel_by, cancel_for, client_at, respond_by, answered_server, obey, after_orders as obeyed, is_busy, deliver_at, deliver_entry, deliver_first, weight}
use Rattle.sc_hosts.specs.Runs.{after_delivery as delivered}
use Rattle.sc_hosts.specs.Sessions.{Form}
use Rattle.sc_hosts.specs.Taking.{takes}
use Rattle.sc_hosts.specs.TakingResponses.{cancelling}
use Rattle.sc_hosts.specs.Transacting.{out_of_client, pass_client, with_client}
use Rattle.sc_hosts.proofs.Deliveries.{found-passes}
use Rattle.sc_lives.proofs.Settling.{settle-holds}
use Rattle.sc_walks.specs.Walks.{HostLaws}
use Rattle.sc_walks.proofs.WalkHosts.{takes-walks}
use Rattle.sc_once.specs.Growing.{IsBetween}
use Rattle.sc_once.proofs.Bounds.{bounds-rise}
use Rattle.sc_once.proofs.Finding.{slice_get-other}
use Rattle.sc_keyed.specs.Keyed.{new_branch, new_branches}
use Rattle.sc_keyed.proofs.Apart.{found-in}
use Rattle.sc_keyed.proofs.ClientKeys.{IsDrawnBy, equal, key-is, keyed-counted, keyed-new}
use Rattle.sc_keyed.proofs.KeyedHosts.{IsKeyed, counted, counter_at, cancel-keyed, pass_client-keyed, queue-keyed, servers-keyed, takes-keyed, tidied-keyed}

pub differ : (a b : ℕ) → (a == b) ≡ false → a ≡ b → ⊥
differ a b at same = grind (arith, nat_tests, at, same)

-- ## Events are counted upward

if-up : {S : Type 0} (b : Bool) (count : ℕ) (x y : Taken S) → count ≤ x.count → count ≤ y.count → count ≤ (cond b x y).count
if-up true count x y p q = p
if-up false count x y p q = q

pub queue-counts-up : {S : Type 0} (serial now : ℕ) (event : Queued) (count : ℕ) (host : Host S) → count ≤ (queue serial now event count host).count
unfolding queue quiet
queue-counts-up serial now event count host =
    if-up _ count (quiet (record host { sessions = change_first (is_live serial) (with_event (count + 1) now event) host.sessions }) (count + 1)) (quiet host count) (omega arith) (omega arith)

upward : {S : Type 0} (number now : ℕ) → HostLaws {S = S} (λ form. Unit {0}) number now (λ count host later changed. count ≤ later)
upward number now = record {
  same = λ count host. omega arith;
  after = λ c d e x y z p q. omega (arith, p, q);
  passes = λ count host clients servers. omega arith;
  queues = λ serial event late count host. queue-counts-up serial now event count host;
  begins = λ form good config epoch noted request count host. omega arith;
  marks = λ entry count host. omega arith;
}

pub takes-counts-up : {S : Type 0} (form : Form S) (config : Config) (epoch number : ℕ) (from : Peer) (now : ℕ) (noted : Option Note) (message : Message) (count : ℕ) (host : Host S)
    → count ≤ (takes form config (record { host = number; epoch = epoch; from = from; now = now; count = count }) noted message host).count
takes-counts-up form config epoch number from now noted message count host =
    takes-walks number now (λ count host later changed. count ≤ later) (upward number now) form tt config epoch from noted message count host

module _ {S : Type 0} (form : Form S) (Own : AppId → Type 0) (high : ℕ) where
  -- each host of a net, whose session in its turn gave branches up to this number
  abbrev pub AllKeyed : ℕ → Net S → Type 0
  AllKeyed low net = (number : ℕ) (host : Host S) → host_at number net ≡ Some host → IsKeyed form Own low high number net.count host

  pub if-keyed : (low : ℕ) (b : Bool) (x y : Net S) → AllKeyed low x → AllKeyed low y → AllKeyed low (cond b x y)
  if-keyed low true x y p q = p
  if-keyed low false x y p q = q

  pub mapped : (found : Option (Host S)) (change : Host S → Host S) (after : Host S) → option_map change found ≡ Some after
      → (before : Host S) × (found ≡ Some before) × (change before ≡ after)
  mapped None change after is = cc
  mapped (Some before) change after is = (before, refl, cc)

  changed-at : (low lower more place : ℕ) (change : Host S → Host S) (net : Net S) → net.count ≤ more
      → ((host : Host S) → host_at place net ≡ Some host → IsKeyed form Own low high place more (change host))
      → ((number : ℕ) (host : Host S) → (number ≡ place → ⊥) → IsKeyed form Own lower high number more host → IsKeyed form Own low high number more host)
      → AllKeyed lower net → (number : ℕ) (after : Host S) → host_at number (change_host place change net) ≡ Some after
      → (b : Bool) → (number == place) ≡ b → IsKeyed form Own low high number more after
  changed-at low lower more place change net up here there keyed number after is true at =
      let same = equal number place at in
      let one = mapped (host_at place net) change after (sym (slice_get-change_nth place change net.hosts) ∙ subst (λ (n : ℕ). host_at n (change_host place change net) ≡ Some after) same is) in
      subst (λ (n : ℕ). IsKeyed form Own low high n more after) (sym same) (subst (IsKeyed form Own low high place more) one.2 (here one.0 one.1))
  changed-at low lower more place change net up here there keyed number after is false at =
      there number after (differ number place at) (counted form Own lower high number net.count more after up
      (keyed number after (sym (slice_get-other net.hosts place number change (λ same. differ number place at (sym same))) ∙ is)))

  -- a host is changed, and no event is counted
  pub change-keyed : (low place : ℕ) (change : Host S → Host S) (net : Net S)
      → ((host : Host S) → host_at place net ≡ Some host → IsKeyed form Own low high place net.count host → IsKeyed form Own low high place net.count (change host))
      → AllKeyed low net → AllKeyed low (change_host place change net)
  change-keyed low place change net keeps keyed =
      λ number after is. changed-at low low net.count place change net (same net.count) (λ host at. keeps host at (keyed place host at)) (λ n host apart k. k) keyed number after is (number == place) refl
    where
      same : (n : ℕ) → n ≤ n
      same n = omega arith

  -- ## Messages on their way

  pub put-keyed : (low sender : ℕ) (peer : Peer) (message : Message) (noted : Option Note) (net : Net S) → AllKeyed low net
      → AllKeyed low (put sender peer message noted net)
  unfolding put
  put-keyed low sender (peers.Outside place) message noted net keyed = keyed
  put-keyed low sender (peers.Inside host) message noted net keyed = keyed
  put-keyed low sender peers.Nowhere message noted net keyed = keyed

  put_reply-keyed : (low sender : ℕ) (reply : Option Reply) (net : Net S) → AllKeyed low net → AllKeyed low (put_reply sender reply net)
  unfolding put_reply
  put_reply-keyed low sender None net keyed = keyed
  put_reply-keyed low sender (Some reply) net keyed = put-keyed low sender reply.peer reply.message None net keyed

  -- the host of this number took a message
  pub placed-keyed : (low number : ℕ) (taken : Taken S) (net : Net S) → net.count ≤ taken.count
      → IsKeyed form Own low high number taken.count taken.host → AllKeyed low net → AllKeyed low (placed number taken net)
  unfolding placed
  placed-keyed low number taken net up took keyed =
      put_reply-keyed low number taken.reply (record (change_host number (λ host. taken.host) net) { count = taken.count })
      (λ n after is. changed-at low low taken.count number (λ host. taken.host) net up (λ host at. took) (λ m host apart k. k) keyed n after is (n == number) refl)

  queued-keyed : (low : ℕ) (app : AppId) (event : Queued) (found : Option (Host S)) (net : Net S) → host_at app.host net ≡ found
      → AllKeyed low net → AllKeyed low (queued_at app event found net)
  unfolding queued_at
  queued-keyed low app event None net is keyed = keyed
  queued-keyed low app event (Some host) net is keyed =
      placed-keyed low app.host (queue app.serial net.moment event net.count host) net (queue-counts-up app.serial net.moment event net.count host)
      (queue-keyed form Own low high app.host app.serial net.moment event net.count host (keyed app.host host is)) keyed

  pub queue_for-keyed : (low : ℕ) (app : AppId) (event : Queued) (net : Net S) → AllKeyed low net → AllKeyed low (queue_for app event net)
  unfolding queue_for
  queue_for-keyed low app event net keyed = queued-keyed low app event _ net refl keyed

  -- ## What a session gives to send

  raised : (low higher number count : ℕ) (host : Host S) → low ≤ higher → IsKeyed form Own low high number count host
      → IsKeyed form Own higher high number count host
  raised low higher number count host up keyed = record {
    clients = keyed-counted Own Own low higher number host.last host.last (counter_at form host.sessions) (counter_at form host.sessions) host.clients (same host.last) (λ serial n under drawn. drawn)
        (λ client within own. through client.branch (keyed.clients.below client within own)) keyed.clients;
    servers = keyed.servers;
    numbered = keyed.numbered;
    began = keyed.began;
    able = keyed.able;
  }
    where
      same : (n : ℕ) → n ≤ n
      same n = omega arith

      through : (n : ℕ) → n ≤ low → n ≤ higher
      through n is = omega (arith, is, up)

  all-raised : (low higher : ℕ) (net : Net S) → low ≤ higher → AllKeyed low net → AllKeyed higher net
  all-raised low higher net up keyed = λ number host is. raised low higher number net.count host up (keyed number host is)

  tell_own-keyed : (low : ℕ) (config : Config) (app : AppId) (branch code : ℕ) (reason : Bytes) (request : Request) (net : Net S) → AllKeyed low net
      → AllKeyed low (tell_own config app branch code reason request net)
  unfolding tell_own
  tell_own-keyed low config app branch code reason request net keyed = queue_for-keyed low app _ net keyed

  drawn-below : (n m : ℕ) (last : Option ℕ) → n ≤ m → IsDrawnBy m last → IsDrawnBy n last
  unfolding IsDrawnBy
  drawn-below n m None under drawn = tt
  drawn-below n m (Some last) under drawn = omega (arith, under, drawn)

  client-added : (low count : ℕ) (host : Host S) (new : Client) → Own new.app → low < new.branch → new.branch ≤ high
      → IsKeyed form Own low high new.app.host count host → IsKeyed form Own new.branch high new.app.host count (with_client new host)
  client-added low count host new own above under keyed = record {
    clients = keyed-new Own low new.app.host host.last (counter_at form host.sessions) host.clients new own above refl (keyed.began new.app own refl)
        (drawn-below new.branch high _ under (keyed.able new.app own refl)) keyed.clients;
    servers = keyed.servers;
    numbered = keyed.numbered;
    began = keyed.began;
    able = keyed.able;
  }

  -- a request goes on a new branch
  send_to-keyed : (low : ℕ) (app : AppId) (branch : ℕ) (peer : Peer) (noted : Option Note) (request : Request) (net : Net S) → Own app → low < branch
      → branch ≤ high → AllKeyed low net → AllKeyed branch (send_to app branch peer noted request net)
  unfolding send_to
  send_to-keyed low app branch peer noted request net own above under keyed =
      let new : Client = record { app = app; branch = branch; peer = peer; request = request; sent = net.moment; passed = [] } in
      put-keyed branch app.host peer (messages.Request request) noted (change_host app.host (with_client new) net)
      (λ number after is. changed-at branch low net.count app.host (with_client new) net (same net.count)
      (λ host at. client-added low net.count host new own above under (keyed app.host host at)) (λ n host apart k. raised low branch n net.count host (weak low branch above) k) keyed number after is (number == app.host) refl)
    where
      same : (n : ℕ) → n ≤ n
      same n = omega arith

      weak : (a b : ℕ) → a < b → a ≤ b
      weak a b is = omega (arith, is)

  told-raised : (low : ℕ) (config : Config) (app : AppId) (branch code : ℕ) (reason : Bytes) (request : Request) (net : Net S) → low < branch
      → AllKeyed low net → AllKeyed branch (tell_own config app branch code reason request net)
  told-raised low config app branch code reason request net above keyed =
      all-raised low branch (tell_own config app branch code reason request net) (weak low branch above) (tell_own-keyed low config app branch code reason request net keyed)
    where
      weak : (a b : ℕ) → a < b → a ≤ b
      weak a b is = omega (arith, is)

  leave_for-keyed : (low : ℕ) (config : Config) (app : AppId) (branch : ℕ) (request : Request) (place : Option Place) (net : Net S) → Own app → low < branch
      → branch ≤ high → AllKeyed low net → AllKeyed branch (leave_for config app branch request place net)
  unfolding leave_for
  leave_for-keyed low config app branch request None net own above under keyed = told-raised low config app branch 503 _ request net above keyed
  leave_for-keyed low config app branch request (Some place) net own above under keyed =
      send_to-keyed low app branch (peers.Outside place) None request net own above under keyed

  leave-keyed : (low : ℕ) (config : Config) (app : AppId) (branch : ℕ) (request : Request) (net : Net S) → Own app → low < branch → branch ≤ high
      → AllKeyed low net → AllKeyed branch (leave config app branch request net)
  unfolding leave
  leave-keyed low config app branch request net own above under keyed = leave_for-keyed low config app branch request _ net own above under keyed

  begin_by-keyed : (low : ℕ) (config : Config) (app : AppId) (branch : ℕ) (request : Request) (choice : Choice) (net : Net S) → Own app → low < branch
      → branch ≤ high → AllKeyed low net → AllKeyed branch (begin_by config app branch request choice net)
  unfolding begin_by
  begin_by-keyed low config app branch request (choices.App host order region subscriber popped) net own above under keyed =
      send_to-keyed low app branch (peers.Inside host) _ request net own above under keyed
  begin_by-keyed low config app branch request (choices.Send routes) net own above under keyed = leave-keyed low config app branch _ net own above under keyed
  begin_by-keyed low config app branch request choices.Onward net own above under keyed = leave-keyed low config app branch request net own above under keyed
  begin_by-keyed low config app branch request choices.NotFound net own above under keyed = told-raised low config app branch 404 _ request net above keyed

  send_named-keyed : (low : ℕ) (config : Config) (app : AppId) (branch : ℕ) (request : Request) (number : Option ℕ) (net : Net S) → Own app → low < branch
      → branch ≤ high → AllKeyed low net → AllKeyed branch (send_named config app branch request number net)
  unfolding send_named
  send_named-keyed low config app branch request None net own above under keyed = told-raised low config app branch 481 _ request net above keyed
  send_named-keyed low config app branch request (Some host) net own above under keyed =
      send_to-keyed low app branch (peers.Inside host) None request net own above under keyed

  send_later-keyed : (low : ℕ) (config : Config) (app : AppId) (branch : ℕ) (request : Request) (net : Net S) → Own app → low < branch → branch ≤ high
      → AllKeyed low net → AllKeyed branch (send_later config app branch request net)
  unfolding send_later
  send_later-keyed low config app branch request net own above under keyed =
      if-keyed branch _ _ _ (send_named-keyed low config app branch request _ net own above under keyed) (leave-keyed low config app branch request net own above under keyed)

  -- ## CANCEL

  cancel-at : (low now : ℕ) (app : AppId) (branch : ℕ) (client : Client) (item : ClientItem) (count : ℕ) (host : Host S)
      → find (is_client app branch false) host.clients ≡ Some client → (out_of_client client item).cancel ≡ true
      → IsKeyed form Own low high app.host count host
      → IsKeyed form Own low high app.host count (with_client (cancelling now client) (pass_client app branch false item host))
  cancel-at low now app branch client item count host is sends keyed =
      let key = key-is app branch false client (found-passes host.clients (is_client app branch false) client is) in
      subst (λ (a : AppId). IsKeyed form Own low high app.host count (with_client (cancelling now client) (pass_client a branch false item host))) key.app_is
      (subst (λ (n : ℕ). IsKeyed form Own low high app.host count (with_client (cancelling now client) (pass_client client.app n false item host))) key.branch_is
      (subst (λ (b : Bool). IsKeyed form Own low high app.host count (with_client (cancelling now client) (pass_client client.app client.branch b item host))) key.kind_is
      (cancel-keyed form Own low high app.host now item client count host (found-in (is_client app branch false) host.clients client is) key.kind_is sends keyed)))

  cancel_by-keyed : (low : ℕ) (app : AppId) (branch : ℕ) (client : Client) (net : Net S)
      → ((host : Host S) → host_at app.host net ≡ Some host → find (is_client app branch false) host.clients ≡ Some client)
      → AllKeyed low net → (sends : Bool) → (out_of_client client (client_items.CancelAsked net.moment)).cancel ≡ sends
      → AllKeyed low (cancel_by app branch client net)
  unfolding cancel_by send_cancel
  cancel_by-keyed low app branch client net found keyed true is =
      rw is (put-keyed low app.host client.peer _ None _
      (subst (λ (hosts : List (Host S)). (number : ℕ) (host : Host S) → slice_get hosts number ≡ Some host → IsKeyed form Own low high number net.count host)
      (sym (change_nth-change_nth app.host (with_client (cancelling net.moment client)) (pass_client app branch false (client_items.CancelAsked net.moment)) net.hosts))
      (change-keyed low app.host (λ host. with_client (cancelling net.moment client) (pass_client app branch false (client_items.CancelAsked net.moment) host)) net
      (λ host at k. cancel-at low net.moment app branch client (client_items.CancelAsked net.moment) net.count host (found host at) is k) keyed)))
  cancel_by-keyed low app branch client net found keyed false is =
      rw is (change-keyed low app.host _ net (λ host at k. pass_client-keyed form Own low high app.host app branch false (client_items.CancelAsked net.moment) net.count host k) keyed)

  client-there : (app : AppId) (branch : ℕ) (client : Client) (host : Host S) (found : Option (Host S)) → found ≡ Some host
      → client_at app branch found ≡ Some client → find (is_client app branch false) host.clients ≡ Some client
  unfolding client_at
  client-there app branch client host None at is = cc
  client-there app branch client host (Some other) at is = subst (λ (h : Host S). find (is_client app branch false) h.clients ≡ Some client) (inside at) is
    where
      inside : Some other ≡ Some host → other ≡ host
      inside at = cc

  cancel_for-keyed : (low : ℕ) (app : AppId) (branch : ℕ) (at_once : Bool) (client : Option Client) (net : Net S)
      → client_at app branch (host_at app.host net) ≡ client → AllKeyed low net → AllKeyed low (cancel_for app branch at_once client net)
  unfolding cancel_for
  cancel_for-keyed low app branch at_once None net is keyed = keyed
  cancel_for-keyed low app branch at_once (Some client) net is keyed =
      if-keyed low _ _ net (cancel_by-keyed low app branch client net (λ host at. client-there app branch client host (host_at app.host net) at is) keyed _ refl) keyed

  -- ## Each order

  respond_by-keyed : (low number event : ℕ) (response : Response) (server : Option Server) (net : Net S) → AllKeyed low net
      → AllKeyed low (respond_by number event response server net)
  unfolding respond_by answered_server
  respond_by-keyed low number event response None net keyed = keyed
  respond_by-keyed low number event response (Some server) net keyed =
      if-keyed low _ _ net (put-keyed low number server.peer _ None _
      (change-keyed low number _ net (λ host at k. tidied-keyed form Own low high number net.count _ (servers-keyed form Own low high number (is_server event) (answered_server response.code net.moment response) net.count host (λ s. refl) (λ s. refl) k)) keyed)) keyed

  acknowledge-keyed : (low : ℕ) (config : Config) (app : AppId) (request : Request) (net : Net S) → AllKeyed low net
      → AllKeyed low (acknowledge config app request net)
  unfolding acknowledge
  acknowledge-keyed low config app request net keyed = put-keyed low app.host _ _ None net keyed

  pub obeyed-keyed : (given : List Order) (low : ℕ) (setup : Setup) (app : AppId) (net : Net S) → Own app → IsBetween (new_branches given) low high
      → AllKeyed low net → AllKeyed high (obeyed setup app given net)
  unfolding obeyed obey new_branches new_branch IsBetween
  obeyed-keyed [] low setup app net own between keyed = all-raised low high net between keyed
  obeyed-keyed (orders.Respond event response ∷ given) low setup app net own between keyed =
      obeyed-keyed given low setup app _ own between (respond_by-keyed low app.host event response _ net keyed)
  obeyed-keyed (orders.Begin branch directive region state request ∷ given) low setup app net own between keyed =
      obeyed-keyed given branch setup app _ own between.1
      (begin_by-keyed low setup.config app branch request (choice_of setup.config setup.dar request region directive state) net own between.0 (bounds-rise (new_branches given) branch high between.1) keyed)
  obeyed-keyed (orders.Send branch request ∷ given) low setup app net own between keyed =
      obeyed-keyed given branch setup app _ own between.1
      (send_later-keyed low setup.config app branch request net own between.0 (bounds-rise (new_branches given) branch high between.1) keyed)
  obeyed-keyed (orders.Acknowledge request ∷ given) low setup app net own between keyed =
      obeyed-keyed given low setup app _ own between (acknowledge-keyed low setup.config app request net keyed)
  obeyed-keyed (orders.Cancel branch ∷ given) low setup app net own between keyed =
      obeyed-keyed given low setup app _ own between (cancel_for-keyed low app branch false _ net refl keyed)
  obeyed-keyed (orders.CancelNow branch ∷ given) low setup app net own between keyed =
      obeyed-keyed given low setup app _ own between (cancel_for-keyed low app branch true _ net refl keyed)

  -- orders that send nothing on a new branch
  pub obeyed-old : (given : List Order) (low : ℕ) (setup : Setup) (app : AppId) (net : Net S) → new_branches given ≡ []
      → AllKeyed low net → AllKeyed low (obeyed setup app given net)
  unfolding obeyed obey new_branches new_branch
  obeyed-old [] low setup app net old keyed = keyed
  obeyed-old (orders.Respond event response ∷ given) low setup app net old keyed =
      obeyed-old given low setup app _ old (respond_by-keyed low app.host event response _ net keyed)
  obeyed-old (orders.Begin branch directive region state request ∷ given) low setup app net old keyed = cc
  obeyed-old (orders.Send branch request ∷ given) low setup app net old keyed = cc
  obeyed-old (orders.Acknowledge request ∷ given) low setup app net old keyed =
      obeyed-old given low setup app _ old (acknowledge-keyed low setup.config app request net keyed)
  obeyed-old (orders.Cancel branch ∷ given) low setup app net old keyed =
      obeyed-old given low setup app _ old (cancel_for-keyed low app branch false _ net refl keyed)
  obeyed-old (orders.CancelNow branch ∷ given) low setup app net old keyed =
      obeyed-old given low setup app _ old (cancel_for-keyed low app branch true _ net refl keyed)

  -- ## Deliveries

  deliver_at-keyed : (low : ℕ) (setup : Setup) (entry : Entry) (found : Option (Host S)) (net : Net S) → host_at entry.receiver net ≡ found
      → AllKeyed low net → AllKeyed low (deliver_at form setup entry found net)
  unfolding deliver_at
  deliver_at-keyed low setup entry None net is keyed = keyed
  deliver_at-keyed low setup entry (Some host) net is keyed =
      placed-keyed low entry.receiver _ net (takes-counts-up form setup.config net.epoch entry.receiver (peers.Inside entry.sender) net.moment entry.note entry.message net.count host)
      (takes-keyed form Own low high entry.receiver setup.config net.epoch (peers.Inside entry.sender) net.moment entry.note entry.message net.count host (keyed entry.receiver host is)) keyed

  deliver_entry-keyed : (low : ℕ) (setup : Setup) (entry : Option Entry) (net : Net S) → AllKeyed low net → AllKeyed low (deliver_entry form setup entry net)
  unfolding deliver_entry
  deliver_entry-keyed low setup None net keyed = keyed
  deliver_entry-keyed low setup (Some entry) net keyed = deliver_at-keyed low setup entry _ _ refl keyed

  deliver_first-keyed : (low : ℕ) (setup : Setup) (net : Net S) → AllKeyed low net → AllKeyed low (deliver_first form setup net)
  unfolding deliver_first
  deliver_first-keyed low setup net keyed = deliver_entry-keyed low setup _ net keyed

  pub delivered-keyed : (low : ℕ) (setup : Setup) (net : Net S) → AllKeyed low net → AllKeyed low (delivered form setup net)
  unfolding delivered
  delivered-keyed low setup net keyed = settle-holds is_busy (deliver_first form setup) weight (AllKeyed low) (λ n k. deliver_first-keyed low setup n k) net keyed
