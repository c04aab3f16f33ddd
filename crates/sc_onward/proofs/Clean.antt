-- Server transactions over inner hops: none has the branch of a request, while that one isn't delivered; and the wire grows at its end.
use Rattle.std.proofs.Common.{◌≡◌, ℕ, ◌+◌, ◌++◌, Bool, true, false, Option, None, Some, List, [], ◌∷◌, refl, sym, ap, subst, ◌∙◌, append_assoc, append-nil}
use Rattle.std.specs.Prelude.{◌==◌, cond, length, nat_le, slice_get}
use Rattle.sc_value.specs.declared.ids.AppId.{AppId}
use Rattle.sc_value.specs.declared.ids.Place.{Place}
use Rattle.sc_value.specs.declared.message.Message.{Message}
use Rattle.sc_value.specs.declared.message.Message.TheVariants as messages
use Rattle.sc_value.specs.declared.message.Request.{Request}
use Rattle.sc_value.specs.declared.message.Response.{Response}
use Rattle.sc_value.specs.declared.parts.Via.{Via}
use Rattle.sc_terms.specs.declared.settings.Config.{Config}
use Rattle.sc_parts.specs.declared.choice.Choice.{Choice}
use Rattle.sc_parts.specs.declared.choice.Choice.TheVariants as choices
use Rattle.sc_parts.specs.declared.setup.Setup.{Setup}
use Rattle.sc_parts.specs.declared.transactions.ClientItem.{ClientItem}
use Rattle.sc_parts.specs.declared.transactions.ClientItem.TheVariants as client_items
use Rattle.sc_parts.specs.declared.transactions.ClientOut.{ClientOut}
use Rattle.sc_parts.specs.declared.transactions.ServerItem.{ServerItem}
use Rattle.sc_state.specs.Hosts.{Host}
use Rattle.sc_state.specs.declared.host.Client.{Client}
use Rattle.sc_state.specs.declared.host.Live.{Live}
use Rattle.sc_state.specs.declared.host.Peer.{Peer}
use Rattle.sc_state.specs.declared.host.Peer.TheVariants as peers
use Rattle.sc_state.specs.declared.host.Reply.{Reply}
use Rattle.sc_state.specs.declared.host.Server.{Server}
use Rattle.sc_state.specs.declared.host.Taken.{Taken}
use Rattle.sc_state.specs.declared.net.Entry.{Entry}
use Rattle.sc_state.specs.declared.net.Net.{Net}
use Rattle.sc_state.specs.declared.net.Note.{Note}
use Rattle.sc_state.specs.declared.orders.Order.{Order}
use Rattle.sc_state.specs.declared.orders.Order.TheVariants as orders
use Rattle.sc_state.specs.declared.orders.Outcome.{Outcome}
use Rattle.sc_state.specs.declared.queue.Queued.{Queued}
use Rattle.sc_state.specs.declared.queue.Queued.TheVariants as queued
use Rattle.sc_state.specs.declared.queue.Waiting.{Waiting}
use Rattle.sc_state.specs.declared.session.Session.{Session}
use Rattle.sc_tokens.specs.Bytes.{Bytes}
use Rattle.sc_hosts.proofs.EachSort.{takes-each}
use Rattle.sc_hosts.specs.Inboxes.{MOST_LIVE, queue, without_answer as quiet}
use Rattle.sc_hosts.specs.Messages.{ack_of, cancel_of}
use Rattle.sc_hosts.specs.Nets.{acknowledge, answered_server, begin_by, cancel_by, cancel_for, change_host, deliver_at, deliver_entry, deliver_first, host_at, leave, leave_for, obey, after_orders as obeyed, with_host_after as placed, with_message as put, put_reply, queue_for, queued_at, respond_by, send_cancel, send_later, send_named, send_to, tell_own}
use Rattle.sc_hosts.specs.Sessions.{Form}
use Rattle.sc_hosts.specs.Steps.{closed_turn, without_application as invalidated, with_ready, without_live}
use Rattle.sc_hosts.specs.Taking.{take_cancel as cancelled, last_again, again_if, take_repeated as repeated, refuse, server_after_trying as tried, without_own_route as unrouted, with_server, with_trying, queue_later, take_new as begun, take_initial, takes}
use Rattle.sc_hosts.specs.TakingResponses.{cancelling, take_provisional as told, told_by, with_reply, response_for, response_to, take_response}
use Rattle.sc_hosts.specs.Words.{does_not_exist, unavailable}
use Rattle.sc_hosts.specs.Transacting.{client_for, has_final, is_server, pass_client, pass_server, same_top, server_passed, without_ended, with_client}
use Rattle.sc_lasting.specs.Lasting.{All}
use Rattle.sc_lasting.proofs.Parts.{all-append, all-filter, all-first}
use Rattle.sc_once.proofs.ChangedHosts.{changed_hosts}
use Rattle.sc_hops.specs.Hops.{HasBranchOf, IsOnWay}
use Rattle.sc_hops.proofs.OneTurn.{unrouted-vias}
use Rattle.sc_recorded.specs.Recorded.{IsInner}

-- it has another top Via than this request
abbrev pub IsApartFrom : Request → Request → Type 0
IsApartFrom sent request = HasBranchOf sent request → ⊥

-- over an inner hop it has another branch
abbrev pub Free : Request → Server → Type 0
Free sent server = IsInner server.peer → IsApartFrom sent server.request

-- a request that comes over an inner hop has another branch
abbrev Comes : Request → Peer → Request → Type 0
Comes sent from request = IsInner from → IsApartFrom sent request

popped : (sent : Request) (config : Config) (from : Peer) (request : Request) → Comes sent from request → Comes sent from (unrouted config request)
popped sent config from request comes = λ inner is. comes inner (subst (λ (vias : List Via). same_top sent.head.via vias ≡ true) (unrouted-vias config request) is)

module _ {S : Type 0} (sent : Request) where
  abbrev pub Clean : Host S → Type 0
  Clean host = All (Free sent) host.servers

  if-clean : (b : Bool) (x y : Taken S) → Clean x.host → Clean y.host → Clean (cond b x y).host
  if-clean true x y p q = p
  if-clean false x y p q = q

  if-host : (b : Bool) (x y : Host S) → Clean x → Clean y → Clean (cond b x y)
  if-host true x y p q = p
  if-host false x y p q = q

  queue-clean : (serial now : ℕ) (event : Queued) (count : ℕ) (host : Host S) → Clean host → Clean (queue serial now event count host).host
  unfolding queue quiet
  queue-clean serial now event count host ok = if-clean _ _ (quiet host count) ok ok

  pass_client-clean : (of : AppId) (branch : ℕ) (cancelling : Bool) (item : ClientItem) (host : Host S) → Clean host → Clean (pass_client of branch cancelling item host)
  unfolding pass_client without_ended
  pass_client-clean of branch cancelling item host ok = all-filter (Free sent) _ host.servers ok

  pass_server-clean : (event : ℕ) (item : ServerItem) (host : Host S) → Clean host → Clean (pass_server event item host)
  unfolding pass_server server_passed without_ended
  pass_server-clean event item host ok = all-filter (Free sent) _ _ (all-first (Free sent) (is_server event) (server_passed item) host.servers (λ server found free. free) ok)

  -- ## What a host takes

  told_by-clean : (now : ℕ) (tell : Option ℕ) (client : Client) (response : Response) (count : ℕ) (host : Host S) → Clean host → Clean (told_by tell now client response count host).host
  unfolding told_by told quiet
  told_by-clean now None client response count host ok = ok
  told_by-clean now (Some code) client response count host ok = if-clean _ (quiet host count) _ ok (queue-clean client.app.serial now _ count host ok)

  with_reply-clean : (now : ℕ) (out : ClientOut) (client : Client) (response : Response) (taken : Taken S) → Clean taken.host → Clean (with_reply out now client response taken).host
  unfolding with_reply cancelling cancel_of ack_of
  with_reply-clean now out client response taken ok = if-clean out.ack _ _ ok (if-clean out.cancel _ taken ok ok)

  response_to-clean : (now : ℕ) (client : Option Client) (response : Response) (count : ℕ) (host : Host S) → Clean host → Clean (response_to now client response count host).host
  unfolding response_to response_for quiet
  response_to-clean now None response count host ok = ok
  response_to-clean now (Some client) response count host ok =
      with_reply-clean now _ client response _ (told_by-clean now _ client response count _ (pass_client-clean client.app client.branch _ _ host ok))

  take_response-clean : (config : Config) (other : ℕ) (from : Peer) (now : ℕ) (response : Response) (count : ℕ) (host : Host S) → Clean host
      → Clean (take_response config other from now response count host).host
  unfolding take_response client_for
  take_response-clean config other from now response count host ok = response_to-clean now _ response count host ok

  cancelled-clean : (from : Peer) (now : ℕ) (server : Server) (request : Request) (count : ℕ) (host : Host S) → Clean host → Clean (cancelled from now server request count host).host
  unfolding cancelled quiet
  cancelled-clean from now server request count host ok =
      if-clean (has_final server) (quiet host count) _ ok (queue-clean server.app.serial now (queued.Cancelled server.event) count host ok)

  last-clean : (server : Server) (last : Option Response) (taken : Taken S) → Clean taken.host → Clean (last_again server last taken).host
  unfolding last_again
  last-clean server None taken ok = ok
  last-clean server (Some response) taken ok = ok

  again-clean : (b : Bool) (server : Server) (taken : Taken S) → Clean taken.host → Clean (again_if b server taken).host
  unfolding again_if
  again-clean true server taken ok = last-clean server server.last taken ok
  again-clean false server taken ok = ok

  repeated-clean : (server : Server) (count : ℕ) (host : Host S) → Clean host → Clean (repeated server count host).host
  unfolding repeated quiet
  repeated-clean server count host ok = again-clean _ server _ (pass_server-clean server.event _ host ok)

  refuse-clean : (config : Config) (from : Peer) (code : ℕ) (reason : Bytes) (request : Request) (count : ℕ) (host : Host S) → Clean host → Clean (refuse config from code reason request count host).host
  unfolding refuse quiet
  refuse-clean config from code reason request count host ok = if-clean _ (quiet host count) _ ok ok

  server-clean : (of : AppId) (event : ℕ) (peer : Peer) (tag : Bytes) (request : Request) (host : Host S) → Comes sent peer request → Clean host → Clean (with_server of event peer tag request host)
  unfolding with_server
  server-clean of event peer tag request host comes ok = if-host _ host _ ok (all-append (Free sent) host.servers _ ok comes)

  trying-clean : (from : Peer) (now : ℕ) (request : Request) (taken : Taken S) → Clean taken.host → Clean (with_trying from now request taken).host
  unfolding with_trying tried
  trying-clean from now request taken ok = if-clean _ _ taken (all-first (Free sent) (is_server taken.count) (tried request now) taken.host.servers (λ server found free. free) ok) ok

  later-clean : (config : Config) (other number : ℕ) (from : Peer) (now : ℕ) (request : Request) (count : ℕ) (live : Live S) (host : Host S) → Comes sent from request → Clean host
      → Clean (queue_later config (record { host = number; epoch = other; from = from; now = now; count = count }) request live host).host
  unfolding queue_later
  later-clean config other number from now request count live host comes ok =
      if-clean _ _ _ (refuse-clean config from 503 _ request count host ok)
      (trying-clean from now request _ (queue-clean live.serial now (queued.Request (unrouted config request)) count _ (server-clean _ _ from _ (unrouted config request) host (popped sent config from request comes) ok)))

  begun-clean : (form : Form S) (config : Config) (other number : ℕ) (from : Peer) (now : ℕ) (noted : Note) (request : Request) (count : ℕ) (host : Host S) → Comes sent from request → Clean host
      → Clean (begun form config (record { host = number; epoch = other; from = from; now = now; count = count }) noted request host).host
  unfolding begun quiet
  begun-clean form config other number from now noted request count host comes ok =
      trying-clean from now request _ (server-clean (record { host = number; serial = host.last + 1 }) (count + 1) from _ request _ comes ok)

  initial-clean : (form : Form S) (config : Config) (other number : ℕ) (from : Peer) (now : ℕ) (noted : Option Note) (request : Request) (count : ℕ) (host : Host S) → Comes sent from request → Clean host
      → Clean (take_initial form config (record { host = number; epoch = other; from = from; now = now; count = count }) noted request host).host
  unfolding take_initial
  initial-clean form config other number from now None request count host comes ok = refuse-clean config from 481 does_not_exist request count host ok
  initial-clean form config other number from now (Some noted) request count host comes ok =
      if-clean (nat_le MOST_LIVE (length host.sessions)) (refuse config from 503 unavailable request count host)
      (begun form config (record { host = number; epoch = other; from = from; now = now; count = count }) noted request host) (refuse-clean config from 503 unavailable request count host ok)
      (begun-clean form config other number from now noted request count host comes ok)

  takes-clean : (form : Form S) (config : Config) (other number sender : ℕ) (now : ℕ) (noted : Option Note) (message : Message) (count : ℕ) (host : Host S) → IsOnWay (IsApartFrom sent) message → Clean host
      → Clean (takes form config (record { host = number; epoch = other; from = peers.Inside sender; now = now; count = count }) noted message host).host
  unfolding takes quiet IsOnWay
  takes-clean form config other number sender now noted (messages.Request request) count host way ok =
      takes-each (λ taken. Clean taken.host) form config (record { host = number; epoch = other; from = peers.Inside sender; now = now; count = count }) noted request host
      (λ server. cancelled-clean (peers.Inside sender) now server request count host ok) (λ server. pass_server-clean server.event _ host ok)
      (λ server. repeated-clean server count host ok) (λ live. later-clean config other number (peers.Inside sender) now request count live host (λ inner. way) ok)
      (initial-clean form config other number (peers.Inside sender) now noted request count host (λ inner. way) ok) (refuse-clean config (peers.Inside sender) 481 does_not_exist request count host ok)
  takes-clean form config other number sender now noted (messages.Response response) count host way ok = take_response-clean config other (peers.Inside sender) now response count host ok

  -- ## Nets

  abbrev pub CleanNet : Net S → Type 0
  CleanNet net = (number : ℕ) (host : Host S) → host_at number net ≡ Some host → Clean host

  -- hosts stay so, and the wire is what it was and then more
  pub record Goes (net changed : Net S) : Type 0 where
    pub clean : CleanNet net → CleanNet changed
    pub more : List Entry
    pub wire : changed.wire ≡ net.wire ++ more

  still : (net changed : Net S) → changed.hosts ≡ net.hosts → changed.wire ≡ net.wire → Goes net changed
  still net changed hosts wire = record {
    clean = λ clean n host at. clean n host (sym (ap (λ (all : List (Host S)). slice_get all n) hosts) ∙ at);
    more = [];
    wire = wire ∙ sym (append-nil net.wire);
  }

  pub then-goes : (x y z : Net S) → Goes x y → Goes y z → Goes x z
  then-goes x y z p q = record {
    clean = λ clean. q.clean (p.clean clean);
    more = p.more ++ q.more;
    wire = q.wire ∙ (ap (λ (w : List Entry). w ++ q.more) p.wire ∙ append_assoc x.wire p.more q.more);
  }

  if-goes : (b : Bool) (net x y : Net S) → Goes net x → Goes net y → Goes net (cond b x y)
  if-goes true net x y p q = p
  if-goes false net x y p q = q

  pub change-goes : (number : ℕ) (change : Host S → Host S) (net : Net S) → ((host : Host S) → Clean host → Clean (change host)) → Goes net (change_host number change net)
  change-goes number change net each = record {
    clean = λ clean n host is. changed_hosts (λ m h. Clean h) number change net (λ h at ok. each h ok) clean n host (n == number) refl is;
    more = [];
    wire = sym (append-nil net.wire);
  }

  put-goes : (sender : ℕ) (peer : Peer) (message : Message) (noted : Option Note) (net : Net S) → Goes net (put sender peer message noted net)
  unfolding put
  put-goes sender (peers.Outside place) message noted net = still net _ refl refl
  put-goes sender (peers.Inside host) message noted net = record { clean = λ clean. clean; more = record { sender = sender; receiver = host; message = message; note = noted } ∷ []; wire = refl }
  put-goes sender peers.Nowhere message noted net = still net net refl refl

  reply-goes : (sender : ℕ) (reply : Option Reply) (net : Net S) → Goes net (put_reply sender reply net)
  unfolding put_reply
  reply-goes sender None net = still net net refl refl
  reply-goes sender (Some reply) net = put-goes sender reply.peer reply.message None net

  placed-goes : (number : ℕ) (taken : Taken S) (host : Host S) (net : Net S) → host_at number net ≡ Some host → (Clean host → Clean taken.host) → Goes net (placed number taken net)
  unfolding placed
  placed-goes number taken host net at keeps =
      let changed : Net S = change_host number (λ host. taken.host) net in
      then-goes net (record changed { count = taken.count }) _
      (record {
        clean = λ clean n h is. changed_hosts (λ m x. Clean x) number (λ host. taken.host) net (λ x there ok. keeps (clean number host at)) clean n h (n == number) refl is;
        more = [];
        wire = sym (append-nil net.wire);
      }) (reply-goes number taken.reply (record changed { count = taken.count }))

  queued_at-goes : (of : AppId) (event : Queued) (found : Option (Host S)) (net : Net S) → host_at of.host net ≡ found → Goes net (queued_at of event found net)
  unfolding queued_at
  queued_at-goes of event None net at = still net net refl refl
  queued_at-goes of event (Some host) net at = placed-goes of.host _ host net at (λ ok. queue-clean of.serial net.moment event net.count host ok)

  queue_for-goes : (of : AppId) (event : Queued) (net : Net S) → Goes net (queue_for of event net)
  unfolding queue_for
  queue_for-goes of event net = queued_at-goes of event _ net refl

  -- ## What a session gives to send

  tell-goes : (config : Config) (of : AppId) (branch code : ℕ) (reason : Bytes) (request : Request) (net : Net S) → Goes net (tell_own config of branch code reason request net)
  unfolding tell_own
  tell-goes config of branch code reason request net = queue_for-goes of _ net

  client-goes : (number : ℕ) (client : Client) (net : Net S) → Goes net (change_host number (with_client client) net)
  client-goes number client net = change-goes number (with_client client) net (λ host ok. ok)

  send_to-goes : (of : AppId) (branch : ℕ) (peer : Peer) (noted : Option Note) (request : Request) (net : Net S) → Goes net (send_to of branch peer noted request net)
  unfolding send_to
  send_to-goes of branch peer noted request net = then-goes net _ _ (client-goes of.host _ net) (put-goes of.host peer (messages.Request request) noted _)

  leave_for-goes : (config : Config) (of : AppId) (branch : ℕ) (request : Request) (place : Option Place) (net : Net S) → Goes net (leave_for config of branch request place net)
  unfolding leave_for
  leave_for-goes config of branch request None net = tell-goes config of branch 503 _ request net
  leave_for-goes config of branch request (Some place) net = send_to-goes of branch (peers.Outside place) None request net

  leave-goes : (config : Config) (of : AppId) (branch : ℕ) (request : Request) (net : Net S) → Goes net (leave config of branch request net)
  unfolding leave
  leave-goes config of branch request net = leave_for-goes config of branch request _ net

  begin-goes : (config : Config) (of : AppId) (branch : ℕ) (request : Request) (choice : Choice) (net : Net S) → Goes net (begin_by config of branch request choice net)
  unfolding begin_by
  begin-goes config of branch request (choices.App host order region subscriber route) net = send_to-goes of branch (peers.Inside host) _ request net
  begin-goes config of branch request (choices.Send routes) net = leave-goes config of branch _ net
  begin-goes config of branch request choices.Onward net = leave-goes config of branch request net
  begin-goes config of branch request choices.NotFound net = tell-goes config of branch 404 _ request net

  named-goes : (config : Config) (of : AppId) (branch : ℕ) (request : Request) (number : Option ℕ) (net : Net S) → Goes net (send_named config of branch request number net)
  unfolding send_named
  named-goes config of branch request None net = tell-goes config of branch 481 _ request net
  named-goes config of branch request (Some host) net = send_to-goes of branch (peers.Inside host) None request net

  later-goes : (config : Config) (of : AppId) (branch : ℕ) (request : Request) (net : Net S) → Goes net (send_later config of branch request net)
  unfolding send_later
  later-goes config of branch request net = if-goes _ net _ _ (named-goes config of branch request _ net) (leave-goes config of branch request net)

  ack-goes : (config : Config) (of : AppId) (request : Request) (net : Net S) → Goes net (acknowledge config of request net)
  unfolding acknowledge
  ack-goes config of request net = put-goes of.host _ (messages.Request request) None net

  send_cancel-goes : (of : AppId) (client : Client) (net : Net S) → Goes net (send_cancel of client net)
  unfolding send_cancel
  send_cancel-goes of client net = then-goes net _ _ (client-goes of.host _ net) (put-goes of.host client.peer _ None _)

  passed-goes : (of : AppId) (branch : ℕ) (cancelling : Bool) (item : ClientItem) (net : Net S) → Goes net (change_host of.host (pass_client of branch cancelling item) net)
  passed-goes of branch cancelling item net = change-goes of.host (pass_client of branch cancelling item) net (λ host ok. pass_client-clean of branch cancelling item host ok)

  cancel_by-goes : (of : AppId) (branch : ℕ) (client : Client) (net : Net S) → Goes net (cancel_by of branch client net)
  unfolding cancel_by
  cancel_by-goes of branch client net =
      let asked : Net S = change_host of.host (pass_client of branch false (client_items.CancelAsked net.moment)) net in
      let one = passed-goes of branch false (client_items.CancelAsked net.moment) net in
      if-goes _ net _ asked (then-goes net asked _ one (send_cancel-goes of client asked)) one

  cancel_for-goes : (of : AppId) (branch : ℕ) (at_once : Bool) (client : Option Client) (net : Net S) → Goes net (cancel_for of branch at_once client net)
  unfolding cancel_for
  cancel_for-goes of branch at_once None net = still net net refl refl
  cancel_for-goes of branch at_once (Some client) net = if-goes _ net _ net (cancel_by-goes of branch client net) (still net net refl refl)

  respond-goes : (number event : ℕ) (response : Response) (server : Option Server) (net : Net S) → Goes net (respond_by number event response server net)
  unfolding respond_by answered_server without_ended
  respond-goes number event response None net = still net net refl refl
  respond-goes number event response (Some server) net =
      if-goes _ net _ net
      (then-goes net _ _
      (change-goes number _ net (λ host ok. all-filter (Free sent) _ _ (all-first (Free sent) (is_server event) (answered_server response.code net.moment response) host.servers (λ s found free. free) ok)))
      (put-goes number server.peer (messages.Response response) None _)) (still net net refl refl)

  pub obey-goes : (setup : Setup) (of : AppId) (net : Net S) (order : Order) → Goes net (obey setup of net order)
  unfolding obey
  obey-goes setup of net (orders.Respond event response) = respond-goes of.host event response _ net
  obey-goes setup of net (orders.Begin branch directive region state request) = begin-goes setup.config of branch request _ net
  obey-goes setup of net (orders.Send branch request) = later-goes setup.config of branch request net
  obey-goes setup of net (orders.Acknowledge request) = ack-goes setup.config of request net
  obey-goes setup of net (orders.Cancel branch) = cancel_for-goes of branch false _ net
  obey-goes setup of net (orders.CancelNow branch) = cancel_for-goes of branch true _ net

  pub obeyed-goes : (given : List Order) (setup : Setup) (of : AppId) (net : Net S) → Goes net (obeyed setup of given net)
  unfolding obeyed
  obeyed-goes [] setup of net = still net net refl refl
  obeyed-goes (order ∷ given) setup of net = then-goes net (obey setup of net order) _ (obey-goes setup of net order) (obeyed-goes given setup of (obey setup of net order))

  without-goes : (of : AppId) (net : Net S) → Goes net (without_live of net)
  unfolding without_live without_ended
  without-goes of net = change-goes of.host _ net (λ host ok. all-filter (Free sent) _ host.servers ok)

  invalidated-goes : (setup : Setup) (of : AppId) (session : Session) (inbox : List Waiting) (net : Net S) → Goes net (invalidated setup of session inbox net)
  unfolding invalidated
  invalidated-goes setup of session inbox net = then-goes net _ _ (obeyed-goes _ setup of net) (without-goes of _)

  ready-goes : (of : AppId) (done : Outcome) (live : Option (Live S)) (net : Net S) → Goes net (with_ready of done live net)
  unfolding with_ready
  ready-goes of done None net = still net net refl refl
  ready-goes of done (Some live) net = if-goes _ net _ net (queue_for-goes of queued.Ready net) (still net net refl refl)

  pub closed-goes : (setup : Setup) (of : AppId) (done : Outcome) (ends : Bool) (net : Net S) → Goes net (closed_turn setup of done ends net)
  unfolding closed_turn
  closed-goes setup of done true net = invalidated-goes setup of done.session _ net
  closed-goes setup of done false net = ready-goes of done _ net

  -- ## A delivery

  delivered_at-goes : (form : Form S) (setup : Setup) (entry : Entry) (found : Option (Host S)) (net : Net S) → host_at entry.receiver net ≡ found → IsOnWay (IsApartFrom sent) entry.message
      → Goes net (deliver_at form setup entry found net)
  unfolding deliver_at
  delivered_at-goes form setup entry None net at way = still net net refl refl
  delivered_at-goes form setup entry (Some host) net at way =
      placed-goes entry.receiver _ host net at (λ ok. takes-clean form setup.config net.epoch entry.receiver entry.sender net.moment entry.note entry.message net.count host way ok)

  -- where the first of the wire has another branch
  pub first-goes : (form : Form S) (setup : Setup) (entry : Entry) (rest : List Entry) (net : Net S) → net.wire ≡ entry ∷ rest → IsOnWay (IsApartFrom sent) entry.message
      → Goes (record net { wire = rest }) (deliver_first form setup net)
  unfolding deliver_first deliver_entry
  first-goes form setup entry rest net is way = rw is (delivered_at-goes form setup entry _ (record net { wire = rest }) refl way)
