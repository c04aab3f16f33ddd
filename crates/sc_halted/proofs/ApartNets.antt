-- The same of nets: what a turn gives to send, and each message that is delivered.
use Rattle.std.proofs.Common.{◌++◌, ◌∙◌, ◌∷◌, ◌≡◌, Bool, List, None, Option, Some, [], ap, append-nil, append_assoc, cond, false, inl, inr, length, refl, slice_get, subst, sym, true, ℕ}
use Rattle.std.specs.Prelude.{◌&&◌, ◌==◌, ◌||◌, not, option_map}
use Rattle.sc_value.specs.Lists.{change_first, change_nth}
use Rattle.sc_value.specs.declared.ids.AppId.{AppId}
use Rattle.sc_value.specs.declared.ids.Place.{Place}
use Rattle.sc_value.specs.declared.message.Message.{Message}
use Rattle.sc_value.specs.declared.message.Message.TheVariants as messages
use Rattle.sc_value.specs.declared.message.Request.{Request}
use Rattle.sc_value.specs.declared.message.Response.{Response}
use Rattle.sc_value.proofs.ListFacts.{slice_get-change_nth}
use Rattle.sc_tokens.specs.Names.{same_bytes}
use Rattle.sc_terms.specs.declared.settings.Config.{Config}
use Rattle.sc_parts.specs.declared.choice.Choice.{Choice}
use Rattle.sc_parts.specs.declared.choice.Choice.TheVariants as choices
use Rattle.sc_parts.specs.declared.setup.Setup.{Setup}
use Rattle.sc_parts.specs.declared.transactions.ClientItem.{ClientItem}
use Rattle.sc_parts.specs.declared.transactions.ClientItem.TheVariants as client_items
use Rattle.sc_state.specs.Hosts.{Host}
use Rattle.sc_state.specs.declared.host.Client.{Client}
use Rattle.sc_state.specs.declared.host.Live.{Live}
use Rattle.sc_state.specs.declared.host.Peer.{Peer}
use Rattle.sc_state.specs.declared.host.Peer.TheVariants as peers
use Rattle.sc_state.specs.declared.host.Reply.{Reply}
use Rattle.sc_state.specs.declared.host.Server.{Server}
use Rattle.sc_state.specs.declared.host.Taken.{Taken}
use Rattle.sc_state.specs.declared.net.Entry.{Entry}
use Rattle.sc_state.specs.declared.net.Net.{Net}
use Rattle.sc_state.specs.declared.net.Note.{Note}
use Rattle.sc_state.specs.declared.orders.Order.{Order}
use Rattle.sc_state.specs.declared.orders.Order.TheVariants as orders
use Rattle.sc_state.specs.declared.orders.Outcome.{Outcome}
use Rattle.sc_state.specs.declared.queue.Queued.{Queued}
use Rattle.sc_state.specs.declared.queue.Queued.TheVariants as queued
use Rattle.sc_state.specs.declared.session.Session.{Session}
use Rattle.sc_tokens.specs.Bytes.{Bytes}
use Rattle.sc_model.specs.Names.{branch_text}
use Rattle.sc_model.specs.OwnHosts.{is_own}
use Rattle.sc_model.specs.ServerTransactions.{is_sent}
use Rattle.sc_hosts.specs.Destinations.{next_uri}
use Rattle.sc_hosts.specs.Finishing.{is_ready}
use Rattle.sc_hosts.specs.Histories.{as_session}
use Rattle.sc_hosts.specs.Messages.{cancel_of, kin}
use Rattle.sc_hosts.specs.Nets.{acknowledge, answered_server, begin_by, cancel_by, cancel_for, change_host, client_at, deliver_at, deliver_entry, deliver_first, host_at, leave, leave_for, named_host, obey, after_orders as obeyed, with_host_after as placed, with_message as put, put_reply, queue_for, queued_at, respond_by, send_cancel, send_later, send_named, send_to, tell_own, with_routes}
use Rattle.sc_hosts.specs.Steps.{with_ready}
use Rattle.sc_hosts.specs.Taking.{takes}
use Rattle.sc_hosts.specs.TakingResponses.{cancelling}
use Rattle.sc_hosts.specs.Transacting.{client_passed, is_client, is_invite_client, is_invite_server, is_over, is_proceeding, is_server, out_of_client, pass_client, state_of_client, without_ended, with_client}
use Rattle.sc_once.proofs.ChangedHosts.{changed_hosts}
use Rattle.sc_lasting.specs.Lasting.{All}
use Rattle.sc_lasting.proofs.Parts.{all-append, all-both, all-filter, all-first, all-found, all-map}
use Rattle.sc_keyed.specs.Keyed.{IsIn}
use Rattle.sc_ways.proofs.FirstHop.{in-last}
use Rattle.sc_halted.proofs.Apart.{B, Free, FreeLast, FreeReply, IsFree, LastFree, Other, Right, Took, Well, kin-free, queue-took, takes-took}

one-of : {A : Type 0} (P : A → Type 0) (x : A) → P x → All P (x ∷ [])
unfolding All
one-of P x p = (p, tt)

none-of : {A : Type 0} (P : A → Type 0) → All P []
unfolding All
none-of P = tt

module _ (salt : Bytes) (epoch : ℕ) (C : Client) (fresh : is_over (state_of_client C) ≡ false) where
  abbrev pub FreeEntry : Entry → Type 0
  FreeEntry entry = IsFree salt epoch C entry.message

  module _ (H : Type 0) where
    abbrev pub AllWell : Net Session → Type 0
    AllWell net = (number : ℕ) (host : Host Session) → host_at number net ≡ Some host → Well salt epoch C H fresh number host

    -- the hosts are so still, and what is new on the wire hasn't the branch
    pub record Moves (net changed : Net Session) : Type 0 where
      pub well : AllWell changed
      pub more : List Entry
      pub wire : changed.wire ≡ net.wire ++ more
      pub free : All FreeEntry more

    still : (net changed : Net Session) → changed.hosts ≡ net.hosts → changed.wire ≡ net.wire → AllWell net → Moves net changed
    still net changed hosts wire well = record {
      well = λ n host at. well n host (sym (ap (λ (all : List (Host Session)). slice_get all n) hosts) ∙ at);
      more = [];
      wire = wire ∙ sym (append-nil net.wire);
      free = none-of FreeEntry;
    }

    pub then-moves : (x y z : Net Session) → Moves x y → Moves y z → Moves x z
    then-moves x y z p q = record {
      well = q.well;
      more = p.more ++ q.more;
      wire = q.wire ∙ (ap (λ (w : List Entry). w ++ q.more) p.wire ∙ append_assoc x.wire p.more q.more);
      free = all-both FreeEntry p.more q.more p.free q.free;
    }

    if-moves : (b : Bool) (net x y : Net Session) → Moves net x → Moves net y → Moves net (cond b x y)
    if-moves true net x y p q = p
    if-moves false net x y p q = q

    pub change-moves : (number : ℕ) (change : Host Session → Host Session) (net : Net Session) → ((host : Host Session) → Well salt epoch C H fresh number host → Well salt epoch C H fresh number (change host)) → AllWell net
        → Moves net (change_host number change net)
    change-moves number change net each well = record {
      well = λ n host is. changed_hosts (λ (m : ℕ) (h : Host Session). Well salt epoch C H fresh m h) number change net (λ h at ok. each h ok) well n host (n == number) refl is;
      more = [];
      wire = sym (append-nil net.wire);
      free = none-of FreeEntry;
    }

    put-moves : (sender : ℕ) (peer : Peer) (message : Message) (noted : Option Note) (net : Net Session) → IsFree salt epoch C message → AllWell net → Moves net (put sender peer message noted net)
    unfolding put
    put-moves sender (peers.Outside place) message noted net free well = still net _ refl refl well
    put-moves sender (peers.Inside host) message noted net free well = record {
      well = well;
      more = record { sender = sender; receiver = host; message = message; note = noted } ∷ [];
      wire = refl;
      free = one-of FreeEntry _ free;
    }
    put-moves sender peers.Nowhere message noted net free well = still net net refl refl well

    reply-moves : (sender : ℕ) (reply : Option Reply) (net : Net Session) → FreeReply salt epoch C reply → AllWell net → Moves net (put_reply sender reply net)
    unfolding put_reply FreeReply
    reply-moves sender None net free well = still net net refl refl well
    reply-moves sender (Some reply) net free well = put-moves sender reply.peer reply.message None net free well

    placed-moves : (number : ℕ) (taken : Taken Session) (net : Net Session) → Took salt epoch C H fresh number taken → AllWell net → Moves net (placed number taken net)
    unfolding placed
    placed-moves number taken net took well =
        let changed : Net Session = change_host number (λ host. taken.host) net in
        let one = change-moves number (λ host. taken.host) net (λ host ok. took.0) well in
        then-moves net (record changed { count = taken.count }) _ (record { well = one.well; more = one.more; wire = one.wire; free = one.free })
        (reply-moves number taken.reply (record changed { count = taken.count }) took.1 one.well)

    queued_at-moves : (of : AppId) (event : Queued) (found : Option (Host Session)) (net : Net Session) → host_at of.host net ≡ found → AllWell net → Moves net (queued_at of event found net)
    unfolding queued_at
    queued_at-moves of event None net at well = still net net refl refl well
    queued_at-moves of event (Some host) net at well = placed-moves of.host _ net (queue-took salt epoch C H fresh of.host of.serial net.moment event net.count host (well of.host host at)) well

    pub queue_for-moves : (of : AppId) (event : Queued) (net : Net Session) → AllWell net → Moves net (queue_for of event net)
    unfolding queue_for
    queue_for-moves of event net well = queued_at-moves of event _ net refl well

    pub ready-moves : (of : AppId) (done : Outcome) (live : Option (Live Session)) (net : Net Session) → AllWell net → Moves net (with_ready of done live net)
    unfolding with_ready
    ready-moves of done None net well = still net net refl refl well
    ready-moves of done (Some live) net well =
        if-moves (length live.inbox == 0 && is_ready done.session && done.session.view.ready_flag) net (queue_for of queued.Ready net) net (queue_for-moves of queued.Ready net well) (still net net refl refl well)

    -- ## A delivery

    at-moves : (setup : Setup) (entry : Entry) (found : Option (Host Session)) (net : Net Session) → setup.config.salt ≡ salt → net.epoch ≡ epoch → host_at entry.receiver net ≡ found → FreeEntry entry → AllWell net
        → Moves net (deliver_at as_session setup entry found net)
    unfolding deliver_at
    at-moves setup entry None net salted same at free well = still net net refl refl well
    at-moves setup entry (Some host) net salted same at free well =
        placed-moves entry.receiver _ net
        (subst (λ (e : ℕ). Took salt epoch C H fresh entry.receiver (takes as_session setup.config (record { host = entry.receiver; epoch = e; from = peers.Inside entry.sender; now = net.moment; count = net.count }) entry.note entry.message host)) (sym same)
        (takes-took salt epoch C H fresh as_session setup.config entry.receiver (peers.Inside entry.sender) net.moment entry.note entry.message net.count host salted free (well entry.receiver host at))) well

    -- where the first of the wire hasn't the branch
    pub first-moves : (setup : Setup) (entry : Entry) (rest : List Entry) (net : Net Session) → setup.config.salt ≡ salt → net.epoch ≡ epoch → net.wire ≡ entry ∷ rest → FreeEntry entry → AllWell net
        → Moves (record net { wire = rest }) (deliver_first as_session setup net)
    unfolding deliver_first deliver_entry
    first-moves setup entry rest net salted same is free well = rw is (at-moves setup entry _ (record net { wire = rest }) salted same refl free well)

  -- ## What a session gives to send before it begins

  -- what an order of this session sends hasn't the branch
  unfoldable pub FreeOrder : AppId → Order → Type 0
  FreeOrder of (orders.Respond event response) = Free salt epoch C response.head.via
  FreeOrder of (orders.Begin branch directive region state request) =
      (same_bytes (B salt epoch C) (branch_text salt epoch of branch) ≡ false) × Free salt epoch C request.head.via
  FreeOrder of (orders.Send branch request) = (same_bytes (B salt epoch C) (branch_text salt epoch of branch) ≡ false) × Free salt epoch C request.head.via
  FreeOrder of (orders.Acknowledge request) = Free salt epoch C request.head.via
  FreeOrder of (orders.Cancel branch) = Unit {0}
  FreeOrder of (orders.CancelNow branch) = Unit {0}

  abbrev pub Before : Net Session → Net Session → Type 0
  Before net changed = Moves ⊥ net changed

  abbrev pub OtherNet : Net Session → Type 0
  OtherNet net = AllWell ⊥ net

  other-of : (client : Client) → Right salt epoch C ⊥ fresh client → Other salt epoch C client
  other-of client (inl own) = absurd own.0
  other-of client (inr other) = other

  tell-moves : (config : Config) (of : AppId) (branch code : ℕ) (reason : Bytes) (request : Request) (net : Net Session) → OtherNet net → Before net (tell_own config of branch code reason request net)
  unfolding tell_own
  tell-moves config of branch code reason request net well = queue_for-moves ⊥ of _ net well

  client-moves : (of : AppId) (client : Client) (net : Net Session) → Other salt epoch C client → OtherNet net → Before net (change_host of.host (with_client client) net)
  client-moves of client net other well =
      change-moves ⊥ of.host (with_client client) net (λ host ok. (all-append (Right salt epoch C ⊥ fresh) host.clients client ok.0 (inr other), ok.1, λ none. absurd none)) well

  send_to-moves : (of : AppId) (branch : ℕ) (peer : Peer) (noted : Option Note) (request : Request) (net : Net Session) → same_bytes (B salt epoch C) (branch_text salt epoch of branch) ≡ false → Free salt epoch C request.head.via
      → OtherNet net → Before net (send_to of branch peer noted request net)
  unfolding send_to IsFree
  send_to-moves of branch peer noted request net away free well =
      let client : Client = record { app = of; branch = branch; peer = peer; request = request; sent = net.moment; passed = [] } in
      let one = client-moves of client net (record { names = away; via = free }) well in
      then-moves ⊥ net (change_host of.host (with_client client) net) _ one (put-moves ⊥ of.host peer (messages.Request request) noted (change_host of.host (with_client client) net) free one.well)

  leave_for-moves : (config : Config) (of : AppId) (branch : ℕ) (request : Request) (place : Option Place) (net : Net Session) → same_bytes (B salt epoch C) (branch_text salt epoch of branch) ≡ false → Free salt epoch C request.head.via
      → OtherNet net → Before net (leave_for config of branch request place net)
  unfolding leave_for
  leave_for-moves config of branch request None net away free well = tell-moves config of branch 503 _ request net well
  leave_for-moves config of branch request (Some place) net away free well = send_to-moves of branch (peers.Outside place) None request net away free well

  leave-moves : (config : Config) (of : AppId) (branch : ℕ) (request : Request) (net : Net Session) → same_bytes (B salt epoch C) (branch_text salt epoch of branch) ≡ false → Free salt epoch C request.head.via → OtherNet net
      → Before net (leave config of branch request net)
  unfolding leave
  leave-moves config of branch request net away free well = leave_for-moves config of branch request _ net away free well

  begin-moves : (config : Config) (of : AppId) (branch : ℕ) (request : Request) (choice : Choice) (net : Net Session) → same_bytes (B salt epoch C) (branch_text salt epoch of branch) ≡ false → Free salt epoch C request.head.via
      → OtherNet net → Before net (begin_by config of branch request choice net)
  unfolding begin_by
  begin-moves config of branch request (choices.App host order region subscriber route) net away free well = send_to-moves of branch (peers.Inside host) _ request net away free well
  begin-moves config of branch request (choices.Send routes) net away free well = leave-moves config of branch (with_routes routes request) net away free well
  begin-moves config of branch request choices.Onward net away free well = leave-moves config of branch request net away free well
  begin-moves config of branch request choices.NotFound net away free well = tell-moves config of branch 404 _ request net well

  named-moves : (config : Config) (of : AppId) (branch : ℕ) (request : Request) (number : Option ℕ) (net : Net Session) → same_bytes (B salt epoch C) (branch_text salt epoch of branch) ≡ false → Free salt epoch C request.head.via
      → OtherNet net → Before net (send_named config of branch request number net)
  unfolding send_named
  named-moves config of branch request None net away free well = tell-moves config of branch 481 _ request net well
  named-moves config of branch request (Some host) net away free well = send_to-moves of branch (peers.Inside host) None request net away free well

  later-moves : (config : Config) (of : AppId) (branch : ℕ) (request : Request) (net : Net Session) → same_bytes (B salt epoch C) (branch_text salt epoch of branch) ≡ false → Free salt epoch C request.head.via → OtherNet net
      → Before net (send_later config of branch request net)
  unfolding send_later
  later-moves config of branch request net away free well =
      if-moves ⊥ (is_own config (next_uri request)) net (send_named config of branch request (named_host (next_uri request) net) net) (leave config of branch request net)
      (named-moves config of branch request _ net away free well) (leave-moves config of branch request net away free well)

  ack-moves : (config : Config) (of : AppId) (request : Request) (net : Net Session) → Free salt epoch C request.head.via → OtherNet net → Before net (acknowledge config of request net)
  unfolding acknowledge IsFree
  ack-moves config of request net free well = put-moves ⊥ of.host _ (messages.Request request) None net free well

  passed-moves : (of : AppId) (branch : ℕ) (item : ClientItem) (net : Net Session) → OtherNet net → Before net (change_host of.host (pass_client of branch false item) net)
  unfolding pass_client client_passed without_ended
  passed-moves of branch item net well =
      change-moves ⊥ of.host (pass_client of branch false item) net
      (λ host ok. (
        all-filter (Right salt epoch C ⊥ fresh) _ _
            (all-first (Right salt epoch C ⊥ fresh) (is_client of branch false) (client_passed item) host.clients (λ x found right. inr (record { names = (other-of x right).names; via = (other-of x right).via })) ok.0),
        all-filter (LastFree salt epoch C) _ host.servers ok.1,
        λ none. absurd none,
      )) well

  send_cancel-moves : (of : AppId) (client : Client) (net : Net Session) → Other salt epoch C client → OtherNet net → Before net (send_cancel of client net)
  unfolding send_cancel cancelling cancel_of kin IsFree
  send_cancel-moves of client net other well =
      let one = client-moves of (cancelling net.moment client) net (record { names = other.names; via = kin-free salt epoch C client.request.head.via other.via }) well in
      then-moves ⊥ net (change_host of.host (with_client (cancelling net.moment client)) net) _ one
      (put-moves ⊥ of.host client.peer (messages.Request (cancel_of client.request)) None (change_host of.host (with_client (cancelling net.moment client)) net) (kin-free salt epoch C client.request.head.via other.via) one.well)

  cancel_by-moves : (of : AppId) (branch : ℕ) (client : Client) (net : Net Session) → Other salt epoch C client → OtherNet net → Before net (cancel_by of branch client net)
  unfolding cancel_by
  cancel_by-moves of branch client net other well =
      let asked : Net Session = change_host of.host (pass_client of branch false (client_items.CancelAsked net.moment)) net in
      let one = passed-moves of branch (client_items.CancelAsked net.moment) net well in
      if-moves ⊥ (out_of_client client (client_items.CancelAsked net.moment)).cancel net (send_cancel of client asked) asked (then-moves ⊥ net asked _ one (send_cancel-moves of client asked other one.well)) one

  cancel_for-moves : (of : AppId) (branch : ℕ) (at_once : Bool) (client : Option Client) (net : Net Session) → ((c : Client) → client ≡ Some c → Other salt epoch C c) → OtherNet net → Before net (cancel_for of branch at_once client net)
  unfolding cancel_for
  cancel_for-moves of branch at_once None net other well = still ⊥ net net refl refl well
  cancel_for-moves of branch at_once (Some client) net other well =
      if-moves ⊥ (is_invite_client client && (not at_once || is_proceeding (state_of_client client))) net (cancel_by of branch client net) net (cancel_by-moves of branch client net (other client refl) well) (still ⊥ net net refl refl well)

  client-other : (of : AppId) (branch : ℕ) (found : Option (Host Session)) (net : Net Session) → host_at of.host net ≡ found → OtherNet net → (c : Client) → client_at of branch found ≡ Some c → Other salt epoch C c
  unfolding client_at
  client-other of branch None net at well c is = cc
  client-other of branch (Some host) net at well c is = other-of c (all-found (Right salt epoch C ⊥ fresh) (is_client of branch false) host.clients c is (well of.host host at).0)

  answered-free : (event : ℕ) (response : Response) (now : ℕ) (servers : List Server) → Free salt epoch C response.head.via → All (LastFree salt epoch C) servers
      → All (LastFree salt epoch C) (change_first (is_server event) (answered_server response.code now response) servers)
  unfolding answered_server FreeLast
  answered-free event response now servers free all = all-first (LastFree salt epoch C) (is_server event) (answered_server response.code now response) servers (λ server found was. free) all

  respond-moves : (number event : ℕ) (response : Response) (server : Option Server) (net : Net Session) → Free salt epoch C response.head.via → OtherNet net → Before net (respond_by number event response server net)
  unfolding respond_by without_ended IsFree
  respond-moves number event response None net free well = still ⊥ net net refl refl well
  respond-moves number event response (Some server) net free well =
      let changed : Net Session = change_host number (λ host. without_ended (record host { servers = change_first (is_server event) (answered_server response.code net.moment response) host.servers })) net in
      let one = change-moves ⊥ number (λ host. without_ended (record host { servers = change_first (is_server event) (answered_server response.code net.moment response) host.servers })) net
      (λ host ok. (
        all-filter (Right salt epoch C ⊥ fresh) _ host.clients ok.0,
        all-filter (LastFree salt epoch C) _ _ (answered-free event response net.moment host.servers free ok.1),
        λ none. absurd none,
      )) well in
      if-moves ⊥ (is_sent (is_invite_server server) server.passed response.code) net (put number server.peer (messages.Response response) None changed) net
      (then-moves ⊥ net changed _ one (put-moves ⊥ number server.peer (messages.Response response) None changed free one.well)) (still ⊥ net net refl refl well)

  obey-moves : (setup : Setup) (of : AppId) (net : Net Session) (order : Order) → FreeOrder of order → OtherNet net → Before net (obey setup of net order)
  unfolding obey FreeOrder
  obey-moves setup of net (orders.Respond event response) free well = respond-moves of.host event response _ net free well
  obey-moves setup of net (orders.Begin branch directive region state request) free well = begin-moves setup.config of branch request _ net free.0 free.1 well
  obey-moves setup of net (orders.Send branch request) free well = later-moves setup.config of branch request net free.0 free.1 well
  obey-moves setup of net (orders.Acknowledge request) free well = ack-moves setup.config of request net free well
  obey-moves setup of net (orders.Cancel branch) free well = cancel_for-moves of branch false _ net (client-other of branch _ net refl well) well
  obey-moves setup of net (orders.CancelNow branch) free well = cancel_for-moves of branch true _ net (client-other of branch _ net refl well) well

  pub obeyed-moves : (given : List Order) (setup : Setup) (of : AppId) (net : Net Session) → All (FreeOrder of) given → OtherNet net → Before net (obeyed setup of given net)
  unfolding obeyed All
  obeyed-moves [] setup of net free well = still ⊥ net net refl refl well
  obeyed-moves (order ∷ given) setup of net free well =
      let one = obey-moves setup of net order free.0 well in
      then-moves ⊥ net (obey setup of net order) _ one (obeyed-moves given setup of (obey setup of net order) free.1 one.well)

  -- ## It begins

  held-of : (client : Client) → Right salt epoch C ⊥ fresh client → Right salt epoch C (Unit {0}) fresh client
  held-of client right = inr (other-of client right)

  both-kept : (number : ℕ) (net : Net Session) → OtherNet net → (host : Host Session) → host_at number net ≡ Some host → All (Right salt epoch C (Unit {0}) fresh) host.clients × All (LastFree salt epoch C) host.servers
  both-kept number net well host at =
      (all-map (Right salt epoch C ⊥ fresh) (Right salt epoch C (Unit {0}) fresh) host.clients held-of (well number host at).0, (well number host at).1)

  begun-in : (found : Option (Host Session)) (host : Host Session) → option_map {T = Host Session} {U = Host Session} (λ h. with_client C h) found ≡ Some host → IsIn C host.clients
  begun-in None host is = cc
  begun-in (Some h) host is = subst (λ (x : Host Session). IsIn C x.clients) (same-host (with_client C h) host is) (in-last C h.clients)
    where
      same-host : (x y : Host Session) → Some x ≡ Some y → x ≡ y
      same-host x y is = cc

  pub begins-well : (net : Net Session) → OtherNet net → AllWell (Unit {0}) (change_host C.app.host (with_client C) net)
  begins-well net well =
      λ n host is.
      let kept = changed_hosts (λ (m : ℕ) (h : Host Session). All (Right salt epoch C (Unit {0}) fresh) h.clients × All (LastFree salt epoch C) h.servers) C.app.host (with_client C) net
      (λ h at ok. (all-append (Right salt epoch C (Unit {0}) fresh) h.clients C ok.0 (inl (tt, refl)), ok.1)) (λ m h at. both-kept m net well h at) n host (n == C.app.host) refl is in (
        kept.0,
        kept.1,
        λ held here. begun-in (host_at C.app.host net) host
            (sym (slice_get-change_nth C.app.host (with_client C) net.hosts) ∙ subst (λ (m : ℕ). slice_get (change_nth C.app.host (with_client C) net.hosts) m ≡ Some host) here is),
      )
