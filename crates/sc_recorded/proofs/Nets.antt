-- What a session gives to send, and what is delivered, keeps what stands of one session's beginning and of requests between hosts.
use Rattle.std.proofs.Common.{◌≡◌, ◌⊎◌, inl, inr, ℕ, zero, suc, Bool, true, false, Option, None, Some, List, [], ◌∷◌, refl, sym, subst, ◌∙◌, arith}
use Rattle.std.specs.Prelude.{◌==◌, cond, drop, is_some, option_map, slice_get}
use Rattle.std.proofs.lemmas.Bool.Decides.{nat_tests}
use Rattle.sc_value.specs.Lists.{change_nth}
use Rattle.sc_value.proofs.ListFacts.{slice_get-change_nth}
use Rattle.sc_value.specs.declared.ids.AppId.{AppId}
use Rattle.sc_value.specs.declared.ids.Place.{Place}
use Rattle.sc_value.specs.declared.message.Message.{Message}
use Rattle.sc_value.specs.declared.message.Message.TheVariants as messages
use Rattle.sc_value.specs.declared.message.Request.{Request}
use Rattle.sc_value.specs.declared.message.Response.{Response}
use Rattle.sc_terms.specs.declared.settings.Config.{Config}
use Rattle.sc_parts.specs.declared.choice.Choice.{Choice}
use Rattle.sc_parts.specs.declared.choice.Choice.TheVariants as choices
use Rattle.sc_parts.specs.declared.setup.Setup.{Setup}
use Rattle.sc_parts.specs.declared.transactions.ClientItem.{ClientItem}
use Rattle.sc_parts.specs.declared.transactions.ClientItem.TheVariants as client_items
use Rattle.sc_state.specs.Hosts.{Host}
use Rattle.sc_state.specs.declared.host.Client.{Client}
use Rattle.sc_state.specs.declared.host.Peer.{Peer}
use Rattle.sc_state.specs.declared.host.Peer.TheVariants as peers
use Rattle.sc_state.specs.declared.host.Reply.{Reply}
use Rattle.sc_state.specs.declared.host.Server.{Server}
use Rattle.sc_state.specs.declared.host.Taken.{Taken}
use Rattle.sc_state.specs.declared.net.Entry.{Entry}
use Rattle.sc_state.specs.declared.net.Net.{Net}
use Rattle.sc_state.specs.declared.net.Note.{Note}
use Rattle.sc_state.specs.declared.orders.Order.{Order}
use Rattle.sc_state.specs.declared.orders.Order.TheVariants as orders
use Rattle.sc_state.specs.declared.queue.Queued.{Queued}
use Rattle.sc_tokens.specs.Bytes.{Bytes}
use Rattle.sc_hosts.specs.Messages.{cancel_of}
use Rattle.sc_hosts.specs.Nets.{host_at, change_host, with_message as put, put_reply, with_host_after as placed, queued_at, queue_for, tell_own, send_to, leave_for, leave, begin_by, client_at, send_named, send_later, acknowledge, send_cancel, cancel_by, cancel_for, answered_server, respond_by, obey, after_orders as obeyed, is_busy, deliver_at, deliver_entry, deliver_first, weight}
use Rattle.sc_hosts.specs.Runs.{after_delivery as delivered}
use Rattle.sc_hosts.specs.Sessions.{Form}
use Rattle.sc_hosts.specs.Settle.{steps, settle}
use Rattle.sc_hosts.specs.TakingResponses.{cancelling}
use Rattle.sc_hosts.specs.Transacting.{is_client, is_server, without_ended, pass_client, with_client}
use Rattle.sc_lasting.specs.Lasting.{All}
use Rattle.sc_lasting.proofs.Parts.{all-append, all-filter, all-first, all-found, all-map}
use Rattle.sc_lasting.proofs.Shared.{all-rest, all-at}
use Rattle.sc_once.proofs.ChangedHosts.{changed_hosts}
use Rattle.sc_hops.specs.Hops.{IsOnWay, IsReplied}
use Rattle.sc_recorded.specs.Recorded.{IsInner, IsTaggedEvent}
use Rattle.sc_recorded.proofs.Hosts.{AreKinds, Began, Good, Grows, IsLiveAs, IsSent, IsServed, MessageComes, Took, more-served, pass_client-good, queue-took, takes-began}

equal : (a b : ℕ) → (a == b) ≡ true → a ≡ b
equal a b is = grind (arith, nat_tests, is)

itself-apart : (n : ℕ) → (n == n) ≡ false → ⊥
itself-apart n is = grind (arith, nat_tests, is)

is-changed : {A : Type 0} (new host : A) (found : Option A) → option_map (λ (old : A). new) found ≡ Some host → host ≡ new
is-changed new host None is = cc
is-changed new host (Some old) is = cc

module _ {S : Type 0} (form : Form S) (app : AppId) (request_of : S → Request) (Lives : S → Type 0) (Sound : Option Request → Request → Type 0) (kinds : AreKinds form request_of Lives Sound) where
  -- the host of this number is so
  abbrev Right : Option Request → ℕ → Host S → Type 0
  Right known number host = Good form app request_of Lives Sound kinds known number host

  abbrev Fits : Option Request → Request → Type 0
  Fits known request = Sound known request

  -- so it is of each host, and what is on its way is of the kind
  pub record Holds (known : Option Request) (net : Net S) : Type 0 where
    pub hosts : (number : ℕ) (host : Host S) → host_at number net ≡ Some host → Right known number host
    pub wire : All (λ (entry : Entry). IsOnWay (Sound known) entry.message) net.wire

  -- the net is so with what is known of the beginning then
  pub record Goes (known : Option Request) (net : Net S) : Type 0 where
    pub later : Option Request
    pub grows : (later ≡ known) ⊎ (known ≡ None)
    pub holds : Holds later net

  pub goes : (known : Option Request) (net : Net S) → Holds known net → Goes known net
  goes known net holds = record { later = known; grows = inl refl; holds = holds }

  grown : (known middle later : Option Request) → (middle ≡ known) ⊎ (known ≡ None) → (later ≡ middle) ⊎ (middle ≡ None) → (later ≡ known) ⊎ (known ≡ None)
  grown known middle later (inl p) (inl q) = inl (q ∙ p)
  grown known middle later (inl p) (inr q) = inr (sym p ∙ q)
  grown known middle later (inr p) q = inr p

  pub goes-then : (known : Option Request) (x y : Net S) → Goes known x → ((middle : Option Request) → Holds middle x → Goes middle y) → Goes known y
  goes-then known x y one next =
      let two = next one.later one.holds in record { later = two.later; grows = grown known one.later two.later one.grows two.grows; holds = two.holds }

  pub if-holds : (known : Option Request) (b : Bool) (x y : Net S) → Holds known x → Holds known y → Holds known (cond b x y)
  if-holds known true x y p q = p
  if-holds known false x y p q = q

  pub if-goes : (known : Option Request) (b : Bool) (x y : Net S) → Goes known x → Goes known y → Goes known (cond b x y)
  if-goes known true x y p q = p
  if-goes known false x y p q = q

  -- ## A host changes

  pub changes : (known : Option Request) (number : ℕ) (change : Host S → Host S) (net : Net S) → ((host : Host S) → host_at number net ≡ Some host → Right known number host → Right known number (change host))
      → Holds known net → Holds known (change_host number change net)
  changes known number change net keeps holds = record {
    hosts = λ n host is. changed_hosts (Right known) number change net keeps holds.hosts n host (n == number) refl is;
    wire = holds.wire;
  }

  -- ## Messages on their way

  on-way : (known : Option Request) (peer : Peer) (sender : ℕ) (message : Message) (noted : Option Note) (net : Net S) → IsOnWay (Sound known) message → Holds known net
      → Holds known (put sender peer message noted net)
  unfolding put
  on-way known (peers.Outside place) sender message noted net way holds = record { hosts = holds.hosts; wire = holds.wire }
  on-way known (peers.Inside host) sender message noted net way holds =
      record { hosts = holds.hosts; wire = all-append (λ (entry : Entry). IsOnWay (Sound known) entry.message) net.wire _ holds.wire way }
  on-way known peers.Nowhere sender message noted net way holds = holds

  pub put-holds : (known : Option Request) (sender : ℕ) (peer : Peer) (message : Message) (noted : Option Note) (net : Net S) → IsOnWay (Sound known) message → Holds known net
      → Holds known (put sender peer message noted net)
  put-holds known sender peer message noted net way holds = on-way known peer sender message noted net way holds

  pub answer-holds : (known : Option Request) (sender : ℕ) (peer : Peer) (response : Response) (net : Net S) → Holds known net → Holds known (put sender peer (messages.Response response) None net)
  unfolding IsOnWay
  answer-holds known sender peer response net holds = put-holds known sender peer (messages.Response response) None net tt holds

  put_reply-holds : (known : Option Request) (sender : ℕ) (reply : Option Reply) (net : Net S) → IsReplied (Sound known) reply → Holds known net → Holds known (put_reply sender reply net)
  unfolding put_reply IsReplied
  put_reply-holds known sender None net way holds = holds
  put_reply-holds known sender (Some reply) net way holds = put-holds known sender reply.peer reply.message None net way holds

  counted : (known : Option Request) (count : ℕ) (net : Net S) → Holds known net → Holds known (record net { count = count })
  counted known count net holds = record { hosts = holds.hosts; wire = holds.wire }

  pub placed-holds : (known : Option Request) (number : ℕ) (taken : Taken S) (net : Net S) → Took form app request_of Lives Sound kinds known number taken → Holds known net
      → Holds known (placed number taken net)
  unfolding placed
  placed-holds known number taken net took holds =
      put_reply-holds known number taken.reply _ took.way
      (counted known taken.count (change_host number (λ host. taken.host) net) (changes known number (λ host. taken.host) net (λ host at was. took.good) holds))

  -- ## A session begins

  more-wire : (first : Request) (message : Message) → IsOnWay (Sound None) message → IsOnWay (Sound (Some first)) message
  unfolding IsOnWay
  more-wire first (messages.Request request) way = kinds.more first request way
  more-wire first (messages.Response response) way = tt

  none-some : (request : Request) → ◌≡◌ {A = Option Request} None (Some request) → ⊥
  none-some request is = cc

  -- at another host nothing was known of the session
  more-host : (first : Request) (number : ℕ) (host : Host S) → (number ≡ app.host → ⊥) → Right None number host → Right (Some first) number host
  more-host first number host other good = record {
    sessions = all-map (IsLiveAs form app request_of Lives Sound kinds None number) (IsLiveAs form app request_of Lives Sound kinds (Some first) number) host.sessions
        (λ live ok. (ok.0, λ same. absurd (none-some _ (ok.1 same)), ok.2, ok.3)) good.sessions;
    servers = all-map (IsServed form app request_of Lives Sound kinds None) (IsServed form app request_of Lives Sound kinds (Some first)) host.servers
        (more-served form app request_of Lives Sound kinds number first) good.servers;
    clients = all-map (IsSent form app request_of Lives Sound kinds None) (IsSent form app request_of Lives Sound kinds (Some first)) host.clients (λ client sound. kinds.more first client.request sound) good.clients;
    last = λ here. absurd (other here);
  }

  moved : (first : Request) (number : ℕ) (new : Host S) (net : Net S) → number ≡ app.host → Right (Some first) number new → Holds None net
      → (n : ℕ) (host : Host S) (b : Bool) → (n == number) ≡ b → host_at n (change_host number (λ _. new) net) ≡ Some host → Right (Some first) n host
  moved first number new net here good holds n host true at is =
      let same : n ≡ number = equal n number at in
      let found : option_map (λ (old : Host S). new) (host_at number net) ≡ Some host =
      sym (slice_get-change_nth number (λ (old : Host S). new) net.hosts) ∙ subst (λ (m : ℕ). slice_get (change_nth number (λ (old : Host S). new) net.hosts) m ≡ Some host) same is in
      subst (λ (m : ℕ). Right (Some first) m host) (sym same) (subst (λ (h : Host S). Right (Some first) number h) (sym (is-changed new host (host_at number net) found)) good)
  moved first number new net here good holds n host false at is =
      let other : ℕ → Host S → Type 0 = λ m h. (m == number) ≡ false → Right (Some first) m h in
      changed_hosts other number (λ _. new) net (λ h there was apart. absurd (itself-apart number apart))
      (λ m h there apart. more-host first m h (λ m-here. absurd (differ m number apart (m-here ∙ sym here))) (holds.hosts m h there)) n host false at is at
    where
      differ : (a b : ℕ) → (a == b) ≡ false → a ≡ b → ⊥
      differ a b is same = grind (arith, nat_tests, is, same)

  begun-holds : (later : Option Request) (number : ℕ) (taken : Taken S) (net : Net S) → number ≡ app.host → is_some later ≡ true → Took form app request_of Lives Sound kinds later number taken
      → Holds None net → Holds later (placed number taken net)
  unfolding placed
  begun-holds None number taken net here some took holds = cc
  begun-holds (Some first) number taken net here some took holds =
      put_reply-holds (Some first) number taken.reply _ took.way (record {
        hosts = λ n host is. moved first number taken.host net here took.good holds n host (n == number) refl is;
        wire = all-map (λ (entry : Entry). IsOnWay (Sound None) entry.message) (λ (entry : Entry). IsOnWay (Sound (Some first)) entry.message) net.wire (λ entry way. more-wire first entry.message way) holds.wire;
      })

  placed-by : (known later : Option Request) (number : ℕ) (taken : Taken S) (net : Net S) → Grows form app request_of Lives Sound kinds number known later
      → Took form app request_of Lives Sound kinds later number taken → Holds known net → Goes known (placed number taken net)
  placed-by known later number taken net (inl same) took holds =
      goes known _ (placed-holds known number taken net (subst (λ (k : Option Request). Took form app request_of Lives Sound kinds k number taken) same took) holds)
  placed-by known later number taken net (inr new) took holds =
      record { later = later; grows = inr new.0; holds = begun-holds later number taken net new.1 new.2 took (subst (λ (k : Option Request). Holds k net) new.0 holds) }

  pub placed-goes : (known : Option Request) (number : ℕ) (taken : Taken S) (net : Net S) → Began form app request_of Lives Sound kinds known number taken → Holds known net
      → Goes known (placed number taken net)
  placed-goes known number taken net began holds = placed-by known began.later number taken net began.grows began.took holds

  -- ## An event for a session

  queued_at-holds : (known : Option Request) (of : AppId) (event : Queued) (found : Option (Host S)) (net : Net S) → host_at of.host net ≡ found → IsTaggedEvent event → Holds known net
      → Holds known (queued_at of event found net)
  unfolding queued_at
  queued_at-holds known of event None net at tagged holds = holds
  queued_at-holds known of event (Some host) net at tagged holds =
      placed-holds known of.host _ net (queue-took form app request_of Lives Sound kinds of.host known of.serial net.moment event net.count host tagged (holds.hosts of.host host at)) holds

  pub queue_for-holds : (known : Option Request) (of : AppId) (event : Queued) (net : Net S) → IsTaggedEvent event → Holds known net → Holds known (queue_for of event net)
  unfolding queue_for
  queue_for-holds known of event net tagged holds = queued_at-holds known of event _ net refl tagged holds

  -- ## What a session gives to send

  tell_own-holds : (known : Option Request) (config : Config) (of : AppId) (branch code : ℕ) (reason : Bytes) (request : Request) (net : Net S) → Holds known net
      → Holds known (tell_own config of branch code reason request net)
  unfolding tell_own IsTaggedEvent
  tell_own-holds known config of branch code reason request net holds = queue_for-holds known of _ net tt holds

  with_client-holds : (known : Option Request) (number : ℕ) (client : Client) (net : Net S) → Sound known client.request → Holds known net → Holds known (change_host number (with_client client) net)
  with_client-holds known number client net fits holds =
      changes known number (with_client client) net
      (λ host at good. record { sessions = good.sessions; servers = good.servers; clients = all-append (IsSent form app request_of Lives Sound kinds known) host.clients client good.clients fits; last = good.last }) holds

  pub passed-holds : (known : Option Request) (of : AppId) (branch : ℕ) (cancelling : Bool) (item : ClientItem) (net : Net S) → Holds known net
      → Holds known (change_host of.host (pass_client of branch cancelling item) net)
  passed-holds known of branch cancelling item net holds =
      changes known of.host (pass_client of branch cancelling item) net (λ host at good. pass_client-good form app request_of Lives Sound kinds of.host known of branch cancelling item host good) holds

  send_to-holds : (known : Option Request) (of : AppId) (branch : ℕ) (peer : Peer) (noted : Option Note) (request : Request) (net : Net S) → Fits known request
      → Holds known net → Holds known (send_to of branch peer noted request net)
  unfolding send_to IsOnWay
  send_to-holds known of branch peer noted request net fits holds = put-holds known of.host peer (messages.Request request) noted _ fits (with_client-holds known of.host _ net fits holds)

  leave_for-holds : (known : Option Request) (config : Config) (of : AppId) (branch : ℕ) (request : Request) (place : Option Place) (net : Net S) → Fits known request → Holds known net
      → Holds known (leave_for config of branch request place net)
  unfolding leave_for
  leave_for-holds known config of branch request None net fits holds = tell_own-holds known config of branch 503 _ request net holds
  leave_for-holds known config of branch request (Some place) net fits holds = send_to-holds known of branch (peers.Outside place) None request net fits holds

  leave-holds : (known : Option Request) (config : Config) (of : AppId) (branch : ℕ) (request : Request) (net : Net S) → Fits known request → Holds known net
      → Holds known (leave config of branch request net)
  unfolding leave
  leave-holds known config of branch request net fits holds = leave_for-holds known config of branch request _ net fits holds

  begin_by-holds : (known : Option Request) (config : Config) (of : AppId) (branch : ℕ) (request : Request) (choice : Choice) (net : Net S) → Fits known request → Holds known net
      → Holds known (begin_by config of branch request choice net)
  unfolding begin_by
  begin_by-holds known config of branch request (choices.App host order region subscriber popped) net fits holds = send_to-holds known of branch (peers.Inside host) _ request net fits holds
  begin_by-holds known config of branch request (choices.Send routes) net fits holds = leave-holds known config of branch _ net (kinds.routed known routes request fits) holds
  begin_by-holds known config of branch request choices.Onward net fits holds = leave-holds known config of branch request net fits holds
  begin_by-holds known config of branch request choices.NotFound net fits holds = tell_own-holds known config of branch 404 _ request net holds

  send_named-holds : (known : Option Request) (config : Config) (of : AppId) (branch : ℕ) (request : Request) (number : Option ℕ) (net : Net S) → Fits known request
      → Holds known net → Holds known (send_named config of branch request number net)
  unfolding send_named
  send_named-holds known config of branch request None net fits holds = tell_own-holds known config of branch 481 _ request net holds
  send_named-holds known config of branch request (Some host) net fits holds = send_to-holds known of branch (peers.Inside host) None request net fits holds

  send_later-holds : (known : Option Request) (config : Config) (of : AppId) (branch : ℕ) (request : Request) (net : Net S) → Fits known request → Holds known net
      → Holds known (send_later config of branch request net)
  unfolding send_later
  send_later-holds known config of branch request net fits holds =
      if-holds known _ _ _ (send_named-holds known config of branch request _ net fits holds) (leave-holds known config of branch request net fits holds)

  acknowledge-holds : (known : Option Request) (config : Config) (of : AppId) (request : Request) (net : Net S) → Fits known request → Holds known net → Holds known (acknowledge config of request net)
  unfolding acknowledge IsOnWay
  acknowledge-holds known config of request net fits holds = put-holds known of.host _ (messages.Request request) None net fits holds

  send_cancel-holds : (known : Option Request) (of : AppId) (client : Client) (net : Net S) → Sound known client.request → Holds known net → Holds known (send_cancel of client net)
  unfolding send_cancel cancelling cancel_of IsOnWay
  send_cancel-holds known of client net fits holds =
      put-holds known of.host client.peer _ None _ (kinds.kin_sound known _ _ client.request fits) (with_client-holds known of.host _ net (kinds.kin_sound known _ _ client.request fits) holds)

  cancel_by-holds : (known : Option Request) (of : AppId) (branch : ℕ) (client : Client) (net : Net S) → Sound known client.request → Holds known net → Holds known (cancel_by of branch client net)
  unfolding cancel_by
  cancel_by-holds known of branch client net fits holds =
      let asked = passed-holds known of branch false (client_items.CancelAsked net.moment) net holds in
      if-holds known _ _ _ (send_cancel-holds known of client _ fits asked) asked

  cancel_for-holds : (known : Option Request) (of : AppId) (branch : ℕ) (at_once : Bool) (client : Option Client) (net : Net S) → ((c : Client) → client ≡ Some c → Sound known c.request)
      → Holds known net → Holds known (cancel_for of branch at_once client net)
  unfolding cancel_for
  cancel_for-holds known of branch at_once None net fits holds = holds
  cancel_for-holds known of branch at_once (Some client) net fits holds = if-holds known _ _ net (cancel_by-holds known of branch client net (fits client refl) holds) holds

  respond_by-holds : (known : Option Request) (number event : ℕ) (response : Response) (server : Option Server) (net : Net S) → Holds known net
      → Holds known (respond_by number event response server net)
  unfolding respond_by answered_server without_ended
  respond_by-holds known number event response None net holds = holds
  respond_by-holds known number event response (Some server) net holds =
      if-holds known _ _ net
      (answer-holds known number server.peer response _
      (changes known number _ net
      (λ host at good. record {
        sessions = good.sessions;
        servers = all-filter (IsServed form app request_of Lives Sound kinds known) _ _
            (all-first (IsServed form app request_of Lives Sound kinds known) (is_server event) (answered_server response.code net.moment response) host.servers (λ server found ok. ok) good.servers);
        clients = all-filter (IsSent form app request_of Lives Sound kinds known) _ host.clients good.clients;
        last = good.last;
      }) holds)) holds

  fits-at : (known : Option Request) (of : AppId) (branch : ℕ) (net : Net S) (found : Option (Host S)) → host_at of.host net ≡ found → Holds known net → (c : Client)
      → client_at of branch found ≡ Some c → Sound known c.request
  unfolding client_at
  fits-at known of branch net None at holds c is = cc
  fits-at known of branch net (Some host) at holds c is =
      all-found (IsSent form app request_of Lives Sound kinds known) (is_client of branch false) host.clients c is (holds.hosts of.host host at).clients

  -- the request of an order is of the kind
  unfoldable pub OrderFits : Option Request → Order → Type 0
  OrderFits known (orders.Begin branch directive region state request) = Fits known request
  OrderFits known (orders.Send branch request) = Fits known request
  OrderFits known (orders.Acknowledge request) = Fits known request
  OrderFits known order = Unit {0}

  obey-holds : (known : Option Request) (setup : Setup) (of : AppId) (net : Net S) (order : Order) → OrderFits known order → Holds known net → Holds known (obey setup of net order)
  unfolding obey OrderFits
  obey-holds known setup of net (orders.Respond event response) fits holds = respond_by-holds known of.host event response _ net holds
  obey-holds known setup of net (orders.Begin branch directive region state request) fits holds = begin_by-holds known setup.config of branch request _ net fits holds
  obey-holds known setup of net (orders.Send branch request) fits holds = send_later-holds known setup.config of branch request net fits holds
  obey-holds known setup of net (orders.Acknowledge request) fits holds = acknowledge-holds known setup.config of request net fits holds
  obey-holds known setup of net (orders.Cancel branch) fits holds = cancel_for-holds known of branch false _ net (fits-at known of branch net _ refl holds) holds
  obey-holds known setup of net (orders.CancelNow branch) fits holds = cancel_for-holds known of branch true _ net (fits-at known of branch net _ refl holds) holds

  -- what a session gives is sent
  pub obeyed-holds : (given : List Order) (known : Option Request) (setup : Setup) (of : AppId) (net : Net S) → All (OrderFits known) given → Holds known net → Holds known (obeyed setup of given net)
  unfolding obeyed All
  obeyed-holds [] known setup of net fits holds = holds
  obeyed-holds (order ∷ given) known setup of net fits holds = obeyed-holds given known setup of (obey setup of net order) fits.1 (obey-holds known setup of net order fits.0 holds)

  -- ## Deliveries

  entry-comes : (known : Option Request) (number sender : ℕ) (message : Message) → IsOnWay (Sound known) message
      → MessageComes form app request_of Lives Sound kinds number known (peers.Inside sender) message
  unfolding IsOnWay MessageComes IsInner
  entry-comes known number sender (messages.Request request) way = (kinds.vias known request way, λ inner. way)
  entry-comes known number sender (messages.Response response) way = tt

  deliver_at-goes : (known : Option Request) (setup : Setup) (entry : Entry) (found : Option (Host S)) (net : Net S) → host_at entry.receiver net ≡ found → IsOnWay (Sound known) entry.message
      → Holds known net → Goes known (deliver_at form setup entry found net)
  unfolding deliver_at
  deliver_at-goes known setup entry None net is way holds = goes known net holds
  deliver_at-goes known setup entry (Some host) net is way holds =
      placed-goes known entry.receiver _ net
      (takes-began form app request_of Lives Sound kinds entry.receiver known setup.config net.epoch (peers.Inside entry.sender) net.moment entry.note entry.message net.count host
      (entry-comes known entry.receiver entry.sender entry.message way) (holds.hosts entry.receiver host is)) holds

  deliver_entry-goes : (known : Option Request) (setup : Setup) (found : Option Entry) (net : Net S) → slice_get net.wire 0 ≡ found → Holds known net → Goes known (deliver_entry form setup found net)
  unfolding deliver_entry
  deliver_entry-goes known setup None net is holds = goes known net holds
  deliver_entry-goes known setup (Some entry) net is holds =
      deliver_at-goes known setup entry _ (record net { wire = drop 1 net.wire }) refl (all-at (λ (e : Entry). IsOnWay (Sound known) e.message) net.wire 0 entry is holds.wire)
      (record { hosts = holds.hosts; wire = all-rest (λ (e : Entry). IsOnWay (Sound known) e.message) net.wire holds.wire })

  deliver_first-goes : (known : Option Request) (setup : Setup) (net : Net S) → Holds known net → Goes known (deliver_first form setup net)
  unfolding deliver_first
  deliver_first-goes known setup net holds = deliver_entry-goes known setup _ net refl holds

  steps-go : (k : ℕ) (known : Option Request) (setup : Setup) (net : Net S) (b : Bool) → is_busy net ≡ b → Holds known net → Goes known (steps is_busy (deliver_first form setup) k net)
  unfolding steps
  steps-go zero known setup net b is holds = goes known net holds
  steps-go (suc k) known setup net true is holds =
      rw (is, steps) (goes-then known (deliver_first form setup net) _ (deliver_first-goes known setup net holds)
      (λ middle held. steps-go k middle setup (deliver_first form setup net) (is_busy (deliver_first form setup net)) refl held))
  steps-go (suc k) known setup net false is holds = rw (is, steps) (goes known net holds)

  -- all is delivered
  pub delivered-goes : (known : Option Request) (setup : Setup) (net : Net S) → Holds known net → Goes known (delivered form setup net)
  unfolding delivered settle
  delivered-goes known setup net holds = steps-go (weight net) known setup net (is_busy net) refl holds
