-- What a session gives to send, and what is delivered, keeps what a net has of requests that came.
use Rattle.std.proofs.Common.{◌≡◌, ◌≤◌, inl, inr, ℕ, ◌+◌, zero, suc, ◌++◌, Bool, true, false, Option, None, Some, List, [], ◌∷◌, refl, sym, ap, subst, append_assoc, append-nil, ◌∙◌, arith}
use Rattle.std.specs.Prelude.{◌==◌, cond, drop, is_none}
use Rattle.sc_value.specs.declared.ids.AppId.{AppId}
use Rattle.sc_value.specs.declared.ids.Place.{Place}
use Rattle.sc_value.specs.declared.message.Message.{Message}
use Rattle.sc_value.specs.declared.message.Message.TheVariants as messages
use Rattle.sc_value.specs.declared.message.Request.{Request}
use Rattle.sc_value.specs.declared.message.Response.{Response}
use Rattle.sc_terms.specs.declared.settings.Config.{Config}
use Rattle.sc_parts.specs.declared.choice.Choice.{Choice}
use Rattle.sc_parts.specs.declared.choice.Choice.TheVariants as choices
use Rattle.sc_parts.specs.declared.setup.Setup.{Setup}
use Rattle.sc_parts.specs.declared.transactions.ClientItem.{ClientItem}
use Rattle.sc_parts.specs.declared.transactions.ClientItem.TheVariants as client_items
use Rattle.sc_state.specs.Hosts.{Host}
use Rattle.sc_state.specs.declared.host.Client.{Client}
use Rattle.sc_state.specs.declared.host.Peer.{Peer}
use Rattle.sc_state.specs.declared.host.Peer.TheVariants as peers
use Rattle.sc_state.specs.declared.host.Reply.{Reply}
use Rattle.sc_state.specs.declared.host.Server.{Server}
use Rattle.sc_state.specs.declared.host.Taken.{Taken}
use Rattle.sc_state.specs.declared.net.Entry.{Entry}
use Rattle.sc_state.specs.declared.net.Net.{Net}
use Rattle.sc_state.specs.declared.net.Note.{Note}
use Rattle.sc_state.specs.declared.orders.Order.{Order}
use Rattle.sc_state.specs.declared.orders.Order.TheVariants as orders
use Rattle.sc_state.specs.declared.queue.Queued.{Queued}
use Rattle.sc_tokens.specs.Bytes.{Bytes}
use Rattle.sc_model.specs.Dialogs.{tag_of}
use Rattle.sc_hosts.specs.Nets.{host_at, change_host, with_message as put, put_reply, with_host_after as placed, queued_at, queue_for, tell_own, send_to, leave_for, leave, begin_by, send_named, send_later, acknowledge, send_cancel, cancel_by, cancel_for, answered_server, respond_by, obey, after_orders as obeyed, is_busy, deliver_at, deliver_entry, deliver_first, weight}
use Rattle.sc_hosts.specs.Runs.{after_delivery as delivered}
use Rattle.sc_hosts.specs.Sessions.{Form}
use Rattle.sc_hosts.specs.Settle.{steps, settle}
use Rattle.sc_hosts.specs.Transacting.{is_server, without_ended, pass_client, with_client}
use Rattle.sc_lasting.specs.Lasting.{All}
use Rattle.sc_lasting.proofs.Parts.{all-append, all-filter, all-first, all-map}
use Rattle.sc_keyed.specs.Keyed.{IsIn}
use Rattle.sc_once.proofs.ChangedHosts.{changed_hosts}
use Rattle.sc_replies.specs.Fields.{Incoming, incoming}
use Rattle.sc_returned.proofs.ArrivalHosts.{AreKept, Arrival, Began, Grows, HostIn, ServerIn, Took, as_came, more-host, pass_client-good, queue-took, takes-began, then-up}

-- ## One number, one request

-- no two have one number
unfoldable pub AreSingle : List Arrival → Type 0
AreSingle [] = Unit {0}
AreSingle (one ∷ more) = All (λ (other : Arrival). other.number ≡ one.number → ⊥) more × AreSingle more

-- it is an initial one where it has no To tag
abbrev pub IsAsCome : Arrival → Type 0
IsAsCome one = one.came.initial ≡ is_none (tag_of one.came.request.head.to)

abbrev pub IsUpTo : ℕ → Arrival → Type 0
IsUpTo count one = one.number ≤ count

pub all-in : {A : Type 0} (P : A → Type 0) (x : A) (xs : List A) → All P xs → IsIn x xs → P x
unfolding All IsIn
all-in P x [] all among = absurd among
all-in P x (y ∷ xs) all (inl is) = subst P (sym is) all.0
all-in P x (y ∷ xs) all (inr among) = all-in P x xs all.1 among

pub single-same : (arrivals : List Arrival) (a b : Arrival) → AreSingle arrivals → IsIn a arrivals → IsIn b arrivals → a.number ≡ b.number → a ≡ b
unfolding AreSingle IsIn
single-same [] a b single p q same = absurd p
single-same (one ∷ more) a b single (inl p) (inl q) same = p ∙ sym q
single-same (one ∷ more) a b single (inl p) (inr q) same =
    absurd (all-in (λ (other : Arrival). other.number ≡ one.number → ⊥) b more single.0 q (sym same ∙ ap (λ (x : Arrival). x.number) p))
single-same (one ∷ more) a b single (inr p) (inl q) same =
    absurd (all-in (λ (other : Arrival). other.number ≡ one.number → ⊥) a more single.0 p (same ∙ ap (λ (x : Arrival). x.number) q))
single-same (one ∷ more) a b single (inr p) (inr q) same = single-same more a b single.1 p q same

apart-next : (n m count : ℕ) → n ≤ count → m ≡ count + 1 → m ≡ n → ⊥
apart-next n m count most next same = omega (arith, most, next, same)

single-more : (arrivals : List Arrival) (new : Arrival) (count : ℕ) → All (IsUpTo count) arrivals → new.number ≡ count + 1 → AreSingle arrivals → AreSingle (arrivals ++ new ∷ [])
unfolding AreSingle All
single-more [] new count below next single = (tt, tt)
single-more (one ∷ more) new count below next single = (
  all-append (λ (other : Arrival). other.number ≡ one.number → ⊥) more new single.0 (λ same. apart-next one.number new.number count below.0 next same),
  single-more more new count below.1 next single.1,
)

next-up : (n count after : ℕ) → n ≡ count + 1 → count + 1 ≤ after → n ≤ after
next-up n count after is up = omega (arith, is, up)

past-up : (n count after : ℕ) → n ≤ count → count + 1 ≤ after → n ≤ after
past-up n count after most up = omega (arith, most, up)

module _ {S : Type 0} (form : Form S) (Lives : List Arrival → AppId → S → Type 0) (kept : AreKept form Lives) where
  abbrev Right : List Arrival → ℕ → Host S → Type 0
  Right arrivals number host = HostIn form Lives kept arrivals number host

  -- the net is so: what it keeps of requests that came is of these, each of a number of its own
  pub record Holds (arrivals : List Arrival) (net : Net S) : Type 0 where
    pub below : All (IsUpTo net.count) arrivals
    pub single : AreSingle arrivals
    pub come : All IsAsCome arrivals
    pub hosts : (number : ℕ) (host : Host S) → host_at number net ≡ Some host → Right arrivals number host

  -- with more that came
  pub record Goes (arrivals : List Arrival) (net : Net S) : Type 0 where
    pub later : List Arrival
    pub more : List Arrival
    pub is : later ≡ arrivals ++ more
    pub holds : Holds later net

  pub goes : (arrivals : List Arrival) (net : Net S) → Holds arrivals net → Goes arrivals net
  goes arrivals net holds = record { later = arrivals; more = []; is = sym (append-nil arrivals); holds = holds }

  pub goes-then : (arrivals : List Arrival) (x y : Net S) → Goes arrivals x → ((middle : List Arrival) → Holds middle x → Goes middle y) → Goes arrivals y
  goes-then arrivals x y one next =
      let two = next one.later one.holds in record {
        later = two.later;
        more = one.more ++ two.more;
        is = two.is ∙ ap (λ (all : List Arrival). all ++ two.more) one.is ∙ append_assoc arrivals one.more two.more;
        holds = two.holds;
      }

  pub if-holds : (arrivals : List Arrival) (b : Bool) (x y : Net S) → Holds arrivals x → Holds arrivals y → Holds arrivals (cond b x y)
  if-holds arrivals true x y p q = p
  if-holds arrivals false x y p q = q

  pub if-goes : (arrivals : List Arrival) (b : Bool) (x y : Net S) → Goes arrivals x → Goes arrivals y → Goes arrivals (cond b x y)
  if-goes arrivals true x y p q = p
  if-goes arrivals false x y p q = q

  -- ## A host changes

  pub changes : (arrivals : List Arrival) (number : ℕ) (change : Host S → Host S) (net : Net S) → ((host : Host S) → Right arrivals number host → Right arrivals number (change host)) → Holds arrivals net
      → Holds arrivals (change_host number change net)
  changes arrivals number change net keeps holds = record {
    below = holds.below;
    single = holds.single;
    come = holds.come;
    hosts = λ n host is. changed_hosts (Right arrivals) number change net (λ h at was. keeps h was) holds.hosts n host (n == number) refl is;
  }

  -- ## Messages on their way

  pub put-holds : (arrivals : List Arrival) (sender : ℕ) (peer : Peer) (message : Message) (noted : Option Note) (net : Net S) → Holds arrivals net → Holds arrivals (put sender peer message noted net)
  unfolding put
  put-holds arrivals sender (peers.Outside place) message noted net holds = record { below = holds.below; single = holds.single; come = holds.come; hosts = holds.hosts }
  put-holds arrivals sender (peers.Inside host) message noted net holds = record { below = holds.below; single = holds.single; come = holds.come; hosts = holds.hosts }
  put-holds arrivals sender peers.Nowhere message noted net holds = holds

  put_reply-holds : (arrivals : List Arrival) (sender : ℕ) (reply : Option Reply) (net : Net S) → Holds arrivals net → Holds arrivals (put_reply sender reply net)
  unfolding put_reply
  put_reply-holds arrivals sender None net holds = holds
  put_reply-holds arrivals sender (Some reply) net holds = put-holds arrivals sender reply.peer reply.message None net holds

  set-holds : (arrivals : List Arrival) (number : ℕ) (taken : Taken S) (net : Net S) → All (IsUpTo taken.count) arrivals → AreSingle arrivals → All IsAsCome arrivals → Right arrivals number taken.host
      → ((n : ℕ) (host : Host S) → host_at n net ≡ Some host → Right arrivals n host) → Holds arrivals (placed number taken net)
  unfolding placed
  set-holds arrivals number taken net below single come good all = put_reply-holds arrivals number taken.reply _ (record {
    below = below;
    single = single;
    come = come;
    hosts = λ n host is. changed_hosts (Right arrivals) number (λ host. taken.host) net (λ h at was. good) all n host (n == number) refl is;
  })

  pub placed-holds : (arrivals : List Arrival) (number : ℕ) (taken : Taken S) (net : Net S) → Took form Lives kept arrivals number net.count taken → Holds arrivals net → Holds arrivals (placed number taken net)
  placed-holds arrivals number taken net took holds =
      set-holds arrivals number taken net (all-map (IsUpTo net.count) (IsUpTo taken.count) arrivals (λ one most. then-up one.number net.count taken.count most took.up) holds.below) holds.single holds.come took.good holds.hosts

  come-as : (request : Request) (new : Arrival) → new.came ≡ as_came request → IsAsCome new
  come-as request new is = subst (λ (came : Incoming). came.initial ≡ is_none (tag_of came.request.head.to)) (sym is) refl

  grown-goes : (arrivals later : List Arrival) (number : ℕ) (taken : Taken S) (net : Net S) → Grows arrivals net.count later taken.count → Right later number taken.host → Holds arrivals net
      → Goes arrivals (placed number taken net)
  unfolding Grows All
  grown-goes arrivals later number taken net (inl same) good holds =
      goes arrivals _ (placed-holds arrivals number taken net (record { good = subst (λ (all : List Arrival). Right all number taken.host) same.0 good; up = same.1 }) holds)
  grown-goes arrivals later number taken net (inr new) good holds =
      let all : List Arrival = arrivals ++ new.1 ∷ [] in
      record {
        later = all;
        more = new.1 ∷ [];
        is = refl;
        holds = set-holds all number taken net
            (all-append (IsUpTo taken.count) arrivals new.1 (all-map (IsUpTo net.count) (IsUpTo taken.count) arrivals (λ one most. past-up one.number net.count taken.count most new.5) holds.below)
            (next-up new.1.number net.count taken.count new.3 new.5)) (single-more arrivals new.1 net.count holds.below new.3 holds.single)
            (all-append IsAsCome arrivals new.1 holds.come (come-as new.0 new.1 new.2)) (subst (λ (each : List Arrival). Right each number taken.host) new.4 good)
            (λ n host is. more-host form Lives kept arrivals (new.1 ∷ []) n host (holds.hosts n host is));
      }

  pub placed-goes : (arrivals : List Arrival) (number : ℕ) (taken : Taken S) (net : Net S) → Began form Lives kept arrivals number net.count taken → Holds arrivals net → Goes arrivals (placed number taken net)
  placed-goes arrivals number taken net began holds = grown-goes arrivals began.later number taken net began.grows began.good holds

  -- ## An event for a session

  queued_at-holds : (arrivals : List Arrival) (of : AppId) (event : Queued) (found : Option (Host S)) (net : Net S) → host_at of.host net ≡ found → incoming event ≡ None → Holds arrivals net
      → Holds arrivals (queued_at of event found net)
  unfolding queued_at
  queued_at-holds arrivals of event None net at none holds = holds
  queued_at-holds arrivals of event (Some host) net at none holds =
      placed-holds arrivals of.host _ net (queue-took form Lives kept of.host arrivals of.serial net.moment event net.count host none (holds.hosts of.host host at)) holds

  pub queue_for-holds : (arrivals : List Arrival) (of : AppId) (event : Queued) (net : Net S) → incoming event ≡ None → Holds arrivals net → Holds arrivals (queue_for of event net)
  unfolding queue_for
  queue_for-holds arrivals of event net none holds = queued_at-holds arrivals of event _ net refl none holds

  -- ## What a session gives to send

  tell_own-holds : (arrivals : List Arrival) (config : Config) (of : AppId) (branch code : ℕ) (reason : Bytes) (request : Request) (net : Net S) → Holds arrivals net
      → Holds arrivals (tell_own config of branch code reason request net)
  unfolding tell_own incoming
  tell_own-holds arrivals config of branch code reason request net holds = queue_for-holds arrivals of _ net refl holds

  with_client-holds : (arrivals : List Arrival) (number : ℕ) (client : Client) (net : Net S) → Holds arrivals net → Holds arrivals (change_host number (with_client client) net)
  with_client-holds arrivals number client net holds = changes arrivals number (with_client client) net (λ host good. record { sessions = good.sessions; servers = good.servers }) holds

  pub passed-holds : (arrivals : List Arrival) (of : AppId) (branch : ℕ) (cancelling : Bool) (item : ClientItem) (net : Net S) → Holds arrivals net
      → Holds arrivals (change_host of.host (pass_client of branch cancelling item) net)
  passed-holds arrivals of branch cancelling item net holds =
      changes arrivals of.host (pass_client of branch cancelling item) net (λ host good. pass_client-good form Lives kept of.host arrivals of branch cancelling item host good) holds

  send_to-holds : (arrivals : List Arrival) (of : AppId) (branch : ℕ) (peer : Peer) (noted : Option Note) (request : Request) (net : Net S) → Holds arrivals net
      → Holds arrivals (send_to of branch peer noted request net)
  unfolding send_to
  send_to-holds arrivals of branch peer noted request net holds = put-holds arrivals of.host peer (messages.Request request) noted _ (with_client-holds arrivals of.host _ net holds)

  leave_for-holds : (arrivals : List Arrival) (config : Config) (of : AppId) (branch : ℕ) (request : Request) (place : Option Place) (net : Net S) → Holds arrivals net
      → Holds arrivals (leave_for config of branch request place net)
  unfolding leave_for
  leave_for-holds arrivals config of branch request None net holds = tell_own-holds arrivals config of branch 503 _ request net holds
  leave_for-holds arrivals config of branch request (Some place) net holds = send_to-holds arrivals of branch (peers.Outside place) None request net holds

  leave-holds : (arrivals : List Arrival) (config : Config) (of : AppId) (branch : ℕ) (request : Request) (net : Net S) → Holds arrivals net → Holds arrivals (leave config of branch request net)
  unfolding leave
  leave-holds arrivals config of branch request net holds = leave_for-holds arrivals config of branch request _ net holds

  begin_by-holds : (arrivals : List Arrival) (config : Config) (of : AppId) (branch : ℕ) (request : Request) (choice : Choice) (net : Net S) → Holds arrivals net
      → Holds arrivals (begin_by config of branch request choice net)
  unfolding begin_by
  begin_by-holds arrivals config of branch request (choices.App host order region subscriber popped) net holds = send_to-holds arrivals of branch (peers.Inside host) _ request net holds
  begin_by-holds arrivals config of branch request (choices.Send routes) net holds = leave-holds arrivals config of branch _ net holds
  begin_by-holds arrivals config of branch request choices.Onward net holds = leave-holds arrivals config of branch request net holds
  begin_by-holds arrivals config of branch request choices.NotFound net holds = tell_own-holds arrivals config of branch 404 _ request net holds

  send_named-holds : (arrivals : List Arrival) (config : Config) (of : AppId) (branch : ℕ) (request : Request) (number : Option ℕ) (net : Net S) → Holds arrivals net
      → Holds arrivals (send_named config of branch request number net)
  unfolding send_named
  send_named-holds arrivals config of branch request None net holds = tell_own-holds arrivals config of branch 481 _ request net holds
  send_named-holds arrivals config of branch request (Some host) net holds = send_to-holds arrivals of branch (peers.Inside host) None request net holds

  send_later-holds : (arrivals : List Arrival) (config : Config) (of : AppId) (branch : ℕ) (request : Request) (net : Net S) → Holds arrivals net → Holds arrivals (send_later config of branch request net)
  unfolding send_later
  send_later-holds arrivals config of branch request net holds =
      if-holds arrivals _ _ _ (send_named-holds arrivals config of branch request _ net holds) (leave-holds arrivals config of branch request net holds)

  acknowledge-holds : (arrivals : List Arrival) (config : Config) (of : AppId) (request : Request) (net : Net S) → Holds arrivals net → Holds arrivals (acknowledge config of request net)
  unfolding acknowledge
  acknowledge-holds arrivals config of request net holds = put-holds arrivals of.host _ (messages.Request request) None net holds

  send_cancel-holds : (arrivals : List Arrival) (of : AppId) (client : Client) (net : Net S) → Holds arrivals net → Holds arrivals (send_cancel of client net)
  unfolding send_cancel
  send_cancel-holds arrivals of client net holds = put-holds arrivals of.host client.peer _ None _ (with_client-holds arrivals of.host _ net holds)

  cancel_by-holds : (arrivals : List Arrival) (of : AppId) (branch : ℕ) (client : Client) (net : Net S) → Holds arrivals net → Holds arrivals (cancel_by of branch client net)
  unfolding cancel_by
  cancel_by-holds arrivals of branch client net holds =
      let asked = passed-holds arrivals of branch false (client_items.CancelAsked net.moment) net holds in
      if-holds arrivals _ _ _ (send_cancel-holds arrivals of client _ asked) asked

  cancel_for-holds : (arrivals : List Arrival) (of : AppId) (branch : ℕ) (at_once : Bool) (client : Option Client) (net : Net S) → Holds arrivals net
      → Holds arrivals (cancel_for of branch at_once client net)
  unfolding cancel_for
  cancel_for-holds arrivals of branch at_once None net holds = holds
  cancel_for-holds arrivals of branch at_once (Some client) net holds = if-holds arrivals _ _ net (cancel_by-holds arrivals of branch client net holds) holds

  respond_by-holds : (arrivals : List Arrival) (number event : ℕ) (response : Response) (server : Option Server) (net : Net S) → Holds arrivals net
      → Holds arrivals (respond_by number event response server net)
  unfolding respond_by answered_server without_ended
  respond_by-holds arrivals number event response None net holds = holds
  respond_by-holds arrivals number event response (Some server) net holds =
      if-holds arrivals _ _ net
      (put-holds arrivals number server.peer (messages.Response response) None _
      (changes arrivals number _ net
      (λ host good. record {
        sessions = good.sessions;
        servers = all-filter (ServerIn arrivals) _ _ (all-first (ServerIn arrivals) (is_server event) (answered_server response.code net.moment response) host.servers (λ server found ok. ok) good.servers);
      }) holds)) holds

  obey-holds : (arrivals : List Arrival) (setup : Setup) (of : AppId) (net : Net S) (order : Order) → Holds arrivals net → Holds arrivals (obey setup of net order)
  unfolding obey
  obey-holds arrivals setup of net (orders.Respond event response) holds = respond_by-holds arrivals of.host event response _ net holds
  obey-holds arrivals setup of net (orders.Begin branch directive region state request) holds = begin_by-holds arrivals setup.config of branch request _ net holds
  obey-holds arrivals setup of net (orders.Send branch request) holds = send_later-holds arrivals setup.config of branch request net holds
  obey-holds arrivals setup of net (orders.Acknowledge request) holds = acknowledge-holds arrivals setup.config of request net holds
  obey-holds arrivals setup of net (orders.Cancel branch) holds = cancel_for-holds arrivals of branch false _ net holds
  obey-holds arrivals setup of net (orders.CancelNow branch) holds = cancel_for-holds arrivals of branch true _ net holds

  -- what a session gives is sent
  pub obeyed-holds : (given : List Order) (arrivals : List Arrival) (setup : Setup) (of : AppId) (net : Net S) → Holds arrivals net → Holds arrivals (obeyed setup of given net)
  unfolding obeyed
  obeyed-holds [] arrivals setup of net holds = holds
  obeyed-holds (order ∷ given) arrivals setup of net holds = obeyed-holds given arrivals setup of (obey setup of net order) (obey-holds arrivals setup of net order holds)

  -- ## Deliveries

  deliver_at-goes : (arrivals : List Arrival) (setup : Setup) (entry : Entry) (found : Option (Host S)) (net : Net S) → host_at entry.receiver net ≡ found → Holds arrivals net
      → Goes arrivals (deliver_at form setup entry found net)
  unfolding deliver_at
  deliver_at-goes arrivals setup entry None net is holds = goes arrivals net holds
  deliver_at-goes arrivals setup entry (Some host) net is holds =
      placed-goes arrivals entry.receiver _ net
      (takes-began form Lives kept entry.receiver arrivals setup.config net.epoch (peers.Inside entry.sender) net.moment entry.note entry.message net.count host (holds.hosts entry.receiver host is)) holds

  deliver_entry-goes : (arrivals : List Arrival) (setup : Setup) (found : Option Entry) (net : Net S) → Holds arrivals net → Goes arrivals (deliver_entry form setup found net)
  unfolding deliver_entry
  deliver_entry-goes arrivals setup None net holds = goes arrivals net holds
  deliver_entry-goes arrivals setup (Some entry) net holds =
      deliver_at-goes arrivals setup entry _ (record net { wire = drop 1 net.wire }) refl (record { below = holds.below; single = holds.single; come = holds.come; hosts = holds.hosts })

  deliver_first-goes : (arrivals : List Arrival) (setup : Setup) (net : Net S) → Holds arrivals net → Goes arrivals (deliver_first form setup net)
  unfolding deliver_first
  deliver_first-goes arrivals setup net holds = deliver_entry-goes arrivals setup _ net holds

  steps-go : (k : ℕ) (arrivals : List Arrival) (setup : Setup) (net : Net S) (b : Bool) → is_busy net ≡ b → Holds arrivals net → Goes arrivals (steps is_busy (deliver_first form setup) k net)
  unfolding steps
  steps-go zero arrivals setup net b is holds = goes arrivals net holds
  steps-go (suc k) arrivals setup net true is holds =
      rw (is, steps) (goes-then arrivals (deliver_first form setup net) _ (deliver_first-goes arrivals setup net holds)
      (λ middle held. steps-go k middle setup (deliver_first form setup net) (is_busy (deliver_first form setup net)) refl held))
  steps-go (suc k) arrivals setup net false is holds = rw (is, steps) (goes arrivals net holds)

  -- all is delivered
  pub delivered-goes : (arrivals : List Arrival) (setup : Setup) (net : Net S) → Holds arrivals net → Goes arrivals (delivered form setup net)
  unfolding delivered settle
  delivered-goes arrivals setup net holds = steps-go (weight net) arrivals setup net (is_busy net) refl holds
