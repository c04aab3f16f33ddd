-- A later request comes from outside: the one event that it may bring.
use Rattle.std.proofs.Common.{◌≡◌, ◌<◌, ℕ, ◌+◌, ◌^◌, Bool, true, false, Option, None, Some, List, [], ◌∷◌, refl, sym, ap, subst, ◌∙◌, arith}
use Rattle.std.specs.Prelude.{◌==◌, ◌||◌, cond, is_some, option_map, slice_get}
use Rattle.std.specs.List.{find, list_any}
use Rattle.std.proofs.lemmas.Bool.Decides.{nat_tests}
use Rattle.sc_value.specs.Lists.{change_nth}
use Rattle.sc_value.proofs.ListFacts.{slice_get-change_nth}
use Rattle.sc_value.specs.declared.ids.AppId.{AppId}
use Rattle.sc_value.specs.declared.ids.Place.{Place}
use Rattle.sc_value.specs.declared.message.Message.{Message}
use Rattle.sc_value.specs.declared.message.Message.TheVariants as messages
use Rattle.sc_value.specs.declared.message.Request.{Request}
use Rattle.sc_value.specs.declared.parts.Uri.{Uri}
use Rattle.sc_value.specs.declared.parts.Via.{Via}
use Rattle.sc_tokens.specs.Names.{same_bytes}
use Rattle.sc_terms.specs.declared.settings.Config.{Config}
use Rattle.sc_terms.specs.declared.steps.Step.TheVariants as steps
use Rattle.sc_parts.specs.declared.setup.Setup.{Setup}
use Rattle.sc_state.specs.Hosts.{Host}
use Rattle.sc_state.specs.declared.host.Live.{Live}
use Rattle.sc_state.specs.declared.host.Peer.{Peer}
use Rattle.sc_state.specs.declared.host.Peer.TheVariants as peers
use Rattle.sc_state.specs.declared.host.Reply.{Reply}
use Rattle.sc_state.specs.declared.host.Server.{Server}
use Rattle.sc_state.specs.declared.host.Taken.{Taken}
use Rattle.sc_state.specs.declared.net.Net.{Net}
use Rattle.sc_state.specs.declared.queue.Queued.{Queued}
use Rattle.sc_state.specs.declared.queue.Queued.TheVariants as queued
use Rattle.sc_state.specs.declared.session.Session.{Session}
use Rattle.sc_tokens.specs.Bytes.{Bytes}
use Rattle.sc_model.specs.DialogRequests.{cancel}
use Rattle.sc_model.specs.Dialogs.{tag_of}
use Rattle.sc_model.specs.SessionStates.{ack, invite}
use Rattle.sc_hosts.proofs.Deliveries.{none-delivered}
use Rattle.sc_hosts.proofs.EachSort.{takes-by, arrives-each}
use Rattle.sc_hosts.specs.Arrivals.{after_arrival as arrived, edge_answer, first_host, host_takes, taken_at}
use Rattle.sc_hosts.specs.EventLists.{waiting_in}
use Rattle.sc_hosts.specs.Histories.{as_session}
use Rattle.sc_hosts.specs.Inboxes.{is_full, queue, without_answer as quiet}
use Rattle.sc_hosts.specs.Nets.{host_at, is_busy, with_host_after as placed, with_message as put, put_reply}
use Rattle.sc_hosts.specs.Runs.{after_step}
use Rattle.sc_hosts.specs.Steps.{before_delivery as stepped}
use Rattle.sc_hosts.specs.Taking.{is_named_live, named_live, names, own_tag, own_uri, queue_later, refuse, takes, without_own_route as unrouted, with_server, with_trying, server_for}
use Rattle.sc_hosts.specs.Transacting.{method_of}
use Rattle.sc_lasting.proofs.Began.{test-found}
use Rattle.sc_lives.specs.Numbers.{AreNumbered}
use Rattle.sc_once.specs.Growing.{IsBetween}
use Rattle.sc_once.proofs.Finding.{slice_get-other}
use Rattle.sc_reached.proofs.Claims.{host-unclaimed}
use Rattle.sc_reached.proofs.Reaching.{queue-reply}
use Rattle.sc_hops.specs.Hops.{AreFit, IsAny, IsBrought, IsFit}
use Rattle.sc_hops.proofs.Carried.{FitsIn, plain-fit}
use Rattle.sc_hops.proofs.OneTurn.{any-clients, nothing-above}
use Rattle.sc_hops.proofs.Taken.{take_request-ok}
use Rattle.sc_paths.specs.LaterRequests.{has_vias}
use Rattle.sc_paths.specs.Moments.{Got, Moment, got_in}
use Rattle.sc_ways.proofs.Got.{queued-got}
use Rattle.sc_ways.proofs.OneHop.{IsFine, IsFirst, later-of-by}

equal : (a b : ℕ) → (a == b) ≡ true → a ≡ b
equal a b is = grind (arith, nat_tests, is)

differ : (a b : ℕ) → (a == b) ≡ false → b ≡ a → ⊥
differ a b at same = grind (arith, nat_tests, at, same)

neither : (a b : Bool) → (a || b) ≡ false → (a ≡ false) × (b ≡ false)
neither true b is = cc
neither false b is = (refl, is)

-- this request
abbrev pub Is : Request → Request → Type 0
Is request sent = ◌≡◌ {A = Request} sent request

-- nothing, or to the outside
unfoldable Outward : Option Reply → Type 0
Outward None = Unit {0}
Outward (Some reply) = (place : Place) × (reply.peer ≡ peers.Outside place)

module _ (setup : Setup) (place : Place) (request : Request) where
  abbrev Fits : ℕ → AppId → Queued → Type 0
  Fits epoch = FitsIn IsAny (Is request) setup epoch

  -- ## What is replied

  if-outward : (b : Bool) (x y : Taken Session) → Outward x.reply → Outward y.reply → Outward (cond b x y).reply
  if-outward true x y p q = p
  if-outward false x y p q = q

  none-outward : (reply : Option Reply) → reply ≡ None → Outward reply
  unfolding Outward
  none-outward None is = tt
  none-outward (Some reply) is = cc

  refuse-outward : (config : Config) (code : ℕ) (reason : Bytes) (count : ℕ) (host : Host Session) → Outward (refuse config (peers.Outside place) code reason request count host).reply
  unfolding refuse quiet Outward
  refuse-outward config code reason count host = if-outward (same_bytes (method_of request) ack) (quiet host count) _ (none-outward None refl) (place, refl)

  trying-outward : (now : ℕ) (taken : Taken Session) → Outward taken.reply → Outward (with_trying (peers.Outside place) now request taken).reply
  unfolding with_trying Outward
  trying-outward now taken out = if-outward (same_bytes (method_of request) invite) _ taken (place, refl) out

  queue_later-outward : (config : Config) (epoch number now count : ℕ) (live : Live Session) (host : Host Session)
      → Outward (queue_later config (record { host = number; epoch = epoch; from = peers.Outside place; now = now; count = count }) request live host).reply
  unfolding queue_later
  queue_later-outward config epoch number now count live host =
      let app : AppId = record { host = number; serial = live.serial } in
      let served : Host Session = with_server app (count + 1) (peers.Outside place) (own_tag config epoch app) (unrouted config request) host in
      if-outward (is_full live) (refuse config (peers.Outside place) 503 _ request count host) _ (refuse-outward config 503 _ count host)
      (trying-outward now (queue live.serial now (queued.Request (unrouted config request)) count served) (none-outward _ (queue-reply live.serial now (queued.Request (unrouted config request)) count served)))

  unserved : {A : Type 0} (found : Option Server) (server : Server) → found ≡ None → found ≡ Some server → A
  unserved found server none is = cc

  has-tag : {A : Type 0} (b : Bool) → b ≡ true → b ≡ false → A
  has-tag b tagged untagged = cc

  takes-outward : (config : Config) (epoch number now count : ℕ) (host : Host Session) → server_for (peers.Outside place) request host ≡ None → is_some (tag_of request.head.to) ≡ true
      → Outward (takes as_session config (record { host = number; epoch = epoch; from = peers.Outside place; now = now; count = count }) None (messages.Request request) host).reply
  takes-outward config epoch number now count host fresh tagged =
      takes-by (λ taken. Outward taken.reply) as_session config (record { host = number; epoch = epoch; from = peers.Outside place; now = now; count = count }) None request host
      (λ server found. unserved _ server fresh found) (λ server found. unserved _ server fresh found) (λ server found. unserved _ server fresh found)
      (λ live no_cancel tagged is. queue_later-outward config epoch number now count live host) (λ untagged. has-tag _ tagged untagged) (refuse-outward config 481 _ count host)

  -- ## What a net becomes

  -- nothing is on its way, and each event with a new number is this request as it comes to its session
  pub record HasArrived (epoch base : ℕ) (net : Net Session) : Type 0 where
    pub wire : net.wire ≡ []
    pub hosts : (number : ℕ) (host : Host Session) → host_at number net ≡ Some host → AreFit (Fits epoch) base number host.sessions

  outward-wire : (sender : ℕ) (reply : Option Reply) (net : Net Session) → Outward reply → (put_reply sender reply net).wire ≡ net.wire
  unfolding put_reply put Outward
  outward-wire sender None net out = refl
  outward-wire sender (Some reply) net out = rw (out.1) refl

  put-hosts : (sender : ℕ) (peer : Peer) (message : Message) (net : Net Session) → (put sender peer message None net).hosts ≡ net.hosts
  unfolding put
  put-hosts sender (peers.Outside at) message net = refl
  put-hosts sender (peers.Inside host) message net = refl
  put-hosts sender peers.Nowhere message net = refl

  reply-hosts : (sender : ℕ) (reply : Option Reply) (net : Net Session) → (put_reply sender reply net).hosts ≡ net.hosts
  unfolding put_reply
  reply-hosts sender None net = refl
  reply-hosts sender (Some reply) net = put-hosts sender reply.peer reply.message net

  mapped : (change : Host Session → Host Session) (found : Option (Host Session)) (x : Host Session) → option_map change found ≡ Some x
      → (a : Host Session) × (change a ≡ x)
  mapped change None x is = cc
  mapped change (Some a) x is = (a, some-is (change a) is)
    where
      some-is : (y : Host Session) → Some y ≡ Some x → y ≡ x
      some-is y is = cc

  placed-by : (epoch base number : ℕ) (taken : Taken Session) (net : Net Session) → AreFit (Fits epoch) base number taken.host.sessions
      → ((number : ℕ) (host : Host Session) → host_at number net ≡ Some host → AreFit (Fits epoch) base number host.sessions)
      → (n : ℕ) (host : Host Session) (b : Bool) → (n == number) ≡ b → slice_get (change_nth number (λ host. taken.host) net.hosts) n ≡ Some host → AreFit (Fits epoch) base n host.sessions
  placed-by epoch base number taken net good all n host true at is =
      let same : n ≡ number = equal n number at in
      let found : option_map (λ host. taken.host) (host_at number net) ≡ Some host = sym (slice_get-change_nth number (λ host. taken.host) net.hosts) ∙ subst (λ (m : ℕ). slice_get (change_nth number (λ host. taken.host) net.hosts) m ≡ Some host) same is in
      let was = mapped (λ host. taken.host) (host_at number net) host found in
      subst (λ (m : ℕ). AreFit (Fits epoch) base m host.sessions) (sym same) (subst (λ (h : Host Session). AreFit (Fits epoch) base number h.sessions) was.1 good)
  placed-by epoch base number taken net good all n host false at is =
      all n host (sym (slice_get-other net.hosts number n (λ host. taken.host) (differ n number at)) ∙ is)

  placed-arrives : (epoch base number : ℕ) (taken : Taken Session) (net : Net Session) → AreFit (Fits epoch) base number taken.host.sessions → Outward taken.reply
      → HasArrived epoch base net → HasArrived epoch base (placed number taken net)
  unfolding placed
  placed-arrives epoch base number taken net good out arrives = record {
    wire = outward-wire number taken.reply _ out ∙ arrives.wire;
    hosts = λ n host at. placed-by epoch base number taken net good arrives.hosts n host (n == number) refl (sym (ap (λ (hosts : List (Host Session)). slice_get hosts n) (reply-hosts number taken.reply _)) ∙ at);
  }

  -- ## It comes to its session

  edge-arrives : (epoch base : ℕ) (config : Config) (code : ℕ) (reason : Bytes) (net : Net Session) → HasArrived epoch base net → HasArrived epoch base (edge_answer config place code reason request net)
  unfolding edge_answer put
  edge-arrives epoch base config code reason net arrives = by (same_bytes (method_of request) ack) net _ arrives (record { wire = arrives.wire; hosts = arrives.hosts })
    where
      by : (b : Bool) (x y : Net Session) → HasArrived epoch base x → HasArrived epoch base y → HasArrived epoch base (cond b x y)
      by true x y p q = p
      by false x y p q = q

  named-by : (epoch number : ℕ) (uri : Uri) (host : Host Session) (live : Live Session) → named_live epoch number uri host ≡ Some live
      → names epoch (record { host = number; serial = live.serial }) uri ≡ true
  unfolding named_live is_named_live
  named-by epoch number uri host live is = test-found (λ (live : Live Session). names epoch (record { host = number; serial = live.serial }) uri) host.sessions live is

  right : (epoch number : ℕ) (host : Host Session) → same_bytes (method_of request) cancel ≡ false → is_some (tag_of request.head.to) ≡ true → (uri : Uri) → own_uri setup.config request ≡ Some uri → (live : Live Session) → named_live epoch number uri host ≡ Some live
      → Fits epoch (record { host = number; serial = live.serial }) (queued.Request (unrouted setup.config request))
  unfolding IsFit
  right epoch number host no_cancel tagged uri by live is =
      λ told. record { sent = request; is = refl; popped = refl; uri = uri; by = by; named = named-by epoch number uri host live is; tagged = tagged; no_cancel = no_cancel }

  host-arrives : (net : Net Session) (number : ℕ) (found : Option (Host Session)) → host_at number net ≡ found → is_some (tag_of request.head.to) ≡ true
      → ((host : Host Session) → host_at number net ≡ Some host → server_for (peers.Outside place) request host ≡ None)
      → HasArrived net.epoch net.count net → HasArrived net.epoch net.count (host_takes as_session setup place None (messages.Request request) number found net)
  unfolding host_takes
  host-arrives net number None at tagged fresh arrives = arrives
  host-arrives net number (Some host) at tagged fresh arrives =
      let ok = take_request-ok {S = Session} IsAny IsAny (Fits net.epoch) (plain-fit IsAny (Is request) setup.config net.epoch) net.count number net.moment as_session setup.config net.epoch (peers.Outside place) None request net.count host
      (λ no_cancel tagged uri by live is. right net.epoch number host no_cancel tagged uri by live is) (arrives.hosts number host at, any-clients host.clients) in
      placed-arrives net.epoch net.count number _ net ok.good.0 (takes-outward setup.config net.epoch number net.moment net.count host (fresh host at) tagged) arrives

  at-arrives : (net : Net Session) → is_some (tag_of request.head.to) ≡ true
      → ((number : ℕ) (host : Host Session) → host_at number net ≡ Some host → server_for (peers.Outside place) request host ≡ None)
      → HasArrived net.epoch net.count net → HasArrived net.epoch net.count (arrived as_session setup place (messages.Request request) net)
  unfolding taken_at
  at-arrives net tagged fresh arrives =
      arrives-each (HasArrived net.epoch net.count) as_session setup place request net (λ number. host-arrives net number _ refl tagged (fresh number) arrives)
      (λ untagged. has-tag _ tagged untagged) (edge-arrives net.epoch net.count setup.config 481 _ net arrives)

  -- ## No host claims it

  pub none-claims : (hosts : List (Host Session)) (number : ℕ) → list_any (λ host. is_some (server_for (peers.Outside place) request host)) hosts ≡ false
      → first_host (λ host. is_some (server_for (peers.Outside place) request host)) number hosts ≡ None
  unfolding first_host
  none-claims [] number none = refl
  none-claims (host ∷ hosts) number none =
      let both = neither (is_some (server_for (peers.Outside place) request host)) (list_any (λ host. is_some (server_for (peers.Outside place) request host)) hosts) none in
      rw (both.0) (none-claims hosts (number + 1) both.1)

  idle : (net : Net Session) → net.wire ≡ [] → is_busy net ≡ false
  unfolding is_busy
  idle net is = rw is refl

  -- ## The step

  pub outside-after : (net : Net Session) → AreNumbered net → ((app : AppId) → IsBetween (waiting_in app net) 0 net.count) → net.wire ≡ []
      → same_bytes (method_of request) cancel ≡ false → is_some (tag_of request.head.to) ≡ true
      → list_any (λ host. is_some (server_for (peers.Outside place) request host)) net.hosts ≡ false
      → HasArrived net.epoch net.count (after_step as_session setup net (steps.In place (messages.Request request)))
  unfolding after_step stepped
  outside-after net numbered within quiet no_cancel tagged unclaimed =
      let start : Net Session = record net { sent = [] } in
      let none = none-claims net.hosts 0 unclaimed in
      let arrives : HasArrived net.epoch net.count start = record { wire = quiet; hosts = nothing-above IsAny (Is request) setup net.epoch net numbered within } in
      let after = at-arrives start tagged (λ number host at. host-unclaimed start (peers.Outside place) request number host none at) arrives in
      let came : Net Session = arrived as_session setup place (messages.Request request) start in
      rw (none-delivered as_session setup came (idle came after.wire)) after

  -- ## The event that it brings

  fit-request : (epoch : ℕ) (app : AppId) (event : Queued) (later : Request) → event ≡ queued.Request later → Fits epoch app event → IsBrought (Is request) setup.config epoch app later
  unfolding IsFit
  fit-request epoch app event later is fits = subst (λ (e : Queued). Fits epoch app e) is fits tt

  abbrev pub at : Net Session → Moment
  at net = record { before = net; step = steps.In place (messages.Request request); after = after_step as_session setup net (steps.In place (messages.Request request)) }

  first-by : (net : Net Session) (vias : List Via) (got : Got) → net.epoch < 2 ^ 64 → IsFine setup net.epoch (at net) → same_bytes (method_of request) cancel ≡ false
      → is_some (tag_of request.head.to) ≡ true → list_any (λ host. is_some (server_for (peers.Outside place) request host)) net.hosts ≡ false
      → find (has_vias 0 vias) (got_in (at net)) ≡ Some got → IsFirst setup request net.epoch (at net).after got
  first-by net vias got small fine no_cancel tagged unclaimed found =
      let arrives = outside-after net fine.numbered fine.within fine.quiet no_cancel tagged unclaimed in
      let one = queued-got (Fits net.epoch) net.epoch net.count small (at net).after fine.few fine.small arrives.hosts (at net) (has_vias 0 vias) got refl refl found in
      let later = later-of-by 0 vias got (test-found (has_vias 0 vias) (got_in (at net)) got found) in
      let brought = fit-request net.epoch got.app got.waiting.event later.later later.is (one.0.fits one.1) in
      record {
        is = later.is ∙ ap (λ (r : Request). queued.Request r) (brought.popped ∙ ap (unrouted setup.config) brought.is);
        uri = brought.uri;
        way = ap (own_uri setup.config) (sym brought.is) ∙ brought.by;
        named = brought.named;
        held = one.0.held;
        names = one.0.names;
        tagged = tagged;
        no_cancel = no_cancel;
      }

  pub first-of : (epoch : ℕ) (net : Net Session) (vias : List Via) (got : Got) → epoch < 2 ^ 64 → IsFine setup epoch (at net) → same_bytes (method_of request) cancel ≡ false
      → is_some (tag_of request.head.to) ≡ true → list_any (λ host. is_some (server_for (peers.Outside place) request host)) net.hosts ≡ false
      → find (has_vias 0 vias) (got_in (at net)) ≡ Some got → IsFirst setup request epoch (at net).after got
  first-of epoch net vias got small fine no_cancel tagged unclaimed found =
      subst (λ (e : ℕ). IsFirst setup request e (at net).after got) fine.at
      (first-by net vias got (subst (λ (e : ℕ). e < 2 ^ 64) (sym fine.at) small) (subst (λ (e : ℕ). IsFine setup e (at net)) (sym fine.at) fine) no_cancel tagged unclaimed found)
