-- The session that a later request names gets it, and no other does.
use Rattle.std.proofs.Common.{◌≡◌, ℕ, zero, suc, ◌+◌, ◌++◌, Bool, true, false, Option, None, Some, List, [], ◌∷◌, refl, sym, ap, subst, ◌∙◌, arith}
use Rattle.std.specs.Prelude.{◌==◌, ◌&&◌, cond, option_map, is_some, slice_get}
use Rattle.std.specs.List.{find}
use Rattle.std.proofs.lemmas.Bool.Decides.{nat_tests}
use Rattle.sc_value.specs.Lists.{change_first, change_nth}
use Rattle.sc_value.proofs.ListFacts.{slice_get-change_nth}
use Rattle.sc_value.specs.declared.ids.AppId.{AppId}
use Rattle.sc_value.specs.declared.ids.Place.{Place}
use Rattle.sc_value.specs.declared.message.Message.TheVariants as messages
use Rattle.sc_value.specs.declared.message.Request.{Request}
use Rattle.sc_tokens.specs.Names.{same_bytes}
use Rattle.sc_terms.specs.declared.settings.Config.{Config}
use Rattle.sc_terms.specs.declared.steps.Step.TheVariants as steps
use Rattle.sc_parts.specs.declared.setup.Setup.{Setup}
use Rattle.sc_state.specs.Hosts.{Host}
use Rattle.sc_state.specs.declared.host.Live.{Live}
use Rattle.sc_state.specs.declared.host.Peer.{Peer}
use Rattle.sc_state.specs.declared.host.Peer.TheVariants as peers
use Rattle.sc_state.specs.declared.host.Reply.{Reply}
use Rattle.sc_state.specs.declared.host.Taken.{Taken}
use Rattle.sc_state.specs.declared.net.Net.{Net}
use Rattle.sc_state.specs.declared.queue.Queued.{Queued}
use Rattle.sc_state.specs.declared.queue.Queued.TheVariants as queued
use Rattle.sc_tokens.specs.Bytes.{Bytes}
use Rattle.sc_model.specs.SessionStates.{invite, ack}
use Rattle.sc_hosts.specs.Inboxes.{is_live, live_in, is_full, without_answer as quiet, queue, with_event, replying}
use Rattle.sc_hosts.specs.Nets.{host_at, with_host_after as placed, with_message as put, put_reply}
use Rattle.sc_hosts.specs.Sessions.{Form}
use Rattle.sc_hosts.specs.Steps.{live_at, live_of, before_delivery as stepped}
use Rattle.sc_hosts.specs.Messages.{trying_response}
use Rattle.sc_hosts.specs.Words.{trying}
use Rattle.sc_hosts.specs.Taking.{named_live, own_tag, queue_later, server_after_trying as tried, without_own_route as unrouted, with_server, with_trying}
use Rattle.sc_hosts.specs.Transacting.{is_server, method_of}
use Rattle.sc_once.proofs.Finding.{find-changed, find-other, slice_get-other}
use Rattle.sc_reached.specs.Reached.{AreSmall, AllSmall, IsLaterFor, IsQueuedAlone}
use Rattle.sc_reached.proofs.Naming.{named_live-is}
use Rattle.sc_reached.proofs.NamedHosts.{named_host-is}
use Rattle.sc_reached.proofs.Claims.{host-unclaimed}
use Rattle.sc_reached.proofs.Arriving.{ComesTo, arrived-later}

equal : (a b : ℕ) → (a == b) ≡ true → a ≡ b
equal a b is = grind (arith, nat_tests, is)

differ : (a b : ℕ) → (a == b) ≡ false → a ≡ b → ⊥
differ a b at same = grind (arith, nat_tests, at, same)

apart : (serial other n : ℕ) → (serial == other) ≡ false → (n == other) ≡ true → (n == serial) ≡ false
apart serial other n differ is = grind (arith, nat_tests, differ, is)

turn : (a b : ℕ) (t : Bool) → (a == b) ≡ t → (b == a) ≡ t
turn a b true is = grind (arith, nat_tests, is)
turn a b false is = grind (arith, nat_tests, is)

-- nothing, or to the outside
Leaves : (S : Type 0) → Option Reply → Type 0
Leaves S reply = (sender : ℕ) (net : Net S) → (put_reply sender reply net).wire ≡ net.wire

module _ {S : Type 0} where
  -- ## A reply to the outside

  reply-hosts : (sender : ℕ) (reply : Option Reply) (net : Net S) → (put_reply sender reply net).hosts ≡ net.hosts
  unfolding put_reply put
  reply-hosts sender None net = refl
  reply-hosts sender (Some reply) net = by reply.peer
    where
      by : (peer : Peer) → (put sender peer reply.message None net).hosts ≡ net.hosts
      by (peers.Outside place) = refl
      by (peers.Inside host) = refl
      by peers.Nowhere = refl

  -- ## What is queued

  queue-sessions : (serial now : ℕ) (event : Queued) (count : ℕ) (host : Host S) (live : Live S)
      → live_in serial host ≡ Some live
      → (queue serial now event count host).host.sessions ≡ change_first (is_live serial) (with_event (count + 1) now event) host.sessions
  unfolding queue quiet
  queue-sessions serial now event count host live is = rw is refl

  pub queue-reply : (serial now : ℕ) (event : Queued) (count : ℕ) (host : Host S)
      → (queue serial now event count host).reply ≡ None
  unfolding queue quiet
  queue-reply serial now event count host = by (is_some (live_in serial host))
    where
      by : (b : Bool)
          → (cond b (quiet (record host { sessions = change_first (is_live serial) (with_event (count + 1) now event) host.sessions }) (count + 1)) (quiet host count)).reply ≡ None
      by true = refl
      by false = refl

  server-sessions : (app : AppId) (event : ℕ) (peer : Peer) (tag : Bytes) (request : Request) (host : Host S)
      → (with_server app event peer tag request host).sessions ≡ host.sessions
  unfolding with_server
  server-sessions app event peer tag request host = by (same_bytes (method_of request) ack)
    where
      by : (b : Bool)
          → (cond b host (record host { servers = host.servers ++ record { app = app; event = event; peer = peer; tag = tag; request = request; passed = []; last = None } ∷ [] })).sessions ≡ host.sessions
      by true = refl
      by false = refl

  trying-sessions : (from : Peer) (now : ℕ) (request : Request) (taken : Taken S)
      → (with_trying from now request taken).host.sessions ≡ taken.host.sessions
  unfolding with_trying
  trying-sessions from now request taken = by (same_bytes (method_of request) invite) _ refl
    where
      by : (b : Bool) (after : Taken S) → after.host.sessions ≡ taken.host.sessions
          → (cond b after taken).host.sessions ≡ taken.host.sessions
      by true after same = same
      by false after same = refl

  trying-leaves : (place : Place) (now : ℕ) (request : Request) (taken : Taken S) → taken.reply ≡ None
      → Leaves S (with_trying (peers.Outside place) now request taken).reply
  unfolding with_trying Leaves put_reply put
  trying-leaves place now request taken none = λ sender net. by (same_bytes (method_of request) invite) sender net
    where
      quietly : (sender : ℕ) (net : Net S) (reply : Option Reply) → reply ≡ None
          → (put_reply sender reply net).wire ≡ net.wire
      quietly sender net None is = refl
      quietly sender net (Some reply) is = cc

      by : (b : Bool) (sender : ℕ) (net : Net S)
          → (put_reply sender (cond b (replying (peers.Outside place) (messages.Response (trying_response trying request)) (record taken {
            host = record taken.host { servers = change_first (is_server taken.count) (tried request now) taken.host.servers };
          })) taken).reply net).wire ≡ net.wire
      by true sender net = refl
      by false sender net = quietly sender net taken.reply none

  pub later-sessions : (config : Config) (epoch number : ℕ) (from : Peer) (now : ℕ) (request : Request) (count : ℕ) (live : Live S) (host : Host S)
      → is_full live ≡ false → live_in live.serial host ≡ Some live
      → (queue_later config (record { host = number; epoch = epoch; from = from; now = now; count = count }) request live host).host.sessions
      ≡ change_first (is_live live.serial) (with_event (count + 1) now (queued.Request (unrouted config request))) host.sessions
  unfolding queue_later
  later-sessions config epoch number from now request count live host room is =
      let app : AppId = record { host = number; serial = live.serial } in
      let served : Host S = with_server app (count + 1) from (own_tag config epoch app) (unrouted config request) host in
      let same : served.sessions ≡ host.sessions = server-sessions app (count + 1) from (own_tag config epoch app) (unrouted config request) host in
      rw room (trying-sessions from now request (queue live.serial now (queued.Request (unrouted config request)) count served)
      ∙ queue-sessions live.serial now (queued.Request (unrouted config request)) count served live (ap (find (is_live live.serial)) same ∙ is)
      ∙ ap (change_first (is_live live.serial) (with_event (count + 1) now (queued.Request (unrouted config request)))) same)

  later-leaves : (config : Config) (epoch number : ℕ) (place : Place) (now : ℕ) (request : Request) (count : ℕ) (live : Live S) (host : Host S)
      → is_full live ≡ false
      → Leaves S (queue_later config (record { host = number; epoch = epoch; from = peers.Outside place; now = now; count = count }) request live host).reply
  unfolding queue_later
  later-leaves config epoch number place now request count live host room =
      let app : AppId = record { host = number; serial = live.serial } in
      let served : Host S = with_server app (count + 1) (peers.Outside place) (own_tag config epoch app) (unrouted config request) host in
      rw room (trying-leaves place now request (queue live.serial now (queued.Request (unrouted config request)) count served) (queue-reply live.serial now (queued.Request (unrouted config request)) count served))

  -- ## The host with it is placed

  abbrev pub Changes : ℕ → Queued → ℕ → Live S → Host S → Taken S → Type 0
  Changes now event count live host taken = taken.host.sessions ≡ change_first (is_live live.serial) (with_event (count + 1) now event) host.sessions

  placed-hosts : (number : ℕ) (taken : Taken S) (net : Net S)
      → (placed number taken net).hosts ≡ change_nth number (λ host. taken.host) net.hosts
  unfolding placed
  placed-hosts number taken net = reply-hosts number taken.reply _

  placed-wire : (number : ℕ) (taken : Taken S) (net : Net S) → Leaves S taken.reply
      → (placed number taken net).wire ≡ net.wire
  unfolding placed Leaves
  placed-wire number taken net leaves = leaves number _

  pub placed-here : (number now : ℕ) (event : Queued) (host : Host S) (live : Live S) (taken : Taken S) (net : Net S)
      → host_at number net ≡ Some host → find (is_live live.serial) host.sessions ≡ Some live
      → Changes now event net.count live host taken
      → live_at (record { host = number; serial = live.serial }) (placed number taken net) ≡ Some (with_event (net.count + 1) now event live)
  unfolding with_event
  placed-here number now event host live taken net at is changes =
      let there : slice_get (placed number taken net).hosts number ≡ Some taken.host =
      ap (λ (hosts : List (Host S)). slice_get hosts number) (placed-hosts number taken net) ∙ slice_get-change_nth number (λ host. taken.host) net.hosts ∙ ap (option_map (λ host. taken.host)) at in
      ap (live_of (record { host = number; serial = live.serial })) there ∙ ap (find (is_live live.serial)) changes
      ∙ find-changed host.sessions (is_live live.serial) (with_event (net.count + 1) now event) (λ live. refl) ∙ ap (option_map (with_event (net.count + 1) now event)) is

  pub placed-other : (other : AppId) (number now : ℕ) (event : Queued) (host : Host S) (live : Live S) (taken : Taken S) (net : Net S)
      → host_at number net ≡ Some host → Changes now event net.count live host taken
      → (here same : Bool) → (other.host == number) ≡ here → (other.serial == live.serial) ≡ same
      → (here && same) ≡ false → live_at other (placed number taken net) ≡ live_at other net
  unfolding with_event
  placed-other other number now event host live taken net at changes false same here is away =
      let there : slice_get (placed number taken net).hosts other.host ≡ slice_get net.hosts other.host =
      ap (λ (hosts : List (Host S)). slice_get hosts other.host) (placed-hosts number taken net) ∙ slice_get-other net.hosts number other.host (λ host. taken.host) (λ e. differ other.host number here (sym e)) in
      ap (live_of other) there
  placed-other other number now event host live taken net at changes true false here is away =
      let there : slice_get (placed number taken net).hosts number ≡ Some taken.host =
      ap (λ (hosts : List (Host S)). slice_get hosts number) (placed-hosts number taken net) ∙ slice_get-change_nth number (λ host. taken.host) net.hosts ∙ ap (option_map (λ host. taken.host)) at in
      let found : host_at other.host net ≡ Some host = rw (equal other.host number here) at in
      let found-then : slice_get (placed number taken net).hosts other.host ≡ Some taken.host = rw (equal other.host number here) there in
      let before : live_at other net ≡ find (is_live other.serial) host.sessions = ap (live_of other) found in
      let after : live_at other (placed number taken net) ≡ find (is_live other.serial) taken.host.sessions = ap (live_of other) found-then in
      after ∙ ap (find (is_live other.serial)) changes
      ∙ find-other host.sessions (is_live live.serial) (is_live other.serial) (with_event (net.count + 1) now event) (λ l is-live. apart other.serial live.serial l.serial is is-live) (λ l. refl)
      ∙ sym before
  placed-other other number now event host live taken net at changes true true here is away = cc

  -- ## From outside

  pub at-host : (app : AppId) (live : Live S) (found : Option (Host S)) → live_of app found ≡ Some live
      → (host : Host S) × (found ≡ Some host) × (find (is_live app.serial) host.sessions ≡ Some live)
  at-host app live None is = cc
  at-host app live (Some host) is = (host, refl, is)

  host-small : (hosts : List (Host S)) (place : ℕ) (host : Host S) → AllSmall hosts → slice_get hosts place ≡ Some host
      → AreSmall host.sessions
  host-small [] place host small at = cc
  host-small (first ∷ hosts) zero host small at = let same : first ≡ host = cc in rw (← same) small.0
  host-small (first ∷ hosts) (suc place) host small at = host-small hosts place host small.1 at

  pub serial-is : (serial : ℕ) (lives : List (Live S)) (live : Live S) → find (is_live serial) lives ≡ Some live
      → live.serial ≡ serial
  serial-is serial [] live is = cc
  serial-is serial (first ∷ lives) live is = by (first.serial == serial) refl is (serial-is serial lives live)
    where
      by : (b : Bool) → (first.serial == serial) ≡ b → cond b (Some first) (find (is_live serial) lives) ≡ Some live
          → (find (is_live serial) lives ≡ Some live → live.serial ≡ serial) → live.serial ≡ serial
      by true at is later = let same : first ≡ live = cc in rw (← same) (equal first.serial serial at)
      by false at is later = later is

  comes-to : (setup : Setup) (from : Place) (request : Request) (net : Net S) (app : AppId) (live : Live S)
      → IsLaterFor setup from request net app live → (host : Host S) → host_at app.host net ≡ Some host
      → find (is_live app.serial) host.sessions ≡ Some live
      → ComesTo setup from request net
  comes-to setup from request net app live to host at is =
      let lives : named_live net.epoch app.host to.uri host ≡ Some live = named_live-is net.epoch app.host app.serial to.uri host to.within (host-small net.hosts app.host host to.small at) to.named ∙ is in record {
        uri = to.uri;
        by = to.by;
        number = app.host;
        named = named_host-is net.epoch app to.uri to.within to.named net host refl to.count to.small at (ap (λ (x : Option (Live S)). is_some x) lives);
        host = host;
        there = at;
        live = live;
        lives = lives;
        fresh = host-unclaimed net (peers.Outside from) request app.host host to.later.unclaimed at;
      }

  pub with-inbox : (n now : ℕ) (event : Queued) (live : Live S)
      → (with_event n now event live).inbox ≡ live.inbox ++ record { number = n; event = event } ∷ []
  unfolding with_event
  with-inbox n now event live = refl

  pub with-session : (n now : ℕ) (event : Queued) (live : Live S) → (with_event n now event live).session ≡ live.session
  unfolding with_event
  with-session n now event live = refl

  pub reaches : (form : Form S) (setup : Setup) (from : Place) (request : Request) (net : Net S) (app : AppId) (live : Live S)
      → IsLaterFor setup from request net app live
      → IsQueuedAlone app live (queued.Request (unrouted setup.config request)) net (stepped form setup (steps.In from (messages.Request request)) net)
  unfolding stepped comes-to at-host
  reaches form setup from request net app live to =
      let at = at-host app live (host_at app.host net) to.lives in
      let event : Queued = queued.Request (unrouted setup.config request) in
      let taken : Taken S = queue_later setup.config (record { host = app.host; epoch = net.epoch; from = peers.Outside from; now = net.moment; count = net.count }) request live at.0 in
      let same-serial : live.serial ≡ app.serial = serial-is app.serial at.0.sessions live at.2 in
      let found : find (is_live live.serial) at.0.sessions ≡ Some live = subst (λ (n : ℕ). find (is_live n) at.0.sessions ≡ Some live) (sym same-serial) at.2 in
      let changes = later-sessions setup.config net.epoch app.host (peers.Outside from) net.moment request net.count live at.0 to.room found in
      let arrives = arrived-later form setup from request net to.later (comes-to setup from request net app live to at.0 at.1 at.2) in
      subst (λ (changed : Net S). IsQueuedAlone app live event net changed) (sym arrives) (record {
        later = with_event (net.count + 1) net.moment event live;
        lives = subst (λ (n : ℕ). live_at (record { host = app.host; serial = n }) (placed app.host taken net) ≡ Some (with_event (net.count + 1) net.moment event live)) same-serial
            (placed-here app.host net.moment event at.0 live taken net at.1 found changes);
        inbox = with-inbox (net.count + 1) net.moment event live;
        same = with-session (net.count + 1) net.moment event live;
        others = λ other away. placed-other other app.host net.moment event at.0 live taken net at.1 changes _ _ refl refl (subst (λ (n : ℕ). ((other.host == app.host) && (other.serial == n)) ≡ false) (sym same-serial) away);
        wire = placed-wire app.host taken net (later-leaves setup.config net.epoch app.host from net.moment request net.count live at.0 to.room);
      })
