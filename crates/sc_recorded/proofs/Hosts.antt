-- What a host takes: the request that began one application session stays what its server transactions and its session know, and
-- requests over inner hops stay of a kind.
use Rattle.std.proofs.Common.{◌≡◌, ◌≤◌, ◌<◌, ◌⊎◌, inl, inr, ℕ, ◌+◌, Bool, true, false, Option, None, Some, List, refl, sym, ap, subst, ◌∙◌, arith}
use Rattle.std.specs.Prelude.{◌==◌, ◌&&◌, cond, drop, is_some, length, slice_get}
use Rattle.std.specs.Option.{option_map_or}
use Rattle.std.proofs.lemmas.Bool.Decides.{nat_tests}
use Rattle.sc_value.specs.Lists.{change_first}
use Rattle.sc_value.specs.declared.ids.AppId.{AppId}
use Rattle.sc_value.specs.declared.message.Message.{Message}
use Rattle.sc_value.specs.declared.message.Message.TheVariants as messages
use Rattle.sc_value.specs.declared.message.Request.{Request}
use Rattle.sc_value.specs.declared.message.Response.{Response}
use Rattle.sc_value.specs.declared.parts.Address.{Address}
use Rattle.sc_terms.specs.declared.settings.Config.{Config}
use Rattle.sc_parts.specs.declared.transactions.ClientItem.{ClientItem}
use Rattle.sc_parts.specs.declared.transactions.ClientOut.{ClientOut}
use Rattle.sc_parts.specs.declared.transactions.ServerItem.{ServerItem}
use Rattle.sc_state.specs.Hosts.{Host}
use Rattle.sc_state.specs.declared.host.Client.{Client}
use Rattle.sc_state.specs.declared.host.Live.{Live}
use Rattle.sc_state.specs.declared.host.Peer.{Peer}
use Rattle.sc_state.specs.declared.host.Server.{Server}
use Rattle.sc_state.specs.declared.host.Taken.{Taken}
use Rattle.sc_state.specs.declared.net.Note.{Note}
use Rattle.sc_state.specs.declared.queue.Queued.{Queued}
use Rattle.sc_state.specs.declared.queue.Queued.TheVariants as queued
use Rattle.sc_state.specs.declared.queue.Waiting.{Waiting}
use Rattle.sc_tokens.specs.Bytes.{Bytes}
use Rattle.sc_model.specs.Dialogs.{tag_of}
use Rattle.sc_model.specs.OwnHosts.{is_own}
use Rattle.sc_hosts.proofs.EachSort.{takes-by}
use Rattle.sc_hosts.specs.Inboxes.{is_live, queue, without_answer as quiet, replying, with_event}
use Rattle.sc_hosts.specs.Messages.{ack_of, cancel_of, kin}
use Rattle.sc_hosts.specs.Nets.{with_routes}
use Rattle.sc_hosts.specs.Sessions.{Form, Turn}
use Rattle.sc_hosts.specs.Taking.{take_cancel as cancelled, last_again, again_if, take_repeated as repeated, begun_live, refuse, server_after_trying as tried, without_own_route as unrouted, with_server, with_trying, queue_later, take_new as begun, take_initial, takes}
use Rattle.sc_hosts.specs.TakingResponses.{cancelling, take_provisional as told, told_by, with_reply, response_for, response_to, take_response}
use Rattle.sc_hosts.specs.Transacting.{client_for, client_passed, has_final, is_answered_by, is_same_app, is_server, pass_client, pass_server, server_passed, without_ended}
use Rattle.sc_lasting.specs.Lasting.{All}
use Rattle.sc_lasting.proofs.Parts.{all-append, all-filter, all-first, all-found, all-map}
use Rattle.sc_keyed.proofs.ClientKeys.{app-is}
use Rattle.sc_hops.specs.Hops.{IsOnWay, IsReplied}
use Rattle.sc_hops.proofs.OneTurn.{unrouted-vias}
use Rattle.sc_recorded.specs.Recorded.{IsInner, IsTaggedEvent}

-- ## Kinds

-- a kind of requests, by what began the session that is spoken of: such requests stay of the kind once that is known, as their CANCEL
-- and ACK, with other Routes, and without their own top Route; and what is told of sessions as they begin, and by each turn
pub record AreKinds {S : Type 0} (form : Form S) (request_of : S → Request) (Lives : S → Type 0) (Sound : Option Request → Request → Type 0) : Type 0 where
  pub begins_of : (config : Config) (app : AppId) (epoch now : ℕ) (noted : Note) (request : Request) → request_of (form.begin config app epoch now noted request) ≡ request
  pub begins : (config : Config) (app : AppId) (epoch now : ℕ) (noted : Note) (request : Request) → Lives (form.begin config app epoch now noted request)
  pub turned_of : (config : Config) (turn : Turn) (session : S) → request_of (form.turned config turn session) ≡ request_of session
  pub turned : (config : Config) (turn : Turn) (session : S) → IsTaggedEvent turn.waiting.event → Lives session → Lives (form.turned config turn session)
  pub more : (began request : Request) → Sound None request → Sound (Some began) request
  pub kin_sound : (known : Option Request) (method : Bytes) (to : Address) (request : Request) → Sound known request → Sound known (kin method to request)
  pub routed : (known : Option Request) (routes : List Address) (request : Request) → Sound known request → Sound known (with_routes routes request)
  pub popped : (known : Option Request) (config : Config) (request : Request) → Sound known request → Sound known (unrouted config request)
  pub vias : (known : Option Request) (request : Request) → Sound known request → 1 ≤ length request.head.via

pub unrouted-to : (config : Config) (request : Request) → (unrouted config request).head.to ≡ request.head.to
unfolding unrouted
unrouted-to config request = by (option_map_or (λ route. is_own config route.uri) (slice_get request.head.route 0) false)
  where
    by : (b : Bool) → (cond b (record request { head = record request.head { route = drop 1 request.head.route } }) request).head.to ≡ request.head.to
    by true = refl
    by false = refl

-- ## Names

pub other-name : (a b : AppId) → is_same_app a b ≡ false → a ≡ b → ⊥
other-name a b is same = differ b.host b.serial (subst (λ (x : AppId). is_same_app x b ≡ false) same is)
  where
    differ : (h s : ℕ) → (h == h && s == s) ≡ false → ⊥
    differ h s is = grind (arith, nat_tests, is)

other-serial : (a b c d : ℕ) → (a == b && c == d) ≡ false → a ≡ b → (c == d) ≡ false
other-serial a b c d is same = grind (arith, nat_tests, is, same)

still-under : (n s : ℕ) → n < s → (n + 1 == s) ≡ false → n + 1 < s
still-under n s less is = grind (arith, nat_tests, less, is)

over-more : (s n : ℕ) → s ≤ n → s ≤ n + 1
over-more s n most = omega (arith, most)

not-over : (s n : ℕ) → s ≤ n → n + 1 ≡ s → ⊥
not-over s n most is = grind (arith, most, is)

itself : (n s : ℕ) → n ≡ s → s ≤ n
itself n s is = grind (arith, is)

tag-clash : (b : Bool) → b ≡ true → b ≡ false → ⊥
tag-clash b p q = cc

module _ {S : Type 0} (form : Form S) (app : AppId) (request_of : S → Request) (Lives : S → Type 0) (Sound : Option Request → Request → Type 0) (kinds : AreKinds form request_of Lives Sound) where
  -- ## What stands in a host

  -- where the request is known that began the session its serial was given, else it wasn't
  unfoldable pub IsReached : Option Request → ℕ → Type 0
  IsReached None last = (app.serial ≡ 0) ⊎ (last < app.serial)
  IsReached (Some began) last = app.serial ≤ last

  -- a request of this session's and from this end may have its server transaction
  abbrev pub Admits : Option Request → AppId → Peer → Request → Type 0
  Admits known of peer request =
      (1 ≤ length request.head.via) × (of ≡ app → is_some (tag_of request.head.to) ≡ false → known ≡ Some request) × (IsInner peer → Sound known request)

  abbrev pub IsServed : Option Request → Server → Type 0
  IsServed known server = Admits known server.app server.peer server.request

  -- the session has its beginning, and only requests with a To tag wait as later ones
  abbrev pub IsLiveAs : Option Request → ℕ → Live S → Type 0
  IsLiveAs known number live =
      (1 ≤ length (request_of live.session).head.via) × (record { host = number; serial = live.serial } ≡ app → known ≡ Some (request_of live.session)) × Lives live.session
      × All (λ (waiting : Waiting). IsTaggedEvent waiting.event) live.inbox

  abbrev pub IsSent : Option Request → Client → Type 0
  IsSent known client = Sound known client.request

  pub record Good (known : Option Request) (number : ℕ) (host : Host S) : Type 0 where
    pub sessions : All (IsLiveAs known number) host.sessions
    pub servers : All (IsServed known) host.servers
    pub clients : All (IsSent known) host.clients
    pub last : number ≡ app.host → IsReached known host.last

  -- the host is so after it took something, and its reply is of the kind
  pub record Took (known : Option Request) (number : ℕ) (taken : Taken S) : Type 0 where
    pub good : Good known number taken.host
    pub way : IsReplied (Sound known) taken.reply

  -- what is known of the beginning afterwards: what was, or for the first time at the session's host
  abbrev pub Grows : ℕ → Option Request → Option Request → Type 0
  Grows number known later = (later ≡ known) ⊎ ((known ≡ None) × (number ≡ app.host) × (is_some later ≡ true))

  pub record Began (known : Option Request) (number : ℕ) (taken : Taken S) : Type 0 where
    pub later : Option Request
    pub grows : Grows number known later
    pub took : Took later number taken

  module _ (number : ℕ) where
    if-took : (known : Option Request) (b : Bool) (x y : Taken S) → Took known number x → Took known number y → Took known number (cond b x y)
    if-took known true x y p q = p
    if-took known false x y p q = q

    if-began : (known : Option Request) (b : Bool) (x y : Taken S) → Began known number x → Began known number y → Began known number (cond b x y)
    if-began known true x y p q = p
    if-began known false x y p q = q

    if-good : (known : Option Request) (b : Bool) (x y : Host S) → Good known number x → Good known number y → Good known number (cond b x y)
    if-good known true x y p q = p
    if-good known false x y p q = q

    began : (known : Option Request) (taken : Taken S) → Took known number taken → Began known number taken
    began known taken took = record { later = known; grows = inl refl; took = took }

    quiet-took : (known : Option Request) (count : ℕ) (host : Host S) → Good known number host → Took known number (quiet host count)
    unfolding quiet IsReplied
    quiet-took known count host good = record { good = good; way = tt }

    responds : (known : Option Request) (peer : Peer) (response : Response) (taken : Taken S) → Good known number taken.host → Took known number (replying peer (messages.Response response) taken)
    unfolding IsReplied IsOnWay
    responds known peer response taken good = record { good = good; way = tt }

    pub queue-took : (known : Option Request) (serial now : ℕ) (event : Queued) (count : ℕ) (host : Host S) → IsTaggedEvent event → Good known number host
        → Took known number (queue serial now event count host)
    unfolding queue with_event
    queue-took known serial now event count host tagged good =
        if-took known _ _ (quiet host count)
        (quiet-took known (count + 1) _ (record {
          sessions = all-first (IsLiveAs known number) (is_live serial) (with_event (count + 1) now event) host.sessions
              (λ live found ok. (ok.0, ok.1, ok.2, all-append (λ (waiting : Waiting). IsTaggedEvent waiting.event) live.inbox (record { number = count + 1; event = event }) ok.3 tagged)) good.sessions;
          servers = good.servers;
          clients = good.clients;
          last = good.last;
        })) (quiet-took known count host good)

    -- ## Transactions

    pub pass_client-good : (known : Option Request) (of : AppId) (branch : ℕ) (cancelling : Bool) (item : ClientItem) (host : Host S) → Good known number host
        → Good known number (pass_client of branch cancelling item host)
    unfolding pass_client client_passed without_ended
    pass_client-good known of branch cancelling item host good = record {
      sessions = good.sessions;
      servers = all-filter (IsServed known) _ host.servers good.servers;
      clients = all-filter (IsSent known) _ _ (all-first (IsSent known) _ (client_passed item) host.clients (λ client found sound. sound) good.clients);
      last = good.last;
    }

    pub pass_server-good : (known : Option Request) (event : ℕ) (item : ServerItem) (host : Host S) → Good known number host → Good known number (pass_server event item host)
    unfolding pass_server server_passed without_ended
    pass_server-good known event item host good = record {
      sessions = good.sessions;
      servers = all-filter (IsServed known) _ _ (all-first (IsServed known) (is_server event) (server_passed item) host.servers (λ server found ok. ok) good.servers);
      clients = all-filter (IsSent known) _ host.clients good.clients;
      last = good.last;
    }

    -- ## Responses

    told_by-took : (known : Option Request) (now : ℕ) (tell : Option ℕ) (client : Client) (response : Response) (count : ℕ) (host : Host S) → Good known number host
        → Took known number (told_by tell now client response count host)
    unfolding told_by told IsTaggedEvent
    told_by-took known now None client response count host good = quiet-took known count host good
    told_by-took known now (Some code) client response count host good =
        if-took known _ (quiet host count) _ (quiet-took known count host good) (queue-took known client.app.serial now _ count host tt good)

    with_reply-took : (known : Option Request) (now : ℕ) (out : ClientOut) (client : Client) (response : Response) (taken : Taken S) → IsSent known client → Took known number taken
        → Took known number (with_reply out now client response taken)
    unfolding with_reply cancelling cancel_of ack_of IsReplied IsOnWay
    with_reply-took known now out client response taken sound took =
        if-took known out.ack _ _ (record { good = took.good; way = kinds.kin_sound known _ _ client.request sound })
        (if-took known out.cancel _ taken
        (record {
          good = record {
            sessions = took.good.sessions;
            servers = took.good.servers;
            clients = all-append (IsSent known) taken.host.clients _ took.good.clients (kinds.kin_sound known _ _ client.request sound);
            last = took.good.last;
          };
          way = kinds.kin_sound known _ _ client.request sound;
        }) took)

    response_to-took : (known : Option Request) (now : ℕ) (client : Option Client) (response : Response) (count : ℕ) (host : Host S) → ((c : Client) → client ≡ Some c → IsSent known c)
        → Good known number host → Took known number (response_to now client response count host)
    unfolding response_to response_for
    response_to-took known now None response count host sound good = quiet-took known count host good
    response_to-took known now (Some client) response count host sound good =
        with_reply-took known now _ client response _ (sound client refl) (told_by-took known now _ client response count _ (pass_client-good known client.app client.branch _ _ host good))

    take_response-took : (known : Option Request) (config : Config) (other : ℕ) (from : Peer) (now : ℕ) (response : Response) (count : ℕ) (host : Host S) → Good known number host
        → Took known number (take_response config other from now response count host)
    unfolding take_response client_for
    take_response-took known config other from now response count host good =
        response_to-took known now _ response count host (λ client found. all-found (IsSent known) (is_answered_by config.salt other from response) host.clients client found good.clients) good

    -- ## CANCEL, ACK and repeated requests

    cancelled-took : (known : Option Request) (from : Peer) (now : ℕ) (server : Server) (request : Request) (count : ℕ) (host : Host S) → Good known number host
        → Took known number (cancelled from now server request count host)
    unfolding cancelled IsTaggedEvent
    cancelled-took known from now server request count host good =
        let told : Taken S = cond (has_final server) (quiet host count) (queue server.app.serial now (queued.Cancelled server.event) count host) in
        responds known from _ told
        (if-took known (has_final server) (quiet host count) _ (quiet-took known count host good) (queue-took known server.app.serial now (queued.Cancelled server.event) count host tt good)).good

    last_again-took : (known : Option Request) (server : Server) (last : Option Response) (taken : Taken S) → Took known number taken → Took known number (last_again server last taken)
    unfolding last_again
    last_again-took known server None taken took = took
    last_again-took known server (Some response) taken took = responds known server.peer response taken took.good

    again_if-took : (known : Option Request) (b : Bool) (server : Server) (taken : Taken S) → Took known number taken → Took known number (again_if b server taken)
    unfolding again_if
    again_if-took known true server taken took = last_again-took known server server.last taken took
    again_if-took known false server taken took = took

    repeated-took : (known : Option Request) (server : Server) (count : ℕ) (host : Host S) → Good known number host → Took known number (repeated server count host)
    unfolding repeated
    repeated-took known server count host good = again_if-took known _ server _ (quiet-took known count _ (pass_server-good known server.event _ host good))

    -- ## Requests

    refuse-took : (known : Option Request) (config : Config) (from : Peer) (code : ℕ) (reason : Bytes) (request : Request) (count : ℕ) (host : Host S) → Good known number host
        → Took known number (refuse config from code reason request count host)
    unfolding refuse
    refuse-took known config from code reason request count host good =
        if-took known _ (quiet host count) _ (quiet-took known count host good) (responds known from _ (quiet host count) (quiet-took known count host good).good)

    with_server-good : (known : Option Request) (of : AppId) (event : ℕ) (peer : Peer) (tag : Bytes) (request : Request) (host : Host S) → Admits known of peer request → Good known number host
        → Good known number (with_server of event peer tag request host)
    unfolding with_server
    with_server-good known of event peer tag request host admits good =
        if-good known _ host _ good (record { sessions = good.sessions; servers = all-append (IsServed known) host.servers _ good.servers admits; clients = good.clients; last = good.last })

    with_trying-took : (known : Option Request) (from : Peer) (now : ℕ) (request : Request) (taken : Taken S) → Took known number taken → Took known number (with_trying from now request taken)
    unfolding with_trying tried
    with_trying-took known from now request taken took =
        if-took known _ _ taken
        (responds known from _ (record taken { host = record taken.host { servers = change_first (is_server taken.count) (tried request now) taken.host.servers } }) (record {
          sessions = took.good.sessions;
          servers = all-first (IsServed known) (is_server taken.count) (tried request now) taken.host.servers (λ server found ok. ok) took.good.servers;
          clients = took.good.clients;
          last = took.good.last;
        })) took

    -- a request comes, from inside as one of the kind
    abbrev pub Comes : Option Request → Peer → Request → Type 0
    Comes known from request = (1 ≤ length request.head.via) × (IsInner from → Sound known request)

    later-admits : (known : Option Request) (config : Config) (of : AppId) (from : Peer) (request : Request) → is_some (tag_of request.head.to) ≡ true → Comes known from request
        → Admits known of from (unrouted config request)
    later-admits known config of from request tagged comes = (
      rw (unrouted-vias config request) comes.0,
      λ same untagged. absurd (tag-clash (is_some (tag_of request.head.to)) tagged (subst (λ (to : Address). is_some (tag_of to) ≡ false) (unrouted-to config request) untagged)),
      λ inner. kinds.popped known config request (comes.1 inner),
    )

    later-tagged : (config : Config) (request : Request) → is_some (tag_of request.head.to) ≡ true → IsTaggedEvent (queued.Request (unrouted config request))
    unfolding IsTaggedEvent
    later-tagged config request tagged = subst (λ (to : Address). is_some (tag_of to) ≡ true) (sym (unrouted-to config request)) tagged

    queue_later-took : (known : Option Request) (config : Config) (other : ℕ) (from : Peer) (now : ℕ) (request : Request) (count : ℕ) (live : Live S) (host : Host S)
        → is_some (tag_of request.head.to) ≡ true → Comes known from request → Good known number host → Took known number (queue_later config (record { host = number; epoch = other; from = from; now = now; count = count }) request live host)
    unfolding queue_later
    queue_later-took known config other from now request count live host tagged comes good =
        if-took known _ _ _ (refuse-took known config from 503 _ request count host good)
        (with_trying-took known from now request _
        (queue-took known live.serial now (queued.Request (unrouted config request)) count _ (later-tagged config request tagged)
        (with_server-good known _ _ from _ (unrouted config request) host (later-admits known config _ from request tagged comes) good)))

    -- ## A session begins

    none-some : (request : Request) → ◌≡◌ {A = Option Request} None (Some request) → ⊥
    none-some request is = cc

    more-live : (first : Request) (live : Live S) → IsLiveAs None number live → IsLiveAs (Some first) number live
    more-live first live ok = (ok.0, λ same. absurd (none-some _ (ok.1 same)), ok.2, ok.3)

    pub more-served : (first : Request) (server : Server) → IsServed None server → IsServed (Some first) server
    more-served first server ok = (ok.0, λ same untagged. absurd (none-some _ (ok.1 same untagged)), λ inner. kinds.more first server.request (ok.2 inner))

    abbrev named : Host S → AppId
    named host = record { host = number; serial = host.last + 1 }

    module _ (other now : ℕ) (config : Config) (from : Peer) (noted : Note) (request : Request) (count : ℕ) (host : Host S) where
      opened : (known : Option Request) → All (IsLiveAs known number) host.sessions → All (IsServed known) host.servers → All (IsSent known) host.clients
          → (number ≡ app.host → IsReached known (host.last + 1)) → (named host ≡ app → known ≡ Some request) → Comes known from request
          → Took known number (begun form config (record { host = number; epoch = other; from = from; now = now; count = count }) noted request host)
      unfolding begun begun_live All IsTaggedEvent
      opened known sessions servers clients reached is comes =
          let of : request_of (form.begin config (named host) other now noted request) ≡ request = kinds.begins_of config (named host) other now noted request in
          with_trying-took known from now request _
          (quiet-took known (count + 1) _
          (with_server-good known (named host) (count + 1) from _ request _ (comes.0, λ same untagged. is same, comes.1) (record {
            sessions = all-append (IsLiveAs known number) host.sessions _ sessions (
              subst (λ (r : Request). 1 ≤ length r.head.via) (sym of) comes.0,
              λ same. is same ∙ ap (λ (r : Request). Some r) (sym of),
              kinds.begins config (named host) other now noted request,
              (tt, tt),
            );
            servers = servers;
            clients = clients;
            last = reached;
          })))

      reach-more : (known : Option Request) (n : ℕ) → (n + 1 == app.serial) ≡ false → IsReached known n → IsReached known (n + 1)
      unfolding IsReached
      reach-more None n is (inl none) = inl none
      reach-more None n is (inr less) = inr (still-under n app.serial less is)
      reach-more (Some first) n is most = over-more app.serial n most

      stays : (known : Option Request) → is_same_app (named host) app ≡ false → Comes known from request → Good known number host
          → Began known number (begun form config (record { host = number; epoch = other; from = from; now = now; count = count }) noted request host)
      stays known is comes good =
          began known _ (opened known good.sessions good.servers good.clients
          (λ here. reach-more known host.last (other-serial number app.host (host.last + 1) app.serial is here) (good.last here))
          (λ same. absurd (other-name (named host) app is same)) comes)

      first : (known : Option Request) → named host ≡ app → Comes known from request → Good known number host
          → Began known number (begun form config (record { host = number; epoch = other; from = from; now = now; count = count }) noted request host)
      unfolding IsReached
      first None same comes good = record {
        later = Some request;
        grows = inr (refl, ap (λ (a : AppId). a.host) same, refl);
        took = opened (Some request) (all-map (IsLiveAs None number) (IsLiveAs (Some request) number) host.sessions (more-live request) good.sessions)
            (all-map (IsServed None) (IsServed (Some request)) host.servers (more-served request) good.servers)
            (all-map (IsSent None) (IsSent (Some request)) host.clients (λ client sound. kinds.more request client.request sound) good.clients)
            (λ here. itself (host.last + 1) app.serial (ap (λ (a : AppId). a.serial) same)) (λ is. refl) (comes.0, λ inner. kinds.more request request (comes.1 inner));
      }
      first (Some earlier) same comes good = absurd (not-over app.serial host.last (good.last (ap (λ (a : AppId). a.host) same)) (ap (λ (a : AppId). a.serial) same))

      begun-by : (known : Option Request) (b : Bool) → is_same_app (named host) app ≡ b → Comes known from request → Good known number host
          → Began known number (begun form config (record { host = number; epoch = other; from = from; now = now; count = count }) noted request host)
      begun-by known true is comes good = first known (app-is (named host) app is) comes good
      begun-by known false is comes good = stays known is comes good

    take_initial-began : (known : Option Request) (config : Config) (other : ℕ) (from : Peer) (now : ℕ) (noted : Option Note) (request : Request) (count : ℕ) (host : Host S)
        → Comes known from request → Good known number host → Began known number (take_initial form config (record { host = number; epoch = other; from = from; now = now; count = count }) noted request host)
    unfolding take_initial
    take_initial-began known config other from now None request count host comes good = began known _ (refuse-took known config from 481 _ request count host good)
    take_initial-began known config other from now (Some noted) request count host comes good =
        if-began known _ _ _ (began known _ (refuse-took known config from 503 _ request count host good)) (begun-by other now config from noted request count host known _ refl comes good)

    -- a message comes
    unfoldable pub MessageComes : Option Request → Peer → Message → Type 0
    MessageComes known from (messages.Request request) = Comes known from request
    MessageComes known from (messages.Response response) = Unit {0}

    -- all that a host takes
    pub takes-began : (known : Option Request) (config : Config) (other : ℕ) (from : Peer) (now : ℕ) (noted : Option Note) (message : Message) (count : ℕ) (host : Host S)
        → MessageComes known from message → Good known number host → Began known number (takes form config (record { host = number; epoch = other; from = from; now = now; count = count }) noted message host)
    unfolding takes MessageComes
    takes-began known config other from now noted (messages.Request request) count host comes good =
        takes-by (Began known number) form config (record { host = number; epoch = other; from = from; now = now; count = count }) noted request host
        (λ server found. began known _ (cancelled-took known from now server request count host good))
        (λ server found. began known _ (quiet-took known count _ (pass_server-good known server.event _ host good)))
        (λ server found. began known _ (repeated-took known server count host good))
        (λ live no_cancel tagged is. began known _ (queue_later-took known config other from now request count live host tagged comes good))
        (λ untagged. take_initial-began known config other from now noted request count host comes good) (began known _ (refuse-took known config from 481 _ request count host good))
    takes-began known config other from now noted (messages.Response response) count host comes good = began known _ (take_response-took known config other from now response count host good)
