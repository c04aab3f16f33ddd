-- What a host keeps of a request that came to a session goes by the number of its event: its server transaction and that event are of one
-- request and one session.
use Rattle.std.proofs.Common.{◌≡◌, ◌≤◌, ◌⊎◌, inl, inr, ℕ, ◌+◌, ◌++◌, Bool, true, false, Option, None, Some, List, [], ◌∷◌, refl, sym, ap, subst, ◌∙◌, arith}
use Rattle.std.specs.Prelude.{◌==◌, cond, is_none, is_some, option_and_then}
use Rattle.std.specs.List.{find}
use Rattle.std.proofs.lemmas.Bool.Decides.{nat_tests}
use Rattle.sc_tokens.specs.Names.{same_bytes}
use Rattle.sc_value.specs.Lists.{change_first}
use Rattle.sc_value.specs.declared.ids.AppId.{AppId}
use Rattle.sc_value.specs.declared.message.Message.{Message}
use Rattle.sc_value.specs.declared.message.Message.TheVariants as messages
use Rattle.sc_value.specs.declared.message.Request.{Request}
use Rattle.sc_value.specs.declared.message.Response.{Response}
use Rattle.sc_value.specs.declared.parts.Address.{Address}
use Rattle.sc_value.specs.declared.parts.Uri.{Uri}
use Rattle.sc_terms.specs.declared.settings.Config.{Config}
use Rattle.sc_parts.specs.declared.transactions.ClientItem.{ClientItem}
use Rattle.sc_parts.specs.declared.transactions.ClientOut.{ClientOut}
use Rattle.sc_parts.specs.declared.transactions.ServerItem.{ServerItem}
use Rattle.sc_state.specs.Hosts.{Host}
use Rattle.sc_state.specs.declared.host.Client.{Client}
use Rattle.sc_state.specs.declared.host.Coming.{Coming}
use Rattle.sc_state.specs.declared.host.Live.{Live}
use Rattle.sc_state.specs.declared.host.Peer.{Peer}
use Rattle.sc_state.specs.declared.host.Server.{Server}
use Rattle.sc_state.specs.declared.host.Taken.{Taken}
use Rattle.sc_state.specs.declared.net.Note.{Note}
use Rattle.sc_state.specs.declared.queue.Queued.{Queued}
use Rattle.sc_state.specs.declared.queue.Queued.TheVariants as queued
use Rattle.sc_state.specs.declared.queue.Waiting.{Waiting}
use Rattle.sc_tokens.specs.Bytes.{Bytes}
use Rattle.sc_model.specs.Dialogs.{tag_of}
use Rattle.sc_model.specs.SessionStates.{ack, invite}
use Rattle.sc_hosts.proofs.EachSort.{takes-by}
use Rattle.sc_hosts.specs.Inboxes.{is_live, live_in, queue, without_answer as quiet, replying, with_event}
use Rattle.sc_hosts.specs.Messages.{trying_response}
use Rattle.sc_hosts.specs.Sessions.{Form, Turn}
use Rattle.sc_hosts.specs.Taking.{take_cancel as cancelled, last_again, again_if, take_repeated as repeated, begun_live, is_named_live, named_live, own_uri, refuse, server_after_trying as tried, without_own_route as unrouted, with_server, with_trying, queue_later, take_new as begun, take_initial, takes}
use Rattle.sc_hosts.specs.TakingResponses.{take_provisional as told, told_by, with_reply, response_for, response_to, take_response}
use Rattle.sc_hosts.specs.Transacting.{client_for, client_passed, has_final, is_server, method_of, pass_client, pass_server, server_passed, without_ended}
use Rattle.sc_hosts.specs.Words.{trying}
use Rattle.sc_lasting.specs.Lasting.{All}
use Rattle.sc_lasting.proofs.Began.{same-number, test-found}
use Rattle.sc_lasting.proofs.Parts.{all-append, all-filter, all-first, all-map}
use Rattle.sc_keyed.specs.Keyed.{IsIn}
use Rattle.sc_replies.specs.Fields.{Incoming, incoming}
use Rattle.sc_ways.proofs.FirstHop.{in-left, in-last}
use Rattle.sc_recorded.proofs.Hosts.{unrouted-to}

-- ## Requests that came

-- a request that was queued for a session, under this number
pub record Arrival : Type 0 where
  pub number : ℕ
  pub app : AppId
  pub came : Incoming

-- as it comes: an initial one where it has no To tag
abbrev pub as_came : Request → Incoming
as_came request = record { initial = is_none (tag_of request.head.to); request = request }

-- what the event brings is one of these
abbrev pub Noted : List Arrival → AppId → Waiting → Type 0
Noted arrivals app waiting = (came : Incoming) → incoming waiting.event ≡ Some came → IsIn (record { number = waiting.number; app = app; came = came }) arrivals

-- so is the request of a server transaction
abbrev pub ServerIn : List Arrival → Server → Type 0
ServerIn arrivals server = IsIn (record { number = server.event; app = server.app; came = as_came server.request }) arrivals

-- the same ones, or one more, of the next number
unfoldable pub Grows : List Arrival → ℕ → List Arrival → ℕ → Type 0
Grows arrivals count later after =
    ((later ≡ arrivals) × (count ≤ after))
    ⊎ ((request : Request) × (new : Arrival) × (new.came ≡ as_came request) × (new.number ≡ count + 1) × (later ≡ arrivals ++ new ∷ []) × (count + 1 ≤ after))

-- what is told of the sessions of a form, by the requests that came
pub record AreKept {S : Type 0} (form : Form S) (Lives : List Arrival → AppId → S → Type 0) : Type 0 where
  pub begins : (arrivals : List Arrival) (config : Config) (app : AppId) (epoch now : ℕ) (noted : Note) (request : Request) → Lives arrivals app (form.begin config app epoch now noted request)
  pub turned : (arrivals : List Arrival) (app : AppId) (config : Config) (turn : Turn) (session : S) → Noted arrivals app turn.waiting → Lives arrivals app session
      → Lives arrivals app (form.turned config turn session)
  pub more : (arrivals new : List Arrival) (app : AppId) (session : S) → Lives arrivals app session → Lives (arrivals ++ new) app session

-- ## Numbers and tags

same-up : (n : ℕ) → n ≤ n
same-up n = omega arith

one-up : (n : ℕ) → n ≤ n + 1
one-up n = omega arith

pub then-up : (a b c : ℕ) → a ≤ b → b ≤ c → a ≤ c
then-up a b c p q = omega (arith, p, q)

is-up : (a b : ℕ) → b ≡ a → a ≤ b
is-up a b is = omega (arith, is)

equal-numbers : (a b : ℕ) → a ≡ b → (a == b) ≡ true
equal-numbers a b is = grind (arith, nat_tests, is)

some-live : {A : Type 0} (a b : A) → Some a ≡ Some b → a ≡ b
some-live a b is = cc

none-tag : (tag : Option Bytes) → is_some tag ≡ true → is_none tag ≡ false
none-tag None is = cc
none-tag (Some tag) is = refl

no-tag : (tag : Option Bytes) → is_some tag ≡ false → is_none tag ≡ true
no-tag None is = refl
no-tag (Some tag) is = cc

-- ## What is brought

some-came : (a b : Incoming) → Some a ≡ Some b → a ≡ b
some-came a b is = cc

none-came : (event : Queued) (came : Incoming) → incoming event ≡ None → incoming event ≡ Some came → ⊥
none-came event came none is = clash (incoming event) none is
  where
    clash : (found : Option Incoming) → found ≡ None → found ≡ Some came → ⊥
    clash found p q = cc

module _ {S : Type 0} (form : Form S) (Lives : List Arrival → AppId → S → Type 0) (kept : AreKept form Lives) where
  -- a session's events are noted, those that wait and those before
  abbrev pub LiveIn : List Arrival → ℕ → Live S → Type 0
  LiveIn arrivals number live = All (Noted arrivals (record { host = number; serial = live.serial })) live.inbox × Lives arrivals (record { host = number; serial = live.serial }) live.session

  pub record HostIn (arrivals : List Arrival) (number : ℕ) (host : Host S) : Type 0 where
    pub sessions : All (LiveIn arrivals number) host.sessions
    pub servers : All (ServerIn arrivals) host.servers

  -- the host is so after it took something
  pub record Took (arrivals : List Arrival) (number count : ℕ) (taken : Taken S) : Type 0 where
    pub good : HostIn arrivals number taken.host
    pub up : count ≤ taken.count

  -- with one more that came, maybe
  pub record Began (arrivals : List Arrival) (number count : ℕ) (taken : Taken S) : Type 0 where
    pub later : List Arrival
    pub grows : Grows arrivals count later taken.count
    pub good : HostIn later number taken.host

  -- ## More came

  more-noted : (arrivals new : List Arrival) (app : AppId) (waiting : Waiting) → Noted arrivals app waiting → Noted (arrivals ++ new) app waiting
  more-noted arrivals new app waiting noted = λ came is. in-left (record { number = waiting.number; app = app; came = came }) arrivals new (noted came is)

  more-server : (arrivals new : List Arrival) (server : Server) → ServerIn arrivals server → ServerIn (arrivals ++ new) server
  more-server arrivals new server is = in-left (record { number = server.event; app = server.app; came = as_came server.request }) arrivals new is

  more-live : (arrivals new : List Arrival) (number : ℕ) (live : Live S) → LiveIn arrivals number live → LiveIn (arrivals ++ new) number live
  more-live arrivals new number live ok =
      let app : AppId = record { host = number; serial = live.serial } in
      (all-map (Noted arrivals app) (Noted (arrivals ++ new) app) live.inbox (more-noted arrivals new app) ok.0, kept.more arrivals new app live.session ok.1)

  pub more-host : (arrivals new : List Arrival) (number : ℕ) (host : Host S) → HostIn arrivals number host → HostIn (arrivals ++ new) number host
  more-host arrivals new number host good = record {
    sessions = all-map (LiveIn arrivals number) (LiveIn (arrivals ++ new) number) host.sessions (more-live arrivals new number) good.sessions;
    servers = all-map (ServerIn arrivals) (ServerIn (arrivals ++ new)) host.servers (more-server arrivals new) good.servers;
  }

  module _ (number : ℕ) where
    if-took : (arrivals : List Arrival) (count : ℕ) (b : Bool) (x y : Taken S) → Took arrivals number count x → Took arrivals number count y → Took arrivals number count (cond b x y)
    if-took arrivals count true x y p q = p
    if-took arrivals count false x y p q = q

    if-began : (arrivals : List Arrival) (count : ℕ) (b : Bool) (x y : Taken S) → Began arrivals number count x → Began arrivals number count y → Began arrivals number count (cond b x y)
    if-began arrivals count true x y p q = p
    if-began arrivals count false x y p q = q

    if-good : (arrivals : List Arrival) (b : Bool) (x y : Host S) → HostIn arrivals number x → HostIn arrivals number y → HostIn arrivals number (cond b x y)
    if-good arrivals true x y p q = p
    if-good arrivals false x y p q = q

    began : (arrivals : List Arrival) (count : ℕ) (taken : Taken S) → Took arrivals number count taken → Began arrivals number count taken
    unfolding Grows
    began arrivals count taken took = record { later = arrivals; grows = inl (refl, took.up); good = took.good }

    quiet-took : (arrivals : List Arrival) (count : ℕ) (host : Host S) → HostIn arrivals number host → Took arrivals number count (quiet host count)
    unfolding quiet
    quiet-took arrivals count host good = record { good = good; up = same-up count }

    responds : (arrivals : List Arrival) (count : ℕ) (peer : Peer) (message : Message) (taken : Taken S) → Took arrivals number count taken → Took arrivals number count (replying peer message taken)
    responds arrivals count peer message taken took = record { good = took.good; up = took.up }

    -- ## Events

    queue-good : (arrivals : List Arrival) (serial now : ℕ) (event : Queued) (count : ℕ) (host : Host S)
        → ((came : Incoming) → incoming event ≡ Some came → IsIn (record { number = count + 1; app = record { host = number; serial = serial }; came = came }) arrivals)
        → HostIn arrivals number host → HostIn arrivals number (queue serial now event count host).host
    unfolding queue quiet with_event
    queue-good arrivals serial now event count host noted good = by (is_some (live_in serial host))
      where
        by : (b : Bool)
            → HostIn arrivals number (cond b (quiet (record host { sessions = change_first (is_live serial) (with_event (count + 1) now event) host.sessions }) (count + 1)) (quiet host count)).host
        by true = record {
          sessions = all-first (LiveIn arrivals number) (is_live serial) (with_event (count + 1) now event) host.sessions
              (λ live found ok. (
                all-append (Noted arrivals (record { host = number; serial = live.serial })) live.inbox (record { number = count + 1; event = event }) ok.0
                    (λ came is. subst (λ (s : ℕ). IsIn (record { number = count + 1; app = record { host = number; serial = s }; came = came }) arrivals)
                    (sym (same-number live.serial serial (test-found (is_live serial) host.sessions live found))) (noted came is)),
                ok.1,
              )) good.sessions;
          servers = good.servers;
        }
        by false = good

    queue-up : (serial now : ℕ) (event : Queued) (count : ℕ) (host : Host S) → count ≤ (queue serial now event count host).count
    unfolding queue quiet
    queue-up serial now event count host = by (is_some (live_in serial host))
      where
        by : (b : Bool) → count ≤ (cond b (quiet (record host { sessions = change_first (is_live serial) (with_event (count + 1) now event) host.sessions }) (count + 1)) (quiet host count)).count
        by true = one-up count
        by false = same-up count

    -- one that brings no request
    pub queue-took : (arrivals : List Arrival) (serial now : ℕ) (event : Queued) (count : ℕ) (host : Host S) → incoming event ≡ None → HostIn arrivals number host
        → Took arrivals number count (queue serial now event count host)
    queue-took arrivals serial now event count host none good =
        record { good = queue-good arrivals serial now event count host (λ came is. absurd (none-came event came none is)) good; up = queue-up serial now event count host }

    -- ## Transactions

    pub pass_client-good : (arrivals : List Arrival) (of : AppId) (branch : ℕ) (cancelling : Bool) (item : ClientItem) (host : Host S) → HostIn arrivals number host
        → HostIn arrivals number (pass_client of branch cancelling item host)
    unfolding pass_client client_passed without_ended
    pass_client-good arrivals of branch cancelling item host good = record { sessions = good.sessions; servers = all-filter (ServerIn arrivals) _ host.servers good.servers }

    pub pass_server-good : (arrivals : List Arrival) (event : ℕ) (item : ServerItem) (host : Host S) → HostIn arrivals number host → HostIn arrivals number (pass_server event item host)
    unfolding pass_server server_passed without_ended
    pass_server-good arrivals event item host good = record {
      sessions = good.sessions;
      servers = all-filter (ServerIn arrivals) _ _ (all-first (ServerIn arrivals) (is_server event) (server_passed item) host.servers (λ server found ok. ok) good.servers);
    }

    -- ## Responses

    told_by-took : (arrivals : List Arrival) (now : ℕ) (tell : Option ℕ) (client : Client) (response : Response) (count : ℕ) (host : Host S) → HostIn arrivals number host
        → Took arrivals number count (told_by tell now client response count host)
    unfolding told_by told incoming
    told_by-took arrivals now None client response count host good = quiet-took arrivals count host good
    told_by-took arrivals now (Some code) client response count host good =
        if-took arrivals count _ (quiet host count) _ (quiet-took arrivals count host good) (queue-took arrivals client.app.serial now _ count host refl good)

    with_reply-took : (arrivals : List Arrival) (count now : ℕ) (out : ClientOut) (client : Client) (response : Response) (taken : Taken S) → Took arrivals number count taken
        → Took arrivals number count (with_reply out now client response taken)
    unfolding with_reply
    with_reply-took arrivals count now out client response taken took =
        if-took arrivals count out.ack _ _ (record { good = took.good; up = took.up })
        (if-took arrivals count out.cancel _ taken (record { good = record { sessions = took.good.sessions; servers = took.good.servers }; up = took.up }) took)

    response_to-took : (arrivals : List Arrival) (now : ℕ) (client : Option Client) (response : Response) (count : ℕ) (host : Host S) → HostIn arrivals number host
        → Took arrivals number count (response_to now client response count host)
    unfolding response_to response_for
    response_to-took arrivals now None response count host good = quiet-took arrivals count host good
    response_to-took arrivals now (Some client) response count host good =
        with_reply-took arrivals count now _ client response _ (told_by-took arrivals now _ client response count _ (pass_client-good arrivals client.app client.branch _ _ host good))

    take_response-took : (arrivals : List Arrival) (config : Config) (other : ℕ) (from : Peer) (now : ℕ) (response : Response) (count : ℕ) (host : Host S) → HostIn arrivals number host
        → Took arrivals number count (take_response config other from now response count host)
    unfolding take_response client_for
    take_response-took arrivals config other from now response count host good = response_to-took arrivals now _ response count host good

    -- ## CANCEL, ACK and repeated requests

    cancelled-took : (arrivals : List Arrival) (from : Peer) (now : ℕ) (server : Server) (request : Request) (count : ℕ) (host : Host S) → HostIn arrivals number host
        → Took arrivals number count (cancelled from now server request count host)
    unfolding cancelled incoming
    cancelled-took arrivals from now server request count host good =
        let asked : Taken S = cond (has_final server) (quiet host count) (queue server.app.serial now (queued.Cancelled server.event) count host) in
        responds arrivals count from _ asked
        (if-took arrivals count (has_final server) (quiet host count) _ (quiet-took arrivals count host good) (queue-took arrivals server.app.serial now (queued.Cancelled server.event) count host refl good))

    last_again-took : (arrivals : List Arrival) (count : ℕ) (server : Server) (last : Option Response) (taken : Taken S) → Took arrivals number count taken
        → Took arrivals number count (last_again server last taken)
    unfolding last_again
    last_again-took arrivals count server None taken took = took
    last_again-took arrivals count server (Some response) taken took = responds arrivals count server.peer _ taken took

    again_if-took : (arrivals : List Arrival) (count : ℕ) (b : Bool) (server : Server) (taken : Taken S) → Took arrivals number count taken → Took arrivals number count (again_if b server taken)
    unfolding again_if
    again_if-took arrivals count true server taken took = last_again-took arrivals count server server.last taken took
    again_if-took arrivals count false server taken took = took

    repeated-took : (arrivals : List Arrival) (server : Server) (count : ℕ) (host : Host S) → HostIn arrivals number host → Took arrivals number count (repeated server count host)
    unfolding repeated
    repeated-took arrivals server count host good = again_if-took arrivals count _ server _ (quiet-took arrivals count _ (pass_server-good arrivals server.event _ host good))

    -- ## Requests

    refuse-took : (arrivals : List Arrival) (config : Config) (from : Peer) (code : ℕ) (reason : Bytes) (request : Request) (count : ℕ) (host : Host S) → HostIn arrivals number host
        → Took arrivals number count (refuse config from code reason request count host)
    unfolding refuse
    refuse-took arrivals config from code reason request count host good =
        if-took arrivals count _ (quiet host count) _ (quiet-took arrivals count host good) (responds arrivals count from _ (quiet host count) (quiet-took arrivals count host good))

    with_server-good : (arrivals : List Arrival) (of : AppId) (event : ℕ) (peer : Peer) (tag : Bytes) (request : Request) (host : Host S)
        → IsIn (record { number = event; app = of; came = as_came request }) arrivals → HostIn arrivals number host → HostIn arrivals number (with_server of event peer tag request host)
    unfolding with_server
    with_server-good arrivals of event peer tag request host is good =
        let new : Server = record { app = of; event = event; peer = peer; tag = tag; request = request; passed = []; last = None } in
        if-good arrivals (same_bytes (method_of request) ack) host (record host { servers = host.servers ++ new ∷ [] }) good
        (record { sessions = good.sessions; servers = all-append (ServerIn arrivals) host.servers new good.servers is })

    with_server-sessions : (of : AppId) (event : ℕ) (peer : Peer) (tag : Bytes) (request : Request) (host : Host S) → (with_server of event peer tag request host).sessions ≡ host.sessions
    unfolding with_server
    with_server-sessions of event peer tag request host = same _ host _ refl refl
      where
        same : (b : Bool) (x y : Host S) → x.sessions ≡ host.sessions → y.sessions ≡ host.sessions → (cond b x y).sessions ≡ host.sessions
        same true x y p q = p
        same false x y p q = q

    with_trying-began : (arrivals : List Arrival) (count : ℕ) (from : Peer) (now : ℕ) (request : Request) (taken : Taken S) → Began arrivals number count taken
        → Began arrivals number count (with_trying from now request taken)
    unfolding with_trying tried
    with_trying-began arrivals count from now request taken had =
        if-began arrivals count (same_bytes (method_of request) invite)
        (replying from (messages.Response (trying_response trying request)) (record taken { host = record taken.host { servers = change_first (is_server taken.count) (tried request now) taken.host.servers } })) taken
        (record {
          later = had.later;
          grows = had.grows;
          good = record {
            sessions = had.good.sessions;
            servers = all-first (ServerIn had.later) (is_server taken.count) (tried request now) taken.host.servers (λ server found ok. ok) had.good.servers;
          };
        }) had

    -- a later request
    module _ (arrivals : List Arrival) (config : Config) (other : ℕ) (from : Peer) (now : ℕ) (request : Request) (count : ℕ) (host : Host S) (tagged : is_some (tag_of request.head.to) ≡ true) (good : HostIn arrivals number host) where
      abbrev at_host : Coming
      at_host = record { host = number; epoch = other; from = from; now = now; count = count }

      abbrev shown : Request
      shown = unrouted config request

      later-came : (came : Incoming) → incoming (queued.Request shown) ≡ Some came → came ≡ as_came shown
      unfolding incoming
      later-came came is =
          sym (some-came (record { initial = false; request = shown }) came is)
          ∙ ap (λ (initial : Bool). record { initial = initial; request = shown }) (sym (none-tag (tag_of shown.head.to) (subst (λ (to : Address). is_some (tag_of to) ≡ true) (sym (unrouted-to config request)) tagged)))

      found-if : (b : Bool) (y live : Live S) (rest own : Option (Live S)) → cond b (Some y) rest ≡ Some live → (rest ≡ Some live → is_some own ≡ true)
          → is_some (cond (is_live live.serial y) (Some y) own) ≡ true
      found-if true y live rest own is later = rw (equal-numbers y.serial live.serial (ap (λ (l : Live S). l.serial) (some-live y live is))) refl
      found-if false y live rest own is later = either (is_live live.serial y) (later is)
        where
          either : (c : Bool) → is_some own ≡ true → is_some (cond c (Some y) own) ≡ true
          either true is = refl
          either false is = is

      found-live : (test : Live S → Bool) (lives : List (Live S)) (live : Live S) → find test lives ≡ Some live → is_some (find (is_live live.serial) lives) ≡ true
      found-live test [] live is = cc
      found-live test (y ∷ ys) live is = found-if (test y) y live (find test ys) (find (is_live live.serial) ys) is (found-live test ys live)

      queued-up : (serial : ℕ) (event : Queued) (h : Host S) → is_some (live_in serial h) ≡ true → count + 1 ≤ (queue serial now event count h).count
      unfolding queue quiet
      queued-up serial event h lives = rw lives (same-up (count + 1))

      later-began : (live : Live S) → is_some (live_in live.serial host) ≡ true → Began arrivals number count (queue_later config at_host request live host)
      unfolding queue_later Grows
      later-began live lives =
          let of : AppId = record { host = number; serial = live.serial } in
          let new : Arrival = record { number = count + 1; app = of; came = as_came shown } in
          let later : List Arrival = arrivals ++ new ∷ [] in
          let served : Host S = with_server of (count + 1) from _ shown host in
          if-began arrivals count _ _ _ (began arrivals count _ (refuse-took arrivals config from 503 _ request count host good))
          (with_trying-began arrivals count from now request _ (record {
            later = later;
            grows = inr (
              shown,
              new,
              refl,
              refl,
              refl,
              queued-up live.serial (queued.Request shown) served (subst (λ (all : List (Live S)). is_some (find (is_live live.serial) all) ≡ true) (sym (with_server-sessions of (count + 1) from _ shown host)) lives),
            );
            good = queue-good later live.serial now (queued.Request shown) count served
                (λ came is. subst (λ (c : Incoming). IsIn (record { number = count + 1; app = of; came = c }) later) (sym (later-came came is)) (in-last new arrivals))
                (with_server-good later of (count + 1) from _ shown host (in-last new arrivals) (more-host arrivals (new ∷ []) number host good));
          }))

      named-live : (uri : Option Uri) (live : Live S) → option_and_then (λ (u : Uri). named_live other number u host) uri ≡ Some live → is_some (live_in live.serial host) ≡ true
      unfolding named_live
      named-live None live is = cc
      named-live (Some uri) live is = found-live (is_named_live other number uri) host.sessions live is

    -- ## A session begins

    module _ (arrivals : List Arrival) (other now : ℕ) (config : Config) (from : Peer) (noted : Note) (request : Request) (count : ℕ) (host : Host S) (untagged : is_some (tag_of request.head.to) ≡ false) (good : HostIn arrivals number host) where
      abbrev named : AppId
      named = record { host = number; serial = host.last + 1 }

      first-came : (event : Queued) (came : Incoming) → event ≡ queued.Initial noted.region noted.subscriber noted.popped request → incoming event ≡ Some came → came ≡ as_came request
      unfolding incoming
      first-came event came same is =
          sym (some-came (record { initial = true; request = request }) came (sym (ap incoming same) ∙ is)) ∙ ap (λ (initial : Bool). record { initial = initial; request = request }) (sym (no-tag (tag_of request.head.to) untagged))

      begun-began : Began arrivals number count (begun form config (record { host = number; epoch = other; from = from; now = now; count = count }) noted request host)
      unfolding begun begun_live quiet Grows All
      begun-began =
          let new : Arrival = record { number = count + 1; app = named; came = as_came request } in
          let later : List Arrival = arrivals ++ new ∷ [] in
          let more : HostIn later number host = more-host arrivals (new ∷ []) number host good in
          with_trying-began arrivals count from now request _ (record {
            later = later;
            grows = inr (request, new, refl, refl, refl, same-up (count + 1));
            good = with_server-good later named (count + 1) from _ request _ (in-last new arrivals) (record {
              sessions = all-append (LiveIn later number) host.sessions _ more.sessions (
                ((λ came is. subst (λ (c : Incoming). IsIn (record { number = count + 1; app = named; came = c }) later) (sym (first-came _ came refl is)) (in-last new arrivals)), tt),
                kept.begins later config named other now noted request,
              );
              servers = more.servers;
            });
          })

    module _ (arrivals : List Arrival) (config : Config) (other : ℕ) (from : Peer) (now : ℕ) (noted : Option Note) (request : Request) (count : ℕ) (host : Host S) (good : HostIn arrivals number host) where
      abbrev coming : Coming
      coming = record { host = number; epoch = other; from = from; now = now; count = count }

      take_initial-began : (found : Option Note) → is_some (tag_of request.head.to) ≡ false → Began arrivals number count (take_initial form config coming found request host)
      unfolding take_initial
      take_initial-began None untagged = began arrivals count _ (refuse-took arrivals config from 481 _ request count host good)
      take_initial-began (Some note) untagged =
          if-began arrivals count _ _ _ (began arrivals count _ (refuse-took arrivals config from 503 _ request count host good)) (begun-began arrivals other now config from note request count host untagged good)

      request-began : Began arrivals number count (takes form config coming noted (messages.Request request) host)
      request-began =
          takes-by (Began arrivals number count) form config coming noted request host
          (λ server found. began arrivals count _ (cancelled-took arrivals from now server request count host good))
          (λ server found. began arrivals count _ (quiet-took arrivals count _ (pass_server-good arrivals server.event _ host good)))
          (λ server found. began arrivals count _ (repeated-took arrivals server count host good))
          (λ live no_cancel tagged is. later-began arrivals config other from now request count host tagged good live
          (named-live arrivals config other from now request count host tagged good (own_uri config request) live is))
          (take_initial-began noted) (began arrivals count _ (refuse-took arrivals config from 481 _ request count host good))

    -- all that a host takes
    pub takes-began : (arrivals : List Arrival) (config : Config) (other : ℕ) (from : Peer) (now : ℕ) (noted : Option Note) (message : Message) (count : ℕ) (host : Host S) → HostIn arrivals number host
        → Began arrivals number count (takes form config (record { host = number; epoch = other; from = from; now = now; count = count }) noted message host)
    unfolding takes
    takes-began arrivals config other from now noted (messages.Request request) count host good = request-began arrivals config other from now noted request count host good
    takes-began arrivals config other from now noted (messages.Response response) count host good = began arrivals count _ (take_response-took arrivals config other from now response count host good)
