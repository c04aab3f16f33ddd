-- What a host takes queues no later request but the one that it takes.
use Rattle.std.proofs.Common.{◌≡◌, ◌<◌, ℕ, ◌+◌, Bool, true, false, Option, None, Some, refl, sym, subst}
use Rattle.std.specs.Prelude.{cond, is_some}
use Rattle.sc_value.specs.Lists.{change_first}
use Rattle.sc_value.specs.declared.ids.AppId.{AppId}
use Rattle.sc_value.specs.declared.message.Message.TheVariants as messages
use Rattle.sc_value.specs.declared.message.Request.{Request}
use Rattle.sc_value.specs.declared.message.Response.{Response}
use Rattle.sc_value.specs.declared.parts.Address.{Address}
use Rattle.sc_value.specs.declared.parts.Uri.{Uri}
use Rattle.sc_terms.specs.declared.settings.Config.{Config}
use Rattle.sc_parts.specs.declared.transactions.ClientItem.{ClientItem}
use Rattle.sc_parts.specs.declared.transactions.ClientOut.{ClientOut}
use Rattle.sc_parts.specs.declared.transactions.ServerItem.{ServerItem}
use Rattle.sc_state.specs.declared.host.Client.{Client}
use Rattle.sc_state.specs.Hosts.{Host}
use Rattle.sc_state.specs.declared.host.Live.{Live}
use Rattle.sc_state.specs.declared.host.Peer.{Peer}
use Rattle.sc_state.specs.declared.host.Server.{Server}
use Rattle.sc_state.specs.declared.host.Taken.{Taken}
use Rattle.sc_state.specs.declared.net.Note.{Note}
use Rattle.sc_state.specs.declared.queue.Queued.{Queued}
use Rattle.sc_state.specs.declared.queue.Queued.TheVariants as queued
use Rattle.sc_state.specs.declared.queue.Waiting.{Waiting}
use Rattle.sc_tokens.specs.Names.{same_bytes}
use Rattle.sc_tokens.specs.Bytes.{Bytes}
use Rattle.sc_model.specs.SessionStates.{invite}
use Rattle.sc_model.specs.Dialogs.{tag_of}
use Rattle.sc_model.specs.DialogRequests.{cancel}
use Rattle.sc_hosts.proofs.EachSort.{takes-by}
use Rattle.sc_hosts.specs.Inboxes.{is_live, live_in, queue, without_answer as quiet, replying, with_event}
use Rattle.sc_hosts.specs.Messages.{ack_of, cancel_of, kin, trying_response}
use Rattle.sc_hosts.specs.Sessions.{Form}
use Rattle.sc_hosts.specs.Taking.{take_cancel as cancelled, last_again, again_if, take_repeated as repeated, begun_live, refuse, named_live, own_uri, without_own_route as unrouted, server_after_trying as tried, with_server, with_trying, queue_later, take_new as begun, take_initial, takes}
use Rattle.sc_hosts.specs.TakingResponses.{cancelling, take_provisional as told, told_by, with_reply, response_for, response_to, take_response}
use Rattle.sc_hosts.specs.Transacting.{client_for, client_passed, has_final, is_answered_by, is_server, method_of, without_ended, pass_client, pass_server}
use Rattle.sc_hosts.specs.Words.{trying}
use Rattle.sc_lasting.specs.Lasting.{All}
use Rattle.sc_lasting.proofs.Parts.{all-append, all-filter, all-first, all-found}
use Rattle.sc_lasting.proofs.Shared.{found-behind}
use Rattle.sc_reached.proofs.Reaching.{serial-is}
use Rattle.sc_hops.specs.Hops.{AreFit, IsOnWay, IsPlain, IsReplied}

-- the event is right for this session of the host
abbrev pub Right : (AppId → Queued → Type 0) → ℕ → ℕ → Queued → Type 0
Right Fits number serial event = Fits (record { host = number; serial = serial }) event

module _ {S : Type 0} (Way Sound : Request → Type 0) (Fits : AppId → Queued → Type 0) (plain : (app : AppId) (event : Queued) → IsPlain event → Fits app event) (base number now : ℕ) where
  abbrev Session : Live S → Type 0
  Session live = All (λ (waiting : Waiting). base < waiting.number → Right Fits number live.serial waiting.event) live.inbox

  abbrev Good : Host S → Type 0
  Good host = AreFit {S = S} Fits base number host.sessions × All (λ (client : Client). Sound client.request) host.clients

  -- all that is queued is right, clients are sound, and the reply may be on its way
  pub record Ok (taken : Taken S) : Type 0 where
    pub good : Good taken.host
    pub way : IsReplied Way taken.reply

  if-ok : (b : Bool) (x y : Taken S) → Ok x → Ok y → Ok (cond b x y)
  if-ok true x y p q = p
  if-ok false x y p q = q

  if-good : (b : Bool) (x y : Host S) → Good x → Good y → Good (cond b x y)
  if-good true x y p q = p
  if-good false x y p q = q

  quiet-ok : (host : Host S) (count : ℕ) → Good host → Ok (quiet host count)
  unfolding quiet IsReplied
  quiet-ok host count good = record { good = good; way = tt }

  responds : (peer : Peer) (response : Response) (taken : Taken S) → Good taken.host
      → Ok (replying peer (messages.Response response) taken)
  unfolding IsReplied IsOnWay
  responds peer response taken good = record { good = good; way = tt }

  -- ## An event is queued

  with_event-good : (serial n : ℕ) (event : Queued) (live : Live S) → Right Fits number serial event → live.serial ≡ serial
      → Session live → Session (with_event n now event live)
  unfolding with_event
  with_event-good serial n event live right is good =
      all-append (λ (waiting : Waiting). base < waiting.number → Right Fits number live.serial waiting.event) live.inbox (record { number = n; event = event }) good
      (λ above. subst (λ (s : ℕ). Right Fits number s event) (sym is) right)

  pub queue-ok : (serial : ℕ) (event : Queued) (count : ℕ) (host : Host S) → Right Fits number serial event → Good host
      → Ok (queue serial now event count host)
  unfolding queue
  queue-ok serial event count host right good =
      if-ok (is_some (live_in serial host)) _ (quiet host count)
      (quiet-ok _ (count + 1) (all-first Session (is_live serial) (with_event (count + 1) now event) host.sessions (λ live found. with_event-good serial (count + 1) event live right (serial-is serial host.sessions live found)) good.0, good.1))
      (quiet-ok host count good)

  -- ## Transactions

  pub pass_client-good : (app : AppId) (branch : ℕ) (cancelling : Bool) (item : ClientItem) (host : Host S) → Good host
      → Good (pass_client app branch cancelling item host)
  unfolding pass_client client_passed without_ended
  pass_client-good app branch cancelling item host good =
      (good.0, all-filter (λ (client : Client). Sound client.request) _ _ (all-first (λ (client : Client). Sound client.request) _ (client_passed item) host.clients (λ client found sound. sound) good.1))

  pass_server-good : (event : ℕ) (item : ServerItem) (host : Host S) → Good host → Good (pass_server event item host)
  unfolding pass_server without_ended
  pass_server-good event item host good = (good.0, all-filter (λ (client : Client). Sound client.request) _ host.clients good.1)

  -- ## Responses

  told_by-ok : (tell : Option ℕ) (client : Client) (response : Response) (count : ℕ) (host : Host S) → Good host
      → Ok (told_by tell now client response count host)
  unfolding told_by told IsPlain
  told_by-ok None client response count host good = quiet-ok host count good
  told_by-ok (Some code) client response count host good =
      if-ok _ (quiet host count) _ (quiet-ok host count good) (queue-ok client.app.serial _ count host (plain _ _ tt) good)

  module _ (kin_way : (method : Bytes) (to : Address) (request : Request) → Sound request → Way (kin method to request)) (kin_sound : (method : Bytes) (to : Address) (request : Request) → Sound request → Sound (kin method to request)) where
    with_reply-ok : (out : ClientOut) (client : Client) (response : Response) (taken : Taken S) → Sound client.request → Ok taken
        → Ok (with_reply out now client response taken)
    unfolding with_reply cancelling ack_of cancel_of IsReplied IsOnWay
    with_reply-ok out client response taken sound ok =
        if-ok out.ack _ _ (record { good = ok.good; way = kin_way _ _ _ sound })
        (if-ok out.cancel _ taken (record { good = (ok.good.0, all-append (λ (client : Client). Sound client.request) taken.host.clients _ ok.good.1 (kin_sound _ _ _ sound)); way = kin_way _ _ _ sound }) ok)

    response_to-ok : (client : Option Client) (response : Response) (count : ℕ) (host : Host S) → ((c : Client) → client ≡ Some c → Sound c.request) → Good host
        → Ok (response_to now client response count host)
    unfolding response_to response_for
    response_to-ok None response count host sound good = quiet-ok host count good
    response_to-ok (Some client) response count host sound good =
        with_reply-ok _ client response _ (sound client refl) (told_by-ok _ client response count _ (pass_client-good client.app client.branch _ _ host good))

    pub take_response-ok : (config : Config) (epoch : ℕ) (from : Peer) (response : Response) (count : ℕ) (host : Host S) → Good host
        → Ok (take_response config epoch from now response count host)
    unfolding take_response client_for
    take_response-ok config epoch from response count host good =
        response_to-ok _ response count host (λ client found. all-found (λ (c : Client). Sound c.request) (is_answered_by config.salt epoch from response) host.clients client found good.1) good

  -- ## CANCEL, ACK and repeated requests

  cancelled-ok : (from : Peer) (server : Server) (request : Request) (count : ℕ) (host : Host S) → Good host
      → Ok (cancelled from now server request count host)
  unfolding cancelled IsPlain
  cancelled-ok from server request count host good =
      let told : Taken S = cond (has_final server) (quiet host count) (queue server.app.serial now (queued.Cancelled server.event) count host) in
      responds from _ told (if-ok (has_final server) (quiet host count) _ (quiet-ok host count good) (queue-ok server.app.serial (queued.Cancelled server.event) count host (plain _ _ tt) good)).good

  last_again-ok : (server : Server) (last : Option Response) (taken : Taken S) → Ok taken → Ok (last_again server last taken)
  unfolding last_again
  last_again-ok server None taken ok = ok
  last_again-ok server (Some response) taken ok = responds server.peer response taken ok.good

  again_if-ok : (b : Bool) (server : Server) (taken : Taken S) → Ok taken → Ok (again_if b server taken)
  unfolding again_if
  again_if-ok true server taken ok = last_again-ok server server.last taken ok
  again_if-ok false server taken ok = ok

  repeated-ok : (server : Server) (count : ℕ) (host : Host S) → Good host → Ok (repeated server count host)
  unfolding repeated
  repeated-ok server count host good = again_if-ok _ server _ (quiet-ok _ count (pass_server-good server.event _ host good))

  -- ## Requests with a To tag

  refuse-ok : (config : Config) (from : Peer) (code : ℕ) (reason : Bytes) (request : Request) (count : ℕ) (host : Host S) → Good host
      → Ok (refuse config from code reason request count host)
  unfolding refuse
  refuse-ok config from code reason request count host good =
      if-ok _ (quiet host count) _ (quiet-ok host count good) (responds from _ (quiet host count) (quiet-ok host count good).good)

  with_server-good : (app : AppId) (event : ℕ) (peer : Peer) (tag : Bytes) (request : Request) (host : Host S) → Good host
      → Good (with_server app event peer tag request host)
  unfolding with_server
  with_server-good app event peer tag request host good = if-good _ host _ good good

  with_trying-ok : (from : Peer) (request : Request) (taken : Taken S) → Ok taken → Ok (with_trying from now request taken)
  unfolding with_trying
  with_trying-ok from request taken ok =
      let after : Taken S = record taken { host = record taken.host { servers = change_first (is_server taken.count) (tried request now) taken.host.servers } } in
      if-ok (same_bytes (method_of request) invite) (replying from (messages.Response (trying_response trying request)) after) taken (responds from (trying_response trying request) after ok.good) ok

  queue_later-ok : (config : Config) (epoch : ℕ) (from : Peer) (request : Request) (count : ℕ) (live : Live S) (host : Host S)
      → Right Fits number live.serial (queued.Request (unrouted config request)) → Good host → Ok (queue_later config (record { host = number; epoch = epoch; from = from; now = now; count = count }) request live host)
  unfolding queue_later
  queue_later-ok config epoch from request count live host right good =
      if-ok _ _ _ (refuse-ok config from 503 _ request count host good)
      (with_trying-ok from request _ (queue-ok live.serial _ count _ right (with_server-good _ _ from _ _ host good)))

  -- the request comes here by an own URI that names a live session, and is right for it
  abbrev pub Comes : Config → ℕ → Request → Host S → Type 0
  Comes config epoch request host =
      is_some (tag_of request.head.to) ≡ true → (uri : Uri) → own_uri config request ≡ Some uri → (live : Live S) → named_live epoch number uri host ≡ Some live
      → Right Fits number live.serial (queued.Request (unrouted config request))

  -- the same, where the request is no CANCEL
  abbrev pub ComesNew : Config → ℕ → Request → Host S → Type 0
  ComesNew config epoch request host = same_bytes (method_of request) cancel ≡ false → Comes config epoch request host

  -- ## Requests that begin a session

  begun-ok : (form : Form S) (config : Config) (epoch : ℕ) (from : Peer) (noted : Note) (request : Request) (count : ℕ) (host : Host S) → Good host
      → Ok (begun form config (record { host = number; epoch = epoch; from = from; now = now; count = count }) noted request host)
  unfolding begun begun_live IsPlain All
  begun-ok form config epoch from noted request count host good =
      with_trying-ok from request _ (quiet-ok _ (count + 1) (with_server-good _ _ from _ request _ (all-append Session host.sessions _ good.0 ((λ above. plain _ _ tt), tt), good.1)))

  take_initial-ok : (form : Form S) (config : Config) (epoch : ℕ) (from : Peer) (noted : Option Note) (request : Request) (count : ℕ) (host : Host S)
      → Good host → Ok (take_initial form config (record { host = number; epoch = epoch; from = from; now = now; count = count }) noted request host)
  unfolding take_initial
  take_initial-ok form config epoch from None request count host good = refuse-ok config from 481 _ request count host good
  take_initial-ok form config epoch from (Some noted) request count host good =
      if-ok _ _ _ (refuse-ok config from 503 _ request count host good) (begun-ok form config epoch from noted request count host good)

  -- ## Every request

  pub take_request-ok : (form : Form S) (config : Config) (epoch : ℕ) (from : Peer) (noted : Option Note) (request : Request) (count : ℕ) (host : Host S)
      → ComesNew config epoch request host → Good host → Ok (takes form config (record { host = number; epoch = epoch; from = from; now = now; count = count }) noted (messages.Request request) host)
  take_request-ok form config epoch from noted request count host comes good =
      takes-by Ok form config (record { host = number; epoch = epoch; from = from; now = now; count = count }) noted request host (λ server found. cancelled-ok from server request count host good)
      (λ server found. quiet-ok _ count (pass_server-good server.event _ host good)) (λ server found. repeated-ok server count host good)
      (λ live no_cancel tagged is. let way = found-behind (λ uri. named_live epoch number uri host) (own_uri config request) live is in
      queue_later-ok config epoch from request count live host (comes no_cancel tagged way.0 way.1 live way.2) good)
      (λ untagged. take_initial-ok form config epoch from noted request count host good) (refuse-ok config from 481 _ request count host good)
