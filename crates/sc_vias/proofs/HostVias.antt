-- What a host takes leaves the requests of its client transactions fit for their session and branch, and its sessions named.
use Rattle.std.proofs.Common.{◌≡◌, ℕ, ◌+◌, Bool, true, false, Option, None, Some, List, refl}
use Rattle.std.specs.Prelude.{cond}
use Rattle.sc_value.specs.Lists.{change_first}
use Rattle.sc_value.specs.declared.ids.AppId.{AppId}
use Rattle.sc_value.specs.declared.message.Message.{Message}
use Rattle.sc_value.specs.declared.message.Message.TheVariants as messages
use Rattle.sc_value.specs.declared.message.Request.{Request}
use Rattle.sc_value.specs.declared.message.Response.{Response}
use Rattle.sc_value.specs.declared.parts.Address.{Address}
use Rattle.sc_terms.specs.declared.settings.Config.{Config}
use Rattle.sc_parts.specs.declared.transactions.ClientItem.{ClientItem}
use Rattle.sc_parts.specs.declared.transactions.ClientOut.{ClientOut}
use Rattle.sc_parts.specs.declared.transactions.ServerItem.{ServerItem}
use Rattle.sc_state.specs.Hosts.{Host}
use Rattle.sc_state.specs.declared.host.Client.{Client}
use Rattle.sc_state.specs.declared.host.Live.{Live}
use Rattle.sc_state.specs.declared.host.Peer.{Peer}
use Rattle.sc_state.specs.declared.host.Server.{Server}
use Rattle.sc_state.specs.declared.host.Taken.{Taken}
use Rattle.sc_state.specs.declared.net.Note.{Note}
use Rattle.sc_state.specs.declared.queue.Queued.{Queued}
use Rattle.sc_tokens.specs.Bytes.{Bytes}
use Rattle.sc_hosts.proofs.EachSort.{takes-each}
use Rattle.sc_hosts.specs.Inboxes.{is_live, queue, without_answer as quiet, with_event}
use Rattle.sc_hosts.specs.Messages.{cancel_of, kin}
use Rattle.sc_hosts.specs.Nets.{with_routes}
use Rattle.sc_hosts.specs.Sessions.{Form, Turn}
use Rattle.sc_hosts.specs.Taking.{take_cancel as cancelled, last_again, again_if, take_repeated as repeated, begun_live, refuse, with_server, with_trying, queue_later, take_new as begun, take_initial, takes}
use Rattle.sc_hosts.specs.TakingResponses.{cancelling, take_provisional as told, told_by, with_reply, response_for, response_to, take_response}
use Rattle.sc_hosts.specs.Transacting.{client_for, client_passed, is_answered_by, without_ended, pass_client, pass_server}
use Rattle.sc_lasting.specs.Lasting.{All}
use Rattle.sc_lasting.proofs.Parts.{all-append, all-filter, all-first, all-found}

-- kinds of sessions by their names, and of requests by session and branch: a session that begins in this epoch is of its kind,
-- and is so after each turn, and a request stays of its kind as its CANCEL and ACK, and with other Routes
pub record AreKinds {S : Type 0} (form : Form S) (epoch : ℕ) (Named : AppId → S → Type 0) (Fits : AppId → ℕ → Request → Type 0) : Type 0 where
  pub begins : (config : Config) (app : AppId) (now : ℕ) (noted : Note) (request : Request) → Named app (form.begin config app epoch now noted request)
  pub turned : (config : Config) (app : AppId) (turn : Turn) (session : S) → Named app session → Named app (form.turned config turn session)
  pub kin_fits : (app : AppId) (branch : ℕ) (method : Bytes) (to : Address) (request : Request) → Fits app branch request → Fits app branch (kin method to request)
  pub routed : (app : AppId) (branch : ℕ) (routes : List Address) (request : Request) → Fits app branch request → Fits app branch (with_routes routes request)

module _ {S : Type 0} (form : Form S) (epoch : ℕ) (Named : AppId → S → Type 0) (Fits : AppId → ℕ → Request → Type 0) (kinds : AreKinds form epoch Named Fits) (number : ℕ) where
  -- the session is named so
  abbrev pub IsNamed : Live S → Type 0
  IsNamed live = Named (record { host = number; serial = live.serial }) live.session

  -- the request of the client transaction is of its kind
  abbrev IsFit : Client → Type 0
  IsFit client = Fits client.app client.branch client.request

  -- its sessions and the requests of its client transactions are of these kinds
  abbrev pub Good : Host S → Type 0
  Good host = All IsNamed host.sessions × All IsFit host.clients

  -- the host is so after it took something
  abbrev Took : Taken S → Type 0
  Took taken = Good taken.host

  if-took : (b : Bool) (x y : Taken S) → Took x → Took y → Took (cond b x y)
  if-took true x y p q = p
  if-took false x y p q = q

  if-good : (b : Bool) (x y : Host S) → Good x → Good y → Good (cond b x y)
  if-good true x y p q = p
  if-good false x y p q = q

  pub queue-good : (serial now : ℕ) (event : Queued) (count : ℕ) (host : Host S) → Good host → Took (queue serial now event count host)
  unfolding queue quiet with_event
  queue-good serial now event count host good =
      if-took _ (quiet (record host { sessions = change_first (is_live serial) (with_event (count + 1) now event) host.sessions }) (count + 1)) (quiet host count)
      (all-first IsNamed (is_live serial) (with_event (count + 1) now event) host.sessions (λ live found named. named) good.0, good.1) good

  -- ## Transactions

  pub pass_client-good : (app : AppId) (branch : ℕ) (cancelling : Bool) (item : ClientItem) (host : Host S) → Good host
      → Good (pass_client app branch cancelling item host)
  unfolding pass_client client_passed without_ended
  pass_client-good app branch cancelling item host good =
      (good.0, all-filter IsFit _ _ (all-first IsFit _ (client_passed item) host.clients (λ client found fits. fits) good.1))

  pub pass_server-good : (event : ℕ) (item : ServerItem) (host : Host S) → Good host → Good (pass_server event item host)
  unfolding pass_server without_ended
  pass_server-good event item host good = (good.0, all-filter IsFit _ host.clients good.1)

  -- ## Responses

  told_by-good : (now : ℕ) (tell : Option ℕ) (client : Client) (response : Response) (count : ℕ) (host : Host S) → Good host
      → Took (told_by tell now client response count host)
  unfolding told_by told quiet
  told_by-good now None client response count host good = good
  told_by-good now (Some code) client response count host good = if-took _ (quiet host count) _ good (queue-good client.app.serial now _ count host good)

  with_reply-good : (now : ℕ) (out : ClientOut) (client : Client) (response : Response) (taken : Taken S) → IsFit client → Took taken
      → Took (with_reply out now client response taken)
  unfolding with_reply cancelling cancel_of
  with_reply-good now out client response taken fits took =
      if-took out.ack _ _ took
      (if-took out.cancel _ taken (took.0, all-append IsFit taken.host.clients _ took.1 (kinds.kin_fits client.app client.branch _ _ client.request fits)) took)

  response_to-good : (now : ℕ) (client : Option Client) (response : Response) (count : ℕ) (host : Host S) → ((c : Client) → client ≡ Some c → IsFit c) → Good host
      → Took (response_to now client response count host)
  unfolding response_to response_for quiet
  response_to-good now None response count host fits good = good
  response_to-good now (Some client) response count host fits good =
      with_reply-good now _ client response _ (fits client refl) (told_by-good now _ client response count _ (pass_client-good client.app client.branch _ _ host good))

  take_response-good : (config : Config) (other : ℕ) (from : Peer) (now : ℕ) (response : Response) (count : ℕ) (host : Host S) → Good host
      → Took (take_response config other from now response count host)
  unfolding take_response client_for
  take_response-good config other from now response count host good =
      response_to-good now _ response count host (λ client found. all-found IsFit (is_answered_by config.salt other from response) host.clients client found good.1) good

  -- ## CANCEL, ACK and repeated requests

  cancelled-good : (from : Peer) (now : ℕ) (server : Server) (request : Request) (count : ℕ) (host : Host S) → Good host
      → Took (cancelled from now server request count host)
  unfolding cancelled quiet
  cancelled-good from now server request count host good = if-took _ (quiet host count) _ good (queue-good server.app.serial now _ count host good)

  last_again-good : (server : Server) (last : Option Response) (taken : Taken S) → Took taken → Took (last_again server last taken)
  unfolding last_again
  last_again-good server None taken took = took
  last_again-good server (Some response) taken took = took

  again_if-good : (b : Bool) (server : Server) (taken : Taken S) → Took taken → Took (again_if b server taken)
  unfolding again_if
  again_if-good true server taken took = last_again-good server server.last taken took
  again_if-good false server taken took = took

  repeated-good : (server : Server) (count : ℕ) (host : Host S) → Good host → Took (repeated server count host)
  unfolding repeated quiet
  repeated-good server count host good = again_if-good _ server _ (pass_server-good server.event _ host good)

  -- ## Requests

  refuse-good : (config : Config) (from : Peer) (code : ℕ) (reason : Bytes) (request : Request) (count : ℕ) (host : Host S) → Good host
      → Took (refuse config from code reason request count host)
  unfolding refuse quiet
  refuse-good config from code reason request count host good = if-took _ (quiet host count) _ good good

  with_server-good : (app : AppId) (event : ℕ) (peer : Peer) (tag : Bytes) (request : Request) (host : Host S) → Good host
      → Good (with_server app event peer tag request host)
  unfolding with_server
  with_server-good app event peer tag request host good = if-good _ host _ good good

  with_trying-good : (from : Peer) (now : ℕ) (request : Request) (taken : Taken S) → Took taken → Took (with_trying from now request taken)
  unfolding with_trying
  with_trying-good from now request taken took = if-took _ _ taken took took

  queue_later-good : (config : Config) (other : ℕ) (from : Peer) (now : ℕ) (request : Request) (count : ℕ) (live : Live S) (host : Host S) → Good host
      → Took (queue_later config (record { host = number; epoch = other; from = from; now = now; count = count }) request live host)
  unfolding queue_later
  queue_later-good config other from now request count live host good =
      if-took _ _ _ (refuse-good config from 503 _ request count host good)
      (with_trying-good from now request _ (queue-good live.serial now _ count _ (with_server-good _ _ from _ _ host good)))

  begun-good : (config : Config) (from : Peer) (now : ℕ) (noted : Note) (request : Request) (count : ℕ) (host : Host S) → Good host
      → Took (begun form config (record { host = number; epoch = epoch; from = from; now = now; count = count }) noted request host)
  unfolding begun begun_live quiet
  begun-good config from now noted request count host good =
      with_trying-good from now request _
      (with_server-good _ _ from _ request _ (all-append IsNamed host.sessions _ good.0 (kinds.begins config (record { host = number; serial = host.last + 1 }) now noted request), good.1))

  take_initial-good : (config : Config) (from : Peer) (now : ℕ) (noted : Option Note) (request : Request) (count : ℕ) (host : Host S) → Good host
      → Took (take_initial form config (record { host = number; epoch = epoch; from = from; now = now; count = count }) noted request host)
  unfolding take_initial
  take_initial-good config from now None request count host good = refuse-good config from 481 _ request count host good
  take_initial-good config from now (Some noted) request count host good =
      if-took _ _ _ (refuse-good config from 503 _ request count host good) (begun-good config from now noted request count host good)

  -- all that a host takes
  pub takes-good : (config : Config) (from : Peer) (now : ℕ) (noted : Option Note) (message : Message) (count : ℕ) (host : Host S) → Good host
      → Took (takes form config (record { host = number; epoch = epoch; from = from; now = now; count = count }) noted message host)
  unfolding takes quiet
  takes-good config from now noted (messages.Request request) count host good =
      takes-each Took form config (record { host = number; epoch = epoch; from = from; now = now; count = count }) noted request host (λ server. cancelled-good from now server request count host good)
      (λ server. pass_server-good server.event _ host good) (λ server. repeated-good server count host good) (λ live. queue_later-good config epoch from now request count live host good)
      (take_initial-good config from now noted request count host good) (refuse-good config from 481 _ request count host good)
  takes-good config from now noted (messages.Response response) count host good = take_response-good config epoch from now response count host good
