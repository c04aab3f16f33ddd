-- What a host takes keeps each relation with the laws.
use Rattle.std.proofs.Common.{ℕ, ◌+◌, Bool, true, false, Option, None, Some}
use Rattle.std.specs.Prelude.{cond}
use Rattle.sc_value.specs.declared.ids.AppId.{AppId}
use Rattle.sc_value.specs.declared.message.Message.{Message}
use Rattle.sc_value.specs.declared.message.Message.TheVariants as messages
use Rattle.sc_value.specs.declared.message.Request.{Request}
use Rattle.sc_value.specs.declared.message.Response.{Response}
use Rattle.sc_terms.specs.declared.settings.Config.{Config}
use Rattle.sc_parts.specs.declared.transactions.ClientItem.{ClientItem}
use Rattle.sc_parts.specs.declared.transactions.ClientOut.{ClientOut}
use Rattle.sc_parts.specs.declared.transactions.ServerItem.{ServerItem}
use Rattle.sc_state.specs.declared.host.Client.{Client}
use Rattle.sc_state.specs.Hosts.{Host}
use Rattle.sc_state.specs.declared.host.Live.{Live}
use Rattle.sc_state.specs.declared.host.Peer.{Peer}
use Rattle.sc_state.specs.declared.host.Server.{Server}
use Rattle.sc_state.specs.declared.host.Taken.{Taken}
use Rattle.sc_state.specs.declared.net.Note.{Note}
use Rattle.sc_tokens.specs.Bytes.{Bytes}
use Rattle.sc_hosts.proofs.EachSort.{takes-each}
use Rattle.sc_hosts.specs.Inboxes.{without_answer as quiet}
use Rattle.sc_hosts.specs.Sessions.{Form}
use Rattle.sc_hosts.specs.Taking.{take_cancel as cancelled, last_again, again_if, take_repeated as repeated, refuse, with_server, with_trying, queue_later, take_new as begun, take_initial, takes}
use Rattle.sc_hosts.specs.TakingResponses.{take_provisional as told, told_by, with_reply, response_for, response_to, take_response}
use Rattle.sc_hosts.specs.Transacting.{without_ended, pass_client, pass_server}
use Rattle.sc_walks.specs.Walks.{HostLaws, IsLate}

module _ {S : Type 0} {Begins : Form S → Type 0} (number now : ℕ) (H : ℕ → Host S → ℕ → Host S → Type 0) (law : HostLaws Begins number now H) where
  -- the host took it
  abbrev Took : ℕ → Host S → Taken S → Type 0
  Took count host taken = H count host taken.count taken.host

  pub if-took : (b : Bool) (count : ℕ) (host : Host S) (x y : Taken S) → Took count host x → Took count host y → Took count host (cond b x y)
  if-took true count host x y p q = p
  if-took false count host x y p q = q

  if-host : (b : Bool) (count : ℕ) (host x y : Host S) → H count host count x → H count host count y → H count host count (cond b x y)
  if-host true count host x y p q = p
  if-host false count host x y p q = q

  -- ## Transactions

  pub pass_client-walks : (app : AppId) (branch : ℕ) (cancelling : Bool) (item : ClientItem) (count : ℕ) (host : Host S) → H count host count (pass_client app branch cancelling item host)
  unfolding pass_client without_ended
  pass_client-walks app branch cancelling item count host = law.passes count host _ _

  pub pass_server-walks : (event : ℕ) (item : ServerItem) (count : ℕ) (host : Host S) → H count host count (pass_server event item host)
  unfolding pass_server without_ended
  pass_server-walks event item count host = law.passes count host _ _

  -- ## Responses

  told_by-walks : (tell : Option ℕ) (client : Client) (response : Response) (count : ℕ) (host : Host S) → Took count host (told_by tell now client response count host)
  unfolding told_by told quiet IsLate
  told_by-walks None client response count host = law.same count host
  told_by-walks (Some code) client response count host = if-took _ count host _ _ (law.same count host) (law.queues client.app.serial _ tt count host)

  with_reply-walks : (out : ClientOut) (client : Client) (response : Response) (count : ℕ) (host : Host S) (taken : Taken S) → Took count host taken
      → Took count host (with_reply out now client response taken)
  unfolding with_reply
  with_reply-walks out client response count host taken took =
      if-took out.ack count host _ _ took (if-took out.cancel count host _ taken (law.after _ _ _ _ _ _ took (law.passes taken.count taken.host _ taken.host.servers)) took)

  pub response_to-walks : (client : Option Client) (response : Response) (count : ℕ) (host : Host S) → Took count host (response_to now client response count host)
  unfolding response_to response_for quiet
  response_to-walks None response count host = law.same count host
  response_to-walks (Some client) response count host =
      with_reply-walks _ client response count host _ (law.after _ _ _ _ _ _ (pass_client-walks client.app client.branch _ _ count host) (told_by-walks _ client response count _))

  -- ## CANCEL, ACK and repeated requests

  pub cancelled-walks : (from : Peer) (server : Server) (request : Request) (count : ℕ) (host : Host S) → Took count host (cancelled from now server request count host)
  unfolding cancelled quiet IsLate
  cancelled-walks from server request count host = if-took _ count host _ _ (law.same count host) (law.queues server.app.serial _ tt count host)

  last_again-walks : (server : Server) (last : Option Response) (count : ℕ) (host : Host S) (taken : Taken S) → Took count host taken → Took count host (last_again server last taken)
  unfolding last_again
  last_again-walks server None count host taken took = took
  last_again-walks server (Some response) count host taken took = took

  again_if-walks : (b : Bool) (server : Server) (count : ℕ) (host : Host S) (taken : Taken S) → Took count host taken → Took count host (again_if b server taken)
  unfolding again_if
  again_if-walks true server count host taken took = last_again-walks server server.last count host taken took
  again_if-walks false server count host taken took = took

  pub repeated-walks : (server : Server) (count : ℕ) (host : Host S) → Took count host (repeated server count host)
  unfolding repeated quiet
  repeated-walks server count host = again_if-walks _ server count host _ (pass_server-walks server.event _ count host)

  -- ## Requests with a To tag

  pub refuse-walks : (config : Config) (from : Peer) (code : ℕ) (reason : Bytes) (request : Request) (count : ℕ) (host : Host S) → Took count host (refuse config from code reason request count host)
  unfolding refuse quiet
  refuse-walks config from code reason request count host = if-took _ count host _ _ (law.same count host) (law.same count host)

  pub with_server-walks : (app : AppId) (event : ℕ) (peer : Peer) (tag : Bytes) (request : Request) (count : ℕ) (host : Host S) → H count host count (with_server app event peer tag request host)
  unfolding with_server
  with_server-walks app event peer tag request count host = if-host _ count host host _ (law.same count host) (law.passes count host host.clients _)

  pub with_trying-walks : (from : Peer) (request : Request) (count : ℕ) (host : Host S) (taken : Taken S) → Took count host taken → Took count host (with_trying from now request taken)
  unfolding with_trying
  with_trying-walks from request count host taken took =
      if-took _ count host _ taken (law.after _ _ _ _ _ _ took (law.passes taken.count taken.host taken.host.clients _)) took

  pub queue_later-walks : (config : Config) (epoch : ℕ) (from : Peer) (request : Request) (count : ℕ) (live : Live S) (host : Host S) → Took count host (queue_later config (record { host = number; epoch = epoch; from = from; now = now; count = count }) request live host)
  unfolding queue_later IsLate
  queue_later-walks config epoch from request count live host =
      if-took _ count host _ _ (refuse-walks config from 503 _ request count host)
      (with_trying-walks from request count host _ (law.after _ _ _ _ _ _ (with_server-walks _ _ from _ _ count host) (law.queues live.serial _ tt count _)))

  -- ## Requests that begin a session

  begun-walks : (form : Form S) (good : Begins form) (config : Config) (epoch : ℕ) (from : Peer) (noted : Note) (request : Request) (count : ℕ) (host : Host S)
      → Took count host (begun form config (record { host = number; epoch = epoch; from = from; now = now; count = count }) noted request host)
  unfolding begun quiet
  begun-walks form good config epoch from noted request count host =
      with_trying-walks from request count host _ (law.after _ _ _ _ _ _ (law.begins form good config epoch noted request count host) (with_server-walks _ _ from _ request (count + 1) _))

  take_initial-walks : (form : Form S) (good : Begins form) (config : Config) (epoch : ℕ) (from : Peer) (noted : Option Note) (request : Request) (count : ℕ) (host : Host S)
      → Took count host (take_initial form config (record { host = number; epoch = epoch; from = from; now = now; count = count }) noted request host)
  unfolding take_initial
  take_initial-walks form good config epoch from None request count host = refuse-walks config from 481 _ request count host
  take_initial-walks form good config epoch from (Some noted) request count host =
      if-took _ count host _ _ (refuse-walks config from 503 _ request count host) (begun-walks form good config epoch from noted request count host)

  -- ## All that a host takes

  pub takes-walks : (form : Form S) (good : Begins form) (config : Config) (epoch : ℕ) (from : Peer) (noted : Option Note) (message : Message) (count : ℕ) (host : Host S)
      → Took count host (takes form config (record { host = number; epoch = epoch; from = from; now = now; count = count }) noted message host)
  unfolding takes take_response quiet
  takes-walks form good config epoch from noted (messages.Request request) count host =
      takes-each (Took count host) form config (record { host = number; epoch = epoch; from = from; now = now; count = count }) noted request host (λ server. cancelled-walks from server request count host)
      (λ server. pass_server-walks server.event _ count host) (λ server. repeated-walks server count host) (λ live. queue_later-walks config epoch from request count live host)
      (take_initial-walks form good config epoch from noted request count host) (refuse-walks config from 481 _ request count host)
  takes-walks form good config epoch from noted (messages.Response response) count host = response_to-walks _ response count host
