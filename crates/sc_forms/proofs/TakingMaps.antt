-- A host whose sessions are changed: the requests that it takes.
use Rattle.std.proofs.Common.{refl, ap}
use Rattle.std.specs.Prelude.{◌≡◌, ℕ, ◌+◌, [], ◌∷◌, ◌++◌, Bool, true, false, Option, None, Some, is_some, length, nat_le, option_map, option_and_then}
use Rattle.std.proofs.lemmas.List.{map-append, length-map}
use Rattle.sc_forms.proofs.HostMaps.{pass_server-maps, quiet-maps, queue-maps, take_response-maps}
use Rattle.sc_forms.proofs.ListMaps.{if-maps, find-maps}
use Rattle.sc_forms.specs.Simulations.{map_live, map_host, map_taken, IsSimulation}
use Rattle.sc_tokens.specs.Bytes.{Bytes}
use Rattle.std.specs.Option.{option_map_or}
use Rattle.sc_hosts.specs.declared.sorts.Sort.{Sort}
use Rattle.sc_hosts.specs.declared.sorts.Sort.TheVariants.{Cancels, Acks, Repeats, Later, Begins, Nobodys}
use Rattle.sc_hosts.specs.Messages.{own_response}
use Rattle.sc_hosts.specs.Sessions.{Form}
use Rattle.sc_hosts.specs.Inboxes.{MOST_LIVE, without_answer as quiet, is_full, replying}
use Rattle.sc_hosts.specs.Taking.{take_cancel as cancelled, last_again, again_if, take_repeated as repeated, refuse, own_uri, is_named_live, named_live, with_server, with_trying, queue_later, begun_live, take_new as begun, take_initial, is_never_initial, takes, server_for, sort_of, sort_at, taken_as}
use Rattle.sc_hosts.specs.Transacting.{method_of, has_final}
use Rattle.sc_hosts.specs.Words.{ok, does_not_exist, unavailable}
use Rattle.sc_model.specs.Dialogs.{tag_of}
use Rattle.sc_model.specs.Names.{tag_text}
use Rattle.sc_model.specs.SessionStates.{invite, ack}
use Rattle.sc_state.specs.Hosts.{Host}
use Rattle.sc_state.specs.declared.host.Coming.{Coming}
use Rattle.sc_state.specs.declared.host.Live.{Live}
use Rattle.sc_state.specs.declared.host.Peer.{Peer}
use Rattle.sc_state.specs.declared.host.Server.{Server}
use Rattle.sc_state.specs.declared.host.Taken.{Taken}
use Rattle.sc_state.specs.declared.net.Note.{Note}
use Rattle.sc_state.specs.declared.queue.Queued.TheVariants as queued
use Rattle.sc_terms.specs.declared.settings.Config.{Config}
use Rattle.sc_tokens.specs.Names.{same_bytes}
use Rattle.sc_value.specs.declared.ids.AppId.{AppId}
use Rattle.sc_value.specs.declared.message.Message.TheVariants as messages
use Rattle.sc_value.specs.declared.message.Message.{Message}
use Rattle.sc_value.specs.declared.message.Request.{Request}
use Rattle.sc_value.specs.declared.message.Response.{Response}
use Rattle.sc_value.specs.declared.parts.Uri.{Uri}
use Rattle.sc_model.specs.DialogRequests.{cancel}

-- ## CANCEL, ACK and repeated requests

module _ {S T : Type 0} (change : S → T) where
  cancelled-maps : (from : Peer) (now : ℕ) (server : Server) (request : Request) (count : ℕ) (host : Host S)
      → cancelled from now server request count (map_host change host) ≡ map_taken change (cancelled from now server request count host)
  unfolding cancelled map_taken
  cancelled-maps from now server request count host =
      ap (replying from (messages.Response (own_response server.tag 200 ok request)))
      (if-maps (map_taken change) (has_final server) (quiet-maps change host count) (queue-maps change server.app.serial now (queued.Cancelled server.event) count host))

  last_again-maps : (server : Server) (last : Option Response) (taken : Taken S) → last_again server last (map_taken change taken) ≡ map_taken change (last_again server last taken)
  unfolding last_again map_taken
  last_again-maps server None taken = refl
  last_again-maps server (Some response) taken = refl

  again_if-maps : (again : Bool) (server : Server) (taken : Taken S) → again_if again server (map_taken change taken) ≡ map_taken change (again_if again server taken)
  unfolding again_if
  again_if-maps true server taken = last_again-maps server server.last taken
  again_if-maps false server taken = refl

  repeated-maps : (server : Server) (count : ℕ) (host : Host S) → repeated server count (map_host change host) ≡ map_taken change (repeated server count host)
  unfolding repeated
  repeated-maps server count host = rw (pass_server-maps, quiet-maps, again_if-maps) refl

  pub server_for-maps : (from : Peer) (request : Request) (host : Host S) → server_for from request (map_host change host) ≡ server_for from request host
  unfolding server_for map_host
  server_for-maps from request host = refl

  -- ## Answers without a transaction

  refuse-maps : (config : Config) (from : Peer) (code : ℕ) (reason : Bytes) (request : Request) (count : ℕ) (host : Host S)
      → refuse config from code reason request count (map_host change host) ≡ map_taken change (refuse config from code reason request count host)
  unfolding refuse map_taken quiet
  refuse-maps config from code reason request count host = if-maps (map_taken change) (same_bytes (method_of request) ack) refl refl

  -- ## Requests with a To tag

  pub named_live-maps : (epoch number : ℕ) (uri : Uri) (host : Host S) → named_live epoch number uri (map_host change host) ≡ option_map (map_live change) (named_live epoch number uri host)
  unfolding named_live is_named_live map_host map_live
  named_live-maps epoch number uri host = find-maps (map_live change) (is_named_live epoch number uri) host.sessions

  named_by-maps : (epoch number : ℕ) (uri : Option Uri) (host : Host S)
      → option_and_then (λ uri. named_live epoch number uri (map_host change host)) uri ≡ option_map (map_live change) (option_and_then (λ uri. named_live epoch number uri host) uri)
  named_by-maps epoch number None host = refl
  named_by-maps epoch number (Some uri) host = named_live-maps epoch number uri host

  with_server-maps : (app : AppId) (event : ℕ) (peer : Peer) (tag : Bytes) (request : Request) (host : Host S)
      → with_server app event peer tag request (map_host change host) ≡ map_host change (with_server app event peer tag request host)
  unfolding with_server map_host
  with_server-maps app event peer tag request host = if-maps (map_host change) (same_bytes (method_of request) ack) refl refl

  with_trying-maps : (from : Peer) (now : ℕ) (request : Request) (taken : Taken S) → with_trying from now request (map_taken change taken) ≡ map_taken change (with_trying from now request taken)
  unfolding with_trying map_taken map_host
  with_trying-maps from now request taken = if-maps (map_taken change) (same_bytes (method_of request) invite) refl refl

  queue_later-maps : (config : Config) (epoch number : ℕ) (from : Peer) (now : ℕ) (request : Request) (count : ℕ) (live : Live S) (host : Host S)
      → queue_later config (record { host = number; epoch = epoch; from = from; now = now; count = count }) request (map_live change live) (map_host change host) ≡ map_taken change (queue_later config (record { host = number; epoch = epoch; from = from; now = now; count = count }) request live host)
  unfolding queue_later is_full map_live
  queue_later-maps config epoch number from now request count live host =
      if-maps (map_taken change) (is_full live) (refuse-maps config from 503 unavailable request count host) (rw (with_server-maps, queue-maps, with_trying-maps) refl)

  -- ## The sort of a request

  unfoldable map_sort : Sort Server (Live S) → Sort Server (Live T)
  map_sort (Cancels server) = Cancels server
  map_sort (Acks server) = Acks server
  map_sort (Repeats server) = Repeats server
  map_sort (Later live) = Later (map_live change live)
  map_sort Begins = Begins
  map_sort Nobodys = Nobodys

  named_sort-maps : (named : Option (Live S)) → option_map_or Later (option_map (map_live change) named) Nobodys ≡ map_sort (option_map_or Later named Nobodys)
  unfolding map_sort
  named_sort-maps None = refl
  named_sort-maps (Some live) = refl

  sort_of-maps : (request : Request) (found : Option Server) (named : Option (Live S)) → sort_of request found (option_map (map_live change) named) ≡ map_sort (sort_of request found named)
  unfolding sort_of map_sort
  sort_of-maps request (Some server) named =
      if-maps map_sort (same_bytes (method_of request) cancel) refl (if-maps map_sort (same_bytes (method_of request) ack) refl refl)
  sort_of-maps request None named =
      if-maps map_sort (same_bytes (method_of request) cancel) refl
      (if-maps map_sort (is_some (tag_of request.head.to)) (named_sort-maps named) (if-maps map_sort (is_never_initial request) refl refl))

  sort_at-maps : (config : Config) (coming : Coming) (request : Request) (host : Host S) → sort_at config coming request (map_host change host) ≡ map_sort (sort_at config coming request host)
  unfolding sort_at
  sort_at-maps config coming request host =
      rw (server_for-maps coming.from request host, named_by-maps coming.epoch coming.host (own_uri config request) host) (sort_of-maps request (server_for coming.from request host) _)

-- ## Requests that begin a session, and every request

module _ {S T : Type 0} (change : S → T) (config : Config) (form : Form S) (other : Form T) (like : IsSimulation change config form other) where
  begun_live-maps : (epoch : ℕ) (app : AppId) (now : ℕ) (noted : Note) (request : Request) (number : ℕ)
      → begun_live other config epoch app now noted request number ≡ map_live change (begun_live form config epoch app now noted request number)
  unfolding begun_live map_live
  begun_live-maps epoch app now noted request number = rw (like.begins app epoch now noted request) refl

  begun-maps : (epoch number : ℕ) (from : Peer) (now : ℕ) (noted : Note) (request : Request) (count : ℕ) (host : Host S)
      → begun other config (record { host = number; epoch = epoch; from = from; now = now; count = count }) noted request (map_host change host) ≡ map_taken change (begun form config (record { host = number; epoch = epoch; from = from; now = now; count = count }) noted request host)
  unfolding begun map_host
  begun-maps epoch number from now noted request count host =
      let app : AppId = record { host = number; serial = host.last + 1 } in
      let live : Live S = begun_live form config epoch app now noted request (count + 1) in
      let grown : Host S = record host { sessions = host.sessions ++ live ∷ []; last = host.last + 1 } in
      let served : Host S = with_server app (count + 1) from (tag_text config.salt epoch app 1) request grown in
      rw (
        begun_live-maps epoch app now noted request (count + 1),
        ← map-append (map_live change) host.sessions (live ∷ []),
        with_server-maps change app (count + 1) from (tag_text config.salt epoch app 1) request grown,
        quiet-maps change served (count + 1),
      )
      (with_trying-maps change from now request (quiet served (count + 1)))

  take_initial-maps : (epoch number : ℕ) (from : Peer) (now : ℕ) (noted : Option Note) (request : Request) (count : ℕ) (host : Host S)
      → take_initial other config (record { host = number; epoch = epoch; from = from; now = now; count = count }) noted request (map_host change host) ≡ map_taken change (take_initial form config (record { host = number; epoch = epoch; from = from; now = now; count = count }) noted request host)
  unfolding take_initial map_host
  take_initial-maps epoch number from now None request count host = refuse-maps change config from 481 does_not_exist request count host
  take_initial-maps epoch number from now (Some noted) request count host =
      rw (length-map host.sessions (map_live change)) (if-maps (map_taken change) (nat_le MOST_LIVE (length host.sessions))
      (refuse-maps change config from 503 unavailable request count host) (begun-maps epoch number from now noted request count host))

  taken_as-maps : (epoch number : ℕ) (from : Peer) (now : ℕ) (noted : Option Note) (request : Request) (sort : Sort Server (Live S)) (count : ℕ) (host : Host S)
      → taken_as other config (record { host = number; epoch = epoch; from = from; now = now; count = count }) noted request (map_sort change sort) (map_host change host) ≡ map_taken change (taken_as form config (record { host = number; epoch = epoch; from = from; now = now; count = count }) noted request sort host)
  unfolding taken_as map_sort
  taken_as-maps epoch number from now noted request (Cancels server) count host = cancelled-maps change from now server request count host
  taken_as-maps epoch number from now noted request (Acks server) count host = rw (pass_server-maps, quiet-maps) refl
  taken_as-maps epoch number from now noted request (Repeats server) count host = repeated-maps change server count host
  taken_as-maps epoch number from now noted request (Later live) count host = queue_later-maps change config epoch number from now request count live host
  taken_as-maps epoch number from now noted request Begins count host = take_initial-maps epoch number from now noted request count host
  taken_as-maps epoch number from now noted request Nobodys count host = refuse-maps change config from 481 does_not_exist request count host

  pub takes-maps : (epoch number : ℕ) (from : Peer) (now : ℕ) (noted : Option Note) (message : Message) (count : ℕ) (host : Host S)
      → takes other config (record { host = number; epoch = epoch; from = from; now = now; count = count }) noted message (map_host change host) ≡ map_taken change (takes form config (record { host = number; epoch = epoch; from = from; now = now; count = count }) noted message host)
  unfolding takes
  takes-maps epoch number from now noted (messages.Request request) count host =
      rw (sort_at-maps change config (record { host = number; epoch = epoch; from = from; now = now; count = count }) request host) (taken_as-maps epoch number from now noted request _ count host)
  takes-maps epoch number from now noted (messages.Response response) count host = take_response-maps change config epoch from now response count host
