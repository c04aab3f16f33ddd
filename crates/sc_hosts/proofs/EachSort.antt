-- What a request makes of a host and of the net, sort by sort.
use Rattle.std.proofs.Common.{◌≡◌, ℕ, Bool, true, false, Option, None, Some, refl}
use Rattle.std.specs.Prelude.{cond, is_some, option_and_then}
use Rattle.std.specs.Option.{option_map_or}
use Rattle.sc_value.specs.declared.ids.Place.{Place}
use Rattle.sc_value.specs.declared.message.Message.TheVariants as messages
use Rattle.sc_value.specs.declared.message.Request.{Request}
use Rattle.sc_tokens.specs.Names.{same_bytes}
use Rattle.sc_terms.specs.declared.settings.Config.{Config}
use Rattle.sc_parts.specs.declared.setup.Setup.{Setup}
use Rattle.sc_parts.specs.declared.transactions.ServerItem.TheVariants as server_items
use Rattle.sc_state.specs.Hosts.{Host}
use Rattle.sc_state.specs.declared.host.Coming.{Coming}
use Rattle.sc_state.specs.declared.host.Live.{Live}
use Rattle.sc_state.specs.declared.host.Server.{Server}
use Rattle.sc_state.specs.declared.host.Taken.{Taken}
use Rattle.sc_state.specs.declared.net.Net.{Net}
use Rattle.sc_state.specs.declared.net.Note.{Note}
use Rattle.sc_model.specs.Dialogs.{tag_of}
use Rattle.sc_model.specs.SessionStates.{ack}
use Rattle.sc_model.specs.DialogRequests.{cancel}
use Rattle.sc_hosts.specs.declared.sorts.Sort.{Sort}
use Rattle.sc_hosts.specs.declared.sorts.Sort.TheVariants.{Cancels, Acks, Repeats, Later, Begins, Nobodys}
use Rattle.sc_hosts.specs.Arrivals.{taken_at, edge_answer, initial_arrives, sort_in, arrives_as, after_arrival as arrived}
use Rattle.sc_hosts.specs.Inboxes.{without_answer as quiet}
use Rattle.sc_hosts.specs.Sessions.{Form}
use Rattle.sc_hosts.specs.Taking.{take_cancel as cancelled, take_repeated as repeated, refuse, own_uri, named_live, queue_later, take_initial, is_never_initial, server_for, sort_of, sort_at, taken_as, takes}
use Rattle.sc_hosts.specs.Transacting.{method_of, pass_server}
use Rattle.sc_hosts.specs.Words.{does_not_exist}

-- ## The sort of a request

module _ {T L : Type 0} (P : Sort T L → Type 0) where
  either : (b : Bool) (x y : Sort T L) → (b ≡ true → P x) → (b ≡ false → P y) → P (cond b x y)
  either true x y p q = p refl
  either false x y p q = q refl

  named-by : (named : Option L) → ((live : L) → named ≡ Some live → P (Later live)) → P Nobodys → P (option_map_or Later named Nobodys)
  named-by None later nobodys = nobodys
  named-by (Some live) later nobodys = later live refl

  -- what holds of each sort, where a request is of it, holds of that of the request
  pub by_sort : (request : Request) (found : Option T) (named : Option L)
      → ((transaction : T) → found ≡ Some transaction → same_bytes (method_of request) cancel ≡ true → P (Cancels transaction))
      → ((transaction : T) → found ≡ Some transaction → same_bytes (method_of request) ack ≡ true → P (Acks transaction))
      → ((transaction : T) → found ≡ Some transaction → same_bytes (method_of request) cancel ≡ false → same_bytes (method_of request) ack ≡ false → P (Repeats transaction))
      → ((live : L) → found ≡ None → same_bytes (method_of request) cancel ≡ false → is_some (tag_of request.head.to) ≡ true → named ≡ Some live → P (Later live))
      → (is_some (tag_of request.head.to) ≡ false → P Begins) → P Nobodys → P (sort_of request found named)
  unfolding sort_of
  by_sort request (Some transaction) named cancels acks repeats later begins nobodys =
      either (same_bytes (method_of request) cancel) _ _ (λ is_cancel. cancels transaction refl is_cancel)
      (λ no_cancel. either (same_bytes (method_of request) ack) _ _ (λ is_ack. acks transaction refl is_ack) (λ no_ack. repeats transaction refl no_cancel no_ack))
  by_sort request None named cancels acks repeats later begins nobodys =
      either (same_bytes (method_of request) cancel) _ _ (λ is_cancel. nobodys)
      (λ no_cancel. either (is_some (tag_of request.head.to)) _ _ (λ tagged. named-by named (λ live is. later live refl no_cancel tagged is) nobodys)
      (λ untagged. either (is_never_initial request) _ _ (λ never. nobodys) (λ first. begins untagged)))

-- ## A host takes a request

module _ {S : Type 0} (P : Taken S → Type 0) (form : Form S) (config : Config) (coming : Coming) (noted : Option Note) (request : Request) (host : Host S) where
  -- what holds of each answer, where the request is of its sort
  pub takes-by : ((server : Server) → server_for coming.from request host ≡ Some server → P (cancelled coming.from coming.now server request coming.count host))
      → ((server : Server) → server_for coming.from request host ≡ Some server → P (quiet (pass_server server.event server_items.AckCame host) coming.count))
      → ((server : Server) → server_for coming.from request host ≡ Some server → P (repeated server coming.count host))
      → ((live : Live S) → same_bytes (method_of request) cancel ≡ false → is_some (tag_of request.head.to) ≡ true
      → option_and_then (λ uri. named_live coming.epoch coming.host uri host) (own_uri config request) ≡ Some live → P (queue_later config coming request live host))
      → (is_some (tag_of request.head.to) ≡ false → P (take_initial form config coming noted request host))
      → P (refuse config coming.from 481 does_not_exist request coming.count host)
      → P (takes form config coming noted (messages.Request request) host)
  unfolding takes sort_at taken_as
  takes-by cancels acks repeats later begins nobodys =
      by_sort (λ sort. P (taken_as form config coming noted request sort host)) request (server_for coming.from request host) _
      (λ server found is_cancel. cancels server found) (λ server found is_ack. acks server found) (λ server found no_cancel no_ack. repeats server found)
      (λ live none no_cancel tagged is. later live no_cancel tagged is) begins nobodys

  -- the same, where each answer has it anyway
  pub takes-each : ((server : Server) → P (cancelled coming.from coming.now server request coming.count host))
      → ((server : Server) → P (quiet (pass_server server.event server_items.AckCame host) coming.count))
      → ((server : Server) → P (repeated server coming.count host)) → ((live : Live S) → P (queue_later config coming request live host))
      → P (take_initial form config coming noted request host) → P (refuse config coming.from 481 does_not_exist request coming.count host)
      → P (takes form config coming noted (messages.Request request) host)
  takes-each cancels acks repeats later begins nobodys =
      takes-by (λ server found. cancels server) (λ server found. acks server) (λ server found. repeats server) (λ live no_cancel tagged is. later live)
      (λ untagged. begins) nobodys

-- ## A request comes from outside

module _ {S : Type 0} (P : Net S → Type 0) (form : Form S) (setup : Setup) (from : Place) (request : Request) (net : Net S) where
  -- what holds where a host takes it, where it may begin a session and where it is nobody's
  pub arrives-each : ((number : ℕ) → P (taken_at form setup from None (messages.Request request) number net))
      → (is_some (tag_of request.head.to) ≡ false → P (initial_arrives form setup from request net))
      → P (edge_answer setup.config from 481 does_not_exist request net) → P (arrived form setup from (messages.Request request) net)
  unfolding arrived sort_in arrives_as
  arrives-each taken begins nobodys =
      by_sort (λ sort. P (arrives_as form setup from request sort net)) request _ _ (λ number found is_cancel. taken number) (λ number found is_ack. taken number)
      (λ number found no_cancel no_ack. taken number) (λ number none no_cancel tagged is. taken number) begins nobodys
