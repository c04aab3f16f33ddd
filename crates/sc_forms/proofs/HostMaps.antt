-- A host whose sessions are changed: its transactions, its events, and the responses that it takes.
use Rattle.std.proofs.Common.{refl}
use Rattle.std.specs.Prelude.{◌≡◌, ℕ, ◌+◌, List, Bool, not, ◌&&◌, ◌||◌, Option, None, Some, is_some, map, option_map}
use Rattle.sc_forms.proofs.ListMaps.{if-maps, is_some-maps, option_map_or-maps, list_any-maps, find-maps, filter-same, change_first-maps}
use Rattle.sc_forms.specs.Simulations.{map_live, map_host, map_taken}
use Rattle.sc_tokens.specs.Bytes.{Bytes}
use Rattle.sc_hosts.specs.Inboxes.{is_live, live_in, with_event, without_answer as quiet, queue, is_full, is_full_at}
use Rattle.sc_hosts.specs.TakingResponses.{take_provisional as told, told_by, cancelling, with_reply, response_for, response_to, take_response}
use Rattle.sc_hosts.specs.Transacting.{lives_here, is_kept_client, is_kept_server, without_ended, is_cancel_client, client_for, pass_client, ringing_branches, pass_server}
use Rattle.sc_model.specs.SessionStates.{is_final}
use Rattle.sc_parts.specs.declared.transactions.ClientItem.{ClientItem}
use Rattle.sc_parts.specs.declared.transactions.ClientOut.{ClientOut}
use Rattle.sc_parts.specs.declared.transactions.ServerItem.{ServerItem}
use Rattle.sc_state.specs.declared.host.Client.{Client}
use Rattle.sc_state.specs.Hosts.{Host}
use Rattle.sc_state.specs.declared.host.Live.{Live}
use Rattle.sc_state.specs.declared.host.Peer.{Peer}
use Rattle.sc_state.specs.declared.host.Server.{Server}
use Rattle.sc_state.specs.declared.host.Taken.{Taken}
use Rattle.sc_state.specs.declared.queue.Queued.{Queued}
use Rattle.sc_terms.specs.declared.settings.Config.{Config}
use Rattle.sc_value.specs.Lists.{change_first}
use Rattle.sc_value.specs.declared.ids.AppId.{AppId}
use Rattle.sc_value.specs.declared.message.Response.{Response}

-- ## Transactions

module _ {S T : Type 0} (change : S → T) where
  lives_here-maps : (app : AppId) (host : Host S) → lives_here app (map_host change host) ≡ lives_here app host
  unfolding lives_here map_host map_live
  lives_here-maps app host = list_any-maps (map_live change) _ host.sessions

  is_kept_client-maps : (host : Host S) (client : Client) → is_kept_client (map_host change host) client ≡ is_kept_client host client
  unfolding is_kept_client
  is_kept_client-maps host client = rw lives_here-maps refl

  is_kept_server-maps : (host : Host S) (server : Server) → is_kept_server (map_host change host) server ≡ is_kept_server host server
  unfolding is_kept_server
  is_kept_server-maps host server = rw lives_here-maps refl

  pub tidied-maps : (host : Host S) → without_ended (map_host change host) ≡ map_host change (without_ended host)
  unfolding without_ended map_host
  tidied-maps host = rw (filter-same _ _ (is_kept_client-maps host) host.clients, filter-same _ _ (is_kept_server-maps host) host.servers) refl

  pub client_for-maps : (salt : Bytes) (epoch : ℕ) (from : Peer) (response : Response) (host : Host S) → client_for salt epoch from response (map_host change host) ≡ client_for salt epoch from response host
  unfolding client_for map_host
  client_for-maps salt epoch from response host = refl

  pub pass_client-maps : (app : AppId) (branch : ℕ) (cancelling : Bool) (item : ClientItem) (host : Host S)
      → pass_client app branch cancelling item (map_host change host) ≡ map_host change (pass_client app branch cancelling item host)
  unfolding pass_client map_host
  pass_client-maps app branch cancelling item host = tidied-maps _

  pub pass_server-maps : (event : ℕ) (item : ServerItem) (host : Host S) → pass_server event item (map_host change host) ≡ map_host change (pass_server event item host)
  unfolding pass_server map_host
  pass_server-maps event item host = tidied-maps _

  pub ringing_branches-maps : (app : AppId) (host : Host S) → ringing_branches app (map_host change host) ≡ ringing_branches app host
  unfolding ringing_branches map_host
  ringing_branches-maps app host = refl

  -- ## Events of sessions

  with_event-maps : (number now : ℕ) (event : Queued) (live : Live S) → with_event number now event (map_live change live) ≡ map_live change (with_event number now event live)
  unfolding with_event map_live
  with_event-maps number now event live = refl

  pub live_in-maps : (serial : ℕ) (host : Host S) → live_in serial (map_host change host) ≡ option_map (map_live change) (live_in serial host)
  unfolding map_host map_live
  live_in-maps serial host = find-maps (map_live change) (is_live serial) host.sessions

  pub quiet-maps : (host : Host S) (count : ℕ) → quiet (map_host change host) count ≡ map_taken change (quiet host count)
  unfolding quiet map_taken
  quiet-maps host count = refl

  queued-maps : (serial number now : ℕ) (event : Queued) (lives : List (Live S))
      → change_first (is_live serial) (with_event number now event) (map (map_live change) lives) ≡ map (map_live change) (change_first (is_live serial) (with_event number now event) lives)
  unfolding map_live
  queued-maps serial number now event lives = change_first-maps (map_live change) (is_live serial) _ _ (with_event-maps number now event) lives

  pub queue-maps : (serial now : ℕ) (event : Queued) (count : ℕ) (host : Host S) → queue serial now event count (map_host change host) ≡ map_taken change (queue serial now event count host)
  unfolding queue map_host map_taken quiet
  queue-maps serial now event count host =
      rw (live_in-maps serial host, is_some-maps, queued-maps serial (count + 1) now event host.sessions) (if-maps (map_taken change) (is_some (live_in serial host)) refl refl)

  is_full_at-maps : (serial : ℕ) (host : Host S) → is_full_at serial (map_host change host) ≡ is_full_at serial host
  unfolding is_full_at is_full map_live
  is_full_at-maps serial host = rw (live_in-maps serial host, option_map_or-maps) refl

  -- ## Responses

  told-maps : (now : ℕ) (client : Client) (response : Response) (count : ℕ) (host : Host S)
      → told now client response count (map_host change host) ≡ map_taken change (told now client response count host)
  unfolding told
  told-maps now client response count host =
      rw is_full_at-maps (if-maps (map_taken change) (is_cancel_client client || (not (is_final response.code) && is_full_at client.app.serial host))
      (quiet-maps host count) (queue-maps client.app.serial now _ count host))

  told_by-maps : (tell : Option ℕ) (now : ℕ) (client : Client) (response : Response) (count : ℕ) (host : Host S)
      → told_by tell now client response count (map_host change host) ≡ map_taken change (told_by tell now client response count host)
  unfolding told_by
  told_by-maps None now client response count host = quiet-maps host count
  told_by-maps (Some code) now client response count host = told-maps now client response count host

  with_reply-maps : (out : ClientOut) (now : ℕ) (client : Client) (response : Response) (taken : Taken S)
      → with_reply out now client response (map_taken change taken) ≡ map_taken change (with_reply out now client response taken)
  unfolding with_reply map_taken map_host
  with_reply-maps out now client response taken = if-maps (map_taken change) out.ack refl (if-maps (map_taken change) out.cancel refl refl)

  response_for-maps : (now : ℕ) (client : Client) (response : Response) (count : ℕ) (host : Host S)
      → response_for now client response count (map_host change host) ≡ map_taken change (response_for now client response count host)
  unfolding response_for
  response_for-maps now client response count host = rw (pass_client-maps, told_by-maps, with_reply-maps) refl

  response_to-maps : (now : ℕ) (client : Option Client) (response : Response) (count : ℕ) (host : Host S)
      → response_to now client response count (map_host change host) ≡ map_taken change (response_to now client response count host)
  unfolding response_to
  response_to-maps now None response count host = quiet-maps host count
  response_to-maps now (Some client) response count host = response_for-maps now client response count host

  pub take_response-maps : (config : Config) (epoch : ℕ) (from : Peer) (now : ℕ) (response : Response) (count : ℕ) (host : Host S)
      → take_response config epoch from now response count (map_host change host) ≡ map_taken change (take_response config epoch from now response count host)
  unfolding take_response
  take_response-maps config epoch from now response count host = rw (client_for-maps, response_to-maps) refl
