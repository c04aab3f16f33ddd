-- What a host takes begins a session with a request without To tag alone: so it keeps each relation with the laws, where a session
-- that begins so does.
use Rattle.std.proofs.Common.{ℕ, ◌+◌, ◌++◌, [], ◌∷◌, Option, None, Some}
use Rattle.sc_value.specs.declared.message.Message.{Message}
use Rattle.sc_value.specs.declared.message.Message.TheVariants as messages
use Rattle.sc_value.specs.declared.message.Request.{Request}
use Rattle.sc_terms.specs.declared.settings.Config.{Config}
use Rattle.sc_state.specs.Hosts.{Host}
use Rattle.sc_state.specs.declared.host.Peer.{Peer}
use Rattle.sc_state.specs.declared.host.Taken.{Taken}
use Rattle.sc_state.specs.declared.net.Note.{Note}
use Rattle.sc_hosts.proofs.EachSort.{takes-by}
use Rattle.sc_hosts.specs.Inboxes.{without_answer as quiet}
use Rattle.sc_hosts.specs.Sessions.{Form}
use Rattle.sc_hosts.specs.Taking.{take_new as begun, begun_live, take_initial, takes}
use Rattle.sc_hosts.specs.TakingResponses.{take_response}
use Rattle.sc_walks.specs.Walks.{HostLaws}
use Rattle.sc_walks.proofs.WalkHosts.{if-took, response_to-walks, cancelled-walks, repeated-walks, pass_server-walks, refuse-walks, with_server-walks, with_trying-walks, queue_later-walks}
use Rattle.sc_begun.specs.Begun.{IsFirst}

module _ {S : Type 0} (number now : ℕ) (H : ℕ → Host S → ℕ → Host S → Type 0) (law : HostLaws {S = S} (λ (form : Form S). ⊥) number now H) where
  -- the host took it
  abbrev Took : ℕ → Host S → Taken S → Type 0
  Took count host taken = H count host taken.count taken.host

  -- ## Requests that begin a session

  module _ (form : Form S) (begins : (config : Config) (epoch : ℕ) (noted : Note) (request : Request) → IsFirst request → (count : ℕ) (host : Host S) → H count host (count + 1) (record host {
    sessions = host.sessions ++ begun_live form config epoch (record { host = number; serial = host.last + 1 }) now noted request (count + 1) ∷ [];
    last = host.last + 1;
  })) where
    begun-goes : (config : Config) (epoch : ℕ) (from : Peer) (noted : Note) (request : Request) → IsFirst request → (count : ℕ) (host : Host S)
        → Took count host (begun form config (record { host = number; epoch = epoch; from = from; now = now; count = count }) noted request host)
    unfolding begun quiet
    begun-goes config epoch from noted request first count host =
        with_trying-walks number now H law from request count host _ (law.after _ _ _ _ _ _ (begins config epoch noted request first count host) (with_server-walks number now H law _ _ from _ request (count + 1) _))

    take_initial-goes : (config : Config) (epoch : ℕ) (from : Peer) (noted : Option Note) (request : Request) → IsFirst request → (count : ℕ) (host : Host S)
        → Took count host (take_initial form config (record { host = number; epoch = epoch; from = from; now = now; count = count }) noted request host)
    unfolding take_initial
    take_initial-goes config epoch from None request first count host = refuse-walks number now H law config from 481 _ request count host
    take_initial-goes config epoch from (Some noted) request first count host =
        if-took number now H law _ count host _ _ (refuse-walks number now H law config from 503 _ request count host) (begun-goes config epoch from noted request first count host)

    -- all that a host takes
    pub takes-goes : (config : Config) (epoch : ℕ) (from : Peer) (noted : Option Note) (message : Message) (count : ℕ) (host : Host S)
        → Took count host (takes form config (record { host = number; epoch = epoch; from = from; now = now; count = count }) noted message host)
    unfolding takes take_response quiet
    takes-goes config epoch from noted (messages.Request request) count host =
        takes-by (Took count host) form config (record { host = number; epoch = epoch; from = from; now = now; count = count }) noted request host (λ server found. cancelled-walks number now H law from server request count host)
        (λ server found. pass_server-walks number now H law server.event _ count host) (λ server found. repeated-walks number now H law server count host)
        (λ live no_cancel tagged is. queue_later-walks number now H law config epoch from request count live host)
        (λ untagged. take_initial-goes config epoch from noted request untagged count host) (refuse-walks number now H law config from 481 _ request count host)
    takes-goes config epoch from noted (messages.Response response) count host = response_to-walks number now H law _ response count host
