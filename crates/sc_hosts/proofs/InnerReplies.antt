-- A message that one host delivers to another makes nothing leave the container.
use Rattle.std.proofs.Common.{◌≡◌, ℕ, Bool, true, false, Option, None, Some, refl}
use Rattle.std.specs.Prelude.{cond, ◌&&◌, not}
use Rattle.std.specs.List.{find}
use Rattle.sc_value.specs.declared.message.Message.{Message}
use Rattle.sc_value.specs.declared.message.Message.TheVariants as messages
use Rattle.sc_value.specs.declared.message.Request.{Request}
use Rattle.sc_value.specs.declared.message.Response.{Response}
use Rattle.sc_tokens.specs.Names.{same_bytes}
use Rattle.sc_terms.specs.declared.settings.Config.{Config}
use Rattle.sc_parts.specs.declared.setup.Setup.{Setup}
use Rattle.sc_parts.specs.declared.transactions.ClientItem.TheVariants as client_items
use Rattle.sc_parts.specs.declared.transactions.ClientOut.{ClientOut}
use Rattle.sc_state.specs.declared.host.Client.{Client}
use Rattle.sc_state.specs.Hosts.{Host}
use Rattle.sc_state.specs.declared.host.Live.{Live}
use Rattle.sc_state.specs.declared.host.Peer.{Peer}
use Rattle.sc_state.specs.declared.host.Peer.TheVariants as peers
use Rattle.sc_state.specs.declared.host.Reply.{Reply}
use Rattle.sc_state.specs.declared.host.Server.{Server}
use Rattle.sc_state.specs.declared.host.Taken.{Taken}
use Rattle.sc_state.specs.declared.net.Entry.{Entry}
use Rattle.sc_state.specs.declared.net.Net.{Net}
use Rattle.sc_state.specs.declared.net.Note.{Note}
use Rattle.sc_state.specs.declared.queue.Queued.{Queued}
use Rattle.sc_tokens.specs.Bytes.{Bytes}
use Rattle.sc_hosts.proofs.Deliveries.{found-passes, both}
use Rattle.sc_hosts.specs.Nets.{with_message as put, put_reply, with_host_after as placed, host_at, deliver_at, deliver_entry, deliver_first}
use Rattle.sc_hosts.specs.Sessions.{Form}
use Rattle.sc_hosts.specs.Inboxes.{without_answer as quiet, queue, replying}
use Rattle.sc_hosts.specs.TakingResponses.{take_provisional as told, told_by, with_reply, response_for, response_to as answer_to, take_response}
use Rattle.sc_hosts.proofs.EachSort.{takes-by}
use Rattle.sc_hosts.specs.Taking.{refuse, take_cancel as cancelled, take_repeated as repeated, again_if, last_again, with_trying, queue_later, take_new as begun, take_initial, server_for, takes}
use Rattle.sc_hosts.specs.Transacting.{method_of, takes_from, is_over, state_of_client, state_of_server, same_top, is_kin, is_invite_server, is_cancelled_by, is_acked_by, is_repeated_by, is_answered_by, client_for, out_of_client}
use Rattle.sc_model.specs.SessionStates.{ack}
use Rattle.sc_model.specs.DialogRequests.{cancel}

-- the end is a host, or none
pub is_inner : Peer → Bool
is_inner (peers.Outside place) = false
is_inner (peers.Inside host) = true
is_inner peers.Nowhere = true

-- the reply stays inside
pub Inner : Option Reply → Type 0
Inner None = Unit {0}
Inner (Some reply) = is_inner reply.peer ≡ true

-- an end that takes messages from inside is inside
inner-end : (peer : Peer) (host : ℕ) → takes_from peer (peers.Inside host) ≡ true → is_inner peer ≡ true
unfolding takes_from is_inner
inner-end (peers.Outside place) host e = cc
inner-end (peers.Inside other) host e = refl
inner-end peers.Nowhere host e = refl

inner-quiet : {S : Type 0} (host : Host S) (count : ℕ) → Inner (quiet host count).reply
unfolding Inner quiet
inner-quiet host count = tt

inner-if : {S : Type 0} (b : Bool) (x y : Taken S) → Inner x.reply → Inner y.reply → Inner (cond b x y).reply
inner-if true x y p q = p
inner-if false x y p q = q

inner-queue : {S : Type 0} (serial now : ℕ) (event : Queued) (count : ℕ) (host : Host S) → Inner (queue serial now event count host).reply
unfolding queue
inner-queue serial now event count host = inner-if _ _ _ (inner-quiet _ _) (inner-quiet _ _)

inner-replying : {S : Type 0} (peer : Peer) (message : Message) (taken : Taken S) → is_inner peer ≡ true → Inner (replying peer message taken).reply
unfolding Inner
inner-replying peer message taken p = p

inner-refuse : {S : Type 0} (config : Config) (from : Peer) (code : ℕ) (reason : Bytes) (request : Request) (count : ℕ) (host : Host S)
    → is_inner from ≡ true → Inner (refuse config from code reason request count host).reply
unfolding refuse
inner-refuse config from code reason request count host p = inner-if _ _ _ (inner-quiet host count) (inner-replying from _ (quiet host count) p)

inner-trying : {S : Type 0} (from : Peer) (now : ℕ) (request : Request) (taken : Taken S) → is_inner from ≡ true → Inner taken.reply → Inner (with_trying from now request taken).reply
unfolding with_trying
inner-trying from now request taken p q = inner-if _ _ _ (inner-replying from _ taken p) q

inner-later : {S : Type 0} (config : Config) (epoch number : ℕ) (from : Peer) (now : ℕ) (request : Request) (count : ℕ) (live : Live S) (host : Host S)
    → is_inner from ≡ true → Inner (queue_later config (record { host = number; epoch = epoch; from = from; now = now; count = count }) request live host).reply
unfolding queue_later
inner-later config epoch number from now request count live host p =
    inner-if _ _ _ (inner-refuse config from _ _ request count host p) (inner-trying from now request _ p (inner-queue live.serial now _ count _))

inner-first : {S : Type 0} (form : Form S) (config : Config) (epoch number : ℕ) (from : Peer) (now : ℕ) (noted : Note) (request : Request) (count : ℕ) (host : Host S)
    → is_inner from ≡ true → Inner (begun form config (record { host = number; epoch = epoch; from = from; now = now; count = count }) noted request host).reply
unfolding begun
inner-first form config epoch number from now noted request count host p = inner-trying from now request (quiet _ _) p (inner-quiet _ _)

inner-initial : {S : Type 0} (form : Form S) (config : Config) (epoch number : ℕ) (from : Peer) (now : ℕ) (noted : Option Note) (request : Request) (count : ℕ) (host : Host S)
    → is_inner from ≡ true → Inner (take_initial form config (record { host = number; epoch = epoch; from = from; now = now; count = count }) noted request host).reply
unfolding take_initial
inner-initial form config epoch number from now None request count host p = inner-refuse config from _ _ request count host p
inner-initial form config epoch number from now (Some noted) request count host p =
    inner-if _ _ _ (inner-refuse config from _ _ request count host p) (inner-first form config epoch number from now noted request count host p)

inner-last : {S : Type 0} (server : Server) (last : Option Response) (taken : Taken S) → is_inner server.peer ≡ true → Inner taken.reply → Inner (last_again server last taken).reply
unfolding last_again
inner-last server None taken p q = q
inner-last server (Some response) taken p q = inner-replying server.peer _ taken p

inner-again : {S : Type 0} (b : Bool) (server : Server) (taken : Taken S) → is_inner server.peer ≡ true → Inner taken.reply → Inner (again_if b server taken).reply
unfolding again_if
inner-again true server taken p q = inner-last server server.last taken p q
inner-again false server taken p q = q

inner-repeated : {S : Type 0} (server : Server) (count : ℕ) (host : Host S) → is_inner server.peer ≡ true → Inner (repeated server count host).reply
unfolding repeated
inner-repeated server count host p = inner-again _ server (quiet _ _) p (inner-quiet _ _)

kin-from : (host : ℕ) (request : Request) (server : Server) → is_kin (peers.Inside host) request server ≡ true → is_inner server.peer ≡ true
unfolding is_kin
kin-from host request server e =
    inner-end server.peer host
    (both (takes_from server.peer (peers.Inside host)) (not (is_over (state_of_server server)))
    (both (takes_from server.peer (peers.Inside host) && not (is_over (state_of_server server))) (same_top server.request.head.via request.head.via) e).0).0

-- the transaction that a request belongs to has its end
server-from : {S : Type 0} (sender : ℕ) (request : Request) (host : Host S) (server : Server) → server_for (peers.Inside sender) request host ≡ Some server → is_inner server.peer ≡ true
unfolding server_for
server-from sender request host server = by (same_bytes (method_of request) cancel) (same_bytes (method_of request) ack)
  where
    from : Peer
    from = peers.Inside sender

    by : (c a : Bool) → cond c (find (is_cancelled_by from request) host.servers) (cond a (find (is_acked_by from request) host.servers) (find (is_repeated_by from request) host.servers)) ≡ Some server
        → is_inner server.peer ≡ true
    by true a e = kin-from sender request server (both (is_kin from request server) _ (found-passes host.servers (is_cancelled_by from request) server e)).0
    by false true e =
        kin-from sender request server
        (both (is_kin from request server) _ (both (is_kin from request server && is_invite_server server) _ (found-passes host.servers (is_acked_by from request) server e)).0).0
    by false false e = kin-from sender request server (both (is_kin from request server) _ (found-passes host.servers (is_repeated_by from request) server e)).0

inner-cancelled : {S : Type 0} (from : Peer) (now : ℕ) (server : Server) (request : Request) (count : ℕ) (host : Host S)
    → is_inner from ≡ true → Inner (cancelled from now server request count host).reply
unfolding cancelled
inner-cancelled from now server request count host p = inner-replying from _ (quiet host count) p

-- ## Responses

inner-told : {S : Type 0} (code : Option ℕ) (now : ℕ) (client : Client) (response : Response) (count : ℕ) (host : Host S) → Inner (told_by code now client response count host).reply
unfolding told_by told
inner-told None now client response count host = inner-quiet host count
inner-told (Some code) now client response count host = inner-if _ _ _ (inner-quiet host count) (inner-queue client.app.serial now _ count host)

inner-reply : {S : Type 0} (sends_ack sends_cancel : Bool) (out : ClientOut) (now : ℕ) (client : Client) (response : Response) (taken : Taken S)
    → out.ack ≡ sends_ack → out.cancel ≡ sends_cancel → is_inner client.peer ≡ true → Inner taken.reply → Inner (with_reply out now client response taken).reply
unfolding with_reply
inner-reply true sends_cancel out now client response taken a c p q = rw a (inner-replying client.peer _ taken p)
inner-reply false true out now client response taken a c p q = rw (a, c) (inner-replying client.peer _ taken p)
inner-reply false false out now client response taken a c p q = rw (a, c) q

inner-for : {S : Type 0} (now : ℕ) (client : Client) (response : Response) (count : ℕ) (host : Host S) → is_inner client.peer ≡ true → Inner (response_for now client response count host).reply
unfolding response_for
inner-for now client response count host p =
    inner-reply _ _ (out_of_client client (client_items.ResponseCame response.code now)) now client response _ refl refl p (inner-told _ now client response count _)

first-of-four : (a b c d : Bool) → (a && b && c && d) ≡ true → a ≡ true
first-of-four a b c d e = (both a b (both (a && b) c (both (a && b && c) d e).0).0).0

client-from : (salt : Bytes) (epoch host : ℕ) (response : Response) (client : Client) → is_answered_by salt epoch (peers.Inside host) response client ≡ true → is_inner client.peer ≡ true
unfolding is_answered_by
client-from salt epoch host response client e =
    inner-end client.peer host
    (first-of-four (takes_from client.peer (peers.Inside host)) (not (is_over (state_of_client client))) (same_bytes (method_of client.request) response.head.cseq.method) _ e)

inner-answer : {S : Type 0} (salt : Bytes) (epoch sender now : ℕ) (found : Option Client) (response : Response) (count : ℕ) (host : Host S)
    → client_for salt epoch (peers.Inside sender) response host ≡ found → Inner (answer_to now found response count host).reply
unfolding answer_to client_for
inner-answer salt epoch sender now None response count host e = inner-quiet host count
inner-answer salt epoch sender now (Some client) response count host e =
    inner-for now client response count host (client-from salt epoch sender response client (found-passes host.clients (is_answered_by salt epoch (peers.Inside sender) response) client e))

inner-response : {S : Type 0} (config : Config) (epoch sender now : ℕ) (response : Response) (count : ℕ) (host : Host S) → Inner (take_response config epoch (peers.Inside sender) now response count host).reply
unfolding take_response
inner-response config epoch sender now response count host = inner-answer config.salt epoch sender now _ response count host refl

pub inner-takes : {S : Type 0} (form : Form S) (config : Config) (epoch number sender now : ℕ) (noted : Option Note) (message : Message) (count : ℕ) (host : Host S)
    → Inner (takes form config (record { host = number; epoch = epoch; from = peers.Inside sender; now = now; count = count }) noted message host).reply
unfolding takes is_inner
inner-takes form config epoch number sender now noted (messages.Request request) count host =
    takes-by (λ taken. Inner taken.reply) form config (record { host = number; epoch = epoch; from = peers.Inside sender; now = now; count = count }) noted request host
    (λ server found. inner-cancelled (peers.Inside sender) now server request count host refl) (λ server found. inner-quiet _ _)
    (λ server found. inner-repeated server count host (server-from sender request host server found))
    (λ live no_cancel tagged is. inner-later config epoch number (peers.Inside sender) now request count live host refl)
    (λ untagged. inner-initial form config epoch number (peers.Inside sender) now noted request count host refl)
    (inner-refuse config (peers.Inside sender) _ _ request count host refl)
inner-takes form config epoch number sender now noted (messages.Response response) count host = inner-response config epoch sender now response count host

-- ## What is sent outside stays

put-inner : {S : Type 0} (sender : ℕ) (peer : Peer) (message : Message) (net : Net S) → is_inner peer ≡ true → (put sender peer message None net).sent ≡ net.sent
unfolding put is_inner
put-inner sender (peers.Outside place) message net p = cc
put-inner sender (peers.Inside host) message net p = refl
put-inner sender peers.Nowhere message net p = refl

reply-inner : {S : Type 0} (sender : ℕ) (reply : Option Reply) (net : Net S) → Inner reply → (put_reply sender reply net).sent ≡ net.sent
unfolding put_reply Inner
reply-inner sender None net p = refl
reply-inner sender (Some reply) net p = put-inner sender reply.peer reply.message net p

placed-inner : {S : Type 0} (number : ℕ) (taken : Taken S) (net : Net S) → Inner taken.reply → (placed number taken net).sent ≡ net.sent
unfolding placed
placed-inner number taken net p = reply-inner number taken.reply _ p

deliver-at-inner : {S : Type 0} (form : Form S) (setup : Setup) (entry : Entry) (host : Option (Host S)) (net : Net S) → (deliver_at form setup entry host net).sent ≡ net.sent
unfolding deliver_at
deliver-at-inner form setup entry None net = refl
deliver-at-inner form setup entry (Some host) net =
    placed-inner entry.receiver _ net (inner-takes form setup.config net.epoch entry.receiver entry.sender net.moment entry.note entry.message net.count host)

deliver-entry-inner : {S : Type 0} (form : Form S) (setup : Setup) (entry : Option Entry) (net : Net S) → (deliver_entry form setup entry net).sent ≡ net.sent
unfolding deliver_entry
deliver-entry-inner form setup None net = refl
deliver-entry-inner form setup (Some entry) net = deliver-at-inner form setup entry (host_at entry.receiver net) _

-- a delivery sends nothing outside
pub delivery-sends-nothing : {S : Type 0} (form : Form S) (setup : Setup) (net : Net S) → (deliver_first form setup net).sent ≡ net.sent
unfolding deliver_first
delivery-sends-nothing form setup net = deliver-entry-inner form setup _ net
