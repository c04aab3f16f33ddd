-- A client transaction that has just begun: as long as nothing that goes between hosts has its branch it stays as it is, and what hosts answer hasn't its branch.
use Rattle.std.proofs.Common.{◌+◌, ◌∙◌, ◌∷◌, ◌≡◌, ◌⊎◌, Bool, List, None, Option, Some, [], ap, arith, cond, false, find, inl, inr, length, refl, slice_get, subst, sym, true, ℕ}
use Rattle.std.proofs.lemmas.Bool.Decides.{nat_tests}
use Rattle.std.specs.Option.{option_map_or}
use Rattle.std.specs.Prelude.{◌&&◌, ◌==◌, is_some, nat_le, not, option_map, unwrap_or}
use Rattle.sc_value.specs.Lists.{change_first}
use Rattle.sc_value.specs.declared.ids.AppId.{AppId}
use Rattle.sc_value.specs.declared.message.Message.{Message}
use Rattle.sc_value.specs.declared.message.Message.TheVariants as messages
use Rattle.sc_value.specs.declared.message.Request.{Request}
use Rattle.sc_value.specs.declared.message.Response.{Response}
use Rattle.sc_value.specs.declared.parts.Via.{Via}
use Rattle.sc_tokens.specs.Names.{same_bytes}
use Rattle.sc_terms.specs.declared.settings.Config.{Config}
use Rattle.sc_parts.specs.declared.transactions.ClientItem.{ClientItem}
use Rattle.sc_parts.specs.declared.transactions.ClientItem.TheVariants as client_items
use Rattle.sc_parts.specs.declared.transactions.ClientOut.{ClientOut}
use Rattle.sc_parts.specs.declared.transactions.ServerItem.{ServerItem}
use Rattle.sc_state.specs.Hosts.{Host}
use Rattle.sc_state.specs.declared.host.Client.{Client}
use Rattle.sc_state.specs.declared.host.Live.{Live}
use Rattle.sc_state.specs.declared.host.Peer.{Peer}
use Rattle.sc_state.specs.declared.host.Reply.{Reply}
use Rattle.sc_state.specs.declared.host.Server.{Server}
use Rattle.sc_state.specs.declared.host.Taken.{Taken}
use Rattle.sc_state.specs.declared.net.Note.{Note}
use Rattle.sc_state.specs.declared.queue.Queued.{Queued}
use Rattle.sc_state.specs.declared.queue.Queued.TheVariants as queued
use Rattle.sc_state.specs.declared.session.Session.{Session}
use Rattle.sc_tokens.specs.Bytes.{Bytes}
use Rattle.sc_model.specs.DialogRequests.{cancel}
use Rattle.sc_model.specs.Names.{branch_text, edge_tag}
use Rattle.sc_model.specs.Responses.{response_head, response_to as made_to}
use Rattle.sc_model.specs.SessionStates.{ack}
use Rattle.sc_hosts.proofs.EachSort.{takes-by}
use Rattle.sc_hosts.specs.Inboxes.{MOST_LIVE, is_live, live_in, queue, without_answer as quiet, replying, with_event}
use Rattle.sc_hosts.specs.Messages.{ack_of, cancel_of, kin, own_response, trying_response, without_via}
use Rattle.sc_hosts.specs.Sessions.{Form}
use Rattle.sc_hosts.specs.Taking.{again_if, take_new as begun, take_cancel as cancelled, last_again, queue_later, refuse, take_repeated as repeated, take_initial, takes, server_after_trying as tried, without_own_route as unrouted, with_server, with_trying, server_for}
use Rattle.sc_hosts.specs.TakingResponses.{cancelling, response_for, response_to, take_response, take_provisional as told, told_by, with_reply}
use Rattle.sc_hosts.specs.Transacting.{branch_of, client_for, client_passed, has_final, is_answered_by, is_cancel_client, is_client, is_kept_client, is_over, is_repeated_by, is_server, method_of, pass_client, pass_server, server_passed, state_of_client, takes_from, without_ended, top_via, with_client, is_acked_by, is_cancelled_by}
use Rattle.sc_hosts.specs.Words.{does_not_exist, ok as fine_reason, trying, unavailable}
use Rattle.sc_lasting.specs.Lasting.{All}
use Rattle.sc_lasting.proofs.Began.{test-found}
use Rattle.sc_lasting.proofs.Parts.{all-append, all-filter, all-first, all-found}
use Rattle.sc_lasting.proofs.Shared.{kin-top}
use Rattle.sc_keyed.specs.Keyed.{IsIn}
use Rattle.sc_hops.proofs.OneTurn.{unrouted-vias}
use Rattle.sc_ways.proofs.FirstHop.{in-filter, in-left}

equal : (m n : ℕ) → (m == n) ≡ true → m ≡ n
equal m n is = grind (arith, nat_tests, is)

pub same-digit : (n : ℕ) → (n == n) ≡ true
same-digit n = grind (arith, nat_tests)

pub same-self : (bytes : Bytes) → same_bytes bytes bytes ≡ true
same-self [] = refl
same-self (b ∷ bs) = rw (same-digit b, same-self bs) refl

pub clash : (b : Bool) → b ≡ true → b ≡ false → ⊥
clash b p q = cc

first-two : (x y z : Bool) → (x && y && z) ≡ true → (x ≡ true) × (y ≡ true)
first-two true true z is = (refl, refl)
first-two true false z is = cc
first-two false y z is = cc

both-of : (x y : Bool) → (x && y) ≡ true → (x ≡ true) × (y ≡ true)
both-of true true is = (refl, refl)
both-of true false is = cc
both-of false y is = cc

pub last-of : (x y z w : Bool) → (x && y && z && w) ≡ true → w ≡ true
last-of true true true w is = is
last-of true true false w is = cc
last-of true false z w is = cc
last-of false y z w is = cc

same-name-of : (x y : AppId) → x.host ≡ y.host → x.serial ≡ y.serial → x ≡ y
same-name-of x y p q =
    ap (λ (n : ℕ). record { host = n; serial = x.serial }) p ∙ ap (λ (n : ℕ). record { host = y.host; serial = n }) q

module _ (salt : Bytes) (epoch : ℕ) (C : Client) where
  -- the branch of the transaction
  abbrev pub B : Bytes
  B = branch_text salt epoch C.app C.branch

  -- the top Via isn't of that branch
  abbrev pub Free : List Via → Type 0
  Free vias = option_map_or (λ via. same_bytes (branch_of via) B) (top_via vias) false ≡ false

  unfoldable pub IsFree : Message → Type 0
  IsFree (messages.Request request) = Free request.head.via
  IsFree (messages.Response response) = Free response.head.via

  unfoldable pub FreeLast : Option Response → Type 0
  FreeLast None = Unit {0}
  FreeLast (Some response) = Free response.head.via

  unfoldable pub FreeReply : Option Reply → Type 0
  FreeReply None = Unit {0}
  FreeReply (Some reply) = IsFree reply.message

  -- a transaction of another branch
  pub record Other (client : Client) : Type 0 where
    pub names : same_bytes B (branch_text salt epoch client.app client.branch) ≡ false
    pub via : Free client.request.head.via

  abbrev pub LastFree : Server → Type 0
  LastFree server = FreeLast server.last

  pub kin-free : (vias : List Via) → Free vias → Free (unwrap_or (option_map (λ via. via ∷ []) (slice_get vias 0)) [])
  kin-free vias free = subst (λ (top : Option Via). option_map_or (λ via. same_bytes (branch_of via) B) top false ≡ false) (sym (kin-top vias)) free

  pub own-free : (tag : Bytes) (code : ℕ) (reason : Bytes) (request : Request) → Free request.head.via → Free (own_response tag code reason request).head.via
  unfolding own_response made_to response_head
  own-free tag code reason request free = free

  trying-free : (reason : Bytes) (request : Request) → Free request.head.via → Free (trying_response reason request).head.via
  unfolding trying_response made_to response_head
  trying-free reason request free = free

  module _ (H : Type 0) (fresh : is_over (state_of_client C) ≡ false) where
    abbrev pub Right : Client → Type 0
    Right client = (H × ◌≡◌ {A = Client} client C) ⊎ Other client

    -- what is known of the host of this number
    abbrev pub Well : ℕ → Host Session → Type 0
    Well number host = All Right host.clients × All LastFree host.servers × (H → ◌≡◌ {A = ℕ} number C.app.host → IsIn C host.clients)

    abbrev pub Took : ℕ → Taken Session → Type 0
    Took number taken = Well number taken.host × FreeReply taken.reply

    if-took : (number : ℕ) (b : Bool) (x y : Taken Session) → Took number x → Took number y → Took number (cond b x y)
    if-took number true x y p q = p
    if-took number false x y p q = q

    -- ## It is kept

    keeps : (host : Host Session) → is_kept_client host C ≡ true
    unfolding is_kept_client
    keeps host = rw fresh refl

    first-here : (b : Bool) (x y : Client) (xs ys : List Client) → b ≡ false → ◌≡◌ {A = Client} C x → IsIn C (cond b (y ∷ xs) (x ∷ ys))
    unfolding IsIn
    first-here true x y xs ys away same = cc
    first-here false x y xs ys away same = inl same

    first-later : (b : Bool) (x y : Client) (xs ys : List Client) → IsIn C xs → IsIn C ys → IsIn C (cond b (y ∷ xs) (x ∷ ys))
    unfolding IsIn
    first-later true x y xs ys p q = inr p
    first-later false x y xs ys p q = inr q

    in-first : (test : Client → Bool) (change : Client → Client) (xs : List Client) → test C ≡ false → IsIn C xs → IsIn C (change_first test change xs)
    unfolding IsIn change_first
    in-first test change [] away there = absurd there
    in-first test change (x ∷ xs) away (inl same) = first-here (test x) x (change x) xs (change_first test change xs) (subst (λ (c : Client). test c ≡ false) same away) same
    in-first test change (x ∷ xs) away (inr later) = first-later (test x) x (change x) xs (change_first test change xs) later (in-first test change xs away later)

    own-text : (a : AppId) (b : ℕ) → C.app.host ≡ a.host → C.app.serial ≡ a.serial → C.branch ≡ b → B ≡ branch_text salt epoch a b
    own-text a b p q r =
        ap (λ (app : AppId). branch_text salt epoch app C.branch) (same-name-of C.app a p q) ∙ ap (λ (n : ℕ). branch_text salt epoch a n) r

    own-client : (a : AppId) (b : ℕ) (of_cancel : Bool) → is_client a b of_cancel C ≡ true → B ≡ branch_text salt epoch a b
    unfolding is_client
    own-client a b of_cancel is =
        let parts = first-two ((C.app.host == a.host) && (C.app.serial == a.serial)) (C.branch == b) _ is in
        let names = both-of (C.app.host == a.host) (C.app.serial == a.serial) parts.0 in
        own-text a b (equal C.app.host a.host names.0) (equal C.app.serial a.serial names.1) (equal C.branch b parts.1)

    not-client : (a : AppId) (b : ℕ) (of_cancel : Bool) → same_bytes B (branch_text salt epoch a b) ≡ false → is_client a b of_cancel C ≡ false
    not-client a b of_cancel away = by (is_client a b of_cancel C) refl
      where
        by : (t : Bool) → is_client a b of_cancel C ≡ t → t ≡ false
        by true is = absurd (clash (same_bytes B (branch_text salt epoch a b)) (subst (λ (text : Bytes). same_bytes B text ≡ true) (own-client a b of_cancel is) (same-self B)) away)
        by false is = refl

    passed-right : (a : AppId) (b : ℕ) (of_cancel : Bool) (item : ClientItem) (x : Client) → same_bytes B (branch_text salt epoch a b) ≡ false → is_client a b of_cancel x ≡ true → Right x → Right (client_passed item x)
    unfolding client_passed
    passed-right a b of_cancel item x away at (inl own) =
        absurd (clash (is_client a b of_cancel C) (subst (λ (c : Client). is_client a b of_cancel c ≡ true) own.1 at) (not-client a b of_cancel away))
    passed-right a b of_cancel item x away at (inr other) = inr (record { names = other.names; via = other.via })

    pub pass_client-well : (number : ℕ) (a : AppId) (b : ℕ) (of_cancel : Bool) (item : ClientItem) (host : Host Session) → same_bytes B (branch_text salt epoch a b) ≡ false → Well number host
        → Well number (pass_client a b of_cancel item host)
    unfolding pass_client without_ended
    pass_client-well number a b of_cancel item host away ok = (
      all-filter Right _ _ (all-first Right (is_client a b of_cancel) (client_passed item) host.clients (λ x found right. passed-right a b of_cancel item x away (test-found (is_client a b of_cancel) host.clients x found) right) ok.0),
      all-filter LastFree _ host.servers ok.1,
      λ h here. in-filter _ C _ (keeps _) (in-first (is_client a b of_cancel) (client_passed item) host.clients (not-client a b of_cancel away) (ok.2 h here)),
    )

    pass_server-well : (number event : ℕ) (item : ServerItem) (host : Host Session) → Well number host → Well number (pass_server event item host)
    unfolding pass_server server_passed without_ended
    pass_server-well number event item host ok = (
      all-filter Right _ host.clients ok.0,
      all-filter LastFree _ _ (all-first LastFree (is_server event) (server_passed item) host.servers (λ server found free. free) ok.1),
      λ h here. in-filter _ C host.clients (keeps _) (ok.2 h here),
    )

    -- a CANCEL's transaction beside that of another request
    pub cancelling-well : (number now : ℕ) (client : Client) (host : Host Session) → Other client → Well number host → Well number (with_client (cancelling now client) host)
    unfolding cancelling cancel_of kin
    cancelling-well number now client host other ok = (
      all-append Right host.clients (cancelling now client) ok.0 (inr (record { names = other.names; via = kin-free client.request.head.via other.via })),
      ok.1,
      λ h here. in-left C host.clients (cancelling now client ∷ []) (ok.2 h here),
    )

    -- ## Replies

    kept-quiet : (number : ℕ) (host : Host Session) (count : ℕ) → Well number host → Took number (quiet host count)
    unfolding quiet FreeReply
    kept-quiet number host count ok = (ok, tt)

    pub queue-took : (number serial now : ℕ) (event : Queued) (count : ℕ) (host : Host Session) → Well number host → Took number (queue serial now event count host)
    unfolding queue
    queue-took number serial now event count host ok =
        if-took number (is_some (live_in serial host)) (quiet (record host { sessions = change_first (is_live serial) (with_event (count + 1) now event) host.sessions }) (count + 1)) (quiet host count)
        (kept-quiet number (record host { sessions = change_first (is_live serial) (with_event (count + 1) now event) host.sessions }) (count + 1) ok) (kept-quiet number host count ok)

    replying-took : (number : ℕ) (peer : Peer) (message : Message) (taken : Taken Session) → IsFree message → Well number taken.host → Took number (replying peer message taken)
    unfolding FreeReply
    replying-took number peer message taken free ok = (ok, free)

    -- ## A response

    told_by-took : (number now : ℕ) (tell : Option ℕ) (client : Client) (response : Response) (count : ℕ) (host : Host Session) → Well number host → Took number (told_by tell now client response count host)
    unfolding told_by told
    told_by-took number now None client response count host ok = kept-quiet number host count ok
    told_by-took number now (Some code) client response count host ok =
        if-took number _ (quiet host count) (queue client.app.serial now (queued.Response client.branch (without_via response)) count host) (kept-quiet number host count ok)
        (queue-took number client.app.serial now (queued.Response client.branch (without_via response)) count host ok)

    with_reply-took : (number now : ℕ) (out : ClientOut) (client : Client) (response : Response) (taken : Taken Session) → Other client → Took number taken → Took number (with_reply out now client response taken)
    unfolding with_reply ack_of cancel_of kin IsFree
    with_reply-took number now out client response taken other took =
        if-took number out.ack (replying client.peer (messages.Request (ack_of client.request response)) taken) _
        (replying-took number client.peer (messages.Request (ack_of client.request response)) taken (kin-free client.request.head.via other.via) took.0)
        (if-took number out.cancel (replying client.peer (messages.Request (cancel_of client.request)) (record taken { host = with_client (cancelling now client) taken.host })) taken
        (replying-took number client.peer (messages.Request (cancel_of client.request)) (record taken { host = with_client (cancelling now client) taken.host }) (kin-free client.request.head.via other.via)
        (cancelling-well number now client taken.host other took.0)) took)

    -- a response of another branch isn't for it
    free-other : (from : Peer) (response : Response) (client : Client) → Free response.head.via → is_answered_by salt epoch from response client ≡ true → Right client → Other client
    unfolding is_answered_by
    free-other from response client free at (inl own) =
        absurd (clash (option_map_or (λ via. same_bytes (branch_of via) B) (top_via response.head.via) false)
        (last-of (takes_from C.peer from) (not (is_over (state_of_client C))) (same_bytes (method_of C.request) response.head.cseq.method) _
        (subst (λ (c : Client). is_answered_by salt epoch from response c ≡ true) own.1 at)) free)
    free-other from response client free at (inr other) = other

    response_to-took : (number : ℕ) (from : Peer) (now : ℕ) (response : Response) (count : ℕ) (host : Host Session) → Free response.head.via → Well number host → (found : Option Client)
        → find (is_answered_by salt epoch from response) host.clients ≡ found → Took number (response_to now found response count host)
    unfolding response_to response_for
    response_to-took number from now response count host free ok None is = kept-quiet number host count ok
    response_to-took number from now response count host free ok (Some client) is =
        let right = all-found Right (is_answered_by salt epoch from response) host.clients client is ok.0 in
        let other = free-other from response client free (test-found (is_answered_by salt epoch from response) host.clients client is) right in
        with_reply-took number now _ client response _ other
        (told_by-took number now _ client response count _ (pass_client-well number client.app client.branch (is_cancel_client client) (client_items.ResponseCame response.code now) host other.names ok))

    -- ## A request

    cancelled-took : (number : ℕ) (from : Peer) (now : ℕ) (server : Server) (request : Request) (count : ℕ) (host : Host Session) → Free request.head.via → Well number host
        → Took number (cancelled from now server request count host)
    unfolding cancelled IsFree
    cancelled-took number from now server request count host free ok =
        replying-took number from (messages.Response (own_response server.tag 200 fine_reason request))
        (cond (has_final server) (quiet host count) (queue server.app.serial now (queued.Cancelled server.event) count host)) (own-free server.tag 200 fine_reason request free)
        (if-took number (has_final server) (quiet host count) (queue server.app.serial now (queued.Cancelled server.event) count host) (kept-quiet number host count ok)
        (queue-took number server.app.serial now (queued.Cancelled server.event) count host ok)).0

    last-took : (number : ℕ) (server : Server) (last : Option Response) (taken : Taken Session) → FreeLast last → Took number taken → Took number (last_again server last taken)
    unfolding last_again FreeLast IsFree
    last-took number server None taken free took = took
    last-took number server (Some response) taken free took = replying-took number server.peer (messages.Response response) taken free took.0

    again-took : (number : ℕ) (b : Bool) (server : Server) (taken : Taken Session) → LastFree server → Took number taken → Took number (again_if b server taken)
    unfolding again_if
    again-took number true server taken free took = last-took number server server.last taken free took
    again-took number false server taken free took = took

    repeated-took : (number : ℕ) (server : Server) (count : ℕ) (host : Host Session) → LastFree server → Well number host → Took number (repeated server count host)
    unfolding repeated
    repeated-took number server count host free ok = again-took number _ server _ free (kept-quiet number _ count (pass_server-well number server.event _ host ok))

    refuse-took : (number : ℕ) (config : Config) (from : Peer) (code : ℕ) (reason : Bytes) (request : Request) (count : ℕ) (host : Host Session) → Free request.head.via → Well number host
        → Took number (refuse config from code reason request count host)
    unfolding refuse IsFree
    refuse-took number config from code reason request count host free ok =
        if-took number _ (quiet host count) _ (kept-quiet number host count ok)
        (replying-took number from (messages.Response (own_response (edge_tag config.salt) code reason request)) (quiet host count) (own-free (edge_tag config.salt) code reason request free) (kept-quiet number host count ok).0)

    if-well : (number : ℕ) (b : Bool) (x y : Host Session) → Well number x → Well number y → Well number (cond b x y)
    if-well number true x y p q = p
    if-well number false x y p q = q

    server-well : (number : ℕ) (of : AppId) (event : ℕ) (peer : Peer) (tag : Bytes) (request : Request) (host : Host Session) → Well number host → Well number (with_server of event peer tag request host)
    unfolding with_server FreeLast
    server-well number of event peer tag request host ok = if-well number _ host _ ok (ok.0, all-append LastFree host.servers _ ok.1 tt, ok.2)

    trying-took : (number : ℕ) (from : Peer) (now : ℕ) (request : Request) (taken : Taken Session) → Free request.head.via → Took number taken → Took number (with_trying from now request taken)
    unfolding with_trying tried FreeLast FreeReply IsFree
    trying-took number from now request taken free took =
        if-took number _ _ taken
        ((took.0.0, all-first LastFree (is_server taken.count) (tried request now) taken.host.servers (λ server found was. trying-free trying request free) took.0.1, took.0.2), trying-free trying request free) took

    popped : (config : Config) (request : Request) → Free request.head.via → Free (unrouted config request).head.via
    popped config request free = subst (λ (vias : List Via). Free vias) (sym (unrouted-vias config request)) free

    later-took : (config : Config) (other number : ℕ) (from : Peer) (now : ℕ) (request : Request) (count : ℕ) (live : Live Session) (host : Host Session) → Free request.head.via → Well number host
        → Took number (queue_later config (record { host = number; epoch = other; from = from; now = now; count = count }) request live host)
    unfolding queue_later
    later-took config other number from now request count live host free ok =
        if-took number _ _ _ (refuse-took number config from 503 unavailable request count host free ok)
        (trying-took number from now request _ free (queue-took number live.serial now (queued.Request (unrouted config request)) count _ (server-well number _ _ from _ (unrouted config request) host ok)))

    begun-took : (form : Form Session) (config : Config) (other number : ℕ) (from : Peer) (now : ℕ) (noted : Note) (request : Request) (count : ℕ) (host : Host Session) → Free request.head.via → Well number host
        → Took number (begun form config (record { host = number; epoch = other; from = from; now = now; count = count }) noted request host)
    unfolding begun
    begun-took form config other number from now noted request count host free ok =
        trying-took number from now request _ free (kept-quiet number _ (count + 1) (server-well number (record { host = number; serial = host.last + 1 }) (count + 1) from _ request _ ok))

    initial-took : (form : Form Session) (config : Config) (other number : ℕ) (from : Peer) (now : ℕ) (noted : Option Note) (request : Request) (count : ℕ) (host : Host Session) → Free request.head.via → Well number host
        → Took number (take_initial form config (record { host = number; epoch = other; from = from; now = now; count = count }) noted request host)
    unfolding take_initial
    initial-took form config other number from now None request count host free ok = refuse-took number config from 481 does_not_exist request count host free ok
    initial-took form config other number from now (Some noted) request count host free ok =
        if-took number (nat_le MOST_LIVE (length host.sessions)) (refuse config from 503 unavailable request count host)
        (begun form config (record { host = number; epoch = other; from = from; now = now; count = count }) noted request host) (refuse-took number config from 503 unavailable request count host free ok)
        (begun-took form config other number from now noted request count host free ok)

    -- the last answer of the transaction that a request belongs to
    server-free : (number : ℕ) (from : Peer) (request : Request) (host : Host Session) (server : Server) → server_for from request host ≡ Some server → Well number host → LastFree server
    unfolding server_for
    server-free number from request host server is ok = by (same_bytes (method_of request) cancel) (same_bytes (method_of request) ack) is
      where
        by : (c a : Bool) → cond c (find (is_cancelled_by from request) host.servers) (cond a (find (is_acked_by from request) host.servers) (find (is_repeated_by from request) host.servers)) ≡ Some server → LastFree server
        by true a is = all-found LastFree (is_cancelled_by from request) host.servers server is ok.1
        by false true is = all-found LastFree (is_acked_by from request) host.servers server is ok.1
        by false false is = all-found LastFree (is_repeated_by from request) host.servers server is ok.1

    -- whatever comes between hosts that hasn't its branch
    pub takes-took : (form : Form Session) (config : Config) (number : ℕ) (from : Peer) (now : ℕ) (noted : Option Note) (message : Message) (count : ℕ) (host : Host Session) → config.salt ≡ salt → IsFree message
        → Well number host → Took number (takes form config (record { host = number; epoch = epoch; from = from; now = now; count = count }) noted message host)
    unfolding takes take_response client_for IsFree
    takes-took form config number from now noted (messages.Request request) count host is free ok =
        takes-by (Took number) form config (record { host = number; epoch = epoch; from = from; now = now; count = count }) noted request host (λ server found. cancelled-took number from now server request count host free ok)
        (λ server found. kept-quiet number _ count (pass_server-well number server.event _ host ok))
        (λ server found. repeated-took number server count host (server-free number from request host server found ok) ok)
        (λ live no_cancel tagged is. later-took config epoch number from now request count live host free ok)
        (λ untagged. initial-took form config epoch number from now noted request count host free ok) (refuse-took number config from 481 does_not_exist request count host free ok)
    takes-took form config number from now noted (messages.Response response) count host is free ok =
        subst (λ (s : Bytes). Took number (response_to now (find (is_answered_by s epoch from response) host.clients) response count host)) (sym is)
        (response_to-took number from now response count host free ok (find (is_answered_by salt epoch from response) host.clients) refl)
