-- A delivery lowers the weight of the wire: each message causes at most one other, of a lower rank.
use Rattle.std.proofs.Common.{◌≡◌, ℕ, Bool, true, false, List, [], ◌∷◌, Option, None, Some, refl, ◌<◌, ◌≤◌, ◌+◌, arith}
use Rattle.std.specs.Prelude.{◌&&◌, ◌||◌, not, cond, is_some, is_none}
use Rattle.std.proofs.lemmas.Bool.Decides.{nat_tests}
use Rattle.std.specs.List.{find}
use Rattle.std.proofs.lemmas.Slice.Eq.{slice_eq-Decides}
use Rattle.std.proofs.lemmas.Bool.Decides.{Decides-eqb}
use Rattle.sc_value.specs.declared.message.Message.{Message}
use Rattle.sc_value.specs.declared.message.Message.TheVariants as messages
use Rattle.sc_value.specs.declared.message.Request.{Request}
use Rattle.sc_value.specs.declared.message.Response.{Response}
use Rattle.sc_tokens.specs.Names.{same_bytes}
use Rattle.sc_terms.specs.declared.settings.Config.{Config}
use Rattle.sc_state.specs.declared.host.Client.{Client}
use Rattle.sc_state.specs.Hosts.{Host}
use Rattle.sc_state.specs.declared.host.Live.{Live}
use Rattle.sc_state.specs.declared.host.Peer.{Peer}
use Rattle.sc_state.specs.declared.host.Reply.{Reply}
use Rattle.sc_state.specs.declared.host.Server.{Server}
use Rattle.sc_state.specs.declared.host.Taken.{Taken}
use Rattle.sc_state.specs.declared.net.Note.{Note}
use Rattle.sc_state.specs.declared.queue.Queued.{Queued}
use Rattle.sc_tokens.specs.Bytes.{Bytes}
use Rattle.sc_model.specs.Responses.{response_to, response_head}
use Rattle.sc_parts.specs.declared.transactions.ClientItem.{ClientItem}
use Rattle.sc_parts.specs.declared.transactions.ClientItem.TheVariants as client_items
use Rattle.sc_parts.specs.declared.transactions.ClientOut.{ClientOut}
use Rattle.sc_model.specs.SessionStates.{invite, is_final, ack}
use Rattle.sc_model.specs.Transactions.{Found, client_out, out_from, lets_cancel_go, wants_ack, timer_m, is_provisional, is_failure, has_asking, cancel_moment}
use Rattle.sc_hosts.specs.Messages.{own_response, trying_response, ack_of, cancel_of, kin}
use Rattle.std.proofs.lemmas.List.Sums.{sum_by-cons, sum_by_push}
use Rattle.sc_parts.specs.declared.setup.Setup.{Setup}
use Rattle.sc_state.specs.declared.host.Peer.TheVariants as peers
use Rattle.sc_state.specs.declared.net.Entry.{Entry}
use Rattle.sc_state.specs.declared.net.Net.{Net}
use Rattle.sc_hosts.proofs.SettleLaws.{Falls, settle-ends, settle-next, settle-idle}
use Rattle.sc_hosts.specs.Runs.{after_delivery as delivered}
use Rattle.sc_hosts.specs.Nets.{with_message as put, put_reply, with_host_after as placed, host_at, is_busy, deliver_at, deliver_entry, deliver_first, weight, rank, rank_of_request, rank_of_response}
use Rattle.sc_hosts.specs.Sessions.{Form}
use Rattle.sc_hosts.specs.Inboxes.{without_answer as quiet, queue, replying}
use Rattle.sc_hosts.specs.TakingResponses.{take_provisional as told, told_by, with_reply, response_for, response_to as answer_to, take_response}
use Rattle.sc_hosts.proofs.EachSort.{by_sort}
use Rattle.sc_hosts.specs.Taking.{refuse, take_cancel as cancelled, take_repeated as repeated, again_if, last_again, with_trying, queue_later, take_new as begun, take_initial, sort_of, sort_at, taken_as, takes}
use Rattle.sc_hosts.specs.Transacting.{method_of, takes_from, is_over, state_of_client, is_answered_by, client_for, out_of_client, is_invite_client}
use Rattle.sc_model.specs.DialogRequests.{cancel}

-- texts with the same bytes are equal
pub same_bytes-equal : (a b : List ℕ) → same_bytes a b ≡ true → a ≡ b
same_bytes-equal a b same = (slice_eq-Decides Decides-eqb a b (same_bytes a b) refl).0 same

-- ## Ranks

-- the reply is of a lower rank
pub Below : ℕ → Option Reply → Type 0
Below n None = Unit {0}
Below n (Some reply) = rank reply.message < n

rank-tests : (c f : Bool) → cond c 1 (cond f 3 4) ≤ 4
rank-tests true f = omega arith
rank-tests false true = omega arith
rank-tests false false = omega arith

-- no response has a greater rank than 4
rank-response : (response : Response) → rank_of_response response ≤ 4
unfolding rank_of_response
rank-response response = rank-tests (same_bytes response.head.cseq.method cancel) (is_final response.code)

cancel-rank : (response : Response) → same_bytes response.head.cseq.method cancel ≡ true → rank_of_response response ≡ 1
unfolding rank_of_response
cancel-rank response e = rw e refl

-- ## What gives no reply, or one of two

below-quiet : {S : Type 0} (n : ℕ) (host : Host S) (count : ℕ) → Below n (quiet host count).reply
unfolding Below quiet
below-quiet n host count = tt

below-if : {S : Type 0} (n : ℕ) (b : Bool) (x y : Taken S) → Below n x.reply → Below n y.reply → Below n (cond b x y).reply
below-if n true x y p q = p
below-if n false x y p q = q

below-queue : {S : Type 0} (n serial now : ℕ) (event : Queued) (count : ℕ) (host : Host S) → Below n (queue serial now event count host).reply
unfolding queue
below-queue n serial now event count host = below-if n _ _ _ (below-quiet n _ _) (below-quiet n _ _)

below-replying : {S : Type 0} (n : ℕ) (peer : Peer) (message : Message) (taken : Taken S) → rank message < n → Below n (replying peer message taken).reply
unfolding Below
below-replying n peer message taken p = p

-- ## Answers

-- an answer has the CSeq of its request
answer-rank : (tag : Bytes) (code : ℕ) (reason : Bytes) (request : Request) → same_bytes (method_of request) cancel ≡ true
    → rank (messages.Response (own_response tag code reason request)) ≡ 1
unfolding rank own_response response_to response_head
answer-rank tag code reason request e = cancel-rank (own_response tag code reason request) e

answer-below : (n : ℕ) (tag : Bytes) (code : ℕ) (reason : Bytes) (request : Request) → 4 < n
    → rank (messages.Response (own_response tag code reason request)) < n
unfolding rank
answer-below n tag code reason request more = omega (arith, rank-response (own_response tag code reason request), more)

trying-below : (n : ℕ) (reason : Bytes) (request : Request) → 4 < n → rank (messages.Response (trying_response reason request)) < n
unfolding rank
trying-below n reason request more = omega (arith, rank-response (trying_response reason request), more)

-- ## A request that is no CANCEL and no ACK: whatever is answered is lower than 5

refuse-below : {S : Type 0} (n : ℕ) (config : Config) (from : Peer) (code : ℕ) (reason : Bytes) (request : Request) (count : ℕ) (host : Host S)
    → 4 < n → Below n (refuse config from code reason request count host).reply
unfolding refuse
refuse-below n config from code reason request count host more =
    below-if n _ _ _ (below-quiet n host count) (below-replying n from _ (quiet host count) (answer-below n _ code reason request more))

trying-taken-below : {S : Type 0} (n : ℕ) (from : Peer) (now : ℕ) (request : Request) (taken : Taken S) → 4 < n → Below n taken.reply
    → Below n (with_trying from now request taken).reply
unfolding with_trying
trying-taken-below n from now request taken more p = below-if n _ _ _ (below-replying n from _ taken (trying-below n _ request more)) p

later-below : {S : Type 0} (n : ℕ) (config : Config) (epoch number : ℕ) (from : Peer) (now : ℕ) (request : Request) (count : ℕ) (live : Live S) (host : Host S)
    → 4 < n → Below n (queue_later config (record { host = number; epoch = epoch; from = from; now = now; count = count }) request live host).reply
unfolding queue_later
later-below n config epoch number from now request count live host more =
    below-if n _ _ _ (refuse-below n config from _ _ request count host more)
    (trying-taken-below n from now request _ more (below-queue n live.serial now _ count _))

first-below : {S : Type 0} (n : ℕ) (form : Form S) (config : Config) (epoch number : ℕ) (from : Peer) (now : ℕ) (noted : Note) (request : Request) (count : ℕ) (host : Host S)
    → 4 < n → Below n (begun form config (record { host = number; epoch = epoch; from = from; now = now; count = count }) noted request host).reply
unfolding begun
first-below n form config epoch number from now noted request count host more = trying-taken-below n from now request (quiet _ _) more (below-quiet n _ _)

initial-below : {S : Type 0} (n : ℕ) (form : Form S) (config : Config) (epoch number : ℕ) (from : Peer) (now : ℕ) (noted : Option Note) (request : Request) (count : ℕ) (host : Host S)
    → 4 < n → Below n (take_initial form config (record { host = number; epoch = epoch; from = from; now = now; count = count }) noted request host).reply
unfolding take_initial
initial-below n form config epoch number from now None request count host more = refuse-below n config from _ _ request count host more
initial-below n form config epoch number from now (Some noted) request count host more =
    below-if n _ _ _ (refuse-below n config from _ _ request count host more) (first-below n form config epoch number from now noted request count host more)

last-below : {S : Type 0} (n : ℕ) (server : Server) (last : Option Response) (taken : Taken S) → 4 < n → Below n taken.reply → Below n (last_again server last taken).reply
unfolding last_again rank
last-below n server None taken more p = p
last-below n server (Some response) taken more p = below-replying n server.peer (messages.Response response) taken (omega (arith, rank-response response, more))

again-below : {S : Type 0} (n : ℕ) (b : Bool) (server : Server) (taken : Taken S) → 4 < n → Below n taken.reply → Below n (again_if b server taken).reply
unfolding again_if
again-below n true server taken more p = last-below n server server.last taken more p
again-below n false server taken more p = p

-- ## Sorts

repeated-below : {S : Type 0} (n : ℕ) (server : Server) (count : ℕ) (host : Host S) → 4 < n → Below n (repeated server count host).reply
unfolding repeated
repeated-below n server count host more = again-below n _ server (quiet _ _) more (below-quiet n _ _)

others-below : {S : Type 0} (n : ℕ) (form : Form S) (config : Config) (epoch number : ℕ) (from : Peer) (now : ℕ) (noted : Option Note) (request : Request) (found : Option Server) (named : Option (Live S)) (count : ℕ) (host : Host S)
    → same_bytes (method_of request) cancel ≡ false → 4 < n → Below n (taken_as form config (record { host = number; epoch = epoch; from = from; now = now; count = count }) noted request (sort_of request found named) host).reply
unfolding taken_as
others-below n form config epoch number from now noted request found named count host no_cancel more =
    by_sort (λ sort. Below n (taken_as form config (record { host = number; epoch = epoch; from = from; now = now; count = count }) noted request sort host).reply) request found named
    (λ server is_found is_cancel. cc) (λ server is_found is_ack. below-quiet n _ _) (λ server is_found other no_ack. repeated-below n server count host more)
    (λ live none other tagged is. later-below n config epoch number from now request count live host more)
    (λ untagged. initial-below n form config epoch number from now noted request count host more) (refuse-below n config from _ _ request count host more)

-- ## An ACK: nothing is answered

invite_is_no_ack : same_bytes ack invite ≡ false
unfolding ack invite
invite_is_no_ack = refl

not-invite : (request : Request) → same_bytes (method_of request) ack ≡ true → same_bytes (method_of request) invite ≡ false
not-invite request e = rw (same_bytes-equal (method_of request) ack e) invite_is_no_ack

refuse-ack : {S : Type 0} (n : ℕ) (config : Config) (from : Peer) (code : ℕ) (reason : Bytes) (request : Request) (count : ℕ) (host : Host S)
    → same_bytes (method_of request) ack ≡ true → Below n (refuse config from code reason request count host).reply
unfolding refuse
refuse-ack n config from code reason request count host e = rw e (below-quiet n host count)

trying-ack : {S : Type 0} (n : ℕ) (from : Peer) (now : ℕ) (request : Request) (taken : Taken S) → same_bytes (method_of request) ack ≡ true
    → Below n taken.reply → Below n (with_trying from now request taken).reply
unfolding with_trying
trying-ack n from now request taken e p = rw (not-invite request e) p

later-ack : {S : Type 0} (n : ℕ) (config : Config) (epoch number : ℕ) (from : Peer) (now : ℕ) (request : Request) (count : ℕ) (live : Live S) (host : Host S)
    → same_bytes (method_of request) ack ≡ true → Below n (queue_later config (record { host = number; epoch = epoch; from = from; now = now; count = count }) request live host).reply
unfolding queue_later
later-ack n config epoch number from now request count live host e =
    below-if n _ _ _ (refuse-ack n config from _ _ request count host e) (trying-ack n from now request _ e (below-queue n live.serial now _ count _))

first-ack : {S : Type 0} (n : ℕ) (form : Form S) (config : Config) (epoch number : ℕ) (from : Peer) (now : ℕ) (noted : Note) (request : Request) (count : ℕ) (host : Host S)
    → same_bytes (method_of request) ack ≡ true → Below n (begun form config (record { host = number; epoch = epoch; from = from; now = now; count = count }) noted request host).reply
unfolding begun
first-ack n form config epoch number from now noted request count host e = trying-ack n from now request (quiet _ _) e (below-quiet n _ _)

initial-ack : {S : Type 0} (n : ℕ) (form : Form S) (config : Config) (epoch number : ℕ) (from : Peer) (now : ℕ) (noted : Option Note) (request : Request) (count : ℕ) (host : Host S)
    → same_bytes (method_of request) ack ≡ true → Below n (take_initial form config (record { host = number; epoch = epoch; from = from; now = now; count = count }) noted request host).reply
unfolding take_initial
initial-ack n form config epoch number from now None request count host e = refuse-ack n config from _ _ request count host e
initial-ack n form config epoch number from now (Some noted) request count host e =
    below-if n _ _ _ (refuse-ack n config from _ _ request count host e) (first-ack n form config epoch number from now noted request count host e)

acks-below : {S : Type 0} (n : ℕ) (form : Form S) (config : Config) (epoch number : ℕ) (from : Peer) (now : ℕ) (noted : Option Note) (request : Request) (found : Option Server) (named : Option (Live S)) (count : ℕ) (host : Host S)
    → same_bytes (method_of request) cancel ≡ false → same_bytes (method_of request) ack ≡ true
    → Below n (taken_as form config (record { host = number; epoch = epoch; from = from; now = now; count = count }) noted request (sort_of request found named) host).reply
unfolding taken_as
acks-below n form config epoch number from now noted request found named count host no_cancel e =
    by_sort (λ sort. Below n (taken_as form config (record { host = number; epoch = epoch; from = from; now = now; count = count }) noted request sort host).reply) request found named
    (λ server is_found is_cancel. cc) (λ server is_found is_ack. below-quiet n _ _) (λ server is_found other no_ack. cc)
    (λ live none other tagged is. later-ack n config epoch number from now request count live host e)
    (λ untagged. initial-ack n form config epoch number from now noted request count host e) (refuse-ack n config from _ _ request count host e)

-- ## A CANCEL: only its answer

refuse-cancel : {S : Type 0} (config : Config) (from : Peer) (code : ℕ) (reason : Bytes) (request : Request) (count : ℕ) (host : Host S)
    → same_bytes (method_of request) cancel ≡ true → Below 2 (refuse config from code reason request count host).reply
unfolding refuse
refuse-cancel config from code reason request count host e =
    below-if 2 _ _ _ (below-quiet 2 host count)
    (below-replying 2 from _ (quiet host count) (rw (answer-rank _ code reason request e) (omega arith)))

cancelled-below : {S : Type 0} (from : Peer) (now : ℕ) (server : Server) (request : Request) (count : ℕ) (host : Host S)
    → same_bytes (method_of request) cancel ≡ true → Below 2 (cancelled from now server request count host).reply
unfolding cancelled
cancelled-below from now server request count host e = below-replying 2 from _ (quiet host count) (rw (answer-rank server.tag 200 _ request e) (omega arith))

cancels-below : {S : Type 0} (form : Form S) (config : Config) (epoch number : ℕ) (from : Peer) (now : ℕ) (noted : Option Note) (request : Request) (found : Option Server) (named : Option (Live S)) (count : ℕ) (host : Host S)
    → same_bytes (method_of request) cancel ≡ true → Below 2 (taken_as form config (record { host = number; epoch = epoch; from = from; now = now; count = count }) noted request (sort_of request found named) host).reply
unfolding sort_of taken_as
cancels-below form config epoch number from now noted request None named count host e = rw e (refuse-cancel config from _ _ request count host e)
cancels-below form config epoch number from now noted request (Some server) named count host e = rw e (cancelled-below from now server request count host e)

-- ## Each request

request-rank : (c a : Bool) (request : Request) → same_bytes (method_of request) cancel ≡ c → same_bytes (method_of request) ack ≡ a
    → rank_of_request request ≡ cond (c || a) 2 5
unfolding rank_of_request
request-rank c a request p q = rw (p, q) refl

-- what a request is answered is of a lower rank
request-by : {S : Type 0} (c a : Bool) (form : Form S) (config : Config) (epoch number : ℕ) (from : Peer) (now : ℕ) (noted : Option Note) (request : Request) (found : Option Server) (named : Option (Live S)) (count : ℕ) (host : Host S)
    → same_bytes (method_of request) cancel ≡ c → same_bytes (method_of request) ack ≡ a
    → Below (cond (c || a) 2 5) (taken_as form config (record { host = number; epoch = epoch; from = from; now = now; count = count }) noted request (sort_of request found named) host).reply
request-by true a form config epoch number from now noted request found named count host p q = cancels-below form config epoch number from now noted request found named count host p
request-by false true form config epoch number from now noted request found named count host p q = acks-below 2 form config epoch number from now noted request found named count host p q
request-by false false form config epoch number from now noted request found named count host p q =
    others-below 5 form config epoch number from now noted request found named count host p (omega arith)

pub request-below : {S : Type 0} (form : Form S) (config : Config) (epoch number : ℕ) (from : Peer) (now : ℕ) (noted : Option Note) (request : Request) (count : ℕ) (host : Host S)
    → Below (rank_of_request request) (taken_as form config (record { host = number; epoch = epoch; from = from; now = now; count = count }) noted request (sort_at config (record { host = number; epoch = epoch; from = from; now = now; count = count }) request host) host).reply
unfolding sort_at
request-below form config epoch number from now noted request count host =
    rw (request-rank (same_bytes (method_of request) cancel) (same_bytes (method_of request) ack) request refl refl)
    (request-by (same_bytes (method_of request) cancel) (same_bytes (method_of request) ack) form config epoch number from now noted request _ _ count host refl refl)

-- ## Responses

told-below : {S : Type 0} (n : ℕ) (code : Option ℕ) (now : ℕ) (client : Client) (response : Response) (count : ℕ) (host : Host S)
    → Below n (told_by code now client response count host).reply
unfolding told_by told
told-below n None now client response count host = below-quiet n host count
told-below n (Some code) now client response count host = below-if n _ _ _ (below-quiet n host count) (below-queue n client.app.serial now _ count host)

ack-rank : (request : Request) (response : Response) → rank (messages.Request (ack_of request response)) ≡ 2
unfolding rank rank_of_request ack_of kin cancel ack
ack-rank request response = refl

cancel-of-rank : (request : Request) → rank (messages.Request (cancel_of request)) ≡ 2
unfolding rank rank_of_request cancel_of kin cancel ack
cancel-of-rank request = refl

reply-below : {S : Type 0} (n : ℕ) (sends_ack sends_cancel : Bool) (out : ClientOut) (now : ℕ) (client : Client) (response : Response) (taken : Taken S)
    → out.ack ≡ sends_ack → out.cancel ≡ sends_cancel → (sends_ack ≡ true → 2 < n) → (sends_cancel ≡ true → 2 < n) → Below n taken.reply
    → Below n (with_reply out now client response taken).reply
unfolding with_reply
reply-below n true sends_cancel out now client response taken a c p q r =
    rw a (below-replying n client.peer _ taken (rw (ack-rank client.request response) (p refl)))
reply-below n false true out now client response taken a c p q r =
    rw (a, c) (below-replying n client.peer _ taken (rw (cancel-of-rank client.request) (q refl)))
reply-below n false false out now client response taken a c p q r = rw (a, c) r

pub both : (a b : Bool) → (a && b) ≡ true → (a ≡ true) × (b ≡ true)
both true true e = (refl, refl)
both true false e = cc
both false b e = cc

telling : Option ℕ → ClientOut
telling code = record { tell = code; ack = false; cancel = false }

no_ack : {P : Type 0} (b : Bool) (code other : Option ℕ) → (cond b (telling code) (telling other)).ack ≡ true → P
unfolding telling
no_ack true code other e = cc
no_ack false code other e = cc

no_cancel : {P : Type 0} (b : Bool) (code other : Option ℕ) → (cond b (telling code) (telling other)).cancel ≡ true → P
unfolding telling
no_cancel true code other e = cc
no_cancel false code other e = cc

-- an ACK goes only for a failure of an INVITE
ack-cause : (invited : Bool) (sent : ℕ) (passed : List ClientItem) (code now : ℕ) (found : Option (Found ClientItem))
    → (out_from invited sent passed (client_items.ResponseCame code now) found).ack ≡ true → (invited ≡ true) × (is_failure code ≡ true)
unfolding out_from wants_ack telling
ack-cause invited sent passed code now None e = both invited (is_failure code) e
ack-cause invited sent passed code now (Some found) e = no_ack (is_some (timer_m invited found)) _ None e

-- a CANCEL goes only with a provisional response to an INVITE
cancel-cause : (invited : Bool) (sent : ℕ) (passed : List ClientItem) (code now : ℕ) (found : Option (Found ClientItem))
    → (out_from invited sent passed (client_items.ResponseCame code now) found).cancel ≡ true → (invited ≡ true) × (is_provisional code ≡ true)
unfolding out_from lets_cancel_go telling
cancel-cause invited sent passed code now None e =
    let first : ((invited && is_none (cancel_moment passed)) ≡ true) × ((is_provisional code && has_asking passed) ≡ true) = both (invited && is_none (cancel_moment passed)) (is_provisional code && has_asking passed) e in
    ((both invited (is_none (cancel_moment passed)) first.0).0, (both (is_provisional code) (has_asking passed) first.1).0)
cancel-cause invited sent passed code now (Some found) e = no_cancel (is_some (timer_m invited found)) _ None e

some-equal : {A : Type 0} (x y : A) → Some x ≡ Some y → x ≡ y
some-equal x y e = cc

-- what is found passes the test
found-here : {A : Type 0} (test : A → Bool) (x y : A) (rest : Option A) (t : Bool) → test y ≡ t → (rest ≡ Some x → test x ≡ true)
    → cond t (Some y) rest ≡ Some x → test x ≡ true
found-here test x y rest true p later e = rw (← some-equal y x e) p
found-here test x y rest false p later e = later e

pub found-passes : {A : Type 0} (xs : List A) (test : A → Bool) (x : A) → find test xs ≡ Some x → test x ≡ true
found-passes [] test x e = cc
found-passes (y ∷ ys) test x e = found-here test x y (find test ys) (test y) refl (found-passes ys test x) e

invite_is_no_cancel : same_bytes invite cancel ≡ false
unfolding invite cancel
invite_is_no_cancel = refl

-- a failure and a provisional response are of these ranks, where they are no answer to a CANCEL
failure-rank : (response : Response) → same_bytes response.head.cseq.method cancel ≡ false → is_failure response.code ≡ true → rank_of_response response ≡ 3
unfolding rank_of_response
failure-rank response c f = rw (c, final response.code f) refl
  where
    final : (code : ℕ) → is_failure code ≡ true → is_final code ≡ true
    final code e = grind (arith, nat_tests, e)

provisional-rank : (response : Response) → same_bytes response.head.cseq.method cancel ≡ false → is_provisional response.code ≡ true → rank_of_response response ≡ 4
unfolding rank_of_response
provisional-rank response c f = rw (c, not_final (is_final response.code) f) refl
  where
    not_final : (b : Bool) → not b ≡ true → b ≡ false
    not_final true e = cc
    not_final false e = refl

-- the response to an INVITE's client is no answer to a CANCEL
of-invite : (client : Client) (response : Response) → is_invite_client client ≡ true
    → same_bytes (method_of client.request) response.head.cseq.method ≡ true → same_bytes response.head.cseq.method cancel ≡ false
of-invite client response i m =
    rw (← same_bytes-equal (method_of client.request) response.head.cseq.method m, same_bytes-equal (method_of client.request) invite i) invite_is_no_cancel

ack-above : (client : Client) (response : Response) (now : ℕ) → same_bytes (method_of client.request) response.head.cseq.method ≡ true
    → (out_of_client client (client_items.ResponseCame response.code now)).ack ≡ true → 2 < rank_of_response response
unfolding out_of_client client_out
ack-above client response now m e =
    let cause : (is_invite_client client ≡ true) × (is_failure response.code ≡ true) = ack-cause (is_invite_client client) client.sent client.passed response.code now _ e in
    rw (failure-rank response (of-invite client response cause.0 m) cause.1) (omega arith)

cancel-above : (client : Client) (response : Response) (now : ℕ) → same_bytes (method_of client.request) response.head.cseq.method ≡ true
    → (out_of_client client (client_items.ResponseCame response.code now)).cancel ≡ true → 2 < rank_of_response response
unfolding out_of_client client_out
cancel-above client response now m e =
    let cause : (is_invite_client client ≡ true) × (is_provisional response.code ≡ true) = cancel-cause (is_invite_client client) client.sent client.passed response.code now _ e in
    rw (provisional-rank response (of-invite client response cause.0 m) cause.1) (omega arith)

for-below : {S : Type 0} (now : ℕ) (client : Client) (response : Response) (count : ℕ) (host : Host S)
    → same_bytes (method_of client.request) response.head.cseq.method ≡ true → Below (rank_of_response response) (response_for now client response count host).reply
unfolding response_for
for-below now client response count host m =
    reply-below (rank_of_response response) _ _ (out_of_client client (client_items.ResponseCame response.code now)) now client response _ refl refl
    (ack-above client response now m) (cancel-above client response now m) (told-below (rank_of_response response) _ now client response count _)

third : (a b c d : Bool) → (a && b && c && d) ≡ true → c ≡ true
third a b c d e = (both (a && b) c (both (a && b && c) d e).0).1

answered-matches : (salt : Bytes) (epoch : ℕ) (from : Peer) (response : Response) (client : Client) → is_answered_by salt epoch from response client ≡ true
    → same_bytes (method_of client.request) response.head.cseq.method ≡ true
unfolding is_answered_by
answered-matches salt epoch from response client e = third (takes_from client.peer from) (not (is_over (state_of_client client))) (same_bytes (method_of client.request) response.head.cseq.method) _ e

answer-to-below : {S : Type 0} (salt : Bytes) (epoch : ℕ) (from : Peer) (now : ℕ) (found : Option Client) (response : Response) (count : ℕ) (host : Host S)
    → client_for salt epoch from response host ≡ found → Below (rank_of_response response) (answer_to now found response count host).reply
unfolding answer_to client_for
answer-to-below salt epoch from now None response count host e = below-quiet _ host count
answer-to-below salt epoch from now (Some client) response count host e =
    for-below now client response count host (answered-matches salt epoch from response client (found-passes host.clients (is_answered_by salt epoch from response) client e))

response-below : {S : Type 0} (config : Config) (epoch : ℕ) (from : Peer) (now : ℕ) (response : Response) (count : ℕ) (host : Host S)
    → Below (rank_of_response response) (take_response config epoch from now response count host).reply
unfolding take_response
response-below config epoch from now response count host = answer-to-below config.salt epoch from now _ response count host refl

-- what a message that is taken makes its host send is of a lower rank
pub takes-below : {S : Type 0} (form : Form S) (config : Config) (epoch number : ℕ) (from : Peer) (now : ℕ) (noted : Option Note) (message : Message) (count : ℕ) (host : Host S)
    → Below (rank message) (takes form config (record { host = number; epoch = epoch; from = from; now = now; count = count }) noted message host).reply
unfolding takes rank
takes-below form config epoch number from now noted (messages.Request request) count host = request-below form config epoch number from now noted request count host
takes-below form config epoch number from now noted (messages.Response response) count host = response-below config epoch from now response count host

-- ## The wire

-- the wire with the reply of a taken message
reply-weight : {S : Type 0} (sender n : ℕ) (peer : Peer) (message : Message) (net : Net S) → rank message < n → weight (put sender peer message None net) < weight net + n
unfolding put weight
reply-weight sender n (peers.Outside place) message net p = omega (arith, p)
reply-weight sender n (peers.Inside host) message net p = rw (sum_by_push (λ (entry : Entry). rank entry.message) net.wire (record { sender = sender; receiver = host; message = message; note = None })) (omega (arith, p))
reply-weight sender n peers.Nowhere message net p = omega (arith, p)

put-weight : {S : Type 0} (sender n : ℕ) (reply : Option Reply) (net : Net S) → 0 < n → Below n reply → weight (put_reply sender reply net) < weight net + n
unfolding put_reply Below
put-weight sender n None net some p = omega (arith, some)
put-weight sender n (Some reply) net some p = reply-weight sender n reply.peer reply.message net p

rank-some : (message : Message) → 0 < rank message
unfolding rank rank_of_request rank_of_response
rank-some (messages.Request request) = of_two (same_bytes (method_of request) cancel || same_bytes (method_of request) ack)
  where
    of_two : (b : Bool) → 0 < cond b 2 5
    of_two true = omega arith
    of_two false = omega arith
rank-some (messages.Response response) = of_three (same_bytes response.head.cseq.method cancel) (is_final response.code)
  where
    of_three : (c f : Bool) → 0 < cond c 1 (cond f 3 4)
    of_three true f = omega arith
    of_three false true = omega arith
    of_three false false = omega arith

placed-weight : {S : Type 0} (number n : ℕ) (taken : Taken S) (net : Net S) → 0 < n → Below n taken.reply → weight (placed number taken net) < weight net + n
unfolding placed weight
placed-weight number n taken net some p = put-weight number n taken.reply _ some p

deliver-at-weight : {S : Type 0} (form : Form S) (setup : Setup) (entry : Entry) (host : Option (Host S)) (net : Net S)
    → weight (deliver_at form setup entry host net) < weight net + rank entry.message
unfolding deliver_at
deliver-at-weight form setup entry None net = omega (arith, rank-some entry.message)
deliver-at-weight form setup entry (Some host) net =
    placed-weight entry.receiver (rank entry.message) _ net (rank-some entry.message) (takes-below form setup.config net.epoch entry.receiver _ net.moment entry.note entry.message net.count host)

wire-weight : {S : Type 0} (wire : List Entry) (net : Net S) (e : Entry) → weight (record net { wire = e ∷ wire }) ≡ rank e.message + weight (record net { wire = wire })
unfolding weight
wire-weight wire net e = sum_by-cons (λ (entry : Entry). rank entry.message) e wire

-- each delivery lowers the weight of the wire
deliver-weight : {S : Type 0} (wire : List Entry) (form : Form S) (setup : Setup) (net : Net S) → is_busy (record net { wire = wire }) ≡ true
    → weight (deliver_first form setup (record net { wire = wire })) < weight (record net { wire = wire })
unfolding deliver_first deliver_entry is_busy
deliver-weight [] form setup net e = cc
deliver-weight (e ∷ wire) form setup net busy =
    omega (arith, deliver-at-weight form setup e (host_at e.receiver net) (record net { wire = wire }), wire-weight wire net e)

pub deliveries-fall : {S : Type 0} (form : Form S) (setup : Setup) → Falls is_busy (deliver_first form setup) weight
unfolding Falls
deliveries-fall form setup net busy = deliver-weight net.wire form setup net busy

-- the wire is empty once all is delivered
pub wire-ends-empty : {S : Type 0} (form : Form S) (setup : Setup) (net : Net S) → is_busy (delivered form setup net) ≡ false
unfolding delivered
wire-ends-empty form setup net = settle-ends is_busy (deliver_first form setup) weight (deliveries-fall form setup) net

-- all deliveries are one, and then the rest
pub one-delivery : {S : Type 0} (form : Form S) (setup : Setup) (net : Net S) → is_busy net ≡ true → delivered form setup net ≡ delivered form setup (deliver_first form setup net)
unfolding delivered
one-delivery form setup net busy = settle-next is_busy (deliver_first form setup) weight (deliveries-fall form setup) net busy

-- an empty wire stays as it is
pub none-delivered : {S : Type 0} (form : Form S) (setup : Setup) (net : Net S) → is_busy net ≡ false → delivered form setup net ≡ net
unfolding delivered
none-delivered form setup net idle = settle-idle is_busy (deliver_first form setup) weight net idle
