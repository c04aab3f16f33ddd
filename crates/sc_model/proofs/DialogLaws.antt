-- What a further message makes of the state of a dialog: the new state, computed from the old one alone,
-- is that of the list with the message as its newest.
use Rattle.std.proofs.Common.{◌≡◌, ℕ, ◌+◌, ◌≤◌, Option, None, Some, List, [], ◌∷◌, refl, ap, sym, ◌∙◌, arith, unwrap_or, slice_get, max, reverse}
use Rattle.std.proofs.Math.Nat.{max-zero}
use Rattle.std.specs.List.{cons_option}
use Rattle.sc_value.specs.declared.parts.Uri.{Uri}
use Rattle.sc_value.specs.declared.message.Request.{Request}
use Rattle.sc_value.specs.declared.message.Response.{Response}
use Rattle.sc_value.specs.declared.message.Message.TheVariants as messages
use Rattle.sc_terms.specs.declared.inside.Inside.{Inside}
use Rattle.sc_model.specs.Dialogs.{Beginning, Beginning.Called, Beginning.Calling, Passed, Passed.By_peer, Passed.By_self, DialogState, dialog_of, messages_of, begun_by, target_of, given_target, request_target, response_target, greatest, Follows, bare, tag_of, local_of, remote_of, route_set_of}
use Rattle.sc_model.specs.DialogRequests.{next_request, later_request, later_head, ack_request}
use Rattle.sc_tokens.specs.Bytes.{Bytes}

first_given : (o : Option Uri) (earlier : List Uri) (uri : Uri) → unwrap_or (slice_get (cons_option o earlier) 0) uri ≡ unwrap_or o (unwrap_or (slice_get earlier 0) uri)
first_given None earlier uri = refl
first_given (Some new) earlier uri = refl

-- the target that the newest message gives, else the one before it
target_passed : (beginning : Beginning) (message : Passed) (passed : List Passed) → target_of beginning (message ∷ passed) ≡ unwrap_or (given_target (begun_by beginning) message) (target_of beginning passed)
unfolding target_of
target_passed beginning message passed = first_given (given_target (begun_by beginning) message) _ _

request_passed : (beginning : Beginning) (later : List Passed) (request : Request) → dialog_of beginning (By_peer (messages.Request request) ∷ later)
    ≡ record (dialog_of beginning later) {
      target = unwrap_or (request_target request) (dialog_of beginning later).target;
      received = max request.head.cseq.number (dialog_of beginning later).received;
    }
unfolding dialog_of given_target greatest
request_passed beginning later request =
    let received = max request.head.cseq.number (dialog_of beginning later).received in
    ap (λ target. record (dialog_of beginning later) { target = target; received = received }) (target_passed beginning (By_peer (messages.Request request)) (messages_of beginning later))

response_passed : (beginning : Beginning) (later : List Passed) (response : Response) → dialog_of beginning (By_peer (messages.Response response) ∷ later)
    ≡ record (dialog_of beginning later) { target = unwrap_or (response_target (dialog_of beginning later).begun_by response) (dialog_of beginning later).target }
unfolding dialog_of given_target
response_passed beginning later response =
    ap (λ target. record (dialog_of beginning later) { target = target }) (target_passed beginning (By_peer (messages.Response response)) (messages_of beginning later))

sent_passed : (beginning : Beginning) (later : List Passed) (request : Request) → dialog_of beginning (By_self (messages.Request request) ∷ later)
    ≡ record (dialog_of beginning later) { sent = max request.head.cseq.number (dialog_of beginning later).sent }
unfolding dialog_of given_target greatest
sent_passed beginning later request =
    let sent = max request.head.cseq.number (dialog_of beginning later).sent in
    ap (λ target. record (dialog_of beginning later) { target = target; sent = sent }) (target_passed beginning (By_self (messages.Request request)) (messages_of beginning later))

greater : (n m : ℕ) → m ≤ n → max n m ≡ n
greater n m le = omega (arith, le)

-- a request of the peer whose number isn't lower than the greatest received
pub follows_request : (old new : DialogState) (request : Request) → old.received ≤ request.head.cseq.number
    → new ≡ record old { target = unwrap_or (request_target request) old.target; received = request.head.cseq.number }
    → Follows old (By_peer (messages.Request request)) new
unfolding Follows
follows_request old new request le is beginning later stands =
    let number = request.head.cseq.number in
    let same : new ≡ record old { target = unwrap_or (request_target request) old.target; received = max number old.received } =
    is ∙ ap (λ n. record old { target = unwrap_or (request_target request) old.target; received = n }) (sym (greater number old.received le)) in
    same ∙ (ap (λ (d : DialogState). record d { target = unwrap_or (request_target request) d.target; received = max number d.received }) stands ∙ sym (request_passed beginning later request))

-- a response of the peer
pub follows_response : (old new : DialogState) (response : Response)
    → new ≡ record old { target = unwrap_or (response_target old.begun_by response) old.target }
    → Follows old (By_peer (messages.Response response)) new
unfolding Follows
follows_response old new response is beginning later stands =
    is ∙ (ap (λ (d : DialogState). record d { target = unwrap_or (response_target d.begun_by response) d.target }) stands ∙ sym (response_passed beginning later response))

-- an own request whose number is one above the greatest sent
pub follows_sent : (old new : DialogState) (request : Request) → request.head.cseq.number ≡ old.sent + 1 → new ≡ record old { sent = old.sent + 1 }
    → Follows old (By_self (messages.Request request)) new
unfolding Follows
follows_sent old new request number is beginning later stands =
    let same : new ≡ record old { sent = max request.head.cseq.number old.sent } =
    is ∙ ap (λ n. record old { sent = n }) (omega (arith, number)) in
    same ∙ (ap (λ (d : DialogState). record d { sent = max request.head.cseq.number d.sent }) stands ∙ sym (sent_passed beginning later request))

-- the next request of the dialog, as it is sent
pub follows_next : (old new : DialogState) (ask : Inside) → new ≡ record old { sent = old.sent + 1 } → Follows old (By_self (messages.Request (next_request old ask))) new
unfolding next_request later_request later_head
follows_next old new ask is = follows_sent old new (next_request old ask) refl is

-- an ACK of a number that was sent leaves the state as it is
pub follows_ack : (state : DialogState) (number : ℕ) (body : Bytes) → number ≤ state.sent → Follows state (By_self (messages.Request (ack_request state number body))) state
unfolding ack_request later_request later_head Follows
follows_ack state number body le beginning later stands =
    let same : state ≡ record state { sent = max number state.sent } = ap (λ n. record state { sent = n }) (omega (arith, le)) in
    same ∙ (ap (λ (d : DialogState). record d { sent = max number d.sent }) stands ∙ sym (sent_passed beginning later (ack_request state number body)))

-- an own response leaves the state as it is
pub follows_own_response : (state : DialogState) (response : Response) → Follows state (By_self (messages.Response response)) state
unfolding Follows dialog_of given_target
follows_own_response state response beginning later stands =
    stands ∙ ap (λ target. record (dialog_of beginning later) { target = target }) (sym (target_passed beginning (By_self (messages.Response response)) (messages_of beginning later)))

-- ## How a dialog begins

-- on the called side
pub called_dialog : (tag : Bytes) (first : Request) → dialog_of (Called tag first) [] ≡ record {
  call_id = first.head.call_id;
  local = bare first.head.to.uri (Some tag);
  remote = bare first.head.from.uri (tag_of first.head.from);
  route_set = first.head.record_route;
  target = unwrap_or (request_target first) first.head.from.uri;
  sent = 0;
  received = first.head.cseq.number;
  begun_by = None;
}
unfolding dialog_of target_of given_target greatest local_of remote_of route_set_of
called_dialog tag first =
    let target = first_given (request_target first) [] first.head.from.uri in
    rw (target, max-zero first.head.cseq.number) refl

-- on the calling side
pub calling_dialog : (first : Request) (made : Response) → dialog_of (Calling first made) [] ≡ record {
  call_id = first.head.call_id;
  local = bare first.head.from.uri (tag_of first.head.from);
  remote = bare first.head.to.uri (tag_of made.head.to);
  route_set = reverse made.head.record_route;
  target = unwrap_or (response_target (Some first.head.cseq) made) first.uri;
  sent = first.head.cseq.number;
  received = 0;
  begun_by = Some first.head.cseq;
}
unfolding dialog_of target_of given_target greatest local_of remote_of route_set_of
calling_dialog first made =
    let target = first_given (response_target (Some first.head.cseq) made) [] first.uri in
    rw (target, max-zero first.head.cseq.number) refl
