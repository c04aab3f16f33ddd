-- What an accepted call leaves of the view and the drafts of its turn (JSR 289 sections 6, 10 and
-- 12).
use Rattle.std.specs.Prelude.{ℕ, ◌+◌, ◌-◌, ◌==◌, List, [], ◌∷◌, ◌++◌, Bool, true, false, Option, None, Some, if◌then◌else◌, length}
use Rattle.std.specs.List.{fold}
use Rattle.sc_value.specs.declared.ids.SessId.{SessId}
use Rattle.sc_value.specs.declared.parts.Field.{Field}
use Rattle.sc_value.specs.Lists.{change_first, remove_first}
use Rattle.sc_tokens.specs.Names.{same_bytes}
use Rattle.sc_terms.specs.declared.views.View.{View}
use Rattle.sc_terms.specs.declared.views.RequestView.{RequestView}
use Rattle.sc_terms.specs.declared.views.SessionView.{SessionView}
use Rattle.sc_terms.specs.declared.views.Period.{Period}
use Rattle.sc_terms.specs.declared.views.Role.TheVariants as roles
use Rattle.sc_terms.specs.declared.calls.Ask.{Ask}
use Rattle.sc_terms.specs.declared.calls.Call.{Call}
use Rattle.sc_terms.specs.declared.calls.Call.TheVariants as calls
use Rattle.sc_terms.specs.declared.calls.CallAnswer.{CallAnswer}
use Rattle.sc_terms.specs.declared.calls.CallAnswer.TheVariants as answers
use Rattle.sc_terms.specs.declared.calls.CallRecord.{CallRecord}
use Rattle.sc_terms.specs.declared.calls.Refusal.{Refusal}
use Rattle.sc_terms.specs.declared.calls.Target.{Target}
use Rattle.sc_terms.specs.declared.calls.Target.TheVariants as targets
use Rattle.sc_terms.specs.declared.inside.Inside.{Inside}
use Rattle.sc_state.specs.declared.working.Draft.{Draft}
use Rattle.sc_state.specs.declared.working.Play.{Play}
use Rattle.sc_tokens.specs.Bytes.{Bytes}
use Rattle.sc_model.specs.Settings.{moment_after}
use Rattle.sc_hosts.specs.Looking.{change_request, change_session, is_proxy, is_timer, request_in, same_session, without_link, without_sip_session}
use Rattle.sc_hosts.specs.RefusalParts.{draft_in}
use Rattle.sc_hosts.specs.Refusals.{awaits_ack, begun_by, is_set, refusal}
use Rattle.sc_hosts.specs.States.{ends_subscription}
use Rattle.sc_hosts.specs.ViewChanges.{new_session, tidy, view_with_answer, view_without, with_link, with_own_session}

-- ## Drafts

-- a draft more, numbered on within the turn
unfoldable pub with_draft : Bytes → ℕ → Bool → Bool → SessId → Play → Play
with_draft method hops initial ends sess play = record play {
  drafts =
      play.drafts
      ++ record {
        number = play.drafted + 1;
        sess = sess;
        initial = initial;
        method = method;
        hops = hops;
        ends = ends;
      } ∷ [];
  drafted = play.drafted + 1;
}

-- the turn with another view
abbrev pub with_view : View → Play → Play
with_view view play = record play { view = view }

-- an initial request of one's own is drafted, in a SipSession of its own
unfoldable pub play_with_initial : Ask → Play → Play
play_with_initial ask play =
    with_draft ask.method 70 true (ends_subscription ask.method ask.fields) (new_session play.view)
    (with_view (with_own_session play.view) play)

-- a request in the dialog of a SipSession is drafted
unfoldable pub created_later : SessId → Inside → Play → Play
created_later sess ask play =
    with_draft ask.method 70 false (ends_subscription ask.method ask.fields) sess play

-- the second leg of a received request is drafted: its SipSession is linked, and it has a hop less
unfoldable pub created_leg : Option RequestView → Play → Play
created_leg None play = play
created_leg (Some request) play =
    with_draft request.method (request.hops - 1) true request.ends (new_session play.view)
    (with_view (with_link request.sess (new_session play.view) (with_own_session play.view)) play)

-- the draft as a request that was sent
unfoldable pub sent_view : View → Draft → RequestView
sent_view view draft = record {
  id = record { 0 = view.next_request };
  sess = draft.sess;
  method = draft.method;
  received = false;
  initial = draft.initial;
  hops = draft.hops;
  answered = None;
  proxied = false;
  branches = 0;
  unacked = [];
  ends = draft.ends;
}

-- the turn without the draft of this number
abbrev pub without_draft : ℕ → Play → Play
without_draft number play =
    record play { drafts = remove_first (λ draft. draft.number == number) play.drafts }

-- a request is sent: it gets its number and draws its branch
unfoldable pub play_with_request : ℕ → Option Draft → Play → Play
play_with_request number None play = play
play_with_request number (Some draft) play = without_draft number (with_view (record play.view {
  requests = play.view.requests ++ sent_view play.view draft ∷ [];
  next_request = play.view.next_request + 1;
  counter = play.view.counter + 1;
}) play)

-- an initial draft that is dropped takes its SipSession with it
unfoldable pub play_without_draft : ℕ → Option Draft → Play → Play
play_without_draft number None play = play
play_without_draft number (Some draft) play =
    without_draft number
    (if draft.initial then with_view (tidy (without_sip_session draft.sess play.view)) play
    else play)

-- ## ACK

-- a sent INVITE whose 2xx in this SipSession is acknowledged
unfoldable pub without_session : SessId → RequestView → RequestView
without_session sess request =
    record request { unacked = remove_first (same_session sess) request.unacked }

-- the ACK of the sent INVITE of lowest number draws its branch
unfoldable pub view_with_ack : SessId → View → View
view_with_ack sess view =
    tidy
    (record view {
      requests = change_first (awaits_ack sess) (without_session sess) view.requests;
      counter = view.counter + 1;
    })

-- ## Proxies

-- the request is proxied, to so many targets more
unfoldable pub proxied_request : ℕ → RequestView → RequestView
proxied_request count request =
    record request { proxied = true; branches = request.branches + count }

-- the SipSession then waits for the tag of the callee
unfoldable pub proxying : SessionView → SessionView
proxying session =
    if is_proxy session.role then session
    else record session { role = roles.Proxy; peer_tag = None }

-- the view once a received request is proxied to so many targets
unfoldable pub view_with_targets : Option RequestView → ℕ → View → View
view_with_targets None count view = view
view_with_targets (Some request) count view =
    change_session request.sess proxying (change_request request.id (proxied_request count) view)

-- ## Timers, attributes, flags

-- a timer more, due after so many milliseconds
unfoldable pub with_timer : ℕ → Period → Bytes → View → View
with_timer delay period info view = record view {
  timers =
      view.timers
      ++ record {
        id = record { 0 = view.next_timer };
        due = view.now + delay;
        period = period;
        info = info;
      } ∷ [];
  next_timer = view.next_timer + 1;
}

-- an attribute that is set again keeps its place
unfoldable pub with_attribute : Bytes → Bytes → List Field → List Field
with_attribute name value fields =
    if is_set name fields
    then change_first (λ field. same_bytes field.name name)
    (λ field. record field { value = value }) fields
    else fields ++ record { name = name; value = value } ∷ []

-- the application session, or a SipSession, goes away by itself once ready, or doesn't
unfoldable pub with_invalidation_flag : Target → Bool → View → View
with_invalidation_flag targets.Application flag view = record view { ready_flag = flag }
with_invalidation_flag (targets.Session sess) flag view =
    change_session sess (λ session. record session { ready_flag = flag }) view

-- ## Each call

-- what is left of the view and the drafts after an accepted call
unfoldable pub after_call : Play → Call → Play
after_call play (calls.Respond req answer) =
    with_view (view_with_answer (request_in play.view req) answer.code play.view) play
after_call play (calls.CreateRequest ask) = play_with_initial ask play
after_call play (calls.CreateInDialog sess ask) = created_later sess ask play
after_call play (calls.B2bCreate req uri) = created_leg (request_in play.view req) play
after_call play (calls.SetDirective draft directive origin) = play
after_call play (calls.Send draft) = play_with_request draft (draft_in play draft) play
after_call play (calls.Discard draft) = play_without_draft draft (draft_in play draft) play
after_call play (calls.Ack sess body) = with_view (view_with_ack sess play.view) play
after_call play (calls.Cancel req) = play
after_call play (calls.ProxyTo req uris how) =
    with_view (view_with_targets (request_in play.view req) (length uris) play.view) play
after_call play (calls.ProxyCancel req) = play
after_call play (calls.B2bRespond sess answer) =
    with_view (view_with_answer (begun_by play.view sess) answer.code play.view) play
after_call play (calls.Link a b) = with_view (with_link a b play.view) play
after_call play (calls.Unlink a) = with_view (without_link a play.view) play
after_call play (calls.StartTimer delay period info) =
    with_view (with_timer delay period info play.view) play
after_call play (calls.CancelTimer id) =
    with_view (record play.view { timers = remove_first (is_timer id) play.view.timers }) play
after_call play (calls.SetAttribute name value) =
    with_view (record play.view { attributes = with_attribute name value play.view.attributes })
    play
after_call play (calls.RemoveAttribute name) =
    with_view
    (record play.view {
      attributes = remove_first (λ field. same_bytes field.name name) play.view.attributes;
    }) play
after_call play (calls.SetExpires minutes) =
    with_view (record play.view { expires = moment_after play.view.now minutes }) play
after_call play (calls.SetReadyFlag target flag) =
    with_view (with_invalidation_flag target flag play.view) play
after_call play (calls.InvalidateSession sess) = with_view (view_without sess play.view) play
after_call play calls.InvalidateApplication = record play { ended = true }

-- ## What a call answers

-- what an accepted call answers: the number of what it made, where it made something
unfoldable pub answer_to_call : Play → Call → CallAnswer
answer_to_call play (calls.Respond req answer) = answers.Fine
answer_to_call play (calls.CreateRequest ask) = answers.Number (play.drafted + 1)
answer_to_call play (calls.CreateInDialog sess ask) = answers.Number (play.drafted + 1)
answer_to_call play (calls.B2bCreate req uri) = answers.Number (play.drafted + 1)
answer_to_call play (calls.SetDirective draft directive origin) = answers.Fine
answer_to_call play (calls.Send draft) = answers.Number play.view.next_request
answer_to_call play (calls.Discard draft) = answers.Fine
answer_to_call play (calls.Ack sess body) = answers.Fine
answer_to_call play (calls.Cancel req) = answers.Fine
answer_to_call play (calls.ProxyTo req uris how) = answers.Fine
answer_to_call play (calls.ProxyCancel req) = answers.Fine
answer_to_call play (calls.B2bRespond sess answer) = answers.Fine
answer_to_call play (calls.Link a b) = answers.Fine
answer_to_call play (calls.Unlink a) = answers.Fine
answer_to_call play (calls.StartTimer delay period info) = answers.Number play.view.next_timer
answer_to_call play (calls.CancelTimer id) = answers.Fine
answer_to_call play (calls.SetAttribute name value) = answers.Fine
answer_to_call play (calls.RemoveAttribute name) = answers.Fine
answer_to_call play (calls.SetExpires minutes) = answers.Fine
answer_to_call play (calls.SetReadyFlag target flag) = answers.Fine
answer_to_call play (calls.InvalidateSession sess) = answers.Fine
answer_to_call play calls.InvalidateApplication = answers.Fine

-- the answer of an accepted call, or the refusal
unfoldable pub answer_by : Play → Call → Option Refusal → CallAnswer
answer_by play call None = answer_to_call play call
answer_by play call (Some refused) = answers.Refused refused

-- the answer that a call lists
unfoldable pub answer_of : Play → Call → CallAnswer
answer_of play call = answer_by play call (refusal play call)

-- a refused call changes nothing
unfoldable pub played_by : Play → Call → Option Refusal → Play
played_by play call None = after_call play call
played_by play call (Some refused) = play

-- the play after a call, accepted or refused: it is listed
unfoldable pub after_listed : Play → Call → Play
after_listed play call =
    let after = played_by play call (refusal play call) in
    record after { listed = after.listed + 1 }

-- as a turn begins
unfoldable pub first_play : View → Play
first_play view = record { view = view; drafts = []; drafted = 0; listed = 0; ended = false }

-- the play after all calls of a list, in their order
unfoldable pub after_calls : View → List CallRecord → Play
after_calls view made = fold (λ play made. after_listed play made.call) (first_play view) made
