-- What the accepted calls of a turn do beside what they leave of the view: what is sent, and what
-- the application session knows of it (RFC 3261 sections 8.1, 9.1, 12.2 and 16, JSR 289 sections 10
-- and 12).
use Rattle.std.specs.Prelude.{ℕ, ◌+◌, List, [], ◌∷◌, ◌++◌, Bool, true, ◌&&◌, Option, None, Some, is_some, option_and_then, nat_le, if◌then◌else◌, map, filter}
use Rattle.std.specs.List.{find, flat_map, fold}
use Rattle.sc_value.specs.declared.ids.Directive.{Directive}
use Rattle.sc_value.specs.declared.ids.Directive.TheVariants.{New, Continue, Reverse}
use Rattle.sc_value.specs.declared.ids.ReqId.{ReqId}
use Rattle.sc_value.specs.declared.ids.SessId.{SessId}
use Rattle.sc_value.specs.declared.message.Message.TheVariants as messages
use Rattle.sc_value.specs.declared.message.Request.{Request}
use Rattle.sc_value.specs.declared.parts.Uri.{Uri}
use Rattle.sc_tokens.specs.Names.{same_bytes}
use Rattle.sc_terms.specs.declared.settings.Config.{Config}
use Rattle.sc_terms.specs.declared.views.View.{View}
use Rattle.sc_terms.specs.declared.views.RequestView.{RequestView}
use Rattle.sc_terms.specs.declared.calls.Call.{Call}
use Rattle.sc_terms.specs.declared.calls.Call.TheVariants as calls
use Rattle.sc_terms.specs.declared.calls.CallRecord.{CallRecord}
use Rattle.sc_terms.specs.declared.calls.ProxyOptions.{ProxyOptions}
use Rattle.sc_terms.specs.declared.calls.Refusal.{Refusal}
use Rattle.sc_terms.specs.declared.inside.Inside.{Inside}
use Rattle.sc_state.specs.declared.orders.Order.{Order}
use Rattle.sc_state.specs.declared.orders.Order.TheVariants as orders
use Rattle.sc_state.specs.declared.session.Kept.{Kept}
use Rattle.sc_state.specs.declared.session.Known.{Known}
use Rattle.sc_state.specs.declared.session.Way.{Way}
use Rattle.sc_state.specs.declared.session.Way.TheVariants.{Received, Sent}
use Rattle.sc_state.specs.declared.working.Asked.{Asked}
use Rattle.sc_state.specs.declared.working.Asked.TheVariants as asked
use Rattle.sc_state.specs.declared.working.Draft.{Draft}
use Rattle.sc_state.specs.declared.working.Prepared.{Prepared}
use Rattle.sc_state.specs.declared.working.Working.{Working}
use Rattle.sc_state.specs.declared.working.Written.{Written}
use Rattle.sc_tokens.specs.Bytes.{Bytes}
use Rattle.sc_model.specs.DialogRequests.{next_request, ack_request}
use Rattle.sc_model.specs.Dialogs.{DialogState, By_self}
use Rattle.sc_model.specs.SessionStates.{invite}
use Rattle.sc_hosts.specs.Branches.{is_invite, new_proxy, with_targets, without_search}
use Rattle.sc_hosts.specs.Effects.{after_listed, first_play}
use Rattle.sc_hosts.specs.Legs.{change_leg, in_dialog, leg_of}
use Rattle.sc_hosts.specs.Looking.{request_in, same_session}
use Rattle.sc_hosts.specs.Messages.{from_here, on_branch}
use Rattle.sc_hosts.specs.Preparing.{kept_of, proxy_of}
use Rattle.sc_hosts.specs.PreparingResponses.{change_proxy}
use Rattle.sc_hosts.specs.Refusals.{awaits_ack, begun_by, refusal}
use Rattle.sc_hosts.specs.RefusalParts.{draft_in}
use Rattle.sc_hosts.specs.ViewChanges.{is_owed}
use Rattle.sc_hosts.specs.Giving.{giving, answers, answering, drafts_own, drafts_later, drafts_leg, is_written, directs, forgets}
use Rattle.sc_model.specs.BestResponses.{server_error}

-- as the calls begin
unfoldable pub starts : Prepared → Working
starts shown =
    record {
      play = first_play shown.view;
      known = shown.known;
      written = [];
      orders = shown.orders;
    }

-- ## Sending

-- the place in the router's list at which it goes on: behind that of the application session
unfoldable pub router_state : Directive → Known → Option ℕ
router_state New known = None
router_state Continue known = Some (known.order + 1)
router_state Reverse known = None

-- the branch that the next request draws; `sent` of Effects counts it
abbrev pub next_branch : Working → ℕ
next_branch working = working.play.view.counter + 1

-- the request that was sent is kept under its number
unfoldable pub keeps_sent : SessId → Request → Working → Working
keeps_sent sess request working = record working {
  known = record working.known {
    kept =
        working.known.kept
        ++ record {
          id = record { 0 = working.play.view.next_request };
          sess = sess;
          way = Sent (next_branch working);
          request = request;
        } ∷ [];
  };
}

-- an initial request leaves on a branch, and begins its SipSession; the router says where it goes
unfoldable pub sends_initial : Config → Written → SessId → Request → Working → Working
sends_initial config draft sess request working =
    let branch : ℕ = next_branch working in
    let begins : Working = record working {
      known =
          change_leg sess
          (λ leg. record leg { first = Some (record { 0 = working.play.view.next_request }) })
          working.known;
    } in
    let keeps : Working = keeps_sent sess request begins in
    giving
    (orders.Begin branch draft.directive working.known.region
    (router_state draft.directive working.known)
    (on_branch config working.play.view branch request) ∷ []) keeps

-- a request in a dialog leaves on a branch, and counts in its dialog
unfoldable pub sends_later : Config → SessId → Request → Working → Working
sends_later config sess request working =
    let branch : ℕ = next_branch working in
    let counts : Working = record working {
      known = change_leg sess (in_dialog (By_self (messages.Request request))) working.known;
    } in
    let keeps : Working = keeps_sent sess request counts in
    giving (orders.Send branch (on_branch config working.play.view branch request) ∷ []) keeps

-- the dialog of a SipSession, if there is one
unfoldable pub dialog_in : Known → SessId → Option DialogState
dialog_in known sess = option_and_then (λ leg. leg.dialog) (leg_of known sess)

-- the next request in a dialog, with the own Contact where it sets the target
unfoldable pub sends_in : Config → SessId → Inside → Option DialogState → Working → Working
sends_in config sess ask None working = working
sends_in config sess ask (Some dialog) working =
    sends_later config sess (from_here config working.play.view (next_request dialog ask)) working

-- a draft leaves as what it is
unfoldable pub sends_written : Config → Written → SessId → Asked → Working → Working
sends_written config draft sess (asked.Initial request) working =
    sends_initial config draft sess (from_here config working.play.view request) working
sends_written config draft sess (asked.Later ask) working =
    sends_in config sess ask (dialog_in working.known sess) working

-- the draft of this number is sent
unfoldable pub sends : Config → ℕ → Option Written → Option Draft → Working → Working
sends config number (Some written) (Some draft) working =
    forgets number (sends_written config written draft.sess written.asked working)
sends config number (Some written) None working = working
sends config number None draft working = working

-- ## ACK and CANCEL

-- the ACK to a 2xx, on a branch of its own, with the number of its INVITE (RFC 3261 section
-- 13.2.2.4)
unfoldable pub ack_with : Config → Bytes → Option DialogState → Option Kept → Working → Working
ack_with config body (Some dialog) (Some kept) working =
    giving
    (orders.Acknowledge
    (on_branch config working.play.view (next_branch working)
    (ack_request dialog kept.request.head.cseq.number body)) ∷ []) working
ack_with config body (Some dialog) None working = working
ack_with config body None kept working = working

-- the INVITE of lowest number whose 2xx in this SipSession waits for its ACK
unfoldable pub acknowledges : Config → SessId → Bytes → Option RequestView → Working → Working
acknowledges config sess body None working = working
acknowledges config sess body (Some request) working =
    ack_with config body (dialog_in working.known sess) (kept_of working.known request.id) working

-- the branch on which a request was sent
unfoldable pub branch_of : Way → List ℕ
branch_of (Received event) = []
branch_of (Sent branch) = branch ∷ []

-- the same for a request that may not be kept
unfoldable pub sent_branch : Option Kept → List ℕ
sent_branch None = []
sent_branch (Some kept) = branch_of kept.way

-- a CANCEL is asked for on the branch of a sent request (RFC 3261 section 9.1)
unfoldable pub cancels : Option Kept → Working → Working
cancels kept working = giving (map (λ branch. orders.Cancel branch) (sent_branch kept)) working

-- ## Proxies

-- the event of a received request, which names its server transaction
unfoldable pub event_of : Way → ℕ
event_of (Received event) = event
event_of (Sent branch) = 0

-- a request begins to be proxied, with these options
unfoldable pub proxies_first : ReqId → List Uri → ProxyOptions → Option Kept → Known → Known
proxies_first req uris how None known = known
proxies_first req uris how (Some kept) known = record known {
  proxies =
      known.proxies
      ++ with_targets uris (new_proxy req kept.sess (event_of kept.way) kept.request (Some how))
      ∷ [];
}

-- the options count where the request wasn't proxied before
unfoldable pub proxies : ReqId → List Uri → ProxyOptions → Known → Known
proxies req uris how known =
    if is_some (proxy_of known req) then change_proxy req (with_targets uris) known
    else proxies_first req uris how (kept_of known req) known

-- ## Invalidation of a SipSession

-- 500 to a received request that waits
unfoldable pub owed_answer : Config → View → Known → RequestView → List Order
owed_answer config view known request =
    answers config
    (record { code = 500; reason = server_error; fields = []; contact = []; body = [] }) view
    (kept_of known request.id) request.initial

-- numbers in their order
unfoldable pub insert_number : ℕ → List ℕ → List ℕ
insert_number n [] = n ∷ []
insert_number n (m ∷ ms) = if nat_le n m then n ∷ m ∷ ms else (m ∷ insert_number n ms)

-- numbers in rising order
unfoldable pub in_order : List ℕ → List ℕ
in_order [] = []
in_order (n ∷ ns) = insert_number n (in_order ns)

-- the branches of the INVITEs that were sent in such SipSessions
unfoldable pub invite_branches : (SessId → Bool) → Known → List ℕ
invite_branches test known =
    flat_map
    (λ kept.
    if test kept.sess && same_bytes kept.request.method invite then branch_of kept.way else [])
    known.kept
    ++ flat_map
    (λ proxy.
    if test proxy.sess && is_invite proxy then map (λ branch. branch.number) proxy.branches
    else []) known.proxies

-- 500 to what was received, in order of number, and a CANCEL to each INVITE that was sent, in order
-- of their branches
unfoldable pub goodbyes : Config → View → Known → (SessId → Bool) → List Order
goodbyes config view known test =
    flat_map (owed_answer config view known)
    (filter (λ request. test request.sess && is_owed request) view.requests)
    ++ map (λ branch. orders.CancelNow branch) (in_order (invite_branches test known))

-- a SipSession is invalidated: what waits in it is answered, its INVITEs are cancelled, and that is
-- noted
unfoldable pub invalidates : Config → SessId → Working → Working
invalidates config sess working =
    giving (goodbyes config working.play.view working.known (same_session sess)) (record working {
      known = change_leg sess (λ leg. record leg { invalidated = true }) working.known;
    })

-- ## Each call

-- what an accepted call does beside what it leaves of the view; most do nothing more
unfoldable pub effects_of_call : Config → Working → Call → Working
effects_of_call config working (calls.Respond req answer) =
    answering config (request_in working.play.view req) answer working
effects_of_call config working (calls.CreateRequest ask) = drafts_own ask working
effects_of_call config working (calls.CreateInDialog sess ask) = drafts_later ask working
effects_of_call config working (calls.B2bCreate req uri) =
    drafts_leg req uri (kept_of working.known req) working
effects_of_call config working (calls.SetDirective draft directive origin) =
    directs draft directive origin working
effects_of_call config working (calls.Send draft) =
    sends config draft (find (is_written draft) working.written) (draft_in working.play draft)
    working
effects_of_call config working (calls.Discard draft) = forgets draft working
effects_of_call config working (calls.Ack sess body) =
    acknowledges config sess body (find (awaits_ack sess) working.play.view.requests) working
effects_of_call config working (calls.Cancel req) = cancels (kept_of working.known req) working
effects_of_call config working (calls.ProxyTo req uris how) =
    record working { known = proxies req uris how working.known }
effects_of_call config working (calls.ProxyCancel req) =
    record working { known = change_proxy req without_search working.known }
effects_of_call config working (calls.B2bRespond sess answer) =
    answering config (begun_by working.play.view sess) answer working
effects_of_call config working (calls.Link a b) = working
effects_of_call config working (calls.Unlink a) = working
effects_of_call config working (calls.StartTimer delay period info) = working
effects_of_call config working (calls.CancelTimer id) = working
effects_of_call config working (calls.SetAttribute name value) = working
effects_of_call config working (calls.RemoveAttribute name) = working
effects_of_call config working (calls.SetExpires minutes) = working
effects_of_call config working (calls.SetReadyFlag target flag) = working
effects_of_call config working (calls.InvalidateSession sess) = invalidates config sess working
effects_of_call config working calls.InvalidateApplication = working

-- a refused call does nothing
unfoldable pub does_by : Config → Working → Call → Option Refusal → Working
does_by config working call None = effects_of_call config working call
does_by config working call (Some refused) = working

-- after one call more
unfoldable pub after_one_call : Config → Working → Call → Working
after_one_call config working call =
    record (does_by config working call (refusal working.play call)) {
      play = after_listed working.play call;
    }

-- after all calls of a turn, in their order
unfoldable pub worked_all : Config → Prepared → List CallRecord → Working
worked_all config shown made =
    fold (λ working made. after_one_call config working made.call) (starts shown) made
