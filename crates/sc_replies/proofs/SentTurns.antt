-- What each turn of a history answers it gives to send.
use Rattle.std.proofs.Common.{◌≡◌, ℕ, ◌++◌, Bool, true, false, Option, None, Some, List, [], ◌∷◌, refl, sym, ap, ◌∙◌, subst, append_assoc, append-nil}
use Rattle.std.specs.Prelude.{◌&&◌, cond, is_none, not}
use Rattle.std.specs.List.{find}
use Rattle.sc_tokens.specs.Names.{same_bytes}
use Rattle.sc_value.specs.declared.ids.AppId.{AppId}
use Rattle.sc_value.specs.declared.ids.ReqId.{ReqId}
use Rattle.sc_value.specs.declared.ids.SessId.{SessId}
use Rattle.sc_value.specs.declared.message.Request.{Request}
use Rattle.sc_terms.specs.declared.events.Event.TheVariants as events
use Rattle.sc_terms.specs.declared.settings.Config.{Config}
use Rattle.sc_terms.specs.declared.steps.Step.{Step}
use Rattle.sc_terms.specs.declared.views.RequestView.{RequestView}
use Rattle.sc_terms.specs.declared.views.SessionView.{SessionView}
use Rattle.sc_parts.specs.declared.setup.Setup.{Setup}
use Rattle.sc_state.specs.declared.host.Live.{Live}
use Rattle.sc_state.specs.declared.orders.Order.{Order}
use Rattle.sc_state.specs.declared.orders.Order.TheVariants as orders
use Rattle.sc_state.specs.declared.queue.Queued.{Queued}
use Rattle.sc_state.specs.declared.queue.Queued.TheVariants as queued
use Rattle.sc_state.specs.declared.session.Invited.{Invited}
use Rattle.sc_state.specs.declared.session.Kept.{Kept}
use Rattle.sc_state.specs.declared.session.Session.{Session}
use Rattle.sc_state.specs.declared.working.Prepared.{Prepared}
use Rattle.sc_model.specs.BestResponses.{server_error}
use Rattle.sc_model.specs.SessionStates.{ack}
use Rattle.sc_hosts.specs.Acting.{drafts_ended}
use Rattle.sc_hosts.specs.Effects.{first_play as begun}
use Rattle.sc_hosts.specs.Finishing.{after_all_calls as finished, outcome, outcome_of}
use Rattle.sc_hosts.specs.Histories.{History, as_history, as_session, session_after}
use Rattle.sc_hosts.specs.Legs.{is_low, leg_of, session_for}
use Rattle.sc_hosts.specs.Looking.{is_request, request_in, session_in}
use Rattle.sc_hosts.specs.Preparing.{cancelled_proxy, cancelled_request, is_invited, kept_of, own_tag_of, prepared_session as prepared, prepared_cancel, prepared_for, proxy_of, prepared_end as terminated}
use Rattle.sc_hosts.specs.PreparingRequests.{next_id, prepared_request, with_received_request as received, refusal_orders as refused, showing_in, silent, prepared_for_request as taken, taken_in, too_low}
use Rattle.sc_hosts.specs.Runs.{IsLawful, net_from as chained}
use Rattle.sc_hosts.specs.Sessions.{Turn}
use Rattle.sc_hosts.specs.Steps.{live_at}
use Rattle.sc_hosts.specs.Words.{request_terminated}
use Rattle.sc_hosts.specs.Working.{starts, worked_all}
use Rattle.sc_lived.specs.Lived.{turns_in as told}
use Rattle.sc_lived.proofs.Sayings.{session-lived}
use Rattle.sc_answered.specs.Happened.{Happened, answer_to, asked_of, at_moment, called_by, by_cancel as cancelled, cancelled_in, by_calls as given, happened_by, by_event as heard, shown_by, too_low as told_low, too_low_in}
use Rattle.sc_lasting.proofs.Began.{same-number, test-found}
use Rattle.sc_lasting.proofs.Parts.{all-found}
use Rattle.sc_replies.specs.Came.{AreAsTheyCame, Came, IsInvitedAsCame, came_by_event as brought, brought_by, came_of}
use Rattle.sc_replies.specs.Replies.{AreGiven, GaveAll, HasGivenAll, answered_first, came, gave, orders_of, replies}
use Rattle.sc_replies.proofs.Brought.{InvitedFits, by-turn}
use Rattle.sc_replies.proofs.Fine.{FineAt, FineShown, among-has, brought-is, calls-fine, lives-fine, shown-fine}
use Rattle.sc_replies.proofs.KeptAsCame.{life-keeps, more-came}
use Rattle.sc_replies.proofs.ShownCame.{HasCome, last-has}
use Rattle.sc_replies.proofs.OwedCalls.{InTurn, calls-hold}
use Rattle.sc_replies.proofs.OwedEnds.{lives-hold, started-holds}
use Rattle.sc_replies.proofs.OwedShown.{At}
use Rattle.sc_replies.proofs.Sent.{Sends, if-sends, one-given, own-code, own-tagged, sends-any, sends-then}
use Rattle.sc_replies.proofs.SentCalls.{calls-send}
use Rattle.sc_replies.proofs.SentEnds.{called-sends, found-brought}

abbrev orders_in : Prepared → List Order
orders_in shown = shown.orders

-- ## What the container answers first

not-ack : (is_ack late : Bool) → (not is_ack && late) ≡ true → is_ack ≡ false
not-ack true late is = cc
not-ack false late is = refl

refused-given : (came : List Came) (found : Option RequestView) (x : Session) (number : ℕ) (request : Request) → same_bytes request.method ack ≡ false
    → ((shown : RequestView) → found ≡ Some shown → brought_by came shown.id ≡ Some number)
    → Sends came (answer_to x.view found 500) [] (refused number 500 server_error request)
unfolding refused answer_to AreGiven
refused-given came None x number request is by = sends-any came _
refused-given came (Some shown) x number request is by = rw is (record {
  more = orders.Respond number _ ∷ [];
  is = refl;
  given = one-given came (session_in x.view shown.sess) (asked_of shown) true 500 number _ (own-code [] 500 server_error request) (own-tagged [] 500 server_error request) (by shown refl);
})

-- the request that comes is this one
abbrev BringsNext : List Came → Session → ℕ → Type 0
BringsNext came x number = (req : ReqId) → req.0 ≡ x.view.next_request → brought_by came req ≡ Some number

low-sends : (came : List Came) (x : Session) (number : ℕ) (sess : SessId) (request : Request) → BringsNext came x number → is_low (leg_of x.known sess) request ≡ true
    → Sends came (answer_to (received x number sess false false request).view (request_in (received x number sess false false request).view (next_id x)) 500) [] (too_low x number sess request).orders
unfolding too_low silent is_low
low-sends came x number sess request new low =
    let after : Session = received x number sess false false request in
    refused-given came (request_in after.view (next_id x)) after number request (not-ack (same_bytes request.method ack) _ low)
    (λ shown found. new shown.id (same-number shown.id.0 x.view.next_request (test-found (is_request (next_id x)) after.view.requests shown found)))

in-sends : (came : List Came) (x : Session) (number : ℕ) (sess : SessId) (found : Option SessionView) (request : Request) → BringsNext came x number → Sends came (too_low_in x number sess found request) [] (taken_in x number sess found request).orders
unfolding too_low_in taken_in
in-sends came x number sess None request new = sends-any came _
in-sends came x number sess (Some found) request new =
    if-sends came orders_in (is_low (leg_of x.known sess) request) [] _ [] (too_low x number sess request) (taken x number found request) (λ low. low-sends came x number sess request new low) (λ not. sends-any came _)

request-sends : (came : List Came) (x : Session) (number : ℕ) (request : Request) (sess : Option SessId) → BringsNext came x number → Sends came (told_low x number request sess) [] (prepared_request x number request sess).orders
unfolding told_low prepared_request
request-sends came x number request None new = sends-any came _
request-sends came x number request (Some sess) new = in-sends came x number sess (session_in x.view sess) request new

ended-sends : (came : List Came) (x : Session) (invited : Invited) (request : RequestView) (kept : Kept) → brought_by came request.id ≡ Some invited.event → Sends came (answer_to x.view (Some request) 487) [] (terminated x invited request (Some kept)).orders
unfolding terminated showing_in answer_to
ended-sends came x invited request kept by = record {
  more = orders.Respond invited.event _ ∷ [];
  is = refl;
  given = one-given came (session_in x.view request.sess) (asked_of request) true 487 invited.event _
      (own-code (own_tag_of x.view invited.sess) 487 request_terminated kept.request) (own-tagged (own_tag_of x.view invited.sess) 487 request_terminated kept.request) by;
}

by-answer : (came : List Came) (b : Bool) (x : Session) (invited : Invited) (kept : Kept) (request : RequestView) → brought_by came request.id ≡ Some invited.event
    → Sends came (cond b (answer_to x.view (Some request) 487) []) [] (cond b (terminated x invited request (Some kept)) (showing_in x invited.sess (events.Cancelled invited.req invited.sess) (Some invited.req) [])).orders
by-answer came true x invited kept request by = ended-sends came x invited request kept by
by-answer came false x invited kept request by = sends-any came _

by-proxy : (came : List Came) (b : Bool) (x : Session) (new : List Happened) (y z : Prepared) → Sends came new [] z.orders → Sends came (cond b [] new) [] (cond b y z).orders
by-proxy came true x new y z p = sends-any came y.orders
by-proxy came false x new y z p = p

open-sends : (came : List Came) (x : Session) (invited : Invited) (kept : Kept) (request : RequestView) → kept_of x.known invited.req ≡ Some kept → brought_by came request.id ≡ Some invited.event
    → Sends came (cond request.proxied [] (cond (is_none request.answered) (answer_to x.view (Some request) 487) [])) [] (cancelled_request x invited (Some request)).orders
unfolding cancelled_request
open-sends came x invited kept request is by =
    rw is (by-proxy came request.proxied x _ (cancelled_proxy x invited (proxy_of x.known invited.req)) _ (by-answer came (is_none request.answered) x invited kept request by))

cancelled-sends : (came : List Came) (x : Session) (invited : Invited) (found : Option Kept) (request : Option RequestView) → kept_of x.known invited.req ≡ found
    → ((r : RequestView) → request ≡ Some r → brought_by came r.id ≡ Some invited.event)
    → Sends came (cancelled_in x found request) [] (cancelled_request x invited request).orders
unfolding cancelled_in
cancelled-sends came x invited None request is by = sends-any came _
cancelled-sends came x invited (Some kept) None is by = sends-any came _
cancelled-sends came x invited (Some kept) (Some request) is by = open-sends came x invited kept request is (by request refl)

-- an INVITE that can be cancelled came
invited-has : (came : List Came) (invited : Invited) → IsInvitedAsCame came invited → HasCome came invited.req.0
unfolding IsInvitedAsCame
invited-has came invited is = among-has (record { id = invited.req; event = invited.event; request = is.0 }) came is.1

cancel-sends : (came : List Came) (x : Session) (test : Invited → Bool) (found : Option Invited) → find test x.known.invited ≡ found → FineAt came x → AreAsTheyCame came x.known → Sends came (cancelled x found) [] (prepared_cancel x found).orders
unfolding cancelled prepared_cancel
cancel-sends came x test None is fit as_came = sends-any _ _
cancel-sends came x test (Some invited) is fit as_came =
    let fits : InvitedFits x.view.next_request came invited = all-found (InvitedFits x.view.next_request came) test x.known.invited invited is fit.0.2 in
    let has : HasCome came invited.req.0 = invited-has came invited (all-found (IsInvitedAsCame came) test x.known.invited invited is as_came.1) in
    cancelled-sends came x invited (kept_of x.known invited.req) (request_in x.view invited.req) refl
    (λ r found. found-brought came invited.req r.id invited.event (sym (same-number r.id.0 invited.req.0 (test-found (is_request invited.req) x.view.requests r found))) fits.1 has)

for-sends : (came : List Came) (config : Config) (ringing : List ℕ) (x : Session) (number : ℕ) (event : Queued) → FineAt came x → AreAsTheyCame came x.known
    → Sends (came ++ brought x number event) (answered_first x number event) [] (prepared_for config ringing x number event).orders
unfolding answered_first prepared_for brought
for-sends came config ringing x number (queued.Initial region subscriber popped request) fit as_came = sends-any _ _
for-sends came config ringing x number (queued.Request request) fit as_came =
    request-sends (came ++ record { id = next_id x; event = number; request = request } ∷ []) x number request (session_for x request) (λ req is. brought-is (came ++ record { id = next_id x; event = number; request = request } ∷ []) req number (by-turn came x number request req is fit.0)
    (last-has came (record { id = next_id x; event = number; request = request }) req.0 (sym is)))
for-sends came config ringing x number (queued.Response branch response) fit as_came = sends-any _ _
for-sends came config ringing x number (queued.Cancelled event) fit as_came =
    cancel-sends (came ++ []) x (is_invited event) (find (is_invited event) x.known.invited) refl (subst (λ (all : List Came). FineAt all x) (sym (append-nil came)) fit) (more-came came [] x.known as_came)
for-sends came config ringing x number (queued.Timer id) fit as_came = sends-any _ _
for-sends came config ringing x number (queued.BranchTimer branch due) fit as_came = sends-any _ _
for-sends came config ringing x number queued.Expired fit as_came = sends-any _ _
for-sends came config ringing x number queued.Ready fit as_came = sends-any _ _

-- the moment counts for nothing
brought-now : (now : ℕ) (x : Session) (number : ℕ) (event : Queued) → brought (at_moment now x) number event ≡ brought x number event
unfolding brought
brought-now now x number (queued.Initial region subscriber popped request) = refl
brought-now now x number (queued.Request request) = refl
brought-now now x number (queued.Response branch response) = refl
brought-now now x number (queued.Cancelled event) = refl
brought-now now x number (queued.Timer id) = refl
brought-now now x number (queued.BranchTimer branch due) = refl
brought-now now x number queued.Expired = refl
brought-now now x number queued.Ready = refl

first-sends : (came : List Came) (config : Config) (x : Session) (turn : Turn) → FineAt came x → AreAsTheyCame came x.known
    → Sends (came ++ brought x turn.waiting.number turn.waiting.event) (answered_first (at_moment turn.now x) turn.waiting.number turn.waiting.event) [] (prepared config turn.ringing x turn.waiting turn.now).orders
unfolding prepared
first-sends came config x turn fit as_came =
    subst (λ (new : List Came). Sends (came ++ new) (answered_first (at_moment turn.now x) turn.waiting.number turn.waiting.event) [] (prepared_for config turn.ringing (at_moment turn.now x) turn.waiting.number turn.waiting.event).orders)
    (brought-now turn.now x turn.waiting.number turn.waiting.event)
    (for-sends came config turn.ringing (at_moment turn.now x) turn.waiting.number turn.waiting.event fit as_came)

-- ## A turn

worked-sends : (came : List Came) (config : Config) (turn : Turn) (shown : Prepared) → InTurn (starts shown) → FineShown came shown → Sends came (given (begun shown.view) turn.calls) shown.orders (worked_all config shown turn.calls).orders
unfolding worked_all starts
worked-sends came config turn shown ok fit = calls-send came turn.calls config (starts shown) ok (λ more. calls-fine came config shown more fit)

worked-holds : (config : Config) (turn : Turn) (shown : Prepared) → InTurn (starts shown) → InTurn (worked_all config shown turn.calls)
unfolding worked_all
worked-holds config turn shown ok = calls-hold turn.calls config (starts shown) ok

finish-sends : (came : List Came) (config : Config) (turn : Turn) (shown : Prepared) → InTurn (starts shown) → FineShown came shown
    → Sends came (called_by config turn.waiting.event shown.req turn.end (drafts_ended (worked_all config shown turn.calls))) (worked_all config shown turn.calls).orders
    (finished config turn.waiting.event shown.req turn.end (worked_all config shown turn.calls)).orders
unfolding finished
finish-sends came config turn shown ok fit =
    called-sends came config turn.waiting.event shown.req turn.end (worked_all config shown turn.calls) (worked-holds config turn shown ok) (calls-fine came config shown turn.calls fit)

shown-sends : (came : List Came) (config : Config) (turn : Turn) (shown : Prepared) → InTurn (starts shown) → FineShown came shown
    → Sends came (shown_by config turn shown) shown.orders (finished config turn.waiting.event shown.req turn.end (worked_all config shown turn.calls)).orders
unfolding shown_by
shown-sends came config turn shown ok fit =
    sends-then came (given (begun shown.view) turn.calls) (called_by config turn.waiting.event shown.req turn.end (drafts_ended (worked_all config shown turn.calls))) shown.orders
    (worked_all config shown turn.calls).orders (finished config turn.waiting.event shown.req turn.end (worked_all config shown turn.calls)).orders
    (worked-sends came config turn shown ok fit) (finish-sends came config turn shown ok fit)

turn-sends : (came : List Came) (config : Config) (x : Session) (turn : Turn) → At x → FineAt came x → AreAsTheyCame came x.known
    → Sends (came ++ brought x turn.waiting.number turn.waiting.event) (gave config x turn) [] (orders_of config x turn)
unfolding gave outcome outcome_of
turn-sends came config x turn ok fit as_came =
    let all : List Came = came ++ brought x turn.waiting.number turn.waiting.event in
    let shown : Prepared = prepared config turn.ringing x turn.waiting turn.now in
    sends-then all (answered_first (at_moment turn.now x) turn.waiting.number turn.waiting.event) (shown_by config turn shown) [] shown.orders
    (finished config turn.waiting.event shown.req turn.end (worked_all config shown turn.calls)).orders (first-sends came config x turn fit as_came)
    (shown-sends all config turn shown (started-holds config turn x ok) (shown-fine came config x turn fit))

all-given : (came : List Came) (config : Config) (x : Session) (turn : Turn) → Sends came (gave config x turn) [] (orders_of config x turn) → AreGiven came (replies (gave config x turn)) (orders_of config x turn)
all-given came config x turn sends = subst (λ (os : List Order). AreGiven came (replies (gave config x turn)) os) (sym sends.is) sends.given

turns-give : (turns : List Turn) (config : Config) (history : History) → GaveAll config history turns
unfolding GaveAll came_of
turns-give [] config history = tt
turns-give (turn ∷ earlier) config history =
    let x : Session = session_after config history earlier in
    let came : List Came = came_of config history earlier in (
      all-given (came ++ brought x turn.waiting.number turn.waiting.event) config x turn (turn-sends came config x turn (lives-hold earlier config history) (lives-fine earlier config history) (life-keeps earlier config history)),
      turns-give earlier config history,
    )

-- ## The laws

pub histories-give : (config : Config) (history : History) → GaveAll config history history.turns
histories-give config history = turns-give history.turns config history

heard-parts : (x : Session) (number : ℕ) (event : Queued) → heard x number event ≡ answered_first x number event ++ came x event
unfolding heard answered_first came
heard-parts x number (queued.Initial region subscriber popped request) = refl
heard-parts x number (queued.Request request) = sym (append-nil (told_low x number request (session_for x request)))
heard-parts x number (queued.Response branch response) = refl
heard-parts x number (queued.Cancelled event) = sym (append-nil (cancelled x (find (is_invited event) x.known.invited)))
heard-parts x number (queued.Timer id) = refl
heard-parts x number (queued.BranchTimer branch due) = refl
heard-parts x number queued.Expired = refl
heard-parts x number queued.Ready = refl

-- a turn tells what it gave, and what came with its event
pub turn-parts : (config : Config) (x : Session) (turn : Turn) → happened_by config x turn ≡ gave config x turn ++ came (at_moment turn.now x) turn.waiting.event
unfolding happened_by gave
turn-parts config x turn =
    let shown : _ = shown_by config turn (prepared config turn.ringing x turn.waiting turn.now) in
    ap (λ more. shown ++ more) (heard-parts (at_moment turn.now x) turn.waiting.number turn.waiting.event)
    ∙ sym (append_assoc shown (answered_first (at_moment turn.now x) turn.waiting.number turn.waiting.event) (came (at_moment turn.now x) turn.waiting.event))

pub live-history : (setup : Setup) (epoch began : ℕ) (journal : List Step) (app : AppId) (live : Live History)
    → IsLawful (as_history setup.config) setup epoch began journal → live_at app (chained (as_history setup.config) setup epoch began journal) ≡ Some live
    → GaveAll setup.config live.session live.session.turns
live-history setup epoch began journal app live lawful is = histories-give setup.config live.session

pub live-session : (setup : Setup) (epoch began : ℕ) (journal : List Step) (app : AppId) (live : Live Session)
    → IsLawful as_session setup epoch began journal → live_at app (chained as_session setup epoch began journal) ≡ Some live
    → HasGivenAll setup app (told app journal) live.session live.inbox
live-session setup epoch began journal app live lawful is =
    let lived = session-lived setup epoch began journal app live lawful is in
    record { lived = lived; gave = histories-give setup.config lived.history }
