-- What the event of a turn brings is shown and kept by that event, and what the container answers first answers it.
use Rattle.std.proofs.Common.{◌≡◌, inl, ℕ, ◌==◌, Bool, true, false, Option, None, Some, List, [], ◌∷◌, refl, subst}
use Rattle.std.specs.Prelude.{◌&&◌, cond, is_none, not}
use Rattle.std.specs.List.{find, list_any}
use Rattle.sc_tokens.specs.Names.{same_bytes}
use Rattle.sc_value.specs.declared.ids.SessId.{SessId}
use Rattle.sc_value.specs.declared.message.Request.{Request}
use Rattle.sc_value.specs.declared.message.Response.{Response}
use Rattle.sc_terms.specs.declared.events.Event.TheVariants as events
use Rattle.sc_terms.specs.declared.settings.Config.{Config}
use Rattle.sc_terms.specs.declared.views.RequestView.{RequestView}
use Rattle.sc_terms.specs.declared.views.TimerView.{TimerView}
use Rattle.sc_state.specs.declared.orders.Order.{Order}
use Rattle.sc_state.specs.declared.orders.Order.TheVariants as orders
use Rattle.sc_state.specs.declared.proxy.Proxy.{Proxy}
use Rattle.sc_state.specs.declared.queue.Queued.{Queued}
use Rattle.sc_state.specs.declared.queue.Queued.TheVariants as queued
use Rattle.sc_state.specs.declared.queue.Waiting.{Waiting}
use Rattle.sc_state.specs.declared.session.Invited.{Invited}
use Rattle.sc_state.specs.declared.session.Kept.{Kept}
use Rattle.sc_state.specs.declared.session.Session.{Session}
use Rattle.sc_state.specs.declared.working.Prepared.{Prepared}
use Rattle.sc_tokens.specs.Bytes.{Bytes}
use Rattle.sc_model.specs.BestResponses.{server_error}
use Rattle.sc_model.specs.SessionStates.{ack}
use Rattle.sc_hosts.specs.Branches.{has_branch, proxy_after_response as heard, is_supervised, is_timed_out}
use Rattle.sc_hosts.specs.Legs.{FIRST_SESSION, change_leg, session_for, with_answer}
use Rattle.sc_hosts.specs.Looking.{is_gone_in, request_in, same_request, session_in, timer_in}
use Rattle.sc_hosts.specs.Messages.{makes_dialog}
use Rattle.sc_hosts.specs.Preparing.{cancelled_proxy, cancelled_request, has_expired, is_invited, kept_of, own_tag_of, prepared_session as prepared, prepared_branch_timer, prepared_cancel, prepared_expiry, prepared_for, prepared_timer, proxy_of, prepared_end as terminated, timed_out}
use Rattle.sc_hosts.specs.PreparingRequests.{prepared_request, refusal_orders as refused, showing, showing_in, silent, prepared_for_request as taken, too_low}
use Rattle.sc_hosts.specs.PreparingResponses.{accepts_invite, branch_placed, change_proxy, heard_in, is_invalid, is_sent_on, is_watched, noted_final, session_of_response as placed, prepared_branch, prepared_own, prepared_response, with_handled_response as responded, responded_again, responded_in, shown_again, event_of_response as told, with_branches, with_request_again}
use Rattle.sc_hosts.specs.Words.{does_not_exist, request_terminated}
use Rattle.sc_walked.specs.SessionWalks.{Brings, SessionLaws}
use Rattle.sc_walked.proofs.WalkParts.{answered-walks}
use Rattle.sc_walked.proofs.WalkShown.{prepared-walks}
use Rattle.sc_lasting.specs.Lasting.{All}
use Rattle.sc_lasting.proofs.Began.{same-number, test-found}
use Rattle.sc_lasting.proofs.LaterRequests.{later-request, later-session}
use Rattle.sc_lasting.proofs.Parts.{all-found}
use Rattle.sc_replies.specs.Fields.{Incoming, incoming}
use Rattle.sc_replies.proofs.AnswerEvents.{AllInvited, AreOf, GoesOn, InvitedOf, events-law, numbered-of, received-of}
use Rattle.sc_replies.proofs.AnswerFields.{own-answers}
use Rattle.sc_replies.proofs.AnswerOrders.{AllGive, Gives}

abbrev now_at : ℕ → Session → Session
now_at now x = record x { view = record x.view { now = now } }

module _ (By : ℕ → Incoming → Type 0) where
  abbrev pub OfShown : Prepared → Type 0
  OfShown shown = AreOf By shown.view shown.known

  ready-law : SessionLaws queued.Ready (λ call. Unit {0}) (GoesOn By)
  unfolding Brings
  ready-law = events-law By queued.Ready (λ x sess initial passed request brings. brings)

  -- ## What is shown

  -- a later request
  request-of : (x : Session) (number : ℕ) (request : Request) → By number (record { initial = false; request = request }) → AreOf By x.view x.known
      → (sess : Option SessId) → OfShown (prepared_request x number request sess)
  request-of x number request by ok = later-session (AreOf By) x number request (numbered-of By x.view x.known ok) (λ sess passed. received-of By x number sess false passed request by ok)
      (λ came view known ok. answered-walks queued.Ready (λ call. Unit {0}) (GoesOn By) ready-law (record { view = view; known = known }) came 500 ok) (λ view known legs ok. ok)

  pub shown-of : (config : Config) (ringing : List ℕ) (x : Session) (waiting : Waiting) (now : ℕ) (event : Queued) → event ≡ waiting.event
      → ((came : Incoming) → incoming event ≡ Some came → By waiting.number came) → AreOf By x.view x.known → OfShown (prepared config ringing x waiting now)
  unfolding prepared prepared_for showing incoming Brings
  shown-of config ringing x waiting now (queued.Initial region subscriber popped request) is by ok =
      subst (λ (e : Queued). OfShown (prepared_for config ringing (now_at now x) waiting.number e)) is
      (received-of By (now_at now x) waiting.number FIRST_SESSION true false request (by (record { initial = true; request = request }) refl) ok)
  shown-of config ringing x waiting now (queued.Request request) is by ok =
      subst (λ (e : Queued). OfShown (prepared_for config ringing (now_at now x) waiting.number e)) is
      (request-of (now_at now x) waiting.number request (by (record { initial = false; request = request }) refl) ok (session_for (now_at now x) request))
  shown-of config ringing x waiting now (queued.Response branch response) is by ok =
      prepared-walks (queued.Response branch response) (λ call. Unit {0}) (GoesOn By) (events-law By (queued.Response branch response) (λ y sess initial passed request brings. brings)) config ringing x waiting now is ok
  shown-of config ringing x waiting now (queued.Cancelled of) is by ok =
      prepared-walks (queued.Cancelled of) (λ call. Unit {0}) (GoesOn By) (events-law By (queued.Cancelled of) (λ y sess initial passed request brings. brings)) config ringing x waiting now is ok
  shown-of config ringing x waiting now (queued.Timer id) is by ok =
      prepared-walks (queued.Timer id) (λ call. Unit {0}) (GoesOn By) (events-law By (queued.Timer id) (λ y sess initial passed request brings. brings)) config ringing x waiting now is ok
  shown-of config ringing x waiting now (queued.BranchTimer branch due) is by ok =
      prepared-walks (queued.BranchTimer branch due) (λ call. Unit {0}) (GoesOn By) (events-law By (queued.BranchTimer branch due) (λ y sess initial passed request brings. brings)) config ringing x waiting now is ok
  shown-of config ringing x waiting now queued.Expired is by ok =
      prepared-walks queued.Expired (λ call. Unit {0}) (GoesOn By) (events-law By queued.Expired (λ y sess initial passed request brings. brings)) config ringing x waiting now is ok
  shown-of config ringing x waiting now queued.Ready is by ok =
      prepared-walks queued.Ready (λ call. Unit {0}) (GoesOn By) (events-law By queued.Ready (λ y sess initial passed request brings. brings)) config ringing x waiting now is ok

  -- ## What is answered first

  module _ (Passed : ℕ → Type 0) where
    abbrev pub FirstGive : Prepared → Type 0
    FirstGive shown = AllGive By Passed shown.orders

    if-give : (b : Bool) (y z : Prepared) → FirstGive y → FirstGive z → FirstGive (cond b y z)
    if-give true y z p q = p
    if-give false y z p q = q

    if-given : (b : Bool) (given : List Order) → AllGive By Passed given → AllGive By Passed (cond b [] given)
    unfolding All
    if-given true given all = tt
    if-given false given all = all

    refused-gives : (number code : ℕ) (reason : Bytes) (request : Request) → makes_dialog code ≡ false → By number (record { initial = false; request = request }) → AllGive By Passed (refused number code reason request)
    unfolding refused Gives All
    refused-gives number code reason request is by =
        if-given (same_bytes request.method ack) (orders.Respond number _ ∷ []) (inl (record { initial = false; request = request }, by, own-answers [] code reason false request is), tt)

    request-gives : (x : Session) (number : ℕ) (request : Request) (sess : Option SessId) → By number (record { initial = false; request = request }) → FirstGive (prepared_request x number request sess)
    unfolding silent too_low taken showing All
    request-gives x number request sess by = later-request FirstGive x number request (refused-gives number 481 does_not_exist request refl by) tt
        (λ s. refused-gives number 500 server_error request refl by) (λ found. tt) sess

    -- a response gives nothing

    in-silent : (kept : Kept) (request : RequestView) (response : Response) (at : SessId × Session) → FirstGive (responded_in kept request response at)
    unfolding responded_in silent showing All
    in-silent kept request response (sess, y) =
        if-give (is_gone_in y.view sess) (silent (noted_final kept.id response.code y) []) (showing (responded kept request response sess y) (events.Response kept.id sess response) None []) tt tt

    again-silent : (kept : Kept) (request : RequestView) (response : Response) (at : SessId × Session) → FirstGive (responded_again kept request response at)
    unfolding responded_again silent showing All
    again-silent kept request response (sess, y) =
        if-give (is_gone_in y.view sess) (silent y []) (showing (responded kept request response sess (with_request_again request y)) (events.Response kept.id sess response) None []) tt tt

    own-silent : (x : Session) (kept : Kept) (response : Response) (found : Option RequestView) → FirstGive (prepared_own x kept response found)
    unfolding prepared_own silent All
    own-silent x kept response None =
        let request : RequestView = shown_again x.known kept response.code in
        let at : SessId × Session = placed x kept request response (session_in x.view kept.sess) in
        if-give (accepts_invite kept response) (responded_again kept request response at) (silent x []) (again-silent kept request response at) tt
    own-silent x kept response (Some request) = in-silent kept request response (placed x kept request response (session_in x.view request.sess))

    heard-silent : (proxy : Proxy) (branch : ℕ) (response : Response) (at : SessId × Session) → FirstGive (heard_in proxy branch response at)
    unfolding heard_in showing_in silent All
    heard-silent proxy branch response (sess, y) =
        let after : Session = record {
          view = with_branches proxy response y.view;
          known = change_proxy proxy.req (heard branch sess response y.view.now) (change_leg sess (with_answer proxy.request response) y.known);
        } in
        if-give (is_watched y.known proxy) (showing_in after sess (told proxy branch response sess) None []) (silent after []) tt tt

    branch-silent : (x : Session) (proxy : Proxy) (branch : ℕ) (response : Response) → FirstGive (prepared_branch x proxy branch response)
    unfolding prepared_branch silent All
    branch-silent x proxy branch response =
        let at : SessId × Session = branch_placed x proxy response (session_in x.view proxy.sess) in
        if-give (is_invalid x.known proxy.sess) (silent x []) (heard_in proxy branch response at) tt (heard-silent proxy branch response at)

    response-silent : (x : Session) (branch : ℕ) (response : Response) (kept : Option Kept) (proxy : Option Proxy) → FirstGive (prepared_response x branch response kept proxy)
    unfolding prepared_response silent All
    response-silent x branch response (Some kept) proxy = own-silent x kept response (request_in x.view kept.id)
    response-silent x branch response None (Some proxy) = branch-silent x proxy branch response
    response-silent x branch response None None = tt

    -- a CANCEL

    ended-gives : (x : Session) (invited : Invited) (request : RequestView) (found : Option Kept) → kept_of x.known invited.req ≡ found → All (InvitedOf By invited) x.known.kept
        → FirstGive (terminated x invited request found)
    unfolding terminated showing_in Gives All
    ended-gives x invited request None is of = tt
    ended-gives x invited request (Some kept) is of =
        let test : Kept → Bool = λ k. same_request k.id invited.req in
        let by = all-found (InvitedOf By invited) test x.known.kept kept is of (same-number kept.id.0 invited.req.0 (test-found test x.known.kept kept is)) in
        (inl (record { initial = by.0; request = kept.request }, by.1, own-answers (own_tag_of x.view invited.sess) 487 request_terminated by.0 kept.request refl), tt)

    stopped-silent : (x : Session) (invited : Invited) (proxy : Option Proxy) → FirstGive (cancelled_proxy x invited proxy)
    unfolding cancelled_proxy showing_in silent All
    stopped-silent x invited None = tt
    stopped-silent x invited (Some proxy) = if-give (is_supervised proxy) _ _ tt tt

    cancelled-gives : (x : Session) (invited : Invited) (request : Option RequestView) → All (InvitedOf By invited) x.known.kept → FirstGive (cancelled_request x invited request)
    unfolding cancelled_request showing_in All
    cancelled-gives x invited None of = tt
    cancelled-gives x invited (Some request) of =
        if-give request.proxied (cancelled_proxy x invited (proxy_of x.known invited.req)) _ (stopped-silent x invited (proxy_of x.known invited.req))
        (if-give (is_none request.answered) (terminated x invited request (kept_of x.known invited.req)) _ (ended-gives x invited request (kept_of x.known invited.req) refl of) tt)

    cancel-gives : (x : Session) (test : Invited → Bool) (found : Option Invited) → find test x.known.invited ≡ found → All (AllInvited By x.known.kept) x.known.invited → FirstGive (prepared_cancel x found)
    unfolding prepared_cancel silent All
    cancel-gives x test None is of = tt
    cancel-gives x test (Some invited) is of = cancelled-gives x invited (request_in x.view invited.req) (all-found (AllInvited By x.known.kept) test x.known.invited invited is of)

    -- what is due

    timer-silent : (x : Session) (timer : Option TimerView) → FirstGive (prepared_timer x timer)
    unfolding prepared_timer showing silent All
    timer-silent x None = tt
    timer-silent x (Some timer) = tt

    expiry-silent : (x : Session) → FirstGive (prepared_expiry x)
    unfolding prepared_expiry showing silent All
    expiry-silent x = if-give (has_expired x.view) _ _ tt tt

    branch-timer-silent : (config : Config) (ringing : List ℕ) (x : Session) (branch due : ℕ) (proxy : Option Proxy) → FirstGive (prepared_branch_timer config ringing x branch due proxy)
    unfolding prepared_branch_timer silent All
    branch-timer-silent config ringing x branch due None = tt
    branch-timer-silent config ringing x branch due (Some proxy) =
        if-give (is_timed_out branch due proxy && not (is_invalid x.known proxy.sess)) (silent (timed_out config x proxy branch (list_any (λ k. k == branch) ringing)) []) (silent x []) tt tt

    for-gives : (config : Config) (ringing : List ℕ) (x : Session) (number : ℕ) (event : Queued) → ((came : Incoming) → incoming event ≡ Some came → By number came) → AreOf By x.view x.known
        → FirstGive (prepared_for config ringing x number event)
    unfolding prepared_for showing incoming All
    for-gives config ringing x number (queued.Initial region subscriber popped request) by ok = tt
    for-gives config ringing x number (queued.Request request) by ok = request-gives x number request (session_for x request) (by (record { initial = false; request = request }) refl)
    for-gives config ringing x number (queued.Response branch response) by ok = response-silent x branch response (find (is_sent_on branch) x.known.kept) (find (has_branch branch) x.known.proxies)
    for-gives config ringing x number (queued.Cancelled event) by ok = cancel-gives x (is_invited event) (find (is_invited event) x.known.invited) refl ok.4
    for-gives config ringing x number (queued.Timer id) by ok = timer-silent x (timer_in x.view id)
    for-gives config ringing x number (queued.BranchTimer branch due) by ok = branch-timer-silent config ringing x branch due (find (has_branch branch) x.known.proxies)
    for-gives config ringing x number queued.Expired by ok = expiry-silent x
    for-gives config ringing x number queued.Ready by ok = tt

    pub first-gives : (config : Config) (ringing : List ℕ) (x : Session) (waiting : Waiting) (now : ℕ) → ((came : Incoming) → incoming waiting.event ≡ Some came → By waiting.number came) → AreOf By x.view x.known
        → FirstGive (prepared config ringing x waiting now)
    unfolding prepared
    first-gives config ringing x waiting now by ok = for-gives config ringing (now_at now x) waiting.number waiting.event by ok
