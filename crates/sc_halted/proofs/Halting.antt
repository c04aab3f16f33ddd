-- In a lawful run: a later request to which a session turns comes to the next session of its way in that step, or is answered where it stops.
use Rattle.std.proofs.Common.{◌++◌, ◌<◌, ◌^◌, ◌∙◌, ◌∷◌, ◌≡◌, ◌⊎◌, Bool, List, None, Option, Some, [], ap, arith, false, find, inl, inr, length, refl, slice_get, subst, suc, sym, true, zero, ℕ}
use Rattle.std.proofs.Math.Logic.{∥∥₁_elim}
use Rattle.std.proofs.lemmas.Bool.Decides.{nat_tests}
use Rattle.std.specs.Prelude.{◌==◌, is_some, option_and_then, option_map}
use mathlib.Core.Bool.{Bool-set}
use Rattle.sc_value.specs.declared.ids.AppId.{AppId}
use Rattle.sc_value.specs.declared.ids.SessId.{SessId}
use Rattle.sc_value.specs.declared.message.Request.{Request}
use Rattle.sc_value.specs.declared.message.Response.{Response}
use Rattle.sc_value.specs.declared.parts.Address.{Address}
use Rattle.sc_value.specs.declared.parts.Uri.{Uri}
use Rattle.sc_tokens.specs.Names.{same_bytes}
use Rattle.sc_terms.specs.declared.calls.CallRecord.{CallRecord}
use Rattle.sc_terms.specs.declared.calls.End.{End}
use Rattle.sc_terms.specs.declared.calls.End.TheVariants as ends
use Rattle.sc_terms.specs.declared.events.Event.{Event}
use Rattle.sc_terms.specs.declared.events.Event.TheVariants as events
use Rattle.sc_terms.specs.declared.steps.Step.{Step}
use Rattle.sc_terms.specs.declared.steps.Step.TheVariants as steps
use Rattle.sc_terms.specs.declared.views.SessionView.{SessionView}
use Rattle.sc_parts.specs.declared.setup.Setup.{Setup}
use Rattle.sc_state.specs.declared.host.Live.{Live}
use Rattle.sc_state.specs.declared.host.Peer.TheVariants as peers
use Rattle.sc_state.specs.declared.net.Net.{Net}
use Rattle.sc_state.specs.declared.orders.Order.{Order}
use Rattle.sc_state.specs.declared.orders.Order.TheVariants as orders
use Rattle.sc_state.specs.declared.orders.Outcome.{Outcome}
use Rattle.sc_state.specs.declared.queue.Queued.{Queued}
use Rattle.sc_state.specs.declared.queue.Queued.TheVariants as queued
use Rattle.sc_state.specs.declared.queue.Waiting.{Waiting}
use Rattle.sc_state.specs.declared.session.Session.{Session}
use Rattle.sc_state.specs.declared.working.Prepared.{Prepared}
use Rattle.sc_tokens.specs.Bytes.{Bytes}
use Rattle.sc_model.specs.BestResponses.{server_error}
use Rattle.sc_model.specs.DialogRequests.{cancel}
use Rattle.sc_model.specs.Dialogs.{tag_of}
use Rattle.sc_model.specs.Names.{IsOf64}
use Rattle.sc_model.specs.OwnHosts.{is_own}
use Rattle.sc_model.specs.Settings.{Charters, charters_of}
use Rattle.sc_hosts.specs.Bringing.{Allowed, IsSilent}
use Rattle.sc_hosts.specs.Destinations.{next_uri}
use Rattle.sc_hosts.specs.Histories.{as_session}
use Rattle.sc_hosts.specs.Legs.{is_low, leg_of, session_for, takes_request}
use Rattle.sc_hosts.specs.Looking.{is_proxy, session_in}
use Rattle.sc_hosts.specs.Messages.{on_branch, passed_request}
use Rattle.sc_hosts.specs.Nets.{host_at}
use Rattle.sc_hosts.specs.Preparing.{prepared_session as prepared}
use Rattle.sc_hosts.specs.PreparingRequests.{next_id, showing, prepared_for_request as taken}
use Rattle.sc_hosts.specs.PreparingResponses.{is_invalid}
use Rattle.sc_hosts.specs.Runs.{AllowedBy, IsAllowed, IsLawful, MayTurn, after_step, net_from as chained, prepared_turn as shown}
use Rattle.sc_hosts.specs.Sessions.{Turn}
use Rattle.sc_hosts.specs.Steps.{live_at, outcome_by, ringing_at, before_delivery as stepped, turn_of}
use Rattle.sc_hosts.specs.Taking.{names}
use Rattle.sc_hosts.specs.Words.{does_not_exist}
use Rattle.sc_hosts.specs.Working.{worked_all}
use Rattle.sc_paths.specs.LaterRequests.{SetOut, later_in, set_out_by}
use Rattle.sc_paths.specs.Moments.{Got, Moment, given_in, moments, orders_by}
use Rattle.sc_lasting.specs.Lasting.{All}
use Rattle.sc_lasting.proofs.Parts.{all-map}
use Rattle.sc_lasting.proofs.Shared.{all-front, all-at}
use Rattle.sc_waits.specs.Growing.{events_in}
use Rattle.sc_keyed.specs.Keyed.{AreOn, IsOn}
use Rattle.sc_hops.specs.Hops.{AreOtherBranches}
use Rattle.sc_vias.specs.Vias.{drawn_by}
use Rattle.sc_vias.proofs.RunVias.{drawn-is, turn-on}
use Rattle.sc_stopped.specs.Stopped.{IsRefusedThere}
use Rattle.sc_stopped.proofs.SilentTurns.{quiet-low, quiet-none, silent-calls, turn-refuses}
use Rattle.sc_ways.specs.Ways.{AreSmallDraws}
use Rattle.sc_ways.proofs.OneHop.{orders-are}
use Rattle.sc_ways.proofs.OwnBranches.{Is64, IsOnOwnBranch, out-own}
use Rattle.sc_ways.proofs.Recorders.{found-small}
use Rattle.sc_ways.proofs.Runs.{run-each}
use Rattle.sc_ways.proofs.Waits.{events-live}
use Rattle.sc_onward.specs.Onward.{AreCounted, AreSmallNumbers, ComesNext, ComesToProxy, HasNewBranches, HasNoServer, PassesLast, TurnsTo}
use Rattle.sc_onward.proofs.Clean.{CleanNet}
use Rattle.sc_onward.proofs.Delivered.{Arrives}
use Rattle.sc_onward.proofs.Ends.{dated, shown-is}
use Rattle.sc_onward.proofs.OneHop.{IsSound, Item, at-end, before-others, got-item, has-passed, later-is, passed-method, passed-next, passed-to, passed-vias, sends-in}
use Rattle.sc_onward.proofs.Stopping.{found-again}
use Rattle.sc_onward.proofs.Whole.{run-new, run-sound}
use Rattle.sc_halted.specs.Halted.{At_once, ComesBack, Dropped, Ended_by_call, Ended_itself, Full_there, IsAnsweredBack, IsEndedIn, IsFoundFull, IsHalted, IsRefusedFirst, IsTold, IsUnguessed, Of_low_number, Of_no_dialog, Of_no_hops, Of_own_session, Passed_on, entry_of, given_at, is_under, put_out, shown_at}
use Rattle.sc_halted.proofs.Away.{Becomes, Full_back, Goes_nowhere, Gone_back, Quiet, SendsLast, Stepped as SteppedOf, Tells, TellsBack, Told_once, Waits_there, becomes}
use Rattle.sc_halted.proofs.Drawn.{AnswerFree, before-free, last-above, last-on, last-small, net-other, under-free}
use Rattle.sc_halted.proofs.Ending.{turn-either, turn-ends, turn-goes, turn-stops}
use Rattle.sc_halted.proofs.Holding.{never-ended, tied-after}
use Rattle.sc_halted.proofs.Tied.{TiedIn}

-- ## Where nobody is called

clash : false ≡ true → ⊥
clash is = cc

some-is : {A : Type 0} (x y : A) → Some x ≡ Some y → x ≡ y
some-is x y is = cc

self-zero : (0 == 0) ≡ true
self-zero = grind (arith, nat_tests)

more-zero : (n : ℕ) → (suc n == 0) ≡ true → ⊥
more-zero n is = grind (arith, nat_tests, is)

empty-is : (made : List CallRecord) → (length made == 0) ≡ true → made ≡ []
empty-is [] is = refl
empty-is (m ∷ made) is = absurd (more-zero (length made) is)

is_fine : End → Bool
is_fine ends.Fine = true
is_fine ends.Fault = false
is_fine ends.Starved = false

fine-is : (end : End) → is_fine end ≡ true → end ≡ ends.Fine
unfolding is_fine
fine-is ends.Fine is = refl
fine-is ends.Fault is = cc
fine-is ends.Starved is = cc

fine-fine : is_fine ends.Fine ≡ true
unfolding is_fine
fine-fine = refl

-- what charters allow where nobody is called is one thing alone
silent-allowed : (charters : Option Charters) (p : Prepared) (made : List CallRecord) (end : End) → p.event ≡ None → ∥ AllowedBy charters p made end ∥₁ → AllowedBy charters p made end
unfolding AllowedBy Allowed IsSilent
silent-allowed None p made end none allowed = absurd (clash (∥∥₁_elim allowed (Bool-set false true) (λ r. absurd r)))
silent-allowed (Some charters) p made end none allowed =
    let calls : (length made == 0) ≡ true = ∥∥₁_elim allowed (Bool-set (length made == 0) true)
    (λ r. ap (λ (ms : List CallRecord). length ms == 0) (silent-calls (Some charters) p made end none r).0 ∙ self-zero) in
    let fine : is_fine end ≡ true = ∥∥₁_elim allowed (Bool-set (is_fine end) true) (λ r. ap is_fine (silent-calls (Some charters) p made end none r).1 ∙ fine-fine) in
    subst (λ (event : Option Event). Allowed charters.0 charters.1 p.view event made end) (sym none) (empty-is made calls, fine-is end fine)

-- ## What is shown

taken-event : (x : Session) (event : ℕ) (found : SessionView) (request : Request) → (taken x event found request).event ≡ Some (events.Request (next_id x) found.id request)
unfolding taken showing
taken-event x event found request = refl

-- ## Among what waits

no-events : (first rest : List Waiting) (one : Waiting) → [] ≡ first ++ one ∷ rest → ⊥
no-events [] rest one is = cc
no-events (w ∷ first) rest one is = cc

events-none : (app : AppId) (net : Net Session) → live_at app net ≡ None → events_in app net ≡ []
unfolding events_in
events-none app net is = rw is refl

held-lives : (app : AppId) (net : Net Session) (first rest : List Waiting) (one : Waiting) → events_in app net ≡ first ++ one ∷ rest → (found : Option (Live Session)) → live_at app net ≡ found
    → (last : Live Session) × (live_at app net ≡ Some last) × (last.inbox ≡ first ++ one ∷ rest)
held-lives app net first rest one is None none = absurd (no-events first rest one (sym (events-none app net none) ∙ is))
held-lives app net first rest one is (Some last) lives = (last, lives, sym (events-live app net last lives) ∙ is)

-- an answer that the order gives doesn't stand under the branch of the request
abbrev UnderNone : Request → Order → Type 0
UnderNone request order = (event : ℕ) (response : Response) → order ≡ orders.Respond event response → is_under request response ≡ false

-- ## A turn of the run

module _ (setup : Setup) (epoch : ℕ) (small : epoch < 2 ^ 64) (moment : Moment) (sound : IsSound setup epoch moment) (new : HasNewBranches setup moment)
    (tied : (app : AppId) (live : Live Session) → live_at app moment.before ≡ Some live → TiedIn live.session.view live.session.known) (got : Got) (to : AppId) (within : IsOf64 epoch to 0)
    (turn : TurnsTo setup moment got to) where
  abbrev net : Net Session
  net = moment.before

  abbrev Goal : Type 0
  Goal = ComesNext moment got to ⊎ IsHalted setup moment got to turn

  abbrev Turning : Step
  Turning = steps.Turn turn.end got.app turn.event turn.now turn.made

  abbrev Ringing : List ℕ
  Ringing = ringing_at got.app (host_at got.app.host net)

  abbrev Waits : Waiting
  Waits = record { number = got.waiting.number; event = queued.Request turn.request }

  waits-is : ◌≡◌ {A = Waiting} got.waiting Waits
  waits-is = ap (λ (event : Queued). record { number = got.waiting.number; event = event }) turn.is

  first : slice_get turn.live.inbox 0 ≡ Some Waits
  first = turn.first ∙ ap (λ (waiting : Waiting). Some waiting) waits-is

  counted : AreCounted turn.live.session
  counted = sound.counted got.app turn.live turn.lives

  after-is : moment.after ≡ after_step as_session setup net Turning
  after-is = sound.after ∙ ap (λ (s : Step). after_step as_session setup net s) turn.step

  put-is : put_out setup moment ≡ SteppedOf setup net got.app turn.live Waits turn.event turn.now turn.made turn.end
  put-is = ap (λ (s : Step). stepped as_session setup s (record net { sent = [] })) turn.step

  -- ### It is passed on

  module _ (passes : PassesLast setup.config turn.request (given_at setup moment got to turn)) where
    abbrev sent : Request
    sent = on_branch setup.config passes.view passes.branch (passed_request turn.request)

    abbrev Done-orders : List Order
    Done-orders = (outcome_by as_session setup.config turn.live.session (turn_of (record net { sent = [] }) got.app Waits turn.now turn.made turn.end)).orders

    same-orders : Done-orders ≡ given_at setup moment got to turn
    unfolding outcome_by turn_of as_session
    same-orders = refl

    given-is : Done-orders ≡ passes.before ++ passes.order ∷ []
    given-is = same-orders ∙ passes.is

    moment-given : given_in setup moment ≡ passes.before ++ passes.order ∷ []
    moment-given =
        ap (λ (s : Step). orders_by setup net s) turn.step ∙ (orders-are setup net got.app turn.event turn.now turn.made turn.end turn.live Waits turn.lives first ∙ given-is)

    at-place : slice_get (given_in setup moment) (length passes.before) ≡ Some passes.order
    at-place = ap (λ (given : List Order). slice_get given (length passes.before)) moment-given ∙ at-end passes.before passes.order

    abbrev Out : SetOut
    Out = record { moment = moment; sender = peers.Inside got.app.host; request = sent }

    turn-out : option_and_then later_in (slice_get (given_in setup moment) (length passes.before)) ≡ Some sent → set_out_by setup moment Turning (Some (length passes.before)) ≡ Some Out
    unfolding set_out_by
    turn-out is = ap (λ (found : Option Request). option_map (λ (request : Request). record { moment = moment; sender = peers.Inside got.app.host; request = request }) found) is

    out-is : set_out_by setup moment moment.step (Some (length passes.before)) ≡ Some Out
    out-is =
        subst (λ (s : Step). set_out_by setup moment s (Some (length passes.before)) ≡ Some Out) (sym turn.step)
        (turn-out (ap (λ (found : Option Order). option_and_then later_in found) at-place ∙ later-is passes.order sent passes.sends))

    own-branch : IsOnOwnBranch setup Out (length passes.before)
    own-branch = out-own setup epoch moment (length passes.before) Out small sound.ready out-is

    clean : CleanNet sent net
    unfolding HasNoServer
    clean = new (length passes.before) passes.order sent at-place (sends-in passes.order sent passes.sends)

    sends-last : SendsLast setup net got.app turn.live Waits turn.event turn.now turn.made turn.end epoch to sent passes.before passes.order
    sends-last = record {
      lives = turn.lives;
      first = first;
      given = given-is;
      sends = passes.sends;
      others = before-others passes.before passes.order sent (subst (λ (given : List Order). AreOtherBranches sent given (length passes.before)) moment-given own-branch.orders);
      clients = own-branch.clients;
      servers = clean;
      own = subst (λ (uri : Uri). is_own setup.config uri ≡ true) (sym (passed-next setup.config passes.view passes.branch turn.request)) turn.own;
      named = subst (λ (uri : Uri). names epoch to uri ≡ true) (sym (passed-next setup.config passes.view passes.branch turn.request)) (subst (λ (e : ℕ). names e to (next_uri turn.request) ≡ true) sound.ready.fine.at turn.named);
      no_cancel = subst (λ (method : List ℕ). same_bytes method cancel ≡ false) (sym (passed-method setup.config passes.view passes.branch turn.request)) turn.no_cancel;
      tagged = subst (λ (to : Address). is_some (tag_of to) ≡ true) (sym (passed-to setup.config passes.view passes.branch turn.request)) turn.tagged;
      small = within;
      at = sound.ready.fine.at;
      quiet = sound.ready.fine.quiet;
      numbered = sound.ready.fine.numbered;
      within = sound.within;
      few = sound.ready.fine.few_before;
      less = subst (λ (n : Net Session). n.count < 2 ^ 64) after-is sound.less;
    }

    comes-next : Arrives setup sent to net.count moment.after → ComesNext moment got to
    unfolding ComesNext
    comes-next come =
        let held = held-lives to moment.after come.held.first come.held.rest come.waiting come.held.is (live_at to moment.after) refl in (
          Item to come.waiting,
          refl,
          got-item moment to held.0 come.waiting come.held.first come.held.rest held.1 held.2 come.above,
          has-passed setup.config got (Item to come.waiting) turn.request sent turn.is come.is (passed-vias setup.config passes.view passes.branch turn.request),
        )

    -- ## The answer of the next host

    session-small : IsOf64 epoch got.app 0
    session-small = found-small epoch net got.app turn.live (host_at got.app.host net) refl turn.lives small sound.ready.fine.few_before sound.ready.fine.small_before

    abbrev Net-turn : Turn
    Net-turn = turn_of net got.app Waits turn.now turn.made turn.end

    abbrev Done-in : Outcome
    Done-in = outcome_by as_session setup.config turn.live.session Net-turn

    done-orders : Done-in.orders ≡ passes.before ++ passes.order ∷ []
    unfolding outcome_by turn_of as_session
    done-orders = passes.is

    drawn-most : Is64 Done-in.session.view.counter
    drawn-most =
        subst Is64 (drawn-is setup epoch Is64 net got.app turn.event turn.now turn.made turn.end turn.live Waits turn.lives first)
        (subst (λ (s : Step). Is64 (drawn_by setup net s)) turn.step sound.ready.drawn)

    all-on : AreOn setup.config epoch got.app turn.live.session.view.counter (passes.before ++ passes.order ∷ []) Done-in.session.view.counter
    all-on =
        subst (λ (given : List Order). AreOn setup.config epoch got.app turn.live.session.view.counter given Done-in.session.view.counter) done-orders
        (turn-on setup.config epoch Is64 got.app net turn.live Waits turn.now turn.made turn.end turn.lives sound.ready.ready.kept)

    module _ (branch : ℕ) (is : passes.order ≡ orders.Send branch sent) where
      send-on : AreOn setup.config epoch got.app turn.live.session.view.counter (passes.before ++ orders.Send branch sent ∷ []) Done-in.session.view.counter
      send-on = subst (λ (order : Order). AreOn setup.config epoch got.app turn.live.session.view.counter (passes.before ++ order ∷ []) Done-in.session.view.counter) is all-on

      branch-small : Is64 branch
      branch-small = last-small setup epoch got.app branch sent passes.before turn.live.session.view.counter Done-in.session.view.counter send-on drawn-most

      drawn-above : turn.live.session.view.counter < branch
      drawn-above = last-above setup epoch got.app branch sent passes.before turn.live.session.view.counter Done-in.session.view.counter send-on

      its-branch : IsOn setup.config epoch got.app branch sent
      its-branch = last-on setup epoch got.app branch sent passes.before turn.live.session.view.counter Done-in.session.view.counter send-on

      quiet-of : IsUnguessed setup moment sent
          → Quiet setup net got.app turn.live Waits turn.event turn.now turn.made turn.end epoch to sent passes.before passes.order sends-last branch
      quiet-of guess = record {
        hosts = net-other setup epoch got.app session-small branch _ to.host sent branch-small net sound.ready.ready turn.live turn.lives drawn-above its-branch guess.before;
        given = before-free setup epoch got.app session-small branch _ to.host sent branch-small passes.before turn.live.session.view.counter Done-in.session.view.counter send-on
            (all-map (UnderNone sent) (AnswerFree setup epoch got.app session-small branch 0 to.host sent branch-small) passes.before
            (λ order each. λ event response same. under-free setup epoch got.app session-small branch 0 to.host sent branch-small its-branch response (each event response same))
            (all-front (UnderNone sent) passes.before (passes.order ∷ []) (subst (λ (given : List Order). All (UnderNone sent) given) moment-given guess.given)));
      }

    abbrev TellsOf : ℕ → ℕ → Type 0
    TellsOf code branch = Tells setup net got.app turn.live Waits turn.event turn.now turn.made turn.end epoch to sent passes.before passes.order sends-last code branch

    told-of : (code branch : ℕ) → TellsOf code branch → IsTold moment got.app branch code
    unfolding Tells IsTold
    told-of code branch (inl gone) = inl (ap (λ (n : Net Session). live_at got.app n) after-is ∙ gone)
    told-of code branch (inr told) =
        inr (
          Item got.app told.1,
          told.4,
          refl,
          got-item moment got.app told.0 told.1 told.2 told.3 (ap (λ (n : Net Session). live_at got.app n) after-is ∙ told.5) told.6 told.7,
          told.8,
          told.9,
        )

    comes-back : (code : ℕ) → TellsBack setup net got.app turn.live Waits turn.event turn.now turn.made turn.end epoch to sent passes.before passes.order sends-last code
        → ComesBack setup moment got.app sent passes.order code
    unfolding TellsBack ComesBack
    comes-back code tells = λ branch is no_ack guess. told-of code branch (tells branch is (its-branch branch is) no_ack (quiet-of branch is guess))

    by-becomes : Becomes setup net got.app turn.live Waits turn.event turn.now turn.made turn.end epoch to sent passes.before passes.order sends-last → Goal
    by-becomes (Waits_there come) = inl (comes-next (subst (λ (n : Net Session). Arrives setup sent to net.count n) (sym after-is) come))
    by-becomes (Told_once branch dead is told) = inr (Passed_on passes (At_once branch dead is (told-of 481 branch told)))
    by-becomes (Goes_nowhere dead is) = inr (Passed_on passes (Dropped dead is))
    by-becomes (Gone_back itself ended back) =
        inr (Passed_on passes (Ended_itself itself (ap (λ (n : Net Session). live_at got.app n) after-is ∙ ended)
        (subst (λ (n : Net Session). IsAnsweredBack setup n (entry_of got.app.host to.host sent) sent 481 does_not_exist) (sym put-is) back)))
    by-becomes (Full_back back tells) =
        inr (Passed_on passes (Full_there (subst (λ (n : Net Session). IsFoundFull setup n got.app to sent) (sym put-is) back) (comes-back 503 tells)))

    passed : Goal
    passed = by-becomes (becomes setup net got.app turn.live Waits turn.event turn.now turn.made turn.end epoch to sent passes.before passes.order sends-last)

  -- ### It isn't

  may-turn : MayTurn as_session setup net got.app turn.event turn.now turn.made turn.end
  unfolding IsAllowed
  may-turn = subst (λ (s : Step). IsAllowed as_session setup net s) turn.step sound.ready.fine.allowed

  may-shown : (may : MayTurn as_session setup net got.app turn.event turn.now turn.made turn.end) → shown as_session setup net got.app may.live may.waiting turn.now ≡ shown_at setup moment got to turn
  unfolding shown as_session
  may-shown may =
      let live : may.live ≡ turn.live = some-is may.live turn.live (sym may.live_is ∙ turn.lives) in
      let waiting : may.waiting ≡ Waits = some-is may.waiting Waits (sym may.waiting_is ∙ (ap (λ (l : Live Session). slice_get l.inbox 0) live ∙ first)) in
      ap (λ (l : Live Session). prepared setup.config Ringing l.session may.waiting turn.now) live ∙ ap (λ (w : Waiting). prepared setup.config Ringing turn.live.session w turn.now) waiting

  allowed-here : ∥ AllowedBy (charters_of setup got.app.host) (shown_at setup moment got to turn) turn.made turn.end ∥₁
  allowed-here = subst (λ (p : Prepared). ∥ AllowedBy (charters_of setup got.app.host) p turn.made turn.end ∥₁) (may-shown may-turn) may-turn.allowed

  refuses : (code : ℕ) (reason : Bytes) → (shown_at setup moment got to turn).event ≡ None → IsRefusedThere turn.live.session turn.request code reason → IsRefusedFirst setup moment got to turn code reason
  refuses code reason none there =
      turn-refuses setup.config Ringing turn.live.session got.waiting.number turn.request turn.now turn.made turn.end (charters_of setup got.app.host)
      (silent-allowed (charters_of setup got.app.host) (shown_at setup moment got to turn) turn.made turn.end none allowed-here) code reason there

  of-none : session_for turn.live.session turn.request ≡ None → Goal
  unfolding IsRefusedThere
  of-none none =
      inr (Of_no_dialog none (refuses 481 does_not_exist (quiet-none setup.config Ringing turn.live.session got.waiting.number turn.now turn.request none).event (inl (none, refl, refl))))

  of-low : (sess : SessId) (found : SessionView) → session_for turn.live.session turn.request ≡ Some sess → session_in turn.live.session.view sess ≡ Some found
      → is_low (leg_of turn.live.session.known sess) turn.request ≡ true → Goal
  unfolding IsRefusedThere
  of-low sess found for there low =
      inr (Of_low_number sess for low
      (refuses 500 server_error (quiet-low setup.config Ringing turn.live.session got.waiting.number turn.now turn.request sess found for there low).event (inr (sess, found, for, there, low, refl, refl))))

  of-own : (sess : SessId) (found : SessionView) → session_for turn.live.session turn.request ≡ Some sess → session_in turn.live.session.view sess ≡ Some found
      → is_low (leg_of turn.live.session.known sess) turn.request ≡ false → is_proxy found.role ≡ false → Goal
  of-own sess found for there high other =
      inr (Of_own_session sess found for there other
      (ap (λ (p : Prepared). p.event) (shown-is setup.config Ringing turn.live.session got.waiting.number turn.now turn.request sess found for there high)
      ∙ taken-event (dated turn.live.session turn.now) got.waiting.number found turn.request))

  module _ (comes : ComesToProxy turn.live.session turn.request) where
    of-hops : (none : IsEndedIn setup moment got to turn comes.found.id → ⊥) → is_invalid (worked_all setup.config (shown_at setup moment got to turn) turn.made).known comes.found.id ≡ false
        → (hops : ℕ) → turn.request.hops ≡ hops → Goal
    of-hops none valid zero is =
        inr (Of_no_hops is (turn-stops setup.config Ringing turn.live.session got.waiting.number turn.request turn.now turn.made turn.end counted comes none valid is))
    of-hops none valid (suc hops) is =
        passed (turn-goes setup.config Ringing turn.live.session got.waiting.number turn.request turn.now turn.made turn.end counted comes none valid hops is)

    of-valid : (none : IsEndedIn setup moment got to turn comes.found.id → ⊥) → (b : Bool)
        → is_invalid (worked_all setup.config (shown_at setup moment got to turn) turn.made).known comes.found.id ≡ b → Goal
    of-valid none true is =
        absurd (never-ended setup.config Ringing turn.live.session got.waiting.number turn.request turn.now turn.made comes (tied got.app turn.live turn.lives) none is)
    of-valid none false is = of-hops none is turn.request.hops refl

    of-calls : IsEndedIn setup moment got to turn comes.found.id ⊎ (IsEndedIn setup moment got to turn comes.found.id → ⊥) → Goal
    of-calls (inl ends) =
        inr (Ended_by_call comes ends (turn-ends setup.config Ringing turn.live.session got.waiting.number turn.request turn.now turn.made turn.end counted comes ends))
    of-calls (inr none) = of-valid none (is_invalid (worked_all setup.config (shown_at setup moment got to turn) turn.made).known comes.found.id) refl

    of-proxy : Goal
    of-proxy = of-calls (turn-either setup.config Ringing turn.live.session got.waiting.number turn.request turn.now turn.made turn.end counted comes)

  by-role : (sess : SessId) (found : SessionView) → session_for turn.live.session turn.request ≡ Some sess → session_in turn.live.session.view sess ≡ Some found
      → is_low (leg_of turn.live.session.known sess) turn.request ≡ false → (b : Bool) → is_proxy found.role ≡ b → Goal
  by-role sess found for there high true proxy = of-proxy (record { sess = sess; for = for; found = found; there = there; proxy = proxy; high = high })
  by-role sess found for there high false other = of-own sess found for there high other

  by-low : (sess : SessId) (found : SessionView) → session_for turn.live.session turn.request ≡ Some sess → session_in turn.live.session.view sess ≡ Some found → (b : Bool)
      → is_low (leg_of turn.live.session.known sess) turn.request ≡ b → Goal
  by-low sess found for there true low = of-low sess found for there low
  by-low sess found for there false high = by-role sess found for there high (is_proxy found.role) refl

  by-found : (which : Option SessionView) → find (takes_request turn.live.session.known turn.request) turn.live.session.view.sessions ≡ which → Goal
  unfolding session_for
  by-found None none = of-none (ap (λ (s : Option SessionView). option_map (λ x. x.id) s) none)
  by-found (Some s) is =
      let there = found-again (takes_request turn.live.session.known turn.request) turn.live.session.view.sessions s is in
      by-low s.id there.0 (ap (λ (x : Option SessionView). option_map (λ y. y.id) x) is) there.1 (is_low (leg_of turn.live.session.known s.id) turn.request) refl

  goes-or-halts : Goal
  goes-or-halts = by-found (find (takes_request turn.live.session.known turn.request) turn.live.session.view.sessions) refl

abbrev AllTied : Moment → Type 0
AllTied moment = (app : AppId) (live : Live Session) → live_at app moment.before ≡ Some live → TiedIn live.session.view live.session.known

-- in a lawful run
pub goes-on-or-halts : (setup : Setup) (epoch began : ℕ) (journal : List Step) → IsLawful as_session setup epoch began journal
    → AreSmallNumbers setup epoch (chained as_session setup epoch began journal) → AreSmallDraws setup (moments setup epoch began journal) → (place : ℕ) (moment : Moment) (got : Got) (to : AppId)
    → slice_get (moments setup epoch began journal) place ≡ Some moment → IsOf64 epoch to 0 → (turn : TurnsTo setup moment got to) → ComesNext moment got to ⊎ IsHalted setup moment got to turn
goes-on-or-halts setup epoch began journal lawful numbers drawn place moment got to at within turn =
    goes-or-halts setup epoch numbers.within moment
    (all-at (IsSound setup epoch) (moments setup epoch began journal) place moment at (run-sound setup epoch began journal lawful numbers drawn))
    (all-at (HasNewBranches setup) (moments setup epoch began journal) place moment at (run-new setup epoch began journal lawful numbers drawn))
    (all-at AllTied (moments setup epoch began journal) place moment at
    (run-each setup epoch began journal lawful AllTied (λ before step later is allowed. tied-after setup epoch began before))) got to within turn
