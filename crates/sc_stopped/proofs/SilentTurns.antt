-- A turn whose event is a later request that no SipSession takes, or whose number is too low: nobody is called, it is answered, and it isn't
-- passed on.
use Rattle.std.proofs.Common.{◌≡◌, inl, inr, ℕ, Bool, true, false, Option, None, Some, List, [], ◌++◌, ◌∙◌, refl, sym, subst, ap, append_assoc, append-nil}
use Rattle.std.specs.Prelude.{cond}
use Rattle.sc_value.specs.declared.ids.ReqId.{ReqId}
use Rattle.sc_value.specs.declared.ids.SessId.{SessId}
use Rattle.sc_value.specs.declared.message.Request.{Request}
use Rattle.sc_terms.specs.declared.calls.CallRecord.{CallRecord}
use Rattle.sc_terms.specs.declared.calls.End.TheVariants as ends
use Rattle.sc_terms.specs.declared.calls.End.{End}
use Rattle.sc_terms.specs.declared.events.Event.{Event}
use Rattle.sc_terms.specs.declared.settings.Config.{Config}
use Rattle.sc_terms.specs.declared.views.SessionView.{SessionView}
use Rattle.sc_state.specs.declared.orders.Order.{Order}
use Rattle.sc_state.specs.declared.queue.Queued.TheVariants as queued
use Rattle.sc_state.specs.declared.queue.Queued.{Queued}
use Rattle.sc_state.specs.declared.queue.Waiting.{Waiting}
use Rattle.sc_state.specs.declared.session.Session.{Session}
use Rattle.sc_state.specs.declared.working.Prepared.{Prepared}
use Rattle.sc_state.specs.declared.working.Working.{Working}
use Rattle.sc_tokens.specs.Bytes.{Bytes}
use Rattle.sc_model.specs.BestResponses.{server_error}
use Rattle.sc_model.specs.Settings.{Charters}
use Rattle.sc_hosts.specs.Acting.{all_act, drafts_ended, after_fault as faulted, passed_request_of, is_request_event, passes_later}
use Rattle.sc_hosts.specs.Bringing.{Allowed, IsSilent}
use Rattle.sc_hosts.specs.Finishing.{after_all_calls as finished, outcome, outcome_of}
use Rattle.sc_hosts.specs.Legs.{is_low, leg_of, session_for}
use Rattle.sc_hosts.specs.Looking.{session_in}
use Rattle.sc_hosts.specs.Preparing.{prepared_session as prepared, prepared_for}
use Rattle.sc_hosts.specs.PreparingRequests.{prepared_request, refusal_orders as refused, silent, prepared_for_request as taken, taken_in, too_low}
use Rattle.sc_hosts.specs.Runs.{AllowedBy}
use Rattle.sc_hosts.specs.Words.{does_not_exist}
use Rattle.sc_hosts.specs.Working.{starts, worked_all}
use Rattle.sc_lasting.specs.Lasting.{All}
use Rattle.sc_lasting.proofs.Parts.{all-both}
use Rattle.sc_given.specs.Givings.{GivingLaws}
use Rattle.sc_given.proofs.GivenEnds.{all_act-any}
use Rattle.sc_stopped.specs.Stopped.{IsNoLater, IsRefusedThere, RefusesFirst}

-- what was given goes on with orders of which none sends a request in a dialog
record GrowsBy (base given : List Order) : Type 0 where
  more : List Order
  is : given ≡ base ++ more
  none : All IsNoLater more

module _ (base : List Order) where
  grown-more : (given new : List Order) → All IsNoLater new → GrowsBy base given → GrowsBy base (given ++ new)
  grown-more given new none grows = record {
    more = grows.more ++ new;
    is = ap (λ (old : List Order). old ++ new) grows.is ∙ append_assoc base grows.more new;
    none = all-both IsNoLater grows.more new grows.none none;
  }

  growing : GivingLaws IsNoLater (GrowsBy base)
  unfolding IsNoLater
  growing = record { more = grown-more; responds = λ event response. tt; cancels = λ branch. tt; cancels_now = λ branch. tt }

  all_act-grows : (config : Config) (working : Working) → GrowsBy base working.orders → GrowsBy base (all_act config working).orders
  unfolding IsNoLater
  all_act-grows config working grows = all_act-any config IsNoLater (GrowsBy base) growing (λ branch directive region state request. tt) working grows

-- where it is about no request nothing is passed on
passed-none : (config : Config) (event : Queued) (working : Working) → passes_later config event None working ≡ working
unfolding passes_later passed_request_of
passed-none config event working = by (is_request_event event)
  where
    by : (b : Bool) → cond b working working ≡ working
    by true = refl
    by false = refl

-- ## A turn for which nobody is called

-- what the event shows
pub record IsQuiet (base : List Order) (shown : Prepared) : Type 0 where
  pub event : shown.event ≡ None
  pub req : shown.req ≡ None
  pub given : shown.orders ≡ base

pub silent-calls : (charters : Option Charters) (shown : Prepared) (made : List CallRecord) (end : End) → shown.event ≡ None → AllowedBy charters shown made end → (made ≡ []) × (end ≡ ends.Fine)
unfolding AllowedBy Allowed IsSilent
silent-calls None shown made end none allowed = absurd allowed
silent-calls (Some charters) shown made end none allowed = subst (λ (event : Option Event). Allowed charters.0 charters.1 shown.view event made end) none allowed

starts-grow : (config : Config) (base : List Order) (shown : Prepared) → IsQuiet base shown → GrowsBy base (drafts_ended (worked_all config shown [])).orders
unfolding worked_all starts drafts_ended All
starts-grow config base shown quiet = record { more = []; is = quiet.given ∙ sym (append-nil base); none = tt }

ended-grows : (config : Config) (base : List Order) (shown : Prepared) (event : Queued) → IsQuiet base shown
    → GrowsBy base (finished config event shown.req ends.Fine (worked_all config shown [])).orders
unfolding finished faulted
ended-grows config base shown event quiet =
    let acting = all_act config (drafts_ended (worked_all config shown [])) in
    let acted = all_act-grows base config (drafts_ended (worked_all config shown [])) (starts-grow config base shown quiet) in
    let last = subst (λ (after : Working). GrowsBy base after.orders) (sym (passed-none config event acting)) acted in
    subst (λ (req : Option ReqId). GrowsBy base (passes_later config event req acting).orders) (sym quiet.req) last

refuses : (config : Config) (ringing : List ℕ) (x : Session) (waiting : Waiting) (now : ℕ) (made : List CallRecord) (end : End) (base : List Order) (charters : Option Charters)
    → IsQuiet base (prepared config ringing x waiting now) → AllowedBy charters (prepared config ringing x waiting now) made end
    → RefusesFirst config ringing x waiting now made end base
unfolding outcome outcome_of
refuses config ringing x waiting now made end base charters quiet allowed =
    let silence = silent-calls charters (prepared config ringing x waiting now) made end quiet.event allowed in
    let grows = ended-grows config base (prepared config ringing x waiting now) waiting.event quiet in
    let fine : RefusesFirst config ringing x waiting now [] ends.Fine base = record { event = quiet.event; more = grows.more; given = grows.is; none = grows.none } in
    subst (λ (calls : List CallRecord). RefusesFirst config ringing x waiting now calls end base) (sym silence.0)
    (subst (λ (last : End). RefusesFirst config ringing x waiting now [] last base) (sym silence.1) fine)

-- ## Later requests

clash : false ≡ true → ⊥
clash is = cc

abbrev dated : Session → ℕ → Session
dated x now = record x { view = record x.view { now = now } }

none-shown : (y : Session) (number : ℕ) (request : Request) → IsQuiet (refused number 481 does_not_exist request) (prepared_request y number request None)
unfolding prepared_request silent
none-shown y number request = record { event = refl; req = refl; given = refl }

pub quiet-none : (config : Config) (ringing : List ℕ) (x : Session) (number now : ℕ) (request : Request) → session_for x request ≡ None
    → IsQuiet (refused number 481 does_not_exist request) (prepared config ringing x (record { number = number; event = queued.Request request }) now)
unfolding prepared prepared_for session_for
quiet-none config ringing x number now request none =
    subst (λ (found : Option SessId). IsQuiet (refused number 481 does_not_exist request) (prepared_request (dated x now) number request found)) (sym none)
    (none-shown (dated x now) number request)

abbrev pub low_answer : ℕ → Request → List Order
low_answer number request = refused number 500 server_error request

low-shown : (y : Session) (number : ℕ) (sess : SessId) (found : SessionView) (request : Request) (b : Bool) → b ≡ true
    → IsQuiet (low_answer number request) (cond b (too_low y number sess request) (taken y number found request))
unfolding too_low silent
low-shown y number sess found request true is = record { event = refl; req = refl; given = refl }
low-shown y number sess found request false is = absurd (clash is)

low-taken : (y : Session) (number : ℕ) (sess : SessId) (found : SessionView) (request : Request) → is_low (leg_of y.known sess) request ≡ true
    → IsQuiet (low_answer number request) (taken_in y number sess (Some found) request)
unfolding taken_in
low-taken y number sess found request is = low-shown y number sess found request (is_low (leg_of y.known sess) request) is

low-requested : (y : Session) (number : ℕ) (sess : SessId) (found : SessionView) (request : Request) → session_in y.view sess ≡ Some found → is_low (leg_of y.known sess) request ≡ true
    → IsQuiet (low_answer number request) (prepared_request y number request (Some sess))
unfolding prepared_request
low-requested y number sess found request there is =
    subst (λ (which : Option SessionView). IsQuiet (low_answer number request) (taken_in y number sess which request)) (sym there) (low-taken y number sess found request is)

pub quiet-low : (config : Config) (ringing : List ℕ) (x : Session) (number now : ℕ) (request : Request) (sess : SessId) (found : SessionView) → session_for x request ≡ Some sess
    → session_in x.view sess ≡ Some found → is_low (leg_of x.known sess) request ≡ true
    → IsQuiet (low_answer number request) (prepared config ringing x (record { number = number; event = queued.Request request }) now)
unfolding prepared prepared_for session_for
quiet-low config ringing x number now request sess found for there low =
    subst (λ (which : Option SessId). IsQuiet (low_answer number request) (prepared_request (dated x now) number request which)) (sym for)
    (low-requested (dated x now) number sess found request there low)

pub turn-refuses : (config : Config) (ringing : List ℕ) (x : Session) (number : ℕ) (request : Request) (now : ℕ) (made : List CallRecord) (end : End) (charters : Option Charters)
    → AllowedBy charters (prepared config ringing x (record { number = number; event = queued.Request request }) now) made end → (code : ℕ) (reason : Bytes) → IsRefusedThere x request code reason
    → RefusesFirst config ringing x (record { number = number; event = queued.Request request }) now made end (refused number code reason request)
unfolding IsRefusedThere
turn-refuses config ringing x number request now made end charters allowed code reason (inl none) =
    rw (none.1, none.2)
    (refuses config ringing x (record { number = number; event = queued.Request request }) now made end (refused number 481 does_not_exist request) charters
    (quiet-none config ringing x number now request none.0) allowed)
turn-refuses config ringing x number request now made end charters allowed code reason (inr low) =
    rw (low.5, low.6)
    (refuses config ringing x (record { number = number; event = queued.Request request }) now made end (low_answer number request) charters
    (quiet-low config ringing x number now request low.0 low.1 low.2 low.3 low.4) allowed)
