-- What a turn gives to send has the own Via alone, but the later request that it passes on: the facts from which the walk over its
-- calls and its end shows it.
use Rattle.std.proofs.Common.{◌≡◌, ℕ, Option, List, [], ◌∷◌, ◌++◌, refl}
use Rattle.std.specs.Prelude.{length}
use Rattle.sc_value.specs.declared.ids.ReqId.{ReqId}
use Rattle.sc_value.specs.declared.message.Request.{Request}
use Rattle.sc_value.specs.declared.parts.Via.{Via}
use Rattle.sc_terms.specs.declared.calls.CallRecord.{CallRecord}
use Rattle.sc_terms.specs.declared.calls.End.{End}
use Rattle.sc_terms.specs.declared.settings.Config.{Config}
use Rattle.sc_state.specs.declared.orders.Order.{Order}
use Rattle.sc_state.specs.declared.working.Prepared.{Prepared}
use Rattle.sc_state.specs.declared.working.Working.{Working}
use Rattle.sc_model.specs.DialogRequests.{ack_request, later_head, later_request, next_request}
use Rattle.sc_hosts.specs.Acting.{all_act, drafts_ended, after_fault as faulted}
use Rattle.sc_hosts.specs.Messages.{on_branch, own_via}
use Rattle.sc_hosts.specs.Working.{worked_all}
use Rattle.sc_lasting.specs.Lasting.{All}
use Rattle.sc_given.specs.Givings.{DraftLaws, GivingLaws}
use Rattle.sc_given.proofs.GivenCalls.{worked_all-gives}
use Rattle.sc_given.proofs.GivenEnds.{all_act-any, before-gives}
use Rattle.sc_hops.specs.Hops.{AreShort, IsAny, IsShort}

shorts-all : (given : List Order) → All IsShort given → AreShort given
unfolding AreShort All
shorts-all [] all = tt
shorts-all (order ∷ given) all = (all.0, shorts-all given all.1)

shorts-more : (given new : List Order) → All IsShort new → AreShort given → AreShort (given ++ new)
unfolding AreShort
shorts-more [] new all short = shorts-all new all
shorts-more (order ∷ given) new all short = (short.0, shorts-more given new all short.1)

pub short-none : AreShort []
unfolding AreShort
short-none = tt

pub short-giving : GivingLaws IsShort AreShort
unfolding IsShort
short-giving = record { more = shorts-more; responds = λ event response. tt; cancels = λ branch. tt; cancels_now = λ branch. tt }

-- a request that an application makes has no Via yet
abbrev HasNoVia : Request → Type 0
HasNoVia request = request.head.via ≡ []

one-via : (vias : List Via) (via : Via) → vias ≡ [] → ◌≡◌ {A = ℕ} (length (via ∷ vias)) 1
one-via vias via is = rw is refl

short-drafts : DraftLaws IsShort IsAny HasNoVia
unfolding IsShort on_branch next_request ack_request later_request later_head
short-drafts = record {
  asked = λ call_id tag ask. tt;
  leg = λ call_id tag uri request. tt;
  next = λ dialog ask. refl;
  ack = λ dialog number body. refl;
  first_contact = λ contacts request any. tt;
  later_contact = λ contacts request none. none;
  begins = λ config view branch directive region state request any. tt;
  sends = λ config view branch request none. one-via request.head.via (own_via config view.epoch view.app branch) none;
  acknowledges = λ config view branch request none. one-via request.head.via (own_via config view.epoch view.app branch) none;
}

-- what was given so far in a turn has the own Via alone
abbrev pub Brief : Working → Type 0
Brief working = AreShort working.orders

-- all calls of a turn
pub worked_all-short : (config : Config) (shown : Prepared) (made : List CallRecord) → AreShort shown.orders → Brief (worked_all config shown made)
worked_all-short config shown made short = worked_all-gives IsShort AreShort short-giving IsAny HasNoVia short-drafts config shown made short

-- before a later request is passed on
pub before-short : (config : Config) (req : Option ReqId) (end : End) (working : Working) → Brief working → Brief (all_act config (faulted config req end (drafts_ended working)))
unfolding IsShort
before-short config req end working brief =
    all_act-any config IsShort AreShort short-giving (λ branch directive region state request. tt) (faulted config req end (drafts_ended working)) (before-gives config IsShort AreShort short-giving req end working brief)
