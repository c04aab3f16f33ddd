-- Changes of one element of a list, and what is done, by the values that it takes. This project's
-- own.
use Rattle.std.specs.Prelude.{List, ◌∷◌, [], true, Option, Some}
use Rattle.std.specs.List.{fold}
use Rattle.sc_value.specs.declared.ids.Directive.{Directive}
use Rattle.sc_value.specs.declared.ids.ReqId.{ReqId}
use Rattle.sc_value.specs.declared.ids.SessId.{SessId}
use Rattle.sc_value.specs.declared.message.Request.{Request}
use Rattle.sc_terms.specs.declared.calls.CallRecord.{CallRecord}
use Rattle.sc_terms.specs.declared.settings.Config.{Config}
use Rattle.sc_state.specs.declared.orders.Order.TheVariants as orders
use Rattle.sc_state.specs.declared.session.Leg.{Leg}
use Rattle.sc_state.specs.declared.working.Working.{Working}
use Rattle.sc_state.specs.declared.working.Written.{Written}
use Rattle.sc_hosts.specs.Legs.{change_leg}
use Rattle.sc_hosts.specs.Messages.{on_branch}
use Rattle.sc_hosts.specs.Giving.{giving}
use Rattle.sc_hosts.specs.Working.{after_one_call, keeps_sent, next_branch, router_state}

-- the draft with another directive and origin
unfoldable pub with_directive : Directive → Option ReqId → Written → Written
with_directive directive origin draft = record draft { directive = directive; origin = origin }

-- the leg, begun by this request
unfoldable pub with_first : ReqId → Leg → Leg
with_first req leg = record leg { first = Some req }

-- the leg of a SipSession that the application ended
unfoldable pub as_invalidated : Leg → Leg
as_invalidated leg = record leg { invalidated = true }

-- an initial request is sent, by the directive of its draft
unfoldable pub begins : Config → Directive → SessId → Request → Working → Working
begins config directive sess request working =
    giving
    (orders.Begin (next_branch working) directive working.known.region
    (router_state directive working.known)
    (on_branch config working.play.view (next_branch working) request) ∷ [])
    (keeps_sent sess request
    (record working {
      known = change_leg sess (with_first (record { 0 = working.play.view.next_request }))
          working.known;
    }))

-- the calls from where they begin
unfoldable pub worked_on : Config → Working → List CallRecord → Working
worked_on config working made =
    fold (λ working made. after_one_call config working made.call) working made
