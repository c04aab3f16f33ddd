-- A turn queues no request on the branch of a later request that it sends, but that one and what goes its way.
use Rattle.std.proofs.Common.{◌≡◌, ℕ, zero, suc, true, false, Option, Some, List, [], ◌∷◌, refl, sym, subst}
use Rattle.std.specs.Prelude.{slice_get}
use Rattle.std.specs.Option.{option_map_or}
use Rattle.sc_value.specs.declared.ids.AppId.{AppId}
use Rattle.sc_value.specs.declared.message.Request.{Request}
use Rattle.sc_value.specs.declared.parts.Address.{Address}
use Rattle.sc_value.specs.declared.parts.Via.{Via}
use Rattle.sc_terms.specs.declared.calls.CallRecord.{CallRecord}
use Rattle.sc_terms.specs.declared.calls.End.{End}
use Rattle.sc_terms.specs.declared.settings.Config.{Config}
use Rattle.sc_terms.specs.declared.steps.Step.TheVariants as steps
use Rattle.sc_parts.specs.declared.setup.Setup.{Setup}
use Rattle.sc_state.specs.declared.host.Client.{Client}
use Rattle.sc_state.specs.Hosts.{Host}
use Rattle.sc_state.specs.declared.host.Live.{Live}
use Rattle.sc_state.specs.declared.net.Entry.{Entry}
use Rattle.sc_state.specs.declared.net.Net.{Net}
use Rattle.sc_state.specs.declared.orders.Order.{Order}
use Rattle.sc_state.specs.declared.orders.Order.TheVariants as orders
use Rattle.sc_state.specs.declared.queue.Waiting.{Waiting}
use Rattle.sc_state.specs.declared.session.Session.{Session}
use Rattle.sc_tokens.specs.Bytes.{Bytes}
use Rattle.sc_hosts.specs.Histories.{as_session}
use Rattle.sc_hosts.specs.Messages.{kin}
use Rattle.sc_hosts.specs.Nets.{host_at, with_routes}
use Rattle.sc_hosts.specs.Runs.{after_step}
use Rattle.sc_hosts.specs.Steps.{live_at, outcome_by, turn_of}
use Rattle.sc_hosts.specs.Transacting.{same_top, same_via, top_via}
use Rattle.sc_lasting.specs.Lasting.{All}
use Rattle.sc_lasting.proofs.Shared.{kin-top}
use Rattle.sc_lasting.proofs.Parts.{all-map}
use Rattle.sc_hops.specs.Hops.{AreFit, AreKinds, AreOtherBranches, GoesAs, GoesAsBranch, HasBranchOf, HasNoClient, IsFit, IsOnWay, IsOrdered, IsOtherBranch, IsSettled, Is_ack, Is_send, Sends, SendsLater}
use Rattle.sc_hops.proofs.Carried.{Holds}
use Rattle.sc_hops.proofs.OneTurn.{none-on-way, nothing-above, unrouted-vias}
use Rattle.sc_hops.proofs.Turned.{turn-holds}

-- ## What goes its way

pub goes-itself : (request : Request) → GoesAs request request
goes-itself request = record { route = refl; uri = refl; call_id = refl }

pub kin-branch : (request : Request) (method : Bytes) (to : Address) (other : Request) → HasBranchOf request (kin method to other) → HasBranchOf request other
unfolding same_top kin
kin-branch request method to other is =
    subst (λ (top : Option Via). option_map_or (λ x. option_map_or (same_via x) top false) (top_via request.head.via) false ≡ true) (kin-top other.head.via) is

kin-goes : (request : Request) (method : Bytes) (to : Address) (other : Request) → GoesAs request other → GoesAs request (kin method to other)
unfolding kin
kin-goes request method to other goes = record { route = goes.route; uri = goes.uri; call_id = goes.call_id }

-- a CANCEL, and the ACK to a refusal, go as their INVITE
pub branch-kinds : (request : Request) → AreKinds (GoesAsBranch request) (GoesAsBranch request) (HasBranchOf request) (GoesAs request)
branch-kinds request = record {
  kin_way = λ method to other sound is. kin-goes request method to other (sound (kin-branch request method to other is));
  kin_sound = λ method to other sound is. kin-goes request method to other (sound (kin-branch request method to other is));
  way_sound = λ other way. way;
  sent = λ config other way tagged is. way (subst (λ (vias : List Via). same_top request.head.via vias ≡ true) (unrouted-vias config other) is);
}

-- ## What the turn gives to send

none-goes : (request other : Request) → (HasBranchOf request other → ⊥) → GoesAsBranch request other
none-goes request other none = λ is. absurd (none is)

routed-goes : (request other : Request) (routes : List Address) → (HasBranchOf request other → ⊥) → GoesAsBranch request (with_routes routes other)
routed-goes request other routes none = λ is. absurd (none is)

other-ordered : (config : Config) (request : Request) (order : Order) → IsOtherBranch request order → IsOrdered config (GoesAsBranch request) (GoesAsBranch request) order
unfolding IsOtherBranch IsOrdered
other-ordered config request (orders.Respond event response) other = tt
other-ordered config request (orders.Begin branch directive region state sent) other = (none-goes request sent other, λ routes. routed-goes request sent routes other)
other-ordered config request (orders.Send branch sent) other = (none-goes request sent other, λ own. none-goes request sent other)
other-ordered config request (orders.Acknowledge sent) other = λ own. none-goes request sent other
other-ordered config request (orders.Cancel branch) other = tt
other-ordered config request (orders.CancelNow branch) other = tt

all-others : (given : List Order) (config : Config) (request : Request) → All (IsOtherBranch request) given → All (IsOrdered config (GoesAsBranch request) (GoesAsBranch request)) given
all-others given config request others = all-map (IsOtherBranch request) (IsOrdered config (GoesAsBranch request) (GoesAsBranch request)) given (λ order other. other-ordered config request order other) others

own-ordered : (config : Config) (request : Request) (order : Order) → Sends request order → IsOrdered config (GoesAsBranch request) (GoesAsBranch request) order
unfolding IsOrdered
own-ordered config request order (Is_send branch is) = rw is ((λ same. goes-itself request), λ own same. goes-itself request)
own-ordered config request order (Is_ack is) = rw is (λ own same. goes-itself request)

given-ordered : (given : List Order) (place : ℕ) (config : Config) (request : Request) (order : Order) → slice_get given place ≡ Some order → Sends request order → AreOtherBranches request given place
    → All (IsOrdered config (GoesAsBranch request) (GoesAsBranch request)) given
unfolding AreOtherBranches All
given-ordered [] place config request order at sends others = tt
given-ordered (first ∷ given) zero config request order at sends others =
    (own-ordered config request first (subst (λ (o : Order). Sends request o) (sym (some-is first order at)) sends), all-others given config request others)
  where
    some-is : (x y : Order) → Some x ≡ Some y → x ≡ y
    some-is x y is = cc
given-ordered (first ∷ given) (suc place) config request order at sends others = (other-ordered config request first others.0, given-ordered given place config request order at sends others.1)

-- ## The turn

no-clients : (request : Request) (clients : List Client) → All (λ (client : Client). HasBranchOf request client.request → ⊥) clients → All (λ (client : Client). GoesAsBranch request client.request) clients
no-clients request clients none = all-map (λ (client : Client). HasBranchOf request client.request → ⊥) (λ (client : Client). GoesAsBranch request client.request) clients (λ client other. none-goes request client.request other) none

clients-of : (request : Request) (net : Net Session) → HasNoClient request net → (number : ℕ) (host : Host Session) → host_at number net ≡ Some host
    → All (λ (client : Client). GoesAsBranch request client.request) host.clients
unfolding HasNoClient
clients-of request net none number host at = no-clients request host.clients (none number host at)

pub branch-turn : (setup : Setup) (net : Net Session) (app : AppId) (live : Live Session) (waiting : Waiting) (event now : ℕ) (made : List CallRecord) (end : End) (place : ℕ) (request : Request) (order : Order)
    → IsSettled net → live_at app net ≡ Some live → slice_get live.inbox 0 ≡ Some waiting
    → slice_get (outcome_by as_session setup.config live.session (turn_of (record net { sent = [] }) app waiting now made end)).orders place ≡ Some order → Sends request order
    → AreOtherBranches request (outcome_by as_session setup.config live.session (turn_of (record net { sent = [] }) app waiting now made end)).orders place → HasNoClient request net
    → Holds {S = Session} (GoesAsBranch request) (GoesAsBranch request) (HasBranchOf request) (GoesAs request) setup net.epoch net.count (branch-kinds request) (after_step as_session setup net (steps.Turn end app event now made))
branch-turn setup net app live waiting event now made end place request order settled lives first at sends others none =
    turn-holds {S = Session} (GoesAsBranch request) (GoesAsBranch request) (HasBranchOf request) (GoesAs request) setup net.epoch net.count (branch-kinds request) as_session app net live waiting event now made end lives first
    (given-ordered _ place setup.config request order at sends others)
    (record {
      same = refl;
      hosts = λ number host there. (nothing-above (HasBranchOf request) (GoesAs request) setup net.epoch net settled.numbered settled.within number host there, clients-of request net none number host there);
      wire = none-on-way (λ (entry : Entry). IsOnWay (GoesAsBranch request) entry.message) net.wire settled.quiet;
    })

-- as a law
pub turn-sends : (setup : Setup) (net : Net Session) (app : AppId) (event now : ℕ) (made : List CallRecord) (end : End) (place : ℕ) (request : Request) → IsSettled net
    → SendsLater setup net app now made end place request → (number : ℕ) (host : Host Session) → host_at number (after_step as_session setup net (steps.Turn end app event now made)) ≡ Some host
    → AreFit (IsFit (HasBranchOf request) (GoesAs request) setup.config net.epoch) net.count number host.sessions
turn-sends setup net app event now made end place request settled out number host at =
    let holds = branch-turn setup net app out.live out.waiting event now made end place request out.order settled out.lives out.first out.at out.sends out.others out.clients in
    (holds.hosts number host at).0
