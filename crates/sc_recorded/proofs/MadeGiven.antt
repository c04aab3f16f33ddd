-- The requests that a turn gives to send, where what it proxies is the request that began the session: each has no Record-Route, or that
-- of the one that was proxied, with the own URI in front where the session stays on the path. These are the facts from which the walk over
-- its event, its calls and its end shows it.
use Rattle.std.proofs.Common.{◌≡◌, ◌≤◌, ℕ, Bool, true, false, Option, Some, List, [], ◌∷◌, refl, sym, subst, arith}
use Rattle.std.specs.Prelude.{is_some, length, option_and_then}
use Rattle.sc_value.specs.declared.ids.AppId.{AppId}
use Rattle.sc_value.specs.declared.ids.ReqId.{ReqId}
use Rattle.sc_value.specs.declared.message.Request.{Request}
use Rattle.sc_value.specs.declared.parts.Address.{Address}
use Rattle.sc_value.specs.declared.parts.Via.{Via}
use Rattle.sc_terms.specs.declared.calls.CallRecord.{CallRecord}
use Rattle.sc_terms.specs.declared.calls.End.{End}
use Rattle.sc_terms.specs.declared.settings.Config.{Config}
use Rattle.sc_terms.specs.declared.views.RequestView.{RequestView}
use Rattle.sc_terms.specs.declared.views.View.{View}
use Rattle.sc_state.specs.declared.orders.Order.{Order}
use Rattle.sc_state.specs.declared.orders.Order.TheVariants as orders
use Rattle.sc_state.specs.declared.proxy.Proxy.{Proxy}
use Rattle.sc_state.specs.declared.queue.Queued.{Queued}
use Rattle.sc_state.specs.declared.session.Kept.{Kept}
use Rattle.sc_state.specs.declared.session.Session.{Session}
use Rattle.sc_state.specs.declared.working.Prepared.{Prepared}
use Rattle.sc_state.specs.declared.working.Working.{Working}
use Rattle.sc_model.specs.DialogRequests.{ack_request, later_head, later_request, next_request}
use Rattle.sc_model.specs.Dialogs.{tag_of}
use Rattle.sc_hosts.specs.Acting.{all_act, drafts_ended, after_fault as faulted, is_request_event, passes_later}
use Rattle.sc_hosts.specs.Branches.{records_route}
use Rattle.sc_hosts.specs.Looking.{request_in}
use Rattle.sc_hosts.specs.Messages.{asked_request, leg_request, on_branch, own_via, passed_request, proxied_request}
use Rattle.sc_hosts.specs.Preparing.{kept_of, prepared_for}
use Rattle.sc_hosts.specs.Working.{worked_all}
use Rattle.sc_lasting.specs.Lasting.{All}
use Rattle.sc_lasting.proofs.Parts.{all-both}
use Rattle.sc_given.specs.Givings.{DraftLaws, GivingLaws, IsNamed, MayStart, Passes, Starts}
use Rattle.sc_given.proofs.GivenCalls.{worked_all-gives}
use Rattle.sc_given.proofs.GivenEnds.{all_act-gives, before-gives}
use Rattle.sc_given.proofs.GivenPassing.{passes_later-gives}
use Rattle.sc_given.proofs.GivenShown.{prepared-kind}
use Rattle.sc_recorded.specs.Recorded.{route_behind as routed}

-- it has neither Vias nor a Record-Route
abbrev IsBare : Request → Type 0
IsBare request = (request.head.via ≡ []) × (request.head.record_route ≡ [])

-- where it has no To tag: with the own Via alone it has no Record-Route, and with others below it has these Routes
abbrev pub IsMadeOf : List Address → Request → Type 0
IsMadeOf routes request =
    is_some (tag_of request.head.to) ≡ false → (length request.head.via ≡ 1 → request.head.record_route ≡ []) × (2 ≤ length request.head.via → request.head.record_route ≡ routes)

-- what it proxies is the request that began the session, by options that stay on the path or don't
abbrev pub ProxiesAs : Bool → Request → Proxy → Type 0
ProxiesAs stays began proxy = (proxy.request ≡ began) × (records_route proxy ≡ stays)

short : (vias : List Via) (own : Via) → vias ≡ [] → 2 ≤ length (own ∷ vias) → ⊥
short [] own none most = omega (arith, most)
short (via ∷ vias) own none most = cc

longer : (vias : List Via) (own : Via) → 1 ≤ length vias → length (own ∷ vias) ≡ 1 → ⊥
longer [] own some one = omega (arith, some)
longer (via ∷ vias) own some one = omega (arith, one)

clash : (b : Bool) → b ≡ true → b ≡ false → ⊥
clash b p q = cc

module _ (routes : List Address) where
  -- so it is of the request of an order
  unfoldable pub IsMadeOrder : Order → Type 0
  IsMadeOrder (orders.Begin branch directive region state request) = IsMadeOf routes request
  IsMadeOrder (orders.Send branch request) = IsMadeOf routes request
  IsMadeOrder (orders.Acknowledge request) = IsMadeOf routes request
  IsMadeOrder order = Unit {0}

  -- each request among them is such
  abbrev pub AreMade : List Order → Type 0
  AreMade given = All IsMadeOrder given

  made-giving : GivingLaws IsMadeOrder (All IsMadeOrder)
  unfolding IsMadeOrder
  made-giving = record { more = λ given new kind had. all-both IsMadeOrder given new had kind; responds = λ event response. tt; cancels = λ branch. tt; cancels_now = λ branch. tt }

  -- what a turn shows
  pub prepared-made : (config : Config) (ringing : List ℕ) (x : Session) (number : ℕ) (event : Queued) → AreMade (prepared_for config ringing x number event).orders
  unfolding IsMadeOrder
  prepared-made config ringing x number event = prepared-kind IsMadeOrder (λ event response. tt) config ringing x number event

  -- ## The calls

  branch-made : (config : Config) (view : View) (branch : ℕ) (request : Request) → IsBare request → IsMadeOf routes (on_branch config view branch request)
  unfolding on_branch
  branch-made config view branch request bare = λ untagged. (λ one. bare.1, λ most. absurd (short request.head.via (own_via config view.epoch view.app branch) bare.0 most))

  -- a request that an application makes has neither Vias nor a Record-Route before it is sent
  made-drafts : DraftLaws IsMadeOrder IsBare IsBare
  unfolding IsMadeOrder asked_request leg_request next_request ack_request later_request later_head
  made-drafts = record {
    asked = λ call_id tag ask. (refl, refl);
    leg = λ call_id tag uri request. (refl, refl);
    next = λ dialog ask. (refl, refl);
    ack = λ dialog number body. (refl, refl);
    first_contact = λ contacts request bare. bare;
    later_contact = λ contacts request bare. bare;
    begins = λ config view branch directive region state request bare. branch-made config view branch request bare;
    sends = λ config view branch request bare. branch-made config view branch request bare;
    acknowledges = λ config view branch request bare. branch-made config view branch request bare;
  }

  pub worked_all-made : (config : Config) (shown : Prepared) (made : List CallRecord) → AreMade shown.orders → AreMade (worked_all config shown made).orders
  worked_all-made config shown made all = worked_all-gives IsMadeOrder (All IsMadeOrder) made-giving IsBare IsBare made-drafts config shown made all

  -- before proxies act
  pub before-made : (config : Config) (req : Option ReqId) (end : End) (working : Working) → AreMade working.orders → AreMade (faulted config req end (drafts_ended working)).orders
  before-made config req end working made = before-gives config IsMadeOrder (All IsMadeOrder) made-giving req end working made

  -- ## A later request is passed on

  tagged-passes : (config : Config) (request : Request) → is_some (tag_of request.head.to) ≡ true → Passes config IsMadeOrder request
  unfolding IsMadeOrder on_branch passed_request
  tagged-passes config request tagged = λ view branch. ((λ untagged. absurd (clash _ tagged untagged)), (λ untagged. absurd (clash _ tagged untagged)))

  pub passes_later-made : (config : Config) (event : Queued) (req : Option ReqId) (working : Working)
      → (is_request_event event ≡ true → (r : RequestView) (k : Kept) → option_and_then (request_in working.play.view) req ≡ Some r → kept_of working.known r.id ≡ Some k → is_some (tag_of k.request.head.to) ≡ true)
      → AreMade working.orders → AreMade (passes_later config event req working).orders
  passes_later-made config event req working tagged made =
      passes_later-gives IsMadeOrder (All IsMadeOrder) made-giving config event req working (λ later r k found has. tagged-passes config k.request (tagged later r k found has)) made

-- ## Proxies

module _ (config : Config) (epoch : ℕ) (app : AppId) (stays : Bool) (began : Request) (some : 1 ≤ length began.head.via) where
  -- the Record-Route that it has as it is proxied
  abbrev pub behind : List Address
  behind = routed config epoch app stays began.head.record_route

  made-starts : Starts config epoch app (IsMadeOrder behind) (ProxiesAs stays began)
  unfolding IsMadeOrder on_branch proxied_request routed
  made-starts =
      λ view named proxy same branch directive region state uri untagged. (
        (λ one. absurd (longer proxy.request.head.via (own_via config view.epoch view.app branch) (subst (λ (r : Request). 1 ≤ length r.head.via) (sym same.0) some) one)),
        (λ most. rw (same.1, named.0, named.1, same.0) refl),
      )

  pub all_act-made : (working : Working) → All (MayStart (ProxiesAs stays began)) working.known.proxies → IsNamed epoch app working.play.view → AreMade behind working.orders → AreMade behind (all_act config working).orders
  all_act-made working may named made =
      all_act-gives config (IsMadeOrder behind) (All (IsMadeOrder behind)) (made-giving behind) epoch app (ProxiesAs stays began) made-starts working may named made
