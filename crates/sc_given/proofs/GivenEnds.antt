-- What a turn gives at its end, as it answers a fault and its proxies act, is of the kind of which it was.
use Rattle.std.proofs.Common.{◌≡◌, inl, inr, ℕ, Bool, true, false, Option, None, Some, List, [], ◌∷◌, refl}
use Rattle.std.specs.Prelude.{cond, take}
use Rattle.std.specs.List.{fold}
use Rattle.sc_value.specs.declared.ids.AppId.{AppId}
use Rattle.sc_value.specs.declared.ids.Directive.{Directive}
use Rattle.sc_value.specs.declared.ids.Region.{Region}
use Rattle.sc_value.specs.declared.ids.ReqId.{ReqId}
use Rattle.sc_value.specs.declared.ids.SessId.{SessId}
use Rattle.sc_value.specs.declared.message.Request.{Request}
use Rattle.sc_value.specs.declared.message.Response.{Response}
use Rattle.sc_value.specs.declared.parts.Uri.{Uri}
use Rattle.sc_terms.specs.declared.calls.End.{End}
use Rattle.sc_terms.specs.declared.calls.End.TheVariants as ends
use Rattle.sc_terms.specs.declared.settings.Config.{Config}
use Rattle.sc_terms.specs.declared.views.RequestView.{RequestView}
use Rattle.sc_terms.specs.declared.views.View.{View}
use Rattle.sc_state.specs.declared.orders.Order.{Order}
use Rattle.sc_state.specs.declared.orders.Order.TheVariants as orders
use Rattle.sc_state.specs.declared.proxy.Passing.{Passing}
use Rattle.sc_state.specs.declared.proxy.Proxy.{Proxy}
use Rattle.sc_state.specs.declared.working.Working.{Working}
use Rattle.sc_hosts.specs.Acting.{drafts_ended, fault_at, after_fault as faulted, after_start as started, forwarded_view, forwards, passes, forwards_best, chooses, closes, proxy_now, sends_cancels, with_subscribed, after_proxy as acted, acts, all_act}
use Rattle.sc_hosts.specs.Branches.{has_open, is_parallel, starting}
use Rattle.sc_hosts.specs.Looking.{request_in}
use Rattle.sc_hosts.specs.ViewChanges.{answered_in, tidy}
use Rattle.sc_hosts.specs.Working.{next_branch}
use Rattle.sc_lasting.specs.Lasting.{All}
use Rattle.sc_given.specs.Givings.{GivingLaws, IsNamed, MayStart, Starts}
use Rattle.sc_given.proofs.GivenCalls.{answering-gives, cancels-kind, fold-keeps, gives-one}

-- ## Nothing starts without a target

no-targets : (parallel open_branch : Bool) (targets : List Uri) → targets ≡ [] → cond parallel targets (cond open_branch [] (take 1 targets)) ≡ []
no-targets true open_branch targets none = none
no-targets false true targets none = refl
no-targets false false targets none = rw none refl

none-starting : (proxy : Proxy) → proxy.targets ≡ [] → starting proxy ≡ []
unfolding starting
none-starting proxy none = no-targets (is_parallel proxy) (has_open proxy) proxy.targets none

-- ## A session keeps its name as it forwards

if-named : (epoch : ℕ) (app : AppId) (b : Bool) (x y : View) → IsNamed epoch app x → IsNamed epoch app y → IsNamed epoch app (cond b x y)
if-named epoch app true x y p q = p
if-named epoch app false x y p q = q

subscribed-named : (epoch : ℕ) (app : AppId) (proxy : Proxy) (sess : SessId) (response : Response) (view : View) → IsNamed epoch app view → IsNamed epoch app (with_subscribed proxy sess response view)
unfolding with_subscribed
subscribed-named epoch app proxy sess response view named = if-named epoch app _ _ view named named

forwarded-named : (epoch : ℕ) (app : AppId) (proxy : Proxy) (sess : SessId) (request : Option RequestView) (response : Response) (view : View) → IsNamed epoch app view
    → IsNamed epoch app (forwarded_view proxy sess request response view)
unfolding forwarded_view answered_in tidy
forwarded-named epoch app proxy sess None response view named = named
forwarded-named epoch app proxy sess (Some request) response view named = named

module _ (config : Config) (Kind : Order → Type 0) (Given : List Order → Type 0) (law : GivingLaws Kind Given) where
  -- ## Before proxies act

  if-given : (b : Bool) (x y : Working) → Given x.orders → Given y.orders → Given (cond b x y).orders
  if-given true x y p q = p
  if-given false x y p q = q

  drafts_ended-gives : (working : Working) → Given working.orders → Given (drafts_ended working).orders
  unfolding drafts_ended
  drafts_ended-gives working had = had

  fault_at-gives : (request : Option RequestView) (working : Working) → Given working.orders → Given (fault_at config request working).orders
  unfolding fault_at
  fault_at-gives None working had = had
  fault_at-gives (Some request) working had = if-given _ _ working (answering-gives Kind Given law config (Some request) _ working had) had

  faulted-gives : (req : Option ReqId) (end : End) (working : Working) → Given working.orders → Given (faulted config req end working).orders
  unfolding faulted
  faulted-gives req ends.Fine working had = had
  faulted-gives req ends.Fault working had = fault_at-gives _ working had
  faulted-gives req ends.Starved working had = had

  pub before-gives : (req : Option ReqId) (end : End) (working : Working) → Given working.orders → Given (faulted config req end (drafts_ended working)).orders
  before-gives req end working had = faulted-gives req end _ (drafts_ended-gives working had)

  -- ## Proxies act

  module _ (epoch : ℕ) (app : AppId) (Such : Proxy → Type 0) (begins : Starts config epoch app Kind Such) where
    -- so is all that was given so far, and the session has its name
    abbrev Holds : Working → Type 0
    Holds working = Given working.orders × IsNamed epoch app working.play.view

    if-holds : (b : Bool) (x y : Working) → Holds x → Holds y → Holds (cond b x y)
    if-holds true x y p q = p
    if-holds false x y p q = q

    started-holds : (proxy : Proxy) → Such proxy → (working : Working) (uri : Uri) → Holds working → Holds (started config proxy working uri)
    unfolding started
    started-holds proxy such working uri holds =
        (gives-one Kind Given law working.orders _ (begins working.play.view holds.1 proxy such (next_branch working) _ _ _ uri) holds.0, holds.1)

    all-started : (proxy : Proxy) (working : Working) → MayStart Such proxy → Holds working → Holds (fold (started config proxy) working (starting proxy))
    unfolding MayStart
    all-started proxy working (inl such) holds = fold-keeps Holds (starting proxy) (started config proxy) (started-holds proxy such) working holds
    all-started proxy working (inr none) holds = rw (none-starting proxy none) holds

    forwards-holds : (proxy : Proxy) (sess : SessId) (response : Response) (working : Working) → Holds working → Holds (forwards proxy sess response working)
    unfolding forwards
    forwards-holds proxy sess response working holds = (
      gives-one Kind Given law working.orders _ (law.responds _ response) holds.0,
      forwarded-named epoch app proxy sess (request_in working.play.view proxy.req) response _ (subscribed-named epoch app proxy sess response working.play.view holds.1),
    )

    passes-holds : (proxy : Proxy) (passing : Option Passing) (working : Working) → Holds working → Holds (passes proxy passing working)
    unfolding passes
    passes-holds proxy None working holds = holds
    passes-holds proxy (Some passing) working holds = if-holds _ _ working (forwards-holds proxy passing.sess passing.response working holds) holds

    forwards_best-holds : (proxy : Proxy) (response : Option Response) (working : Working) → Holds working → Holds (forwards_best proxy response working)
    unfolding forwards_best
    forwards_best-holds proxy None working holds = holds
    forwards_best-holds proxy (Some response) working holds = forwards-holds proxy proxy.sess response working holds

    chooses-holds : (proxy : Proxy) (working : Working) → Holds working → Holds (chooses proxy working)
    unfolding chooses
    chooses-holds proxy working holds = if-holds _ _ working (forwards_best-holds proxy _ working holds) holds

    closes-holds : (proxy : Proxy) (working : Working) → Holds working → Holds (closes proxy working)
    unfolding closes
    closes-holds proxy working holds = if-holds _ _ working holds holds

    sends_cancels-holds : (proxy : Proxy) (working : Working) → Holds working → Holds (sends_cancels proxy working)
    unfolding sends_cancels
    sends_cancels-holds proxy working holds = (law.more working.orders _ (cancels-kind Kind Given law _) holds.0, holds.1)

    acted-holds : (proxy : Proxy) (working : Working) → MayStart Such proxy → Holds working → Holds (acted config proxy working)
    unfolding acted
    acted-holds proxy working may holds =
        let begun = fold (started config proxy) working (starting proxy) in
        let one = all-started proxy working may holds in
        let passed = passes (proxy_now proxy begun) proxy.passing begun in
        let two = passes-holds (proxy_now proxy begun) proxy.passing begun one in
        let chosen = chooses (proxy_now proxy passed) passed in
        closes-holds (proxy_now proxy chosen) _ (sends_cancels-holds proxy chosen (chooses-holds (proxy_now proxy passed) passed two))

    acts-holds : (working : Working) (proxy : Proxy) → MayStart Such proxy → Holds working → Holds (acts config working proxy)
    unfolding acts
    acts-holds working proxy may holds = if-holds _ working _ holds (acted-holds proxy working may holds)

    all-act : (proxies : List Proxy) (working : Working) → All (MayStart Such) proxies → Holds working → Holds (fold (acts config) working proxies)
    unfolding All
    all-act [] working may holds = holds
    all-act (proxy ∷ proxies) working may holds = all-act proxies (acts config working proxy) may.1 (acts-holds working proxy may.0 holds)

    -- where each proxy is such or has no target
    pub all_act-gives : (working : Working) → All (MayStart Such) working.known.proxies → IsNamed epoch app working.play.view → Given working.orders → Given (all_act config working).orders
    unfolding all_act
    all_act-gives working may named had = (all-act working.known.proxies working may (had, named)).0

  -- ## Where each initial request is of the kind

  any-start : (proxies : List Proxy) → All (MayStart (λ (proxy : Proxy). Unit {0})) proxies
  unfolding All MayStart
  any-start [] = tt
  any-start (proxy ∷ proxies) = (inl tt, any-start proxies)

  pub all_act-any : ((branch : ℕ) (directive : Directive) (region : Region) (state : Option ℕ) (request : Request) → Kind (orders.Begin branch directive region state request)) → (working : Working)
      → Given working.orders → Given (all_act config working).orders
  all_act-any begins working had =
      all_act-gives working.play.view.epoch working.play.view.app (λ (proxy : Proxy). Unit {0}) (λ view named proxy such branch directive region state uri. begins branch directive region state _) working
      (any-start working.known.proxies) (refl, refl) had
