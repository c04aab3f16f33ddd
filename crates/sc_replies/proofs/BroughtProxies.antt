-- What a session proxies goes by the event that brought its request, as proxies act.
use Rattle.std.proofs.Common.{◌≡◌, ℕ, Bool, true, false, Option, None, Some, List, [], ◌∷◌, refl}
use Rattle.std.specs.Prelude.{◌&&◌, cond, is_none, is_some, unwrap_or}
use Rattle.std.specs.List.{fold}
use Rattle.sc_value.specs.declared.ids.SessId.{SessId}
use Rattle.sc_value.specs.declared.message.Response.{Response}
use Rattle.sc_value.specs.declared.parts.Uri.{Uri}
use Rattle.sc_terms.specs.declared.settings.Config.{Config}
use Rattle.sc_state.specs.declared.proxy.Passing.{Passing}
use Rattle.sc_state.specs.declared.proxy.Proxy.{Proxy}
use Rattle.sc_state.specs.declared.session.Known.{Known}
use Rattle.sc_state.specs.declared.working.Working.{Working}
use Rattle.sc_model.specs.BestResponses.{best_response}
use Rattle.sc_model.specs.SessionStates.{is_final}
use Rattle.sc_hosts.specs.Acting.{after_proxy as acted, acts, all_act, chooses, closes, forwards, forwards_best, passes, proxy_now, at_rest as rested, sends_cancels, after_start as started, with_forwarded}
use Rattle.sc_hosts.specs.Branches.{can_choose, can_pass, is_exhausted, starting}
use Rattle.sc_hosts.specs.Looking.{same_request}
use Rattle.sc_hosts.specs.Preparing.{proxy_of}
use Rattle.sc_hosts.specs.PreparingResponses.{is_invalid}
use Rattle.sc_walked.proofs.WalkParts.{if-is}
use Rattle.sc_lasting.specs.Lasting.{All}
use Rattle.sc_lasting.proofs.Parts.{all-first, all-found, all-map}
use Rattle.sc_replies.specs.Came.{Came}
use Rattle.sc_replies.proofs.Brought.{FitsIn, GoesBy, ProxyBy, ProxyFits}
use Rattle.sc_replies.proofs.CameProxies.{ProxiesCame, ProxyCame}

-- what came under the number of a proxied request is that request, by its event
abbrev pub ProxyIs : List Came → Proxy → Type 0
ProxyIs came proxy = All (λ (one : Came). one.id.0 ≡ proxy.req.0 → ProxyBy proxy one) came

-- a proxied request came, and goes by the event that brought it
abbrev pub IsBrought : List Came → Proxy → Type 0
IsBrought came proxy = ProxyIs came proxy × ProxyCame came proxy

-- by the event alone
pub goes-by : (came : List Came) (proxy : Proxy) → IsBrought came proxy → GoesBy came proxy.req proxy.event
goes-by came proxy by =
    all-map (λ (one : Came). one.id.0 ≡ proxy.req.0 → ProxyBy proxy one) (λ (one : Came). one.id.0 ≡ proxy.req.0 → one.event ≡ proxy.event) came (λ one is same. (is same).0) by.0

-- so do all
abbrev pub AreBrought : List Came → Known → Type 0
AreBrought came known = All (IsBrought came) known.proxies

all-both : (next : ℕ) (came : List Came) (all : List Proxy) → All (ProxyFits next came) all → All (ProxyCame came) all → All (IsBrought came) all
unfolding All
all-both next came [] fits has = tt
all-both next came (proxy ∷ all) fits has = ((fits.0.1, has.0), all-both next came all fits.1 has.1)

pub all-brought : (came : List Came) (working : Working) → FitsIn came working → ProxiesCame came working.known → AreBrought came working.known
all-brought came working fit has = all-both working.play.view.next_request came working.known.proxies fit.3 has

module _ (came : List Came) where
  if-brought : (b : Bool) (y z : Working) → AreBrought came y.known → AreBrought came z.known → AreBrought came (cond b y z).known
  if-brought true y z p q = p
  if-brought false y z p q = q

  found-brought : (proxy : Proxy) (known : Known) (found : Option Proxy) → proxy_of known proxy.req ≡ found → IsBrought came proxy → AreBrought came known → IsBrought came (unwrap_or found proxy)
  unfolding proxy_of
  found-brought proxy known None is by all = by
  found-brought proxy known (Some other) is by all = all-found (IsBrought came) (λ p. same_request p.req proxy.req) known.proxies other is all

  -- as it is now
  pub now-brought : (proxy : Proxy) (working : Working) → IsBrought came proxy → AreBrought came working.known → IsBrought came (proxy_now proxy working)
  unfolding proxy_now
  now-brought proxy working by all = found-brought proxy working.known (proxy_of working.known proxy.req) refl by all

  one-started : (config : Config) (proxy : Proxy) (working : Working) (uri : Uri) → AreBrought came working.known → AreBrought came (started config proxy working uri).known
  unfolding started
  one-started config proxy working uri all = all-first (IsBrought came) (λ p. same_request p.req proxy.req) _ working.known.proxies (λ p found by. by) all

  pub start-brought : (config : Config) (proxy : Proxy) (uris : List Uri) (working : Working) → AreBrought came working.known → AreBrought came (fold (started config proxy) working uris).known
  start-brought config proxy [] working all = all
  start-brought config proxy (uri ∷ uris) working all = start-brought config proxy uris (started config proxy working uri) (one-started config proxy working uri all)

  code-brought : (code : ℕ) (proxy : Proxy) → IsBrought came proxy → IsBrought came (with_forwarded code proxy)
  unfolding with_forwarded
  code-brought code proxy by = if-is (IsBrought came) (is_final code && is_none proxy.forwarded) (record proxy { forwarded = Some code }) proxy by by

  forward-brought : (proxy : Proxy) (sess : SessId) (response : Response) (working : Working) → AreBrought came working.known → AreBrought came (forwards proxy sess response working).known
  unfolding forwards
  forward-brought proxy sess response working all =
      all-first (IsBrought came) (λ p. same_request p.req proxy.req) (with_forwarded response.code) working.known.proxies (λ p found. code-brought response.code p) all

  pub pass-brought : (proxy : Proxy) (passing : Option Passing) (working : Working) → AreBrought came working.known → AreBrought came (passes proxy passing working).known
  unfolding passes
  pass-brought proxy None working all = all
  pass-brought proxy (Some passing) working all =
      if-brought (can_pass proxy passing.response) (forwards proxy passing.sess passing.response working) working (forward-brought proxy passing.sess passing.response working all) all

  best-brought : (proxy : Proxy) (response : Option Response) (working : Working) → AreBrought came working.known → AreBrought came (forwards_best proxy response working).known
  unfolding forwards_best
  best-brought proxy None working all = all
  best-brought proxy (Some response) working all = forward-brought proxy proxy.sess response working all

  choose-brought : (proxy : Proxy) (working : Working) → AreBrought came working.known → AreBrought came (chooses proxy working).known
  unfolding chooses
  choose-brought proxy working all =
      if-brought (can_choose proxy) (forwards_best proxy (best_response proxy.candidates) working) working (best-brought proxy (best_response proxy.candidates) working all) all

  close-brought : (proxy : Proxy) (working : Working) → AreBrought came working.known → AreBrought came (closes proxy working).known
  unfolding closes
  close-brought proxy working all = if-brought (is_exhausted proxy && is_some proxy.options) _ working all all

  rest-brought : (proxy : Proxy) → IsBrought came proxy → IsBrought came (rested proxy)
  unfolding rested
  rest-brought proxy by = by

  acted-brought : (config : Config) (proxy : Proxy) (working : Working) → AreBrought came working.known → AreBrought came (acted config proxy working).known
  unfolding acted sends_cancels
  acted-brought config proxy working all =
      let begun : Working = fold (started config proxy) working (starting proxy) in
      let passed : Working = passes (proxy_now proxy begun) proxy.passing begun in
      let chosen : Working = chooses (proxy_now proxy passed) passed in
      let closed : Working = closes (proxy_now proxy chosen) (sends_cancels proxy chosen) in
      all-first (IsBrought came) (λ p. same_request p.req proxy.req) rested closed.known.proxies (λ p found. rest-brought p)
      (close-brought (proxy_now proxy chosen) (sends_cancels proxy chosen)
      (choose-brought (proxy_now proxy passed) passed (pass-brought (proxy_now proxy begun) proxy.passing begun (start-brought config proxy (starting proxy) working all))))

  pub acts-brought : (config : Config) (working : Working) (proxy : Proxy) → AreBrought came working.known → AreBrought came (acts config working proxy).known
  unfolding acts
  acts-brought config working proxy all = if-brought (is_invalid working.known proxy.sess) working (acted config proxy working) all (acted-brought config proxy working all)

  all-acted : (all : List Proxy) (config : Config) (working : Working) → AreBrought came working.known → AreBrought came (fold (acts config) working all).known
  all-acted [] config working by = by
  all-acted (proxy ∷ all) config working by = all-acted all config (acts config working proxy) (acts-brought config working proxy by)

  pub acted-came : (config : Config) (working : Working) → FitsIn came working → ProxiesCame came working.known → ProxiesCame came (all_act config working).known
  unfolding all_act
  acted-came config working fit has =
      all-map (IsBrought came) (ProxyCame came) _ (λ proxy by. by.1) (all-acted working.known.proxies config working (all-brought came working fit has))
