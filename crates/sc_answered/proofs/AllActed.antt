-- All that proxies do after a turn makes of the states of SipSessions what is told of it.
use Rattle.std.proofs.Common.{List, [], ◌∷◌, subst, sym}
use Rattle.std.specs.List.{fold}
use Rattle.sc_terms.specs.declared.settings.Config.{Config}
use Rattle.sc_terms.specs.declared.views.SessionView.{SessionView}
use Rattle.sc_state.specs.declared.proxy.Proxy.{Proxy}
use Rattle.sc_state.specs.declared.working.Working.{Working}
use Rattle.sc_hosts.specs.Acting.{after_proxy as proxy_acted, acts, all_act, after_start as started}
use Rattle.sc_hosts.specs.Branches.{starting}
use Rattle.sc_hosts.specs.PreparingResponses.{is_invalid}
use Rattle.sc_answered.specs.Happened.{acted_from, by_proxy as acted, acted_by, all_acted}
use Rattle.sc_answered.proofs.Standing.{Comes, comes-next, comes-same, comes-then, if-comes}
use Rattle.sc_answered.proofs.Forwarded.{Goes, sessions_at, started-comes}
use Rattle.sc_answered.proofs.Proxied.{from-comes, from-is, from_of}

acted-comes : (config : Config) (proxy : Proxy) (working : Working) → Goes (acted config proxy working) working (proxy_acted config proxy working)
unfolding acted
acted-comes config proxy working =
    subst (λ (after : List SessionView). Comes (acted_from proxy (fold (started config proxy) working (starting proxy))) working.play.view.sessions after)
    (sym (from-is config proxy working))
    (comes-next (acted_from proxy (fold (started config proxy) working (starting proxy))) working.play.view.sessions (fold (started config proxy) working (starting proxy)).play.view.sessions
    (from_of proxy (fold (started config proxy) working (starting proxy))).play.view.sessions (started-comes config proxy (starting proxy) working)
    (from-comes proxy (fold (started config proxy) working (starting proxy))))

acts-come : (config : Config) (proxy : Proxy) (working : Working) → Goes (acted_by config proxy working) working (acts config working proxy)
unfolding acted_by acts
acts-come config proxy working =
    if-comes sessions_at (is_invalid working.known proxy.sess) working.play.view.sessions [] (acted config proxy working) working (proxy_acted config proxy working) (comes-same working.play.view.sessions) (acted-comes config proxy working)

proxies-come : (proxies : List Proxy) (config : Config) (working : Working) → Goes (all_acted config proxies working) working (fold (acts config) working proxies)
unfolding all_acted
proxies-come [] config working = comes-same working.play.view.sessions
proxies-come (proxy ∷ proxies) config working =
    let next : Working = acts config working proxy in
    comes-then (acted_by config proxy working) (all_acted config proxies next) working.play.view.sessions next.play.view.sessions (fold (acts config) next proxies).play.view.sessions (acts-come config proxy working) (proxies-come proxies config next)

pub all-come : (config : Config) (working : Working) → Goes (all_acted config working.known.proxies working) working (all_act config working)
unfolding all_act
all-come config working = proxies-come working.known.proxies config working
