-- What proxies make of the states of SipSessions, once they have acted.
use Rattle.std.proofs.Common.{◌≡◌, Bool, true, false, List, [], refl}
use Rattle.std.specs.Prelude.{◌&&◌, ◌||◌, cond, is_some, map, not}
use Rattle.std.specs.List.{fold}
use Rattle.sc_value.specs.declared.ids.ReqId.{ReqId}
use Rattle.sc_value.specs.declared.ids.SessId.{SessId}
use Rattle.sc_terms.specs.declared.settings.Config.{Config}
use Rattle.sc_terms.specs.declared.views.SessionView.{SessionView}
use Rattle.sc_terms.specs.declared.views.State.TheVariants.{Terminated}
use Rattle.sc_state.specs.declared.proxy.Proxy.{Proxy}
use Rattle.sc_state.specs.declared.session.Known.{Known}
use Rattle.sc_state.specs.declared.working.Working.{Working}
use Rattle.sc_hosts.specs.Acting.{after_proxy as proxy_acted, chooses, closed_session, closes, in_view, is_over, passes, proxy_now, sends_cancels, after_start as started}
use Rattle.sc_hosts.specs.Branches.{is_exhausted, starting}
use Rattle.sc_hosts.specs.DerivedSessions.{is_of}
use Rattle.sc_hosts.specs.Looking.{in_state, is_early, is_initial_state, same_session}
use Rattle.sc_answered.specs.StateOf.{Exhausted, meaning}
use Rattle.sc_answered.specs.Happened.{acted_last, acted_next, acted_from, by_choice as chosen, by_exhaustion as exhausted, exhausted_by, by_passing as passed}
use Rattle.sc_answered.proofs.StateAfter.{state_after}
use Rattle.sc_answered.proofs.Standing.{Comes, comes-all, comes-same, comes-then, if-comes}
use Rattle.sc_answered.proofs.Forwarded.{Goes, chosen-comes, passed-comes, sessions_at}

-- ## When the search is over

-- a SipSession of the request, when its search is over
over-state : (of early initial derived : Bool) (s : SessionView) → of ≡ true
    → (cond (of && (early || (initial && derived))) (in_state Terminated s) s).state ≡ cond (early || (initial && derived)) Terminated s.state
unfolding in_state
over-state true true initial derived s is = refl
over-state true false true true s is = refl
over-state true false true false s is = refl
over-state true false false derived s is = refl
over-state false early initial derived s is = cc

over-same : (of more : Bool) (s : SessionView) → of ≡ false → (cond (of && more) (in_state Terminated s) s).state ≡ s.state
unfolding in_state
over-same true more s is = cc
over-same false more s is = refl

over-id : (b : Bool) (s : SessionView) → (cond b (in_state Terminated s) s).id ≡ s.id
unfolding in_state
over-id true s = refl
over-id false s = refl

over-comes : (known : Known) (req : ReqId) (original : SessId) (xs : List SessionView)
    → Comes (exhausted_by known req original xs) xs (map (closed_session known req original) xs)
unfolding exhausted_by closed_session is_over state_after meaning
over-comes known req original xs =
    comes-all (is_of known req) (λ s. Exhausted (not (same_session s.id original))) (closed_session known req original) (λ s. over-id _ s)
    (λ s is. over-state (is_of known req s) (is_early s.state) (is_initial_state s.state) (not (same_session s.id original)) s is)
    (λ s is. over-same (is_of known req s) _ s is) xs

closes-come : (proxy : Proxy) (working : Working) → Goes (exhausted proxy working) working (closes proxy working)
unfolding exhausted closes
closes-come proxy working =
    if-comes sessions_at (is_exhausted proxy && is_some proxy.options) working.play.view.sessions (exhausted_by working.known proxy.req proxy.sess working.play.view.sessions) []
    (in_view (record working.play.view { sessions = map (closed_session working.known proxy.req proxy.sess) working.play.view.sessions }) working) working
    (over-comes working.known proxy.req proxy.sess working.play.view.sessions) (comes-same working.play.view.sessions)

-- the CANCELs that are given out before change nothing of it
closed-comes : (now proxy : Proxy) (working : Working)
    → Comes (exhausted now (sends_cancels proxy working)) working.play.view.sessions (closes now (sends_cancels proxy working)).play.view.sessions
unfolding sends_cancels
closed-comes now proxy working = closes-come now (sends_cancels proxy working)

-- ## One after the other

pub last_of : Proxy → Working → Working
last_of proxy working = closes (proxy_now proxy working) (sends_cancels proxy working)

pub next_of : Proxy → Working → Working
next_of proxy working = last_of proxy (chooses (proxy_now proxy working) working)

pub from_of : Proxy → Working → Working
from_of proxy working = next_of proxy (passes (proxy_now proxy working) proxy.passing working)

last-comes : (proxy : Proxy) (working : Working) → Goes (acted_last proxy working) working (last_of proxy working)
unfolding acted_last last_of
last-comes proxy working = closed-comes (proxy_now proxy working) proxy working

next-comes : (proxy : Proxy) (working : Working) → Goes (acted_next proxy working) working (next_of proxy working)
unfolding acted_next next_of
next-comes proxy working =
    comes-then (chosen (proxy_now proxy working) working) (acted_last proxy (chooses (proxy_now proxy working) working)) working.play.view.sessions
    (chooses (proxy_now proxy working) working).play.view.sessions (last_of proxy (chooses (proxy_now proxy working) working)).play.view.sessions
    (chosen-comes (proxy_now proxy working) working) (last-comes proxy (chooses (proxy_now proxy working) working))

pub from-comes : (proxy : Proxy) (working : Working) → Goes (acted_from proxy working) working (from_of proxy working)
unfolding acted_from from_of
from-comes proxy working =
    comes-then (passed (proxy_now proxy working) proxy.passing working) (acted_next proxy (passes (proxy_now proxy working) proxy.passing working)) working.play.view.sessions
    (passes (proxy_now proxy working) proxy.passing working).play.view.sessions (next_of proxy (passes (proxy_now proxy working) proxy.passing working)).play.view.sessions
    (passed-comes (proxy_now proxy working) proxy.passing working) (next-comes proxy (passes (proxy_now proxy working) proxy.passing working))

pub from-is : (config : Config) (proxy : Proxy) (working : Working)
    → (proxy_acted config proxy working).play.view.sessions ≡ (from_of proxy (fold (started config proxy) working (starting proxy))).play.view.sessions
unfolding proxy_acted last_of next_of from_of
from-is config proxy working = refl
