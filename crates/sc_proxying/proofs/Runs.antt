-- What happens to a proxied request leaves it the same request; and one thing after the other makes its list longer.
use Rattle.std.proofs.Common.{◌≡◌, ◌≤◌, ◌<◌, ℕ, zero, suc, ◌++◌, Bool, true, false, List, [], ◌∷◌, refl, sym, ap, subst, ◌∙◌, arith}
use Rattle.std.specs.Prelude.{◌==◌, ◌&&◌, cond, drop, is_none, length, not}
use Rattle.std.specs.List.{list_any}
use Rattle.std.specs.Option.{option_map_or}
use Rattle.std.proofs.lemmas.Bool.Decides.{nat_tests}
use Rattle.sc_value.specs.declared.ids.SessId.{SessId}
use Rattle.sc_value.specs.declared.message.Response.{Response}
use Rattle.sc_value.specs.declared.parts.Uri.{Uri}
use Rattle.sc_state.specs.declared.proxy.Proxy.{Proxy}
use Rattle.sc_model.specs.SessionStates.{is_final}
use Rattle.sc_model.specs.Transactions.{is_success}
use Rattle.sc_hosts.specs.Acting.{at_rest as rested, with_forwarded}
use Rattle.sc_hosts.specs.Branches.{added_targets, after_end, branch_in, ended_branch, ended_by, proxy_after_response as heard, is_global, is_open, new_proxy, passing_on, after_ringing as rung, without_search as stopped, to_cancel, with_candidate, with_targets}
use Rattle.sc_proxied.specs.ProxyLists.{Asked, Expired, Forwarded, Heard, IsHad, PassedOn, ProxyEvent, Rested, Started, Stopped, TimedOut, added_since, happens, is_open_in, proxy_after, started_by, started_of, taken_since, targets_of, was_started}
use Rattle.sc_proxied.proofs.Happenings.{proxies-stand}
use Rattle.sc_lasting.specs.Lasting.{All}
use Rattle.sc_lasting.proofs.Parts.{all-append, all-map}
use Rattle.sc_proxying.specs.Proxying.{as_begun}

-- ## The same request

if-begun : (b : Bool) (x y z : Proxy) → as_begun x ≡ z → as_begun y ≡ z → as_begun (cond b x y) ≡ z
if-begun true x y z p q = p
if-begun false x y z p q = q

candidate-begun : (response : Response) (p : Proxy) → as_begun (with_candidate response p) ≡ as_begun p
unfolding with_candidate
candidate-begun response p = if-begun _ p (record p { candidates = p.candidates ++ response ∷ [] }) (as_begun p) refl refl

end-begun : (number : ℕ) (sess : SessId) (response : Response) (p : Proxy) → as_begun (ended_by number sess response p) ≡ as_begun p
unfolding ended_by ended_branch with_targets stopped passing_on
end-begun number sess response p =
    let two : Proxy = with_candidate response (ended_branch number response.code p) in
    let ended : Proxy = with_targets (added_targets p response) two in
    let all : as_begun ended ≡ as_begun p = candidate-begun response (ended_branch number response.code p) in
    if-begun (is_success response.code) (passing_on sess response (stopped ended)) (cond (is_global response.code) (stopped ended) ended) (as_begun p) all
    (if-begun (is_global response.code) (stopped ended) ended (as_begun p) all all)

heard-begun : (number : ℕ) (sess : SessId) (response : Response) (now : ℕ) (p : Proxy) → as_begun (heard number sess response now p) ≡ as_begun p
unfolding heard after_end rung passing_on stopped
heard-begun number sess response now p =
    if-begun (not (option_map_or is_open (branch_in p number) false)) (after_end sess response p) (cond (is_final response.code) (ended_by number sess response p) (passing_on sess response (rung number now p))) (as_begun p)
    (if-begun (is_success response.code) (passing_on sess response (stopped p)) p (as_begun p) refl refl)
    (if-begun (is_final response.code) (ended_by number sess response p) (passing_on sess response (rung number now p)) (as_begun p) (end-begun number sess response p) refl)

pub happens-begun : (event : ProxyEvent) (p : Proxy) → as_begun (happens event p) ≡ as_begun p
unfolding happens with_targets stopped with_forwarded rested to_cancel
happens-begun (Asked uris) p = refl
happens-begun Stopped p = refl
happens-begun (Started number now) p = refl
happens-begun (PassedOn number) p = refl
happens-begun (Heard number sess response now) p = heard-begun number sess response now p
happens-begun (TimedOut number sess response) p = if-begun (is_open_in number p) (ended_by number sess response p) p (as_begun p) (end-begun number sess response p) refl
happens-begun (Expired number) p = if-begun (is_open_in number p) (to_cancel number p) p (as_begun p) refl refl
happens-begun (Forwarded code) p = if-begun (is_final code && is_none p.forwarded) _ p (as_begun p) refl refl
happens-begun Rested p = refl

pub after-begun : (events : List ProxyEvent) (p : Proxy) → as_begun (proxy_after p events) ≡ as_begun p
unfolding proxy_after
after-begun [] p = refl
after-begun (event ∷ events) p = happens-begun event (proxy_after p events) ∙ after-begun events p

-- it has its number
pub after-req : (events : List ProxyEvent) (p : Proxy) → (proxy_after p events).req ≡ p.req
unfolding new_proxy
after-req events p = ap (λ (q : Proxy). q.req) (after-begun events p)

pub after-options : (events : List ProxyEvent) (p : Proxy) → (proxy_after p events).options ≡ p.options
unfolding new_proxy
after-options events p = ap (λ (q : Proxy). q.options) (after-begun events p)

pub after-append : (later earlier : List ProxyEvent) (p : Proxy) → proxy_after p (later ++ earlier) ≡ proxy_after (proxy_after p earlier) later
unfolding proxy_after
after-append [] earlier p = refl
after-append (event ∷ later) earlier p = ap (happens event) (after-append later earlier p)

-- ## Numbers of branches

-- the event leaves the numbers of branches, or starts one of a number above the first and up to the second, for a target that waits
unfoldable pub IsStep : ℕ → Proxy → ProxyEvent → ℕ → Type 0
IsStep low p (Asked uris) high = low ≤ high
IsStep low p Stopped high = low ≤ high
IsStep low p (Started number now) high = (low < number) × (number ≤ high) × (0 < length p.targets)
IsStep low p (PassedOn number) high = (low < number) × (number ≤ high)
IsStep low p (Heard number sess response now) high = low ≤ high
IsStep low p (TimedOut number sess response) high = low ≤ high
IsStep low p (Expired number) high = low ≤ high
IsStep low p (Forwarded code) high = low ≤ high
IsStep low p Rested high = low ≤ high

-- so does each of these events, the newest first
unfoldable pub IsRun : ℕ → Proxy → List ProxyEvent → ℕ → Type 0
IsRun low p [] high = low ≤ high
IsRun low p (event ∷ earlier) high = (mid : ℕ) × IsRun low p earlier mid × IsStep mid (proxy_after p earlier) event high

pub up-same : (n : ℕ) → n ≤ n
up-same n = omega arith

pub up-then : (a b c : ℕ) → a ≤ b → b ≤ c → a ≤ c
up-then a b c p q = omega (arith, p, q)

less-up : (a b c : ℕ) → a < b → b ≤ c → a ≤ c
less-up a b c p q = omega (arith, p, q)

step-higher : (low mid high : ℕ) (p : Proxy) (event : ProxyEvent) → mid ≤ high → IsStep low p event mid → IsStep low p event high
unfolding IsStep
step-higher low mid high p (Asked uris) up step = up-then low mid high step up
step-higher low mid high p Stopped up step = up-then low mid high step up
step-higher low mid high p (Started number now) up step = (step.0, up-then number mid high step.1 up, step.2)
step-higher low mid high p (PassedOn number) up step = (step.0, up-then number mid high step.1 up)
step-higher low mid high p (Heard number sess response now) up step = up-then low mid high step up
step-higher low mid high p (TimedOut number sess response) up step = up-then low mid high step up
step-higher low mid high p (Expired number) up step = up-then low mid high step up
step-higher low mid high p (Forwarded code) up step = up-then low mid high step up
step-higher low mid high p Rested up step = up-then low mid high step up

pub run-higher : (low mid high : ℕ) (p : Proxy) (events : List ProxyEvent) → mid ≤ high → IsRun low p events mid → IsRun low p events high
unfolding IsRun
run-higher low mid high p [] up run = up-then low mid high run up
run-higher low mid high p (event ∷ events) up run = (run.0, run.1, step-higher run.0 mid high (proxy_after p events) event up run.2)

pub run-lower : (low mid high : ℕ) (p : Proxy) (events : List ProxyEvent) → low ≤ mid → IsRun mid p events high → IsRun low p events high
unfolding IsRun
run-lower low mid high p [] up run = up-then low mid high up run
run-lower low mid high p (event ∷ events) up run = (run.0, run-lower low mid run.0 p events up run.1, run.2)

pub run-then : (low mid high : ℕ) (p : Proxy) (later earlier : List ProxyEvent) → IsRun low p earlier mid → IsRun mid (proxy_after p earlier) later high
    → IsRun low p (later ++ earlier) high
unfolding IsRun
run-then low mid high p [] earlier first run = run-higher low mid high p earlier run first
run-then low mid high p (event ∷ later) earlier first run =
    (run.0, run-then low mid run.0 p later earlier first run.1, subst (λ (q : Proxy). IsStep run.0 q event high) (sym (after-append later earlier p)) run.2)

-- so they go upward
step-up : (low high : ℕ) (p : Proxy) (event : ProxyEvent) → IsStep low p event high → low ≤ high
unfolding IsStep
step-up low high p (Asked uris) step = step
step-up low high p Stopped step = step
step-up low high p (Started number now) step = less-up low number high step.0 step.1
step-up low high p (PassedOn number) step = less-up low number high step.0 step.1
step-up low high p (Heard number sess response now) step = step
step-up low high p (TimedOut number sess response) step = step
step-up low high p (Expired number) step = step
step-up low high p (Forwarded code) step = step
step-up low high p Rested step = step

pub run-up : (low high : ℕ) (p : Proxy) (events : List ProxyEvent) → IsRun low p events high → low ≤ high
unfolding IsRun
run-up low high p [] run = run
run-up low high p (event ∷ events) run = up-then low run.0 high (run-up low run.0 p events run.1) (step-up run.0 high (proxy_after p events) event run.2)

-- ## The list is one of those that there are

-- the branches that these started are numbered up to this one
abbrev pub AreUpTo : ℕ → List ProxyEvent → Type 0
AreUpTo high events = All (λ (n : ℕ). n ≤ high) (started_of events)

all-none : (high : ℕ) (ns : List ℕ) → All (λ (n : ℕ). n ≤ high) ns → All (λ (n : ℕ). n ≤ high) (ns ++ [])
unfolding All
all-none high [] all = tt
all-none high (n ∷ ns) all = (all.0, all-none high ns all.1)

above-all : (low number : ℕ) (ns : List ℕ) → low < number → All (λ (n : ℕ). n ≤ low) ns → list_any (λ n. n == number) ns ≡ false
unfolding All
above-all low number [] less all = refl
above-all low number (n ∷ ns) less all = rw (apart n low number all.0 less, above-all low number ns less all.1) refl
  where
    apart : (n low number : ℕ) → n ≤ low → low < number → (n == number) ≡ false
    apart n low number p q = grind (arith, nat_tests, p, q)

left-over : (n : ℕ) (xs : List Uri) → 0 < length (drop n xs) → n < length xs
left-over zero xs some = some
left-over (suc n) [] some = absurd (omega (arith, some))
left-over (suc n) (x ∷ xs) some = next n (length xs) (left-over n xs some)
  where
    next : (a b : ℕ) → a < b → suc a < suc b
    next a b less = omega (arith, less)

module _ (q : Proxy) where
  raised : (low high : ℕ) (events : List ProxyEvent) → low ≤ high → AreUpTo low events → AreUpTo high events
  raised low high events up all = all-map (λ (n : ℕ). n ≤ low) (λ (n : ℕ). n ≤ high) (started_of events) (λ n is. up-then n low high is up) all

  raised-none : (low high : ℕ) (events : List ProxyEvent) → low ≤ high → AreUpTo low events → All (λ (n : ℕ). n ≤ high) (started_of events ++ [])
  raised-none low high events up all = all-none high (started_of events) (raised low high events up all)

  raised-one : (low high number : ℕ) (events : List ProxyEvent) → low < number → number ≤ high → AreUpTo low events
      → All (λ (n : ℕ). n ≤ high) (started_of events ++ number ∷ [])
  raised-one low high number events less up all =
      all-append (λ (n : ℕ). n ≤ high) (started_of events) number (raised low high events (under low number high less up) all) up
    where
      under : (a b c : ℕ) → a < b → b ≤ c → a ≤ c
      under a b c p r = omega (arith, p, r)

  waits : (events : List ProxyEvent) → IsHad (as_begun q) events → 0 < length (proxy_after (as_begun q) events).targets
      → taken_since events < length (added_since (as_begun q) events)
  unfolding targets_of
  waits events had some =
      left-over (taken_since events) (added_since (as_begun q) events) (subst (λ (us : List Uri). 0 < length us) (proxies-stand q.req q.sess q.event q.request q.options events had).targets some)

  had-step : (low high : ℕ) (event : ProxyEvent) (events : List ProxyEvent) → IsHad (as_begun q) events → AreUpTo low events
      → IsStep low (proxy_after (as_begun q) events) event high → IsHad (as_begun q) (event ∷ events) × AreUpTo high (event ∷ events)
  unfolding IsHad IsStep started_of started_by was_started
  had-step low high (Asked uris) events had all step = (had, raised-none low high events step all)
  had-step low high Stopped events had all step = (had, raised-none low high events step all)
  had-step low high (Started number now) events had all step =
      ((above-all low number (started_of events) step.0 all, waits events had step.2, had), raised-one low high number events step.0 step.1 all)
  had-step low high (PassedOn number) events had all step =
      ((above-all low number (started_of events) step.0 all, had), raised-one low high number events step.0 step.1 all)
  had-step low high (Heard number sess response now) events had all step = (had, raised-none low high events step all)
  had-step low high (TimedOut number sess response) events had all step = (had, raised-none low high events step all)
  had-step low high (Expired number) events had all step = (had, raised-none low high events step all)
  had-step low high (Forwarded code) events had all step = (had, raised-none low high events step all)
  had-step low high Rested events had all step = (had, raised-none low high events step all)

  pub had-run : (low high : ℕ) (later events : List ProxyEvent) → IsHad (as_begun q) events → AreUpTo low events
      → IsRun low (proxy_after (as_begun q) events) later high → IsHad (as_begun q) (later ++ events) × AreUpTo high (later ++ events)
  unfolding IsRun
  had-run low high [] events had all run = (had, raised low high events run all)
  had-run low high (event ∷ later) events had all run =
      let before = had-run low run.0 later events had all run.1 in
      had-step run.0 high event (later ++ events) before.0 before.1 (subst (λ (p : Proxy). IsStep run.0 p event high) (sym (after-append later events (as_begun q))) run.2)

  pub had-first : (low high : ℕ) (events : List ProxyEvent) → IsRun low (as_begun q) events high → IsHad (as_begun q) events × AreUpTo high events
  unfolding IsRun IsHad started_of All
  had-first low high [] run = (tt, tt)
  had-first low high (event ∷ events) run =
      let before = had-first low run.0 events run.1 in had-step run.0 high event events before.0 before.1 run.2
