-- Where hosts find that all branches of a proxied request have ended, its search is over by its list.
use Rattle.std.proofs.Common.{◌≡◌, ◌⊎◌, ℕ, suc, ◌++◌, Bool, true, false, Option, List, [], ◌∷◌, inl, inr, refl, sym, ap, ◌∙◌, arith}
use Rattle.std.specs.Prelude.{◌==◌, ◌&&◌, ◌||◌, cond, filter, is_none, length, map, not}
use Rattle.std.specs.List.{find, list_any}
use Rattle.std.specs.Option.{option_map_or}
use Rattle.std.proofs.lemmas.Bool.Decides.{nat_tests}
use Rattle.sc_value.specs.declared.ids.ReqId.{ReqId}
use Rattle.sc_value.specs.declared.ids.SessId.{SessId}
use Rattle.sc_value.specs.declared.message.Request.{Request}
use Rattle.sc_value.specs.declared.message.Response.{Response}
use Rattle.sc_terms.specs.declared.calls.ProxyOptions.{ProxyOptions}
use Rattle.sc_state.specs.declared.proxy.Branch.{Branch}
use Rattle.sc_state.specs.declared.proxy.Proxy.{Proxy}
use Rattle.sc_model.specs.SessionStates.{is_final}
use Rattle.sc_model.specs.Transactions.{is_success}
use Rattle.sc_hosts.specs.Acting.{at_rest as rested, with_forwarded}
use Rattle.sc_hosts.specs.Branches.{after_end, has_open, proxy_after_response as heard, is_branch, is_exhausted, is_open, new_proxy, passing_on, without_search as stopped, with_targets}
use Rattle.sc_proxied.specs.ProxyLists.{Asked, Expired, Forwarded, Heard, IsHad, IsOfList, PassedOn, ProxyEvent, Rested, Started, Stopped, TimedOut, happens, is_open_in, proxy_after, started_by, started_of}
use Rattle.sc_proxied.proofs.Happenings.{proxies-stand}
use Rattle.sc_searched.specs.Endings.{is_over}

-- ## A final response is of a branch that was started

-- no branch was started, and no final response came
record IsBare (p : Proxy) : Type 0 where
  branches : p.branches ≡ []
  heard : p.heard_final ≡ false

no-zero : (n : ℕ) → (suc n == 0) ≡ false
no-zero n = grind (arith, nat_tests)

clash : (h o t : Bool) → h ≡ false → ((h && not o) && t) ≡ true → ⊥
clash true o t none all = cc
clash false o t none all = cc

if-bare : (b : Bool) (x y : Proxy) → IsBare x → IsBare y → IsBare (cond b x y)
if-bare true x y p q = p
if-bare false x y p q = q

none-open : (number : ℕ) (p : Proxy) → p.branches ≡ [] → is_open_in number p ≡ false
none-open number p none = ap (λ (bs : List Branch). option_map_or is_open (find (is_branch number) bs) false) none

stopped-bare : (p : Proxy) → IsBare p → IsBare (stopped p)
unfolding stopped
stopped-bare p bare = record { branches = ap (map _) bare.branches; heard = bare.heard }

passing-bare : (sess : SessId) (response : Response) (p : Proxy) → IsBare p → IsBare (passing_on sess response p)
unfolding passing_on
passing-bare sess response p bare = record { branches = bare.branches; heard = bare.heard }

late-bare : (sess : SessId) (response : Response) (p : Proxy) → IsBare p → IsBare (after_end sess response p)
unfolding after_end
late-bare sess response p bare = if-bare (is_success response.code) (passing_on sess response (stopped p)) p (passing-bare sess response (stopped p) (stopped-bare p bare)) bare

abbrev StartedOr : Proxy → List ProxyEvent → Type 0
StartedOr p events = IsBare p ⊎ ((length (started_of events) == 0) ≡ false)

longer : (xs ys : List ℕ) → (length xs == 0) ≡ false → (length (xs ++ ys) == 0) ≡ false
longer [] ys some = cc
longer (x ∷ xs) ys some = no-zero (length (xs ++ ys))

no-last : (xs : List ℕ) (y : ℕ) → (length (xs ++ y ∷ []) == 0) ≡ false
no-last [] y = no-zero 0
no-last (x ∷ xs) y = no-zero (length (xs ++ y ∷ []))

-- what happens to one that is bare starts a branch, or leaves it so
module _ (p : Proxy) (bare : IsBare p) (events : List ProxyEvent) where
  heard-bare : (number : ℕ) (sess : SessId) (response : Response) (now : ℕ) → IsBare (heard number sess response now p)
  unfolding heard
  heard-bare number sess response now = rw (none-open number p bare.branches) (late-bare sess response p bare)

  bare-next : (event : ProxyEvent) → StartedOr (happens event p) (event ∷ events)
  unfolding happens with_targets with_forwarded rested started_of started_by
  bare-next (Asked uris) = inl (record { branches = bare.branches; heard = bare.heard })
  bare-next Stopped = inl (stopped-bare p bare)
  bare-next (Started number now) = inr (no-last (started_of events) number)
  bare-next (PassedOn number) = inr (no-last (started_of events) number)
  bare-next (Heard number sess response now) = inl (heard-bare number sess response now)
  bare-next (TimedOut number sess response) = inl (rw (none-open number p bare.branches) bare)
  bare-next (Expired number) = inl (rw (none-open number p bare.branches) bare)
  bare-next (Forwarded code) = inl (if-bare (is_final code && is_none p.forwarded) _ p (record { branches = bare.branches; heard = bare.heard }) bare)
  bare-next Rested = inl (record { branches = ap (map _) bare.branches; heard = refl })

next-or : (p : Proxy) (event : ProxyEvent) (events : List ProxyEvent) → StartedOr p events → StartedOr (happens event p) (event ∷ events)
unfolding started_of
next-or p event events (inl bare) = bare-next p bare events event
next-or p event events (inr some) = inr (longer (started_of events) _ some)

closed-none : (bs : List Branch) → list_any is_open bs ≡ false → (length (map (λ (b : Branch). b.number) (filter is_open bs)) == 0) ≡ true
closed-none [] closed = refl
closed-none (b ∷ bs) closed = by (is_open b) closed (closed-none bs)
  where
    by : (o : Bool) → (o || list_any is_open bs) ≡ false → (list_any is_open bs ≡ false → (length (map (λ (c : Branch). c.number) (filter is_open bs)) == 0) ≡ true)
        → (length (map (λ (c : Branch). c.number) (cond o (b ∷ filter is_open bs) (filter is_open bs))) == 0) ≡ true
    by true closed more = cc
    by false closed more = more closed

module _ (req : ReqId) (sess : SessId) (event : ℕ) (request : Request) (how : Option ProxyOptions) where
  abbrev first : Proxy
  first = new_proxy req sess event request how

  all-or : (events : List ProxyEvent) → StartedOr (proxy_after first events) events
  unfolding proxy_after new_proxy
  all-or [] = inl (record { branches = refl; heard = refl })
  all-or (event ∷ events) = next-or (proxy_after first events) event events (all-or events)

  -- what hosts look at says so
  over-by : (events : List ProxyEvent) → IsOfList first (proxy_after first events) events → StartedOr (proxy_after first events) events
      → (h o t : Bool) → (proxy_after first events).heard_final ≡ h → has_open (proxy_after first events) ≡ o → (length (proxy_after first events).targets == 0) ≡ t
      → ((h && not o) && t) ≡ true → is_over first events ≡ true
  unfolding is_over
  over-by events list (inl bare) h o t heard_is open_is targets_is all = absurd (clash h o t (sym heard_is ∙ bare.heard) all)
  over-by events list (inr some) true false true heard_is open_is targets_is all =
      rw (
        some,
        ← list.targets,
        targets_is,
        ← list.running,
        closed-none (proxy_after first events).branches open_is,
      ) refl
  over-by events list (inr some) true false false heard_is open_is targets_is all = cc
  over-by events list (inr some) true true t heard_is open_is targets_is all = cc
  over-by events list (inr some) false o t heard_is open_is targets_is all = cc

  pub exhausted-over : (events : List ProxyEvent) → IsHad first events → is_exhausted (proxy_after first events) ≡ true → is_over first events ≡ true
  unfolding is_exhausted
  exhausted-over events had all =
      over-by events (proxies-stand req sess event request how events had) (all-or events) (proxy_after first events).heard_final (has_open (proxy_after first events)) (length (proxy_after first events).targets == 0) refl refl refl all
