-- Only those proxied requests need to act that have something to do, where their numbers rise.
use Rattle.std.proofs.Common.{◌≡◌, ◌==◌, ◌<◌, ℕ, Bool, true, false, not, cond, ◌&&◌, T, Some, List, [], ◌∷◌, nat_lt, refl, ap, sym, subst, ◌∙◌, arith}
use Rattle.std.specs.List.{AllByRecursion, find, filter, fold}
use Rattle.std.proofs.lemmas.Bool.Decides.{nat_tests}
use Rattle.sc_terms.specs.declared.settings.Config.{Config}
use Rattle.sc_state.specs.declared.proxy.Proxy.{Proxy}
use Rattle.sc_state.specs.declared.working.Working.{Working}
use Rattle.sc_hosts.specs.Preparing.{proxy_of}
use Rattle.sc_hosts.specs.Acting.{acts, all_act}
use Rattle.sc_acting.specs.declared.quiet.Climb.{Climb}
use Rattle.sc_acting.specs.Quiet.{acting, are_rising, climbs, is_busy, is_quiet}
use Rattle.sc_acting.proofs.Beside.{acts_beside}
use Rattle.sc_acting.proofs.Still.{acts_same}

left : (a b : Bool) → (a && b) ≡ true → a ≡ true
left true b e = refl
left false b e = absurd (subst T (sym e) tt)

right : (a b : Bool) → (a && b) ≡ true → b ≡ true
right true b e = e
right false b e = absurd (subst T (sym e) tt)

each_more : {A : Type 0} (P Q : A → Type 0) → ((x : A) → P x → Q x) → (xs : List A) → AllByRecursion P xs → AllByRecursion Q xs
each_more P Q more [] all = tt
each_more P Q more (x ∷ xs) all = (more x all.0, each_more P Q more xs all.1)

both : {A : Type 0} (P Q R : A → Type 0) → ((x : A) → P x → Q x → R x) → (xs : List A) → AllByRecursion P xs → AllByRecursion Q xs → AllByRecursion R xs
both P Q R more [] ps qs = tt
both P Q R more (x ∷ xs) ps qs = (more x ps.0 qs.0, both P Q R more xs ps.1 qs.1)

-- ## Numbers that rise

-- no two have the same number
abbrev Apart : List Proxy → Type 0
Apart [] = Unit {0}
Apart (x ∷ xs) = AllByRecursion (λ (p : Proxy). (x.req.0 == p.req.0) ≡ false) xs × Apart xs

below : (a b : ℕ) → nat_lt a b ≡ true → a < b
below a b e = grind (arith, nat_tests, e)

other : (a b : ℕ) → a < b → (a == b) ≡ false
other a b lt = grind (arith, nat_tests, lt)

record Climbed (climb : Climb) (proxies : List Proxy) : Type 0 where
  rose : climb.rising ≡ true
  above : AllByRecursion (λ (p : Proxy). climb.last < p.req.0) proxies
  apart : Apart proxies

climbed : (climb : Climb) (proxies : List Proxy) → (fold climbs climb proxies).rising ≡ true → Climbed climb proxies
unfolding climbs
climbed climb [] rising = record { rose = rising; above = tt; apart = tt }
climbed climb (x ∷ xs) rising =
    let rest = climbed (climbs climb x) xs rising in
    let rose : climb.rising ≡ true = left climb.rising (nat_lt climb.last x.req.0) rest.rose in
    let lower : climb.last < x.req.0 = below climb.last x.req.0 (right climb.rising (nat_lt climb.last x.req.0) rest.rose) in
    record {
      rose = rose;
      above = (lower, each_more (λ (p : Proxy). x.req.0 < p.req.0) (λ (p : Proxy). climb.last < p.req.0) (λ p lt. omega (arith, lt, lower)) xs rest.above);
      apart = (each_more (λ (p : Proxy). x.req.0 < p.req.0) (λ (p : Proxy). (x.req.0 == p.req.0) ≡ false) (λ p lt. other x.req.0 p.req.0 lt) xs rest.above, rest.apart);
    }

rising_apart : (proxies : List Proxy) → are_rising proxies ≡ true → Apart proxies
unfolding are_rising
rising_apart proxies rising = (climbed (record { rising = true; last = 0 }) proxies rising).apart

-- ## Each is found by its number

itself : (a : ℕ) → (a == a) ≡ true
itself a = grind (arith, nat_tests)

each_found : (proxies : List Proxy) → Apart proxies → AllByRecursion (λ (p : Proxy). find (λ (q : Proxy). q.req.0 == p.req.0) proxies ≡ Some p) proxies
each_found [] apart = tt
each_found (x ∷ xs) apart = (
  ap (λ b. cond b (Some x) (find (λ (q : Proxy). q.req.0 == x.req.0) xs)) (itself x.req.0),
  both (λ (p : Proxy). (x.req.0 == p.req.0) ≡ false) (λ (p : Proxy). find (λ (q : Proxy). q.req.0 == p.req.0) xs ≡ Some p) (λ (p : Proxy). find (λ (q : Proxy). q.req.0 == p.req.0) (x ∷ xs) ≡ Some p)
      (λ p off found. ap (λ b. cond b (Some x) (find (λ (q : Proxy). q.req.0 == p.req.0) xs)) off ∙ found) xs apart.0 (each_found xs apart.1),
)

-- ## Only the busy ones

-- it is found as it is
abbrev Stands : Working → Proxy → Type 0
Stands w p = proxy_of w.known p.req ≡ Some p

busy_alone : (config : Config) (proxies : List Proxy) (w : Working) → Apart proxies → AllByRecursion (Stands w) proxies → fold (acts config) w (filter is_busy proxies) ≡ fold (acts config) w proxies
busy_alone config [] w apart stand = refl
busy_alone config (x ∷ xs) w apart stand =
    elim (is_quiet x) as (λ b. is_quiet x ≡ b → fold (acts config) w (cond (not b) (x ∷ filter is_busy xs) (filter is_busy xs)) ≡ fold (acts config) (acts config w x) xs) [
      | true ↦ λ quiet. busy_alone config xs w apart.1 stand.1 ∙ ap (λ v. fold (acts config) v xs) (sym (acts_same x quiet w stand.0 config))
      | false ↦ λ _. busy_alone config xs (acts config w x) apart.1
          (both (λ (p : Proxy). (x.req.0 == p.req.0) ≡ false) (Stands w) (Stands (acts config w x)) (λ p off stands. acts_beside p.req config w x off ∙ stands) xs apart.0 stand.1)
    ] refl

pub acting_all : (config : Config) (w : Working) → fold (acts config) w (acting w.known.proxies) ≡ all_act config w
unfolding acting all_act proxy_of
acting_all config w = by (are_rising w.known.proxies) refl
  where
    by : (b : Bool) → are_rising w.known.proxies ≡ b → fold (acts config) w (cond b (filter is_busy w.known.proxies) w.known.proxies) ≡ fold (acts config) w w.known.proxies
    by true rising = let apart = rising_apart w.known.proxies rising in busy_alone config w.known.proxies w apart (each_found w.known.proxies apart)
    by false _ = refl
