-- The host that an own URI names is that of the session which it names, and it is found where that lives.
use Rattle.std.proofs.Common.{◌≡◌, ◌≤◌, ℕ, zero, suc, ◌+◌, ◌^◌, Bool, true, false, Option, None, Some, List, [], ◌∷◌, length, refl, sym, ap, subst, ◌∙◌, arith}
use Rattle.std.specs.Prelude.{cond, is_some, slice_get}
use Rattle.sc_value.specs.declared.ids.AppId.{AppId}
use Rattle.sc_value.specs.declared.parts.Uri.{Uri}
use Rattle.sc_state.specs.Hosts.{Host}
use Rattle.sc_state.specs.declared.net.Net.{Net}
use Rattle.sc_model.specs.Names.{IsOf64}
use Rattle.sc_hosts.specs.Nets.{host_at, has_named, named_from, named_host}
use Rattle.sc_hosts.specs.Taking.{names, named_live}
use Rattle.sc_reached.proofs.Naming.{named-here}
use Rattle.sc_reached.specs.Reached.{AllSmall}

some-step : (k : ℕ) (b : Bool) (later : Option ℕ) → is_some later ≡ true → is_some (cond b (Some k) later) ≡ true
some-step k true later is = refl
some-step k false later is = is

some-here : (k : ℕ) (b : Bool) (later : Option ℕ) → b ≡ true → is_some (cond b (Some k) later) ≡ true
some-here k true later is = refl
some-here k false later is = cc

found-by : (found : Option ℕ) → is_some found ≡ true → (number : ℕ) → ((n : ℕ) → found ≡ Some n → n ≡ number)
    → found ≡ Some number
found-by None some number each = cc
found-by (Some n) some number each = ap (λ m. Some m) (each n refl)

module _ {S : Type 0} (epoch : ℕ) (app : AppId) (uri : Uri) (within : IsOf64 epoch app 0) (named : names epoch app uri ≡ true) where
  here-step : (host : Host S) (hosts : List (Host S)) (k n : ℕ) (b : Bool) → (b ≡ true → k ≡ app.host)
      → (named_from epoch uri (k + 1) hosts ≡ Some n → n ≡ app.host)
      → cond b (Some k) (named_from epoch uri (k + 1) hosts) ≡ Some n → n ≡ app.host
  here-step host hosts k n true here later is = let same : k ≡ n = cc in sym same ∙ here refl
  here-step host hosts k n false here later is = later is

  -- no other host is found
  from-is : (hosts : List (Host S)) (k n : ℕ) → k + length hosts ≤ 2 ^ 64 → AllSmall hosts
      → named_from epoch uri k hosts ≡ Some n → n ≡ app.host
  unfolding named_from has_named
  from-is [] k n under small is = cc
  from-is (host ∷ hosts) k n under small is =
      here-step host hosts k n (is_some (named_live epoch k uri host))
      (λ some. named-here epoch app uri k host within (omega (arith, under)) small.0 named (named_live epoch k uri host) refl some)
      (from-is hosts (k + 1) n (omega (arith, under)) small.1) is

  -- where a host has it, some host is found
  from-some : (hosts : List (Host S)) (k i : ℕ) (host : Host S) → slice_get hosts i ≡ Some host
      → is_some (named_live epoch (k + i) uri host) ≡ true → is_some (named_from epoch uri k hosts) ≡ true
  unfolding named_from has_named
  from-some [] k i host at some = cc
  from-some (first ∷ hosts) k zero host at some =
      let same : first ≡ host = cc in
      let place : ◌≡◌ {A = ℕ} (k + 0) k = omega arith in
      some-here k _ (named_from epoch uri (k + 1) hosts) (rw same (subst (λ (n : ℕ). is_some (named_live epoch n uri host) ≡ true) place some))
  from-some (first ∷ hosts) k (suc i) host at some =
      let place : ◌≡◌ {A = ℕ} (k + suc i) (k + 1 + i) = omega arith in
      some-step k _ (named_from epoch uri (k + 1) hosts) (from-some hosts (k + 1) i host at (subst (λ (n : ℕ). is_some (named_live epoch n uri host) ≡ true) place some))

  -- where the session lives, its host is found
  pub named_host-is : (net : Net S) (host : Host S) → net.epoch ≡ epoch → length net.hosts ≤ 2 ^ 64 → AllSmall net.hosts
      → host_at app.host net ≡ Some host
      → is_some (named_live epoch app.host uri host) ≡ true → named_host uri net ≡ Some app.host
  unfolding named_host
  named_host-is net host same under small at some =
      let place : ◌≡◌ {A = ℕ} app.host (0 + app.host) = omega arith in
      rw same (found-by (named_from epoch uri 0 net.hosts) (from-some net.hosts 0 app.host host at (subst (λ (n : ℕ). is_some (named_live epoch n uri host) ≡ true) place some)) app.host (λ n is. from-is net.hosts 0 n (omega (arith, under)) small is))
