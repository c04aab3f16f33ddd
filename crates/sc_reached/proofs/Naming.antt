-- An own URI names one session.
use Rattle.std.proofs.Common.{◌≡◌, ◌<◌, ℕ, ◌^◌, Bool, true, false, Option, None, Some, List, [], ◌∷◌, refl, sym, ap, ◌∙◌, arith}
use Rattle.std.specs.Prelude.{◌==◌, cond, is_some}
use Rattle.std.specs.List.{find}
use Rattle.std.specs.Option.{option_map_or}
use Rattle.std.proofs.lemmas.Bool.Decides.{nat_tests}
use Rattle.sc_value.specs.declared.ids.AppId.{AppId}
use Rattle.sc_value.specs.declared.parts.Uri.{Uri}
use Rattle.sc_tokens.specs.Names.{same_bytes}
use Rattle.sc_state.specs.Hosts.{Host}
use Rattle.sc_state.specs.declared.host.Live.{Live}
use Rattle.sc_tokens.specs.Bytes.{Bytes}
use Rattle.sc_model.specs.Names.{IsOf64, ap_value}
use Rattle.sc_model.proofs.Names.{ap_same}
use Rattle.sc_hosts.specs.Inboxes.{is_live}
use Rattle.sc_hosts.specs.Taking.{ap_of, names, is_named_live, named_live}
use Rattle.sc_hosts.proofs.Deliveries.{same_bytes-equal}
use Rattle.sc_reached.specs.Reached.{AreSmall}

one-text : (x y : Bytes) (found : Option Bytes) → option_map_or (same_bytes x) found false ≡ true
    → option_map_or (same_bytes y) found false ≡ true → x ≡ y
one-text x y None p q = cc
one-text x y (Some t) p q = same_bytes-equal x t p ∙ sym (same_bytes-equal y t q)

-- two sessions that it names are one
pub names-one : (epoch : ℕ) (a b : AppId) (uri : Uri) → IsOf64 epoch a 0 → IsOf64 epoch b 0 → names epoch a uri ≡ true
    → names epoch b uri ≡ true → a ≡ b
unfolding names
names-one epoch a b uri within_a within_b p q = (ap_same epoch epoch a b within_a within_b (one-text (ap_value epoch a) (ap_value epoch b) (ap_of uri) p q)).1

same-test : (a b : ℕ) (t : Bool) → (t ≡ true → a ≡ b) → (a ≡ b → t ≡ true) → t ≡ (a == b)
same-test a b true f g = sym (both a b (f refl))
  where
    both : (a b : ℕ) → a ≡ b → (a == b) ≡ true
    both a b same = grind (arith, nat_tests, same)
same-test a b false f g = sym (other a b (a == b) refl (λ same. false-true (g same)))
  where
    false-true : false ≡ true → ⊥
    false-true is = cc

    equal : (a b : ℕ) → (a == b) ≡ true → a ≡ b
    equal a b is = grind (arith, nat_tests, is)

    other : (a b : ℕ) (t : Bool) → (a == b) ≡ t → (a ≡ b → ⊥) → (a == b) ≡ false
    other a b true is no_same = absurd (no_same (equal a b is))
    other a b false is no_same = is

module _ {S : Type 0} where
  live-test : (epoch number serial : ℕ) (uri : Uri) (live : Live S)
      → IsOf64 epoch (record { host = number; serial = serial }) 0 → live.serial < 2 ^ 64
      → names epoch (record { host = number; serial = serial }) uri ≡ true
      → is_named_live epoch number uri live ≡ is_live serial live
  unfolding is_named_live
  live-test epoch number serial uri live within small named =
      same-test live.serial serial (names epoch (record { host = number; serial = live.serial }) uri)
      (λ is. ap (λ (a : AppId). a.serial) (names-one epoch (record { host = number; serial = live.serial }) (record { host = number; serial = serial }) uri (within.0, within.1, small, within.3) within is named))
      (λ same. rw same named)

  find-named : (lives : List (Live S)) (epoch number serial : ℕ) (uri : Uri)
      → IsOf64 epoch (record { host = number; serial = serial }) 0 → AreSmall lives
      → names epoch (record { host = number; serial = serial }) uri ≡ true
      → find (is_named_live epoch number uri) lives ≡ find (is_live serial) lives
  find-named [] epoch number serial uri within small named = refl
  find-named (live ∷ lives) epoch number serial uri within small named =
      rw (live-test epoch number serial uri live within small.0 named, find-named lives epoch number serial uri within small.1 named) refl

  found-test : (lives : List (Live S)) (p : Live S → Bool) (live : Live S) (b : Bool) (first : Live S) → p first ≡ b
      → (find p lives ≡ Some live → p live ≡ true) → cond b (Some first) (find p lives) ≡ Some live → p live ≡ true
  found-test lives p live true first is later found = let same : first ≡ live = cc in rw (← same) is
  found-test lives p live false first is later found = later found

  found-true : (lives : List (Live S)) (p : Live S → Bool) (live : Live S) → find p lives ≡ Some live → p live ≡ true
  found-true [] p live found = cc
  found-true (first ∷ lives) p live found = found-test lives p live (p first) first refl (found-true lives p live) found

  found-small : (lives : List (Live S)) (p : Live S → Bool) (live : Live S) → AreSmall lives → find p lives ≡ Some live
      → live.serial < 2 ^ 64
  found-small [] p live small found = cc
  found-small (first ∷ lives) p live small found = small-test lives p live (p first) first small.0 (found-small lives p live small.1) found
    where
      small-test : (lives : List (Live S)) (p : Live S → Bool) (live : Live S) (b : Bool) (first : Live S)
          → first.serial < 2 ^ 64 → (find p lives ≡ Some live → live.serial < 2 ^ 64)
          → cond b (Some first) (find p lives) ≡ Some live → live.serial < 2 ^ 64
      small-test lives p live true first is later found = let same : first ≡ live = cc in rw (← same) is
      small-test lives p live false first is later found = later found

  -- at its host the live session that it names is the one of its serial
  pub named_live-is : (epoch number serial : ℕ) (uri : Uri) (host : Host S)
      → IsOf64 epoch (record { host = number; serial = serial }) 0 → AreSmall host.sessions
      → names epoch (record { host = number; serial = serial }) uri ≡ true
      → named_live epoch number uri host ≡ find (is_live serial) host.sessions
  unfolding named_live
  named_live-is epoch number serial uri host within small named = find-named host.sessions epoch number serial uri within small named

  pub named-here : (epoch : ℕ) (app : AppId) (uri : Uri) (number : ℕ) (host : Host S) → IsOf64 epoch app 0
      → number < 2 ^ 64 → AreSmall host.sessions → names epoch app uri ≡ true
      → (found : Option (Live S)) → named_live epoch number uri host ≡ found → is_some found ≡ true → number ≡ app.host
  unfolding named_live is_named_live
  named-here epoch app uri number host within under small named None is some = cc
  named-here epoch app uri number host within under small named (Some live) is some =
      ap (λ (a : AppId). a.host) (names-one epoch (record { host = number; serial = live.serial }) app uri (within.0, under, found-small host.sessions (is_named_live epoch number uri) live small is, within.3) within
      (found-true host.sessions (is_named_live epoch number uri) live is) named)
