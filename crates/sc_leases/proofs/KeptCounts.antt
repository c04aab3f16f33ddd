-- How many leases are kept once one ends: one less, and at most one less where a session ends.
use Rattle.std.proofs.Common.{◌≡◌, ◌≤◌, ◌<◌, ℕ, suc, ◌+◌, Bool, true, false, Some, List, [], ◌∷◌, refl, ap, arith, length}
use Rattle.std.specs.Prelude.{◌==◌, ◌&&◌, cond, not, filter}
use Rattle.std.specs.List.{find, list_any}
use Rattle.std.proofs.lemmas.Bool.Decides.{nat_tests}
use Rattle.sc_value.specs.declared.ids.AppId.{AppId}
use Rattle.sc_parts.specs.declared.setup.Setup.{Setup}
use Rattle.sc_state.specs.declared.net.Net.{Net}
use Rattle.sc_servlets.specs.declared.lease.Lease.{Lease}
use Rattle.sc_hosts.specs.Sessions.{Form}
use Rattle.sc_hosts.specs.Transacting.{is_same_app}
use Rattle.sc_leases.proofs.KeptLeases.{first-not, later-not, neither}
use Rattle.sc_leases.specs.Leases.{has_number, is_of, is_leased, has_other_number, without_number, is_of_other, without_app, AreLeases}

-- numbers above the one that is looked for
above-apart : (n low number : ℕ) → low < number → n ≤ low → (number == n) ≡ false
above-apart n low number over under = grind (arith, nat_tests, over, under)

same-number : (n number : ℕ) → (number == n) ≡ true → n ≤ number
same-number n number is = grind (arith, nat_tests, is)

-- where none is of the session all stay
none-of-app : (kept : List Lease) (app : AppId) → is_leased kept app ≡ false → length (without_app app kept) ≡ length kept
unfolding is_leased without_app is_of_other
none-of-app [] app none = refl
none-of-app (lease ∷ kept) app none =
    rw (first-not (is_same_app lease.app app) (list_any (is_of app) kept) none) (ap suc (none-of-app kept app (later-not (is_same_app lease.app app) (list_any (is_of app) kept) none)))

same-other : (a b c d e f : ℕ) → (a == c && b == d) ≡ true → (e == a && f == b) ≡ false → (e == c && f == d) ≡ false
same-other a b c d e f same other = grind (arith, nat_tests, same, other)

moved-app : (kept : List Lease) (a b : AppId) → is_same_app a b ≡ true → is_leased kept a ≡ false → is_leased kept b ≡ false
unfolding is_leased
moved-app [] a b same none = refl
moved-app (lease ∷ kept) a b same none =
    neither (is_same_app lease.app b) (list_any (is_of b) kept) (same-other a.host a.serial b.host b.serial lease.app.host lease.app.serial same (first-not (is_same_app lease.app a) (list_any (is_of a) kept) none))
    (moved-app kept a b same (later-not (is_same_app lease.app a) (list_any (is_of a) kept) none))

module _ {S : Type 0} (form : Form S) (setup : Setup) where
  all-above : (net : Net S) (kept : List Lease) (low last n : ℕ) → AreLeases form setup net kept low last → n ≤ low → without_number n kept ≡ kept
  unfolding AreLeases without_number has_other_number
  all-above net [] low last n are under = refl
  all-above net (lease ∷ kept) low last n are under =
      rw (above-apart n low lease.number are.1 under) (ap (λ ls. lease ∷ ls) (all-above net kept lease.number last n are.3 (omega (arith, are.1, under))))

  ended-step : (net : Net S) (first : Lease) (kept : List Lease) (last n : ℕ) (lease : Lease) (b : Bool) → (first.number == n) ≡ b → AreLeases form setup net kept first.number last
      → (find (has_number n) kept ≡ Some lease → length kept ≡ length (filter (has_other_number n) kept) + 1) → cond b (Some first) (find (has_number n) kept) ≡ Some lease
      → length (first ∷ kept) ≡ length (cond (not b) (first ∷ filter (has_other_number n) kept) (filter (has_other_number n) kept)) + 1
  unfolding without_number has_other_number
  ended-step net first kept last n lease true at are later found = rw (all-above net kept first.number last n are (same-number n first.number at)) (omega arith)
  ended-step net first kept last n lease false at are later found = let l = later found in omega (arith, l)

  -- a lease that ends is one less
  pub one-fewer : (net : Net S) (kept : List Lease) (low last n : ℕ) (lease : Lease) → AreLeases form setup net kept low last → find (has_number n) kept ≡ Some lease → length kept ≡ length (without_number n kept) + 1
  unfolding AreLeases without_number has_other_number
  one-fewer net [] low last n lease are found = cc
  one-fewer net (first ∷ kept) low last n lease are found = ended-step net first kept last n lease (first.number == n) refl are.3 (one-fewer net kept first.number last n lease are.3) found

  app-step : (first : Lease) (kept : List Lease) (app : AppId) (b : Bool) → (b ≡ true → length (filter (is_of_other app) kept) ≡ length kept) → length kept ≤ length (filter (is_of_other app) kept) + 1
      → length (first ∷ kept) ≤ length (cond (not b) (first ∷ filter (is_of_other app) kept) (filter (is_of_other app) kept)) + 1
  app-step first kept app true all later = omega (arith, all refl)
  app-step first kept app false all later = omega (arith, later)

  -- a session that ends has at most one
  pub app-fewer : (net : Net S) (kept : List Lease) (low last : ℕ) (app : AppId) → AreLeases form setup net kept low last → length kept ≤ length (without_app app kept) + 1
  unfolding AreLeases without_app is_of_other is_leased
  app-fewer net [] low last app are = omega arith
  app-fewer net (first ∷ kept) low last app are =
      app-step first kept app (is_same_app first.app app) (λ same. none-of-app kept app (moved-app kept first.app app same are.2)) (app-fewer net kept first.number last app are.3)
