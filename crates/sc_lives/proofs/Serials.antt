-- Sessions whose serials rise: what keeps them so, and that each is found by its serial.
use Rattle.std.proofs.Common.{◌≡◌, ℕ, ◌≤◌, ◌<◌, ◌+◌, ◌++◌, Bool, true, false, Some, List, [], ◌∷◌, All, refl, find, arith}
use Rattle.std.specs.Prelude.{◌==◌, cond}
use Rattle.std.proofs.lemmas.Bool.Decides.{nat_tests}
use Rattle.std.proofs.lemmas.List.Elements.{All-nil, All-cons}
use Rattle.sc_value.specs.Lists.{change_first, remove_first}
use Rattle.sc_state.specs.declared.host.Live.{Live}
use Rattle.sc_hosts.specs.Inboxes.{is_live}
use Rattle.sc_lives.specs.Numbers.{IsRising}

same-number : (n : ℕ) → (n == n) ≡ true
same-number n = grind (arith, nat_tests)

lower-number : (a b : ℕ) → a < b → (a == b) ≡ false
lower-number a b under = grind (arith, nat_tests, under)

module _ {S : Type 0} where
  -- from above a lower number
  lower-rising : (lives : List (Live S)) (low lower last : ℕ) → lower ≤ low → IsRising lives low last → IsRising lives lower last
  unfolding IsRising
  lower-rising [] low lower last under rising = omega (arith, under, rising)
  lower-rising (live ∷ lives) low lower last under rising = (omega (arith, under, rising.0), rising.1)

  -- either branch
  if-rising : (b : Bool) (xs ys : List (Live S)) (low last : ℕ) → IsRising xs low last → IsRising ys low last → IsRising (cond b xs ys) low last
  if-rising true xs ys low last p q = p
  if-rising false xs ys low last p q = q

  -- one more, with the serial after the last
  pub append-rising : (lives : List (Live S)) (low last : ℕ) (new : Live S) → new.serial ≡ last + 1 → IsRising lives low last → IsRising (lives ++ new ∷ []) low (last + 1)
  unfolding IsRising
  append-rising [] low last new next rising = (omega (arith, next, rising), omega (arith, next))
  append-rising (live ∷ lives) low last new next rising = (rising.0, append-rising lives live.serial last new next rising.1)

  -- one is changed, and keeps its serial
  pub change-rising : (lives : List (Live S)) (low last : ℕ) (test : Live S → Bool) (change : Live S → Live S) → ((live : Live S) → (change live).serial ≡ live.serial)
      → IsRising lives low last → IsRising (change_first test change lives) low last
  unfolding change_first IsRising
  change-rising [] low last test change same rising = rising
  change-rising (live ∷ lives) low last test change same rising =
      if-rising (test live) (change live ∷ lives) (live ∷ change_first test change lives) low last
      (rw (same live) rising) (rising.0, change-rising lives live.serial last test change same rising.1)

  -- one is taken out
  pub remove-rising : (lives : List (Live S)) (low last : ℕ) (test : Live S → Bool) → IsRising lives low last → IsRising (remove_first test lives) low last
  unfolding remove_first IsRising
  remove-rising [] low last test rising = rising
  remove-rising (live ∷ lives) low last test rising =
      if-rising (test live) lives (live ∷ remove_first test lives) low last
      (lower-rising lives live.serial low last (omega (arith, rising.0)) rising.1) (rising.0, remove-rising lives live.serial last test rising.1)

  -- ## Found by its serial

  abbrev IsAbove : ℕ → Live S → Type 0
  IsAbove low live = low < live.serial

  -- the first of its serial
  abbrev IsFoundIn : List (Live S) → Live S → Type 0
  IsFoundIn lives live = find (is_live live.serial) lives ≡ Some live

  -- the number is below all that rise from above it
  above-rising : (lives : List (Live S)) (low last : ℕ) → IsRising lives low last → All (IsAbove low) lives
  unfolding IsRising
  above-rising [] low last rising = All-nil (IsAbove low)
  above-rising (live ∷ lives) low last rising =
      All-cons (IsAbove low) live lives rising.0 (above-rising lives low last (lower-rising lives live.serial low last (omega (arith, rising.0)) rising.1))

  found-here : (live : Live S) (lives : List (Live S)) → IsFoundIn (live ∷ lives) live
  found-here live lives = rw (same-number live.serial) refl

  found-later : (live later : Live S) (lives : List (Live S)) → live.serial < later.serial → IsFoundIn lives later → IsFoundIn (live ∷ lives) later
  found-later live later lives above found = rw (lower-number live.serial later.serial above) found

  all-later : (live : Live S) (lives : List (Live S)) → All (IsAbove live.serial) lives → All (IsFoundIn lives) lives → All (IsFoundIn (live ∷ lives)) lives
  all-later live lives above found k d within = found-later live _ lives (above k d within) (found k d within)

  -- each is the first of its serial
  pub found-rising : (lives : List (Live S)) (low last : ℕ) → IsRising lives low last → All (λ live. find (is_live live.serial) lives ≡ Some live) lives
  unfolding IsRising
  found-rising [] low last rising = All-nil (IsFoundIn [])
  found-rising (live ∷ lives) low last rising =
      All-cons (IsFoundIn (live ∷ lives)) live lives (found-here live lives)
      (all-later live lives (above-rising lives live.serial last rising.1) (found-rising lives live.serial last rising.1))
