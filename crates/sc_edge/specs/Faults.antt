-- Counts that stay at their greatest value, 2^64 - 1, and calls that are to fail. This project's
-- own.
use Rattle.std.specs.Prelude.{◌≡◌, ℕ, ◌+◌, ◌-◌, ◌^◌, ◌<◌, ◌≤◌, ◌⊎◌, min, List, Bool, if◌then◌else◌}
use Rattle.std.proofs.Common.{inl, inr, arith}
use Rattle.std.specs.List.{list_any}
use Rattle.std.specs.Bool.{nat_eq}

-- a count of faults rose, or it stands at its greatest value
abbrev pub Rose : ℕ → ℕ → Type 0
Rose old new = (old < new) ⊎ (new ≡ 18446744073709551615)

-- a rise after a time in which the count didn't fall
pub Rose_after : (a b c : ℕ) → a ≤ b → Rose b c → Rose a c
Rose_after a b c later (inl rose) = inl (omega arith)
Rose_after a b c later (inr most) = inr most

-- a count that stands at its greatest value
most_or_more : (a c : ℕ) → a ≤ 18446744073709551615 → 18446744073709551615 ≤ c → Rose a c
most_or_more a c low high = grind arith

-- the count after one more
abbrev pub one_more : ℕ → ℕ
one_more count = min (count + 1) (2 ^ 64 - 1)

-- the count after one more, also where it isn't known to fit
abbrev pub risen : ℕ → ℕ
risen count = if nat_eq count 18446744073709551615 then count else (count + 1)

-- whether the call of this number is to fail
abbrev pub is_listed : List ℕ → ℕ → Bool
is_listed failing number = list_any (λ n. nat_eq n number) failing
