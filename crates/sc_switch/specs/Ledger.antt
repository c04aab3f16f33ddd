-- How many leases were given. This project's own.
use Rattle.std.specs.Prelude.{ℕ, ◌+◌, ◌≤◌, length}
use Rattle.sc_switch.specs.declared.refused.Committed.{Committed}
use Rattle.sc_switch.specs.declared.refused.Committed.TheVariants as committed
use Rattle.sc_switch.specs.Standing.{Known, whole}

-- the last lease number is at most the steps of all epochs, of which so many are of earlier ones,
-- the live leases, and so many answers `Other` together
abbrev pub IsCounted : ℕ → ℕ → Known → Type 0
IsCounted earlier others known =
    known.leases ≤ earlier + length (whole known) + length known.kept + others

-- an answer `Other` counts
unfoldable pub others_after : ℕ → Committed → ℕ
others_after others committed.Taken = others
others_after others (committed.Gone number) = others
others_after others (committed.Other number) = others + 1
