-- When an item finds no room in a journal. This project's own.
use Rattle.std.specs.Prelude.{◌≡◌, ℕ, ◌+◌, ◌<◌, ◌⊎◌, length}
use Rattle.sc_journal.specs.declared.journal.PushRefused.{PushRefused}
use Rattle.sc_journal.specs.declared.journal.PushRefused.TheVariants.{Full, NoMemory}
use Rattle.sc_journal.specs.Kept.{Kept}

-- the journal has its most items, or with one of so many bytes would have more than its most bytes
abbrev pub IsFull : {T : Type 0} → Kept T → ℕ → Type 0
IsFull journal bytes =
    (length journal.items ≡ journal.most_items) ⊎ (journal.most_bytes < journal.used + bytes)

-- an item is refused as `Full` where the journal is full for it, and there alone
abbrev pub RefusesPush : {T : Type 0} → Kept T → T → ℕ → PushRefused T → Type 0
RefusesPush journal item bytes (Full back most_items most_bytes) =
    (back ≡ item) × (most_items ≡ journal.most_items) × (most_bytes ≡ journal.most_bytes)
    × IsFull journal bytes
RefusesPush journal item bytes (NoMemory back) = (back ≡ item) × (IsFull journal bytes → ⊥)
