-- The ranges of settings. This project's own.
use Rattle.std.specs.Prelude.{ℤ, pos, negsuc, Bool, ◌==◌, ◌&&◌, List, length, nat_le}

-- -1 to 10,080 minutes
unfoldable pub is_expiry : ℤ → Bool
is_expiry (pos n) = nat_le n 10080
is_expiry (negsuc n) = n == 0

-- 1 to 64 of them
unfoldable pub are_few : {A : Type 0} → List A → Bool
are_few items = nat_le 1 (length items) && nat_le (length items) 64
