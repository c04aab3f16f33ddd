-- When a session timer is due, against its interval.
use Rattle.std.proofs.Common.{◌≡◌, ◌≤◌, ℕ, ◌+◌, ◌*◌, true, false, refl, arith}
use Rattle.sc_hosts.specs.SessionTimers.{deadline}

-- the refresh is due in time
pub refresh-early : (n : ℕ) → 90 ≤ n → deadline n true + 32000 ≤ 1000 * n
unfolding deadline
refresh-early n least = omega (arith, least)

-- the other side's is not, for 90 to 95 seconds
pub peer-late : ◌≡◌ {A = ℕ} (deadline 90 false + 30000) (1000 * 90)
unfolding deadline
peer-late = refl
