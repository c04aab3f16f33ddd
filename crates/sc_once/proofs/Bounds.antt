-- Rising numbers between two bounds.
use Rattle.std.proofs.Common.{◌≤◌, ℕ, ◌+◌, ◌++◌, List, [], ◌∷◌, arith}
use Rattle.sc_once.specs.Growing.{IsBetween}

pub bounds-rise : (ns : List ℕ) (low high : ℕ) → IsBetween ns low high → low ≤ high
unfolding IsBetween
bounds-rise [] low high is = is
bounds-rise (n ∷ ns) low high is = omega (arith, is.0, bounds-rise ns n high is.1)

pub from-lower : (ns : List ℕ) (lower low high : ℕ) → lower ≤ low → IsBetween ns low high → IsBetween ns lower high
unfolding IsBetween
from-lower [] lower low high under is = omega (arith, under, is)
from-lower (n ∷ ns) lower low high under is = (omega (arith, under, is.0), is.1)

pub to-higher : (ns : List ℕ) (low high higher : ℕ) → high ≤ higher → IsBetween ns low high → IsBetween ns low higher
unfolding IsBetween
to-higher [] low high higher under is = omega (arith, under, is)
to-higher (n ∷ ns) low high higher under is = (is.0, to-higher ns n high higher under is.1)

pub between-append : (ns : List ℕ) (ms : List ℕ) (low middle high : ℕ) → IsBetween ns low middle → IsBetween ms middle high → IsBetween (ns ++ ms) low high
unfolding IsBetween
between-append [] ms low middle high p q = from-lower ms low middle high p q
between-append (n ∷ ns) ms low middle high p q = (p.0, between-append ns ms n middle high p.1 q)

pub next-between : (n : ℕ) → IsBetween ((n + 1) ∷ []) n (n + 1)
unfolding IsBetween
next-between n = (omega arith, omega arith)

pub none-between : (n : ℕ) → IsBetween [] n n
unfolding IsBetween
none-between n = omega arith

pub more-between : (n : ℕ) → IsBetween [] n (n + 1)
unfolding IsBetween
more-between n = omega arith
