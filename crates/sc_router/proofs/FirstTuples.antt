-- The first 64 items of a list.
use Rattle.std.proofs.Common.{◌≡◌, List, ◌≤◌, ◌<◌, length, take, sym, arith}
use Rattle.std.proofs.lemmas.List.{take_all, length-take-le}

pub few : {X : Type 0} (xs : List X) → length xs ≤ 64 → xs ≡ take 64 xs
few xs h = sym (take_all 64 xs h)

pub many : {X : Type 0} (xs : List X) → 64 < length xs → length (take 64 xs) ≡ 64
many xs h = length-take-le 64 xs (omega (arith, h))
