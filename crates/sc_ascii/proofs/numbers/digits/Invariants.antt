use Rattle.std.proofs.Common.{◌≡◌, ◌<◌, ◌^◌, drop}
use Rattle.sc_ascii.specs.Digits.{digits_after}
use Rattle.sc_ascii.proofs.numbers.digits.Given as goal

abbrev pub invariant-loop-i : goal.invariant-loop-i
invariant-loop-i l = (l.number < 2 ^ 64) × (digits_after l.number (drop l.i l.b) ≡ digits_after 0 l.b)
