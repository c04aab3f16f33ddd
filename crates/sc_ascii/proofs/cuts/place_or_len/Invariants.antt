use Rattle.std.proofs.Common.{◌≡◌, ◌==◌, drop, ◌+◌}
use Rattle.std.specs.List.{position_or_len}
use Rattle.sc_ascii.proofs.cuts.place_or_len.Given as goal

abbrev pub invariant-loop-i : goal.invariant-loop-i
invariant-loop-i l = l.i + position_or_len (λ b. b == l.sign) (drop l.i l.text) ≡ position_or_len (λ b. b == l.sign) l.text
