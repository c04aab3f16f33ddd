use Rattle.std.proofs.Common.{◌≡◌, ◌==◌, drop, ◌+◌}
use Rattle.std.specs.List.{position_or_len}
use Rattle.sc_console.proofs.cuts.blank_or_len.Given as goal

abbrev pub invariant-loop-i : goal.invariant-loop-i
invariant-loop-i l = l.i + position_or_len (λ b. b == 32) (drop l.i l.text) ≡ position_or_len (λ b. b == 32) l.text
