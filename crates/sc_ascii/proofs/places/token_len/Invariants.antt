use Rattle.std.proofs.Common.{◌≡◌, not, drop, ◌+◌}
use Rattle.std.specs.List.{position_or_len}
use Rattle.sc_tokens.specs.Tokens.{is_token_byte}
use Rattle.sc_ascii.proofs.places.token_len.Given as goal

abbrev pub invariant-loop-i : goal.invariant-loop-i
invariant-loop-i l = l.i + position_or_len (λ b. not (is_token_byte b)) (drop l.i l.text) ≡ position_or_len (λ b. not (is_token_byte b)) l.text
