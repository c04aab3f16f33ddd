use Rattle.std.proofs.Common.{◌≡◌, ◌≤◌, ◌-◌, length, take}
use Rattle.std.specs.List.{suffix_len}
use Rattle.sc_tokens.specs.Tokens.{is_blank}
use Rattle.sc_ascii.proofs.blanks.front_len.Given as goal

abbrev pub invariant-loop-len : goal.invariant-loop-len
invariant-loop-len l = (l.len - suffix_len is_blank (take l.len l.text) ≡ length l.text - suffix_len is_blank l.text) × (l.len ≤ length l.text)

abbrev pub decreases-loop-len : goal.decreases-loop-len
decreases-loop-len l = l.len
