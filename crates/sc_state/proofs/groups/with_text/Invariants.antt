use Rattle.std.proofs.Common.{◌≡◌, take}
use Rattle.std.specs.List.{fold}
use Rattle.sc_state.specs.Groups.{with_byte}
use Rattle.sc_state.proofs.groups.with_text.Given as goal

abbrev pub invariant-loop-byte : goal.invariant-loop-byte
invariant-loop-byte l = l.number ≡ fold with_byte l.fn.number (take l.byte-index l.text)
