use Rattle.std.proofs.Common.{◌≡◌, ◌+◌, drop}
use Rattle.sc_head_text.specs.Parts.{part_len}
use Rattle.sc_head_text.proofs.parts.scanned_len.Given as goal

abbrev pub invariant-loop-i : goal.invariant-loop-i
invariant-loop-i l = l.i + part_len l.sign l.scan (drop l.i l.text) ≡ part_len l.sign l.fn.at l.text
