use Rattle.std.proofs.Common.{◌≡◌}
use Rattle.std.specs.List.{flat_map, range_with_len}
use Rattle.sc_model.specs.Generated.{call_text}
use Rattle.sc_make.proofs.calls.calls.Given as goal

abbrev pub invariant-loop-i : goal.invariant-loop-i
invariant-loop-i l = l.text ≡ flat_map call_text (range_with_len 1 l.i)
