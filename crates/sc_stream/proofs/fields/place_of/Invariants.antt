use Rattle.std.proofs.Common.{◌≡◌, ◌+◌, drop}
use Rattle.std.specs.List.{position_or_len}
use Rattle.sc_stream.specs.Fields.{is_of}
use Rattle.sc_stream.proofs.fields.place_of.Given as goal

abbrev pub invariant-loop-i : goal.invariant-loop-i
invariant-loop-i l = l.i + position_or_len (is_of l.name) (drop l.i l.fields) ≡ position_or_len (is_of l.name) l.fields
