use Rattle.std.proofs.Common.{◌≡◌, ◌++◌, ◌+◌, length}
use Rattle.std.specs.Prelude.{filter_map}
use Rattle.std.specs.Option.{option_copied, option_map_or}
use Rattle.sc_syntax.specs.Lines.{lines_behind}
use Rattle.sc_syntax.specs.Folds.{text_without_folds as joined}
use Rattle.sc_syntax.specs.Fronts.{field_of}
use Rattle.sc_stream.proofs.fields.fields_behind.Given as goal

abbrev pub invariant-loop-rest : goal.invariant-loop-rest
invariant-loop-rest l =
    l.fields ++ filter_map (λ line. field_of (joined line)) (lines_behind (option_copied l.rest)) ≡ filter_map (λ line. field_of (joined line)) (lines_behind (option_copied l.fn.rest))

abbrev pub decreases-loop-rest : goal.decreases-loop-rest
decreases-loop-rest l = option_map_or (λ t. length t + 1) (option_copied l.rest) 0
