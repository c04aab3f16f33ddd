use Rattle.std.proofs.Common.{◌≡◌, ◌+◌, length}
use Rattle.std.specs.List.{fold}
use Rattle.std.specs.Option.{option_copied, option_map_or}
use Rattle.sc_syntax.specs.declared.ending.Ending.TheVariants.{Any}
use Rattle.sc_syntax.specs.Folds.{with_piece as continued}
use Rattle.sc_message_text.specs.Pieces.{pieces_behind}
use Rattle.sc_message_text.proofs.folds.continue_all.Given as goal

abbrev pub invariant-loop-rest : goal.invariant-loop-rest
invariant-loop-rest l = fold continued l.text.items (pieces_behind Any (option_copied l.rest)) ≡ fold continued l.fn.text.items (pieces_behind Any (option_copied l.fn.rest))

abbrev pub decreases-loop-rest : goal.decreases-loop-rest
decreases-loop-rest l = option_map_or (λ t. length t + 1) (option_copied l.rest) 0
