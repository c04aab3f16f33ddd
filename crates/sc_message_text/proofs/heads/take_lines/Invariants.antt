use Rattle.std.proofs.Common.{◌≡◌, ◌≤◌, ◌+◌, ◌^◌, length}
use Rattle.std.specs.Option.{option_copied, option_map_or}
use Rattle.sc_syntax.specs.declared.ending.Ending.TheVariants.{Unfolded}
use Rattle.sc_syntax.specs.Messages.{all_judged}
use Rattle.sc_message_text.specs.Pieces.{pieces_behind}
use Rattle.sc_message_text.proofs.heads.take_lines.Given as goal

abbrev pub invariant-loop-rest : goal.invariant-loop-rest
invariant-loop-rest l =
    (all_judged l.place l.left (pieces_behind Unfolded (option_copied l.rest)) ≡ all_judged l.fn.at l.fn.left (pieces_behind Unfolded (option_copied l.fn.rest)))
    × (option_map_or (λ t. l.place + length t) (option_copied l.rest) 0 ≤ 2 ^ 63)

abbrev pub decreases-loop-rest : goal.decreases-loop-rest
decreases-loop-rest l = option_map_or (λ t. length t + 1) (option_copied l.rest) 0
