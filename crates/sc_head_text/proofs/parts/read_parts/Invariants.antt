use Rattle.std.proofs.Common.{◌≡◌, ◌+◌, length}
use Rattle.std.specs.Option.{option_copied, option_map_or}
use Rattle.sc_syntax.specs.Scanning.{all_read}
use Rattle.sc_head_text.specs.Parts.{parts_behind}
use Rattle.sc_head_text.proofs.LineParts.{AreLines}
use Rattle.sc_head_text.proofs.PartSteps.{behind}
use Rattle.sc_head_text.proofs.parts.read_parts.Given as goal

abbrev pub invariant-loop-rest : goal.invariant-loop-rest
invariant-loop-rest g l =
    (behind l.items (all_read g.T.Readable.read_of (parts_behind l.start l.sign (option_copied l.rest))) ≡ all_read g.T.Readable.read_of (parts_behind l.start l.sign (option_copied l.fn.text)))
    × AreLines (parts_behind l.start l.sign (option_copied l.rest))

abbrev pub decreases-loop-rest : goal.decreases-loop-rest
decreases-loop-rest g l = option_map_or (λ t. length t + 1) (option_copied l.rest) 0
