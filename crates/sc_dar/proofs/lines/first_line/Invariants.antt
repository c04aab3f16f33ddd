use Rattle.std.proofs.Common.{◌≡◌, ◌≤◌, ◌+◌, length}
use Rattle.sc_dar.specs.Lines.{lines, rows}
use Rattle.sc_dar.proofs.Rows.{behind_front, from_row}
use Rattle.sc_dar.proofs.lines.first_line.Given as goal

abbrev pub invariant-loop-front : goal.invariant-loop-front
invariant-loop-front l =
    (behind_front l.front l.above (from_row l.last (rows l.rest)) ≡ lines l.text) × (1 + l.above + length l.rest ≤ length l.text)

abbrev pub decreases-loop-front : goal.decreases-loop-front
decreases-loop-front l = length l.rest
