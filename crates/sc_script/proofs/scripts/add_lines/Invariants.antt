use Rattle.std.proofs.Common.{◌≤◌, ◌-◌, length}
use Rattle.sc_script.proofs.ScriptLines.{IsSoFar}
use Rattle.sc_script.proofs.scripts.add_lines.Given as goal

abbrev pub invariant-loop-at : goal.invariant-loop-at
invariant-loop-at l = IsSoFar l.bytes l.lines l.at l.since × (l.at ≤ length l.bytes)

abbrev pub decreases-loop-at : goal.decreases-loop-at
decreases-loop-at l = length l.bytes - l.at
