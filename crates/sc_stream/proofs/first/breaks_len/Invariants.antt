use Rattle.std.proofs.Common.{◌≡◌, ◌≤◌, ◌-◌, length, drop}
use Rattle.sc_syntax.specs.Fronts.{behind_breaks}
use Rattle.sc_stream.proofs.first.breaks_len.Given as goal

abbrev pub invariant-loop-place : goal.invariant-loop-place
invariant-loop-place l = (behind_breaks (drop l.place l.text) ≡ behind_breaks l.text) × (l.place ≤ length l.text)

abbrev pub decreases-loop-place : goal.decreases-loop-place
decreases-loop-place l = length l.text - l.place
