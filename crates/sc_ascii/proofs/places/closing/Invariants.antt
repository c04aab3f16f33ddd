use Rattle.std.proofs.Common.{◌≡◌, ◌-◌, length}
use Rattle.sc_tokens.specs.Quoted.{closing}
use Rattle.sc_ascii.proofs.Closings.{closing_from}
use Rattle.sc_ascii.proofs.places.closing.Given as goal

abbrev pub invariant-loop-i : goal.invariant-loop-i
invariant-loop-i l = closing_from l.i l.text ≡ closing l.text

abbrev pub decreases-loop-i : goal.decreases-loop-i
decreases-loop-i l = length l.text - l.i
